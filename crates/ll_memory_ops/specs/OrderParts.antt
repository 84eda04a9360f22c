-- The orders of atomic instructions, and the threads among which they hold (LLVM 14, Atomic Memory Ordering Constraints).
use Rattle.std.specs.Prelude.{◌≡◌, ℕ, List, codes, Option, None}
use Rattle.ll_parser.specs.GrammarInsts.{order, order_word, scope}
use Rattle.ll_parser.specs.GrammarItems.{any_text}
use Rattle.ll_parser.specs.Productions.{Production, ◌>>◌, word}
use Rattle.ll_parser.specs.Reading.{EndsNowhere}
use Rattle.ll_parser.specs.Spaces.{IsUnexpected}
use Rattle.ll_operands.specs.Parts.{Part, mark_part, one_word, optional, ◌then◌, word_part}
use Rattle.ll_memory_ops.specs.declared.orders.ScopedOrder.{ScopedOrder}

abbrev pub text_part : Part
text_part = record { begins = any_text; stops = IsUnexpected any_text }

-- `syncscope` and a text between `(`, 40, and `)`, 41
abbrev pub written_scope_part : Part
written_scope_part = word_part (codes "syncscope") then mark_part 40 then text_part then mark_part 41

abbrev pub scope_part : Part
scope_part = optional (word (codes "syncscope")) written_scope_part

-- a scope where one is written: no `syncscope` stands where none is
abbrev pub scope_here : Option (List ℕ) → Production
scope_here text tokens rest = scope text tokens rest × (text ≡ None → EndsNowhere (word (codes "syncscope")) tokens)

abbrev pub order_part : Part
order_part = one_word order_word

-- a scope where one is written, and an order
abbrev pub scoped_order : ScopedOrder → Production
scoped_order o = scope o.scope >> order o.order

abbrev pub scoped_order_part : Part
scoped_order_part = scope_part then order_part
