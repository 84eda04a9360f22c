-- Scopes and orders as they are read: what each exit of a reader answers.
use Rattle.std.proofs.Common.{◌≡◌, ℕ, List, codes, length, Option, None, Some, refl, sym, subst, inl, inr}
use Rattle.std.proofs.lemmas.List.{length-map}
use Rattle.ll_tokens.specs.declared.kinds.Token.{Token}
use Rattle.ll_tokens.specs.Tokens.{Lexeme, lexeme_of, lexemes_of}
use Rattle.ll_tree.specs.declared.op.Order.{Order}
use Rattle.ll_parser.specs.declared.refusal.Refusal.{Refusal}
use Rattle.ll_parser.specs.GrammarInsts.{order, scope, syncscope}
use Rattle.ll_parser.specs.GrammarItems.{any_text, text}
use Rattle.ll_parser.specs.Productions.{◌>>◌, mark, word}
use Rattle.ll_parser.specs.Reading.{DerivesNone, EndsNowhere}
use Rattle.ll_operands.specs.Parts.{one_word}
use Rattle.ll_memory_ops.specs.declared.orders.ScopedOrder.{ScopedOrder}
use Rattle.ll_memory_ops.specs.OrderParts.{scope_here, scope_part, scoped_order, scoped_order_part, written_scope_part}
use Rattle.ll_memory_ops.proofs.OpcodesApart.{order_no_scope}

-- the refusal of tokens that begin with none of some words
pub one_word_refused : {K : Type 0} (key_word : K → List ℕ) (tokens : List Token) (refusal : Refusal) → DerivesNone (λ key. word (key_word key)) (lexemes_of tokens) → refusal ≡ record { rule = 3; left = length tokens } → (one_word key_word).stops (lexemes_of tokens) refusal
one_word_refused key_word tokens refusal none place = (none, subst (λ (n : ℕ). refusal ≡ record { rule = 3; left = n }) (sym (length-map tokens lexeme_of)) place)

-- a scope behind its word
pub written_read : (bytes : List ℕ) (tokens a b c rest : List Lexeme) → word (codes "syncscope") tokens a → mark 40 a b → text bytes b c → mark 41 c rest → syncscope bytes tokens rest
unfolding ◌>>◌
written_read bytes tokens a b c rest w bracket t close = (a, w, (b, bracket, (c, t, close)))

pub any_text_read : (bytes : List ℕ) (tokens rest : List Lexeme) → text bytes tokens rest → any_text tokens rest
any_text_read bytes tokens rest (l, is, kind, _) = (l, is, kind, tt)

-- a scope that is there, and none
pub some_no_none : {A : Type 0} (x : A) → Some x ≡ None → ⊥
some_no_none x e = cc

pub scope_read : (bytes : List ℕ) (tokens rest : List Lexeme) → syncscope bytes tokens rest → scope_here (Some bytes) tokens rest
scope_read bytes tokens rest d = (d, λ e. absurd (some_no_none bytes e))

pub no_scope : (tokens : List Lexeme) → EndsNowhere (word (codes "syncscope")) tokens → scope_here None tokens tokens
no_scope tokens nowhere = (refl, λ e. nowhere)

written_is_part : (bytes : List ℕ) (tokens rest : List Lexeme) → syncscope bytes tokens rest → written_scope_part.begins tokens rest
unfolding ◌>>◌
written_is_part bytes tokens rest (a, w, (b, bracket, (c, t, close))) = (a, w, (b, bracket, (c, any_text_read bytes b c t, close)))

pub scope_is_part : (found : Option (List ℕ)) (tokens rest : List Lexeme) → scope_here found tokens rest → scope_part.begins tokens rest
scope_is_part None tokens rest (same, nowhere) = inr (same, nowhere refl)
scope_is_part (Some bytes) tokens rest (d, _) = inl (written_is_part bytes tokens rest d)

-- a scope and an order
pub scoped_read : (found : Option (List ℕ)) (o : Order) (tokens middle rest : List Lexeme) → scope_here found tokens middle → order o middle rest → scoped_order (record { scope = found; order = o }) tokens rest
unfolding ◌>>◌
scoped_read found o tokens middle rest d w = (middle, d.0, w)

-- an order that follows is no `syncscope`
scope_before_order : (found : Option (List ℕ)) (o : Order) (tokens middle rest : List Lexeme) → scope found tokens middle → order o middle rest → scope_here found tokens middle
scope_before_order None o tokens middle rest same w = (same, λ e. subst (EndsNowhere (word (codes "syncscope"))) (sym same) (order_no_scope o middle rest w))
scope_before_order (Some bytes) o tokens middle rest d w = scope_read bytes tokens middle d

pub scoped_is_part : (o : ScopedOrder) (tokens rest : List Lexeme) → scoped_order o tokens rest → scoped_order_part.begins tokens rest
unfolding ◌>>◌
scoped_is_part o tokens rest (m, d, w) = (m, scope_is_part o.scope tokens m (scope_before_order o.scope o.order tokens m rest d w), (o.order, w))
