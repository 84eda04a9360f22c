-- The words with which calls begin (LLVM 14, `call`).
use Rattle.std.specs.Prelude.{ℕ, List, codes}
use Rattle.ll_parser.specs.Productions.{Production}
use Rattle.ll_operands.specs.Parts.{one_word}
use Rattle.ll_calls.specs.declared.openings.CallOpening.{CallOpening}
use Rattle.ll_calls.specs.declared.openings.CallOpening.TheVariants as opening

abbrev pub opening_word : CallOpening → List ℕ
opening_word opening.Tail = codes "tail"
opening_word opening.NoTail = codes "notail"
opening_word opening.Call = codes "call"

-- one of these words
abbrev pub call_word : Production
call_word = (one_word opening_word).begins
