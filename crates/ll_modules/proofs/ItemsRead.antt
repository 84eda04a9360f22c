-- Items as they are read: what each exit of a reader answers.
use Rattle.std.proofs.Common.{◌≡◌, List, length, codes, sym, ap, ◌∙◌, subst, inl, inr, None}
use Rattle.std.proofs.lemmas.List.{length-map}
use Rattle.ll_tokens.specs.declared.kinds.Token.{Token}
use Rattle.ll_tokens.specs.Tokens.{Lexeme, lexeme_of, lexemes_of}
use Rattle.ll_parser.specs.declared.refusal.ReadError.{ReadError}
use Rattle.ll_parser.specs.declared.refusal.ReadError.TheVariants.{NoMemory, Refused}
use Rattle.ll_parser.specs.declared.refusal.Refusal.{Refusal}
use Rattle.ll_parser.specs.Productions.{word}
use Rattle.ll_parser.specs.Reading.{EndsNowhere}
use Rattle.ll_types.specs.ValueRefusals.{Unless}
use Rattle.ll_operands.specs.Parts.{Refuses, either}
use Rattle.ll_operands.proofs.Readings.{told_as}
use Rattle.ll_flow_ops.proofs.OperationsRead.{other_refused}
use Rattle.ll_heads.specs.HeadParts.{declaration_part}
use Rattle.ll_items.specs.Starts.{SmallFails, start_of}
use Rattle.ll_modules.specs.Definitions.{whole_definition_part}
use Rattle.ll_modules.specs.ModuleItems.{module_item_part, small_part}

-- an item that is no function
pub small_told : (tokens : List Lexeme) (error told : ReadError) → told ≡ error → Unless (SmallFails tokens) error → Refuses small_part tokens told
small_told tokens NoMemory told same x = subst (Refuses small_part tokens) (sym same) tt
small_told tokens (Refused refusal) told same x = subst (Refuses small_part tokens) (sym same) (inl x)

pub no_item : (tokens : List Token) (refusal : Refusal) → start_of (lexemes_of tokens) ≡ None → refusal ≡ record { rule = 3; left = length tokens } → Refuses small_part (lexemes_of tokens) (Refused refusal)
no_item tokens refusal none place = inr (none, place ∙ ap (λ n. record { rule = 3; left = n }) (sym (length-map tokens lexeme_of)))

-- an item with none of the words of functions
pub others_told : (tokens : List Lexeme) (error told : ReadError) → told ≡ error → EndsNowhere (word (codes "define")) tokens → EndsNowhere (word (codes "declare")) tokens → Refuses small_part tokens error → Refuses module_item_part tokens told
others_told tokens error told same no_define no_declare x =
    told_as module_item_part tokens error told same
    (other_refused (word (codes "define")) whole_definition_part (either (word (codes "declare")) declaration_part small_part) tokens error no_define
    (other_refused (word (codes "declare")) declaration_part small_part tokens error no_declare x))
