-- Variables as they are read: what the exits of their reader answer.
use Rattle.std.proofs.Common.{◌≡◌, ℕ, List, length, codes, sym, ap, ◌∙◌, subst, inr, Option, None, Some, MatchOption}
use Rattle.std.proofs.lemmas.List.{length-map}
use Rattle.ll_tokens.specs.declared.kinds.Token.{Token}
use Rattle.ll_tokens.specs.Tokens.{Lexeme, lexeme_of, lexemes_of}
use Rattle.ll_tree.specs.declared.module.Linkage.{Linkage}
use Rattle.ll_tree.specs.declared.name.Name.{Name}
use Rattle.ll_tree.specs.declared.name.NameText.{NameText}
use Rattle.ll_tree.specs.declared.ty.LlType.{LlType}
use Rattle.ll_tree.specs.declared.value.Value.{Value}
use Rattle.ll_parser.specs.declared.refusal.Refusal.{Refusal}
use Rattle.ll_parser.specs.GrammarItems.{unnamed}
use Rattle.ll_parser.specs.GrammarTypes.{number}
use Rattle.ll_parser.specs.GrammarValues.{global}
use Rattle.ll_parser.specs.NameReading.{ReadsWith}
use Rattle.ll_parser.specs.Productions.{◌>>◌, mark, word}
use Rattle.ll_parser.specs.Reading.{DerivesNone, EndsNowhere, number_rule}
use Rattle.ll_parser.specs.Spaces.{space_here}
use Rattle.ll_parser.proofs.SpaceFacts.{mark_leaves_one}
use Rattle.ll_types.specs.TypeParts.{ty_here}
use Rattle.ll_types.specs.ValueParts.{value_of}
use Rattle.ll_attributes.specs.Attachments.{skipped_attachments}
use Rattle.ll_attributes.specs.Heads.{linkage_here}
use Rattle.ll_attributes.specs.Lists.{maybe_here}
use Rattle.ll_operands.specs.Whole.{align_comma}
use Rattle.ll_operands.proofs.Readings.{reads_then}
use Rattle.ll_items.specs.declared.variables.Contents.{Contents}
use Rattle.ll_items.specs.VariableParts.{align_here, alignment_part, contents, variable_head, variable_here, variable_kind}

pub head_read : (l : Linkage) (value : ℕ) (tokens behind after inside end rest : List Lexeme) → linkage_here l tokens behind → maybe_here (word (codes "dso_local")) behind after → maybe_here unnamed after inside → space_here value inside end → variable_kind end rest → variable_head l value tokens rest
unfolding ◌>>◌
head_read l value tokens behind after inside end rest linkage dso unnamed space kind = (behind, linkage, (after, dso, (inside, unnamed, (end, space, kind))))

pub align_read : (bytes : ℕ) (tokens behind rest : List Lexeme) → align_comma tokens behind → number bytes behind rest → align_here (Some bytes) tokens rest
unfolding ◌>>◌
align_read bytes tokens behind rest (m, comma, w) d = (m, comma, (behind, w, d))

pub contents_read : (old between new : List NameText) (t : LlType) (v : Value) (align : Option ℕ) (tokens behind after inside rest : List Lexeme) → ReadsWith ty_here old between t tokens behind → ReadsWith (value_of t) between new v behind after → align_here align after inside → skipped_attachments inside rest → ReadsWith contents old new (record { ty = t; init = v; align = align }) tokens rest
unfolding ◌>>◌
contents_read old between new t v align tokens behind after inside rest x y a s =
    reads_then ty_here (value_of t) contents t v (record { ty = t; init = v; align = align }) old between new tokens behind behind after rest (λ names d e. (behind, d, (after, e, (inside, a, s)))) x y

pub variable_read : (old between new : List NameText) (name : Name) (l : Linkage) (value : ℕ) (c : Contents) (tokens behind after inside rest : List Lexeme) → ReadsWith global old between name tokens behind → mark 61 behind after → variable_head l value after inside → ReadsWith contents between new c inside rest → ReadsWith variable_here old new (record { name = name; linkage = l; space = value; ty = c.ty; init = c.init; align = c.align }) tokens rest
unfolding ◌>>◌
variable_read old between new name l value c tokens behind after inside rest x sign head y =
    reads_then global contents variable_here name c (record { name = name; linkage = l; space = value; ty = c.ty; init = c.init; align = c.align }) old between new tokens behind inside rest rest
    (λ names d e. (behind, d, (after, sign, (inside, head, e)))) x y

-- a comma and `align`
pub comma_align : {X : Type 0} (left : X → List Lexeme) (tokens behind : List Lexeme) (found : Option X) → mark 44 tokens behind → MatchOption found (EndsNowhere (word (codes "align")) behind) (λ r. word (codes "align") behind (left r)) → MatchOption found (EndsNowhere align_comma tokens) (λ r. align_comma tokens (left r))
unfolding ◌>>◌
comma_align left tokens behind None comma none = λ rest d. none rest (subst (λ ls. word (codes "align") ls rest) (mark_leaves_one 44 tokens d.0 behind d.1 comma) d.2)
comma_align left tokens behind (Some r) comma w = (behind, comma, w)

pub no_comma : (tokens : List Lexeme) → EndsNowhere (mark 44) tokens → EndsNowhere align_comma tokens
unfolding ◌>>◌
no_comma tokens none rest (m, comma, w) = none m comma

pub align_stops : (tokens : List Lexeme) (behind : List Token) (refusal told : Refusal) → told ≡ refusal → align_comma tokens (lexemes_of behind) → DerivesNone number (lexemes_of behind) → refusal ≡ record { rule = number_rule (lexemes_of behind); left = length behind } → alignment_part.stops tokens told
unfolding ◌>>◌
align_stops tokens behind refusal told same (m, comma, w) none place =
    subst (alignment_part.stops tokens) (sym same) ((lexemes_of behind, (m, comma, w)), inr (m, comma, inr (lexemes_of behind, w, (none, place ∙ ap (λ (n : ℕ). record { rule = number_rule (lexemes_of behind); left = n }) (sym (length-map behind lexeme_of))))))
