-- Where and by which rule tokens are refused that are to go on with attributes: at the first part of one that isn't where
-- it is to stand.
use Rattle.std.specs.Prelude.{◌≡◌, ℕ, ◌⊎◌, List, codes}
use Rattle.ll_tokens.specs.Tokens.{Lexeme}
use Rattle.ll_tree.specs.declared.name.NameText.{NameText}
use Rattle.ll_tree.specs.declared.ty.LlType.{LlType}
use Rattle.ll_parser.specs.declared.refusal.Refusal.{Refusal}
use Rattle.ll_parser.specs.Productions.{word, mark}
use Rattle.ll_parser.specs.Spaces.{IsNoBracketed, IsNoNumber, IsUnexpected}
use Rattle.ll_types.specs.TypeParts.{ty_here}
use Rattle.ll_types.specs.TypeRefusals.{TypeFails}
use Rattle.ll_attributes.specs.AttributeParts.{some_attributes}
use Rattle.ll_attributes.specs.Lists.{StopsBehind}

-- a type between `(`, 40, and `)`, 41, behind the `(`
pub data BracketsFail : List Lexeme → Refusal → Type 0 where
  no_type : {tokens : List Lexeme} {refusal : Refusal} (inside : List Lexeme) → mark 40 tokens inside → TypeFails inside refusal → BracketsFail tokens refusal
  no_close : {tokens : List Lexeme} {refusal : Refusal} (names : List NameText) (t : LlType) (inside end : List Lexeme) → mark 40 tokens inside → ty_here names t inside end → IsUnexpected (mark 41) end refusal → BracketsFail tokens refusal

-- what stands behind the word of an attribute
pub data KindFails : List ℕ → List Lexeme → Refusal → Type 0 where
  in_type : {text : List ℕ} {tokens : List Lexeme} {refusal : Refusal} → (text ≡ codes "byval") ⊎ (text ≡ codes "sret") → BracketsFail tokens refusal → KindFails text tokens refusal
  in_align : {text : List ℕ} {tokens : List Lexeme} {refusal : Refusal} → text ≡ codes "align" → IsNoNumber tokens refusal → KindFails text tokens refusal
  in_bytes : {text : List ℕ} {tokens : List Lexeme} {refusal : Refusal} → (text ≡ codes "dereferenceable") ⊎ (text ≡ codes "dereferenceable_or_null") → IsNoBracketed tokens refusal → KindFails text tokens refusal

-- an attribute, behind its word
pub record AttributeFails (tokens : List Lexeme) (refusal : Refusal) : Type 0 where
  pub text : List ℕ
  pub behind : List Lexeme
  pub begins : word text tokens behind
  pub fails : KindFails text behind refusal

-- attributes, one of which begins and is refused
abbrev pub AttributesFail : List Lexeme → Refusal → Type 0
AttributesFail = StopsBehind some_attributes AttributeFails
