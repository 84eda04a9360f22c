-- Tokens are refused at one place, by one rule.
use Rattle.std.proofs.Common.{◌≡◌, List, [], ◌∷◌, sym, ◌∙◌, subst, inl, inr}
use Rattle.ll_tokens.specs.declared.kinds.TokenKind.{TokenKind}
use Rattle.ll_tokens.specs.declared.kinds.TokenKind.TheVariants.{Attr, MdName, Punct, Str}
use Rattle.ll_tokens.specs.Tokens.{Lexeme}
use Rattle.ll_parser.specs.declared.refusal.Refusal.{Refusal}
use Rattle.ll_parser.specs.GrammarAttributes.{attachment}
use Rattle.ll_parser.specs.NameReading.{IsNoName, any_of}
use Rattle.ll_parser.specs.Productions.{Production, ◌>>◌, each, mark}
use Rattle.ll_parser.specs.Reading.{DerivesNone}
use Rattle.ll_parser.specs.Spaces.{IsUnexpected}
use Rattle.ll_types.proofs.Tokens.{kinds_apart}
use Rattle.ll_attributes.specs.Attachments.{AttachmentFails, AttachmentsFail, BehindCommaFails, IsNoAttachment, IsNoNode, SkippedFail, behind_comma}
use Rattle.ll_attributes.specs.FunctionAttributes.{FunctionAttributeFails, FunctionAttributesFail, IsNoGroup, function_attribute_here, in_group, in_text}
use Rattle.ll_attributes.specs.Lists.{StopsBehind, some_of}
use Rattle.ll_attributes.proofs.AttachmentFacts.{attachment_none, attachment_one, behind_none, behind_one}
use Rattle.ll_attributes.proofs.FunctionFacts.{function_attribute_none, function_attribute_one, group_no_text}
use Rattle.ll_attributes.proofs.ListFacts.{LeaveOne, token_one}

module _ {A : Type 0} (item : A → Production) (fails : List Lexeme → Refusal → Type 0)
    (one : (x y : A) → LeaveOne (item x) (item y))
    (none : (tokens : List Lexeme) (refusal : Refusal) → fails tokens refusal → DerivesNone item tokens)
    (refused_once : (tokens : List Lexeme) (r s : Refusal) → fails tokens r → fails tokens s → r ≡ s) where
  -- what stands behind items and begins with none is one list
  middle_one : (xs ys : List A) (tokens a b : List Lexeme) → each item xs tokens a → each item ys tokens b → DerivesNone item a → DerivesNone item b → a ≡ b
  unfolding ◌>>◌
  middle_one [] [] tokens a b same same' no_a no_b = sym same ∙ same'
  middle_one [] (y ∷ ys) tokens a b same (m, d, more) no_a no_b = absurd (no_a y m (subst (λ ls. item y ls m) same d))
  middle_one (x ∷ xs) [] tokens a b (m, d, more) same no_a no_b = absurd (no_b x m (subst (λ ls. item x ls m) same d))
  middle_one (x ∷ xs) (y ∷ ys) tokens a b (m, d, more) (m', d', more') no_a no_b =
      middle_one xs ys m a b more (subst (λ ls. each item ys ls b) (sym (one x y tokens m m' d d')) more') no_a no_b

  pub stops_once : (tokens : List Lexeme) (r s : Refusal) → StopsBehind (some_of item) fails tokens r → StopsBehind (some_of item) fails tokens s → r ≡ s
  stops_once tokens r s d e =
      let same : d.middle ≡ e.middle = middle_one d.before.0 e.before.0 tokens d.middle e.middle d.before.1 e.before.1 (none d.middle r d.fails) (none e.middle s e.fails) in
      refused_once e.middle r s (subst (λ ls. fails ls r) same d.fails) e.fails

-- a name, a node and a group
name_once : (kind : TokenKind) (tokens : List Lexeme) (r s : Refusal) → IsNoName kind tokens r → IsNoName kind tokens s → r ≡ s
name_once kind tokens r s (inl (_, place)) (inl (_, place')) = place ∙ sym place'
name_once kind tokens r s (inl (nowhere, _)) (inr (rest, d, _)) = absurd (nowhere rest d)
name_once kind tokens r s (inr (rest, d, _)) (inl (nowhere, _)) = absurd (nowhere rest d)
name_once kind tokens r s (inr (_, _, place)) (inr (_, _, place')) = place ∙ sym place'

pub node_once : (tokens : List Lexeme) (r s : Refusal) → IsNoNode tokens r → IsNoNode tokens s → r ≡ s
node_once tokens r s d e = name_once _ tokens r s d.1 e.1

pub group_once : (tokens : List Lexeme) (r s : Refusal) → IsNoGroup tokens r → IsNoGroup tokens s → r ≡ s
group_once tokens r s d e = name_once _ tokens r s d.1 e.1

unexpected_once : (p q : Production) (tokens : List Lexeme) (r s : Refusal) → IsUnexpected p tokens r → IsUnexpected q tokens s → r ≡ s
unexpected_once p q tokens r s d e = d.1 ∙ sym e.1

-- attachments
attachment_once : (tokens : List Lexeme) (r s : Refusal) → AttachmentFails tokens r → AttachmentFails tokens s → r ≡ s
attachment_once tokens r s (m, name, none) (m', name', none') =
    node_once m r s none (subst (λ ls. IsNoNode ls s) (token_one MdName MdName (λ _. Unit {0}) (λ _. Unit {0}) tokens m' m name' name) none')

no_attachment_once : (tokens : List Lexeme) (r s : Refusal) → IsNoAttachment tokens r → IsNoAttachment tokens s → r ≡ s
no_attachment_once tokens r s (inl d) (inl e) = unexpected_once (any_of MdName) (any_of MdName) tokens r s d e
no_attachment_once tokens r s (inl d) (inr e) = absurd (d.0 e.0 e.1)
no_attachment_once tokens r s (inr d) (inl e) = absurd (e.0 d.0 d.1)
no_attachment_once tokens r s (inr d) (inr e) = attachment_once tokens r s d e

behind_once : (tokens : List Lexeme) (r s : Refusal) → BehindCommaFails tokens r → BehindCommaFails tokens s → r ≡ s
behind_once tokens r s (m, comma, none) (m', comma', none') =
    no_attachment_once m r s none (subst (λ ls. IsNoAttachment ls s) (token_one Punct Punct (λ t. t.text ≡ 44 ∷ []) (λ t. t.text ≡ 44 ∷ []) tokens m' m comma' comma) none')

pub attachments_once : (tokens : List Lexeme) (r s : Refusal) → AttachmentsFail tokens r → AttachmentsFail tokens s → r ≡ s
attachments_once = stops_once attachment AttachmentFails attachment_one attachment_none attachment_once

pub skipped_once : (tokens : List Lexeme) (r s : Refusal) → SkippedFail tokens r → SkippedFail tokens s → r ≡ s
skipped_once = stops_once behind_comma BehindCommaFails behind_one behind_none behind_once

-- attributes of functions
text_once : (tokens m m' end end' : List Lexeme) (r s : Refusal) → any_of Str tokens m → mark 61 m end → IsUnexpected (any_of Str) end r → any_of Str tokens m' → mark 61 m' end' → IsUnexpected (any_of Str) end' s → r ≡ s
text_once tokens m m' end end' r s t sign none t' sign' none' =
    let same : m' ≡ m = token_one Str Str (λ _. Unit {0}) (λ _. Unit {0}) tokens m' m t' t in
    let same' : end' ≡ end = token_one Punct Punct (λ l. l.text ≡ 61 ∷ []) (λ l. l.text ≡ 61 ∷ []) m end' end (subst (λ ls. mark 61 ls end') same sign') sign in
    unexpected_once (any_of Str) (any_of Str) end r s none (subst (λ ls. IsUnexpected (any_of Str) ls s) same' none')

function_once : {tokens : List Lexeme} {r s : Refusal} → FunctionAttributeFails tokens r → FunctionAttributeFails tokens s → r ≡ s
function_once {tokens} {r} {s} (in_group m g none) (in_group m' g' none') = group_once tokens r s none none'
function_once {tokens} (in_group m g none) (in_text m' end t sign none') = absurd (kinds_apart Attr Str _ _ tokens m m' group_no_text g t)
function_once {tokens} (in_text m end t sign none) (in_group m' g none') = absurd (kinds_apart Attr Str _ _ tokens m' m group_no_text g t)
function_once {tokens} {r} {s} (in_text m end t sign none) (in_text m' end' t' sign' none') = text_once tokens m m' end end' r s t sign none t' sign' none'

pub function_attributes_once : (tokens : List Lexeme) (r s : Refusal) → FunctionAttributesFail tokens r → FunctionAttributesFail tokens s → r ≡ s
function_attributes_once =
    stops_once (λ (_ : Unit {0}). function_attribute_here) FunctionAttributeFails (λ x y. function_attribute_one)
    (λ tokens refusal fails x. function_attribute_none fails) (λ tokens r s d e. function_once d e)
