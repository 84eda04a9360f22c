-- Attachments: what they leave of the tokens, that they are read in one way, and that refused tokens begin with none.
use Rattle.std.proofs.Common.{◌≡◌, ℕ, List, drop, sym, ap, ap₂, ◌∙◌, subst, inl, inr}
use Rattle.ll_tokens.specs.declared.kinds.TokenKind.TheVariants.{MdName, Mdn, Punct}
use Rattle.ll_tokens.specs.Tokens.{Lexeme}
use Rattle.ll_tree.specs.declared.module.NodeRef.{NodeRef}
use Rattle.ll_parser.specs.declared.refusal.Refusal.{Refusal}
use Rattle.ll_parser.specs.GrammarAttributes.{attachment, node_name}
use Rattle.ll_parser.specs.NameReading.{any_of}
use Rattle.ll_parser.specs.Productions.{◌>>◌, mark}
use Rattle.ll_parser.specs.Reading.{EndsNowhere, DerivesNone}
use Rattle.ll_parser.specs.Spellings.{decimal_value}
use Rattle.ll_parser.proofs.TokenFacts.{same_first, same_rest}
use Rattle.ll_types.proofs.Tokens.{EndsBy, Shortens, seq_shortens, shortens_ends, token_end, token_shortens}
use Rattle.ll_attributes.specs.Attachments.{AttachmentFails, AttachmentsFail, BehindCommaFails, IsNoAttachment, SkippedFail, attachments_here, behind_comma, skipped_attachments}
use Rattle.ll_attributes.proofs.ListFacts.{LeaveOne, all_none, all_one, all_same, each_ends, seq_one, skips_none, skips_one, token_one}

pub node_one : (n m : NodeRef) → LeaveOne (node_name n) (node_name m)
node_one n m = token_one Mdn Mdn _ _

pub node_same : (n m : NodeRef) (tokens a b : List Lexeme) → node_name n tokens a → node_name m tokens b → n ≡ m
node_same n m tokens a b (l, is, _, (number, _, byte)) (l', is', _, (number', _, byte')) =
    let same : l ≡ l' = same_first l l' _ _ (sym is ∙ is') in
    ap₂ (λ (x y : ℕ). record { number = x; byte = y })
    (sym number ∙ ap (λ (t : Lexeme). decimal_value (drop 1 t.text)) same ∙ number')
    (sym byte ∙ ap (λ (t : Lexeme). t.byte) same ∙ byte')

pub attachment_one : (x y : List ℕ × NodeRef) → LeaveOne (attachment x) (attachment y)
attachment_one x y = seq_one _ _ (node_name x.1) (node_name y.1) (token_one MdName MdName _ _) (node_one x.1 y.1)

pub attachment_same : (x y : List ℕ × NodeRef) (tokens a b : List Lexeme) → attachment x tokens a → attachment y tokens b → x ≡ y
unfolding ◌>>◌
attachment_same x y tokens a b (m, (l, is, kind, name), d) (m', (l', is', kind', name'), d') =
    let same : m' ≡ m = same_rest l' l m' m (sym is' ∙ is) in
    ap₂ (λ (n : List ℕ) (r : NodeRef). (n, r))
    (sym name ∙ ap (λ (t : Lexeme). drop 1 t.text) (same_first l l' _ _ (sym is ∙ is')) ∙ name')
    (node_same x.1 y.1 m a b d (subst (λ ls. node_name y.1 ls b) same d'))

pub attachment_begins : (x : List ℕ × NodeRef) (tokens rest : List Lexeme) → attachment x tokens rest → EndsNowhere (any_of MdName) tokens → ⊥
unfolding ◌>>◌
attachment_begins x tokens rest (m, (l, is, kind, _), _) nowhere = nowhere m (l, is, kind, tt)

pub attachment_none : (tokens : List Lexeme) (refusal : Refusal) → AttachmentFails tokens refusal → DerivesNone attachment tokens
unfolding ◌>>◌
attachment_none tokens refusal (behind, (l', is', _, _), none) x rest (m, (l, is, _, _), d) =
    none.0 x.1 rest (subst (λ ls. node_name x.1 ls rest) (same_rest l l' m behind (sym is ∙ is')) d)

pub no_attachment : (tokens : List Lexeme) (refusal : Refusal) → IsNoAttachment tokens refusal → DerivesNone attachment tokens
no_attachment tokens refusal (inl unexpected) x rest d = attachment_begins x tokens rest d unexpected.0
no_attachment tokens refusal (inr fails) x rest d = attachment_none tokens refusal fails x rest d

refused_begins : (tokens : List Lexeme) (refusal : Refusal) → AttachmentFails tokens refusal → EndsNowhere (any_of MdName) tokens → ⊥
refused_begins tokens refusal (behind, name, none) nowhere = nowhere behind name

pub attachments_one : (xs ys : List (List ℕ × NodeRef)) → LeaveOne (attachments_here xs) (attachments_here ys)
attachments_one = all_one attachment attachment (EndsNowhere (any_of MdName)) attachment_one attachment_begins attachment_begins

pub attachments_same : (xs ys : List (List ℕ × NodeRef)) (tokens a b : List Lexeme) → attachments_here xs tokens a → attachments_here ys tokens b → xs ≡ ys
attachments_same = all_same attachment (EndsNowhere (any_of MdName)) attachment_one attachment_begins attachment_same

pub attachments_none : (tokens : List Lexeme) (refusal : Refusal) → AttachmentsFail tokens refusal → DerivesNone attachments_here tokens
attachments_none tokens refusal stops =
    all_none attachment attachment (EndsNowhere (any_of MdName)) attachment_one attachment_begins attachment_begins
    tokens stops.middle stops.before (refused_begins stops.middle refusal stops.fails) (attachment_none stops.middle refusal stops.fails)

-- behind commas
pub behind_one : (x y : List ℕ × NodeRef) → LeaveOne (behind_comma x) (behind_comma y)
behind_one x y = seq_one (mark 44) (mark 44) (attachment x) (attachment y) (token_one _ _ _ _) (attachment_one x y)

behind_begins : (x : List ℕ × NodeRef) (tokens rest : List Lexeme) → behind_comma x tokens rest → EndsNowhere (mark 44) tokens → ⊥
unfolding ◌>>◌
behind_begins x tokens rest (m, comma, _) nowhere = nowhere m comma

pub behind_none : (tokens : List Lexeme) (refusal : Refusal) → BehindCommaFails tokens refusal → DerivesNone behind_comma tokens
unfolding ◌>>◌
behind_none tokens refusal (behind, comma, fails) x rest (m, comma', d) =
    no_attachment behind refusal fails x rest (subst (λ ls. attachment x ls rest) (token_one Punct Punct _ _ tokens m behind comma' comma) d)

behind_goes_on : (tokens : List Lexeme) (refusal : Refusal) → BehindCommaFails tokens refusal → EndsNowhere (mark 44) tokens → ⊥
behind_goes_on tokens refusal (behind, comma, fails) nowhere = nowhere behind comma

pub skipped_one : LeaveOne skipped_attachments skipped_attachments
skipped_one = skips_one behind_comma behind_comma (EndsNowhere (mark 44)) behind_one behind_begins behind_begins

pub skipped_none : (tokens : List Lexeme) (refusal : Refusal) → SkippedFail tokens refusal → EndsNowhere skipped_attachments tokens
skipped_none tokens refusal stops =
    skips_none behind_comma behind_comma (EndsNowhere (mark 44)) behind_one behind_begins behind_begins
    tokens stops.middle stops.before (behind_goes_on stops.middle refusal stops.fails) (behind_none stops.middle refusal stops.fails)

-- what is left is shorter
pub attachment_shortens : (x : List ℕ × NodeRef) → Shortens (attachment x)
attachment_shortens x = seq_shortens _ _ (token_shortens _ _) (token_end _ _)

pub behind_shortens : (x : List ℕ × NodeRef) → Shortens (behind_comma x)
behind_shortens x = seq_shortens _ _ (token_shortens _ _) (shortens_ends _ (attachment_shortens x))

pub attachments_end : (xs : List (List ℕ × NodeRef)) → EndsBy (attachments_here xs)
attachments_end xs tokens rest d = each_ends attachment (λ x. shortens_ends _ (attachment_shortens x)) xs tokens rest d.items

pub skipped_end : EndsBy skipped_attachments
skipped_end tokens rest d = each_ends behind_comma (λ x. shortens_ends _ (behind_shortens x)) d.skipped.0 tokens rest d.skipped.1
