-- Variables as parts: they leave one list of tokens, and refused tokens begin none.
use Rattle.std.proofs.Common.{◌≡◌, ℕ, List, codes, refl, sym, ◌∙◌, inl, inr, Option, None, Some}
use Rattle.ll_tokens.specs.Tokens.{Lexeme}
use Rattle.ll_tree.specs.declared.module.Linkage.{Linkage}
use Rattle.ll_tree.specs.declared.module.Linkage.TheVariants.{External, Internal, Private}
use Rattle.ll_tree.specs.declared.module.Variable.{Variable}
use Rattle.ll_tree.specs.declared.name.NameText.{NameText}
use Rattle.ll_parser.specs.declared.refusal.Refusal.{Refusal}
use Rattle.ll_parser.specs.GrammarItems.{unnamed}
use Rattle.ll_parser.specs.GrammarTypes.{written_space}
use Rattle.ll_parser.specs.Productions.{Production, ◌>>◌, ◌or◌, word}
use Rattle.ll_parser.specs.Reading.{DerivesNone}
use Rattle.ll_parser.specs.Spaces.{IsNoBracketed, IsNoSpace, bracketed_number, space_here}
use Rattle.ll_parser.proofs.EndFacts.{ends_same}
use Rattle.ll_parser.proofs.PointerFacts.{written_begins, written_leaves_one}
use Rattle.ll_parser.proofs.SpaceFacts.{bracketed_none_at_close, bracketed_none_at_number, bracketed_none_at_open, space_none, word_leaves_one}
use Rattle.ll_parser.proofs.TokenFacts.{token_leaves_one}
use Rattle.ll_types.proofs.Tokens.{EndsBy, seq_ends, token_end}
use Rattle.ll_attributes.specs.Heads.{linkage_here}
use Rattle.ll_attributes.proofs.AttachmentFacts.{skipped_end, skipped_none, skipped_one}
use Rattle.ll_attributes.proofs.HeadFacts.{linkage_same}
use Rattle.ll_operands.specs.Parts.{Begins, mark_part, number_part, ◌then◌, word_part}
use Rattle.ll_operands.specs.Whole.{align_comma}
use Rattle.ll_operands.proofs.PartFacts.{IsExact, exact_global, exact_mark, exact_number, exact_optional, exact_then, exact_type_then, exact_value, exact_word}
use Rattle.ll_items.specs.declared.variables.Contents.{Contents}
use Rattle.ll_items.specs.ItemParts.{sole}
use Rattle.ll_items.specs.VariableParts.{align_here, alignment_part, behind_variable_type, contents, contents_part, linkage_part, skipped_part, space_part, variable_head, variable_head_part, variable_here, variable_item, variable_kind}
use Rattle.ll_items.proofs.ItemFacts.{exact_maybe}
use Rattle.ll_items.proofs.NodeFacts.{exact_free, exact_sole}

-- one of two words
pub words_one : (v w : List ℕ) (tokens a b : List Lexeme) → (word v or word w) tokens a → (word v or word w) tokens b → a ≡ b
words_one v w tokens a b (inl d) (inl e) = token_leaves_one _ _ _ tokens a b d e
words_one v w tokens a b (inl d) (inr e) = token_leaves_one _ _ _ tokens a b d e
words_one v w tokens a b (inr d) (inl e) = token_leaves_one _ _ _ tokens a b d e
words_one v w tokens a b (inr d) (inr e) = token_leaves_one _ _ _ tokens a b d e

words_end : (v w : List ℕ) → EndsBy (word v or word w)
words_end v w tokens rest (inl d) = token_end _ _ tokens rest d
words_end v w tokens rest (inr d) = token_end _ _ tokens rest d

-- the linkage and the address space
linkage_end : (l : Linkage) → EndsBy (linkage_here l)
linkage_end External tokens rest (same, _, _) = ends_same tokens rest same
linkage_end Internal tokens rest w = token_end _ _ tokens rest w
linkage_end Private tokens rest w = token_end _ _ tokens rest w

exact_linkage : IsExact linkage_part
exact_linkage = exact_free (λ tokens rest. (l : Linkage) × linkage_here l tokens rest) (λ tokens a b d e. (linkage_same d.0 e.0 tokens a b d.1 e.1).1) (λ tokens rest d. linkage_end d.0 tokens rest d.1)

space_one : (v w : ℕ) (tokens a b : List Lexeme) → space_here v tokens a → space_here w tokens b → a ≡ b
space_one v w tokens a b (inl d) (inl e) = written_leaves_one v w tokens a b d e
space_one v w tokens a b (inl d) (inr (_, _, nowhere)) = absurd (written_begins v tokens a d nowhere)
space_one v w tokens a b (inr (_, _, nowhere)) (inl e) = absurd (written_begins w tokens b e nowhere)
space_one v w tokens a b (inr (_, same, _)) (inr (_, same', _)) = sym same ∙ same'

bracketed_none : (tokens : List Lexeme) (refusal : Refusal) → IsNoBracketed tokens refusal → DerivesNone bracketed_number tokens
bracketed_none tokens refusal (inl unexpected) = bracketed_none_at_open tokens unexpected.0
bracketed_none tokens refusal (inr (inside, m, inl none)) = bracketed_none_at_number tokens inside m none.0
bracketed_none tokens refusal (inr (inside, m, inr (v, behind, d, unexpected))) = bracketed_none_at_close v tokens inside behind m d unexpected.0

space_refused : (tokens : List Lexeme) (refusal : Refusal) → IsNoSpace tokens refusal → DerivesNone space_here tokens
space_refused tokens refusal (behind, w, none) = space_none tokens behind w (bracketed_none behind refusal none)

written_end : (v : ℕ) → EndsBy (written_space v)
written_end v = seq_ends _ _ (token_end _ _) (seq_ends _ _ (token_end _ _) (seq_ends _ _ (token_end _ _) (token_end _ _)))

space_end : (v : ℕ) → EndsBy (space_here v)
space_end v tokens rest (inl d) = written_end v tokens rest d
space_end v tokens rest (inr (_, same, _)) = ends_same tokens rest same

exact_space : IsExact space_part
exact_space = record {
  one = λ tokens a b d e. space_one d.0 e.0 tokens a b d.1 e.1;
  none = λ tokens rest refusal s d. space_refused tokens refusal s d.0 rest d.1;
  ends = λ tokens rest d. space_end d.0 tokens rest d.1;
}

exact_variable_head : IsExact variable_head_part
exact_variable_head =
    exact_then _ _ exact_linkage (exact_then _ _ (exact_maybe (word (codes "dso_local")) (word_leaves_one (codes "dso_local")) (token_end _ _))
    (exact_then _ _ (exact_maybe unnamed (words_one (codes "unnamed_addr") (codes "local_unnamed_addr")) (words_end (codes "unnamed_addr") (codes "local_unnamed_addr")))
    (exact_then _ _ exact_space (exact_sole variable_kind (words_one (codes "global") (codes "constant")) (words_end (codes "global") (codes "constant"))))))

-- what stands behind the type
align_opens : (tokens rest : List Lexeme) → (mark_part 44 then word_part (codes "align") then number_part).begins tokens rest → Begins align_comma tokens
unfolding ◌>>◌
align_opens tokens rest (m, comma, (n, w, d)) = (n, (m, comma, w))

exact_alignment : IsExact alignment_part
exact_alignment =
    exact_optional align_comma (mark_part 44 then word_part (codes "align") then number_part) (exact_then _ _ (exact_mark 44) (exact_then _ _ (exact_word (codes "align")) exact_number)) align_opens

exact_skipped : IsExact skipped_part
exact_skipped = record { one = skipped_one; none = λ tokens rest refusal s d. skipped_none tokens refusal s rest d; ends = skipped_end }

exact_contents : IsExact contents_part
exact_contents = exact_type_then behind_variable_type (λ width. exact_then _ _ (exact_value width) (exact_then _ _ exact_alignment exact_skipped))

pub exact_variable : IsExact variable_item
exact_variable = exact_then _ _ exact_global (exact_then _ _ (exact_mark 61) (exact_then _ _ exact_variable_head exact_contents))

pub head_is_part : (l : Linkage) (value : ℕ) (tokens rest : List Lexeme) → variable_head l value tokens rest → variable_head_part.begins tokens rest
unfolding ◌>>◌
head_is_part l value tokens rest (m, linkage, (n, dso, (p, unnamed, (q, space, kind)))) = (m, (l, linkage), (n, dso, (p, unnamed, (q, (value, space), kind))))

pub align_is_part : (align : Option ℕ) (tokens rest : List Lexeme) → align_here align tokens rest → alignment_part.begins tokens rest
unfolding ◌>>◌
align_is_part None tokens rest (same, nowhere) = inr (same, nowhere)
align_is_part (Some bytes) tokens rest (m, comma, (n, w, d)) = inl (m, comma, (n, w, (bytes, d)))

contents_is_part : (names : List NameText) (c : Contents) (tokens rest : List Lexeme) → contents names c tokens rest → contents_part.begins tokens rest
unfolding ◌>>◌
contents_is_part names c tokens rest (m, t, (n, v, (p, align, attachments))) = (names, c.ty, m, t, (n, (c.ty, refl, (names, c.init, v)), (p, align_is_part c.align n p align, attachments)))

pub variable_is_part : (names : List NameText) (v : Variable) (tokens rest : List Lexeme) → variable_here names v tokens rest → variable_item.begins tokens rest
unfolding ◌>>◌
variable_is_part names v tokens rest (m, name, (n, sign, (p, head, c))) =
    (m, (names, v.name, name), (n, sign, (p, head_is_part v.linkage v.space n p head, contents_is_part names (record { ty = v.ty; init = v.init; align = v.align }) p rest c)))
