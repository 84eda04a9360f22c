-- A variable of the grammar before no further comma is that which is read, and what is read is of the grammar.
use Rattle.std.proofs.Common.{◌≡◌, ℕ, List, [], ◌∷◌, codes, false, refl, sym, subst, inl, inr, Option, None, Some}
use Rattle.std.specs.Str.{bytes_eq}
use Rattle.ll_tokens.specs.declared.kinds.TokenKind.TheVariants.{MdName, Word}
use Rattle.ll_tokens.specs.Tokens.{Lexeme}
use Rattle.ll_tree.specs.declared.module.Linkage.{Linkage}
use Rattle.ll_tree.specs.declared.module.NodeRef.{NodeRef}
use Rattle.ll_tree.specs.declared.module.Variable.{Variable}
use Rattle.ll_tree.specs.declared.name.NameText.{NameText}
use Rattle.ll_parser.specs.GrammarInsts.{align}
use Rattle.ll_parser.specs.GrammarItems.{linkage, unnamed, variable}
use Rattle.ll_parser.specs.GrammarTypes.{space}
use Rattle.ll_parser.specs.Productions.{◌>>◌, ◌or◌, each, mark, maybe, word}
use Rattle.ll_parser.specs.Reading.{EndsNowhere}
use Rattle.ll_parser.proofs.OneReading.{space_here_is_space, space_read_whole}
use Rattle.ll_parser.proofs.TokenFacts.{token_leaves_one}
use Rattle.ll_types.proofs.Tokens.{kinds_apart}
use Rattle.ll_types.proofs.ValueForms.{value_no_pointer}
use Rattle.ll_attributes.specs.Attachments.{behind_comma}
use Rattle.ll_attributes.specs.Lists.{some_of}
use Rattle.ll_attributes.proofs.HeadFacts.{linkage_right, linkage_whole, maybe_right, maybe_whole}
use Rattle.ll_attributes.proofs.ListFacts.{words_apart}
use Rattle.ll_operands.specs.Whole.{align_comma}
use Rattle.ll_items.specs.VariableParts.{align_here, variable_head, variable_here, variable_kind}

-- what isn't this word
no_kind : (text : List ℕ) (tokens rest : List Lexeme) → bytes_eq (codes "global") text ≡ false → bytes_eq (codes "constant") text ≡ false → variable_kind tokens rest → EndsNowhere (word text) tokens
no_kind text tokens rest g c (inl w) b x = words_apart (codes "global") text tokens rest b g w x
no_kind text tokens rest g c (inr w) b x = words_apart (codes "constant") text tokens rest b c w x

no_space : (text : List ℕ) (value : ℕ) (tokens rest : List Lexeme) → bytes_eq (codes "addrspace") text ≡ false → space value tokens rest → EndsNowhere (word text) rest → EndsNowhere (word text) tokens
unfolding ◌>>◌
no_space text value tokens rest a (inl (m, w, _)) none = λ b x. words_apart (codes "addrspace") text tokens m b a w x
no_space text value tokens rest a (inr (_, same)) none = subst (EndsNowhere (word text)) (sym same) none

no_unnamed : (text : List ℕ) (tokens rest : List Lexeme) → bytes_eq (codes "unnamed_addr") text ≡ false → bytes_eq (codes "local_unnamed_addr") text ≡ false → maybe unnamed tokens rest → EndsNowhere (word text) rest → EndsNowhere (word text) tokens
no_unnamed text tokens rest u l (inl (inl w)) none = λ b x. words_apart (codes "unnamed_addr") text tokens rest b u w x
no_unnamed text tokens rest u l (inl (inr w)) none = λ b x. words_apart (codes "local_unnamed_addr") text tokens rest b l w x
no_unnamed text tokens rest u l (inr same) none = subst (EndsNowhere (word text)) (sym same) none

no_dso : (text : List ℕ) (tokens rest : List Lexeme) → bytes_eq (codes "dso_local") text ≡ false → maybe (word (codes "dso_local")) tokens rest → EndsNowhere (word text) rest → EndsNowhere (word text) tokens
no_dso text tokens rest d (inl w) none = λ b x. words_apart (codes "dso_local") text tokens rest b d w x
no_dso text tokens rest d (inr same) none = subst (EndsNowhere (word text)) (sym same) none

pub neither : (p q : List ℕ) (tokens : List Lexeme) → EndsNowhere (word p) tokens → EndsNowhere (word q) tokens → EndsNowhere (word p or word q) tokens
neither p q tokens no_p no_q rest (inl d) = no_p rest d
neither p q tokens no_p no_q rest (inr d) = no_q rest d

module _ (l : Linkage) (value : ℕ) (a b c d e f : List Lexeme) (link : linkage l a b) (dso : maybe (word (codes "dso_local")) b c) (name : maybe unnamed c d) (room : space value d e) (kind : variable_kind e f) where
  behind_unnamed : (text : List ℕ) → bytes_eq (codes "global") text ≡ false → bytes_eq (codes "constant") text ≡ false → bytes_eq (codes "addrspace") text ≡ false → EndsNowhere (word text) d
  behind_unnamed text g k s = no_space text value d e s room (no_kind text e f g k kind)

  behind_dso : (text : List ℕ) → bytes_eq (codes "global") text ≡ false → bytes_eq (codes "constant") text ≡ false → bytes_eq (codes "addrspace") text ≡ false → bytes_eq (codes "unnamed_addr") text ≡ false → bytes_eq (codes "local_unnamed_addr") text ≡ false → EndsNowhere (word text) c
  behind_dso text g k s u n = no_unnamed text c d u n name (behind_unnamed text g k s)

  head_whole : variable_head l value a f
  unfolding ◌>>◌
  head_whole = (
    b,
    linkage_whole l a b link (no_dso (codes "internal") b c refl dso (behind_dso (codes "internal") refl refl refl refl refl)) (no_dso (codes "private") b c refl dso (behind_dso (codes "private") refl refl refl refl refl)),
    (
      c,
      maybe_whole (word (codes "dso_local")) b c dso (behind_dso (codes "dso_local") refl refl refl refl refl),
      (
        d,
        maybe_whole unnamed c d name (neither (codes "unnamed_addr") (codes "local_unnamed_addr") d (behind_unnamed (codes "unnamed_addr") refl refl refl) (behind_unnamed (codes "local_unnamed_addr") refl refl refl)),
        (e, space_read_whole value d e room (no_kind (codes "addrspace") e f refl refl kind), kind),
      ),
    ),
  )

no_align : (tokens rest : List Lexeme) → some_of behind_comma tokens rest → EndsNowhere (mark 44) rest → EndsNowhere align_comma tokens
unfolding ◌>>◌
no_align tokens rest ([], same) none end (m, comma, w) = none m (subst (λ ls. mark 44 ls m) same comma)
no_align tokens rest (x ∷ xs, (n, (k, comma, (j, name, node)), more)) none end (m, comma', w) =
    kinds_apart Word MdName _ _ k end j (λ e. cc) (subst (λ ls. word (codes "align") ls end) (token_leaves_one _ _ _ tokens m k comma' comma) w) name

align_whole : (given : Option ℕ) (tokens middle rest : List Lexeme) → align given tokens middle → some_of behind_comma middle rest → EndsNowhere (mark 44) rest → align_here given tokens middle
align_whole None tokens middle rest same attachments none = (same, subst (EndsNowhere align_comma) (sym same) (no_align middle rest attachments none))
align_whole (Some bytes) tokens middle rest d attachments none = d

align_right : (given : Option ℕ) (tokens rest : List Lexeme) → align_here given tokens rest → align given tokens rest
align_right None tokens rest (same, _) = same
align_right (Some bytes) tokens rest d = d

pub variable_whole : (names : List NameText) (v : Variable) (tokens rest : List Lexeme) → variable names v tokens rest → EndsNowhere (mark 44) rest → variable_here names v tokens rest
unfolding ◌>>◌
variable_whole names v tokens rest (m, name, (n, sign, (p, link, (q, dso, (r, name', (s, room, (u, kind, (w, t, (x, first, (y, alignment, attachments)))))))))) none =
    (m, name, (n, sign, (u, head_whole v.linkage v.space n p q r s u link dso name' room kind, (w, (t, value_no_pointer v.ty names v.init w x first), (x, first, (y, align_whole v.align x y rest alignment attachments none, record { skipped = attachments; all = none }))))))

pub variable_right : (names : List NameText) (v : Variable) (tokens rest : List Lexeme) → variable_here names v tokens rest → variable names v tokens rest
unfolding ◌>>◌
variable_right names v tokens rest (m, name, (n, sign, (u, (p, link, (q, dso, (r, name', (s, room, kind)))), (w, (t, _), (x, first, (y, alignment, attachments)))))) = (
  m,
  name,
  (
    n,
    sign,
    (
      p,
      linkage_right v.linkage n p link,
      (
        q,
        maybe_right (word (codes "dso_local")) p q dso,
        (r, maybe_right unnamed q r name', (s, space_here_is_space v.space r s room, (u, kind, (w, t, (x, first, (y, align_right v.align x y alignment, attachments.skipped)))))),
      ),
    ),
  ),
)
