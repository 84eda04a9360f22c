-- With one table of names, each name of which is there once, heads are one.
use Rattle.std.proofs.Common.{◌≡◌, ℕ, List, [], ◌∷◌, codes, drop, Option, None, Some, unwrap_or, refl, sym, ap, ap₂, ◌∙◌, subst, inl, inr, arith}
use Rattle.ll_tokens.specs.declared.kinds.TokenKind.{TokenKind}
use Rattle.ll_tokens.specs.declared.kinds.TokenKind.TheVariants.{Local as LocalToken, Global as GlobalToken}
use Rattle.ll_tokens.specs.Tokens.{Lexeme}
use Rattle.ll_tree.specs.declared.module.Attribute.{Attribute}
use Rattle.ll_tree.specs.declared.module.Head.{Head}
use Rattle.ll_tree.specs.declared.module.Param.{Param}
use Rattle.ll_tree.specs.declared.name.Name.{Name}
use Rattle.ll_tree.specs.declared.name.NameKind.{NameKind}
use Rattle.ll_tree.specs.declared.name.NameKind.TheVariants.{Local as LocalName, Global as GlobalName}
use Rattle.ll_tree.specs.declared.name.NameText.{NameText}
use Rattle.ll_tree.specs.declared.ty.LlType.{LlType}
use Rattle.ll_parser.specs.GrammarAttributes.{placed_word}
use Rattle.ll_parser.specs.GrammarItems.{first_named}
use Rattle.ll_parser.specs.GrammarValues.{global}
use Rattle.ll_parser.specs.NameReading.{signed_name}
use Rattle.ll_parser.specs.Productions.{◌>>◌, mark, word}
use Rattle.ll_parser.specs.Spellings.{spelling_of}
use Rattle.ll_parser.specs.Tables.{NoNameTwice}
use Rattle.ll_parser.proofs.SpaceFacts.{mark_leaves_one}
use Rattle.ll_parser.proofs.TokenFacts.{same_first, same_rest}
use Rattle.ll_types.specs.TypeParts.{ty_here}
use Rattle.ll_types.proofs.Tokens.{marks_apart}
use Rattle.ll_types.proofs.TypesAlike.{types_alike}
use Rattle.ll_attributes.specs.Attachments.{attachments_here}
use Rattle.ll_attributes.specs.AttributeParts.{attributes_here}
use Rattle.ll_attributes.specs.Heads.{convention_here}
use Rattle.ll_attributes.specs.Lists.{maybe_here}
use Rattle.ll_attributes.proofs.AttachmentFacts.{attachments_same}
use Rattle.ll_attributes.proofs.AttributeFacts.{attributes_one, attributes_same}
use Rattle.ll_attributes.proofs.HeadFacts.{convention_same, linkage_same}
use Rattle.ll_attributes.proofs.ListFacts.{maybe_one, token_one}
use Rattle.ll_heads.specs.declared.definitions.DefinitionStart.{DefinitionStart}
use Rattle.ll_heads.specs.declared.heads.Front.{Front}
use Rattle.ll_heads.specs.Definitions.{definition_start_here}
use Rattle.ll_heads.specs.Heads.{declaration_here, front_here, front_of, head_here}
use Rattle.ll_heads.specs.Params.{IsLeftOut, first_place, name_here, numbering_behind, param_here, params_behind, params_here}
use Rattle.ll_heads.proofs.HeadExact.{exact_front, exact_head, exact_param, front_is_part, head_is_part, param_is_part}

named : ℕ → ℕ → Name
named number byte = record { number = number; byte = byte }

entry_of : NameKind → Lexeme → NameText
entry_of kind lexeme = record { kind = kind; spelling = spelling_of (drop 1 lexeme.text) }

param_of : LlType → List Attribute → Option Name → Param
param_of t xs name = record { ty = t; attributes = xs; name = name }

-- two heads of the same parts
whole_head : (h g : Head) → h.byte ≡ g.byte → front_of h ≡ front_of g → h.params ≡ g.params → h ≡ g
whole_head h g places fronts params = λ i. record {
  byte = places i;
  name = (fronts i).name;
  linkage = (fronts i).linkage;
  is_kernel = (fronts i).is_kernel;
  attributes = (fronts i).attributes;
  ty = (fronts i).ty;
  params = params i;
}

same_place : (text : List ℕ) (x y : ℕ) (tokens a b : List Lexeme) → placed_word text x tokens a → placed_word text y tokens b → (x ≡ y) × (a ≡ b)
same_place text x y tokens a b (l, is, _, (_, byte)) (m, is', _, (_, byte')) =
    (sym byte ∙ ap (λ (t : Lexeme). t.byte) (same_first l m a b (sym is ∙ is')) ∙ byte', same_rest l m a b (sym is ∙ is'))

module _ (names : List NameText) (once : NoNameTwice names) where
  spelled_same : (kind : TokenKind) (name_kind : NameKind) (n m : Name) (tokens a b : List Lexeme) → signed_name kind name_kind names n tokens a → signed_name kind name_kind names m tokens b → n ≡ m
  unfolding named entry_of
  spelled_same kind name_kind n m tokens a b (l, is, _, (byte, (_, entry))) (l', is', _, (byte', (_, entry'))) =
      let same : l ≡ l' = same_first l l' a b (sym is ∙ is') in
      ap₂ named
      (once n.number m.number (entry_of name_kind l') (entry ∙ ap (λ (t : Lexeme). Some (entry_of name_kind t)) same) entry')
      (byte ∙ ap (λ (t : Lexeme). t.byte) same ∙ sym byte')

  left_out_same : (start : Option ℕ) (byte : ℕ) (n m : Option Name) → IsLeftOut names start byte n → IsLeftOut names start byte m → n ≡ m
  unfolding named
  left_out_same None byte None None x y = refl
  left_out_same None byte None (Some m) x y = absurd y
  left_out_same None byte (Some n) m x y = absurd x
  left_out_same (Some next) byte None m x y = absurd x
  left_out_same (Some next) byte (Some n) None x y = absurd y
  left_out_same (Some next) byte (Some n) (Some m) (entry, place) (entry', place') =
      ap₂ (λ (x y : ℕ). Some (named x y)) (once n.number m.number _ entry entry') (place ∙ sym place')

  name_same : (start : Option ℕ) (byte : ℕ) (n m : Option Name) (tokens a b : List Lexeme) → name_here start byte names n tokens a → name_here start byte names m tokens b → n ≡ m
  name_same start byte None m tokens a b (inl d) e = absurd d
  name_same start byte (Some n) None tokens a b (inl d) (inl e) = absurd e
  name_same start byte (Some n) (Some m) tokens a b (inl d) (inl e) = ap (λ (x : Name). Some x) (spelled_same LocalToken LocalName n m tokens a b d e)
  name_same start byte (Some n) m tokens a b (inl (l, is, kind, _)) (inr (_, _, nowhere)) = absurd (nowhere a (l, is, kind, tt))
  name_same start byte n None tokens a b (inr d) (inl e) = absurd e
  name_same start byte n (Some m) tokens a b (inr (_, _, nowhere)) (inl (l, is, kind, _)) = absurd (nowhere b (l, is, kind, tt))
  name_same start byte n m tokens a b (inr (out, _, _)) (inr (out', _, _)) = left_out_same start byte n m out out'

  param_same : (start : Option ℕ) (p q : Param) (tokens a b : List Lexeme) → param_here start names p tokens a → param_here start names q tokens b → p ≡ q
  unfolding ◌>>◌ param_of
  param_same start p q tokens a b (m, type, (n, attributes, name)) (m', type', (n', attributes', name')) =
      let types : (p.ty ≡ q.ty) × (m ≡ m') = types_alike names once p.ty q.ty tokens m m' type type' in
      let here : attributes_here names q.attributes m n' = subst (λ ls. attributes_here names q.attributes ls n') (sym types.1) attributes' in
      let behind : n ≡ n' = attributes_one names names p.attributes q.attributes m n n' attributes here in
      let called : p.name ≡ q.name = name_same start (first_place tokens) p.name q.name n a b name (subst (λ ls. name_here start (first_place tokens) names q.name ls b) (sym behind) name') in
      ap₂ (λ (t : LlType) (xs : List Attribute). param_of t xs p.name) types.0 (attributes_same names once p.attributes q.attributes m n n' attributes here)
      ∙ ap (param_of q.ty q.attributes) called

  behind_same : (start end end' : Option ℕ) (ps qs : List Param) (tokens a b x y : List Lexeme) → params_behind start end names ps tokens a → mark 41 a x → params_behind start end' names qs tokens b → mark 41 b y → (ps ≡ qs) × (end ≡ end')
  unfolding ◌>>◌
  behind_same start end end' [] [] tokens a b x y (is, _) close (is', _) close' = (refl, is ∙ sym is')
  behind_same start end end' [] (q ∷ qs) tokens a b x y (is, same) close (k, comma, _) close' =
      absurd (marks_apart 44 41 tokens k x (λ e. omega arith) comma (subst (λ ls. mark 41 ls x) (sym same) close))
  behind_same start end end' (p ∷ ps) [] tokens a b x y (k, comma, _) close (is, same) close' =
      absurd (marks_apart 44 41 tokens k y (λ e. omega arith) comma (subst (λ ls. mark 41 ls y) (sym same) close'))
  behind_same start end end' (p ∷ ps) (q ∷ qs) tokens a b x y (k, comma, (l, d, more)) close (k', comma', (l', e, more')) close' =
      let here : param_here start names q k l' = subst (λ ls. param_here start names q ls l') (mark_leaves_one 44 tokens k' k comma' comma) e in
      let first : p ≡ q = param_same start p q k l l' d here in
      let same : l' ≡ l = exact_param.one k l' l (param_is_part start names q k l' here) (param_is_part start names p k l d) in
      let numbered : params_behind (numbering_behind names p.name start) end' names qs l' b = subst (λ (z : Param). params_behind (numbering_behind names z.name start) end' names qs l' b) (sym first) more' in
      let behind : params_behind (numbering_behind names p.name start) end' names qs l b = subst (λ ls. params_behind (numbering_behind names p.name start) end' names qs ls b) same numbered in
      let others : (ps ≡ qs) × (end ≡ end') = behind_same (numbering_behind names p.name start) end end' ps qs l a b x y more close behind close' in
      (ap₂ (λ (z : Param) (zs : List Param). z ∷ zs) first others.0, others.1)

  params_same : (start end end' : Option ℕ) (ps qs : List Param) (tokens a b : List Lexeme) → params_here start end names ps tokens a → params_here start end' names qs tokens b → (ps ≡ qs) × (end ≡ end')
  unfolding ◌>>◌
  params_same start end end' [] [] tokens a b (is, _) (is', _) = (refl, is ∙ sym is')
  params_same start end end' [] (q ∷ qs) tokens a b (is, close) (nowhere, _) = absurd (nowhere a close)
  params_same start end end' (p ∷ ps) [] tokens a b (nowhere, _) (is, close) = absurd (nowhere b close)
  params_same start end end' (p ∷ ps) (q ∷ qs) tokens a b (_, (m, ((l, d, more), _), close)) (_, (m', ((l', e, more'), _), close')) =
      let first : p ≡ q = param_same start p q tokens l l' d e in
      let same : l' ≡ l = exact_param.one tokens l' l (param_is_part start names q tokens l' e) (param_is_part start names p tokens l d) in
      let numbered : params_behind (numbering_behind names p.name start) end' names qs l' m' = subst (λ (z : Param). params_behind (numbering_behind names z.name start) end' names qs l' m') (sym first) more' in
      let behind : params_behind (numbering_behind names p.name start) end' names qs l m' = subst (λ ls. params_behind (numbering_behind names p.name start) end' names qs ls m') same numbered in
      let others : (ps ≡ qs) × (end ≡ end') = behind_same (numbering_behind names p.name start) end end' ps qs l m m' a b more close behind close' in
      (ap₂ (λ (z : Param) (zs : List Param). z ∷ zs) first others.0, others.1)

  front_same : (f g : Front) (tokens a b : List Lexeme) → front_here names f tokens a → front_here names g tokens b → f ≡ g
  unfolding ◌>>◌
  front_same f g tokens a b (m, linkage, (n, dso, (p, convention, (q, attributes, (r, type, name))))) (m', linkage', (n', dso', (p', convention', (q', attributes', (r', type', name'))))) =
      let linkages : (f.linkage ≡ g.linkage) × (m ≡ m') = linkage_same f.linkage g.linkage tokens m m' linkage linkage' in
      let at_n : n ≡ n' = maybe_one (word (codes "dso_local")) (token_one _ _ _ _) m n n' dso (subst (λ ls. maybe_here (word (codes "dso_local")) ls n') (sym linkages.1) dso') in
      let conventions : (f.is_kernel ≡ g.is_kernel) × (p ≡ p') = convention_same f.is_kernel g.is_kernel n p p' convention (subst (λ ls. convention_here g.is_kernel ls p') (sym at_n) convention') in
      let here : attributes_here names g.attributes p q' = subst (λ ls. attributes_here names g.attributes ls q') (sym conventions.1) attributes' in
      let lists : f.attributes ≡ g.attributes = attributes_same names once f.attributes g.attributes p q q' attributes here in
      let at_q : q ≡ q' = attributes_one names names f.attributes g.attributes p q q' attributes here in
      let types : (f.ty ≡ g.ty) × (r ≡ r') = types_alike names once f.ty g.ty q r r' type (subst (λ ls. ty_here names g.ty ls r') (sym at_q) type') in
      let called : f.name ≡ g.name = spelled_same GlobalToken GlobalName f.name g.name r a b name (subst (λ ls. global names g.name ls b) (sym types.1) name') in
      λ i. record { linkage = linkages.0 i; is_kernel = conventions.0 i; attributes = lists i; ty = types.0 i; name = called i }

  head_same : (start end end' : Option ℕ) (h g : Head) (tokens a b : List Lexeme) → h.byte ≡ g.byte → head_here start end names h tokens a → head_here start end' names g tokens b → (h ≡ g) × (end ≡ end')
  unfolding ◌>>◌
  head_same start end end' h g tokens a b places (m, front, (n, bracket, (p, params, _))) (m', front', (n', bracket', (p', params', _))) =
      let at_m : m' ≡ m = exact_front.one tokens m' m (front_is_part names (front_of g) tokens m' front') (front_is_part names (front_of h) tokens m front) in
      let at_n : n' ≡ n = mark_leaves_one 40 m n' n (subst (λ ls. mark 40 ls n') at_m bracket') bracket in
      let lists : (h.params ≡ g.params) × (end ≡ end') = params_same start end end' h.params g.params n p p' params (subst (λ ls. params_here start end' names g.params ls p') at_n params') in
      (whole_head h g places (front_same (front_of h) (front_of g) tokens m m' front front') lists.0, lists.1)

  pub declaration_same : (h g : Head) (tokens a b : List Lexeme) → declaration_here names h tokens a → declaration_here names g tokens b → h ≡ g
  unfolding ◌>>◌
  declaration_same h g tokens a b (m, first, head) (m', first', head') =
      let places : (h.byte ≡ g.byte) × (m ≡ m') = same_place (codes "declare") h.byte g.byte tokens m m' first first' in
      (head_same None None None h g m a b places.0 head (subst (λ ls. head_here None None names g ls b) (sym places.1) head')).0

  pub definition_same : (d e : DefinitionStart) (tokens a b : List Lexeme) → definition_start_here names d tokens a → definition_start_here names e tokens b → d ≡ e
  unfolding ◌>>◌
  definition_same d e tokens a b (xs, kept, (m, first, (n, head, (p, all, _)))) (ys, kept', (m', first', (n', head', (p', all', _)))) =
      let places : (d.head.byte ≡ e.head.byte) × (m ≡ m') = same_place (codes "define") d.head.byte e.head.byte tokens m m' first first' in
      let there : head_here (Some 0) (Some e.next) names e.head m n' = subst (λ ls. head_here (Some 0) (Some e.next) names e.head ls n') (sym places.1) head' in
      let heads : (d.head ≡ e.head) × (Some d.next ≡ Some e.next) = head_same (Some 0) (Some d.next) (Some e.next) d.head e.head m n n' places.0 head there in
      let at_n : n' ≡ n = exact_head.one m n' n (head_is_part (Some 0) (Some e.next) names e.head m n' there) (head_is_part (Some 0) (Some d.next) names d.head m n head) in
      let lists : xs ≡ ys = attachments_same xs ys n p p' all (subst (λ ls. attachments_here ys ls p') at_n all') in
      let first_of : (name : List ℕ) → first_named names name xs ≡ first_named names name ys = λ name. ap (first_named names name) lists in
      let types = kept.arg_type ∙ first_of (codes "kernel_arg_type") ∙ sym kept'.arg_type in
      let required = kept.required ∙ first_of (codes "reqd_work_group_size") ∙ sym kept'.required in
      let hints = kept.hint ∙ first_of (codes "work_group_size_hint") ∙ sym kept'.hint in
      let nexts : d.next ≡ e.next = ap (λ (o : Option ℕ). unwrap_or o 0) heads.1 in
      λ i. record { head = heads.0 i; kernel_arg_type = types i; reqd_work_group_size = required i; work_group_size_hint = hints i; next = nexts i }
