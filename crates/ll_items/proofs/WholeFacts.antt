-- What is read is of the grammar, and is one value.
use Rattle.std.proofs.Common.{◌≡◌, ℕ, List, [], ◌∷◌, drop, codes, refl, sym, ap, ap₂, ◌∙◌, subst, inl, inr, arith, Some, slice_get}
use Rattle.ll_tokens.specs.declared.kinds.TokenKind.TheVariants.{Bang}
use Rattle.ll_tokens.specs.Tokens.{Lexeme}
use Rattle.ll_tree.specs.declared.module.NodeRef.{NodeRef}
use Rattle.ll_tree.specs.declared.module.Struct.{Struct}
use Rattle.ll_tree.specs.declared.module.Target.{Target}
use Rattle.ll_tree.specs.declared.module.TargetKind.{TargetKind}
use Rattle.ll_tree.specs.declared.module.TargetKind.TheVariants.{DataLayout, Triple}
use Rattle.ll_tree.specs.declared.name.Name.{Name}
use Rattle.ll_tree.specs.declared.name.NameKind.TheVariants.{Struct as StructName}
use Rattle.ll_tree.specs.declared.name.NameText.{NameText}
use Rattle.ll_tree.specs.declared.ty.LlType.{LlType}
use Rattle.ll_parser.specs.GrammarAttributes.{node_name, placed_word}
use Rattle.ll_parser.specs.GrammarItems.{dropped_item, named_nodes, struct_type, target, target_word, text}
use Rattle.ll_parser.specs.GrammarTypes.{type_name}
use Rattle.ll_parser.specs.NameReading.{any_of}
use Rattle.ll_parser.specs.Pointers.{NoPointer}
use Rattle.ll_parser.specs.Productions.{◌>>◌, each_behind_comma, mark, word}
use Rattle.ll_parser.specs.Spellings.{spelling_of}
use Rattle.ll_parser.specs.Tables.{NoNameTwice}
use Rattle.ll_parser.proofs.TokenFacts.{same_first, same_rest, token_leaves_one}
use Rattle.ll_types.specs.TypeParts.{ty_here}
use Rattle.ll_types.proofs.Tokens.{marks_apart}
use Rattle.ll_types.proofs.TypesAlike.{types_alike}
use Rattle.ll_attributes.proofs.AttachmentFacts.{node_same}
use Rattle.ll_attributes.proofs.HeadFacts.{text_same}
use Rattle.ll_attributes.proofs.ListFacts.{words_apart}
use Rattle.ll_items.specs.ItemParts.{braced, group_item, source_item, struct_here}
use Rattle.ll_items.proofs.NodeFacts.{node_no_close}

pub struct_right : (names : List NameText) (s : Struct) (tokens rest : List Lexeme) → struct_here names s tokens rest → struct_type names s tokens rest
unfolding ◌>>◌
struct_right names s tokens rest (m, name, (n, sign, (p, w, (t, none)))) = (m, name, (n, sign, (p, w, t)))

pub struct_whole : (names : List NameText) (s : Struct) (tokens rest : List Lexeme) → struct_type names s tokens rest → NoPointer rest → struct_here names s tokens rest
unfolding ◌>>◌
struct_whole names s tokens rest (m, name, (n, sign, (p, w, t))) none = (m, name, (n, sign, (p, w, (t, none))))

pub source_dropped : (tokens rest : List Lexeme) → source_item.begins tokens rest → dropped_item tokens rest
source_dropped tokens rest d = inl d

pub group_dropped : (tokens rest : List Lexeme) → group_item.begins tokens rest → dropped_item tokens rest
unfolding ◌>>◌
group_dropped tokens rest (m, w, (n, group, (p, sign, (q, brace, (r, (inside, stop), close))))) = inr (inl (m, w, (n, group, (p, sign, (q, brace, (r, inside, close))))))

-- a target line is one
target_words : (k l : TargetKind) (tokens a b : List Lexeme) → word (target_word k) tokens a → word (target_word l) tokens b → k ≡ l
target_words DataLayout DataLayout tokens a b w v = refl
target_words DataLayout Triple tokens a b w v = absurd (words_apart (codes "datalayout") (codes "triple") tokens a b refl w v)
target_words Triple DataLayout tokens a b w v = absurd (words_apart (codes "triple") (codes "datalayout") tokens a b refl w v)
target_words Triple Triple tokens a b w v = refl

places_same : (v w : List ℕ) (x y : ℕ) (tokens a b : List Lexeme) → placed_word v x tokens a → placed_word w y tokens b → x ≡ y
places_same v w x y tokens a b (l, is, _, (_, byte)) (l', is', _, (_, byte')) = sym byte ∙ ap (λ (t : Lexeme). t.byte) (same_first l l' a b (sym is ∙ is')) ∙ byte'

same_target : (t u : Target) → t.kind ≡ u.kind → t.text ≡ u.text → t.byte ≡ u.byte → t ≡ u
same_target t u p q r = λ i. record { kind = p i; text = q i; byte = r i }

pub target_same : (t u : Target) (tokens a b : List Lexeme) → target t tokens a → target u tokens b → (t ≡ u) × (a ≡ b)
unfolding ◌>>◌
target_same t u tokens a b (m, w, (n, k, (p, sign, x))) (m', w', (n', k', (p', sign', x'))) =
    let e : m' ≡ m = token_leaves_one _ _ _ tokens m' m w' w in
    let k2 : word (target_word u.kind) m n' = subst (λ ls. word (target_word u.kind) ls n') e k' in
    let f : n' ≡ n = token_leaves_one _ _ _ m n' n k2 k in
    let g : p' ≡ p = token_leaves_one _ _ _ n p' p (subst (λ ls. mark 61 ls p') f sign') sign in
    let last : (t.text ≡ u.text) × (a ≡ b) = text_same t.text u.text p a b x (subst (λ ls. text u.text ls b) g x') in
    (same_target t u (target_words t.kind u.kind m n n' k k2) last.0 (places_same (codes "target") (codes "target") t.byte u.byte tokens m m' w w'), last.1)

-- nodes between braces are one list
behind_same : (xs ys : List NodeRef) (tokens m n a b : List Lexeme) → each_behind_comma node_name xs tokens m → mark 125 m a → each_behind_comma node_name ys tokens n → mark 125 n b → (xs ≡ ys) × (a ≡ b)
unfolding ◌>>◌
behind_same [] [] tokens m n a b same close same' close' = (refl, token_leaves_one _ _ _ tokens a b (subst (λ ls. mark 125 ls a) (sym same) close) (subst (λ ls. mark 125 ls b) (sym same') close'))
behind_same [] (y ∷ ys) tokens m n a b same close (p, comma, _) close' = absurd (marks_apart 125 44 tokens a p (λ e. omega arith) (subst (λ ls. mark 125 ls a) (sym same) close) comma)
behind_same (x ∷ xs) [] tokens m n a b (p, comma, _) close same' close' = absurd (marks_apart 125 44 tokens b p (λ e. omega arith) (subst (λ ls. mark 125 ls b) (sym same') close') comma)
behind_same (x ∷ xs) (y ∷ ys) tokens m n a b (p, comma, (q, d, more)) close (p', comma', (q', d', more')) close' =
    let e : p' ≡ p = token_leaves_one _ _ _ tokens p' p comma' comma in
    let d2 : node_name y p q' = subst (λ ls. node_name y ls q') e d' in
    let f : q' ≡ q = token_leaves_one _ _ _ p q' q d2 d in
    let next : (xs ≡ ys) × (a ≡ b) = behind_same xs ys q m n a b more close (subst (λ ls. each_behind_comma node_name ys ls n) f more') close' in
    (ap₂ (λ (z : NodeRef) (zs : List NodeRef). z ∷ zs) (node_same x y p q q' d d2) next.0, next.1)

braced_same : (xs ys : List NodeRef) (tokens a b : List Lexeme) → braced node_name xs tokens a → braced node_name ys tokens b → (xs ≡ ys) × (a ≡ b)
unfolding ◌>>◌
braced_same [] [] tokens a b (m, same, close) (n, same', close') = (refl, token_leaves_one _ _ _ tokens a b (subst (λ ls. mark 125 ls a) (sym same) close) (subst (λ ls. mark 125 ls b) (sym same') close'))
braced_same [] (y ∷ ys) tokens a b (m, same, close) (n, (p, d, _), _) = absurd (node_no_close [] y tokens p a d (subst (λ ls. mark 125 ls a) (sym same) close))
braced_same (x ∷ xs) [] tokens a b (n, (p, d, _), _) (m, same, close) = absurd (node_no_close [] x tokens p b d (subst (λ ls. mark 125 ls b) (sym same) close))
braced_same (x ∷ xs) (y ∷ ys) tokens a b (m, (p, d, more), close) (n, (p', d', more'), close') =
    let e : p' ≡ p = token_leaves_one _ _ _ tokens p' p d' d in
    let next : (xs ≡ ys) × (a ≡ b) = behind_same xs ys p m n a b more close (subst (λ ls. each_behind_comma node_name ys ls n) e more') close' in
    (ap₂ (λ (z : NodeRef) (zs : List NodeRef). z ∷ zs) (node_same x y tokens p p' d d') next.0, next.1)

pub named_same : (x y : List ℕ) (xs ys : List NodeRef) (tokens a b : List Lexeme) → named_nodes x xs tokens a → named_nodes y ys tokens b → (x ≡ y) × (xs ≡ ys) × (a ≡ b)
unfolding ◌>>◌
named_same x y xs ys tokens a b (m, (l, is, kind, name), (n, sign, (p, bang, (q, brace, nodes)))) (m', (l', is', kind', name'), (n', sign', (p', bang', (q', brace', nodes')))) =
    let e : m' ≡ m = same_rest l' l m' m (sym is' ∙ is) in
    let f : n' ≡ n = token_leaves_one _ _ _ m n' n (subst (λ ls. mark 61 ls n') e sign') sign in
    let g : p' ≡ p = token_leaves_one _ _ _ n p' p (subst (λ ls. any_of Bang ls p') f bang') bang in
    let h : q' ≡ q = token_leaves_one _ _ _ p q' q (subst (λ ls. mark 123 ls q') g brace') brace in
    let last : (xs ≡ ys) × (a ≡ b) = braced_same xs ys q a b nodes (subst (λ ls. braced node_name ys ls b) h nodes') in
    (sym name ∙ ap (λ (t : Lexeme). drop 1 t.text) (same_first l l' m m' (sym is ∙ is')) ∙ name', last.0, last.1)

-- a struct type is one
module _ (names : List NameText) (once : NoNameTwice names) where
  name_same : (x y : Name) (tokens a b : List Lexeme) → type_name names x tokens a → type_name names y tokens b → x ≡ y
  name_same x y tokens a b (l, is, _, (byte_x, (_, at_x))) (m, is', _, (byte_y, (_, at_y))) =
      let same : l ≡ m = same_first l m _ _ (sym is ∙ is') in
      let bytes : x.byte ≡ y.byte = byte_x ∙ ap (λ (t : Lexeme). t.byte) same ∙ sym byte_y in
      ap₂ (λ n k. record { number = n; byte = k }) (once x.number y.number _ at_x (subst (λ (t : Lexeme). slice_get names y.number ≡ Some (record { kind = StructName; spelling = spelling_of (drop 1 t.text) })) (sym same) at_y)) bytes

  pub struct_same : (s t : Struct) (tokens a b : List Lexeme) → struct_here names s tokens a → struct_here names t tokens b → (s ≡ t) × (a ≡ b)
  unfolding ◌>>◌
  struct_same s t tokens a b (m, name, (n, sign, (p, w, x))) (m', name', (n', sign', (p', w', x'))) =
      let e : m' ≡ m = token_leaves_one _ _ _ tokens m' m name' name in
      let f : n' ≡ n = token_leaves_one _ _ _ m n' n (subst (λ ls. mark 61 ls n') e sign') sign in
      let g : p' ≡ p = token_leaves_one _ _ _ n p' p (subst (λ ls. word (codes "type") ls p') f w') w in
      let last : (s.ty ≡ t.ty) × (a ≡ b) = types_alike names once s.ty t.ty p a b x (subst (λ ls. ty_here names t.ty ls b) g x') in
      (ap₂ (λ k u. record { name = k; ty = u }) (name_same s.name t.name tokens m m' name name') last.0, last.1)
