-- What a type leaves of the tokens is one list.
use Rattle.std.proofs.Common.{◌≡◌, ℕ, zero, suc, ◌<◌, ◌≤◌, List, [], ◌∷◌, length, codes, sym, subst, arith}
use mathlib.Core.Former.{Count}
use Rattle.ll_tokens.specs.declared.kinds.TokenKind.TheVariants.{Word, Local as LocalToken}
use Rattle.ll_tokens.specs.Tokens.{Lexeme}
use Rattle.ll_tree.specs.declared.name.NameText.{NameText}
use Rattle.ll_tree.specs.declared.ty.LlType.{LlType}
use Rattle.ll_tree.specs.declared.ty.TypeBase.{TypeBase, Void, Int, Half, Float, Double, Named as NamedBase, Array', Vector', Struct', Packed', Row_of-LlType, end_of-LlType, more_of-LlType}
use Rattle.ll_parser.specs.GrammarTypes.{type_base, types, types_behind, pointer}
use Rattle.ll_parser.specs.Productions.{◌>>◌, token, word, mark, each, each_behind_comma}
use Rattle.ll_parser.specs.WordTypes.{IsOneWord}
use Rattle.ll_parser.proofs.EndFacts.{ends_same}
use Rattle.ll_parser.proofs.OneReading.{one_pointer_list}
use Rattle.ll_parser.proofs.SpaceFacts.{mark_leaves_one, word_leaves_one, number_leaves_one}
use Rattle.ll_parser.proofs.TokenFacts.{token_leaves_one}
use Rattle.ll_types.specs.declared.openings.TypeOpening.{TypeOpening}
use Rattle.ll_types.specs.declared.openings.TypeOpening.TheVariants.{Array, Vector, Struct, Packed, Named, Plain}
use Rattle.ll_types.specs.declared.types.Counted.{Counted}
use Rattle.ll_types.specs.TypeOpenings.{opens}
use Rattle.ll_types.specs.TypeParts.{ty_here, counted, members}
use Rattle.ll_types.proofs.Tokens.{EndsBy, Shortens, token_shortens, token_end, seq_ends, seq_shortens, shortens_ends, pointers_end, marks_apart}
use Rattle.ll_types.proofs.TypeOpened.{Opened, behind, behind_known, opened_type, type_no_mark}

module _ (names : List NameText) where
  mutual
    pub base_shortens : (base : TypeBase) → Shortens (type_base names base)
    base_shortens Void = token_shortens _ _
    base_shortens (Int bits) = token_shortens _ _
    base_shortens Half = token_shortens _ _
    base_shortens Float = token_shortens _ _
    base_shortens Double = token_shortens _ _
    base_shortens (NamedBase name) = token_shortens _ _
    base_shortens (Array' count shape part) =
        seq_shortens _ _ (token_shortens _ _) (seq_ends _ _ (token_end _ _) (seq_ends _ _ (token_end _ _) (seq_ends _ _ (types_end part) (token_end _ _))))
    base_shortens (Vector' lanes shape part) =
        seq_shortens _ _ (token_shortens _ _) (seq_ends _ _ (token_end _ _) (seq_ends _ _ (token_end _ _) (seq_ends _ _ (types_end part) (token_end _ _))))
    base_shortens (Struct' shape row) = seq_shortens _ _ (token_shortens _ _) (seq_ends _ _ (types_end row) (token_end _ _))
    base_shortens (Packed' shape row) =
        seq_shortens _ _ (token_shortens _ _) (seq_ends _ _ (token_end _ _) (seq_ends _ _ (types_end row) (seq_ends _ _ (token_end _ _) (token_end _ _))))

    types_end : {k : Count} (row : Row_of-LlType k) → EndsBy (types names row)
    types_end end_of-LlType = ends_same
    types_end (more_of-LlType base pointers row) = seq_ends _ _ (shortens_ends _ (base_shortens base)) (seq_ends _ _ (pointers_end pointers) (behind_end row))

    behind_end : {k : Count} (row : Row_of-LlType k) → EndsBy (types_behind names row)
    behind_end end_of-LlType = ends_same
    behind_end (more_of-LlType base pointers row) =
        seq_ends _ _ (token_end _ _) (seq_ends _ _ (shortens_ends _ (base_shortens base)) (seq_ends _ _ (pointers_end pointers) (behind_end row)))

  pub type_shortens : (t : LlType) → Shortens (ty_here names t)
  type_shortens t tokens rest d = seq_shortens _ _ (base_shortens t.base) (pointers_end t.pointers) tokens rest d.0

-- types of so many tokens leave one list
abbrev pub One : ℕ → Type 0
One n = (names other : List NameText) (t u : LlType) (tokens a b : List Lexeme) → length tokens ≤ n → ty_here names t tokens a → ty_here other u tokens b → a ≡ b

abbrev pub no_brace : (names : List NameText) (base : TypeBase) (tokens a b : List Lexeme) → type_base names base tokens a → mark 125 tokens b → ⊥
no_brace names base tokens a b d m = type_no_mark 125 names base tokens a b (λ e. omega arith) (λ e. omega arith) (λ e. omega arith) d m

pub type_no_brace : (names : List NameText) (t : LlType) (tokens a b : List Lexeme) → ty_here names t tokens a → mark 125 tokens b → ⊥
unfolding ◌>>◌
type_no_brace names t tokens a b ((m, d, ps), none) close = no_brace names t.base tokens m b d close

module _ (n : ℕ) (one : One n) where
  -- a front of the types behind commas is a front of all others
  pub peel : (names other : List NameText) (ts us : List LlType) (tokens middle end rest : List Lexeme) → length tokens ≤ n → each_behind_comma (ty_here names) ts tokens middle → each_behind_comma (ty_here other) us tokens end → mark 125 end rest → (more : List LlType) × each_behind_comma (ty_here other) more middle end
  unfolding ◌>>◌
  peel names other [] us tokens middle end rest le same d close = (us, subst (λ ls. each_behind_comma (ty_here other) us ls end) same d)
  peel names other (t ∷ ts) [] tokens middle end rest le (a, comma, _) same close =
      absurd (marks_apart 44 125 tokens a rest (λ e. omega arith) comma (subst (λ ls. mark 125 ls rest) (sym same) close))
  peel names other (t ∷ ts) (u ∷ us) tokens middle end rest le (a, comma, (b, d, more)) (a', comma', (b', d', more')) close =
      let same : a' ≡ a = mark_leaves_one 44 tokens a' a comma' comma in
      let here : ty_here other u a b' = subst (λ ls. ty_here other u ls b') same d' in
      let shorter : length a < length tokens = (token_shortens _ _ tokens a comma).less in
      let same' : b' ≡ b = one other names u t a b' b (omega arith) here d in
      let less : length b < length a = (type_shortens names t a b d).less in
      peel names other ts us b middle end rest (omega arith) more (subst (λ ls. each_behind_comma (ty_here other) us ls end) same' more') close

  nothing_more : (other : List NameText) (more : List LlType) (middle end a b : List Lexeme) → each_behind_comma (ty_here other) more middle end → mark 125 middle a → mark 125 end b → a ≡ b
  unfolding ◌>>◌
  nothing_more other [] middle end a b same close close' = mark_leaves_one 125 middle a b close (subst (λ ls. mark 125 ls b) (sym same) close')
  nothing_more other (u ∷ us) middle end a b (c, comma, _) close close' = absurd (marks_apart 44 125 middle c a (λ e. omega arith) comma close)

  ends_one : (names other : List NameText) (ts us : List LlType) (tokens middle end a b : List Lexeme) → length tokens ≤ n → each_behind_comma (ty_here names) ts tokens middle → mark 125 middle a → each_behind_comma (ty_here other) us tokens end → mark 125 end b → a ≡ b
  ends_one names other ts us tokens middle end a b le d close e close' =
      let left : (more : List LlType) × each_behind_comma (ty_here other) more middle end = peel names other ts us tokens middle end b le d e close' in
      nothing_more other left.0 middle end a b left.1 close close'

  pub members_one : (names other : List NameText) (ts us : List LlType) (tokens a b : List Lexeme) → length tokens ≤ n → members names ts tokens a → members other us tokens b → a ≡ b
  unfolding ◌>>◌
  members_one names other [] [] tokens a b le (m, same, close) (m', same', close') =
      mark_leaves_one 125 tokens a b (subst (λ ls. mark 125 ls a) (sym same) close) (subst (λ ls. mark 125 ls b) (sym same') close')
  members_one names other [] (u ∷ us) tokens a b le (m, same, close) (m', (c, d, more), close') =
      absurd (type_no_brace other u tokens c a d (subst (λ ls. mark 125 ls a) (sym same) close))
  members_one names other (t ∷ ts) [] tokens a b le (m, (c, d, more), close) (m', same, close') =
      absurd (type_no_brace names t tokens c b d (subst (λ ls. mark 125 ls b) (sym same) close'))
  members_one names other (t ∷ ts) (u ∷ us) tokens a b le (m, (c, d, more), close) (m', (c', d', more'), close') =
      let same : c' ≡ c = one other names u t tokens c' c le d' d in
      let less : length c < length tokens = (type_shortens names t tokens c d).less in
      ends_one names other ts us c m m' a b (omega arith) more close (subst (λ ls. each_behind_comma (ty_here other) us ls m') same more') close'

  pub counted_one : (code : ℕ) (names other : List NameText) (c e : Counted) (tokens a b : List Lexeme) → length tokens ≤ n → counted code names c tokens a → counted code other e tokens b → a ≡ b
  unfolding ◌>>◌
  counted_one code names other c e tokens a b le (p, n_p, (q, x_q, (r, d, close))) (p', n_p', (q', x_q', (r', d', close'))) =
      let same_p : p' ≡ p = number_leaves_one _ _ tokens p' p n_p' n_p in
      let same_q : q' ≡ q = word_leaves_one _ p q' q (subst (λ ls. word (codes "x") ls q') same_p x_q') x_q in
      let less_p : length p < length tokens = (token_shortens _ _ tokens p n_p).less in
      let less_q : length q < length p = (token_shortens _ _ p q x_q).less in
      let same_r : r' ≡ r = one other names e.part c.part q r' r (omega arith) (subst (λ ls. ty_here other e.part ls r') same_q d') d in
      mark_leaves_one code r a b close (subst (λ ls. mark code ls b) same_r close')

  plain_one : (names other : List NameText) (p q : TypeBase) (tokens a b : List Lexeme) → IsOneWord p → IsOneWord q → type_base names p tokens a → type_base other q tokens b → a ≡ b
  plain_one names other p q tokens a b one_p one_q d e = word_one names p one_p a d (λ test w. word_one other q one_q b e (λ test' w'. token_leaves_one Word _ _ tokens a b w w'))
    where
      word_one : {G : Type 0} (ns : List NameText) (p : TypeBase) → IsOneWord p → (r : List Lexeme) → type_base ns p tokens r → ((test : Lexeme → Type 0) → token Word test tokens r → G) → G
      word_one ns Void one r w k = k _ w
      word_one ns (Int bits) one r w k = k _ w
      word_one ns Half one r w k = k _ w
      word_one ns Float one r w k = k _ w
      word_one ns Double one r w k = k _ w
      word_one ns (NamedBase name) one r w k = absurd one
      word_one ns (Array' count shape row) one r w k = absurd one
      word_one ns (Vector' count shape row) one r w k = absurd one
      word_one ns (Struct' shape row) one r w k = absurd one
      word_one ns (Packed' shape row) one r w k = absurd one

  behind_one : (o : TypeOpening) (names other : List NameText) (tokens inside a b : List Lexeme) → length tokens ≤ suc n → opens o tokens inside → behind o names inside a → behind o other inside b → a ≡ b
  unfolding ◌>>◌
  behind_one Array names other tokens inside a b le bracket d e =
      let less : length inside < length tokens = (token_shortens _ _ tokens inside bracket).less in
      counted_one 93 names other d.0 e.0 inside a b (omega arith) d.1 e.1
  behind_one Vector names other tokens inside a b le bracket d e =
      let less : length inside < length tokens = (token_shortens _ _ tokens inside bracket.0).less in
      counted_one 62 names other d.0 e.0 inside a b (omega arith) d.1 e.1
  behind_one Struct names other tokens inside a b le bracket d e =
      let less : length inside < length tokens = (token_shortens _ _ tokens inside bracket).less in
      members_one names other d.0 e.0 inside a b (omega arith) d.1 e.1
  behind_one Packed names other tokens inside a b le (p, angle, brace) (ms, (m, d, close)) (ms', (m', d', close')) =
      let less_p : length p < length tokens = (token_shortens _ _ tokens p angle).less in
      let less : length inside < length p = (token_shortens _ _ p inside brace).less in
      let same : m' ≡ m = members_one other names ms' ms inside m' m (omega arith) d' d in
      mark_leaves_one 62 m a b close (subst (λ ls. mark 62 ls b) same close')
  behind_one Named names other tokens inside a b le bracket d e = token_leaves_one LocalToken _ _ inside a b d.1 e.1
  behind_one Plain names other tokens inside a b le bracket (p, one_p, d) (q, one_q, e) = plain_one names other p q inside a b one_p one_q d e

  pub base_one : (names other : List NameText) (p q : TypeBase) (tokens a b : List Lexeme) → length tokens ≤ suc n → type_base names p tokens a → type_base other q tokens b → a ≡ b
  base_one names other p q tokens a b le d e =
      let found : Opened names tokens a = opened_type names p tokens a d in
      behind_one found.opening names other tokens found.inside a b le found.opened found.goes_on (behind_known found.opening other q tokens found.inside b found.opened e)

one_up_to : (n : ℕ) → One n
unfolding ◌>>◌
one_up_to zero names other t u tokens a b le d e =
    let less : length a < length tokens = (type_shortens names t tokens a d).less in
    absurd (omega arith)
one_up_to (suc n) names other t u tokens a b le ((m, base, ps), none) ((m', base', ps'), none') =
    let same : m' ≡ m = base_one n (one_up_to n) other names u.base t.base tokens m' m le base' base in
    (one_pointer_list t.pointers u.pointers m a b ps none (subst (λ ls. each pointer u.pointers ls b) same ps') none').1

pub type_one : (names other : List NameText) (t u : LlType) (tokens a b : List Lexeme) → ty_here names t tokens a → ty_here other u tokens b → a ≡ b
type_one names other t u tokens a b d e = one_up_to (length tokens) names other t u tokens a b (omega arith) d e

pub one_at : (n : ℕ) → One n
one_at n names other t u tokens a b le d e = type_one names other t u tokens a b d e
