-- Types between commas, each with all its pointers.
use Rattle.std.proofs.Common.{◌≡◌, ℕ, List, [], ◌∷◌, sym, subst, arith}
use Rattle.ll_tokens.specs.Tokens.{Lexeme}
use Rattle.ll_tree.specs.declared.name.NameText.{NameText}
use Rattle.ll_tree.specs.declared.ty.LlType.{LlType}
use Rattle.ll_parser.specs.GrammarTypes.{ty}
use Rattle.ll_parser.specs.Pointers.{NoPointer}
use Rattle.ll_parser.specs.Productions.{◌>>◌, mark, listed, each_behind_comma}
use Rattle.ll_types.specs.TypeParts.{ty_here, all_types}
use Rattle.ll_types.proofs.Tokens.{mark_no_pointer}

module _ (names : List NameText) where
  forget_behind : (ts : List LlType) (tokens rest : List Lexeme) → each_behind_comma (ty_here names) ts tokens rest → each_behind_comma (ty names) ts tokens rest
  unfolding ◌>>◌
  forget_behind [] tokens rest d = d
  forget_behind (t ∷ ts) tokens rest (a, comma, (b, d, more)) = (a, comma, (b, d.0, forget_behind ts b rest more))

  pub forget_all : (ts : List LlType) (tokens rest : List Lexeme) → all_types names ts tokens rest → listed (ty names) ts tokens rest
  unfolding ◌>>◌
  forget_all [] tokens rest d = d
  forget_all (t ∷ ts) tokens rest (b, d, more) = (b, d.0, forget_behind ts b rest more)

  -- behind types and before a mark there is no pointer
  follows : (ts : List LlType) (c : ℕ) (tokens end rest : List Lexeme) → (c ≡ 42 → ⊥) → each_behind_comma (ty names) ts tokens end → mark c end rest → NoPointer tokens
  unfolding ◌>>◌
  follows [] c tokens end rest differ same close = mark_no_pointer c tokens rest differ (subst (λ ls. mark c ls rest) (sym same) close)
  follows (t ∷ ts) c tokens end rest differ (a, comma, _) close = mark_no_pointer 44 tokens a (λ e. omega arith) comma

  here_behind : (ts : List LlType) (c : ℕ) (tokens end rest : List Lexeme) → (c ≡ 42 → ⊥) → each_behind_comma (ty names) ts tokens end → mark c end rest → each_behind_comma (ty_here names) ts tokens end
  unfolding ◌>>◌
  here_behind [] c tokens end rest differ d close = d
  here_behind (t ∷ ts) c tokens end rest differ (a, comma, (b, d, more)) close =
      (a, comma, (b, (d, follows ts c b end rest differ more close), here_behind ts c b end rest differ more close))

  pub all_here : (ts : List LlType) (c : ℕ) (tokens end rest : List Lexeme) → (c ≡ 42 → ⊥) → listed (ty names) ts tokens end → mark c end rest → all_types names ts tokens end
  unfolding ◌>>◌
  all_here [] c tokens end rest differ d close = d
  all_here (t ∷ ts) c tokens end rest differ (b, d, more) close =
      (b, (d, follows ts c b end rest differ more close), here_behind ts c b end rest differ more close)
