-- Productions that have a token at least.
use Rattle.std.proofs.Common.{◌≡◌, ℕ, List, [], ◌∷◌, refl, sym, subst, inl, inr}
use Rattle.ll_tokens.specs.declared.kinds.TokenKind.{TokenKind}
use Rattle.ll_tokens.specs.Tokens.{Lexeme}
use Rattle.ll_tree.specs.declared.name.NameText.{NameText}
use Rattle.ll_tree.specs.declared.op.Op.{Op}
use Rattle.ll_tree.specs.declared.op.Op.TheVariants as op
use Rattle.ll_tree.specs.declared.ty.TypeBase.{TypeBase, Void, Int, Half, Float, Double, Named, Array', Vector', Struct', Packed'}
use Rattle.ll_parser.specs.GrammarFunctions.{begins_at}
use Rattle.ll_parser.specs.GrammarInsts.{operation}
use Rattle.ll_parser.specs.GrammarTypes.{type_base}
use Rattle.ll_parser.specs.Productions.{◌>>◌, token}

-- there is a token at least, with its place
abbrev pub Begun : List Lexeme → Type 0
Begun [] = ⊥
Begun (first ∷ rest) = first.byte ≡ first.byte

-- the place of the first token
abbrev pub byte_of : List Lexeme → ℕ
byte_of [] = 0
byte_of (first ∷ rest) = first.byte

pub token-begun : (kind : TokenKind) (test : Lexeme → Type 0) (tokens rest : List Lexeme) → token kind test tokens rest → Begun tokens
token-begun kind test tokens rest (l, is, kind_is, holds) = subst (λ ts. Begun ts) (sym is) refl

module _ (names : List NameText) where
  pub base-begun : (b : TypeBase) (tokens rest : List Lexeme) → type_base names b tokens rest → Begun tokens
  unfolding ◌>>◌
  base-begun Void tokens rest d = token-begun _ _ tokens rest d
  base-begun (Int bits) tokens rest d = token-begun _ _ tokens rest d
  base-begun Half tokens rest d = token-begun _ _ tokens rest d
  base-begun Float tokens rest d = token-begun _ _ tokens rest d
  base-begun Double tokens rest d = token-begun _ _ tokens rest d
  base-begun (Named name) tokens rest d = token-begun _ _ tokens rest d
  base-begun (Array' count shape part) tokens rest (a, d, _) = token-begun _ _ tokens a d
  base-begun (Vector' lanes shape part) tokens rest (a, d, _) = token-begun _ _ tokens a d
  base-begun (Struct' shape members) tokens rest (a, d, _) = token-begun _ _ tokens a d
  base-begun (Packed' shape members) tokens rest (a, d, _) = token-begun _ _ tokens a d

  pub op-begun : (o : Op) (tokens rest : List Lexeme) → operation names o tokens rest → Begun tokens
  unfolding ◌>>◌
  op-begun (op.Binary kind flags t left right) tokens rest (a, d, _) = token-begun _ _ tokens a d
  op-begun (op.Compare p t left right) tokens rest (a, d, _) = token-begun _ _ tokens a d
  op-begun (op.Select condition accepted rejected) tokens rest (a, d, _) = token-begun _ _ tokens a d
  op-begun (op.Cast kind operand to) tokens rest (a, d, _) = token-begun _ _ tokens a d
  op-begun (op.Phi t es) tokens rest (a, d, _) = token-begun _ _ tokens a d
  op-begun (op.Alloca t c bytes) tokens rest (a, d, _) = token-begun _ _ tokens a d
  op-begun (op.Load volatile t pointer bytes) tokens rest (a, d, _) = token-begun _ _ tokens a d
  op-begun (op.Store volatile stored pointer bytes) tokens rest (a, d, _) = token-begun _ _ tokens a d
  op-begun (op.AtomicLoad t pointer sc o bytes) tokens rest (a, d, _) = token-begun _ _ tokens a d
  op-begun (op.AtomicStore stored pointer sc o bytes) tokens rest (a, d, _) = token-begun _ _ tokens a d
  op-begun (op.CompareExchange pointer comparator new sc equal unequal bytes) tokens rest (a, d, _) = token-begun _ _ tokens a d
  op-begun (op.AtomicRmw kind pointer operand sc o bytes) tokens rest (a, d, _) = token-begun _ _ tokens a d
  op-begun (op.Fence sc o) tokens rest (a, d, _) = token-begun _ _ tokens a d
  op-begun (op.GetElementPtr inbounds t pointer is) tokens rest (a, d, _) = token-begun _ _ tokens a d
  op-begun (op.ExtractElement vector index) tokens rest (a, d, _) = token-begun _ _ tokens a d
  op-begun (op.InsertElement vector element index) tokens rest (a, d, _) = token-begun _ _ tokens a d
  op-begun (op.ShuffleVector left right mask) tokens rest (a, d, _) = token-begun _ _ tokens a d
  op-begun (op.ExtractValue aggregate index) tokens rest (a, d, _) = token-begun _ _ tokens a d
  op-begun (op.Call t callee arguments) tokens rest (a, inl (inl tail), _) = token-begun _ _ tokens a tail
  op-begun (op.Call t callee arguments) tokens rest (a, inl (inr tail), _) = token-begun _ _ tokens a tail
  op-begun (op.Call t callee arguments) tokens rest (a, inr same, (b, call, _)) = subst (λ ts. Begun ts) (sym same) (token-begun _ _ a b call)
  op-begun op.ReturnVoid tokens rest (a, d, _) = token-begun _ _ tokens a d
  op-begun (op.Return given) tokens rest (a, d, _) = token-begun _ _ tokens a d
  op-begun (op.Jump target) tokens rest (a, d, _) = token-begun _ _ tokens a d
  op-begun (op.Branch condition accepted rejected) tokens rest (a, d, _) = token-begun _ _ tokens a d
  op-begun (op.Switch selector default cases) tokens rest (a, d, _) = token-begun _ _ tokens a d
  op-begun op.Unreachable tokens rest d = token-begun _ _ tokens rest d

pub begins-there : (names : List NameText) (tokens : List Lexeme) → Begun tokens → begins_at names (byte_of tokens) tokens
begins-there names [] none = none
begins-there names (first ∷ rest) is = refl
