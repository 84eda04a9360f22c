-- The words with which instructions begin, and what these are and are not.
use Rattle.std.proofs.Common.{◌≡◌, ℕ, Bool, true, false, true≢false, if◌then◌else◌, List, codes, refl, sym, ap, ◌∙◌, subst, inl, inr}
use Rattle.std.specs.List.{list_any}
use Rattle.std.specs.Str.{bytes_eq}
use Rattle.kern_lanes.specs.declared.binary.BinOp.{BinOp}
use Rattle.kern_lanes.specs.declared.binary.BinOp.TheVariants as bin
use Rattle.ll_tokens.specs.Tokens.{Lexeme}
use Rattle.ll_tree.specs.declared.name.NameText.{NameText}
use Rattle.ll_tree.specs.declared.op.CastKind.{CastKind}
use Rattle.ll_tree.specs.declared.op.CastKind.TheVariants.{Trunc, Zext, Sext, PtrToInt, IntToPtr, Bitcast, AddrSpaceCast}
use Rattle.ll_tree.specs.declared.op.Op.{Op}
use Rattle.ll_tree.specs.declared.op.Op.TheVariants as op
use Rattle.ll_parser.specs.GrammarAttributes.{function_words}
use Rattle.ll_parser.specs.GrammarFunctions.{is_terminator, may_have_name}
use Rattle.ll_parser.specs.GrammarInsts.{binary_word, operation}
use Rattle.ll_parser.specs.GrammarValues.{cast_word}
use Rattle.ll_parser.specs.Productions.{◌>>◌, word}
use Rattle.ll_parser.specs.Reading.{EndsNowhere}
use Rattle.ll_parser.proofs.TokenFacts.{same_first}
use Rattle.ll_operands.specs.Parts.{Begins}
use Rattle.ll_bodies.specs.BodyWords.{is_word_of, one_of, terminator_word, terminator_words, unnamed_word, unnamed_words}

abbrev opposite : Bool → Bool
opposite test = if test then false else true

-- what is known of a word: whether it ends a block, whether it is given a name, and that it goes on with no instruction
pub record IsOpcode (text : List ℕ) (ends named : Bool) : Type 0 where
  pub terminates : is_word_of terminator_words text ≡ ends
  pub unnamed : is_word_of unnamed_words text ≡ opposite named
  pub no_attribute : list_any (bytes_eq text) function_words ≡ false
  pub no_space : bytes_eq text (codes "addrspace") ≡ false

abbrev known : (text : List ℕ) (ends named : Bool) → is_word_of terminator_words text ≡ ends → is_word_of unnamed_words text ≡ opposite named → list_any (bytes_eq text) function_words ≡ false → bytes_eq text (codes "addrspace") ≡ false → IsOpcode text ends named
known text ends named a b c d = record { terminates = a; unnamed = b; no_attribute = c; no_space = d }

binary_known : (kind : BinOp) → IsOpcode (binary_word kind) false true
binary_known bin.Add = known _ _ _ refl refl refl refl
binary_known bin.Sub = known _ _ _ refl refl refl refl
binary_known bin.Mul = known _ _ _ refl refl refl refl
binary_known bin.UDiv = known _ _ _ refl refl refl refl
binary_known bin.SDiv = known _ _ _ refl refl refl refl
binary_known bin.URem = known _ _ _ refl refl refl refl
binary_known bin.SRem = known _ _ _ refl refl refl refl
binary_known bin.Shl = known _ _ _ refl refl refl refl
binary_known bin.LShr = known _ _ _ refl refl refl refl
binary_known bin.AShr = known _ _ _ refl refl refl refl
binary_known bin.And = known _ _ _ refl refl refl refl
binary_known bin.Or = known _ _ _ refl refl refl refl
binary_known bin.Xor = known _ _ _ refl refl refl refl

cast_known : (kind : CastKind) → IsOpcode (cast_word kind) false true
cast_known Trunc = known _ _ _ refl refl refl refl
cast_known Zext = known _ _ _ refl refl refl refl
cast_known Sext = known _ _ _ refl refl refl refl
cast_known PtrToInt = known _ _ _ refl refl refl refl
cast_known IntToPtr = known _ _ _ refl refl refl refl
cast_known Bitcast = known _ _ _ refl refl refl refl
cast_known AddrSpaceCast = known _ _ _ refl refl refl refl

-- the word with which an instruction begins
pub record BeginsWith (tokens : List Lexeme) (ends named : Bool) : Type 0 where
  pub text : List ℕ
  pub behind : List Lexeme
  pub stands : word text tokens behind
  pub is : IsOpcode text ends named

abbrev by_word : (text : List ℕ) (tokens behind : List Lexeme) (ends named : Bool) → word text tokens behind → IsOpcode text ends named → BeginsWith tokens ends named
by_word text tokens behind ends named w k = record { text = text; behind = behind; stands = w; is = k }

module _ (names : List NameText) (tokens rest : List Lexeme) where
  pub first_word : (o : Op) → operation names o tokens rest → BeginsWith tokens (is_terminator o) (may_have_name o)
  unfolding ◌>>◌
  first_word (op.Binary kind flags t left right) (m, w, _) = by_word (binary_word kind) tokens m _ _ w (binary_known kind)
  first_word (op.Compare p t left right) (m, w, _) = by_word (codes "icmp") tokens m _ _ w (known _ _ _ refl refl refl refl)
  first_word (op.Select condition accepted rejected) (m, w, _) = by_word (codes "select") tokens m _ _ w (known _ _ _ refl refl refl refl)
  first_word (op.Cast kind operand to) (m, w, _) = by_word (cast_word kind) tokens m _ _ w (cast_known kind)
  first_word (op.Phi t es) (m, w, _) = by_word (codes "phi") tokens m _ _ w (known _ _ _ refl refl refl refl)
  first_word (op.Alloca t c bytes) (m, w, _) = by_word (codes "alloca") tokens m _ _ w (known _ _ _ refl refl refl refl)
  first_word (op.Load volatile t pointer bytes) (m, w, _) = by_word (codes "load") tokens m _ _ w (known _ _ _ refl refl refl refl)
  first_word (op.Store volatile stored pointer bytes) (m, w, _) = by_word (codes "store") tokens m _ _ w (known _ _ _ refl refl refl refl)
  first_word (op.AtomicLoad t pointer sc o bytes) (m, w, _) = by_word (codes "load") tokens m _ _ w (known _ _ _ refl refl refl refl)
  first_word (op.AtomicStore stored pointer sc o bytes) (m, w, _) = by_word (codes "store") tokens m _ _ w (known _ _ _ refl refl refl refl)
  first_word (op.CompareExchange pointer comparator new sc equal unequal bytes) (m, w, _) = by_word (codes "cmpxchg") tokens m _ _ w (known _ _ _ refl refl refl refl)
  first_word (op.AtomicRmw kind pointer operand sc o bytes) (m, w, _) = by_word (codes "atomicrmw") tokens m _ _ w (known _ _ _ refl refl refl refl)
  first_word (op.Fence sc o) (m, w, _) = by_word (codes "fence") tokens m _ _ w (known _ _ _ refl refl refl refl)
  first_word (op.GetElementPtr inbounds t pointer is) (m, w, _) = by_word (codes "getelementptr") tokens m _ _ w (known _ _ _ refl refl refl refl)
  first_word (op.ExtractElement vector index) (m, w, _) = by_word (codes "extractelement") tokens m _ _ w (known _ _ _ refl refl refl refl)
  first_word (op.InsertElement vector element index) (m, w, _) = by_word (codes "insertelement") tokens m _ _ w (known _ _ _ refl refl refl refl)
  first_word (op.ShuffleVector left right mask) (m, w, _) = by_word (codes "shufflevector") tokens m _ _ w (known _ _ _ refl refl refl refl)
  first_word (op.ExtractValue aggregate index) (m, w, _) = by_word (codes "extractvalue") tokens m _ _ w (known _ _ _ refl refl refl refl)
  first_word (op.Call t callee arguments) (m, inl (inl w), _) = by_word (codes "tail") tokens m _ _ w (known _ _ _ refl refl refl refl)
  first_word (op.Call t callee arguments) (m, inl (inr w), _) = by_word (codes "notail") tokens m _ _ w (known _ _ _ refl refl refl refl)
  first_word (op.Call t callee arguments) (m, inr same, (n, w, _)) = by_word (codes "call") tokens n _ _ (subst (λ ls. word (codes "call") ls n) (sym same) w) (known _ _ _ refl refl refl refl)
  first_word op.ReturnVoid (m, w, _) = by_word (codes "ret") tokens m _ _ w (known _ _ _ refl refl refl refl)
  first_word (op.Return given) (m, w, _) = by_word (codes "ret") tokens m _ _ w (known _ _ _ refl refl refl refl)
  first_word (op.Jump target) (m, w, _) = by_word (codes "br") tokens m _ _ w (known _ _ _ refl refl refl refl)
  first_word (op.Branch condition accepted rejected) (m, w, _) = by_word (codes "br") tokens m _ _ w (known _ _ _ refl refl refl refl)
  first_word (op.Switch selector default cases) (m, w, _) = by_word (codes "switch") tokens m _ _ w (known _ _ _ refl refl refl refl)
  first_word op.Unreachable w = by_word (codes "unreachable") tokens rest _ _ w (known _ _ _ refl refl refl refl)

-- a word is one of some, or isn't
pub is_one : (words : List (List ℕ)) (text : List ℕ) (tokens rest : List Lexeme) → word text tokens rest → is_word_of words text ≡ true → Begins (one_of words) tokens
is_one words text tokens rest (l, is, kind, same) there = (rest, (l, is, kind, ap (is_word_of words) same ∙ there))

pub is_none : (words : List (List ℕ)) (text : List ℕ) (tokens rest : List Lexeme) → word text tokens rest → is_word_of words text ≡ false → EndsNowhere (one_of words) tokens
is_none words text tokens rest (l, is, kind, same) absent end (m, is', _, there) =
    true≢false (sym there ∙ ap (λ (x : Lexeme). is_word_of words x.text) (same_first m l _ _ (sym is' ∙ is)) ∙ ap (is_word_of words) same ∙ absent)

module _ (names : List NameText) (o : Op) (tokens rest : List Lexeme) (d : operation names o tokens rest) where
  pub ends_block : is_terminator o ≡ true → Begins terminator_word tokens
  ends_block e = is_one terminator_words _ tokens _ (first_word names tokens rest o d).stands ((first_word names tokens rest o d).is.terminates ∙ e)

  pub goes_on : is_terminator o ≡ false → EndsNowhere terminator_word tokens
  goes_on e = is_none terminator_words _ tokens _ (first_word names tokens rest o d).stands ((first_word names tokens rest o d).is.terminates ∙ e)

  pub never_named : may_have_name o ≡ false → Begins unnamed_word tokens
  never_named e = is_one unnamed_words _ tokens _ (first_word names tokens rest o d).stands ((first_word names tokens rest o d).is.unnamed ∙ ap opposite e)

  pub may_be_named : may_have_name o ≡ true → EndsNowhere unnamed_word tokens
  may_be_named e = is_none unnamed_words _ tokens _ (first_word names tokens rest o d).stands ((first_word names tokens rest o d).is.unnamed ∙ ap opposite e)
