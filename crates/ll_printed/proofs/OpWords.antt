-- The words of instructions are words.
use Rattle.std.proofs.Common.{◌≡◌, true, refl}
use Rattle.kern_lanes.specs.declared.binary.BinOp.{BinOp}
use Rattle.kern_lanes.specs.declared.binary.BinOp.TheVariants as bin
use Rattle.kern_lanes.specs.declared.comparison.Pred.{Pred}
use Rattle.kern_lanes.specs.declared.comparison.Pred.TheVariants as pred
use Rattle.kern_lanes.specs.declared.atomic.RmwOp.{RmwOp}
use Rattle.kern_lanes.specs.declared.atomic.RmwOp.TheVariants as rmw
use Rattle.ll_tokens.specs.declared.kinds.TokenKind.TheVariants.{Word}
use Rattle.ll_tokens.specs.Forms.{has_form}
use Rattle.ll_tokens.specs.Tokens.{has_kind}
use Rattle.ll_tree.specs.declared.op.FlagWord.{FlagWord}
use Rattle.ll_tree.specs.declared.op.FlagWord.TheVariants.{Nuw, Nsw, Exact}
use Rattle.ll_tree.specs.declared.op.Order.{Order}
use Rattle.ll_tree.specs.declared.op.Order.TheVariants.{Monotonic, Acquire, Release, AcqRel, SeqCst}
use Rattle.ll_parser.specs.GrammarInsts.{binary_word, flag_word, order_word, predicate_word, rmw_word}

pub binary-kind : (kind : BinOp) → has_kind Word (binary_word kind) ≡ true
unfolding has_form
binary-kind bin.Add = refl
binary-kind bin.Sub = refl
binary-kind bin.Mul = refl
binary-kind bin.UDiv = refl
binary-kind bin.SDiv = refl
binary-kind bin.URem = refl
binary-kind bin.SRem = refl
binary-kind bin.Shl = refl
binary-kind bin.LShr = refl
binary-kind bin.AShr = refl
binary-kind bin.And = refl
binary-kind bin.Or = refl
binary-kind bin.Xor = refl

pub predicate-kind : (p : Pred) → has_kind Word (predicate_word p) ≡ true
unfolding has_form
predicate-kind pred.Eq = refl
predicate-kind pred.Ne = refl
predicate-kind pred.Ugt = refl
predicate-kind pred.Uge = refl
predicate-kind pred.Ult = refl
predicate-kind pred.Ule = refl
predicate-kind pred.Sgt = refl
predicate-kind pred.Sge = refl
predicate-kind pred.Slt = refl
predicate-kind pred.Sle = refl

pub rmw-kind : (kind : RmwOp) → has_kind Word (rmw_word kind) ≡ true
unfolding has_form
rmw-kind rmw.Xchg = refl
rmw-kind rmw.Add = refl
rmw-kind rmw.Sub = refl
rmw-kind rmw.And = refl
rmw-kind rmw.Or = refl
rmw-kind rmw.Xor = refl
rmw-kind rmw.Max = refl
rmw-kind rmw.Min = refl
rmw-kind rmw.UMax = refl
rmw-kind rmw.UMin = refl

pub order-kind : (o : Order) → has_kind Word (order_word o) ≡ true
unfolding has_form
order-kind Monotonic = refl
order-kind Acquire = refl
order-kind Release = refl
order-kind AcqRel = refl
order-kind SeqCst = refl

pub flag-kind : (f : FlagWord) → has_kind Word (flag_word f) ≡ true
unfolding has_form
flag-kind Nuw = refl
flag-kind Nsw = refl
flag-kind Exact = refl
