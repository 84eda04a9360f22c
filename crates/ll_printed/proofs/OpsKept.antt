-- What an instruction is allowed doesn't hang on places.
use Rattle.std.proofs.Common.{◌≡◌, ℕ, Bool, true, false, IsTrue, List, [], ◌∷◌, refl, sym, ap, ◌∙◌}
use Rattle.std.specs.Prelude.{if◌then◌else◌}
use Rattle.ll_tree.specs.declared.op.Op.{Op}
use Rattle.ll_tree.specs.declared.op.Op.TheVariants as op
use Rattle.ll_tree.specs.declared.ty.TypeBase.{TypeBase, Void, Int, Half, Float, Double, Named, Array', Vector', Struct', Packed'}
use Rattle.ll_tree.specs.Names.{name_unplaced}
use Rattle.ll_tree.specs.Types.{base_changed}
use Rattle.ll_parser.specs.GrammarFunctions.{has_value, is_terminator, is_void_base, may_have_name}
use Rattle.ll_printed.proofs.OpsWritten.{bare_op}

-- what three tests say of an instruction
abbrev tests : Op → Bool × Bool × Bool
tests o = (is_terminator o, may_have_name o, has_value o)

void-same : (b : TypeBase) (ps : List ℕ) → is_void_base (base_changed name_unplaced b) ps ≡ is_void_base b ps
void-same Void [] = refl
void-same Void (p ∷ ps) = refl
void-same (Int bits) ps = refl
void-same Half ps = refl
void-same Float ps = refl
void-same Double ps = refl
void-same (Named name) ps = refl
void-same (Array' count shape part) ps = refl
void-same (Vector' lanes shape part) ps = refl
void-same (Struct' shape members) ps = refl
void-same (Packed' shape members) ps = refl

tests-same : (o : Op) → tests (bare_op o) ≡ tests o
tests-same (op.Binary kind flags t left right) = refl
tests-same (op.Compare p t left right) = refl
tests-same (op.Select condition accepted rejected) = refl
tests-same (op.Cast kind operand to) = refl
tests-same (op.Phi t es) = refl
tests-same (op.Alloca t c bytes) = refl
tests-same (op.Load volatile t pointer bytes) = refl
tests-same (op.Store volatile stored pointer bytes) = refl
tests-same (op.AtomicLoad t pointer sc o bytes) = refl
tests-same (op.AtomicStore stored pointer sc o bytes) = refl
tests-same (op.CompareExchange pointer comparator new sc equal unequal bytes) = refl
tests-same (op.AtomicRmw kind pointer operand sc o bytes) = refl
tests-same (op.Fence sc o) = refl
tests-same (op.GetElementPtr inbounds t pointer is) = refl
tests-same (op.ExtractElement vector index) = refl
tests-same (op.InsertElement vector element index) = refl
tests-same (op.ShuffleVector left right mask) = refl
tests-same (op.ExtractValue aggregate index) = refl
tests-same (op.Call t callee arguments) = ap (λ (b : Bool). (false, true, if b then false else true)) (void-same t.base t.pointers)
tests-same op.ReturnVoid = refl
tests-same (op.Return given) = refl
tests-same (op.Jump target) = refl
tests-same (op.Branch condition accepted rejected) = refl
tests-same (op.Switch selector default cases) = refl
tests-same op.Unreachable = refl

tests-kept : (found o : Op) → bare_op found ≡ bare_op o → tests found ≡ tests o
tests-kept found o same = sym (tests-same found) ∙ (ap tests same ∙ tests-same o)

pub terminator-kept : (found o : Op) → bare_op found ≡ bare_op o → is_terminator found ≡ is_terminator o
terminator-kept found o same = ap (λ t. t.0) (tests-kept found o same)

pub name-kept : (found o : Op) → bare_op found ≡ bare_op o → may_have_name found ≡ may_have_name o
name-kept found o same = ap (λ t. t.1) (tests-kept found o same)

pub value-kept : (found o : Op) → bare_op found ≡ bare_op o → has_value found ≡ has_value o
value-kept found o same = ap (λ t. t.2) (tests-kept found o same)

-- what has a value may have a name
pub named-for-value : (o : Op) → IsTrue (has_value o) → IsTrue (may_have_name o)
named-for-value (op.Call t callee arguments) is = refl
named-for-value (op.Binary kind flags t left right) is = is
named-for-value (op.Compare p t left right) is = is
named-for-value (op.Select condition accepted rejected) is = is
named-for-value (op.Cast kind operand to) is = is
named-for-value (op.Phi t es) is = is
named-for-value (op.Alloca t c bytes) is = is
named-for-value (op.Load volatile t pointer bytes) is = is
named-for-value (op.Store volatile stored pointer bytes) is = is
named-for-value (op.AtomicLoad t pointer sc o bytes) is = is
named-for-value (op.AtomicStore stored pointer sc o bytes) is = is
named-for-value (op.CompareExchange pointer comparator new sc equal unequal bytes) is = is
named-for-value (op.AtomicRmw kind pointer operand sc o bytes) is = is
named-for-value (op.Fence sc o) is = is
named-for-value (op.GetElementPtr inbounds t pointer is) has = has
named-for-value (op.ExtractElement vector index) is = is
named-for-value (op.InsertElement vector element index) is = is
named-for-value (op.ShuffleVector left right mask) is = is
named-for-value (op.ExtractValue aggregate index) is = is
named-for-value op.ReturnVoid is = is
named-for-value (op.Return given) is = is
named-for-value (op.Jump target) is = is
named-for-value (op.Branch condition accepted rejected) is = is
named-for-value (op.Switch selector default cases) is = is
named-for-value op.Unreachable is = is
