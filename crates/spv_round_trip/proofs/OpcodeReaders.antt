-- Readers of several opcodes.
use Rattle.std.proofs.Common.{◌≡◌, ℕ, ◌==◌, Bool, true, false, List, [], ◌∷◌, Option, Some, None, refl, ap, sym, ◌∙◌, eqb-true}
use Rattle.std.specs.Prelude.{find, if◌then◌else◌}
use Rattle.std.proofs.lemmas.Bool.{false≢true}
use Rattle.spv_layout.specs.declared.opcode.Opcode.{Opcode}
use Rattle.spv_layout.specs.declared.opcode.Opcode.TheVariants as op
use Rattle.spv_layout.specs.declared.opcode.TheConstants.{OPCODES}
use Rattle.spv_layout.specs.Forms.{number_of, opcode_of}
use Rattle.spv_build.specs.Items.{decoration_by, decoration_of, value_by, constant_with, constant_by, constant_of}
use Rattle.spv_round_trip.proofs.Lists.{anywhere}
use Rattle.spv_round_trip.proofs.ListsBack.{Ignores}

none_some : {A P : Type 0} (x : A) → None ≡ Some x → P
none_some x e = cc

some_same : {A : Type 0} (x y : A) → Some x ≡ Some y → x ≡ y
some_same x y e = cc

-- what is found passes
found-passes : {A : Type 0} (test : A → Bool) (xs : List A) (x : A) → find test xs ≡ Some x → test x ≡ true
found-passes test [] x e = none_some x e
found-passes test (y ∷ ys) x e = by_test (test y) refl (found-passes test ys x) e
  where
    by_test : (b : Bool) → test y ≡ b → (find test ys ≡ Some x → test x ≡ true) → (if b then Some y else find test ys) ≡ Some x → test x ≡ true
    by_test true is rest same = ap test (sym (some_same y x same)) ∙ is
    by_test false is rest found = rest found

-- the opcode of a number has that number
pub opcode-number : (number : ℕ) (opcode : Opcode) → opcode_of number ≡ Some opcode → number_of opcode ≡ number
opcode-number number opcode e = eqb-true (number_of opcode) number (found-passes (λ o. number_of o == number) OPCODES opcode e)

-- an opcode that a test refuses is not that of an instruction which passes
pub refused : {P : Type 0} (test : ℕ → Bool) (opcode : Opcode) (number : ℕ) → test (number_of opcode) ≡ false → test number ≡ true → opcode_of number ≡ Some opcode → P
refused test opcode number other passes e = absurd (false≢true (sym other ∙ (ap test (opcode-number number opcode e) ∙ passes)))

pub decorations-ignore : (test : ℕ → Bool) → test (number_of op.Decorate) ≡ false → test (number_of op.MemberDecorate) ≡ false → Ignores (anywhere decoration_of) test
decorations-ignore test first second inst passes = by_opcode (opcode_of inst.op) (λ opcode e. e)
  where
    by_opcode : (o : Option Opcode) → ((opcode : Opcode) → o ≡ Some opcode → opcode_of inst.op ≡ Some opcode) → decoration_by o 0 inst.operands ≡ None
    by_opcode None is = refl
    by_opcode (Some op.Decorate) is = refused test op.Decorate inst.op first passes (is op.Decorate refl)
    by_opcode (Some op.MemberDecorate) is = refused test op.MemberDecorate inst.op second passes (is op.MemberDecorate refl)
    by_opcode (Some opcode) is = refl

no-value : (type id : ℕ) (o : Option Opcode) (words : List ℕ) → value_by o words ≡ None → constant_by o 0 (type ∷ id ∷ words) ≡ None
no-value type id o words e = ap (λ v. constant_with type id 0 v) e

pub constants-ignore : (test : ℕ → Bool) → test (number_of op.ConstantTrue) ≡ false → test (number_of op.ConstantFalse) ≡ false → test (number_of op.Constant) ≡ false
    → test (number_of op.ConstantComposite) ≡ false → test (number_of op.ConstantNull) ≡ false → Ignores (anywhere constant_of) test
constants-ignore test h1 h2 h3 h4 h5 inst passes = by_words inst.operands
  where
    by_opcode : (o : Option Opcode) (words : List ℕ) → ((opcode : Opcode) → o ≡ Some opcode → opcode_of inst.op ≡ Some opcode) → value_by o words ≡ None
    by_opcode None words is = refl
    by_opcode (Some op.ConstantTrue) words is = refused test op.ConstantTrue inst.op h1 passes (is op.ConstantTrue refl)
    by_opcode (Some op.ConstantFalse) words is = refused test op.ConstantFalse inst.op h2 passes (is op.ConstantFalse refl)
    by_opcode (Some op.Constant) words is = refused test op.Constant inst.op h3 passes (is op.Constant refl)
    by_opcode (Some op.ConstantComposite) words is = refused test op.ConstantComposite inst.op h4 passes (is op.ConstantComposite refl)
    by_opcode (Some op.ConstantNull) words is = refused test op.ConstantNull inst.op h5 passes (is op.ConstantNull refl)
    by_opcode (Some opcode) words is = refl

    by_words : (words : List ℕ) → constant_by (opcode_of inst.op) 0 words ≡ None
    by_words [] = refl
    by_words (type ∷ []) = refl
    by_words (type ∷ id ∷ words) = no-value type id (opcode_of inst.op) words (by_opcode (opcode_of inst.op) words (λ opcode e. e))
