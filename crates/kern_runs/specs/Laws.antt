-- That machines which correspond are alike, for states that are lists of numbers and are related by a test.
use Rattle.std.specs.Prelude.{ℕ, ◌+◌, Bool, List, IsTrue}
use Rattle.kern_runs.specs.Runs.{Run, Alike}
use Rattle.kern_runs.specs.Machines.{Machine, IsMachine, Corresponds, run}

abbrev pub State : Type 0
State = List ℕ

abbrev pub AlikeIsSymmetric : Type 0
AlikeIsSymmetric = (a b : ℕ → Run) (size : ℕ) → Alike a b size → Alike b a size

-- the two directions, and the stretch, of one correspondence
abbrev pub CorrespondenceIsAlike : Type 0
CorrespondenceIsAlike =
    (a b : Machine State) (related : State → State → Bool) (s t : State) → IsMachine a → IsMachine b
    → Corresponds a b (λ x y. IsTrue (related x y)) → IsTrue (related s t) → Alike (run a s) (run b t) (a.size + b.size)

-- correspondences one behind the other are one
abbrev pub CorrespondencesJoin : Type 0
CorrespondencesJoin =
    (a b c : Machine State) (first second : State → State → Bool)
    → Corresponds a b (λ x y. IsTrue (first x y)) → Corresponds b c (λ x y. IsTrue (second x y))
    → Corresponds a c (λ x z. (y : State) × IsTrue (first x y) × IsTrue (second y z))
