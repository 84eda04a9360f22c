-- A kernel, the same under other names, and a binary.
use Rattle.std.proofs.Common.{◌≡◌, ℕ, ◌+◌, List, [], ◌∷◌, ◌++◌, map, length, length-append, sym, ◌∙◌, ap, arith, subst}
use Rattle.std.specs.Prelude.{Option}
use Rattle.std.proofs.lemmas.List.{length-map}
use Rattle.kern_runs.specs.Runs.{Run}
use Rattle.kernel_tree.specs.declared.kernel.Kernel.{Kernel}
use Rattle.kernel_tree.specs.declared.kernel.KernelInst.{KernelInst}
use Rattle.kernel_tree.specs.Modules.{instruction, end_of_block}
use Rattle.kernel_runs.specs.Alike.{AlikeWhere, neither, both, SameRuns}
use Rattle.kernel_runs.specs.Images.{IsRenamed, same_number, inst_plain}
use Rattle.kernel_runs.specs.Laws.{text_size}

-- a module of text has an instruction more than its kernel
pub text-length : (insts : List KernelInst) → length (map instruction insts ++ end_of_block ∷ []) ≡ length insts + 1
text-length insts = omega (arith, length-append (map instruction insts) (end_of_block ∷ []), length-map insts instruction)

pub renamed-size : (kernel renamed : Kernel) (f : ℕ → ℕ) → IsRenamed kernel f renamed → text_size renamed ≡ text_size kernel
renamed-size kernel renamed f is =
    let same = ap length is.insts in
    omega (arith, same, length-map renamed.insts (inst_plain same_number), length-map kernel.insts (inst_plain f), text-length renamed.insts, text-length kernel.insts)

-- what shows the same step by step is alike to the same
pub same-then : (size other : ℕ) (a b d : ℕ → Option Run) → size ≡ other → ((k : ℕ) → a k ≡ b k) → SameRuns size b d → SameRuns other a d
same-then size other a b d sizes first second =
    let whole : a ≡ b = λ i k. first k i in
    let P : (ℕ → Option Run) → Type 0 = λ x. AlikeWhere other x d in
    let Q : ℕ → Type 0 = λ n. AlikeWhere n b d in
    record { step_by_step = λ k. first k ∙ second.step_by_step k; alike = subst P (sym whole) (subst Q sizes second.alike) }

turned : (size : ℕ) (a b : ℕ → Option Run) → AlikeWhere size a b → AlikeWhere size b a
turned size a b (neither none_a none_b) = neither none_b none_a
turned size a b (both x y at_x at_y alike) = both y x at_y at_x (record { forward = alike.backward; backward = alike.forward })

pub turn-around : (size : ℕ) (a b : ℕ → Option Run) → SameRuns size a b → SameRuns size b a
turn-around size a b same = record { step_by_step = λ k. sym (same.step_by_step k); alike = turned size a b same.alike }
