-- The runs of kernels under other names and of binaries.
use Rattle.std.proofs.Common.{◌+◌, ap, refl}
use Rattle.std.specs.Str.{bytes_eq}
use Rattle.kern_acts.specs.Bodies.{bodies_size}
use Rattle.kern_acts.proofs.Bodies.{is-program}
use Rattle.ll_play.specs.Meaning as text
use Rattle.spv_play.specs.Meaning as binary
use Rattle.kernel_tree.specs.Modules.{text_module}
use Rattle.kernel_tree.specs.Numbered.{name_bytes}
use Rattle.kernel_runs.specs.Images.{same_number}
use Rattle.kernel_runs.specs.Laws.{RenamedRunsAreSame, ImageRunsAreSame, RenamedImageRunsAreSame, text_size}
use Rattle.kernel_runs.proofs.Starts.{same-runs}
use Rattle.kernel_runs.proofs.Texts.{text-plays, text-start}
use Rattle.kernel_runs.proofs.Binaries.{image-plays, image-start}
use Rattle.kernel_runs.proofs.Joins.{renamed-size, same-then}

pub renamed-runs : RenamedRunsAreSame
unfolding text.llvm_run
renamed-runs = λ kernel renamed f is name inputs.
    let m = text_module kernel in
    let n = text_module renamed in
    same-runs kernel same_number f (text.llvm_program m) (text.llvm_program n)
    (text-plays kernel same_number kernel (λ a b at_a at_b h. h) refl) (text-plays kernel f renamed is.injective is.insts)
    (is-program m.bodies (text.is_placing m) text.inst_act) (is-program n.bodies (text.is_placing n) text.inst_act)
    inputs (bytes_eq (name_bytes kernel) name) (text.llvm_start m name inputs) (text.llvm_start n name inputs)
    (text-start kernel same_number kernel refl refl name inputs) (text-start kernel f renamed is.name is.params name inputs)

pub image-runs : ImageRunsAreSame
unfolding text.llvm_run binary.spirv_run
image-runs = λ kernel m f typed is name inputs.
    let n = text_module kernel in
    same-runs kernel same_number f (text.llvm_program n) (binary.spirv_program m)
    (text-plays kernel same_number kernel (λ a b at_a at_b h. h) refl) (image-plays kernel f m typed is)
    (is-program n.bodies (text.is_placing n) text.inst_act) (is-program m.bodies (binary.is_placing m) (binary.inst_act m))
    inputs (bytes_eq (name_bytes kernel) name) (text.llvm_start n name inputs) (binary.spirv_start m name inputs)
    (text-start kernel same_number kernel refl refl name inputs) (image-start kernel f m typed is name inputs)

pub renamed-image-runs : RenamedImageRunsAreSame
renamed-image-runs = λ kernel renamed m f g is typed image name inputs.
    same-then (text_size renamed + bodies_size m.bodies) (text_size kernel + bodies_size m.bodies)
    (text.llvm_run (text_module kernel) name inputs) (text.llvm_run (text_module renamed) name inputs) (binary.spirv_run m name inputs)
    (ap (λ n. n + bodies_size m.bodies) (renamed-size kernel renamed f is))
    (renamed-runs kernel renamed f is name inputs).step_by_step (image-runs renamed m g typed image name inputs)
