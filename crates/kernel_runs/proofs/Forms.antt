-- Canonical forms of kernels, and binaries with their instructions.
use Rattle.std.proofs.Common.{◌≡◌, ◌+◌, [], ◌∷◌, map, length, length-append, sym, ap, arith}
use Rattle.std.proofs.lemmas.List.{length-map}
use Rattle.kern_acts.specs.Bodies.{bodies_size, blocks_size}
use Rattle.ll_play.specs.Meaning.{llvm_run}
use Rattle.spv_play.specs.Meaning.{spirv_run}
use Rattle.kernel_tree.specs.Canonical.{canonical}
use Rattle.kernel_tree.specs.Modules.{text_module}
use Rattle.kernel_runs.specs.Canonical.{CanonicalRunsAreSame, ImageSizesAreSame, FormShowsImage}
use Rattle.kernel_runs.specs.Images.{inst_image, end_image, unplaced}
use Rattle.kernel_runs.specs.Laws.{text_size}
use Rattle.kernel_runs.proofs.CoveredForms.{covered-forms}
use Rattle.kernel_runs.proofs.Joins.{same-then, text-length}
use Rattle.kernel_runs.proofs.Runs.{renamed-runs, image-runs}

pub canonical-runs : CanonicalRunsAreSame
canonical-runs kernel covered = let form = covered-forms kernel covered in renamed-runs kernel (canonical kernel) form.number_of form.renamed

pub image-size : ImageSizesAreSame
image-size kernel m f is =
    let image = map (inst_image f is.int_id is.states_alignment) kernel.insts in
    let one : bodies_size m.bodies ≡ blocks_size is.body.blocks + 0 = ap bodies_size is.bodies in
    let two : blocks_size is.body.blocks ≡ length is.block.insts + 0 = ap blocks_size is.blocks in
    let same = ap length is.insts in
    omega (arith, one, two, same, length-map is.block.insts unplaced, length-append image (end_image ∷ []), length-map kernel.insts (inst_image f is.int_id is.states_alignment), text-length kernel.insts)

pub form-shows-image : FormShowsImage
form-shows-image kernel m f covered is name inputs =
    let typed = (covered-forms kernel covered).typed in
    same-then (text_size kernel + text_size (canonical kernel)) (bodies_size m.bodies + text_size (canonical kernel))
    (spirv_run m name inputs) (llvm_run (text_module kernel) name inputs) (llvm_run (text_module (canonical kernel)) name inputs)
    (ap (λ n. n + text_size (canonical kernel)) (sym (image-size kernel m f is)))
    (λ k. sym ((image-runs kernel m f typed is name inputs).step_by_step k)) (canonical-runs kernel covered name inputs)
