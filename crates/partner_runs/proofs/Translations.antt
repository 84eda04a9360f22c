-- The binaries that translations write.
use Rattle.std.proofs.Common.{◌+◌, sym, ap}
use Rattle.kern_acts.specs.Bodies.{bodies_size}
use Rattle.kernel_tree.specs.Canonical.{canonical}
use Rattle.kernel_tree.specs.Modules.{text_module}
use Rattle.ll_play.specs.Meaning.{llvm_run}
use Rattle.spv_play.specs.Meaning.{spirv_run}
use Rattle.to_spirv.specs.Partner.{partner}
use Rattle.kernel_runs.specs.Laws.{text_size}
use Rattle.kernel_runs.proofs.CoveredForms.{covered-forms}
use Rattle.kernel_runs.proofs.Forms.{image-size}
use Rattle.kernel_runs.proofs.Joins.{same-then}
use Rattle.kernel_runs.proofs.Runs.{image-runs, renamed-image-runs}
use Rattle.partner_runs.specs.Laws.{PartnerRunsAreSame, TranslatedRunsAreSame, RewrittenRunsAreSame}
use Rattle.partner_runs.proofs.Partners.{value_id, partner-image}

pub partner-runs : PartnerRunsAreSame
partner-runs kernel renamed f is typed = renamed-image-runs kernel renamed (partner renamed) f (value_id renamed) is typed (partner-image renamed)

pub translated-runs : TranslatedRunsAreSame
translated-runs kernel covered =
    let form = covered-forms kernel covered in
    partner-runs kernel (canonical kernel) form.number_of form.renamed form.form_typed

pub rewritten-runs : RewrittenRunsAreSame
rewritten-runs kernel m f covered is name inputs =
    let typed = (covered-forms kernel covered).typed in
    let size = bodies_size (partner (canonical kernel)).bodies in
    same-then (text_size kernel + size) (bodies_size m.bodies + size)
    (spirv_run m name inputs) (llvm_run (text_module kernel) name inputs) (spirv_run (partner (canonical kernel)) name inputs)
    (ap (λ n. n + size) (sym (image-size kernel m f is)))
    (λ k. sym ((image-runs kernel m f typed is name inputs).step_by_step k)) (translated-runs kernel covered name inputs)
