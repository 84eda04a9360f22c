use Rattle.std.proofs.Common.{[], ◌∷◌, ◌∙◌, ap, None}
use Rattle.spv_words.specs.declared.words.Order.TheVariants.{Little}
use Rattle.to_spirv.specs.ClosedTypes.{listed_by}
use Rattle.to_spirv.specs.KernelTypes.{row_of_params}
use Rattle.to_spirv.specs.Partner.{named_types}
use Rattle.to_spirv.proofs.partner.module_over.Goals as goal

pub returns : goal.returns
returns c =
    let types = c.in_ok-named_types.ensures ∙ ap (λ ps. named_types (listed_by c.args.needed (row_of_params ps))) c.as_slice.ensures in
    let entries = c.in_ok-one.ensures ∙ ap (λ e. e ∷ []) c.in_ok-entry_partner.ensures in
    let functions = c.in_ok-one-2.ensures ∙ ap (λ e. e ∷ []) c.in_ok-function_partner.ensures in
    let bodies = c.in_ok-one-3.ensures ∙ ap (λ e. e ∷ []) c.in_ok-body_partner.ensures in
    λ i. record {
      order = Little;
      version = 0x10200;
      bound = c.bound.ensures i;
      capabilities = c.in_ok-capabilities.ensures i;
      extensions = c.new.ensures i;
      imports = c.new-2.ensures i;
      memory_model = record { addressing = 2; memory = 2; place = 0 };
      entries = entries i;
      strings = c.new-3.ensures i;
      source = None;
      decorations = c.new-4.ensures i;
      decoration_groups = c.new-5.ensures i;
      groups = c.new-6.ensures i;
      types = types i;
      constants = c.new-7.ensures i;
      variables = c.new-8.ensures i;
      functions = functions i;
      bodies = bodies i;
    }
