-- What follows of the definitions.
use Rattle.std.specs.Prelude.{◌≡◌, ℕ}
use Rattle.spv_words.specs.declared.words.Order.{Order}
use Rattle.spv_words.specs.declared.words.Order.TheVariants.{Little}
use Rattle.spv_codec.specs.Framing.{module_words}
use Rattle.spv_module.specs.Example.{example}
use Rattle.spv_module.specs.FirstKernel.{first_kernel, first_kernel_words}
use Rattle.spv_module.specs.Modules.{without_places}
use Rattle.spv_module.specs.Sections.{flattened}

-- wherever the parts of the example stand and in either order, without places it is the example in little order with each part at 0
abbrev pub ExampleLosesItsPlaces : Type 0
ExampleLosesItsPlaces = (order : Order) (place : ℕ → ℕ) → without_places (example order place) ≡ example Little (λ word. 0)

-- the words of a small module, as the tables of the standard give them
abbrev pub FirstKernelIsSpelled : Type 0
FirstKernelIsSpelled = module_words (flattened first_kernel) ≡ first_kernel_words
