-- What stands at the head of functions and variables, as it is read (LLVM 14, Linkage Types; Calling Conventions; Functions).
use Rattle.std.specs.Prelude.{◌≡◌, Bool, true, false, codes}
use Rattle.ll_tree.specs.declared.module.Linkage.{Linkage}
use Rattle.ll_tree.specs.declared.module.Linkage.TheVariants.{External}
use Rattle.ll_parser.specs.GrammarItems.{linkage}
use Rattle.ll_parser.specs.Productions.{Production, ◌or◌, word}
use Rattle.ll_parser.specs.Reading.{EndsNowhere}
use Rattle.ll_attributes.specs.Lists.{maybe_here}

-- a linkage: the external one where no word of another begins the tokens
abbrev pub linkage_here : Linkage → Production
linkage_here External tokens rest =
    (tokens ≡ rest) × EndsNowhere (word (codes "internal")) tokens × EndsNowhere (word (codes "private")) tokens
linkage_here l tokens rest = linkage l tokens rest

-- the calling convention of a kernel, or that of another function, whose word may be left out
abbrev pub convention_here : Bool → Production
convention_here true tokens rest = word (codes "spir_kernel") tokens rest
convention_here false tokens rest =
    EndsNowhere (word (codes "spir_kernel")) tokens × maybe_here (word (codes "spir_func")) tokens rest

-- the calling convention of a call
abbrev pub call_convention : Production
call_convention = word (codes "spir_kernel") or word (codes "spir_func")
