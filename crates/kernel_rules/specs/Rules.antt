-- The rules that a kernel's text may break, each with all the places where it is broken.
use Rattle.std.specs.Prelude.{ℕ, List, [], ◌∷◌, map, filter}
use Rattle.rule_order.specs.Breaks.{RulePlaces}
use Rattle.rule_order.specs.declared.breaks.Break.{Break}
use Rattle.kernel_tree.specs.declared.kernel.Kernel.{Kernel}
use Rattle.kernel_tree.specs.Canonical.{numbers_defined}
use Rattle.kernel_tree.specs.Covered.{is_undefined, used_byte}
use Rattle.kernel_tree.specs.Names.{uses}

-- each place where a name is used that is defined nowhere (LLVM 14, Identifiers)
abbrev pub undefined_places : Kernel → List ℕ
undefined_places kernel = map used_byte (filter (is_undefined (numbers_defined kernel)) (uses kernel))

-- rule 20 at these places
abbrev pub undefined_names : List ℕ → RulePlaces
undefined_names places = record { rule = 20; places = places }

-- the rules of names
abbrev pub name_rules : Kernel → List RulePlaces
name_rules kernel = undefined_names (undefined_places kernel) ∷ []

abbrev pub undefined_at : ℕ → Break
undefined_at byte = record { rule = 20; place = byte }
