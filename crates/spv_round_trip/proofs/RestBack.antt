-- Annotations and constants are read back from the instructions of a module.
use Rattle.std.proofs.Common.{◌≡◌, ℕ, Bool, true, false, List, [], ◌∷◌, map, Option, Some, None, refl, ap, ◌∙◌}
use Rattle.spv_codec.specs.declared.module.RawInst.{RawInst}
use Rattle.spv_layout.specs.declared.opcode.Opcode.TheVariants as op
use Rattle.spv_module.specs.declared.declared.Declared.{Declared}
use Rattle.spv_module.specs.declared.module.Constant.{Constant}
use Rattle.spv_module.specs.declared.module.Decoration.{Decoration}
use Rattle.spv_module.specs.declared.module.SpvModule.{SpvModule}
use Rattle.spv_module.specs.Modules.{decoration_moved, decoration_group_moved, group_moved, constant_moved}
use Rattle.spv_module.specs.Sections.{merged, inst_of, types_declared, constant_declared, variable_declared}
use Rattle.spv_module.specs.Spelled.{decoration_by, decoration_spelled, decoration_group_spelled, group_spelled, constant_spelled}
use Rattle.spv_build.specs.Items.{items_of, decoration_of, decoration_group_by, decoration_group_of, group_by, group_of, constant_of}
use Rattle.spv_build.proofs.ReadBack as known
use Rattle.spv_round_trip.specs.Laws.{AreRead, ListsAreBuiltAgain, unplace}
use Rattle.spv_round_trip.specs.Writable.{AreInBodies}
use Rattle.spv_round_trip.proofs.Lists.{Each, each-append, each-map, each-weaker, each-all, anywhere, IsSilent, items-each, items-behind, items-before}
use Rattle.spv_round_trip.proofs.Natural as natural
use Rattle.spv_round_trip.proofs.ListsBack.{read-back, said-ignores, from-annotations, from-globals, capabilities-back, extensions-back, imports-back, memory-model-back, entries-back, modes-back, strings-back, source-back}
use Rattle.spv_round_trip.proofs.MergedLists.{merged-first, merged-second}
use Rattle.spv_round_trip.proofs.OpcodeReaders.{decorations-ignore, constants-ignore}
use Rattle.spv_round_trip.proofs.SectionParts.{Declares, in_preamble, in_debug, in_annotations, in_globals, in_functions, in_types, in_variables, types-declare, variables-declare}

module _ {A : Type 0} (g : RawInst → Option A) (none : (member : Option ℕ) (decoration : Decoration) → IsSilent g (decoration_by member decoration)) where
  decorations-silent : (decorations : List Decoration) → Each (IsSilent g) (map decoration_spelled decorations)
  decorations-silent decorations = each-map (IsSilent g) decoration_spelled (λ d. none d.member d) decorations

abbrev decoration_with : Option ℕ → Decoration → Decoration
decoration_with member decoration = record decoration { member = member; place = 0 }

decoration-back : (member : Option ℕ) (decoration : Decoration) → anywhere decoration_of (decoration_by member decoration) ≡ Some (decoration_with member decoration)
decoration-back None decoration = refl
decoration-back (Some member) decoration = refl

no-group : (member : Option ℕ) (decoration : Decoration) → anywhere group_of (decoration_by member decoration) ≡ None
no-group None decoration = refl
no-group (Some member) decoration = refl

no-decoration_group : (member : Option ℕ) (decoration : Decoration) → anywhere decoration_group_of (decoration_by member decoration) ≡ None
no-decoration_group None decoration = refl
no-decoration_group (Some member) decoration = refl

constant-insts : (constants : List Constant) → map inst_of (map constant_declared constants) ≡ map constant_spelled constants
constant-insts [] = refl
constant-insts (c ∷ cs) = ap (λ rest. constant_spelled c ∷ rest) (constant-insts cs)

module _ (m : SpvModule) (bodies : AreInBodies m) where
  pub decorations-back : AreRead (decoration_moved unplace) decoration_of m m.decorations
  decorations-back =
      let g = anywhere decoration_of in
      let items = map (decoration_moved unplace) m.decorations in
      read-back decoration_of (decoration_moved unplace) natural.decorations m m.decorations
      (from-annotations g m bodies items (decorations-ignore in_preamble refl refl) (decorations-ignore in_debug refl refl) (decorations-ignore in_globals refl refl) (decorations-ignore in_functions refl refl)
      (items-before g (map decoration_spelled m.decorations) _ items
      (items-each g decoration_spelled (decoration_moved unplace) m.decorations
      (each-all (λ d. g (decoration_spelled d) ≡ Some (decoration_moved unplace d)) (λ d. decoration-back d.member d) m.decorations))
      (each-append (IsSilent g) (map decoration_group_spelled m.decoration_groups) _ (each-map (IsSilent g) decoration_group_spelled (λ x. refl) m.decoration_groups)
      (each-map (IsSilent g) group_spelled (λ x. refl) m.groups))))

  pub decoration-groups-back : AreRead (decoration_group_moved unplace) decoration_group_of m m.decoration_groups
  decoration-groups-back =
      let g = anywhere decoration_group_of in
      let items = map (decoration_group_moved unplace) m.decoration_groups in
      let ignores = said-ignores op.DecorationGroup decoration_group_by in
      read-back decoration_group_of (decoration_group_moved unplace) natural.decoration_groups m m.decoration_groups
      (from-annotations g m bodies items (ignores in_preamble refl) (ignores in_debug refl) (ignores in_globals refl) (ignores in_functions refl)
      (items-behind g (map decoration_spelled m.decorations) _ items (decorations-silent g no-decoration_group m.decorations)
      (items-before g (map decoration_group_spelled m.decoration_groups) _ items
      (items-each g decoration_group_spelled (decoration_group_moved unplace) m.decoration_groups
      (each-all (λ d. g (decoration_group_spelled d) ≡ Some (decoration_group_moved unplace d)) (λ d. refl) m.decoration_groups))
      (each-map (IsSilent g) group_spelled (λ x. refl) m.groups))))

  pub groups-back : AreRead (group_moved unplace) group_of m m.groups
  groups-back =
      let g = anywhere group_of in
      let items = map (group_moved unplace) m.groups in
      let ignores = said-ignores op.GroupDecorate group_by in
      read-back group_of (group_moved unplace) natural.groups m m.groups
      (from-annotations g m bodies items (ignores in_preamble refl) (ignores in_debug refl) (ignores in_globals refl) (ignores in_functions refl)
      (items-behind g (map decoration_spelled m.decorations) _ items (decorations-silent g no-group m.decorations)
      (items-behind g (map decoration_group_spelled m.decoration_groups) _ items (each-map (IsSilent g) decoration_group_spelled (λ x. refl) m.decoration_groups)
      (items-each g group_spelled (group_moved unplace) m.groups (each-all (λ d. g (group_spelled d) ≡ Some (group_moved unplace d)) (λ d. refl) m.groups)))))

  pub constants-back : AreRead (constant_moved unplace) constant_of m m.constants
  constants-back =
      let g = anywhere constant_of in
      let items = map (constant_moved unplace) m.constants in
      let Silent : Declared → Type 0 = λ d. IsSilent g d.inst in
      let types = types_declared m.types in
      let constants = map constant_declared m.constants in
      let variables = map variable_declared m.variables in
      let ignores : (test : ℕ → Bool) → test 41 ≡ false → test 42 ≡ false → test 43 ≡ false → test 44 ≡ false → test 46 ≡ false → (inst : RawInst) → test inst.op ≡ true → IsSilent g inst = constants-ignore in
      read-back constant_of (constant_moved unplace) natural.constants m m.constants
      (from-globals g m bodies items (constants-ignore in_preamble refl refl refl refl refl) (constants-ignore in_debug refl refl refl refl refl)
      (constants-ignore in_annotations refl refl refl refl refl) (constants-ignore in_functions refl refl refl refl refl)
      (merged-first g (merged types constants) variables
      (each-weaker (Declares in_variables) Silent (λ d is. ignores in_variables refl refl refl refl refl d.inst is) variables (variables-declare m))
      ∙ (merged-second g types constants
      (each-weaker (Declares in_types) Silent (λ d is. ignores in_types refl refl refl refl refl d.inst is) types (types-declare in_types (λ opcode is. is) m))
      ∙ (ap (items_of g) (constant-insts m.constants)
      ∙ items-each g constant_spelled (constant_moved unplace) m.constants
      (each-all (λ c. g (constant_spelled c) ≡ Some (constant_moved unplace c)) (λ c. known.constants (constant_moved unplace c)) m.constants)))))

pub lists-are-back : ListsAreBuiltAgain
lists-are-back m bodies texts = record {
  capabilities = capabilities-back m bodies;
  extensions = extensions-back m bodies texts;
  imports = imports-back m bodies texts;
  memory_model = memory-model-back m bodies;
  entries = entries-back m bodies texts;
  modes = modes-back m bodies;
  strings = strings-back m bodies texts;
  source = source-back m bodies;
  decorations = decorations-back m bodies;
  decoration_groups = decoration-groups-back m bodies;
  groups = groups-back m bodies;
  constants = constants-back m bodies;
}
