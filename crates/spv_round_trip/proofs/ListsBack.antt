-- The items of each kind are read back from the instructions of a module.
use Rattle.std.proofs.Common.{◌≡◌, ℕ, Bool, false, List, [], ◌∷◌, ◌++◌, All, map, Option, Some, refl, ap, ap₂, sym, ◌∙◌}
use Rattle.std.specs.List.{flat_map}
use Rattle.std.specs.Option.{option_to_list}
use Rattle.std.proofs.lemmas.Grind.{flat_map-append}
use Rattle.std.proofs.lemmas.List.{map-append}
use Rattle.spv_codec.specs.declared.module.RawInst.{RawInst}
use Rattle.spv_layout.specs.declared.opcode.Opcode.{Opcode}
use Rattle.spv_layout.specs.declared.opcode.Opcode.TheVariants as op
use Rattle.spv_layout.specs.Forms.{number_of}
use Rattle.spv_module.specs.declared.module.Entry.{Entry}
use Rattle.spv_module.specs.declared.module.Extension.{Extension}
use Rattle.spv_module.specs.declared.module.Import.{Import}
use Rattle.spv_module.specs.declared.module.Mode.{Mode}
use Rattle.spv_module.specs.declared.module.SpvModule.{SpvModule}
use Rattle.spv_module.specs.Modules.{capability_moved, extension_moved, import_moved, memory_model_moved, entry_moved, string_moved, source_moved}
use Rattle.spv_module.specs.Sections.{placed, sections, preamble, debug_section, annotations, global_section, function_section}
use Rattle.spv_module.specs.Spelled.{capability_spelled, extension_spelled, import_spelled, memory_model_spelled, entry_spelled, mode_spelled, modes_spelled, string_spelled, source_spelled}
use Rattle.spv_build.specs.declared.entries.GivenMode.{GivenMode}
use Rattle.spv_build.specs.Entries.{entry_by, mode_by, mode_of, entry_of}
use Rattle.spv_build.specs.Items.{items_of, said_by, capability_by, extension_by, import_by, memory_model_by, string_by, source_by, capability_of, extension_of, import_of, memory_model_of, string_of, source_of}
use Rattle.spv_build.specs.Laws.{at, given}
use Rattle.spv_round_trip.specs.Laws.{AreRead, unplace, mode_unplaced, without_modes, given_modes}
use Rattle.spv_round_trip.specs.Writable.{IsText, AreInBodies, HasTexts}
use Rattle.spv_round_trip.proofs.Texts.{texts-are-back}
use Rattle.spv_round_trip.proofs.Lists.{Each, each-append, each-map, each-flat, each-weaker, each-all, each-from, anywhere, items-placed, items-moved, IsSilent, items-each, items-behind, items-before, said-silent}
use Rattle.spv_round_trip.proofs.Natural.{Natural}
use Rattle.spv_round_trip.proofs.Natural as natural
use Rattle.spv_round_trip.proofs.SectionParts.{in_preamble, in_debug, in_annotations, in_globals, in_functions, Passes, preamble-passes, debug-passes, annotations-pass, globals-pass, functions-pass}

-- what is read of the sections is read of the module
pub read-back : {A : Type 0} (f : RawInst → Option A) (moved : A → A) → Natural moved f → (m : SpvModule) (items : List A)
    → items_of (anywhere f) (sections m) ≡ map moved items → AreRead moved f m items
read-back f moved natural m items e = items-moved f moved natural (placed 5 (sections m)) ∙ (items-placed f 5 (sections m) ∙ e)

module _ {A : Type 0} (g : RawInst → Option A) where
  -- nothing is read of an instruction whose opcode passes a test
  abbrev pub Ignores : (ℕ → Bool) → Type 0
  Ignores test = (inst : RawInst) → Passes test inst → IsSilent g inst

  module _ (m : SpvModule) (bodies : AreInBodies m) where
    functions-silent : Ignores in_functions → Each (IsSilent g) (function_section m)
    functions-silent h = each-weaker (Passes in_functions) (IsSilent g) h (function_section m) (functions-pass m bodies)

    globals-silent : Ignores in_globals → Each (IsSilent g) (global_section m)
    globals-silent h = each-weaker (Passes in_globals) (IsSilent g) h (global_section m) (globals-pass m)

    annotations-silent : Ignores in_annotations → Each (IsSilent g) (annotations m)
    annotations-silent h = each-weaker (Passes in_annotations) (IsSilent g) h (annotations m) (annotations-pass m)

    debug-silent : Ignores in_debug → Each (IsSilent g) (debug_section m)
    debug-silent h = each-weaker (Passes in_debug) (IsSilent g) h (debug_section m) (debug-passes m)

    preamble-silent : Ignores in_preamble → Each (IsSilent g) (preamble m)
    preamble-silent h = each-weaker (Passes in_preamble) (IsSilent g) h (preamble m) (preamble-passes m)

    behind_annotations : Ignores in_globals → Ignores in_functions → Each (IsSilent g) (global_section m ++ function_section m)
    behind_annotations h k = each-append (IsSilent g) (global_section m) (function_section m) (globals-silent h) (functions-silent k)

    behind_debug : Ignores in_annotations → Ignores in_globals → Ignores in_functions → Each (IsSilent g) (annotations m ++ (global_section m ++ function_section m))
    behind_debug h k l = each-append (IsSilent g) (annotations m) (global_section m ++ function_section m) (annotations-silent h) (behind_annotations k l)

    behind_preamble : Ignores in_debug → Ignores in_annotations → Ignores in_globals → Ignores in_functions
        → Each (IsSilent g) (debug_section m ++ (annotations m ++ (global_section m ++ function_section m)))
    behind_preamble h k l n = each-append (IsSilent g) (debug_section m) (annotations m ++ (global_section m ++ function_section m)) (debug-silent h) (behind_debug k l n)

    pub from-preamble : (items : List A) → Ignores in_debug → Ignores in_annotations → Ignores in_globals → Ignores in_functions → items_of g (preamble m) ≡ items
        → items_of g (sections m) ≡ items
    from-preamble items h k l n e = items-before g (preamble m) _ items e (behind_preamble h k l n)

    pub from-debug : (items : List A) → Ignores in_preamble → Ignores in_annotations → Ignores in_globals → Ignores in_functions → items_of g (debug_section m) ≡ items
        → items_of g (sections m) ≡ items
    from-debug items h k l n e = items-behind g (preamble m) _ items (preamble-silent h) (items-before g (debug_section m) _ items e (behind_debug k l n))

    pub from-annotations : (items : List A) → Ignores in_preamble → Ignores in_debug → Ignores in_globals → Ignores in_functions → items_of g (annotations m) ≡ items
        → items_of g (sections m) ≡ items
    from-annotations items h k l n e =
        items-behind g (preamble m) _ items (preamble-silent h)
        (items-behind g (debug_section m) _ items (debug-silent k) (items-before g (annotations m) _ items e (behind_annotations l n)))

    pub from-globals : (items : List A) → Ignores in_preamble → Ignores in_debug → Ignores in_annotations → Ignores in_functions → items_of g (global_section m) ≡ items
        → items_of g (sections m) ≡ items
    from-globals items h k l n e =
        items-behind g (preamble m) _ items (preamble-silent h)
        (items-behind g (debug_section m) _ items (debug-silent k)
        (items-behind g (annotations m) _ items (annotations-silent l) (items-before g (global_section m) _ items e (functions-silent n))))

-- a reader of one opcode ignores the others
pub said-ignores : {A : Type 0} (opcode : Opcode) (read : ℕ → List ℕ → Option A) (test : ℕ → Bool) → test (number_of opcode) ≡ false
    → Ignores (anywhere (said_by opcode read)) test
said-ignores opcode read test other inst passes = said-silent test opcode read other (at 0 inst) passes

module _ {A : Type 0} (g : RawInst → Option A) (m : SpvModule) where
  abbrev rest5 : List RawInst
  rest5 = map entry_spelled m.entries ++ flat_map modes_spelled m.entries

  abbrev rest4 : List RawInst
  rest4 = memory_model_spelled m.memory_model ∷ rest5

  abbrev rest3 : List RawInst
  rest3 = map import_spelled m.imports ++ rest4

  abbrev rest2 : List RawInst
  rest2 = map extension_spelled m.extensions ++ rest3

  silent6 : ((function : ℕ) (mode : Mode) → IsSilent g (mode_spelled function mode)) → Each (IsSilent g) (flat_map modes_spelled m.entries)
  silent6 h = each-flat (IsSilent g) modes_spelled (λ entry. each-map (IsSilent g) (mode_spelled entry.function) (h entry.function) entry.modes) m.entries

  silent5 : ((entry : Entry) → IsSilent g (entry_spelled entry)) → ((function : ℕ) (mode : Mode) → IsSilent g (mode_spelled function mode)) → Each (IsSilent g) rest5
  silent5 h k = each-append (IsSilent g) (map entry_spelled m.entries) _ (each-map (IsSilent g) entry_spelled h m.entries) (silent6 k)

  silent3 : ((set : Import) → IsSilent g (import_spelled set)) → Each (IsSilent g) rest4 → Each (IsSilent g) rest3
  silent3 h rest = each-append (IsSilent g) (map import_spelled m.imports) rest4 (each-map (IsSilent g) import_spelled h m.imports) rest

  silent2 : ((extension : Extension) → IsSilent g (extension_spelled extension)) → Each (IsSilent g) rest3 → Each (IsSilent g) rest2
  silent2 h rest = each-append (IsSilent g) (map extension_spelled m.extensions) rest3 (each-map (IsSilent g) extension_spelled h m.extensions) rest

module _ (m : SpvModule) (bodies : AreInBodies m) where
  pub capabilities-back : AreRead (capability_moved unplace) capability_of m m.capabilities
  capabilities-back =
      let g = anywhere capability_of in
      let items = map (capability_moved unplace) m.capabilities in
      let ignores = said-ignores op.Capability capability_by in
      read-back capability_of (capability_moved unplace) natural.capabilities m m.capabilities
      (from-preamble g m bodies items (ignores in_debug refl) (ignores in_annotations refl) (ignores in_globals refl) (ignores in_functions refl)
      (items-before g (map capability_spelled m.capabilities) (rest2 g m) items
      (items-each g capability_spelled (capability_moved unplace) m.capabilities (each-all (λ c. g (capability_spelled c) ≡ Some (capability_moved unplace c)) (λ c. refl) m.capabilities))
      (silent2 g m (λ e. refl) (silent3 g m (λ e. refl) (refl, silent5 g m (λ e. refl) (λ function mode. refl))))))

  pub memory-model-back : AreRead (memory_model_moved unplace) memory_model_of m (m.memory_model ∷ [])
  memory-model-back =
      let g = anywhere memory_model_of in
      let items = memory_model_moved unplace m.memory_model ∷ [] in
      let ignores = said-ignores op.MemoryModel memory_model_by in
      read-back memory_model_of (memory_model_moved unplace) natural.memory_models m (m.memory_model ∷ [])
      (from-preamble g m bodies items (ignores in_debug refl) (ignores in_annotations refl) (ignores in_globals refl) (ignores in_functions refl)
      (items-behind g (map capability_spelled m.capabilities) (rest2 g m) items (each-map (IsSilent g) capability_spelled (λ c. refl) m.capabilities)
      (items-behind g (map extension_spelled m.extensions) (rest3 g m) items (each-map (IsSilent g) extension_spelled (λ c. refl) m.extensions)
      (items-behind g (map import_spelled m.imports) (rest4 g m) items (each-map (IsSilent g) import_spelled (λ c. refl) m.imports)
      (items-before g (memory_model_spelled m.memory_model ∷ []) (rest5 g m) items refl (silent5 g m (λ e. refl) (λ function mode. refl)))))))

  each-given : (g : RawInst → Option GivenMode) → ((function : ℕ) (mode : Mode) → g (mode_spelled function mode) ≡ Some (mode_unplaced (given function mode)))
      → (entries : List Entry) → items_of g (flat_map modes_spelled entries) ≡ map mode_unplaced (flat_map given_modes entries)
  each-given g gives [] = refl
  each-given g gives (entry ∷ entries) =
      flat_map-append (λ inst. option_to_list (g inst)) (modes_spelled entry) (flat_map modes_spelled entries)
      ∙ (ap₂ (λ xs ys. xs ++ ys) (by_modes entry.modes) (each-given g gives entries)
      ∙ sym (map-append mode_unplaced (given_modes entry) (flat_map given_modes entries)))
    where
      by_modes : (modes : List Mode) → items_of g (map (mode_spelled entry.function) modes) ≡ map mode_unplaced (map (given entry.function) modes)
      by_modes [] = refl
      by_modes (mode ∷ modes) = ap₂ (λ o rest. option_to_list o ++ rest) (gives entry.function mode) (by_modes modes)

  pub modes-back : AreRead mode_unplaced mode_of m (flat_map given_modes m.entries)
  modes-back =
      let g = anywhere mode_of in
      let items = map mode_unplaced (flat_map given_modes m.entries) in
      let ignores = said-ignores op.ExecutionMode mode_by in
      read-back mode_of mode_unplaced natural.modes m (flat_map given_modes m.entries)
      (from-preamble g m bodies items (ignores in_debug refl) (ignores in_annotations refl) (ignores in_globals refl) (ignores in_functions refl)
      (items-behind g (map capability_spelled m.capabilities) (rest2 g m) items (each-map (IsSilent g) capability_spelled (λ c. refl) m.capabilities)
      (items-behind g (map extension_spelled m.extensions) (rest3 g m) items (each-map (IsSilent g) extension_spelled (λ c. refl) m.extensions)
      (items-behind g (map import_spelled m.imports) (rest4 g m) items (each-map (IsSilent g) import_spelled (λ c. refl) m.imports)
      (items-behind g (memory_model_spelled m.memory_model ∷ []) (rest5 g m) items (refl, tt)
      (items-behind g (map entry_spelled m.entries) _ items (each-map (IsSilent g) entry_spelled (λ c. refl) m.entries)
      (each-given g (λ function mode. refl) m.entries)))))))

  module _ (texts : HasTexts m) where
    pub extensions-back : AreRead (extension_moved unplace) extension_of m m.extensions
    extensions-back =
        let g = anywhere extension_of in
        let items = map (extension_moved unplace) m.extensions in
        let ignores = said-ignores op.Extension extension_by in
        read-back extension_of (extension_moved unplace) natural.extensions m m.extensions
        (from-preamble g m bodies items (ignores in_debug refl) (ignores in_annotations refl) (ignores in_globals refl) (ignores in_functions refl)
        (items-behind g (map capability_spelled m.capabilities) (rest2 g m) items (each-map (IsSilent g) capability_spelled (λ c. refl) m.capabilities)
        (items-before g (map extension_spelled m.extensions) (rest3 g m) items
        (items-each g extension_spelled (extension_moved unplace) m.extensions
        (each-from (λ e. IsText e.name) (λ e. g (extension_spelled e) ≡ Some (extension_moved unplace e)) (λ e is. texts-are-back.extensions (extension_moved unplace e) is) m.extensions texts.extensions))
        (silent3 g m (λ e. refl) (refl, silent5 g m (λ e. refl) (λ function mode. refl))))))

    pub imports-back : AreRead (import_moved unplace) import_of m m.imports
    imports-back =
        let g = anywhere import_of in
        let items = map (import_moved unplace) m.imports in
        let ignores = said-ignores op.ExtInstImport import_by in
        read-back import_of (import_moved unplace) natural.imports m m.imports
        (from-preamble g m bodies items (ignores in_debug refl) (ignores in_annotations refl) (ignores in_globals refl) (ignores in_functions refl)
        (items-behind g (map capability_spelled m.capabilities) (rest2 g m) items (each-map (IsSilent g) capability_spelled (λ c. refl) m.capabilities)
        (items-behind g (map extension_spelled m.extensions) (rest3 g m) items (each-map (IsSilent g) extension_spelled (λ c. refl) m.extensions)
        (items-before g (map import_spelled m.imports) (rest4 g m) items
        (items-each g import_spelled (import_moved unplace) m.imports
        (each-from (λ i. IsText i.name) (λ i. g (import_spelled i) ≡ Some (import_moved unplace i)) (λ i is. texts-are-back.imports (import_moved unplace i) is) m.imports texts.imports))
        (refl, silent5 g m (λ e. refl) (λ function mode. refl))))))

    without-back : (g : RawInst → Option Entry) → ((entry : Entry) → IsText entry.name → g (entry_spelled entry) ≡ Some (entry_moved unplace (without_modes entry)))
        → (entries : List Entry) → All (λ entry. IsText entry.name) entries
        → items_of g (map entry_spelled entries) ≡ map (entry_moved unplace) (map without_modes entries)
    without-back g gives entries all =
        items-each g entry_spelled (λ entry. entry_moved unplace (without_modes entry)) entries
        (each-from (λ entry. IsText entry.name) (λ entry. g (entry_spelled entry) ≡ Some (entry_moved unplace (without_modes entry))) gives entries all)
        ∙ twice entries
      where
        twice : (es : List Entry) → map (λ entry. entry_moved unplace (without_modes entry)) es ≡ map (entry_moved unplace) (map without_modes es)
        twice [] = refl
        twice (e ∷ es) = ap (λ rest. entry_moved unplace (without_modes e) ∷ rest) (twice es)

    pub entries-back : AreRead (entry_moved unplace) entry_of m (map without_modes m.entries)
    entries-back =
        let g = anywhere entry_of in
        let items = map (entry_moved unplace) (map without_modes m.entries) in
        let ignores = said-ignores op.EntryPoint entry_by in
        read-back entry_of (entry_moved unplace) natural.entries m (map without_modes m.entries)
        (from-preamble g m bodies items (ignores in_debug refl) (ignores in_annotations refl) (ignores in_globals refl) (ignores in_functions refl)
        (items-behind g (map capability_spelled m.capabilities) (rest2 g m) items (each-map (IsSilent g) capability_spelled (λ c. refl) m.capabilities)
        (items-behind g (map extension_spelled m.extensions) (rest3 g m) items (each-map (IsSilent g) extension_spelled (λ c. refl) m.extensions)
        (items-behind g (map import_spelled m.imports) (rest4 g m) items (each-map (IsSilent g) import_spelled (λ c. refl) m.imports)
        (items-behind g (memory_model_spelled m.memory_model ∷ []) (rest5 g m) items (refl, tt)
        (items-before g (map entry_spelled m.entries) _ items
        (without-back g (λ entry is. texts-are-back.entries (entry_moved unplace entry) is) m.entries texts.entries)
        (silent6 g m (λ function mode. refl))))))))

    pub strings-back : AreRead (string_moved unplace) string_of m m.strings
    strings-back =
        let g = anywhere string_of in
        let items = map (string_moved unplace) m.strings in
        let ignores = said-ignores op.String string_by in
        read-back string_of (string_moved unplace) natural.strings m m.strings
        (from-debug g m bodies items (ignores in_preamble refl) (ignores in_annotations refl) (ignores in_globals refl) (ignores in_functions refl)
        (items-before g (map string_spelled m.strings) _ items
        (items-each g string_spelled (string_moved unplace) m.strings
        (each-from (λ s. IsText s.text) (λ s. g (string_spelled s) ≡ Some (string_moved unplace s)) (λ s is. texts-are-back.strings (string_moved unplace s) is) m.strings texts.strings))
        (each-map (IsSilent g) source_spelled (λ s. refl) (option_to_list m.source))))

  pub source-back : AreRead (source_moved unplace) source_of m (option_to_list m.source)
  source-back =
      let g = anywhere source_of in
      let items = map (source_moved unplace) (option_to_list m.source) in
      let ignores = said-ignores op.Source source_by in
      read-back source_of (source_moved unplace) natural.sources m (option_to_list m.source)
      (from-debug g m bodies items (ignores in_preamble refl) (ignores in_annotations refl) (ignores in_globals refl) (ignores in_functions refl)
      (items-behind g (map string_spelled m.strings) _ items (each-map (IsSilent g) string_spelled (λ s. refl) m.strings)
      (items-each g source_spelled (source_moved unplace) (option_to_list m.source)
      (each-all (λ s. g (source_spelled s) ≡ Some (source_moved unplace s)) (λ s. refl) (option_to_list m.source)))))
