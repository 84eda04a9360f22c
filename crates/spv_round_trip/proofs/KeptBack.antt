-- No instruction of a written module is dropped.
use Rattle.std.proofs.Common.{◌≡◌, ℕ, ◌+◌, ◌==◌, Bool, true, false, not, List, [], ◌∷◌, ◌++◌, All, map, length, slice_get, Option, Some, None, refl, ap, subst, sym, ◌∙◌, eqb-true, inl, inr}
use Rattle.std.specs.Prelude.{◌&&◌, ◌||◌, ◌⊎◌, if◌then◌else◌, IfSome}
use Rattle.std.specs.List.{flat_map, list_any, zip}
use Rattle.std.specs.Option.{option_to_list}
use Rattle.std.proofs.lemmas.Bool.{false≢true}
use Rattle.std.proofs.lemmas.List.Elements.{All-head, All-tail}
use Rattle.inst_walk.specs.declared.body.Block.{Block}
use Rattle.inst_walk.specs.declared.body.Body.{Body}
use Rattle.spv_codec.specs.declared.module.RawInst.{RawInst}
use Rattle.spv_codec.specs.Ids.{is_id}
use Rattle.spv_layout.specs.declared.opcode.Opcode.{Opcode}
use Rattle.spv_layout.specs.declared.opcode.Opcode.TheVariants as op
use Rattle.spv_layout.specs.Forms.{number_of, opcode_of}
use Rattle.spv_module.specs.declared.inst.SpvInst.{SpvInst}
use Rattle.spv_module.specs.declared.module.Decoration.{Decoration}
use Rattle.spv_module.specs.declared.module.Entry.{Entry}
use Rattle.spv_module.specs.declared.module.Function.{Function}
use Rattle.spv_module.specs.declared.module.Mode.{Mode}
use Rattle.spv_module.specs.declared.module.SourceVersion.{SourceVersion}
use Rattle.spv_module.specs.declared.module.SpvModule.{SpvModule}
use Rattle.spv_module.specs.Sections.{placed, sections, preamble, debug_section, annotations, global_section, function_section, block_spelled, body_spelled}
use Rattle.spv_module.specs.Spelled.{capability_spelled, extension_spelled, import_spelled, entry_spelled, mode_spelled, modes_spelled, string_spelled, source_spelled, decoration_by, decoration_spelled, decoration_group_spelled, group_spelled, param_spelled}
use Rattle.spv_module.specs.Woven.{inst_spelled}
use Rattle.spv_names.specs.declared.functions.Part.{Part}
use Rattle.spv_names.specs.declared.functions.Part.TheVariants as part
use Rattle.spv_names.specs.Functions.{part_of, part_at, may_stand}
use Rattle.spv_names.specs.Uses.{dropped_by, imports_input, is_dropped, is_idle, is_input, is_versioned, is_versioned_by}
use Rattle.spv_names.specs.Definitions.{definition_of}
use Rattle.spv_sections.specs.Standing.{standing_of, standing_at}
use Rattle.spv_build.specs.Kept.{is_silent, kept_if, kept_behind, kept_of}
use Rattle.spv_build.specs.Laws.{at}
use Rattle.spv_round_trip.specs.Laws.{NothingIsDropped}
use Rattle.spv_round_trip.specs.Writable.{IsMode, HasModes, IsDecoration, IsSource, IsKeptInst, HasKeptInsts, HasKeptBlocks, IsKept, is_import_by}
use Rattle.spv_round_trip.proofs.Lists.{Each, each-append, each-map, each-weaker}
use Rattle.spv_round_trip.proofs.SectionParts.{is_among, Passes, in_preamble, in_globals, type_opcodes, constant_opcodes, preamble-passes, globals-pass}

unversioned : (inst : RawInst) → Passes in_preamble inst → is_versioned inst ≡ false
unversioned inst is = by_test (inst.op == number_of op.Source) (λ e. eqb-true inst.op (number_of op.Source) e)
  where
    by_test : (b : Bool) → (b ≡ true → inst.op ≡ number_of op.Source) → (b && is_id 3 (slice_get inst.operands 0) && is_versioned_by (slice_get inst.operands 1)) ≡ false
    by_test true same = absurd (false≢true (ap in_preamble (sym (same refl)) ∙ is))
    by_test false same = refl

module _ (insts : List RawInst) where
  -- whether an instruction is dropped, where a source is kept before it or not
  abbrev left : Bool → RawInst → Bool
  left sourced inst = is_silent (opcode_of inst.op) || dropped_by sourced (imports_input insts inst.operands) (opcode_of inst.op) inst

  -- kept wherever it stands
  abbrev Stays : RawInst → Type 0
  Stays inst = (sourced : Bool) → left sourced inst ≡ false

  -- each instruction of a list is kept, where a source is kept before it or not
  abbrev AreKept : Bool → List RawInst → Type 0
  AreKept sourced [] = Unit {0}
  AreKept sourced (inst ∷ rest) = (left sourced inst ≡ false) × AreKept (sourced || is_versioned inst) rest

  stay-kept : (sourced : Bool) (xs : List RawInst) → Each Stays xs → AreKept sourced xs
  stay-kept sourced [] stay = tt
  stay-kept sourced (x ∷ xs) stay = (stay.0 sourced, stay-kept (sourced || is_versioned x) xs stay.1)

  abbrev behind : Bool → List RawInst → Bool
  behind sourced [] = sourced
  behind sourced (x ∷ xs) = behind (sourced || is_versioned x) xs

  kept-append : (sourced : Bool) (xs ys : List RawInst) → AreKept sourced xs → AreKept (behind sourced xs) ys → AreKept sourced (xs ++ ys)
  kept-append sourced [] ys first second = second
  kept-append sourced (x ∷ xs) ys first second = (first.0, kept-append (sourced || is_versioned x) xs ys first.1 second)

  unsourced : (xs : List RawInst) → Each (λ x. is_versioned x ≡ false) xs → behind false xs ≡ false
  unsourced [] none = refl
  unsourced (x ∷ xs) none = ap (λ b. behind b xs) none.0 ∙ unsourced xs none.1

  left-anywhere : (sourced : Bool) (place : ℕ) (inst : RawInst) → left sourced (at place inst) ≡ left sourced inst
  left-anywhere sourced place inst = by_opcode (opcode_of inst.op)
    where
      by_opcode : (o : Option Opcode)
          → (is_silent o || dropped_by sourced (imports_input insts inst.operands) o (at place inst)) ≡ (is_silent o || dropped_by sourced (imports_input insts inst.operands) o inst)
      by_opcode None = refl
      by_opcode (Some op.Source) = refl
      by_opcode (Some opcode) = refl

  any-more : (before : List RawInst) (x : RawInst) → list_any is_versioned (before ++ x ∷ []) ≡ (list_any is_versioned before || is_versioned x)
  any-more [] x = or-none (is_versioned x)
    where
      or-none : (b : Bool) → (b || false) ≡ b
      or-none true = refl
      or-none false = refl
  any-more (y ∷ ys) x = by_test (is_versioned y) (any-more ys x)
    where
      by_test : (b : Bool) → list_any is_versioned (ys ++ x ∷ []) ≡ (list_any is_versioned ys || is_versioned x)
          → (b || list_any is_versioned (ys ++ x ∷ [])) ≡ ((b || list_any is_versioned ys) || is_versioned x)
      by_test true rest = refl
      by_test false rest = rest

  kept-whole : (before : List RawInst) (place : ℕ) (xs : List RawInst) → AreKept (list_any is_versioned before) xs → kept_behind insts before (placed place xs) ≡ placed place xs
  unfolding is_dropped
  kept-whole before place [] kept = refl
  kept-whole before place (x ∷ xs) kept =
      ap (λ b. kept_if b (at place x) ++ kept_behind insts (before ++ at place x ∷ []) (placed (place + (length x.operands + 1)) xs))
      (left-anywhere (list_any is_versioned before) place x ∙ kept.0)
      ∙ ap (λ rest. at place x ∷ rest)
      (kept-whole (before ++ at place x ∷ []) (place + (length x.operands + 1)) xs (subst (λ b. AreKept b xs) (sym (any-more before (at place x))) kept.1))

  -- the sections
  abbrev StaysAs : Opcode → Type 0
  StaysAs opcode = (place : ℕ) (words : List ℕ) → Stays (record { op = number_of opcode; place = place; operands = words })

  among-stays : (opcodes : List Opcode) → Each StaysAs opcodes → (inst : RawInst) → is_among opcodes inst.op ≡ true → Stays inst
  among-stays [] stay inst is = absurd (false≢true is)
  among-stays (opcode ∷ opcodes) stay inst is =
      by_test (inst.op == number_of opcode) (λ e. eqb-true inst.op (number_of opcode) e) (among-stays opcodes stay.1 inst) is
    where
      by_test : (b : Bool) → (b ≡ true → inst.op ≡ number_of opcode) → (is_among opcodes inst.op ≡ true → Stays inst)
          → (if b then true else is_among opcodes inst.op) ≡ true → Stays inst
      by_test true same rest e = subst (λ n. Stays (record inst { op = n })) (sym (same refl)) (stay.0 inst.place inst.operands)
      by_test false same rest e = rest e

  global-stays : (inst : RawInst) → Passes in_globals inst → Stays inst
  global-stays inst is =
      among-stays (type_opcodes ++ (constant_opcodes ++ (op.Variable ∷ []))) (
        λ p ws s. refl,
        (
          λ p ws s. refl,
          (
            λ p ws s. refl,
            (
              λ p ws s. refl,
              (
                λ p ws s. refl,
                (
                  λ p ws s. refl,
                  (
                    λ p ws s. refl,
                    (
                      λ p ws s. refl,
                      (λ p ws s. refl, (λ p ws s. refl, (λ p ws s. refl, (λ p ws s. refl, (λ p ws s. refl, (λ p ws s. refl, tt)))))),
                    ),
                  ),
                ),
              ),
            ),
          ),
        ),
      )
      inst is

  modes-stay : (entries : List Entry) → All HasModes entries → Each Stays (flat_map modes_spelled entries)
  modes-stay [] all = tt
  modes-stay (entry ∷ entries) all =
      each-append Stays (modes_spelled entry) (flat_map modes_spelled entries) (by_modes entry.modes (All-head HasModes entry entries all)) (modes-stay entries (All-tail HasModes entry entries all))
    where
      by_modes : (modes : List Mode) → All IsMode modes → Each Stays (map (mode_spelled entry.function) modes)
      by_modes [] are = tt
      by_modes (mode ∷ modes) are = ((λ s. All-head IsMode mode modes are), by_modes modes (All-tail IsMode mode modes are))

  or-none : (a b : Bool) → a ≡ false → b ≡ false → (a || b) ≡ false
  or-none true b first second = absurd (false≢true (sym first))
  or-none false b first second = second

  decoration-stays : (member : Option ℕ) (d : Decoration) → is_idle (Some d.kind) ≡ false → is_import_by member (d.kind ∷ d.words) ≡ false → Stays (decoration_by member d)
  decoration-stays None d kind import s =
      or-none (imports_input insts (d.target ∷ d.kind ∷ d.words)) (is_idle (Some d.kind))
      (ap (λ b. b && is_input (definition_of insts d.target)) import) kind
  decoration-stays (Some member) d kind import s = kind

  decorations-stay : (ds : List Decoration) → All IsDecoration ds → Each Stays (map decoration_spelled ds)
  decorations-stay [] all = tt
  decorations-stay (d ∷ ds) all =
      let first = All-head IsDecoration d ds all in
      (decoration-stays d.member d first.0 first.1, decorations-stay ds (All-tail IsDecoration d ds all))

  abbrev IsPart : Part → Type 0
  IsPart p = (p ≡ part.Inner) ⊎ (p ≡ part.Terminator)

  floating-none : {P : Type 0} → IsPart part.Floating → P
  floating-none (inl e) = cc
  floating-none (inr e) = cc

  stray-none : {P : Type 0} → IsPart part.Stray → P
  stray-none (inl e) = cc
  stray-none (inr e) = cc

  inst-stays : (inst : SpvInst) → IsKeptInst inst → Stays (inst_spelled inst)
  unfolding part_of standing_of is_dropped
  inst-stays inst is sourced = by_opcode (opcode_of inst.op) is.0 is.1
    where
      words : List ℕ
      words = (inst_spelled inst).operands

      by_opcode : (o : Option Opcode) → IsPart (part_at (may_stand (standing_at o words)) o) → dropped_by false (imports_input [] words) o (inst_spelled inst) ≡ false
          → (is_silent o || dropped_by sourced (imports_input insts words) o (inst_spelled inst)) ≡ false
      by_opcode None p h = refl
      by_opcode (Some op.Nop) p h = floating-none p
      by_opcode (Some op.NoLine) p h = floating-none p
      by_opcode (Some op.SourceContinued) p h = stray-none p
      by_opcode (Some op.SourceExtension) p h = stray-none p
      by_opcode (Some op.ModuleProcessed) p h = stray-none p
      by_opcode (Some op.Source) p h = stray-none p
      by_opcode (Some op.Decorate) p h = stray-none p
      by_opcode (Some opcode) p h = h

  insts-stay : (is : List SpvInst) → All IsKeptInst is → Each Stays (map inst_spelled is)
  insts-stay [] all = tt
  insts-stay (i ∷ is) all = (inst-stays i (All-head IsKeptInst i is all), insts-stay is (All-tail IsKeptInst i is all))

  blocks-stay : (blocks : List (Block SpvInst ℕ)) → All HasKeptInsts blocks → Each Stays (flat_map block_spelled blocks)
  blocks-stay [] all = tt
  blocks-stay (b ∷ bs) all =
      ((λ s. refl), each-append Stays (map inst_spelled b.insts) (flat_map block_spelled bs) (insts-stay b.insts (All-head HasKeptInsts b bs all)) (blocks-stay bs (All-tail HasKeptInsts b bs all)))

  bodies-stay : (functions : List Function) (bodies : List (Body SpvInst ℕ)) → All HasKeptBlocks bodies → Each Stays (flat_map body_spelled (zip functions bodies))
  bodies-stay [] bodies all = tt
  bodies-stay (f ∷ fs) [] all = tt
  bodies-stay (f ∷ fs) (b ∷ bs) all =
      each-append Stays (body_spelled (f, b)) (flat_map body_spelled (zip fs bs)) (
        (λ s. refl),
        each-append Stays (map param_spelled f.params) _ (each-map Stays param_spelled (λ p s. refl) f.params)
            (each-append Stays (flat_map block_spelled b.blocks) _ (blocks-stay b.blocks (All-head HasKeptBlocks b bs all)) ((λ s. refl), tt)),
      )
      (bodies-stay fs bs (All-tail HasKeptBlocks b bs all))

  module _ (m : SpvModule) (is : IsKept m) where
    preamble-stays : Each Stays (preamble m)
    preamble-stays =
        each-append Stays (map capability_spelled m.capabilities) _ (each-map Stays capability_spelled (λ c s. refl) m.capabilities)
        (each-append Stays (map extension_spelled m.extensions) _ (each-map Stays extension_spelled (λ c s. refl) m.extensions)
        (each-append Stays (map import_spelled m.imports) _ (each-map Stays import_spelled (λ c s. refl) m.imports)
        ((λ s. refl), each-append Stays (map entry_spelled m.entries) _ (each-map Stays entry_spelled (λ c s. refl) m.entries) (modes-stay m.entries is.modes))))

    rest-stays : Each Stays (annotations m ++ (global_section m ++ function_section m))
    rest-stays =
        each-append Stays (annotations m) _
        (each-append Stays (map decoration_spelled m.decorations) _ (decorations-stay m.decorations is.decorations)
        (each-append Stays (map decoration_group_spelled m.decoration_groups) _ (each-map Stays decoration_group_spelled (λ c s. refl) m.decoration_groups)
        (each-map Stays group_spelled (λ c s. refl) m.groups)))
        (each-append Stays (global_section m) (function_section m) (each-weaker (Passes in_globals) Stays global-stays (global_section m) (globals-pass m))
        (bodies-stay m.functions m.bodies is.bodies))

    source-kept : (source : Option SourceVersion) → IfSome source IsSource → AreKept false (map source_spelled (option_to_list source))
    source-kept None given = tt
    source-kept (Some source) given = (ap not given, tt)

    all-kept : AreKept false (sections m)
    all-kept =
        kept-append false (preamble m) _ (stay-kept false (preamble m) preamble-stays)
        (subst (λ b. AreKept b (debug_section m ++ (annotations m ++ (global_section m ++ function_section m)))) (sym (unsourced (preamble m) (each-weaker (Passes in_preamble) (λ x. is_versioned x ≡ false) unversioned (preamble m) (preamble-passes m))))
        (kept-append false (debug_section m) _
        (kept-append false (map string_spelled m.strings) (map source_spelled (option_to_list m.source))
        (stay-kept false (map string_spelled m.strings) (each-map Stays string_spelled (λ c s. refl) m.strings))
        (subst (λ b. AreKept b (map source_spelled (option_to_list m.source))) (sym (unsourced (map string_spelled m.strings) (each-map (λ x. is_versioned x ≡ false) string_spelled (λ c. refl) m.strings)))
        (source-kept m.source is.source)))
        (stay-kept (behind false (debug_section m)) _ rest-stays)))

pub nothing-dropped : NothingIsDropped
unfolding kept_of
nothing-dropped m is = kept-whole (placed 5 (sections m)) [] 5 (sections m) (all-kept (placed 5 (sections m)) m is)
