-- A written module is built again.
use Rattle.std.proofs.Common.{◌≡◌, List, [], ◌∷◌, map, slice_get, unwrap_or, Option, Some, None, refl, ap, sym, ◌∙◌}
use Rattle.std.specs.Option.{option_map, option_to_list}
use Rattle.std.proofs.lemmas.List.Elements.{All-weaker}
use Rattle.spv_codec.specs.declared.module.RawInst.{RawInst}
use Rattle.spv_words.specs.declared.words.Order.TheVariants.{Little}
use Rattle.spv_module.specs.declared.module.SpvModule.{SpvModule}
use Rattle.spv_module.specs.Modules.{memory_model_moved, source_moved, types_moved, without_places}
use Rattle.spv_module.specs.Sections.{flattened, placed, sections}
use Rattle.spv_types.specs.Tables.{types_of}
use Rattle.spv_build.specs.Items.{items_of, memory_model_of, source_of}
use Rattle.spv_build.specs.Modules.{model_of, no_memory_model, pointer_width, module_by, module_of}
use Rattle.spv_round_trip.specs.Laws.{ModulesAreBuiltAgain, BuildingGivesBack, unplace}
use Rattle.spv_round_trip.specs.Writable.{IsInBody, HasInsts, HasBlocks, AreInBodies, IsKeptInst, HasKeptInsts, HasKeptBlocks, IsKept, IsWritable}
use Rattle.spv_round_trip.proofs.EntriesBack.{entries-are-built}
use Rattle.spv_round_trip.proofs.FunctionsBuilt.{functions-are-built, variables-are-built}
use Rattle.spv_round_trip.proofs.KeptBack.{nothing-dropped}
use Rattle.spv_round_trip.proofs.RestBack.{lists-are-back}
use Rattle.spv_round_trip.proofs.TypesBack.{types-are-built}

nil_cons : {A P : Type 0} (x : A) (xs : List A) → [] ≡ x ∷ xs → P
nil_cons x xs e = cc

-- the first one
first-moved : {A : Type 0} (moved : A → A) (xs : List A) (d y : A) → map moved xs ≡ moved y ∷ [] → moved (unwrap_or (slice_get xs 0) d) ≡ moved y
first-moved moved [] d y e = nil_cons (moved y) [] e
first-moved moved (x ∷ xs) d y e = ap (λ l. unwrap_or (slice_get l 0) (moved y)) e

maybe-moved : {A : Type 0} (moved : A → A) (xs : List A) → option_map moved (slice_get xs 0) ≡ slice_get (map moved xs) 0
maybe-moved moved [] = refl
maybe-moved moved (x ∷ xs) = refl

maybe-first : {A : Type 0} (o : Option A) → slice_get (option_to_list o) 0 ≡ o
maybe-first None = refl
maybe-first (Some x) = refl

-- what is kept stands in bodies
in-bodies : (m : SpvModule) → IsKept m → AreInBodies m
in-bodies m kept =
    All-weaker HasKeptBlocks HasBlocks
    (λ body. All-weaker HasKeptInsts HasInsts (λ block. All-weaker IsKeptInst IsInBody (λ inst is. is.0) block.insts) body.blocks)
    m.bodies kept.bodies

module _ (m : SpvModule) (is : IsWritable m) where
  abbrev insts : List RawInst
  insts = placed 5 (sections m)

  model-back : memory_model_moved unplace (model_of insts) ≡ memory_model_moved unplace m.memory_model
  model-back =
      first-moved (memory_model_moved unplace) (items_of memory_model_of insts) no_memory_model m.memory_model (lists-are-back m (in-bodies m is.kept) is.texts).memory_model

  source-back : option_map (source_moved unplace) (slice_get (items_of source_of insts) 0) ≡ option_map (source_moved unplace) m.source
  source-back =
      maybe-moved (source_moved unplace) (items_of source_of insts)
      ∙ (ap (λ l. slice_get l 0) (lists-are-back m (in-bodies m is.kept) is.texts).source
      ∙ (sym (maybe-moved (source_moved unplace) (option_to_list m.source))
      ∙ ap (option_map (source_moved unplace)) (maybe-first m.source)))

  types-back : types_moved unplace (types_of (pointer_width (model_of insts)) insts) ≡ types_moved unplace m.types
  types-back =
      ap (λ width. types_moved unplace (types_of width insts)) (ap pointer_width model-back ∙ is.pointers)
      ∙ types-are-built m (in-bodies m is.kept) is.types

  whole-back : without_places (module_by (flattened m) insts) ≡ without_places m
  unfolding without_places
  whole-back =
      let lists = lists-are-back m (in-bodies m is.kept) is.texts in
      let functions = functions-are-built m is.variables is.functions in
      let entries = entries-are-built m (in-bodies m is.kept) is.texts is.entries in
      let variables = variables-are-built m is.variables in
      λ i. record {
        order = Little;
        version = m.version;
        bound = m.bound;
        capabilities = lists.capabilities i;
        extensions = lists.extensions i;
        imports = lists.imports i;
        memory_model = model-back i;
        entries = entries i;
        strings = lists.strings i;
        source = source-back i;
        decorations = lists.decorations i;
        decoration_groups = lists.decoration_groups i;
        groups = lists.groups i;
        types = types-back i;
        constants = lists.constants i;
        variables = variables i;
        functions = functions.0 i;
        bodies = functions.1 i;
      }

pub modules-are-built : ModulesAreBuiltAgain
unfolding module_of
modules-are-built m is = ap (λ xs. without_places (module_by (flattened m) xs)) (nothing-dropped m is.kept) ∙ whole-back m is

pub building-gives_back : BuildingGivesBack
building-gives_back m is none = ((none, refl), modules-are-built m is)
