-- A module that makes a pair with a kernel's module of text has the kernel's module as its canonical form.
use Rattle.std.proofs.Common.{◌≡◌, ℕ, zero, suc, ◌+◌, ◌<◌, false, cond, List, [], ◌∷◌, ◌++◌, map, length, refl, sym, ◌∙◌, ap, subst, arith, Option, Some}
use Rattle.std.specs.Prelude.{flat_map, slice_get, unwrap_or, nat_eq, is_some}
use Rattle.std.specs.List.{AllZip, range_with_len, zip}
use Rattle.std.specs.Option.{option_map}
use Rattle.std.proofs.lemmas.List.{append-nil, append_assoc, map-append}
use Rattle.std.proofs.lemmas.List.FromFn.{length-map-range_with_len}
use Rattle.inst_walk.specs.declared.body.Block.{Block}
use Rattle.inst_walk.specs.declared.body.Body.{Body}
use Rattle.inst_walk.specs.Body.{body_renamed, block_renamed}
use Rattle.inst_walk.specs.Places.{place_of, is_among}
use Rattle.kern_types.specs.declared.ty.Ty.{Ty}
use Rattle.kern_types.specs.declared.ty.Ty.TheVariants as ty
use Rattle.kernel_tree.specs.declared.kernel.Kernel.{Kernel}
use Rattle.kernel_tree.specs.declared.kernel.KernelParam.{KernelParam}
use Rattle.kernel_tree.specs.declared.kernel.ValueType.{ValueType}
use Rattle.kernel_tree.specs.declared.kernel.ValueType.TheVariants.{Int as i32, Pointer as i32_pointer}
use Rattle.kernel_tree.specs.declared.names.Definition.{Definition}
use Rattle.kernel_tree.specs.Modules.{body, end_of_block as text_end, function, instruction, text_module, type_of}
use Rattle.kernel_tree.specs.Names.{definitions, defined_above, defined_by, param_definition, block_definition}
use Rattle.kernel_tree.specs.Numbered.{IsNumbered, number_defined, definition_count}
use Rattle.ll_tree.specs.declared.inst.Inst.{Inst}
use Rattle.spv_words.specs.declared.words.Order.TheVariants.{Little}
use Rattle.spv_module.specs.declared.inst.SpvInst.{SpvInst}
use Rattle.spv_module.specs.declared.module.Capability.{Capability}
use Rattle.spv_module.specs.declared.module.Entry.{Entry}
use Rattle.spv_module.specs.declared.module.Function.{Function as SpvFunction}
use Rattle.spv_module.specs.declared.module.SpvModule.{SpvModule}
use Rattle.spv_module.specs.NamedTypes.{NamedTypes}
use Rattle.spv_module.specs.Insts.{inst_renamed}
use Rattle.spv_module.specs.Modules.{without_places, capability_moved, entry_moved, function_moved, body_moved, block_moved, types_moved, type_name_moved, memory_model_moved, mode_moved, extension_moved, import_moved, string_moved, source_moved, decoration_moved, decoration_group_moved, group_moved, constant_moved, variable_moved}
use Rattle.to_spirv.specs.KernelTypes.{function_tree, result_trees, types_of}
use Rattle.to_spirv.specs.Pairing.{HasType, PairsType, Pairs, PairsBody, PairsFunction, PairsBlock, PairsEntry}
use Rattle.to_spirv.specs.Partner.{named_types, type_name, type_id, ids_over, id_of, value_type_id, module_over, partner, entry_partner, function_partner, body_partner, inst_partner, end_of_block, bound_over, capabilities}
use Rattle.to_spirv.specs.TypeTrees.{TypeTree, Void, Int, Pointer, needing_all}
use Rattle.to_spirv.proofs.NumberLemmas.{numbered-names, NamesHave}
use Rattle.spv_canon.specs.Canonical.{block_ids, block_types, canonical_spirv, entry_renamed, function_ids, function_renamed, functions_defined, ids_in_functions, new_id, numbered_over, param_id, result_types, results, trees_needed, types_asked, types_listed}
use Rattle.spv_canon.specs.Sound.{HasLabels, HasSoundIds}
use Rattle.spv_canon.specs.Trees.{tree_with_id, type_ids}
use Rattle.spv_canon.proofs.ListFacts.{found-once, not-among, once-front, once-behind}
use Rattle.spv_canon.proofs.PartFacts.{insts-become, insts-results, insts-trees, nowhere, numbers-become, params-become, params-ids, ids_defined}
use Rattle.spv_canon.proofs.TreeFacts.{HasSoundTypes, function-tree-is, place-there, tree-with, type-is, type-tree}

-- a list that corresponds to one of one member
record IsAlone {A B : Type 0} (R : A → B → Type 0) (x : A) (ys : List B) : Type 0 where
  only : B
  is : ys ≡ only ∷ []
  related : R x only

alone : {A B : Type 0} (R : A → B → Type 0) (x : A) (ys : List B) → AllZip R (x ∷ []) ys → IsAlone R x ys
alone R x [] pairs = absurd pairs
alone R x (y ∷ []) pairs = record { only = y; is = refl; related = pairs.0 }
alone R x (y ∷ z ∷ ys) pairs = absurd pairs.1

flat-parts : {A B C : Type 0} (g : B → C) (h : A → List B) (xs : List A) → map g (flat_map h xs) ≡ flat_map (λ x. map g (h x)) xs
flat-parts g h [] = refl
flat-parts g h (x ∷ xs) = map-append g (h x) (flat_map h xs) ∙ ap (λ ys. map g (h x) ++ ys) (flat-parts g h xs)

-- capabilities by their numbers
abbrev capability_at : ℕ → Capability
capability_at number = record { number = number; place = 0 }

capabilities-moved : (all : List Capability) → map (capability_moved nowhere) all ≡ map capability_at (map (λ capability. capability.number) all)
capabilities-moved [] = refl
capabilities-moved (capability ∷ all) = ap (λ cs. capability_at capability.number ∷ cs) (capabilities-moved all)

-- types that are listed have no places
names-moved : (start count : ℕ) → map (type_name_moved nowhere) (map type_name (range_with_len start count)) ≡ map type_name (range_with_len start count)
names-moved start zero = refl
names-moved start (suc count) = ap (λ ns. type_name start ∷ ns) (names-moved (start + 1) count)

types-moved : (listed : List TypeTree) → types_moved nowhere (named_types listed) ≡ named_types listed
types-moved listed =
    let names = names-moved 1 (length listed) in
    λ i. record { table = (named_types listed).table; names = names i }

-- one label has a place
labels-moved : (labels : List ℕ) → length labels ≡ 1 → map nowhere labels ≡ 0 ∷ []
labels-moved [] one = absurd (omega arith)
labels-moved (label ∷ []) one = refl
labels-moved (label ∷ other ∷ labels) one = absurd (omega arith)

-- the one function of such a module, with its block
pub record HasParts (kernel : Kernel) (m : SpvModule) (f : ℕ → ℕ) : Type 0 where
  pub fn : SpvFunction
  pub bd : Body SpvInst ℕ
  pub blk : Block SpvInst ℕ
  pub entry : Entry
  pub fns : m.functions ≡ fn ∷ []
  pub bds : m.bodies ≡ bd ∷ []
  pub blks : bd.blocks ≡ blk ∷ []
  pub entries : m.entries ≡ entry ∷ []
  pub fn_pairs : PairsFunction f m.types (function kernel) fn
  pub blk_pairs : PairsBlock f m.types (record { name = kernel.block.number; insts = map instruction kernel.insts ++ text_end ∷ [] }) blk
  pub entry_pairs : PairsEntry f m.types kernel.names (function kernel) entry
  pub params : map f (map (λ param. param.name.number) kernel.params) ≡ bd.params

pub has-parts : (kernel : Kernel) (m : SpvModule) (pairs : Pairs (text_module kernel) m) → HasParts kernel m pairs.ids
has-parts kernel m pairs =
    let fns = alone (PairsFunction pairs.ids m.types) (function kernel) m.functions pairs.functions in
    let bds = alone (PairsBody pairs.ids m.types) (body kernel) m.bodies pairs.bodies in
    let block : Block Inst ℕ = record { name = kernel.block.number; insts = map instruction kernel.insts ++ text_end ∷ [] } in
    let blks = alone (PairsBlock pairs.ids m.types) block bds.only.blocks bds.related.blocks in
    let entries = alone (PairsEntry pairs.ids m.types kernel.names) (function kernel) m.entries pairs.entries in
    record {
      fn = fns.only;
      bd = bds.only;
      blk = blks.only;
      entry = entries.only;
      fns = fns.is;
      bds = bds.is;
      blks = blks.is;
      entries = entries.is;
      fn_pairs = fns.related;
      blk_pairs = blks.related;
      entry_pairs = entries.related;
      params = bds.related.params;
    }

module _ (kernel : Kernel) (m : SpvModule) (numbers : IsNumbered kernel) (own : kernel.name.number ≡ 0) (sound : HasSoundIds m)
    (f : ℕ → ℕ) (has : HasParts kernel m f) where
  abbrev types : NamedTypes
  types = m.types

  pub types-sound : HasSoundTypes types
  types-sound = record { once = once-front (type_ids types) (ids_in_functions m) sound.once; named = sound.named; parts = sound.parts }

  -- there are as many labels as blocks
  one-label : length has.fn.labels ≡ 1
  one-label =
      let zipped : AllZip HasLabels (has.fn ∷ []) (has.bd ∷ []) =
      subst (λ (bs : List (Body SpvInst ℕ)). AllZip HasLabels (has.fn ∷ []) bs) has.bds
      (subst (λ (fs : List SpvFunction). AllZip HasLabels fs m.bodies) has.fns sound.labels) in
      zipped.0 ∙ ap length has.blks

  defined-are : functions_defined m ≡ (has.fn, has.bd) ∷ []
  defined-are = ap (λ fs. zip fs m.bodies) has.fns ∙ ap (zip (has.fn ∷ [])) has.bds

  -- the ids that are defined in functions
  ids-are : ids_in_functions m ≡ map f (0 ∷ map number_defined (definitions kernel))
  ids-are =
      let params = kernel.params in
      let results_are = insts-results f types kernel.insts has.blk.insts has.blk_pairs.insts in
      let numbers_of : List Definition → List ℕ = λ ds. map f (map number_defined ds) in
      let behind : flat_map (ids_defined f types) kernel.insts ≡ numbers_of (flat_map defined_by kernel.insts) =
      sym (flat-parts f (λ inst. map number_defined (defined_by inst)) kernel.insts)
      ∙ ap (map f) (sym (flat-parts number_defined defined_by kernel.insts)) in
      let block : flat_map block_ids has.bd.blocks ≡ f kernel.block.number ∷ numbers_of (flat_map defined_by kernel.insts) =
      ap (flat_map block_ids) has.blks
      ∙ append-nil (block_ids has.blk)
      ∙ ap (λ id. id ∷ flat_map results has.blk.insts) (sym has.blk_pairs.name)
      ∙ ap (λ ids. f kernel.block.number ∷ ids) (results_are ∙ behind) in
      let heads : map param_id has.fn.params ≡ numbers_of (map param_definition params) = params-ids f types params has.fn.params has.fn_pairs.params ∙ each params in
      let first : has.fn.id ≡ f 0 = sym has.fn_pairs.name ∙ ap f own in
      let above : numbers_of (defined_above kernel) ≡ numbers_of (map param_definition params) ++ (f kernel.block.number ∷ []) =
      ap (map f) (map-append number_defined (map param_definition params) (block_definition kernel.block ∷ []))
      ∙ map-append f (map number_defined (map param_definition params)) (kernel.block.number ∷ []) in
      let all : numbers_of (definitions kernel) ≡ numbers_of (map param_definition params) ++ (f kernel.block.number ∷ numbers_of (flat_map defined_by kernel.insts)) =
      ap (map f) (map-append number_defined (defined_above kernel) (flat_map defined_by kernel.insts))
      ∙ map-append f (map number_defined (defined_above kernel)) (map number_defined (flat_map defined_by kernel.insts))
      ∙ ap (λ ids. ids ++ numbers_of (flat_map defined_by kernel.insts)) above
      ∙ append_assoc (numbers_of (map param_definition params)) (f kernel.block.number ∷ []) (numbers_of (flat_map defined_by kernel.insts)) in
      ap (flat_map function_ids) defined-are
      ∙ append-nil (function_ids (has.fn, has.bd))
      ∙ ap (λ id. id ∷ (map param_id has.fn.params ++ flat_map block_ids has.bd.blocks)) first
      ∙ ap (λ ids. f 0 ∷ (ids ++ flat_map block_ids has.bd.blocks)) heads
      ∙ ap (λ ids. f 0 ∷ (numbers_of (map param_definition params) ++ ids)) block
      ∙ ap (λ ids. f 0 ∷ ids) (sym all)
    where
      each : (ps : List KernelParam) → map (λ param. f param.name.number) ps ≡ map f (map number_defined (map param_definition ps))
      each [] = refl
      each (p ∷ ps) = ap (λ ids. f p.name.number ∷ ids) (each ps)

  abbrev count : ℕ
  count = definition_count kernel

  pub ids-range : ids_in_functions m ≡ map f (range_with_len 0 (suc count))
  ids-range = ids-are ∙ ap (λ ns. map f (0 ∷ ns)) numbers.defined

  -- the types that are needed
  trees-are : trees_needed m ≡ function_tree kernel.params ∷ flat_map result_trees kernel.insts
  trees-are =
      let tree = tree_with_id types in
      let asked : types_asked (has.fn, has.bd) ≡ has.fn.ty ∷ flat_map result_types has.blk.insts =
      ap (λ ids. has.fn.ty ∷ ids) (ap (flat_map block_types) has.blks ∙ append-nil (block_types has.blk)) in
      let own_tree = function-tree-is types types-sound f has.fn kernel.params has.fn_pairs.signature has.fn_pairs.given has.fn_pairs.params in
      let behind = flat-parts tree result_types has.blk.insts ∙ insts-trees f types types-sound kernel.insts has.blk.insts has.blk_pairs.insts in
      ap (λ ds. map tree (flat_map types_asked ds)) defined-are
      ∙ ap (map tree) (append-nil (types_asked (has.fn, has.bd)) ∙ asked)
      ∙ ap (λ t. t ∷ map tree (flat_map result_types has.blk.insts)) own_tree
      ∙ ap (λ ts. function_tree kernel.params ∷ ts) behind

  listed-are : types_listed m ≡ needing_all (function_tree kernel.params ∷ flat_map result_trees kernel.insts) []
  listed-are = ap (λ trees. needing_all trees []) trees-are

  module _ (listed : List TypeTree) where
    abbrev g : ℕ → ℕ
    g = new_id listed m

    pub range-at : (start n limit : ℕ) → n < limit → slice_get (map f (range_with_len start limit)) n ≡ Some (f (start + n))
    range-at start n zero within = absurd (omega arith)
    range-at start zero (suc limit) within = let same : start ≡ start + 0 = omega arith in ap (λ k. Some (f k)) same
    range-at start (suc n) (suc limit) within =
        let same : start + 1 + n ≡ start + suc n = omega arith in
        range-at (start + 1) n limit (omega arith) ∙ ap (λ k. Some (f k)) same

    -- the ids of names count on from that of the function
    named : (n : ℕ) → n < count + 1 → g (f n) ≡ (ids_over listed kernel).function + n
    named n within =
        let at : slice_get (ids_in_functions m) n ≡ Some (f n) = ap (λ is. slice_get is n) ids-range ∙ range-at 0 n (suc count) (omega arith) ∙ ap (λ k. Some (f k)) (behind-zero n) in
        let apart : is_among nat_eq (type_ids types) (f n) ≡ false = not-among (type_ids types) (ids_in_functions m) (f n) n sound.once at in
        let place : place_of nat_eq (ids_in_functions m) (f n) ≡ Some n =
        found-once (ids_in_functions m) (f n) n (once-behind (type_ids types) (ids_in_functions m) sound.once) at in
        ap (λ b. cond b (type_id listed (tree_with_id types (f n))) (length listed + 1 + unwrap_or (place_of nat_eq (ids_in_functions m) (f n)) 0)) apart
        ∙ ap (λ (o : Option ℕ). length listed + 1 + unwrap_or o 0) place
      where
        behind-zero : (k : ℕ) → 0 + k ≡ k
        behind-zero k = omega arith

    -- the id of a type is that of its tree
    of-type : (id : ℕ) (entry : Ty) (tree : TypeTree) → HasType types id entry → tree_with_id types id ≡ tree → g id ≡ type_id listed tree
    of-type id entry tree has_type is =
        let place = place-there types types-sound id entry has_type in
        ap (λ (o : Option ℕ). cond (is_some o) (type_id listed (tree_with_id types id)) (length listed + 1 + unwrap_or (place_of nat_eq (ids_in_functions m) id) 0)) place
        ∙ ap (type_id listed) is

    typed : (t : ValueType) (id : ℕ) → PairsType types (type_of t) id → g id ≡ value_type_id (ids_over listed kernel) t
    typed i32 id pairs_type =
        let of = type-is types types-sound i32 id pairs_type in
        of-type id of.entry Int of.has (type-tree types types-sound i32 id pairs_type)
    typed i32_pointer id pairs_type =
        let of = type-is types types-sound i32_pointer id pairs_type in
        of-type id of.entry (Pointer Int) of.has (type-tree types types-sound i32_pointer id pairs_type)

    abbrev Within : ℕ → Type 0
    Within n = n < count + 1

    names-within : NamesHave Within kernel
    names-within = numbered-names Within kernel numbers (λ n lt. lt)

    function-is : map (function_moved nowhere) (map (function_renamed g) m.functions) ≡ function_partner (ids_over listed kernel) kernel ∷ []
    function-is =
        let id : g has.fn.id ≡ (ids_over listed kernel).function = ap g (sym has.fn_pairs.name ∙ ap f own) ∙ named 0 (omega arith) ∙ add-zero (ids_over listed kernel).function in
        let void : g has.fn.result ≡ (ids_over listed kernel).void = of-type has.fn.result ty.Void Void has.fn_pairs.given (tree-with types types-sound has.fn.result ty.Void has.fn_pairs.given) in
        let signature = has.fn_pairs.signature in
        let type : g has.fn.ty ≡ (ids_over listed kernel).function_type =
        of-type has.fn.ty (ty.Function signature.given signature.params) (function_tree kernel.params) signature.held
        (function-tree-is types types-sound f has.fn kernel.params signature has.fn_pairs.given has.fn_pairs.params) in
        let params = params-become f g types listed kernel Within named typed kernel.params has.fn.params names-within.params has.fn_pairs.params in
        let labels = labels-moved has.fn.labels one-label in
        let here : function_moved nowhere (function_renamed g has.fn) ≡ function_partner (ids_over listed kernel) kernel =
        λ i. record { id = id i; result = void i; ty = type i; params = params i; labels = labels i; place = 0 } in
        ap (λ fs. map (function_moved nowhere) (map (function_renamed g) fs)) has.fns ∙ ap (λ fn. fn ∷ []) here
      where
        add-zero : (n : ℕ) → n + 0 ≡ n
        add-zero n = omega arith

    body-is : map (body_moved nowhere) (map (body_renamed inst_renamed g) m.bodies) ≡ body_partner (ids_over listed kernel) kernel ∷ []
    body-is =
        let block : g has.blk.name ≡ id_of (ids_over listed kernel) kernel.block = ap g (sym has.blk_pairs.name) ∙ named kernel.block.number names-within.block in
        let insts = insts-become f g types listed kernel Within named typed kernel.insts has.blk.insts names-within.insts has.blk_pairs.insts in
        let params : map g has.bd.params ≡ map (λ param. id_of (ids_over listed kernel) param.name) kernel.params =
        ap (map g) (sym has.params) ∙ numbers-become f g types listed kernel Within named typed kernel.params names-within.params in
        let only : block_moved nowhere (block_renamed inst_renamed g has.blk) ≡ record { name = id_of (ids_over listed kernel) kernel.block; insts = map (inst_partner (ids_over listed kernel)) kernel.insts ++ end_of_block ∷ [] } =
        λ i. record { name = block i; insts = insts i } in
        let blocks : map (block_moved nowhere) (map (block_renamed inst_renamed g) has.bd.blocks) ≡ record { name = id_of (ids_over listed kernel) kernel.block; insts = map (inst_partner (ids_over listed kernel)) kernel.insts ++ end_of_block ∷ [] } ∷ [] =
        ap (λ bs. map (block_moved nowhere) (map (block_renamed inst_renamed g) bs)) has.blks ∙ ap (λ b. b ∷ []) only in
        let here : body_moved nowhere (body_renamed inst_renamed g has.bd) ≡ body_partner (ids_over listed kernel) kernel = λ i. record { params = params i; blocks = blocks i } in
        ap (λ bs. map (body_moved nowhere) (map (body_renamed inst_renamed g) bs)) has.bds ∙ ap (λ b. b ∷ []) here

    entry-is : map (entry_moved nowhere) (map (entry_renamed g) m.entries) ≡ entry_partner (ids_over listed kernel) kernel ∷ []
    entry-is =
        let pairs_entry = has.entry_pairs in
        let id : g has.entry.function ≡ (ids_over listed kernel).function = ap g (sym pairs_entry.function_id ∙ ap f own) ∙ named 0 (omega arith) ∙ add-zero (ids_over listed kernel).function in
        let interface : map g has.entry.interface ≡ [] = ap (map g) pairs_entry.interface in
        let modes : map (mode_moved nowhere) has.entry.modes ≡ [] = ap (map (mode_moved nowhere)) pairs_entry.modes in
        let name = sym pairs_entry.name in
        let here : entry_moved nowhere (entry_renamed g has.entry) ≡ entry_partner (ids_over listed kernel) kernel =
        λ i. record { function = id i; name = name i; interface = interface i; modes = modes i; place = 0 } in
        ap (λ es. map (entry_moved nowhere) (map (entry_renamed g) es)) has.entries ∙ ap (λ e. e ∷ []) here
      where
        add-zero : (n : ℕ) → n + 0 ≡ n
        add-zero n = omega arith

    bound-is : length listed + length (ids_in_functions m) + 1 ≡ bound_over (ids_over listed kernel) kernel
    bound-is =
        let long : length (ids_in_functions m) ≡ suc count = ap length ids-range ∙ length-map-range_with_len f 0 (suc count) in
        omega arith

    form-over : Pairs (text_module kernel) m → without_places (numbered_over listed m) ≡ module_over listed (ids_over listed kernel) kernel
    unfolding without_places
    form-over pairs =
        let capabilities_are : map (capability_moved nowhere) m.capabilities ≡ capabilities = capabilities-moved m.capabilities ∙ ap (map capability_at) pairs.capabilities in
        let memory : memory_model_moved nowhere m.memory_model ≡ record { addressing = 2; memory = 2; place = 0 } =
        λ i. record { addressing = pairs.addressing i; memory = pairs.memory i; place = 0 } in
        let no_more = pairs.no_more in
        let extensions = ap (map (extension_moved nowhere)) no_more.extensions in
        let imports = ap (map (import_moved nowhere)) no_more.imports in
        let strings = ap (map (string_moved nowhere)) no_more.strings in
        let source = ap (option_map (source_moved nowhere)) no_more.source in
        let decorations = ap (map (decoration_moved nowhere)) no_more.decorations in
        let decoration_groups = ap (map (decoration_group_moved nowhere)) no_more.decoration_groups in
        let groups = ap (map (group_moved nowhere)) no_more.groups in
        let constants = ap (map (constant_moved nowhere)) no_more.constants in
        let variables = ap (map (variable_moved nowhere)) no_more.variables in
        λ i. record {
          order = Little;
          version = 0x10200;
          bound = bound-is i;
          capabilities = capabilities_are i;
          extensions = extensions i;
          imports = imports i;
          memory_model = memory i;
          entries = entry-is i;
          strings = strings i;
          source = source i;
          decorations = decorations i;
          decoration_groups = decoration_groups i;
          groups = groups i;
          types = types-moved listed i;
          constants = constants i;
          variables = variables i;
          functions = function-is i;
          bodies = body-is i;
        }

types-needed : (kernel : Kernel) → types_of kernel ≡ needing_all (function_tree kernel.params ∷ flat_map result_trees kernel.insts) []
unfolding types_of
types-needed kernel = refl

pub one-form : (kernel : Kernel) (m : SpvModule) → IsNumbered kernel → kernel.name.number ≡ 0 → HasSoundIds m → Pairs (text_module kernel) m
    → canonical_spirv m ≡ partner kernel
one-form kernel m numbers own sound pairs =
    let has = has-parts kernel m pairs in
    let listed : types_listed m ≡ types_of kernel = listed-are kernel m numbers own sound pairs.ids has ∙ sym (types-needed kernel) in
    ap (λ ts. without_places (numbered_over ts m)) listed ∙ form-over kernel m numbers own sound pairs.ids has (types_of kernel) pairs
