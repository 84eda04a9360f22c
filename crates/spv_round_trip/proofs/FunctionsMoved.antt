-- Functions are read back from the instructions of a module.
use Rattle.std.proofs.Common.{◌≡◌, ℕ, ◌+◌, Bool, List, [], ◌∷◌, ◌++◌, map, length, slice_get, unwrap_or, Option, Some, None, refl, ap, ap₂, sym, ◌∙◌}
use Rattle.std.specs.Option.{option_map, option_to_list}
use Rattle.std.proofs.lemmas.List.{map-append}
use Rattle.inst_walk.specs.declared.body.Block.{Block}
use Rattle.inst_walk.specs.declared.body.Body.{Body}
use Rattle.spv_codec.specs.declared.module.RawInst.{RawInst}
use Rattle.spv_module.specs.declared.inst.SpvInst.{SpvInst}
use Rattle.spv_module.specs.declared.module.Param.{Param}
use Rattle.spv_module.specs.Modules.{param_moved, function_moved, inst_moved, block_moved, body_moved}
use Rattle.spv_module.specs.Sections.{placed}
use Rattle.spv_names.specs.declared.functions.Part.{Part}
use Rattle.spv_names.specs.declared.functions.Part.TheVariants as part
use Rattle.spv_names.specs.Functions.{part_of}
use Rattle.spv_sections.specs.Standing.{standing_of}
use Rattle.spv_build.specs.declared.functions.FunctionsSoFar.{FunctionsSoFar}
use Rattle.spv_build.specs.declared.functions.Head.{Head}
use Rattle.spv_build.specs.Functions.{param_id, function_of, body_of, block_of, behind_part, behind_inst, behind_insts, no_functions, read_functions}
use Rattle.spv_build.specs.Insts.{inst_of}
use Rattle.spv_build.specs.Items.{param_of}
use Rattle.spv_build.specs.Laws.{at}
use Rattle.spv_round_trip.specs.Laws.{unplace}
use Rattle.spv_round_trip.proofs.Natural as natural

abbrev head_moved : Head → Head
head_moved head = record head { place = 0 }

-- what is read so far, in no place
abbrev pub so_far_moved : FunctionsSoFar → FunctionsSoFar
so_far_moved s = record {
  functions = map (function_moved unplace) s.functions;
  bodies = map (body_moved unplace) s.bodies;
  head = head_moved s.head;
  params = map (param_moved unplace) s.params;
  labels = map unplace s.labels;
  blocks = map (block_moved unplace) s.blocks;
  label = s.label;
  insts = map (inst_moved unplace) s.insts;
}

param-list : (o : Option Param) → map (param_moved unplace) (option_to_list o) ≡ option_to_list (option_map (param_moved unplace) o)
param-list None = refl
param-list (Some param) = refl

ids-moved : (params : List Param) → map param_id params ≡ map param_id (map (param_moved unplace) params)
ids-moved [] = refl
ids-moved (param ∷ params) = ap (λ ids. param.id ∷ ids) (ids-moved params)

inst-moved : (wide : Bool) (inst : RawInst) → inst_moved unplace (inst_of wide inst) ≡ inst_of wide (at 0 inst)
unfolding inst_of
inst-moved wide inst = refl

-- one instruction more
part-moved : (p : Part) (wide : Bool) (s : FunctionsSoFar) (inst : RawInst) → so_far_moved (behind_part p wide s inst) ≡ behind_part p wide (so_far_moved s) (at 0 inst)
part-moved part.Start wide s inst = refl
part-moved part.Parameter wide s inst =
    ap (λ ps. let t : FunctionsSoFar = record (so_far_moved s) { params = ps } in t)
    (map-append (param_moved unplace) s.params (option_to_list (param_of inst))
    ∙ ap (λ ps. map (param_moved unplace) s.params ++ ps) (param-list (param_of inst) ∙ ap option_to_list (natural.params inst)))
part-moved part.Label wide s inst =
    ap (λ ls. let t : FunctionsSoFar = record (so_far_moved s) { labels = ls; label = unwrap_or (slice_get inst.operands 0) 0; insts = [] } in t)
    (map-append unplace s.labels (inst.place ∷ []))
part-moved part.Inner wide s inst =
    ap (λ is. let t : FunctionsSoFar = record (so_far_moved s) { insts = is } in t)
    (map-append (inst_moved unplace) s.insts (inst_of wide inst ∷ [])
    ∙ ap (λ i. map (inst_moved unplace) s.insts ++ i ∷ []) (inst-moved wide inst))
part-moved part.Terminator wide s inst =
    ap (λ bs. let t : FunctionsSoFar = record (so_far_moved s) { blocks = bs; insts = [] } in t)
    (map-append (block_moved unplace) s.blocks (block_of s (inst_of wide inst) ∷ [])
    ∙ ap (λ is. map (block_moved unplace) s.blocks ++ (let b : Block SpvInst ℕ = record { name = s.label; insts = is } in b) ∷ [])
    (map-append (inst_moved unplace) s.insts (inst_of wide inst ∷ [])
    ∙ ap (λ i. map (inst_moved unplace) s.insts ++ i ∷ []) (inst-moved wide inst)))
part-moved part.End wide s inst =
    ap₂ (λ fs bs. let t : FunctionsSoFar = record (so_far_moved s) { functions = fs; bodies = bs; params = []; labels = []; blocks = [] } in t)
    (map-append (function_moved unplace) s.functions (function_of s ∷ []))
    (map-append (body_moved unplace) s.bodies (body_of s ∷ [])
    ∙ ap (λ ids. map (body_moved unplace) s.bodies ++ (let b : Body SpvInst ℕ = record { params = ids; blocks = map (block_moved unplace) s.blocks } in b) ∷ []) (ids-moved s.params))
part-moved p wide s inst = refl

part-anywhere : (inst : RawInst) → part_of inst ≡ part_of (at 0 inst)
unfolding part_of standing_of
part-anywhere inst = refl

module _ (w : RawInst → Bool) (same : (inst : RawInst) → w inst ≡ w (at 0 inst)) where
  inst-behind : (s : FunctionsSoFar) (inst : RawInst) → so_far_moved (behind_inst w s inst) ≡ behind_inst w (so_far_moved s) (at 0 inst)
  inst-behind s inst =
      part-moved (part_of inst) (w inst) s inst
      ∙ ap₂ (λ p wide. behind_part p wide (so_far_moved s) (at 0 inst)) (part-anywhere inst) (same inst)

  insts-behind : (s t : FunctionsSoFar) → so_far_moved s ≡ so_far_moved t → (place : ℕ) (insts : List RawInst)
      → so_far_moved (behind_insts w s (placed place insts)) ≡ so_far_moved (behind_insts w t insts)
  insts-behind s t e place [] = e
  insts-behind s t e place (inst ∷ insts) =
      insts-behind (behind_inst w s (at place inst)) (behind_inst w t inst)
      (inst-behind s (at place inst) ∙ (ap (λ r. behind_inst w r (at 0 inst)) e ∙ sym (inst-behind t inst)))
      (place + (length inst.operands + 1)) insts

  pub functions-moved : (place : ℕ) (insts : List RawInst) → so_far_moved (read_functions w (placed place insts)) ≡ so_far_moved (read_functions w insts)
  unfolding read_functions
  functions-moved place insts = insts-behind no_functions no_functions refl place insts
