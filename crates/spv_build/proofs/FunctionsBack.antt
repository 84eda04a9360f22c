-- Functions are read back from their instructions.
use Rattle.std.proofs.Common.{◌≡◌, ℕ, Bool, List, [], ◌∷◌, ◌++◌, All, map, refl, ap, ap₂, sym, ◌∙◌, append_assoc}
use Rattle.std.specs.List.{flat_map}
use Rattle.std.proofs.lemmas.List.{append-nil, map-append}
use Rattle.std.proofs.lemmas.List.Elements.{All-head, All-tail}
use Rattle.inst_walk.specs.declared.body.Block.{Block}
use Rattle.inst_walk.specs.declared.body.Body.{Body}
use Rattle.spv_codec.specs.declared.module.RawInst.{RawInst}
use Rattle.spv_sections.specs.Standing.{standing_of}
use Rattle.spv_names.specs.Functions.{part_of}
use Rattle.spv_module.specs.declared.inst.SpvInst.{SpvInst}
use Rattle.spv_module.specs.declared.module.Function.{Function}
use Rattle.spv_module.specs.declared.module.Param.{Param}
use Rattle.spv_layout.specs.declared.opcode.Opcode.TheVariants as op
use Rattle.spv_module.specs.Sections.{function_spelled, block_spelled, body_spelled}
use Rattle.spv_module.specs.Spelled.{spelled, param_spelled}
use Rattle.spv_module.specs.Woven.{inst_spelled}
use Rattle.spv_build.specs.declared.functions.FunctionsSoFar.{FunctionsSoFar}
use Rattle.spv_build.specs.declared.functions.Head.{Head}
use Rattle.spv_build.specs.Functions.{head_of, param_id, behind_part, behind_inst, behind_insts, no_head, read_functions}
use Rattle.spv_build.specs.Laws.{IsInside, IsLast, IsBlock, IsUnplaced, IsWhole, label_place, function_in, body_in, FunctionsAreReadBack}

abbrev state : List Function → List (Body SpvInst ℕ) → Head → List Param → List ℕ → List (Block SpvInst ℕ) → ℕ → List SpvInst → FunctionsSoFar
state functions bodies head params labels blocks label insts = record {
  functions = functions;
  bodies = bodies;
  head = head;
  params = params;
  labels = labels;
  blocks = blocks;
  label = label;
  insts = insts;
}

abbrev label_behind : ℕ → List (Block SpvInst ℕ) → ℕ
label_behind label [] = label
label_behind label (block ∷ blocks) = label_behind block.name blocks

abbrev insts_behind : List SpvInst → List (Block SpvInst ℕ) → List SpvInst
insts_behind insts [] = insts
insts_behind insts (block ∷ blocks) = insts_behind [] blocks

module _ (w : RawInst → Bool) where
  behind-append : (s : FunctionsSoFar) (xs ys : List RawInst) → behind_insts w s (xs ++ ys) ≡ behind_insts w (behind_insts w s xs) ys
  behind-append s [] ys = refl
  behind-append s (x ∷ xs) ys = behind-append (behind_inst w s x) xs ys

  begins : (functions : List Function) (bodies : List (Body SpvInst ℕ)) (head : Head) (params : List Param) (labels : List ℕ) (blocks : List (Block SpvInst ℕ)) (label : ℕ) (insts : List SpvInst) (function : Function)
      → behind_inst w (state functions bodies head params labels blocks label insts) (function_spelled function) ≡ state functions bodies (head_of (function_spelled function)) [] [] [] label insts
  unfolding part_of standing_of
  begins functions bodies head params labels blocks label insts function = refl

  labelled : (functions : List Function) (bodies : List (Body SpvInst ℕ)) (head : Head) (params : List Param) (labels : List ℕ) (blocks : List (Block SpvInst ℕ)) (label : ℕ) (insts : List SpvInst) (name : ℕ)
      → behind_inst w (state functions bodies head params labels blocks label insts) (spelled op.Label (name ∷ [])) ≡ state functions bodies head params (labels ++ 0 ∷ []) blocks name []
  unfolding part_of standing_of
  labelled functions bodies head params labels blocks label insts name = refl

  param-back : (functions : List Function) (bodies : List (Body SpvInst ℕ)) (head : Head) (params : List Param) (labels : List ℕ) (blocks : List (Block SpvInst ℕ)) (label : ℕ) (insts : List SpvInst) (param : Param)
      → param.place ≡ 0 → behind_inst w (state functions bodies head params labels blocks label insts) (param_spelled param) ≡ state functions bodies head (params ++ param ∷ []) labels blocks label insts
  unfolding part_of standing_of
  param-back functions bodies head params labels blocks label insts param e =
      ap (λ n. state functions bodies head (params ++ (let p : Param = record { id = param.id; ty = param.ty; place = n } in p) ∷ []) labels blocks label insts) (sym e)

  params-back : (functions : List Function) (bodies : List (Body SpvInst ℕ)) (head : Head) (done : List Param) (labels : List ℕ) (blocks : List (Block SpvInst ℕ)) (label : ℕ) (insts : List SpvInst) (params : List Param)
      → All IsUnplaced params → behind_insts w (state functions bodies head done labels blocks label insts) (map param_spelled params) ≡ state functions bodies head (done ++ params) labels blocks label insts
  params-back functions bodies head done labels blocks label insts [] placed =
      ap (λ ps. state functions bodies head ps labels blocks label insts) (sym (append-nil done))
  params-back functions bodies head done labels blocks label insts (param ∷ params) placed =
      ap (λ s. behind_insts w s (map param_spelled params)) (param-back functions bodies head done labels blocks label insts param (All-head IsUnplaced param params placed))
      ∙ (params-back functions bodies head (done ++ param ∷ []) labels blocks label insts params (All-tail IsUnplaced param params placed)
      ∙ ap (λ ps. state functions bodies head ps labels blocks label insts) (append_assoc done (param ∷ []) params))

  inside-back : (functions : List Function) (bodies : List (Body SpvInst ℕ)) (head : Head) (params : List Param) (labels : List ℕ) (blocks : List (Block SpvInst ℕ)) (label : ℕ) (done : List SpvInst) (insts : List SpvInst)
      → All (IsInside w) insts → behind_insts w (state functions bodies head params labels blocks label done) (map inst_spelled insts) ≡ state functions bodies head params labels blocks label (done ++ insts)
  inside-back functions bodies head params labels blocks label done [] inside =
      ap (state functions bodies head params labels blocks label) (sym (append-nil done))
  inside-back functions bodies head params labels blocks label done (inst ∷ insts) inside =
      let first = All-head (IsInside w) inst insts inside in
      ap (λ s. behind_insts w s (map inst_spelled insts))
      (ap (λ p. behind_part p (w (inst_spelled inst)) (state functions bodies head params labels blocks label done) (inst_spelled inst)) first.0
      ∙ ap (λ x. state functions bodies head params labels blocks label (done ++ x ∷ [])) first.1)
      ∙ (inside-back functions bodies head params labels blocks label (done ++ inst ∷ []) insts (All-tail (IsInside w) inst insts inside)
      ∙ ap (state functions bodies head params labels blocks label) (append_assoc done (inst ∷ []) insts))

  last-back : (functions : List Function) (bodies : List (Body SpvInst ℕ)) (head : Head) (params : List Param) (labels : List ℕ) (blocks : List (Block SpvInst ℕ)) (label : ℕ) (insts : List SpvInst) (last : SpvInst)
      → IsLast w last → behind_insts w (state functions bodies head params labels blocks label insts) (inst_spelled last ∷ [])
      ≡ state functions bodies head params labels (blocks ++ (let b : Block SpvInst ℕ = record { name = label; insts = insts ++ last ∷ [] } in b) ∷ []) label []
  last-back functions bodies head params labels blocks label insts last ends =
      ap (λ p. behind_part p (w (inst_spelled last)) (state functions bodies head params labels blocks label insts) (inst_spelled last)) ends.0
      ∙ ap (λ x. state functions bodies head params labels (blocks ++ (let b : Block SpvInst ℕ = record { name = label; insts = insts ++ x ∷ [] } in b) ∷ []) label []) ends.1

  block-back : (functions : List Function) (bodies : List (Body SpvInst ℕ)) (head : Head) (params : List Param) (labels : List ℕ) (blocks : List (Block SpvInst ℕ)) (label : ℕ) (insts : List SpvInst) (block : Block SpvInst ℕ)
      → IsBlock w block → behind_insts w (state functions bodies head params labels blocks label insts) (block_spelled block) ≡ state functions bodies head params (labels ++ 0 ∷ []) (blocks ++ block ∷ []) block.name []
  block-back functions bodies head params labels blocks label insts block whole =
      ap (λ s. behind_insts w s (map inst_spelled block.insts)) (labelled functions bodies head params labels blocks label insts block.name)
      ∙ (ap (λ is. behind_insts w (state functions bodies head params (labels ++ 0 ∷ []) blocks block.name []) (map inst_spelled is)) whole.ends
      ∙ (ap (behind_insts w (state functions bodies head params (labels ++ 0 ∷ []) blocks block.name [])) (map-append inst_spelled whole.inner (whole.last ∷ []))
      ∙ (behind-append (state functions bodies head params (labels ++ 0 ∷ []) blocks block.name []) (map inst_spelled whole.inner) (inst_spelled whole.last ∷ [])
      ∙ (ap (λ s. behind_insts w s (inst_spelled whole.last ∷ [])) (inside-back functions bodies head params (labels ++ 0 ∷ []) blocks block.name [] whole.inner whole.inside)
      ∙ (last-back functions bodies head params (labels ++ 0 ∷ []) blocks block.name whole.inner whole.last whole.terminated
      ∙ ap (λ is. state functions bodies head params (labels ++ 0 ∷ []) (blocks ++ (let b : Block SpvInst ℕ = record { name = block.name; insts = is } in b) ∷ []) block.name []) (sym whole.ends))))))

  blocks-back : (functions : List Function) (bodies : List (Body SpvInst ℕ)) (head : Head) (params : List Param) (labels : List ℕ) (done : List (Block SpvInst ℕ)) (label : ℕ) (insts : List SpvInst) (blocks : List (Block SpvInst ℕ))
      → All (IsBlock w) blocks → behind_insts w (state functions bodies head params labels done label insts) (flat_map block_spelled blocks)
      ≡ state functions bodies head params (labels ++ map label_place blocks) (done ++ blocks) (label_behind label blocks) (insts_behind insts blocks)
  blocks-back functions bodies head params labels done label insts [] whole =
      ap₂ (λ ls bs. state functions bodies head params ls bs label insts) (sym (append-nil labels)) (sym (append-nil done))
  blocks-back functions bodies head params labels done label insts (block ∷ blocks) whole =
      behind-append (state functions bodies head params labels done label insts) (block_spelled block) (flat_map block_spelled blocks)
      ∙ (ap (λ s. behind_insts w s (flat_map block_spelled blocks)) (block-back functions bodies head params labels done label insts block (All-head (IsBlock w) block blocks whole))
      ∙ (blocks-back functions bodies head params (labels ++ 0 ∷ []) (done ++ block ∷ []) block.name [] blocks (All-tail (IsBlock w) block blocks whole)
      ∙ ap₂ (λ ls bs. state functions bodies head params ls bs (label_behind block.name blocks) (insts_behind [] blocks)) (append_assoc labels (0 ∷ []) (map label_place blocks)) (append_assoc done (block ∷ []) blocks)))

  ended : (functions : List Function) (bodies : List (Body SpvInst ℕ)) (head : Head) (params : List Param) (labels : List ℕ) (blocks : List (Block SpvInst ℕ)) (label : ℕ) (insts : List SpvInst)
      → behind_insts w (state functions bodies head params labels blocks label insts) (spelled op.FunctionEnd [] ∷ [])
      ≡ state (functions ++ (let f : Function = record { id = head.id; result = head.result; ty = head.ty; params = params; labels = labels; place = head.place } in f) ∷ [])
      (bodies ++ (let b : Body SpvInst ℕ = record { params = map param_id params; blocks = blocks } in b) ∷ []) head [] [] [] label insts
  unfolding part_of standing_of
  ended functions bodies head params labels blocks label insts = refl

  function-back : (functions : List Function) (bodies : List (Body SpvInst ℕ)) (head : Head) (params : List Param) (labels : List ℕ) (blocks : List (Block SpvInst ℕ)) (label : ℕ) (insts : List SpvInst) (e : Function × Body SpvInst ℕ)
      → IsWhole w e → behind_insts w (state functions bodies head params labels blocks label insts) (body_spelled e)
      ≡ state (functions ++ e.0 ∷ []) (bodies ++ e.1 ∷ []) (head_of (function_spelled e.0)) [] [] [] (label_behind label e.1.blocks) (insts_behind insts e.1.blocks)
  function-back functions bodies head params labels blocks label insts e whole =
      let h = head_of (function_spelled e.0) in
      let ps = map param_spelled e.0.params in
      let bs = flat_map block_spelled e.1.blocks in
      let end = spelled op.FunctionEnd [] ∷ [] in
      ap (λ s. behind_insts w s (ps ++ (bs ++ end))) (begins functions bodies head params labels blocks label insts e.0)
      ∙ (behind-append (state functions bodies h [] [] [] label insts) ps (bs ++ end)
      ∙ (ap (λ s. behind_insts w s (bs ++ end)) (params-back functions bodies h [] [] [] label insts e.0.params whole.params)
      ∙ (behind-append (state functions bodies h e.0.params [] [] label insts) bs end
      ∙ (ap (λ s. behind_insts w s end) (blocks-back functions bodies h e.0.params [] [] label insts e.1.blocks whole.blocks)
      ∙ (ended functions bodies h e.0.params (map label_place e.1.blocks) e.1.blocks (label_behind label e.1.blocks) (insts_behind insts e.1.blocks)
      ∙ ap₂ (λ f b. state (functions ++ f ∷ []) (bodies ++ b ∷ []) h [] [] [] (label_behind label e.1.blocks) (insts_behind insts e.1.blocks))
      (ap₂ (λ ls n. let f : Function = record { id = e.0.id; result = e.0.result; ty = e.0.ty; params = e.0.params; labels = ls; place = n } in f) (sym whole.labels) (sym whole.placed))
      (ap (λ is. let b : Body SpvInst ℕ = record { params = is; blocks = e.1.blocks } in b) (sym whole.ids)))))))

  functions-back : (functions : List Function) (bodies : List (Body SpvInst ℕ)) (head : Head) (params : List Param) (labels : List ℕ) (blocks : List (Block SpvInst ℕ)) (label : ℕ) (insts : List SpvInst) (es : List (Function × Body SpvInst ℕ))
      → All (IsWhole w) es → (let s = behind_insts w (state functions bodies head params labels blocks label insts) (flat_map body_spelled es) in (s.functions ≡ functions ++ map function_in es) × (s.bodies ≡ bodies ++ map body_in es))
  functions-back functions bodies head params labels blocks label insts [] whole = (sym (append-nil functions), sym (append-nil bodies))
  functions-back functions bodies head params labels blocks label insts (e ∷ es) whole =
      let s = state functions bodies head params labels blocks label insts in
      let rest = flat_map body_spelled es in
      let first =
      behind-append s (body_spelled e) rest
      ∙ ap (λ t. behind_insts w t rest) (function-back functions bodies head params labels blocks label insts e (All-head (IsWhole w) e es whole)) in
      let others = functions-back (functions ++ e.0 ∷ []) (bodies ++ e.1 ∷ []) (head_of (function_spelled e.0)) [] [] [] (label_behind label e.1.blocks) (insts_behind insts e.1.blocks) es (All-tail (IsWhole w) e es whole) in (
        ap (λ t. t.functions) first ∙ (others.0 ∙ append_assoc functions (e.0 ∷ []) (map function_in es)),
        ap (λ t. t.bodies) first ∙ (others.1 ∙ append_assoc bodies (e.1 ∷ []) (map body_in es)),
      )

pub functions-are-back : FunctionsAreReadBack
unfolding read_functions
functions-are-back w es whole = functions-back w [] [] no_head [] [] [] 0 [] es whole
