-- Reading one instruction, and one behind others.
use Rattle.std.proofs.Common.{Fits as FitsWidth, w32, ◌≡◌, ◌≢◌, ℕ, ◌+◌, ◌-◌, ◌*◌, ◌/◌, ◌^◌, ◌<◌, ◌≤◌, Bool, true, false, List, [], ◌∷◌, ◌++◌, length, drop, get_or, All, Ok, Some, None, sym, ◌∙◌, ap, refl, arith, append_assoc, append-nil, length-append, subst}
use Rattle.std.specs.Prelude.{Option, unwrap_or, nat_lt, ◌==◌, if◌then◌else◌}
use Rattle.std.specs.Option.{option_map, option_or}
use Rattle.std.proofs.lemmas.List.{get_or_default, take-append-drop, length-take-le, get_or-take}
use Rattle.std.proofs.lemmas.Bool.{eqb-false, ltb-false}
use Rattle.std.proofs.lemmas.Grind.{flat_map-append}
use Rattle.std.proofs.Math.Path.{fun_ext}
use Rattle.spv_codec.specs.declared.instructions.InstError.{InstError}
use Rattle.spv_codec.specs.declared.instructions.InstError.TheVariants.{NoMemory, Rule}
use Rattle.spv_layout.specs.Forms.{FormRow, form_at}
use Rattle.spv_codec.specs.declared.ids.IdKind.{IdKind}
use Rattle.spv_codec.specs.declared.module.RawInst.{RawInst}
use Rattle.spv_codec.specs.Ids.{literal_width, is_id, result_id, kinds_of, id_kind, ids_of}
use Rattle.spv_codec.specs.Operands.{read_operands}
use Rattle.spv_codec.specs.Instructions.{spelling, spellings, form_rule, reading_rule, operands_rule, count_rule, first_rule, Splits, Reads, Fits, AllFit, TellsRule, IsInstError, error_at}

-- the words of a slice are in their range
pub All-in_range : (words : List ℕ) → ((i : ℕ) → FitsWidth w32 (get_or words i 0)) → All (λ word. word < 2 ^ 32) words
All-in_range words fit k d lt =
    let fits : FitsWidth w32 (get_or words k 0) = fit k in
    let same : get_or words k 0 ≡ get_or words k d = get_or_default words k 0 d lt in
    omega arith

-- the operands of the form that an opcode has
pub kinds_of-form : (op : ℕ) (form : FormRow) → form_at op ≡ Some form → kinds_of op ≡ form.operands
kinds_of-form op form is = ap (λ f. unwrap_or (option_map (λ row. row.operands) f) []) is

-- operands that can be read break no rule
pub operands_rule-read : (ids : ℕ → Option IdKind) (op : ℕ) (operands : List ℕ) (form : FormRow) → form_at op ≡ Some form
    → read_operands (literal_width ids op operands) form.operands operands ≡ Ok [] → operands_rule ids op operands ≡ None
operands_rule-read ids op operands form is read = ap (form_rule ids op operands) is ∙ ap reading_rule read

-- the count of an instruction's words is at least one, and no more than there are
pub record Counts (first : ℕ) (behind : List ℕ) : Type 0 where
  pub some : 0 < first / 65536
  pub within : first / 65536 ≤ length behind + 1

pub Counts-count_rule : (first : ℕ) (behind : List ℕ) → count_rule first behind ≡ None → Counts first behind
Counts-count_rule first behind none = by_zero (first / 65536 == 0) refl none
  where
    by_more : (b : Bool) → nat_lt (length behind + 1) (first / 65536) ≡ b → (if◌then◌else◌ {A = Option ℕ} b (Some 8) None) ≡ None → first / 65536 ≤ length behind + 1
    by_more true e n = cc
    by_more false e n = ltb-false (length behind + 1) (first / 65536) e

    by_zero : (b : Bool) → (first / 65536 == 0) ≡ b
        → (if◌then◌else◌ {A = Option ℕ} b (Some 7) (if◌then◌else◌ {A = Option ℕ} (nat_lt (length behind + 1) (first / 65536)) (Some 8) None)) ≡ None → Counts first behind
    by_zero true e n = cc
    by_zero false e n =
        let differs : first / 65536 ≢ 0 = eqb-false (first / 65536) 0 e in
        record { some = omega arith; within = by_more (nat_lt (length behind + 1) (first / 65536)) refl n }

-- what was split off is an instruction of its own words
pub Reads-Splits : (old new : ℕ → Option IdKind) (first : ℕ) (behind : List ℕ) (place op : ℕ) (operands : List ℕ)
    → first < 2 ^ 32 → All (λ word. word < 2 ^ 32) behind → Splits first behind op operands → operands_rule old op operands ≡ None
    → ((id : ℕ) → new id ≡ option_or (old id) (if is_id id (result_id (kinds_of op) operands) then Some (id_kind op (kinds_of op) operands) else None))
    → Reads old new first behind place (record { op = op; place = place; operands = operands })
Reads-Splits old new first behind place op operands fits fit split right noted =
    let counts = Counts-count_rule first behind split.counted in
    let count = first / 65536 in
    let some = counts.some in
    let within = counts.within in
    let len : length operands ≡ count - 1 = ap length split.rest ∙ length-take-le (count - 1) behind (omega arith) in
    let parts : operands ++ drop (length operands) behind ≡ behind =
    ap (λ n. operands ++ drop n behind) len ∙ (ap (λ xs. xs ++ drop (count - 1) behind) split.rest ∙ take-append-drop (count - 1) behind) in
    let word : 65536 * (length operands + 1) + op ≡ first = omega (arith, len, split.opcode) in
    record {
      spelled = ap (λ w. w ∷ behind) (sym word) ∙ ap (λ ws. (65536 * (length operands + 1) + op) ∷ ws) (sym parts);
      within = omega (arith, len);
      right = right;
      op = omega (arith, split.opcode);
      short = omega (arith, len);
      in_range = λ k d lt. rw split.rest (rw (get_or-take (count - 1) behind k d (omega (arith, len))) (fit k d (omega (arith, len))));
      placed = refl;
      noted = noted;
    }

-- one instruction behind those that fit
pub AllFit-more : (before insts : List RawInst) (inst : RawInst) → AllFit before insts → Fits (before ++ insts) inst
    → AllFit before (insts ++ inst ∷ [])
AllFit-more before [] inst fit fits = let P : List RawInst → Type 0 = λ b. Fits b inst in (subst P (append-nil before) fits, tt)
AllFit-more before (x ∷ xs) inst fit fits =
    let P : List RawInst → Type 0 = λ b. Fits b inst in
    (fit.0, AllFit-more (before ++ x ∷ []) xs inst fit.1 (subst P (sym (append_assoc before (x ∷ []) xs)) fits))

-- what one instruction more says of an id
pub ids_of-more : (insts : List RawInst) (inst : RawInst) (id : ℕ)
    → ids_of (insts ++ inst ∷ []) id ≡ option_or (ids_of insts id)
    (if is_id id (result_id (kinds_of inst.op) inst.operands) then Some (id_kind inst.op (kinds_of inst.op) inst.operands) else None)
ids_of-more [] inst id = refl
ids_of-more (x ∷ xs) inst id = by_test (is_id id (result_id (kinds_of x.op) x.operands)) (ids_of-more xs inst id)
  where
    by_test : (b : Bool) → ids_of (xs ++ inst ∷ []) id ≡ option_or (ids_of xs id)
        (if is_id id (result_id (kinds_of inst.op) inst.operands) then Some (id_kind inst.op (kinds_of inst.op) inst.operands) else None)
        → (if b then Some (id_kind x.op (kinds_of x.op) x.operands) else ids_of (xs ++ inst ∷ []) id)
        ≡ option_or (if b then Some (id_kind x.op (kinds_of x.op) x.operands) else ids_of xs id)
        (if is_id id (result_id (kinds_of inst.op) inst.operands) then Some (id_kind inst.op (kinds_of inst.op) inst.operands) else None)
    by_test true e = refl
    by_test false e = e

pub spellings-append : (insts more : List RawInst) → spellings (insts ++ more) ≡ spellings insts ++ spellings more
spellings-append insts more = flat_map-append spelling insts more

pub spellings-more : (insts : List RawInst) (inst : RawInst) → spellings (insts ++ inst ∷ []) ≡ spellings insts ++ spelling inst
spellings-more insts inst = spellings-append insts (inst ∷ []) ∙ ap (λ ws. spellings insts ++ ws) (append-nil (spelling inst))

-- how far the instructions have been read: the place is that of what is left
pub record Progress (words : List ℕ) (ids : ℕ → Option IdKind) (insts : List RawInst) (rest : List ℕ) (place : ℕ) : Type 0 where
  pub spelled : words ≡ spellings insts ++ rest
  pub placed : place ≡ 5 + length (spellings insts)
  pub fit : AllFit [] insts
  pub known : ids ≡ ids_of insts

pub Progress-start : (words : List ℕ) (ids : ℕ → Option IdKind) → ((id : ℕ) → ids id ≡ None) → Progress words ids [] words 5
Progress-start words ids none = record { spelled = refl; placed = refl; fit = tt; known = fun_ext none }

pub Progress-more : (words : List ℕ) (ids new : ℕ → Option IdKind) (insts : List RawInst) (first : ℕ) (behind : List ℕ) (place : ℕ) (inst : RawInst)
    → Progress words ids insts (first ∷ behind) place → Reads ids new first behind place inst
    → Progress words new (insts ++ inst ∷ []) (drop (length inst.operands) behind) (place + (length inst.operands + 1))
Progress-more words ids new insts first behind place inst before reads =
    let after = drop (length inst.operands) behind in
    let Knows : (ℕ → Option IdKind) → Type 0 = λ k. operands_rule k inst.op inst.operands ≡ None in
    let fits : Fits insts inst = record {
      right = subst Knows before.known reads.right;
      op = reads.op;
      short = reads.short;
      in_range = reads.in_range;
      placed = reads.placed ∙ before.placed;
    } in
    record {
      spelled =
          before.spelled ∙ (ap (λ ws. spellings insts ++ ws) reads.spelled
          ∙ (sym (append_assoc (spellings insts) (spelling inst) after)
          ∙ ap (λ ws. ws ++ after) (sym (spellings-more insts inst))));
      placed = omega (arith, before.placed, ap length (spellings-more insts inst), length-append (spellings insts) (spelling inst));
      fit = AllFit-more [] insts inst before.fit fits;
      known = fun_ext (λ id. reads.noted id
          ∙ (ap (λ k. option_or (k id) (if is_id id (result_id (kinds_of inst.op) inst.operands) then Some (id_kind inst.op (kinds_of inst.op) inst.operands) else None)) before.known
          ∙ sym (ids_of-more insts inst id)));
    }

-- an instruction that breaks a rule is told at its place
pub Progress-fault : (words : List ℕ) (ids : ℕ → Option IdKind) (insts : List RawInst) (first : ℕ) (behind : List ℕ) (place : ℕ) (error : InstError)
    → Progress words ids insts (first ∷ behind) place → TellsRule (first_rule ids first behind) error → IsInstError words (error_at error place)
Progress-fault words ids insts first behind place NoMemory before tells = tt
Progress-fault words ids insts first behind place (Rule number) before tells =
    record {
      insts = insts;
      fit = before.fit;
      first = first;
      behind = behind;
      spelled = before.spelled;
      rule = ap (λ k. first_rule k first behind) (sym before.known) ∙ tells;
      placed = before.placed;
    }

-- the place is within the words
pub Progress-place : (words : List ℕ) (ids : ℕ → Option IdKind) (insts : List RawInst) (first : ℕ) (behind : List ℕ) (place : ℕ) (inst : RawInst) (new : ℕ → Option IdKind)
    → Progress words ids insts (first ∷ behind) place → Reads ids new first behind place inst → place + (length inst.operands + 1) ≤ 5 + length words
Progress-place words ids insts first behind place inst new before reads =
    omega (arith, before.placed, reads.within, ap length before.spelled, length-append (spellings insts) (first ∷ behind))

-- a turn of the loop
pub Progress-turn : (words : List ℕ) (ids new : ℕ → Option IdKind) (insts after : List RawInst) (rest next behind : List ℕ) (first place len : ℕ) (inst : RawInst)
    → Progress words ids insts rest place → rest ≡ first ∷ behind → Reads ids new first behind place inst
    → next ≡ drop len behind → len ≡ length inst.operands → after ≡ insts ++ inst ∷ [] → Progress words new after next (place + (len + 1))
Progress-turn words ids new insts after rest next behind first place len inst before split reads dropped counted pushed =
    let At : List ℕ → Type 0 = λ ws. Progress words ids insts ws place in
    let more = Progress-more words ids new insts first behind place inst (subst At split before) reads in
    let Len : ℕ → Type 0 = λ n. Progress words new (insts ++ inst ∷ []) (drop n behind) (place + (n + 1)) in
    let counted_so = subst Len (sym counted) more in
    let Next : List ℕ → Type 0 = λ ws. Progress words new (insts ++ inst ∷ []) ws (place + (len + 1)) in
    let Pushed : List RawInst → Type 0 = λ is. Progress words new is next (place + (len + 1)) in
    subst Pushed (sym pushed) (subst Next (sym dropped) counted_so)
