use Rattle.std.proofs.Common.{◌≡◌, sym, ◌∙◌, ap, ℕ, List, nat_eq, Some, None, arith, subst, Ok, []}
use Rattle.std.specs.Prelude.{if◌then◌else◌}
use Rattle.std.specs.Option.{option_or}
use Rattle.std.specs.HashMap.{get}
use Rattle.spv_layout.specs.Forms.{form_row, form_at}
use Rattle.spv_layout.specs.declared.operands.OperandKind.{OperandKind}
use Rattle.spv_codec.specs.Ids.{literal_width, is_id, result_id, id_kind}
use Rattle.spv_codec.specs.Operands.{read_operands}
use Rattle.spv_codec.specs.Instructions.{Reads}
use Rattle.spv_codec.proofs.InstLemmas.{Reads-Splits, operands_rule-read, kinds_of-form, All-in_range}
use Rattle.spv_codec.proofs.instructions.read_instruction.Goals as goal

pub returns-clause-inst : goal.returns-clause-inst
returns-clause-inst c =
    let old = get nat_eq c.args.ids.now.kinds in
    let new = get nat_eq c.note.new.self.kinds in
    let op = c.in_ok-op.op in
    let operands = c.in_ok-op.operands.now in
    let row = form_row c.in-Some.form.now in
    let form : form_at op ≡ Some row = sym c.in-Some.ensures in
    let read : read_operands (literal_width old op operands) row.operands operands ≡ Ok [] =
    ap (λ w. read_operands w row.operands operands) (sym c.literal_width.ensures) ∙ c.in_ok-check_operands.ensures in
    let Notes : List OperandKind → Type 0 =
    λ kinds. (id : ℕ) → new id ≡ option_or (old id) (if is_id id (result_id kinds operands) then Some (id_kind op kinds operands) else None) in
    let P : List ℕ → Type 0 = λ ops. Reads old new c.args.first c.args.behind.now c.args.place (record { op = op; place = c.args.place; operands = ops }) in
    subst P (sym c.in_ok-from_slice.ensures)
    (Reads-Splits old new c.args.first c.args.behind.now c.args.place op operands
    (omega arith) (All-in_range c.args.behind.now c.type_inv.behind) c.in_ok-op.ensures.split (operands_rule-read old op operands row form read)
    (subst Notes (sym (kinds_of-form op row form)) c.in_ok-note.ensures))
