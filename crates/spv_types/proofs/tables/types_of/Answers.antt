use Rattle.std.proofs.Common.{◌+◌, nat_eq, ap, ap₂, sym, ◌∙◌, drop, length}
use Rattle.std.specs.HashMap.{get}
use Rattle.std.specs.HashSet.{contains}
use Rattle.std.proofs.Math.Path.{fun_ext}
use Rattle.std.proofs.lemmas.List.{at_drop_more, at_drop_all}
use Rattle.spv_layout.specs.Forms.{opcode_of}
use Rattle.spv_types.specs.Numbers.{constant_number}
use Rattle.spv_types.specs.Packed.{is_packed}
use Rattle.spv_types.specs.Readings.{type_by}
use Rattle.spv_types.specs.Tables.{with_type, types_behind, types_from, types_of, place_of}
use Rattle.spv_types.proofs.Parts.{parts-within}
use Rattle.spv_types.proofs.Places.{found-within}
use Rattle.spv_types.proofs.tables.types_of.Goals as goal

pub loop-inst-preserved : goal.loop-inst-preserved
loop-inst-preserved c =
    let i = c.loop-inst.inst-index in
    let insts = c.args.insts.now in
    let inst = c.inst-item.result in
    let types = c.loop-inst.types in
    let numbers = constant_number insts in
    let packed = is_packed insts in
    let placed = fun_ext c.loop-inst.invariant.noted in
    let ty =
    c.in_ok-ty.ensures
    ∙ (ap (λ f. type_by f (get nat_eq c.in_ok-constant_numbers.field-0) (contains nat_eq c.in_ok-packed_ids.field-0) (opcode_of inst.op) inst.operands) placed
    ∙ ap₂ (λ f g. type_by (place_of types.names) f g (opcode_of inst.op) inst.operands) (fun_ext c.in_ok-constant_numbers.ensures) (fun_ext c.in_ok-packed_ids.ensures)) in
    let behind = c.in_ok-add_type.ensures.added ∙ ap₂ (with_type types) c.name_of.ensures ty in
    record {
      noted = c.in_ok-add_type.ensures.noted;
      going =
          ap (λ t. types_from numbers packed t (drop (i + 1) insts)) behind
          ∙ (ap (λ x. types_from numbers packed (types_behind numbers packed types x) (drop (i + 1) insts)) c.inst-item.is
          ∙ (sym (at_drop_more (types_from numbers packed types) insts i inst c.loop-inst-test.true) ∙ c.loop-inst.invariant.going));
    }

pub add_type-requires-clause-parts : goal.add_type-requires-clause-parts
add_type-requires-clause-parts c =
    let inst = c.inst-item.result in
    let names = c.loop-inst.types.names in
    let found = get nat_eq c.loop-inst.places in
    rw c.in_ok-ty.ensures
    (parts-within (length names) found (found-within names found c.loop-inst.invariant.noted) (get nat_eq c.in_ok-constant_numbers.field-0) (contains nat_eq c.in_ok-packed_ids.field-0) inst.operands (opcode_of inst.op))

pub returns : goal.returns
unfolding types_of
returns c =
    let insts = c.args.insts.now in
    sym (at_drop_all (types_from (constant_number insts) (is_packed insts) c.loop-inst.types) insts c.loop-inst.inst-index c.loop-inst-test.false)
    ∙ c.loop-inst.invariant.going
