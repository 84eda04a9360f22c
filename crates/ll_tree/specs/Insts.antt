-- What the walks see of an instruction, and the instruction with its names changed or places changed.
use Rattle.std.specs.Prelude.{ℕ, map, option_map}
use Rattle.inst_walk.specs.Outline.{Outline}
use Rattle.ll_tree.specs.declared.inst.Inst.{Inst}
use Rattle.ll_tree.specs.declared.name.Name.{Name}
use Rattle.ll_tree.specs.Names.{name_renamed, number_of}
use Rattle.ll_tree.specs.Ops.{op_takes, op_callee, op_targets, op_sources, op_renamed, op_changed}

-- the names that the instruction holds, each in its role
abbrev pub inst_outline : Inst → Outline ℕ
inst_outline inst = record {
  defines = option_map number_of inst.defines;
  uses = op_takes inst.op;
  calls = option_map number_of (op_callee inst.op);
  leads_to = map number_of (op_targets inst.op);
  others = map number_of (op_sources inst.op);
}

-- the instruction with each name of a value, a block or a function replaced
abbrev pub inst_renamed : (ℕ → ℕ) → Inst → Inst
inst_renamed f inst = record {
  byte = inst.byte;
  defines = option_map (name_renamed f) inst.defines;
  op = op_renamed f inst.op;
}

-- the instruction with each of its names and places changed
abbrev pub inst_changed : (Name → Name) → (ℕ → ℕ) → Inst → Inst
inst_changed names place inst = record {
  byte = place inst.byte;
  defines = option_map names inst.defines;
  op = op_changed names place inst.op;
}
