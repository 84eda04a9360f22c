-- The parts of instructions of control flow.
use Rattle.std.specs.Prelude.{◌≡◌, ℕ, List, ◌++◌, codes, Option}
use Rattle.ll_tree.specs.declared.name.NameText.{NameText}
use Rattle.ll_tree.specs.declared.op.PhiEntry.{PhiEntry}
use Rattle.ll_tree.specs.declared.op.SwitchCase.{SwitchCase}
use Rattle.ll_tree.specs.declared.ty.LlType.{LlType}
use Rattle.ll_parser.specs.GrammarInsts.{entries, entry, switch_case}
use Rattle.ll_parser.specs.GrammarValues.{typed}
use Rattle.ll_parser.specs.Productions.{Production, ◌>>◌, each, each_behind_comma, mark, word}
use Rattle.ll_parser.specs.Reading.{EndsNowhere}
use Rattle.ll_operands.specs.Operands.{label, label_part}
use Rattle.ll_operands.specs.Parts.{Part, either, local_part, mark_part, repeated, ◌then◌, type_then, typed_part, value_part, word_part}
use Rattle.ll_operands.specs.Whole.{entry_comma}
use Rattle.ll_flow_ops.specs.declared.targets.Target.{Target}

-- a value and the block behind a comma, 44
abbrev pub target : List NameText → Target → Production
target names t = typed names t.value >> mark 44 >> label names t.block

abbrev pub target_part : Part
target_part = typed_part then mark_part 44 then label_part

-- `void`, or a value whose type doesn't begin with that word
abbrev pub return_part : Part
return_part = either (word (codes "void")) (word_part (codes "void")) typed_part

-- a block, or a condition and two blocks
abbrev pub branch_part : Part
branch_part = either (word (codes "label")) label_part (target_part then mark_part 44 then label_part)

-- no `]`, 93, begins the tokens
abbrev pub no_close : Production
no_close tokens rest = (tokens ≡ rest) × EndsNowhere (mark 93) tokens

-- the cases of a switch and the `]` behind them
abbrev pub cases : List NameText → List SwitchCase → Production
cases names cs = each (switch_case names) cs >> mark 93

abbrev pub cases_part : Part
cases_part = repeated no_close target_part then mark_part 93

-- 91 is `[`
abbrev pub switch_part : Part
switch_part = target_part then mark_part 91 then cases_part

-- an entry of a phi of this type, and one behind a comma
abbrev pub entry_of : LlType → List NameText → PhiEntry → Production
entry_of t names e = entry names t e

abbrev pub next_entry : LlType → List NameText → PhiEntry → Production
next_entry t names e = mark 44 >> entry names t e

-- entries, as many as there are
abbrev pub entries_of : LlType → List NameText → List PhiEntry → Production
entries_of t names es tokens rest = entries names t es tokens rest × EndsNowhere entry_comma rest

-- what was read before, and entries behind commas, as many as there are
abbrev pub more_entries_of : LlType → List PhiEntry → List NameText → List PhiEntry → Production
more_entries_of t before names all tokens rest =
    (es : List PhiEntry) × (all ≡ before ++ es) × each_behind_comma (entry names t) es tokens rest × EndsNowhere entry_comma rest

abbrev pub entry_part : Option ℕ → Part
entry_part width = mark_part 91 then value_part width then mark_part 44 then local_part then mark_part 93

abbrev pub next_entry_part : Option ℕ → Part
next_entry_part width = mark_part 44 then entry_part width

abbrev pub entries_part : Option ℕ → Part
entries_part width = entry_part width then repeated entry_comma (next_entry_part width)

abbrev pub phi_part : Part
phi_part = type_then entries_part
