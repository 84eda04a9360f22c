-- Switches as they are read: what each exit of a reader answers.
use Rattle.std.proofs.Common.{◌≡◌, ℕ, ◌-◌, List, [], ◌++◌, length, drop, refl, sym, ap, ◌∙◌, subst}
use Rattle.ll_tokens.specs.declared.kinds.Token.{Token}
use Rattle.ll_tokens.specs.Tokens.{Lexeme, lexemes_of}
use Rattle.ll_tree.specs.declared.name.Name.{Name}
use Rattle.ll_tree.specs.declared.name.NameText.{NameText}
use Rattle.ll_tree.specs.declared.op.Op.{Op}
use Rattle.ll_tree.specs.declared.op.Op.TheVariants as op
use Rattle.ll_tree.specs.declared.op.SwitchCase.{SwitchCase}
use Rattle.ll_tree.specs.declared.value.TypedValue.{TypedValue}
use Rattle.ll_parser.specs.declared.refusal.ReadError.{ReadError}
use Rattle.ll_parser.specs.declared.refusal.ReadError.TheVariants.{NoMemory, Refused}
use Rattle.ll_parser.specs.GrammarInsts.{switch_case}
use Rattle.ll_parser.specs.GrammarValues.{typed}
use Rattle.ll_parser.specs.NameReading.{ReadsWith}
use Rattle.ll_parser.specs.Productions.{◌>>◌, each, mark}
use Rattle.ll_parser.specs.Reading.{EndsNowhere}
use Rattle.ll_types.proofs.Tokens.{Shortens, seq_ends, seq_shortens, token_end}
use Rattle.ll_types.proofs.TypesRead.{reads_as}
use Rattle.ll_types.proofs.ValueRows.{typed_shortens}
use Rattle.ll_operands.specs.Operands.{label}
use Rattle.ll_operands.specs.Parts.{Refuses, optional, repeated}
use Rattle.ll_operands.proofs.Readings.{reads_then}
use Rattle.ll_flow_ops.specs.declared.opcodes.FlowOpcode.TheVariants as opcode
use Rattle.ll_flow_ops.specs.declared.targets.Target.{Target}
use Rattle.ll_flow_ops.specs.FlowOperations.{behind}
use Rattle.ll_flow_ops.specs.FlowParts.{cases, no_close, target, target_part}
use Rattle.ll_operands.proofs.ItemsRead.{ItemsSoFar, gathered, none_yet, read_here, so_far_times}

-- a value and a block
target_made : (names : List NameText) (v : TypedValue) (name : Name) (tokens middle inside rest : List Lexeme) → mark 44 middle inside → typed names v tokens middle → label names name inside rest → target names (record { value = v; block = name }) tokens rest
unfolding ◌>>◌
target_made names v name tokens middle inside rest comma d l = (middle, d, (inside, comma, l))

pub target_read : (v : TypedValue) (name : Name) (old between new : List NameText) (tokens middle inside rest : List Lexeme) → ReadsWith typed old between v tokens middle → mark 44 middle inside → ReadsWith label between new name inside rest → ReadsWith target old new (record { value = v; block = name }) tokens rest
target_read v name old between new tokens middle inside rest r comma s =
    reads_then typed label target v name (record { value = v; block = name }) old between new tokens middle inside rest rest (λ names d l. target_made names v name tokens middle inside rest comma d l) r s

pub target_is_part : (names : List NameText) (t : Target) (tokens rest : List Lexeme) → target names t tokens rest → target_part.begins tokens rest
unfolding ◌>>◌
target_is_part names t tokens rest (m, d, (n, comma, (k, w, l))) = (m, (names, t.value, d), (n, comma, (k, w, (names, t.block, l))))

pub case_is_part : (names : List NameText) (c : SwitchCase) (tokens rest : List Lexeme) → switch_case names c tokens rest → target_part.begins tokens rest
case_is_part names c tokens rest d = target_is_part names (record { value = c.value; block = c.target }) tokens rest d

pub case_shortens : (names : List NameText) (c : SwitchCase) → Shortens (switch_case names c)
case_shortens names c = seq_shortens _ _ (typed_shortens names c.value) (seq_ends _ _ (token_end _ _) (seq_ends _ _ (token_end _ _) (token_end _ _)))

-- the next case
pub case_read : (t : Target) (c : SwitchCase) (old new : List NameText) (tokens rest : List Lexeme) → c ≡ record { value = t.value; target = t.block } → ReadsWith target old new t tokens rest → ReadsWith switch_case old new c tokens rest
case_read t c old new tokens rest is r =
    subst (λ x. ReadsWith switch_case old new x tokens rest) (sym is) (reads_as target switch_case t (record { value = t.value; target = t.block }) old new tokens tokens rest rest (λ names d. d) r)

pub no_case : (tokens rest : List Lexeme) → mark 93 tokens rest → EndsNowhere no_close tokens
no_case tokens rest close b d = d.1 rest close

pub case_refused : (tokens : List Lexeme) (error told : ReadError) → told ≡ error → EndsNowhere (mark 93) tokens → Refuses target_part tokens error → Refuses (optional no_close target_part) tokens told
case_refused tokens NoMemory told same nowhere x = subst (Refuses (optional no_close target_part) tokens) (sym same) x
case_refused tokens (Refused refusal) told same nowhere x = subst (Refuses (optional no_close target_part) tokens) (sym same) ((tokens, (refl, nowhere)), x)

-- all cases
cases_made : (names : List NameText) (before cs : List SwitchCase) (tokens middle rest : List Lexeme) → before ≡ [] → mark 93 middle rest → gathered switch_case before names cs tokens middle → cases names cs tokens rest
unfolding ◌>>◌ gathered
cases_made names before cs tokens middle rest none close (xs, made, d) =
    (middle, subst (λ ys. each (switch_case names) ys tokens middle) (sym (made ∙ ap (λ ys. ys ++ xs) none)) d, close)

pub cases_read : (old now next : List NameText) (before cs : List SwitchCase) (tokens here : List Token) (rest : List Lexeme) (left : ℕ) → next ≡ now → before ≡ [] → ItemsSoFar switch_case old now before tokens cs left → here ≡ drop (length tokens - left) tokens → mark 93 (lexemes_of here) rest → ReadsWith cases old next cs (lexemes_of tokens) rest
cases_read old now next before cs tokens here rest left kept none so_far is close =
    reads_as (gathered switch_case before) cases cs cs old next (lexemes_of tokens) (lexemes_of tokens) (lexemes_of here) rest (λ names d. cases_made names before cs (lexemes_of tokens) (lexemes_of here) rest none close d)
    (read_here switch_case case_shortens old now next before cs tokens here left kept so_far is)

-- a switch
switch_made : (names : List NameText) (t : Target) (cs : List SwitchCase) (tokens middle inside rest : List Lexeme) → mark 91 middle inside → target names t tokens middle → cases names cs inside rest → behind opcode.Switch names (op.Switch t.value t.block cs) tokens rest
unfolding ◌>>◌
switch_made names t cs tokens middle inside rest bracket (a, d, (b, comma, l)) (e, all, close) = λ before w. (tt, ((tokens, w, (a, d, (b, comma, (middle, l, (inside, bracket, (e, all, close)))))), tt))

pub switch_read : (t : Target) (cs : List SwitchCase) (made : Op) (old between new : List NameText) (tokens middle inside rest : List Lexeme) → made ≡ op.Switch t.value t.block cs → ReadsWith target old between t tokens middle → mark 91 middle inside → ReadsWith cases between new cs inside rest → ReadsWith (behind opcode.Switch) old new made tokens rest
switch_read t cs made old between new tokens middle inside rest is r bracket s =
    subst (λ x. ReadsWith (behind opcode.Switch) old new x tokens rest) (sym is)
    (reads_then target cases (behind opcode.Switch) t cs (op.Switch t.value t.block cs) old between new tokens middle inside rest rest (λ names d e. switch_made names t cs tokens middle inside rest bracket d e) r s)

-- the loop's start, and what was read where no case follows
pub first_case : (names : List NameText) (tokens : List Token) (cs : List SwitchCase) (left : ℕ) → cs ≡ [] → left ≡ length tokens → ItemsSoFar switch_case names names [] tokens cs left
first_case names tokens cs left none whole = subst (λ xs. ItemsSoFar switch_case names names [] tokens xs left) (sym none) (none_yet switch_case case_shortens names [] tokens left whole)

pub cases_end : (old now : List NameText) (before cs : List SwitchCase) (tokens here last : List Token) (left : ℕ) → ItemsSoFar switch_case old now before tokens cs left → here ≡ drop (length tokens - left) tokens → last ≡ drop (length tokens - left) tokens → EndsNowhere no_close (lexemes_of here) → (repeated no_close target_part).begins (lexemes_of tokens) (lexemes_of last)
cases_end old now before cs tokens here last left so_far is is' none =
    let read = so_far_times switch_case case_shortens target_part case_is_part old now before cs tokens last left so_far is' in
    (read.0, read.1, subst (λ ts. EndsNowhere no_close (lexemes_of ts)) (is ∙ sym is') none)
