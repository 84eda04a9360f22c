-- Instructions on values as they are read: what each exit of a reader answers.
use Rattle.std.proofs.Common.{◌≡◌, ℕ, List, codes, length, sym, subst, refl}
use Rattle.std.proofs.lemmas.List.{length-map}
use Rattle.kern_lanes.specs.declared.binary.BinOp.{BinOp}
use Rattle.kern_lanes.specs.declared.comparison.Pred.{Pred}
use Rattle.ll_tokens.specs.declared.kinds.Token.{Token}
use Rattle.ll_tokens.specs.Tokens.{Lexeme, lexeme_of, lexemes_of}
use Rattle.ll_tree.specs.declared.name.NameText.{NameText}
use Rattle.ll_tree.specs.declared.op.CastKind.{CastKind}
use Rattle.ll_tree.specs.declared.op.Flag.{Flag}
use Rattle.ll_tree.specs.declared.op.Op.{Op}
use Rattle.ll_tree.specs.declared.op.Op.TheVariants as op
use Rattle.ll_tree.specs.declared.ty.LlType.{LlType}
use Rattle.ll_tree.specs.declared.value.TypedValue.{TypedValue}
use Rattle.ll_parser.specs.declared.refusal.ReadError.{ReadError}
use Rattle.ll_parser.specs.declared.refusal.ReadError.TheVariants.{NoMemory, Refused}
use Rattle.ll_parser.specs.declared.refusal.Refusal.{Refusal}
use Rattle.ll_parser.specs.GrammarInsts.{predicate_word}
use Rattle.ll_parser.specs.GrammarTypes.{number}
use Rattle.ll_parser.specs.GrammarValues.{typed}
use Rattle.ll_parser.specs.NameReading.{ReadsWith}
use Rattle.ll_parser.specs.Productions.{Production, ◌>>◌, mark, word}
use Rattle.ll_parser.specs.Reading.{DerivesNone, number_rule}
use Rattle.ll_types.specs.TypeParts.{ty_here}
use Rattle.ll_types.proofs.TypesRead.{reads_as}
use Rattle.ll_operands.specs.declared.operands.OfOneType.{OfOneType}
use Rattle.ll_operands.specs.declared.operands.Three.{Three}
use Rattle.ll_operands.specs.declared.operands.Two.{Two}
use Rattle.ll_operands.specs.Operands.{of_one_type, three, two}
use Rattle.ll_operands.specs.Parts.{Refuses, number_part}
use Rattle.ll_operands.proofs.Readings.{reads_then, told_as}
use Rattle.ll_value_ops.specs.declared.opcodes.ValueOpcode.{ValueOpcode}
use Rattle.ll_value_ops.specs.declared.opcodes.ValueOpcode.TheVariants as opcode
use Rattle.ll_value_ops.specs.ValueOpcodes.{flags_here, opcode_word, predicate_part}
use Rattle.ll_value_ops.specs.ValueOperations.{behind, behind_opcode, value_operation, value_operation_part}

-- what is told behind the word is told of the whole
pub behind_refused : (key : ValueOpcode) (tokens middle : List Lexeme) (told : ReadError) → word (opcode_word key) tokens middle → Refuses (behind_opcode key) middle told → Refuses value_operation_part tokens told
behind_refused key tokens middle NoMemory w x = x
behind_refused key tokens middle (Refused refusal) w x = (key, middle, w, x)

pub operation_read : (key : ValueOpcode) (old new : List NameText) (o : Op) (tokens middle rest : List Lexeme) → word (opcode_word key) tokens middle → ReadsWith (behind key) old new o middle rest → ReadsWith value_operation old new o tokens rest
operation_read key old new o tokens middle rest w r = reads_as (behind key) value_operation o o old new tokens middle rest rest (λ names d. d tokens w) r

pub predicate_refused : (tokens : List Token) (refusal : Refusal) → DerivesNone (λ p. word (predicate_word p)) (lexemes_of tokens) → refusal ≡ record { rule = 3; left = length tokens } → Refuses predicate_part (lexemes_of tokens) (Refused refusal)
predicate_refused tokens refusal none place = (none, subst (λ (n : ℕ). refusal ≡ record { rule = 3; left = n }) (sym (length-map tokens lexeme_of)) place)

pub number_refused : (tokens : List Token) (refusal : Refusal) → DerivesNone number (lexemes_of tokens) → refusal ≡ record { rule = number_rule (lexemes_of tokens); left = length tokens } → Refuses number_part (lexemes_of tokens) (Refused refusal)
number_refused tokens refusal none place =
    (none, subst (λ (n : ℕ). refusal ≡ record { rule = number_rule (lexemes_of tokens); left = n }) (sym (length-map tokens lexeme_of)) place)

module _ (names : List NameText) where
  binary_behind : (kind : BinOp) (flags : List Flag) (x : OfOneType) (tokens middle rest : List Lexeme) → flags_here flags tokens middle → of_one_type names x middle rest → behind (opcode.Binary kind) names (op.Binary kind flags x.ty x.left x.right) tokens rest
  unfolding ◌>>◌
  binary_behind kind flags x tokens middle rest f (a, t, d) = λ before w. (tt, ((tokens, w, (middle, f.0, (a, t.0, d))), tt))

  comparison_behind : (p : Pred) (x : OfOneType) (tokens middle rest : List Lexeme) → word (predicate_word p) tokens middle → of_one_type names x middle rest → behind opcode.Compare names (op.Compare p x.ty x.left x.right) tokens rest
  unfolding ◌>>◌
  comparison_behind p x tokens middle rest v (a, t, d) = λ before w. (tt, ((tokens, w, (middle, v, (a, t.0, d))), tt))

  conversion_behind : (kind : CastKind) (v : TypedValue) (t : LlType) (tokens middle target rest : List Lexeme) → word (codes "to") middle target → typed names v tokens middle → ty_here names t target rest → behind (opcode.Cast kind) names (op.Cast kind v t) tokens rest
  unfolding ◌>>◌
  conversion_behind kind v t tokens middle target rest to d e = λ before w. (tt, ((tokens, w, (middle, d, (target, to, e.0))), e.1))

  extraction_behind : (v : TypedValue) (index : ℕ) (tokens middle inside rest : List Lexeme) → mark 44 middle inside → number index inside rest → typed names v tokens middle → behind opcode.ExtractValue names (op.ExtractValue v index) tokens rest
  unfolding ◌>>◌
  extraction_behind v index tokens middle inside rest comma i d = λ before w. (tt, ((tokens, w, (middle, d, (inside, comma, i))), tt))

  element_behind : (x : Two) (tokens rest : List Lexeme) → two names x tokens rest → behind opcode.ExtractElement names (op.ExtractElement x.first x.second) tokens rest
  unfolding ◌>>◌
  element_behind x tokens rest d = λ before w. (tt, ((tokens, w, d), tt))

  selection_behind : (x : Three) (tokens rest : List Lexeme) → three names x tokens rest → behind opcode.Select names (op.Select x.first x.second x.third) tokens rest
  unfolding ◌>>◌
  selection_behind x tokens rest (a, d, (b, comma, (c, e, f))) = λ before w. (tt, ((tokens, w, (c, (a, d, (b, comma, e)), f)), tt))

  insertion_behind : (x : Three) (tokens rest : List Lexeme) → three names x tokens rest → behind opcode.InsertElement names (op.InsertElement x.first x.second x.third) tokens rest
  unfolding ◌>>◌
  insertion_behind x tokens rest (a, d, (b, comma, (c, e, f))) = λ before w. (tt, ((tokens, w, (c, (a, d, (b, comma, e)), f)), tt))

  shuffle_behind : (x : Three) (tokens rest : List Lexeme) → three names x tokens rest → behind opcode.ShuffleVector names (op.ShuffleVector x.first x.second x.third) tokens rest
  unfolding ◌>>◌
  shuffle_behind x tokens rest (a, d, (b, comma, (c, e, f))) = λ before w. (tt, ((tokens, w, (c, (a, d, (b, comma, e)), f)), tt))

-- an instruction that is made of what was read
made_of : {B : Type 0} (q : List NameText → B → Production) (key : ValueOpcode) (b : B) (o made : Op) (old new : List NameText) (tokens middle rest : List Lexeme) → made ≡ o → ((names : List NameText) → q names b middle rest → behind key names o tokens rest) → ReadsWith q old new b middle rest → ReadsWith (behind key) old new made tokens rest
made_of q key b o made old new tokens middle rest is step r =
    subst (λ x. ReadsWith (behind key) old new x tokens rest) (sym is) (reads_as q (behind key) b o old new tokens middle rest rest step r)

pub binary_read : (kind : BinOp) (flags : List Flag) (x : OfOneType) (made : Op) (old new : List NameText) (tokens middle rest : List Lexeme) → made ≡ op.Binary kind flags x.ty x.left x.right → flags_here flags tokens middle → ReadsWith of_one_type old new x middle rest → ReadsWith (behind (opcode.Binary kind)) old new made tokens rest
binary_read kind flags x made old new tokens middle rest is f r =
    made_of of_one_type (opcode.Binary kind) x _ made old new tokens middle rest is (λ names d. binary_behind names kind flags x tokens middle rest f d) r

pub comparison_read : (p : Pred) (x : OfOneType) (old new : List NameText) (tokens middle rest : List Lexeme) → word (predicate_word p) tokens middle → ReadsWith of_one_type old new x middle rest → ReadsWith (behind opcode.Compare) old new (op.Compare p x.ty x.left x.right) tokens rest
comparison_read p x old new tokens middle rest v r =
    made_of of_one_type opcode.Compare x _ _ old new tokens middle rest refl (λ names d. comparison_behind names p x tokens middle rest v d) r

pub conversion_read : (kind : CastKind) (v : TypedValue) (t : LlType) (old between new : List NameText) (tokens middle target rest : List Lexeme) → ReadsWith typed old between v tokens middle → word (codes "to") middle target → ReadsWith ty_here between new t target rest → ReadsWith (behind (opcode.Cast kind)) old new (op.Cast kind v t) tokens rest
conversion_read kind v t old between new tokens middle target rest r to s =
    reads_then typed ty_here (behind (opcode.Cast kind)) v t (op.Cast kind v t) old between new tokens middle target rest rest (λ names d e. conversion_behind names kind v t tokens middle target rest to d e) r s

pub extraction_read : (v : TypedValue) (index : ℕ) (old new : List NameText) (tokens middle inside rest : List Lexeme) → ReadsWith typed old new v tokens middle → mark 44 middle inside → number index inside rest → ReadsWith (behind opcode.ExtractValue) old new (op.ExtractValue v index) tokens rest
extraction_read v index old new tokens middle inside rest r comma i =
    reads_as typed (behind opcode.ExtractValue) v (op.ExtractValue v index) old new tokens tokens middle rest (λ names d. extraction_behind names v index tokens middle inside rest comma i d) r

pub element_read : (x : Two) (made : Op) (old new : List NameText) (tokens rest : List Lexeme) → made ≡ op.ExtractElement x.first x.second → ReadsWith two old new x tokens rest → ReadsWith (behind opcode.ExtractElement) old new made tokens rest
element_read x made old new tokens rest is r = made_of two opcode.ExtractElement x _ made old new tokens tokens rest is (λ names d. element_behind names x tokens rest d) r

pub selection_read : (x : Three) (made : Op) (old new : List NameText) (tokens rest : List Lexeme) → made ≡ op.Select x.first x.second x.third → ReadsWith three old new x tokens rest → ReadsWith (behind opcode.Select) old new made tokens rest
selection_read x made old new tokens rest is r = made_of three opcode.Select x _ made old new tokens tokens rest is (λ names d. selection_behind names x tokens rest d) r

pub insertion_read : (x : Three) (made : Op) (old new : List NameText) (tokens rest : List Lexeme) → made ≡ op.InsertElement x.first x.second x.third → ReadsWith three old new x tokens rest → ReadsWith (behind opcode.InsertElement) old new made tokens rest
insertion_read x made old new tokens rest is r = made_of three opcode.InsertElement x _ made old new tokens tokens rest is (λ names d. insertion_behind names x tokens rest d) r

pub shuffle_read : (x : Three) (made : Op) (old new : List NameText) (tokens rest : List Lexeme) → made ≡ op.ShuffleVector x.first x.second x.third → ReadsWith three old new x tokens rest → ReadsWith (behind opcode.ShuffleVector) old new made tokens rest
shuffle_read x made old new tokens rest is r = made_of three opcode.ShuffleVector x _ made old new tokens tokens rest is (λ names d. shuffle_behind names x tokens rest d) r

-- the same where the instruction is known by an equation
pub read_at : (key known : ValueOpcode) (old new : List NameText) (o : Op) (tokens rest : List Lexeme) → key ≡ known → ReadsWith (behind known) old new o tokens rest → ReadsWith (behind key) old new o tokens rest
read_at key known old new o tokens rest is r = subst (λ k. ReadsWith (behind k) old new o tokens rest) (sym is) r

pub told_at : (key known : ValueOpcode) (tokens : List Lexeme) (error told : ReadError) → key ≡ known → told ≡ error → Refuses (behind_opcode known) tokens error → Refuses (behind_opcode key) tokens told
told_at key known tokens error told is same x = subst (λ k. Refuses (behind_opcode k) tokens told) (sym is) (told_as (behind_opcode known) tokens error told same x)
