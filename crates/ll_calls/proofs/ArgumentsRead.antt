-- Arguments of calls as they are read: what each exit of a reader answers.
use Rattle.std.proofs.Common.{◌≡◌, ℕ, ◌-◌, List, [], ◌∷◌, ◌++◌, length, drop, refl, sym, ap, ◌∙◌, subst, inr}
use Rattle.ll_tokens.specs.declared.kinds.Token.{Token}
use Rattle.ll_tokens.specs.Tokens.{Lexeme, lexemes_of}
use Rattle.ll_tree.specs.declared.module.Attribute.{Attribute}
use Rattle.ll_tree.specs.declared.name.NameText.{NameText}
use Rattle.ll_tree.specs.declared.ty.LlType.{LlType}
use Rattle.ll_tree.specs.declared.value.TypedValue.{TypedValue}
use Rattle.ll_tree.specs.declared.value.Value.{Value}
use Rattle.ll_tree.specs.Types.{int_width}
use Rattle.ll_parser.specs.declared.refusal.ReadError.{ReadError}
use Rattle.ll_parser.specs.declared.refusal.ReadError.TheVariants.{NoMemory, Refused}
use Rattle.ll_parser.specs.GrammarInsts.{argument}
use Rattle.ll_parser.specs.NameReading.{ReadsWith}
use Rattle.ll_parser.specs.Productions.{◌>>◌, each, each_behind_comma, mark}
use Rattle.ll_parser.specs.Reading.{EndsNowhere}
use Rattle.ll_parser.proofs.TableFacts.{extends_same, extends_then}
use Rattle.ll_types.specs.TypeParts.{ty_here}
use Rattle.ll_types.specs.ValueParts.{value_of}
use Rattle.ll_types.specs.ValueRefusals.{NoneAnd, ValueFails}
use Rattle.ll_types.proofs.MembersRead.{derived}
use Rattle.ll_types.proofs.TypesRead.{reads_as}
use Rattle.ll_operands.specs.Parts.{Refuses, mark_part, optional, repeated, ◌then◌, value_part}
use Rattle.ll_operands.proofs.ItemsRead.{ItemsSoFar, gathered, read_here}
use Rattle.ll_operands.proofs.Readings.{any_read, first_refused, reads_then, refused_behind_type, second_refused, told_as, value_refused}
use Rattle.ll_attributes.specs.AttributeParts.{attributes_here}
use Rattle.ll_attributes.specs.AttributeRefusals.{AttributesFail}
use Rattle.ll_attributes.proofs.AttributeFacts.{attributes_right}
use Rattle.ll_calls.specs.CallParts.{argument_of, argument_part, arguments, arguments_part, attributes_part, more_arguments, next_argument, next_argument_part, some_arguments, some_part}
use Rattle.ll_calls.proofs.PartsDerived.{argument_is_part, next_shortens, some_are_part}

-- one argument
pub attributes_refused : (tokens : List Lexeme) (told : ReadError) → NoneAnd attributes_here AttributesFail tokens told → Refuses attributes_part tokens told
attributes_refused tokens NoMemory x = x
attributes_refused tokens (Refused refusal) x = x.1

argument_made : (names : List NameText) (t : LlType) (xs : List Attribute) (v : Value) (tokens a b rest : List Lexeme) → ty_here names t tokens a → attributes_here names xs a b → value_of t names v b rest → argument names (record { ty = t; value = v }) tokens rest
unfolding ◌>>◌
argument_made names t xs v tokens a b rest type attributes d = (a, type.0, (b, (xs, attributes_right names xs a b attributes), d))

pub argument_read : (old between later new : List NameText) (t : LlType) (xs : List Attribute) (v : Value) (tokens a b rest : List Lexeme) → ReadsWith ty_here old between t tokens a → ReadsWith attributes_here between later xs a b → ReadsWith (value_of t) later new v b rest → ReadsWith argument old new (record { ty = t; value = v }) tokens rest
argument_read old between later new t xs v tokens a b rest x y z = record {
  extends = extends_then old between new x.extends (extends_then between later new y.extends z.extends);
  reads = λ longer e.
      let behind_attributes = extends_then later new longer z.extends e in
      argument_made longer t xs v tokens a b rest (x.reads longer (extends_then between later longer y.extends behind_attributes)) (y.reads longer behind_attributes) (z.reads longer e);
}

pub attributes_told : (old new : List NameText) (t : LlType) (tokens a : List Lexeme) (error told : ReadError) → told ≡ error → ReadsWith ty_here old new t tokens a → NoneAnd attributes_here AttributesFail a error → Refuses argument_part tokens told
attributes_told old new t tokens a error told same x refused =
    told_as argument_part tokens error told same (refused_behind_type argument_of new t tokens a error (derived ty_here old new t tokens a x)
    (first_refused attributes_part (value_part (int_width t)) a error (attributes_refused a error refused)))

pub value_told : (old between new : List NameText) (t : LlType) (xs : List Attribute) (tokens a b : List Lexeme) (error told : ReadError) → told ≡ error → ReadsWith ty_here old between t tokens a → ReadsWith attributes_here between new xs a b → NoneAnd (value_of t) (ValueFails t) b error → Refuses argument_part tokens told
value_told old between new t xs tokens a b error told same x y refused =
    told_as argument_part tokens error told same (refused_behind_type argument_of between t tokens a error (derived ty_here old between t tokens a x)
    (second_refused attributes_part (value_part (int_width t)) a b error (any_read attributes_here between new xs a b y) (value_refused t b error refused)))

-- an argument behind a comma
next_made : (names : List NameText) (x : TypedValue) (tokens middle rest : List Lexeme) → mark 44 tokens middle → argument names x middle rest → next_argument names x tokens rest
unfolding ◌>>◌
next_made names x tokens middle rest comma d = (middle, comma, d)

pub next_read : (x : TypedValue) (old new : List NameText) (tokens middle rest : List Lexeme) → mark 44 tokens middle → ReadsWith argument old new x middle rest → ReadsWith next_argument old new x tokens rest
next_read x old new tokens middle rest comma r = reads_as argument next_argument x x old new tokens middle rest rest (λ names d. next_made names x tokens middle rest comma d) r

pub next_refused : (tokens middle : List Lexeme) (error told : ReadError) → told ≡ error → mark 44 tokens middle → Refuses argument_part middle error → Refuses (optional (mark 44) next_argument_part) tokens told
next_refused tokens middle NoMemory told same comma x = subst (Refuses (optional (mark 44) next_argument_part) tokens) (sym same) x
next_refused tokens middle (Refused refusal) told same comma x =
    subst (Refuses (optional (mark 44) next_argument_part) tokens) (sym same) ((middle, comma), inr (middle, comma, x))

-- arguments behind commas
behind_commas : (names : List NameText) (xs : List TypedValue) (tokens rest : List Lexeme) → each (next_argument names) xs tokens rest → each_behind_comma (argument names) xs tokens rest
unfolding ◌>>◌
behind_commas names [] tokens rest same = same
behind_commas names (x ∷ xs) tokens rest (m, (n, comma, d), more) = (n, comma, (m, d, behind_commas names xs m rest more))

more_made : (names : List NameText) (before all : List TypedValue) (tokens rest : List Lexeme) → EndsNowhere (mark 44) rest → gathered next_argument before names all tokens rest → more_arguments before names all tokens rest
unfolding gathered
more_made names before all tokens rest none (xs, made, d) = (xs, made, behind_commas names xs tokens rest d, none)

pub more_read : (old now next : List NameText) (before all : List TypedValue) (tokens here last : List Token) (left : ℕ) → next ≡ now → ItemsSoFar next_argument old now before tokens all left → here ≡ drop (length tokens - left) tokens → last ≡ drop (length tokens - left) tokens → EndsNowhere (mark 44) (lexemes_of here) → ReadsWith (more_arguments before) old next all (lexemes_of tokens) (lexemes_of last)
more_read old now next before all tokens here last left kept so_far is is' none =
    reads_as (gathered next_argument before) (more_arguments before) all all old next (lexemes_of tokens) (lexemes_of tokens) (lexemes_of last) (lexemes_of last)
    (λ names d. more_made names before all _ _ (subst (λ ts. EndsNowhere (mark 44) (lexemes_of ts)) (is ∙ sym is') none) d)
    (read_here next_argument next_shortens old now next before all tokens last left kept so_far is')

-- one argument at least
some_made : (names : List NameText) (first : TypedValue) (none before all : List TypedValue) (tokens middle rest : List Lexeme) → none ≡ [] → before ≡ none ++ first ∷ [] → argument names first tokens middle → more_arguments before names all middle rest → some_arguments names all tokens rest
unfolding ◌>>◌
some_made names first none before all tokens middle rest empty grown d (xs, made, more, end) =
    let whole : all ≡ first ∷ xs = made ∙ ap (λ ys. ys ++ xs) (grown ∙ ap (λ ys. ys ++ first ∷ []) empty) in
    subst (λ ys. some_arguments names ys tokens rest) (sym whole) ((middle, d, more), end)

pub some_read : (first : TypedValue) (none before all : List TypedValue) (old between new : List NameText) (tokens middle rest : List Lexeme) → ReadsWith argument old between first tokens middle → none ≡ [] → before ≡ none ++ first ∷ [] → ReadsWith (more_arguments before) between new all middle rest → ReadsWith some_arguments old new all tokens rest
some_read first none before all old between new tokens middle rest r empty grown s =
    reads_then argument (more_arguments before) some_arguments first all all old between new tokens middle middle rest rest (λ names d e. some_made names first none before all tokens middle rest empty grown d e) r s

pub first_told : (tokens : List Lexeme) (error told : ReadError) → told ≡ error → Refuses argument_part tokens error → Refuses some_part tokens told
first_told tokens error told same x = told_as some_part tokens error told same (first_refused argument_part (repeated (mark 44) next_argument_part) tokens error x)

pub more_told : (old new : List NameText) (x : TypedValue) (tokens middle : List Lexeme) (error told : ReadError) → told ≡ error → ReadsWith argument old new x tokens middle → Refuses (repeated (mark 44) next_argument_part) middle error → Refuses some_part tokens told
more_told old new x tokens middle error told same r refused =
    told_as some_part tokens error told same
    (second_refused argument_part (repeated (mark 44) next_argument_part) tokens middle error (argument_is_part new x tokens middle (derived argument old new x tokens middle r)) refused)

-- arguments up to their bracket
pub none_read : (names : List NameText) (xs : List TypedValue) (tokens rest : List Lexeme) → xs ≡ [] → mark 41 tokens rest → ReadsWith arguments names names xs tokens rest
unfolding ◌>>◌
none_read names xs tokens rest empty close =
    subst (λ ys. ReadsWith arguments names names ys tokens rest) (sym empty) (record { extends = extends_same names; reads = λ longer e. (tokens, refl, close) })

bracketed : (names : List NameText) (xs : List TypedValue) (tokens end rest : List Lexeme) → some_arguments names xs tokens end → mark 41 end rest → arguments names xs tokens rest
unfolding ◌>>◌
bracketed names [] tokens end rest none close = absurd none
bracketed names (x ∷ xs) tokens end rest (d, _) close = (end, d, close)

pub all_read : (old new : List NameText) (xs : List TypedValue) (tokens end rest : List Lexeme) → ReadsWith some_arguments old new xs tokens end → mark 41 end rest → ReadsWith arguments old new xs tokens rest
all_read old new xs tokens end rest r close = record { extends = r.extends; reads = λ longer e. bracketed longer xs tokens end rest (r.reads longer e) close }

pub others_refused : (tokens : List Lexeme) (told : ReadError) → EndsNowhere (mark 41) tokens → Refuses (some_part then mark_part 41) tokens told → Refuses arguments_part tokens told
others_refused tokens NoMemory nowhere x = x
others_refused tokens (Refused refusal) nowhere x = inr (nowhere, x)

pub some_begin : (old new : List NameText) (xs : List TypedValue) (tokens rest : List Lexeme) → ReadsWith some_arguments old new xs tokens rest → some_part.begins tokens rest
some_begin old new xs tokens rest r = some_are_part new xs tokens rest (derived some_arguments old new xs tokens rest r)
