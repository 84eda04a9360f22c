-- The first tokens of values, which say what kind of value follows (LLVM 14, Constants).
use Rattle.std.specs.Prelude.{◌≡◌, List, codes}
use Rattle.ll_tokens.specs.Tokens.{Lexeme}
use Rattle.ll_tree.specs.declared.op.CastKind.{CastKind}
use Rattle.ll_parser.specs.GrammarValues.{IsOfConstants, cast_word}
use Rattle.ll_parser.specs.Productions.{Production, word, mark}
use Rattle.ll_parser.specs.Reading.{EndsNowhere}
use Rattle.ll_types.specs.declared.value_openings.ValueOpening.{ValueOpening}
use Rattle.ll_types.specs.declared.value_openings.ValueOpening.TheVariants.{Array, Vector, Struct, Angle, Path, Cast, Single}

-- a conversion of a constant
abbrev pub cast_opening : Production
cast_opening tokens rest = (kind : CastKind) × IsOfConstants kind × word (cast_word kind) tokens rest

-- none of the tokens that open a value of several tokens: `[`, 91, `<`, 60, `{`, 123, and the words of constant expressions
pub record OpensSingle (tokens : List Lexeme) : Type 0 where
  pub no_array : EndsNowhere (mark 91) tokens
  pub no_angle : EndsNowhere (mark 60) tokens
  pub no_brace : EndsNowhere (mark 123) tokens
  pub no_path : EndsNowhere (word (codes "getelementptr")) tokens
  pub no_cast : EndsNowhere cast_opening tokens

-- the tokens open a value so, and these are left behind; `<{` is left from the `{` on
abbrev pub opens_value : ValueOpening → Production
opens_value Array tokens rest = mark 91 tokens rest
opens_value Struct tokens rest = mark 123 tokens rest
opens_value Vector tokens rest = mark 60 tokens rest × EndsNowhere (mark 123) rest
opens_value Angle tokens rest = mark 60 tokens rest × ((inside : List Lexeme) × mark 123 rest inside)
opens_value Path tokens rest = word (codes "getelementptr") tokens rest
opens_value (Cast kind) tokens rest = IsOfConstants kind × word (cast_word kind) tokens rest
opens_value Single tokens rest = (tokens ≡ rest) × OpensSingle tokens
