-- The first tokens of types, which say what kind of type follows (LLVM 14, Type System).
use Rattle.std.specs.Prelude.{◌≡◌, List}
use Rattle.ll_tokens.specs.declared.kinds.TokenKind.TheVariants.{Local as LocalToken}
use Rattle.ll_tokens.specs.Tokens.{Lexeme}
use Rattle.ll_parser.specs.NameReading.{any_of}
use Rattle.ll_parser.specs.Productions.{Production, ◌>>◌, mark}
use Rattle.ll_parser.specs.Reading.{EndsNowhere}
use Rattle.ll_types.specs.declared.openings.TypeOpening.{TypeOpening}
use Rattle.ll_types.specs.declared.openings.TypeOpening.TheVariants.{Array, Vector, Struct, Packed, Named, Plain}

-- none of the tokens that open a type which isn't one word: `[`, 91, `<`, 60, `{`, 123, and a name
pub record OpensPlain (tokens : List Lexeme) : Type 0 where
  pub no_array : EndsNowhere (mark 91) tokens
  pub no_angle : EndsNowhere (mark 60) tokens
  pub no_brace : EndsNowhere (mark 123) tokens
  pub no_name : EndsNowhere (any_of LocalToken) tokens

-- the tokens open a type so, and these are left behind its opening brackets
abbrev pub opens : TypeOpening → Production
opens Array tokens rest = mark 91 tokens rest
opens Vector tokens rest = mark 60 tokens rest × EndsNowhere (mark 123) rest
opens Struct tokens rest = mark 123 tokens rest
opens Packed tokens rest = (mark 60 >> mark 123) tokens rest
opens Named tokens rest = (tokens ≡ rest) × ((behind : List Lexeme) × any_of LocalToken tokens behind)
opens Plain tokens rest = (tokens ≡ rest) × OpensPlain tokens
