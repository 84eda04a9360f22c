-- Heads of functions as they are read, each with all that belongs to it (LLVM 14, Functions).
use Rattle.std.specs.Prelude.{◌≡◌, ℕ, List, codes, Option, None}
use Rattle.ll_tokens.specs.Tokens.{Lexeme}
use Rattle.ll_tree.specs.declared.module.Head.{Head}
use Rattle.ll_tree.specs.declared.name.NameText.{NameText}
use Rattle.ll_parser.specs.GrammarAttributes.{placed_word}
use Rattle.ll_parser.specs.GrammarItems.{unnamed}
use Rattle.ll_parser.specs.GrammarValues.{global}
use Rattle.ll_parser.specs.Productions.{Production, ◌>>◌, word, mark}
use Rattle.ll_parser.specs.Reading.{EndsNowhere}
use Rattle.ll_types.specs.TypeParts.{ty_here}
use Rattle.ll_attributes.specs.AttributeParts.{attributes_here}
use Rattle.ll_attributes.specs.FunctionAttributes.{NoFunctionAttribute, function_attributes_here}
use Rattle.ll_attributes.specs.Heads.{convention_here, linkage_here}
use Rattle.ll_attributes.specs.Lists.{maybe_here}
use Rattle.ll_heads.specs.declared.heads.Front.{Front}
use Rattle.ll_heads.specs.Params.{params_here}

-- what stands before the parameters
abbrev pub front_here : List NameText → Front → Production
front_here names f =
    linkage_here f.linkage >> maybe_here (word (codes "dso_local")) >> convention_here f.is_kernel >> attributes_here names f.attributes >> ty_here names f.ty >>
    global names f.name

-- what stands behind them
abbrev pub back_here : Production
back_here = maybe_here unnamed >> function_attributes_here

abbrev pub front_of : Head → Front
front_of h = record { linkage = h.linkage; is_kernel = h.is_kernel; attributes = h.attributes; ty = h.ty; name = h.name }

-- a head behind its first word, 40 being `(`, with the numbering before its parameters and behind them
abbrev pub head_here : Option ℕ → Option ℕ → List NameText → Head → Production
head_here start end names h = front_here names (front_of h) >> mark 40 >> params_here start end names h.params >> back_here

-- the same where the first word's place is this one
abbrev pub placed_head : ℕ → Option ℕ → Option ℕ → List NameText → Head → Production
placed_head byte start end names h tokens rest = (h.byte ≡ byte) × head_here start end names h tokens rest

abbrev pub declaration_here : List NameText → Head → Production
declaration_here names h = placed_word (codes "declare") h.byte >> head_here None None names h

-- no head goes on with the tokens, 61 being `=`
pub record EndsHead (tokens : List Lexeme) : Type 0 where
  pub no_unnamed : EndsNowhere unnamed tokens
  pub no_attribute : NoFunctionAttribute tokens
  pub no_value : EndsNowhere (mark 61) tokens
