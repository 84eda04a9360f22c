-- Values as they are written (LLVM 14, Constants).
use Rattle.std.specs.Prelude.{ℕ, Bool, true, false, List, ◌∷◌, codes}
use Rattle.std.specs.Fmt.{signed_decimal}
use Rattle.ll_tokens.specs.declared.kinds.TokenKind.TheVariants.{CStr, Int as IntToken}
use Rattle.ll_tree.specs.declared.name.NameText.{NameText}
use Rattle.ll_tree.specs.declared.value.TypedValue.{TypedValue}
use Rattle.ll_tree.specs.declared.value.Value.{Value, Local, Global, Int, Bytes, Bool as Truth, Null, Zero, Undef, Poison, Vector', Array', Struct', Packed', GetElementPtr', Cast', Row_of-TypedValue, end_of-TypedValue, more_of-TypedValue}
use Rattle.ll_parser.specs.GrammarValues.{cast_word}
use Rattle.ll_phrases.specs.Phrases.{Phrase, Empty, Mark, Solid, ◌&◌, blank, comma, a_word}
use Rattle.ll_phrases.specs.Texts.{global_phrase, local_phrase, quoted}
use Rattle.ll_phrases.specs.TypePhrases.{type_phrase}

-- a word behind a blank, where it stands
abbrev pub word_behind : List ℕ → Bool → Phrase
word_behind text true = blank & a_word text
word_behind text false = Empty

module _ (names : List NameText) where
  abbrev mutual
    -- 91 and 93 are `[` and `]`, 60 and 62 `<` and `>`, 123 and 125 `{` and `}`, 40 and 41 `(` and `)`
    pub value_phrase : Value → Phrase
    value_phrase (Local name) = local_phrase names name
    value_phrase (Global name) = global_phrase names name
    value_phrase (Int number) = Solid IntToken (signed_decimal number)
    value_phrase (Bytes bytes) = Solid CStr (99 ∷ quoted bytes)
    value_phrase (Truth true) = a_word (codes "true")
    value_phrase (Truth false) = a_word (codes "false")
    value_phrase Null = a_word (codes "null")
    value_phrase Zero = a_word (codes "zeroinitializer")
    value_phrase Undef = a_word (codes "undef")
    value_phrase Poison = a_word (codes "poison")
    value_phrase (Vector' shape parts) = Mark 60 & values_phrase parts & Mark 62
    value_phrase (Array' shape parts) = Mark 91 & values_phrase parts & Mark 93
    value_phrase (Struct' shape parts) = Mark 123 & fields_phrase parts & Mark 125
    value_phrase (Packed' shape parts) = Mark 60 & Mark 123 & fields_phrase parts & Mark 125 & Mark 62
    value_phrase (GetElementPtr' inbounds through shape operands) =
        a_word (codes "getelementptr") & word_behind (codes "inbounds") inbounds & blank & Mark 40 & type_phrase names through & values_behind operands & Mark 41
    value_phrase (Cast' kind shape operand to) =
        a_word (cast_word kind) & blank & Mark 40 & values_phrase operand & blank & a_word (codes "to") & blank & type_phrase names to & Mark 41

    -- values with their types, with commas between them
    pub values_phrase : {n : _} → Row_of-TypedValue n → Phrase
    values_phrase end_of-TypedValue = Empty
    values_phrase (more_of-TypedValue t v rest) = type_phrase names t & blank & value_phrase v & values_behind rest

    -- the same with blanks around them, where there are any
    pub fields_phrase : {n : _} → Row_of-TypedValue n → Phrase
    fields_phrase end_of-TypedValue = Empty
    fields_phrase (more_of-TypedValue t v rest) = blank & type_phrase names t & blank & value_phrase v & values_behind rest & blank

    -- values with their types, each behind a comma
    pub values_behind : {n : _} → Row_of-TypedValue n → Phrase
    values_behind end_of-TypedValue = Empty
    values_behind (more_of-TypedValue t v rest) = comma & type_phrase names t & blank & value_phrase v & values_behind rest

  abbrev pub typed_phrase : TypedValue → Phrase
  typed_phrase tv = type_phrase names tv.ty & blank & value_phrase tv.value
