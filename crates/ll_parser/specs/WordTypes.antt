-- The types that one word names (LLVM 14, Type System).
use Rattle.std.specs.Prelude.{◌≡◌, ℕ, List, codes}
use Rattle.ll_tokens.specs.Tokens.{Lexeme}
use Rattle.ll_tree.specs.declared.name.NameText.{NameText}
use Rattle.ll_tree.specs.declared.ty.TypeBase.{TypeBase, Void, Int, Half, Float, Double}
use Rattle.ll_parser.specs.GrammarTypes.{type_base}
use Rattle.ll_parser.specs.Reading.{EndsNowhere, IsBits}

-- the word names the type
abbrev pub IsWordFor : TypeBase → List ℕ → Type 0
IsWordFor Void word = word ≡ codes "void"
IsWordFor (Int bits) word = IsBits word bits
IsWordFor Half word = word ≡ codes "half"
IsWordFor Float word = word ≡ codes "float"
IsWordFor Double word = word ≡ codes "double"
IsWordFor _ word = ⊥

-- one word names the type
abbrev pub IsOneWord : TypeBase → Type 0
IsOneWord Void = Unit {0}
IsOneWord (Int bits) = Unit {0}
IsOneWord Half = Unit {0}
IsOneWord Float = Unit {0}
IsOneWord Double = Unit {0}
IsOneWord _ = ⊥

-- the tokens begin with a type of one word, whatever names there are
abbrev pub word_type : TypeBase → List Lexeme → List Lexeme → Type 0
word_type base tokens rest = IsOneWord base × ((names : List NameText) → type_base names base tokens rest)

-- the tokens begin with no type of one word
abbrev pub NoWordType : List Lexeme → Type 0
NoWordType tokens = (names : List NameText) (base : TypeBase) → IsOneWord base → EndsNowhere (type_base names base) tokens
