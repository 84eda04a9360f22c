-- Types as they are written (LLVM 14, Type System).
use Rattle.std.specs.Prelude.{ℕ, zero, suc, List, ◌∷◌, codes}
use Rattle.std.specs.Fmt.{decimal}
use Rattle.ll_tokens.specs.declared.kinds.TokenKind.TheVariants.{Word}
use Rattle.ll_tree.specs.declared.name.NameText.{NameText}
use Rattle.ll_tree.specs.declared.ty.LlType.{LlType}
use Rattle.ll_tree.specs.declared.ty.TypeBase.{TypeBase, Void, Int, Half, Float, Double, Named, Array', Vector', Struct', Packed', Row_of-LlType, end_of-LlType, more_of-LlType}
use Rattle.ll_phrases.specs.Phrases.{Phrase, Empty, Mark, Solid, ◌&◌, blank, comma, a_word, a_number, each_phrase}
use Rattle.ll_phrases.specs.Texts.{local_phrase}

-- an address space between `(`, 40, and `)`, 41
abbrev pub space_phrase : ℕ → Phrase
space_phrase space = a_word (codes "addrspace") & Mark 40 & a_number space & Mark 41

-- a `*`, 42, with its address space where that isn't 0
abbrev pub pointer_phrase : ℕ → Phrase
pointer_phrase zero = Mark 42
pointer_phrase (suc space) = blank & space_phrase (suc space) & Mark 42

module _ (names : List NameText) where
  abbrev mutual
    -- 91 and 93 are `[` and `]`, 60 and 62 `<` and `>`, 123 and 125 `{` and `}`
    pub base_phrase : TypeBase → Phrase
    base_phrase Void = a_word (codes "void")
    base_phrase (Int bits) = Solid Word (105 ∷ decimal bits)
    base_phrase Half = a_word (codes "half")
    base_phrase Float = a_word (codes "float")
    base_phrase Double = a_word (codes "double")
    base_phrase (Named name) = local_phrase names name
    base_phrase (Array' count shape part) = Mark 91 & a_number count & blank & a_word (codes "x") & blank & types_phrase part & Mark 93
    base_phrase (Vector' lanes shape part) = Mark 60 & a_number lanes & blank & a_word (codes "x") & blank & types_phrase part & Mark 62
    base_phrase (Struct' shape members) = Mark 123 & members_phrase members & Mark 125
    base_phrase (Packed' shape members) = Mark 60 & Mark 123 & members_phrase members & Mark 125 & Mark 62

    -- types with commas between them
    pub types_phrase : {n : _} → Row_of-LlType n → Phrase
    types_phrase end_of-LlType = Empty
    types_phrase (more_of-LlType base pointers rest) = base_phrase base & each_phrase pointer_phrase pointers & types_behind rest

    -- the same with blanks around them, where there are any
    pub members_phrase : {n : _} → Row_of-LlType n → Phrase
    members_phrase end_of-LlType = Empty
    members_phrase (more_of-LlType base pointers rest) = blank & base_phrase base & each_phrase pointer_phrase pointers & types_behind rest & blank

    -- types, each behind a comma
    pub types_behind : {n : _} → Row_of-LlType n → Phrase
    types_behind end_of-LlType = Empty
    types_behind (more_of-LlType base pointers rest) = comma & base_phrase base & each_phrase pointer_phrase pointers & types_behind rest

  abbrev pub type_phrase : LlType → Phrase
  type_phrase t = base_phrase t.base & each_phrase pointer_phrase t.pointers
