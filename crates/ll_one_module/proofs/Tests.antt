-- What tests by their first tokens tell productions apart.
use Rattle.std.proofs.Common.{ℕ, Bool, true, false, if◌then◌else◌, List, [], ◌∷◌, codes}
use Rattle.ll_tokens.specs.declared.kinds.TokenKind.TheVariants.{Word, Punct, Local as LocalToken, Global as GlobalToken, Int as IntToken, CStr}
use Rattle.ll_one_module.proofs.Readers.{Test}
use Rattle.ll_one_module.proofs.Fronts.{either, is_mark, outside, is_bits, is_one_of}

-- a type or a value begins so. 91 is `[`, 60 `<`, and 123 `{`
abbrev pub operand_word : List ℕ → Bool
operand_word text =
    is_one_of (codes "void" ∷ codes "half" ∷ codes "float" ∷ codes "double" ∷ codes "true" ∷ codes "false" ∷ codes "null" ∷ codes "zeroinitializer" ∷ codes "undef" ∷ codes "poison" ∷ codes "getelementptr" ∷
    codes "ptrtoint" ∷ codes "inttoptr" ∷ codes "bitcast" ∷ codes "addrspacecast" ∷ []) text

abbrev pub operand_start : Test
operand_start Word text = if is_bits text then true else operand_word text
operand_start Punct text = is_one_of ((91 ∷ []) ∷ (60 ∷ []) ∷ (123 ∷ []) ∷ []) text
operand_start LocalToken text = true
operand_start GlobalToken text = true
operand_start IntToken text = true
operand_start CStr text = true
operand_start _ text = false

-- one of some words, which begins no type and no value
abbrev pub is_word_of : List (List ℕ) → Test
is_word_of words Word text = is_one_of words text
is_word_of words _ text = false

abbrev pub word_of : List (List ℕ) → Test
word_of words = outside operand_start (is_word_of words)

-- `addrspace`
abbrev pub space_start : Test
space_start = word_of (codes "addrspace" ∷ [])

-- a pointer begins with `addrspace` or with `*`, 42
abbrev pub pointer_start : Test
pointer_start = outside operand_start (either (is_word_of (codes "addrspace" ∷ [])) (is_mark 42))
