-- Names, types and alignments of kernels are those of modules.
use Rattle.std.proofs.Common.{◌≡◌, zero, suc, Bool, true, false, List, [], ◌∷◌, length, refl, ap, subst, arith, inl, lit<}
use Rattle.std.specs.Prelude.{codes}
use Rattle.ll_tokens.specs.declared.kinds.TokenKind.TheVariants.{Int as IntToken, Word}
use Rattle.ll_tokens.specs.Tokens.{Lexeme}
use Rattle.ll_tree.specs.declared.name.Name.{Name}
use Rattle.ll_tree.specs.declared.name.NameText.{NameText}
use Rattle.ll_parser.specs.Productions.{◌>>◌, each}
use Rattle.ll_parser.specs.Spellings.{integer_value}
use Rattle.ll_parser.specs.GrammarInsts.{align as text_align}
use Rattle.ll_parser.specs.GrammarTypes.{integer_type, number, pointer, ty}
use Rattle.ll_parser.specs.GrammarValues.{global, local}
use Rattle.kernel_tree.specs.declared.kernel.ValueType.{ValueType}
use Rattle.kernel_tree.specs.declared.kernel.ValueType.TheVariants.{Int, Pointer}
use Rattle.kernel_tree.specs.Modules.{align_where, int_type, type_of}
use Rattle.kernel_text.specs.declared.name_sorts.NameSort.TheVariants as sort
use Rattle.kernel_text.specs.declared.phrases.Phrase.TheVariants as phrase
use Rattle.kernel_text.specs.Grammar.{align, suffix}
use Rattle.kernel_text.specs.NameSorts.{written_name}
use Rattle.kernel_text.specs.Phrases.{Wanted, exactly, pieces_of, pointer_suffix, wanted_token, words_of}

pub not_nil : {A : Type 0} (x : A) (xs : List A) → x ∷ xs ≡ [] → ⊥
not_nil x xs e =
    let h : suc (length xs) ≡ zero = ap length e in
    omega arith

-- a name of a kernel is one of a module, which allows more
pub local_name : (names : List NameText) (name : Name) (tokens rest : List Lexeme) → written_name sort.Value names name tokens rest → local names name tokens rest
local_name names name tokens rest (l, is, kind, (allowed, byte, spells)) = (l, is, kind, (byte, spells))

pub global_name : (names : List NameText) (name : Name) (tokens rest : List Lexeme) → written_name sort.Kernel names name tokens rest → global names name tokens rest
global_name names name tokens rest (l, is, kind, (allowed, byte, spells)) = (l, is, kind, (byte, spells))

-- a phrase of one token is that token
pub single : (w : Wanted) (tokens rest : List Lexeme) → exactly (w ∷ []) tokens rest → wanted_token w tokens rest
unfolding ◌>>◌
single w tokens rest (m, one, same) = subst (wanted_token w tokens) same one

int_word : (tokens rest : List Lexeme) → wanted_token (Word, codes "i32") tokens rest → integer_type 32 tokens rest
int_word tokens rest (l, is, kind, text) = (l, is, kind, (codes "32", text, refl, not_nil _ _, refl))

-- the numbers that kernels have: a space, and an alignment
one_word : (tokens rest : List Lexeme) → wanted_token (IntToken, codes "1") tokens rest → number 1 tokens rest
one_word tokens rest (l, is, kind, text) = (l, is, kind, (ap integer_value text, lit< tt))

four_word : (tokens rest : List Lexeme) → wanted_token (IntToken, codes "4") tokens rest → number 4 tokens rest
four_word tokens rest (l, is, kind, text) = (l, is, kind, (ap integer_value text, lit< tt))

-- `addrspace(1)*` makes one pointer
pointer_word : (tokens rest : List Lexeme) → exactly pointer_suffix tokens rest → each pointer (1 ∷ []) tokens rest
unfolding ◌>>◌
pointer_word tokens rest (a, space, (b, opens, (c, one, (d, closes, (e, star, same))))) =
    (e, (d, inl (a, space, (b, opens, (c, one_word b c one, closes))), star), same)

pub int_ty : (names : List NameText) (tokens rest : List Lexeme) → wanted_token (Word, codes "i32") tokens rest → ty names (int_type []) tokens rest
unfolding ◌>>◌
int_ty names tokens rest word = (rest, int_word tokens rest word, refl)

pub pointer_ty : (names : List NameText) (tokens middle rest : List Lexeme) → wanted_token (Word, codes "i32") tokens middle → exactly pointer_suffix middle rest → ty names (int_type (1 ∷ [])) tokens rest
unfolding ◌>>◌
pointer_ty names tokens middle rest word behind = (middle, int_word tokens middle word, pointer_word middle rest behind)

pub type_of_value : (names : List NameText) (value_type : ValueType) (tokens middle rest : List Lexeme) → words_of phrase.IntType tokens middle → suffix value_type middle rest → ty names (type_of value_type) tokens rest
unfolding pieces_of
type_of_value names Int tokens middle rest word same = subst (ty names (int_type []) tokens) same (int_ty names tokens middle (single _ tokens middle word))
type_of_value names Pointer tokens middle rest word behind = pointer_ty names tokens middle rest (single _ tokens middle word) behind

pub aligned : (is_aligned : Bool) (tokens rest : List Lexeme) → align is_aligned tokens rest → text_align (align_where is_aligned) tokens rest
unfolding ◌>>◌ pieces_of
aligned true tokens rest (a, comma, (b, word, (c, four, same))) = (a, comma, (b, word, subst (number 4 b) same (four_word b c four)))
aligned false tokens rest same = same
