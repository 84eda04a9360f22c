-- Names as lists of numbers, by which a table compares them and hashes them.
use Rattle.std.specs.Prelude.{◌≡◌, ℕ, zero, suc, Bool, true, nat_eq, List, [], ◌∷◌, ◌++◌, IsTrue}
use Rattle.std.specs.Cmp.Lexicographic.{pointwise, bytes_decides}
use Rattle.std.specs.Hash as fed
use Rattle.std.proofs.Common.{refl, sym, ap, ◌∙◌, arith}
use Rattle.ll_tree.specs.declared.name.NameKind.{NameKind}
use Rattle.ll_tree.specs.declared.name.NameKind.TheVariants.{Local, Global, Struct}
use Rattle.ll_tree.specs.declared.name.NameText.{NameText}
use Rattle.ll_tree.specs.declared.name.Spelling.{Spelling}
use Rattle.ll_tree.specs.declared.name.Spelling.TheVariants.{Number, Text}

abbrev pub kind_code : NameKind → ℕ
kind_code Local = 0
kind_code Global = 1
kind_code Struct = 2

abbrev pub spelling_code : Spelling → List ℕ
spelling_code (Number number) = 0 ∷ number ∷ []
spelling_code (Text bytes) = 1 ∷ bytes

abbrev pub name_code : NameText → List ℕ
name_code name = kind_code name.kind ∷ spelling_code name.spelling

-- whether two names are one
abbrev pub is_same_name : NameText → NameText → Bool
is_same_name a b = pointwise nat_eq (name_code a) (name_code b)

-- what is hashed of a name
abbrev pub spelling_hashed : Spelling → List (List ℕ)
spelling_hashed (Number number) = fed.u32 number
spelling_hashed (Text bytes) = fed.slice fed.u8 bytes

abbrev pub name_hashed : NameText → List (List ℕ)
name_hashed name = fed.u8 (kind_code name.kind) ++ spelling_hashed name.spelling

-- a name can be told from its code
kind_of_code : ℕ → NameKind
kind_of_code zero = Local
kind_of_code (suc zero) = Global
kind_of_code _ = Struct

first_of : List ℕ → ℕ
first_of [] = 0
first_of (n ∷ ns) = n

spelling_of_code : ℕ → List ℕ → Spelling
spelling_of_code zero rest = Number (first_of rest)
spelling_of_code _ rest = Text rest

name_of_code : List ℕ → NameText
name_of_code (kind ∷ tag ∷ rest) = record { kind = kind_of_code kind; spelling = spelling_of_code tag rest }
name_of_code _ = record { kind = Local; spelling = Number 0 }

told_apart : (kind : NameKind) (spelling : Spelling) → name_of_code (kind_code kind ∷ spelling_code spelling) ≡ record { kind = kind; spelling = spelling }
unfolding name_of_code kind_of_code spelling_of_code first_of
told_apart Local (Number number) = refl
told_apart Local (Text bytes) = refl
told_apart Global (Number number) = refl
told_apart Global (Text bytes) = refl
told_apart Struct (Number number) = refl
told_apart Struct (Text bytes) = refl

pub same_names_are_one : (a b : NameText) → is_same_name a b ≡ true → a ≡ b
same_names_are_one a b same =
    sym (told_apart a.kind a.spelling) ∙ ap name_of_code ((bytes_decides (name_code a) (name_code b)).0 same) ∙ told_apart b.kind b.spelling

is_so : (b : Bool) → IsTrue b → b ≡ true
is_so b h = grind arith

-- names that are one are hashed alike
pub same_names_hash_alike : (a b : NameText) → IsTrue (is_same_name a b) → name_hashed a ≡ name_hashed b
same_names_hash_alike a b same = ap name_hashed (same_names_are_one a b (is_so _ same))
