-- Names that one token spells.
use Rattle.std.proofs.Common.{◌≡◌, ℕ, Bool, true, IsTrue, List, ◌∷◌, refl, subst, arith}
use Rattle.ll_tokens.specs.Tokens.{Lexeme}
use Rattle.ll_tree.specs.declared.name.NameText.{NameText}
use Rattle.ll_parser.specs.NameReading.{ReadsWith, SpellsWith}
use Rattle.ll_parser.specs.Spellings.{Spells}
use Rattle.kernel_text.specs.declared.name_sorts.NameSort.{NameSort}
use Rattle.kernel_text.specs.NameSorts.{token_kind, name_kind, is_allowed, spelled_text, written_name}
use Rattle.kernel_text.proofs.ReadFacts.{OneRest}
use Rattle.kernel_text.proofs.Sequences.{token_one}

pub written_rest : (sort : NameSort) → OneRest (written_name sort)
written_rest sort names names' x y = token_one _ _ _ _

it_is : (b : Bool) → b ≡ true → IsTrue b
it_is b e = grind arith

pub written_read : (sort : NameSort) (old new : List NameText) (tokens rest : List Lexeme) (first : Lexeme) (text : List ℕ) (number : ℕ) → tokens ≡ first ∷ rest → first.kind ≡ token_kind sort → text ≡ spelled_text sort first.text → is_allowed sort text ≡ true → SpellsWith old new (name_kind sort) text number → ReadsWith (written_name sort) old new (record { number = number; byte = first.byte }) tokens rest
written_read sort old new tokens rest first text number is kind_is text_is allowed spelling = record {
  extends = spelling.extends;
  reads = λ longer extends. (first, is, kind_is, (it_is _ (subst (λ t. is_allowed sort t ≡ true) text_is allowed), refl, subst (λ t. Spells longer (name_kind sort) t number) text_is (spelling.spells longer extends)));
}
