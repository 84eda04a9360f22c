-- Which names are written.
use Rattle.std.proofs.Common.{◌≡◌, ℕ, ◌^◌, ◌<◌, true, List, Some, slice_get, refl, sym, ap, ◌∙◌, arith}
use Rattle.std.specs.Prelude.{nat_lt}
use Rattle.std.proofs.lemmas.Bool.Decides.{nat_tests}
use Rattle.ll_tree.specs.declared.name.NameKind.{NameKind}
use Rattle.ll_tree.specs.declared.name.NameKind.TheVariants.{Local as LocalName}
use Rattle.ll_tree.specs.declared.name.NameText.{NameText}
use Rattle.ll_tree.specs.declared.name.Spelling.{Spelling}
use Rattle.ll_tree.specs.declared.name.Spelling.TheVariants.{Number, Text}
use Rattle.ll_parser.specs.GrammarFunctions.{IsNumbered}
use Rattle.ll_parser.specs.Spellings.{IsInReach, Spells, spelling_of}
use Rattle.ll_printed.specs.FunctionPhrases.{can_be_written}
use Rattle.ll_phrases.proofs.NameTexts.{IsNamed}

below-test : (n : ℕ) → n < 2 ^ 31 → nat_lt n (2 ^ 31) ≡ true
below-test n lt = grind (arith, nat_tests)

test-below : (n : ℕ) → nat_lt n (2 ^ 31) ≡ true → n < 2 ^ 31
test-below n is = grind (arith, nat_tests)

in-reach : (kind : NameKind) (s : Spelling) → IsInReach s → can_be_written (Some (record { kind = kind; spelling = s })) ≡ true
in-reach kind (Number n) lt = below-test n lt
in-reach kind (Text bytes) any = refl

module _ (names : List NameText) where
  -- a name that stands in a text can be written
  pub spelled-can : (kind : NameKind) (text : List ℕ) (number : ℕ) → Spells names kind text number → can_be_written (slice_get names number) ≡ true
  spelled-can kind text number spells = ap can_be_written spells.1 ∙ in-reach kind (spelling_of text) spells.0

  -- a number that a name is left out for, where it can be written
  pub numbered-named : (number next : ℕ) → can_be_written (slice_get names number) ≡ true → IsNumbered names number next → IsNamed names LocalName number
  numbered-named number next can is = record { spelling = Number next; in_reach = test-below next (sym (ap can_be_written is) ∙ can); entry = is }
