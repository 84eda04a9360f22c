-- The words of an instruction that is read are those that it was read from.
use Rattle.std.proofs.Common.{◌≡◌, ℕ, zero, ◌*◌, ◌/◌, ◌==◌, Bool, true, false, List, [], ◌∷◌, ◌++◌, length, take, drop, get_or, refl, ap, ap₂, ◌∙◌, ◌<◌, eqb-true, arith}
use Rattle.std.specs.Prelude.{if◌then◌else◌, unwrap_or}
use Rattle.std.proofs.lemmas.List.{append-nil}
use Rattle.std.proofs.Math.Nat.{mul-div_cancel}
use Rattle.spv_codec.specs.Ids.{kinds_of, result_id}
use Rattle.spv_codec.specs.declared.module.RawInst.{RawInst}
use Rattle.spv_layout.specs.declared.operands.OperandKind.{OperandKind}
use Rattle.spv_layout.specs.declared.operands.OperandKind.TheVariants.{T, R, I, W, S, N, E, OptI, OptIS, OptWW, OptE, ManyI, ManyW, ManyII, ManyNI}
use Rattle.spv_module.specs.declared.inst.SpvInst.{SpvInst}
use Rattle.spv_module.specs.Roles.{types_stand}
use Rattle.spv_module.specs.Woven.{cases, case_width, woven}
use Rattle.spv_names.specs.Uses.{case_ids}
use Rattle.spv_build.specs.Insts.{case_numbers, ids_in, words_in, are_cases, are_whole, are_operands, inst_of}
use Rattle.spv_build.specs.Laws.{InstructionsAreSpelledAgain}

untrue : {P : Type 0} → false ≡ true → P
untrue e = cc

abbrev width_by : Bool → ℕ
width_by true = 2
width_by false = 1

-- the cases of a width are spelled again
cases-again : (wide : Bool) (words : List ℕ) → are_cases wide words ≡ true → cases (width_by wide) (case_ids wide words) (case_numbers wide words) ≡ words
cases-again true [] e = refl
cases-again false [] e = refl
cases-again true (low ∷ []) e = untrue e
cases-again true (low ∷ high ∷ []) e = untrue e
cases-again true (low ∷ high ∷ id ∷ words) e = ap (λ ws. low ∷ high ∷ id ∷ ws) (cases-again true words e)
cases-again false (number ∷ []) e = untrue e
cases-again false (number ∷ id ∷ words) e = ap (λ ws. number ∷ id ∷ ws) (cases-again false words e)

cases-counted : (wide : Bool) (words : List ℕ) → are_cases wide words ≡ true → length (case_numbers wide words) ≡ width_by wide * length (case_ids wide words)
cases-counted true [] e = refl
cases-counted false [] e = refl
cases-counted true (low ∷ []) e = untrue e
cases-counted true (low ∷ high ∷ []) e = untrue e
cases-counted true (low ∷ high ∷ id ∷ words) e = omega (arith, cases-counted true words e)
cases-counted false (number ∷ []) e = untrue e
cases-counted false (number ∷ id ∷ words) e = omega (arith, cases-counted false words e)

quotient : (width count total : ℕ) → zero < count → total ≡ width * count → (if count == 0 then 0 else total / count) ≡ width
quotient width count total some e = by_test (count == 0) (λ is. eqb-true count 0 is)
  where
    by_test : (b : Bool) → (b ≡ true → count ≡ 0) → (if b then 0 else total / count) ≡ width
    by_test true h = absurd (omega (arith, h refl, some))
    by_test false h = ap (λ t. t / count) e ∙ mul-div_cancel width some

-- the width is known where there is a case
width-again : (wide : Bool) (words : List ℕ) → are_cases wide words ≡ true → cases (case_width (case_ids wide words) (case_numbers wide words)) (case_ids wide words) (case_numbers wide words) ≡ words
width-again wide words e =
    by_ids (case_ids wide words) (case_numbers wide words) (cases-counted wide words e) ∙ cases-again wide words e
  where
    by_ids : (ids numbers : List ℕ) → length numbers ≡ width_by wide * length ids → cases (case_width ids numbers) ids numbers ≡ cases (width_by wide) ids numbers
    by_ids [] numbers h = refl
    by_ids (id ∷ ids) numbers h = ap (λ n. cases n (id ∷ ids) numbers) (quotient (width_by wide) (length (id ∷ ids)) (length numbers) (omega arith) h)

front-rest : (words : List ℕ) → take 1 words ++ drop 1 words ≡ words
front-rest [] = refl
front-rest (word ∷ words) = refl

none-behind : (words : List ℕ) → (words ++ []) ++ [] ≡ words
none-behind words = append-nil (words ++ []) ∙ append-nil words

module _ (inst : SpvInst) (wide : Bool) where
  abbrev IsAgain : List OperandKind → List ℕ → Type 0
  IsAgain kinds words = woven inst kinds (ids_in wide kinds words) (words_in wide kinds words) ≡ words

  abbrev Again : List OperandKind → List ℕ → Type 0
  Again kinds words = are_whole wide kinds words ≡ true → IsAgain kinds words

  whole-again : (kinds : List OperandKind) (words : List ℕ) → Again kinds words
  whole-again [] [] e = refl
  whole-again [] (word ∷ words) e = untrue e
  whole-again (T ∷ kinds) words e = untrue e
  whole-again (R ∷ kinds) words e = untrue e
  whole-again (I ∷ kinds) [] e = untrue e
  whole-again (I ∷ kinds) (word ∷ words) e = ap (λ ws. word ∷ ws) (whole-again kinds words e)
  whole-again (W ∷ kinds) [] e = untrue e
  whole-again (W ∷ kinds) (word ∷ words) e = ap (λ ws. word ∷ ws) (whole-again kinds words e)
  whole-again (E other ∷ kinds) [] e = untrue e
  whole-again (E other ∷ kinds) (word ∷ words) e = ap (λ ws. word ∷ ws) (whole-again kinds words e)
  whole-again (S ∷ []) words e = none-behind words
  whole-again (S ∷ kind ∷ kinds) words e = untrue e
  whole-again (N ∷ []) words e = none-behind words
  whole-again (N ∷ kind ∷ kinds) words e = untrue e
  whole-again (OptI ∷ []) words e = append-nil ((words ++ []) ++ []) ∙ none-behind words
  whole-again (OptI ∷ kind ∷ kinds) words e = untrue e
  whole-again (OptIS ∷ []) words e =
      append-nil ((take 1 words ++ []) ++ (drop 1 words ++ []))
      ∙ (ap₂ (λ (xs ys : List ℕ). xs ++ ys) (append-nil (take 1 words)) (append-nil (drop 1 words)) ∙ front-rest words)
  whole-again (OptIS ∷ kind ∷ kinds) words e = untrue e
  whole-again (OptWW ∷ []) words e = none-behind words
  whole-again (OptWW ∷ kind ∷ kinds) words e = untrue e
  whole-again (OptE other ∷ []) words e = none-behind words
  whole-again (OptE other ∷ kind ∷ kinds) words e = untrue e
  whole-again (ManyI ∷ []) words e = append-nil ((words ++ []) ++ []) ∙ none-behind words
  whole-again (ManyI ∷ kind ∷ kinds) words e = untrue e
  whole-again (ManyW ∷ []) words e = none-behind words
  whole-again (ManyW ∷ kind ∷ kinds) words e = untrue e
  whole-again (ManyII ∷ []) words e = append-nil ((words ++ []) ++ []) ∙ none-behind words
  whole-again (ManyII ∷ kind ∷ kinds) words e = untrue e
  whole-again (ManyNI ∷ []) words e =
      append-nil (cases (case_width (case_ids wide words ++ []) (case_numbers wide words ++ [])) (case_ids wide words ++ []) (case_numbers wide words ++ []))
      ∙ (ap₂ (λ xs ys. cases (case_width xs ys) xs ys) (append-nil (case_ids wide words)) (append-nil (case_numbers wide words)) ∙ width-again wide words e)
  whole-again (ManyNI ∷ kind ∷ kinds) words e = untrue e

  head-again : (kinds : List OperandKind) (words : List ℕ) → inst.ty ≡ (if types_stand kinds then get_or words 0 0 else 0)
      → inst.result ≡ unwrap_or (result_id kinds words) 0 → are_operands wide kinds words ≡ true → IsAgain kinds words
  head-again [] words p q e = whole-again [] words e
  head-again (T ∷ []) words p q e = untrue e
  head-again (T ∷ R ∷ kinds) [] p q e = untrue e
  head-again (T ∷ R ∷ kinds) (type ∷ []) p q e = untrue e
  head-again (T ∷ R ∷ kinds) (type ∷ id ∷ words) p q e =
      ap₂ (λ t i. t ∷ i ∷ woven inst kinds (ids_in wide kinds words) (words_in wide kinds words)) p q ∙ ap (λ ws. type ∷ id ∷ ws) (whole-again kinds words e)
  head-again (R ∷ kinds) [] p q e = untrue e
  head-again (R ∷ kinds) (id ∷ words) p q e =
      ap (λ i. i ∷ woven inst kinds (ids_in wide kinds words) (words_in wide kinds words)) q ∙ ap (λ ws. id ∷ ws) (whole-again kinds words e)
  head-again (T ∷ T ∷ kinds) words p q e = untrue e
  head-again (T ∷ I ∷ kinds) words p q e = untrue e
  head-again (T ∷ W ∷ kinds) words p q e = untrue e
  head-again (T ∷ S ∷ kinds) words p q e = untrue e
  head-again (T ∷ N ∷ kinds) words p q e = untrue e
  head-again (T ∷ (E other) ∷ kinds) words p q e = untrue e
  head-again (T ∷ OptI ∷ kinds) words p q e = untrue e
  head-again (T ∷ OptIS ∷ kinds) words p q e = untrue e
  head-again (T ∷ OptWW ∷ kinds) words p q e = untrue e
  head-again (T ∷ (OptE other) ∷ kinds) words p q e = untrue e
  head-again (T ∷ ManyI ∷ kinds) words p q e = untrue e
  head-again (T ∷ ManyW ∷ kinds) words p q e = untrue e
  head-again (T ∷ ManyII ∷ kinds) words p q e = untrue e
  head-again (T ∷ ManyNI ∷ kinds) words p q e = untrue e
  head-again (I ∷ kinds) words p q e = whole-again (I ∷ kinds) words e
  head-again (W ∷ kinds) words p q e = whole-again (W ∷ kinds) words e
  head-again (S ∷ kinds) words p q e = whole-again (S ∷ kinds) words e
  head-again (N ∷ kinds) words p q e = whole-again (N ∷ kinds) words e
  head-again (E other ∷ kinds) words p q e = whole-again (E other ∷ kinds) words e
  head-again (OptI ∷ kinds) words p q e = whole-again (OptI ∷ kinds) words e
  head-again (OptIS ∷ kinds) words p q e = whole-again (OptIS ∷ kinds) words e
  head-again (OptWW ∷ kinds) words p q e = whole-again (OptWW ∷ kinds) words e
  head-again (OptE other ∷ kinds) words p q e = whole-again (OptE other ∷ kinds) words e
  head-again (ManyI ∷ kinds) words p q e = whole-again (ManyI ∷ kinds) words e
  head-again (ManyW ∷ kinds) words p q e = whole-again (ManyW ∷ kinds) words e
  head-again (ManyII ∷ kinds) words p q e = whole-again (ManyII ∷ kinds) words e
  head-again (ManyNI ∷ kinds) words p q e = whole-again (ManyNI ∷ kinds) words e

pub spelled-again : InstructionsAreSpelledAgain
unfolding inst_of
spelled-again wide raw e =
    ap (λ (ws : List ℕ). let r : RawInst = record { op = raw.op; place = 0; operands = ws } in r)
    (head-again (inst_of wide raw) wide (kinds_of raw.op) raw.operands refl refl e)
