-- An instruction that fits its form has each of its operands.
use Rattle.std.proofs.Common.{◌≡◌, ℕ, Bool, true, false, List, [], ◌∷◌, Option, option_map, Some, None, Ok, Err, refl, ap, sym, ◌∙◌}
use Rattle.std.specs.Prelude.{◌&&◌, not, if◌then◌else◌, find, unwrap_or}
use Rattle.spv_codec.specs.declared.ids.IdKind.{IdKind}
use Rattle.spv_codec.specs.declared.operands.OperandFault.{OperandFault}
use Rattle.spv_codec.specs.declared.operands.OperandFault.TheVariants.{Misfit, Unknown, HighBits}
use Rattle.spv_codec.specs.Ids.{literal_width}
use Rattle.spv_codec.specs.Instructions.{form_rule, reading_rule, rule_of}
use Rattle.spv_codec.specs.Operands.{Reading, and_then, is_wide, fits_width, read_wide_cases, read_narrow_cases, read_cases, read_extras, read_operands}
use Rattle.spv_layout.specs.declared.operands.EnumKind.TheVariants as enum
use Rattle.spv_layout.specs.declared.operands.OperandKind.{OperandKind}
use Rattle.spv_layout.specs.declared.operands.OperandKind.TheVariants.{T, R, I, W, S, N, E, OptI, OptIS, OptWW, OptE, ManyI, ManyW, ManyII, ManyNI}
use Rattle.spv_layout.specs.Enumerants.{EnumerantRow, enumerants_of, is_mask_kind, is_known, stands_in, has_elements, extra_operands_of}
use Rattle.spv_layout.specs.Forms.{FormRow}
use Rattle.spv_build.specs.Insts.{are_cases, are_whole, are_operands, is_plain, is_plain_form}

untrue : {P : Type 0} → false ≡ true → P
untrue e = cc

abbrev failed : OperandFault → Reading
failed fault = Err fault

err_ok : {P : Type 0} (fault : OperandFault) (rest : List ℕ) → failed fault ≡ Ok rest → P
err_ok fault rest e = cc

wide-cases : (words rest : List ℕ) → read_wide_cases words ≡ Ok rest → are_cases true words ≡ true
wide-cases [] rest e = refl
wide-cases (low ∷ []) rest e = err_ok Misfit rest e
wide-cases (low ∷ high ∷ []) rest e = err_ok Misfit rest e
wide-cases (low ∷ high ∷ id ∷ words) rest e = wide-cases words rest e

narrow-cases : (width : Option ℕ) (words rest : List ℕ) → read_narrow_cases width words ≡ Ok rest → are_cases false words ≡ true
narrow-cases width [] rest e = refl
narrow-cases width (number ∷ []) rest e = by_test (fits_width width number) e
  where
    by_test : (b : Bool) → (if b then failed Misfit else failed HighBits) ≡ Ok rest → false ≡ true
    by_test true h = err_ok Misfit rest h
    by_test false h = err_ok HighBits rest h
narrow-cases width (number ∷ id ∷ words) rest e = by_test (fits_width width number) (narrow-cases width words rest) e
  where
    by_test : (b : Bool) → (read_narrow_cases width words ≡ Ok rest → are_cases false words ≡ true)
        → (if b then read_narrow_cases width words else failed HighBits) ≡ Ok rest → are_cases false words ≡ true
    by_test true others h = others h
    by_test false others h = err_ok HighBits rest h

cases-read : (width : Option ℕ) (words rest : List ℕ) → read_cases width words ≡ Ok rest → are_cases (is_wide width) words ≡ true
cases-read width words rest e = by_test (is_wide width) e
  where
    by_test : (b : Bool) → (if b then read_wide_cases words else read_narrow_cases width words) ≡ Ok rest → are_cases b words ≡ true
    by_test true h = wide-cases words rest h
    by_test false h = narrow-cases width words rest h

-- what is read behind something was read
record Then (first : Reading) (next : List ℕ → Reading) (rest : List ℕ) : Type 0 where
  behind : List ℕ
  is : first ≡ Ok behind
  others : next behind ≡ Ok rest

then-read : (first : Reading) (next : List ℕ → Reading) (rest : List ℕ) → and_then first next ≡ Ok rest → Then first next rest
then-read (Ok behind) next rest e = record { behind = behind; is = refl; others = e }
then-read (Err fault) next rest e = err_ok fault rest e

abbrev none_have : List EnumerantRow → Bool
none_have [] = true
none_have (e ∷ es) = not (has_elements e.extra) && none_have es

find-none : (test : EnumerantRow → Bool) (es : List EnumerantRow) → none_have es ≡ true → find (λ e. test e && has_elements e.extra) es ≡ None
find-none test [] h = refl
find-none test (e ∷ es) h = by_test (test e) (has_elements e.extra) h (find-none test es)
  where
    by_test : (a b : Bool) → (not b && none_have es) ≡ true → (none_have es ≡ true → find (λ x. test x && has_elements x.extra) es ≡ None)
        → (if a && b then Some e else find (λ x. test x && has_elements x.extra) es) ≡ None
    by_test true true p rest = untrue p
    by_test false true p rest = untrue p
    by_test true false p rest = rest p
    by_test false false p rest = rest p

-- a storage class has no operands of its own
class-bare : (word : ℕ) → extra_operands_of enum.Class word ≡ []
class-bare word =
    ap (λ o. unwrap_or (option_map (λ e. e.extra) o) [])
    (find-none (λ e. stands_in (is_mask_kind enum.Class) word e.value) (enumerants_of enum.Class) refl)

module _ (width : Option ℕ) where
  abbrev Read : List OperandKind → List ℕ → List ℕ → Type 0
  Read kinds words rest = read_operands width kinds words ≡ Ok rest

  whole-read : (kinds : List OperandKind) (words rest : List ℕ) → is_plain kinds ≡ true → Read kinds words rest → are_whole (is_wide width) kinds words ≡ true
  whole-read [] [] rest p e = refl
  whole-read [] (word ∷ words) rest p e = err_ok Misfit rest e
  whole-read (T ∷ kinds) words rest p e = untrue p
  whole-read (R ∷ kinds) words rest p e = untrue p
  whole-read (I ∷ kinds) [] rest p e = err_ok Misfit rest e
  whole-read (I ∷ kinds) (word ∷ words) rest p e = whole-read kinds words rest p e
  whole-read (W ∷ kinds) [] rest p e = err_ok Misfit rest e
  whole-read (W ∷ kinds) (word ∷ words) rest p e = whole-read kinds words rest p e
  whole-read (E enum.Class ∷ kinds) [] rest p e = err_ok Misfit rest e
  whole-read (E enum.Class ∷ kinds) (word ∷ words) rest p e =
      by_test (is_known enum.Class word) (ap (λ extras. read_extras extras words) (class-bare word)) (λ h. whole-read kinds words rest p h) e
    where
      by_test : (b : Bool) → read_extras (extra_operands_of enum.Class word) words ≡ Ok words → (Read kinds words rest → are_whole (is_wide width) kinds words ≡ true)
          → and_then (if b then read_extras (extra_operands_of enum.Class word) words else failed Unknown) (read_operands width kinds) ≡ Ok rest → are_whole (is_wide width) kinds words ≡ true
      by_test true bare others h = others (sym (ap (λ r. and_then r (read_operands width kinds)) bare) ∙ h)
      by_test false bare others h = err_ok Unknown rest h
  whole-read (E enum.Capability ∷ kinds) words rest p e = untrue p
  whole-read (E enum.Addressing ∷ kinds) words rest p e = untrue p
  whole-read (E enum.Memory ∷ kinds) words rest p e = untrue p
  whole-read (E enum.Model ∷ kinds) words rest p e = untrue p
  whole-read (E enum.Language ∷ kinds) words rest p e = untrue p
  whole-read (E enum.Mode ∷ kinds) words rest p e = untrue p
  whole-read (E enum.Decoration ∷ kinds) words rest p e = untrue p
  whole-read (E enum.FuncParamAttr ∷ kinds) words rest p e = untrue p
  whole-read (E enum.Linkage ∷ kinds) words rest p e = untrue p
  whole-read (E enum.BuiltIn ∷ kinds) words rest p e = untrue p
  whole-read (E enum.Access ∷ kinds) words rest p e = untrue p
  whole-read (E enum.FunctionControl ∷ kinds) words rest p e = untrue p
  whole-read (E enum.SelectionControl ∷ kinds) words rest p e = untrue p
  whole-read (E enum.LoopControl ∷ kinds) words rest p e = untrue p
  whole-read (S ∷ []) words rest p e = refl
  whole-read (S ∷ kind ∷ kinds) words rest p e = untrue p
  whole-read (N ∷ []) words rest p e = refl
  whole-read (N ∷ kind ∷ kinds) words rest p e = untrue p
  whole-read (OptI ∷ []) words rest p e = refl
  whole-read (OptI ∷ kind ∷ kinds) words rest p e = untrue p
  whole-read (OptIS ∷ []) words rest p e = refl
  whole-read (OptIS ∷ kind ∷ kinds) words rest p e = untrue p
  whole-read (OptWW ∷ []) words rest p e = refl
  whole-read (OptWW ∷ kind ∷ kinds) words rest p e = untrue p
  whole-read (OptE other ∷ []) words rest p e = refl
  whole-read (OptE other ∷ kind ∷ kinds) words rest p e = untrue p
  whole-read (ManyI ∷ []) words rest p e = refl
  whole-read (ManyI ∷ kind ∷ kinds) words rest p e = untrue p
  whole-read (ManyW ∷ []) words rest p e = refl
  whole-read (ManyW ∷ kind ∷ kinds) words rest p e = untrue p
  whole-read (ManyII ∷ []) words rest p e = refl
  whole-read (ManyII ∷ kind ∷ kinds) words rest p e = untrue p
  whole-read (ManyNI ∷ []) words rest p e =
      let t = then-read (read_cases width words) (read_operands width []) rest e in
      cases-read width words t.behind t.is
  whole-read (ManyNI ∷ kind ∷ kinds) words rest p e = untrue p

  head-read : (kinds : List OperandKind) (words rest : List ℕ) → is_plain_form kinds ≡ true → Read kinds words rest → are_operands (is_wide width) kinds words ≡ true
  head-read [] words rest p e = whole-read [] words rest p e
  head-read (T ∷ []) words rest p e = untrue p
  head-read (T ∷ R ∷ kinds) [] rest p e = err_ok Misfit rest e
  head-read (T ∷ R ∷ kinds) (type ∷ []) rest p e = err_ok Misfit rest e
  head-read (T ∷ R ∷ kinds) (type ∷ id ∷ words) rest p e = whole-read kinds words rest p e
  head-read (R ∷ kinds) [] rest p e = err_ok Misfit rest e
  head-read (R ∷ kinds) (id ∷ words) rest p e = whole-read kinds words rest p e
  head-read (T ∷ T ∷ kinds) words rest p e = untrue p
  head-read (T ∷ I ∷ kinds) words rest p e = untrue p
  head-read (T ∷ W ∷ kinds) words rest p e = untrue p
  head-read (T ∷ (E other) ∷ kinds) words rest p e = untrue p
  head-read (T ∷ S ∷ kinds) words rest p e = untrue p
  head-read (T ∷ N ∷ kinds) words rest p e = untrue p
  head-read (T ∷ OptI ∷ kinds) words rest p e = untrue p
  head-read (T ∷ OptIS ∷ kinds) words rest p e = untrue p
  head-read (T ∷ OptWW ∷ kinds) words rest p e = untrue p
  head-read (T ∷ (OptE other) ∷ kinds) words rest p e = untrue p
  head-read (T ∷ ManyI ∷ kinds) words rest p e = untrue p
  head-read (T ∷ ManyW ∷ kinds) words rest p e = untrue p
  head-read (T ∷ ManyII ∷ kinds) words rest p e = untrue p
  head-read (T ∷ ManyNI ∷ kinds) words rest p e = untrue p
  head-read (I ∷ kinds) words rest p e = whole-read (I ∷ kinds) words rest p e
  head-read (W ∷ kinds) words rest p e = whole-read (W ∷ kinds) words rest p e
  head-read (E other ∷ kinds) words rest p e = whole-read (E other ∷ kinds) words rest p e
  head-read (S ∷ kinds) words rest p e = whole-read (S ∷ kinds) words rest p e
  head-read (N ∷ kinds) words rest p e = whole-read (N ∷ kinds) words rest p e
  head-read (OptI ∷ kinds) words rest p e = whole-read (OptI ∷ kinds) words rest p e
  head-read (OptIS ∷ kinds) words rest p e = whole-read (OptIS ∷ kinds) words rest p e
  head-read (OptWW ∷ kinds) words rest p e = whole-read (OptWW ∷ kinds) words rest p e
  head-read (OptE other ∷ kinds) words rest p e = whole-read (OptE other ∷ kinds) words rest p e
  head-read (ManyI ∷ kinds) words rest p e = whole-read (ManyI ∷ kinds) words rest p e
  head-read (ManyW ∷ kinds) words rest p e = whole-read (ManyW ∷ kinds) words rest p e
  head-read (ManyII ∷ kinds) words rest p e = whole-read (ManyII ∷ kinds) words rest p e
  head-read (ManyNI ∷ kinds) words rest p e = whole-read (ManyNI ∷ kinds) words rest p e

none_some : {P : Type 0} (rule : ℕ) → Some rule ≡ None → P
none_some rule e = cc

abbrev kinds_in : Option FormRow → List OperandKind
kinds_in form = unwrap_or (option_map (λ row. row.operands) form) []

-- an instruction that breaks no rule of its form has each operand
pub form-read : (ids : ℕ → Option IdKind) (number : ℕ) (operands : List ℕ) (form : Option FormRow) → is_plain_form (kinds_in form) ≡ true
    → form_rule ids number operands form ≡ None → are_operands (is_wide (literal_width ids number operands)) (kinds_in form) operands ≡ true
form-read ids number operands None p e = none_some 9 e
form-read ids number operands (Some form) p e = by_reading (read_operands (literal_width ids number operands) form.operands operands) (λ rest h. head-read (literal_width ids number operands) form.operands operands rest p h) e
  where
    by_reading : (r : Reading) → ((rest : List ℕ) → r ≡ Ok rest → are_operands (is_wide (literal_width ids number operands)) form.operands operands ≡ true)
        → reading_rule r ≡ None → are_operands (is_wide (literal_width ids number operands)) form.operands operands ≡ true
    by_reading (Ok rest) read h = read rest refl
    by_reading (Err fault) read h = none_some (rule_of fault) h
