-- What the table of first definitions says of the instructions before a place.
use Rattle.std.proofs.Common.{◌≡◌, ℕ, zero, suc, ◌+◌, ◌<◌, ◌≤◌, Bool, true, false, List, [], ◌∷◌, take, Option, Some, None, refl, ap, sym, arith}
use Rattle.std.specs.Prelude.{find, slice_get, if◌then◌else◌}
use Rattle.spv_codec.specs.declared.module.RawInst.{RawInst}
use Rattle.spv_names.specs.declared.definitions.Definition.{Definition}
use Rattle.spv_names.specs.Definitions.{defines, definition_of, function_behind, home_of, entry_from, entry_of}

abbrev index_or : ℕ → Option Definition → ℕ
index_or n None = n
index_or n (Some d) = d.index

none_some : {P : Type 0} (d : Definition) → None ≡ Some d → P
none_some d e = cc

entry-least : (index : ℕ) (function : Option ℕ) (insts : List RawInst) (id : ℕ) (d : Definition) → entry_from index function insts id ≡ Some d → index ≤ d.index
entry-least index function [] id d e = none_some d e
entry-least index function (x ∷ xs) id d e =
    by_test (defines id x) (entry-least (index + 1) (function_behind index function x) xs id d) e
  where
    by_test : (b : Bool) → (entry_from (index + 1) (function_behind index function x) xs id ≡ Some d → index + 1 ≤ d.index)
        → (if b then Some (record { index = index; function = home_of function x }) else entry_from (index + 1) (function_behind index function x) xs id) ≡ Some d → index ≤ d.index
    by_test true rest is = omega (arith, ap (index_or 0) is)
    by_test false rest is = omega (arith, rest is)

-- where an id is defined nowhere, it is not defined before a place
pub found-nowhere : (index : ℕ) (function : Option ℕ) (insts : List RawInst) (id n : ℕ) → entry_from index function insts id ≡ None → find (defines id) (take n insts) ≡ None
found-nowhere index function [] id zero e = refl
found-nowhere index function [] id (suc n) e = refl
found-nowhere index function (x ∷ xs) id zero e = refl
found-nowhere index function (x ∷ xs) id (suc n) e = by_test (defines id x) (found-nowhere (index + 1) (function_behind index function x) xs id n) e
  where
    by_test : (b : Bool) → (entry_from (index + 1) (function_behind index function x) xs id ≡ None → find (defines id) (take n xs) ≡ None)
        → (if b then Some (record { index = index; function = home_of function x }) else entry_from (index + 1) (function_behind index function x) xs id) ≡ None
        → (if b then Some x else find (defines id) (take n xs)) ≡ None
    by_test true rest is = none_some (record { index = index; function = home_of function x }) (sym is)
    by_test false rest is = rest is

-- what is defined before a place is the instruction at the entry's index
found-at : (index : ℕ) (function : Option ℕ) (insts : List RawInst) (id n j : ℕ) (d : Definition) → entry_from index function insts id ≡ Some d
    → d.index ≡ index + j → j < n → find (defines id) (take n insts) ≡ slice_get insts j
found-at index function [] id n j d e is below = none_some d e
found-at index function (x ∷ xs) id zero j d e is below = absurd (omega arith)
found-at index function (x ∷ xs) id (suc n) zero d e is below = by_test (defines id x) (entry-least (index + 1) (function_behind index function x) xs id d) e
  where
    by_test : (b : Bool) → (entry_from (index + 1) (function_behind index function x) xs id ≡ Some d → index + 1 ≤ d.index)
        → (if b then Some (record { index = index; function = home_of function x }) else entry_from (index + 1) (function_behind index function x) xs id) ≡ Some d
        → (if b then Some x else find (defines id) (take n xs)) ≡ Some x
    by_test true rest e = refl
    by_test false rest e = absurd (omega (arith, rest e, is))
found-at index function (x ∷ xs) id (suc n) (suc j) d e is below =
    by_test (defines id x) (λ h. found-at (index + 1) (function_behind index function x) xs id n j d h (omega (arith, is)) (omega arith)) e
  where
    by_test : (b : Bool) → (entry_from (index + 1) (function_behind index function x) xs id ≡ Some d → find (defines id) (take n xs) ≡ slice_get xs j)
        → (if b then Some (record { index = index; function = home_of function x }) else entry_from (index + 1) (function_behind index function x) xs id) ≡ Some d
        → (if b then Some x else find (defines id) (take n xs)) ≡ slice_get xs j
    by_test true rest e = absurd (omega (arith, ap (index_or 0) e, is))
    by_test false rest e = rest e

-- before that there is none
found-later : (index : ℕ) (function : Option ℕ) (insts : List RawInst) (id n j : ℕ) (d : Definition) → entry_from index function insts id ≡ Some d
    → d.index ≡ index + j → n ≤ j → find (defines id) (take n insts) ≡ None
found-later index function [] id n j d e is below = none_some d e
found-later index function (x ∷ xs) id zero j d e is below = refl
found-later index function (x ∷ xs) id (suc n) zero d e is below = absurd (omega arith)
found-later index function (x ∷ xs) id (suc n) (suc j) d e is below =
    by_test (defines id x) (λ h. found-later (index + 1) (function_behind index function x) xs id n j d h (omega (arith, is)) (omega arith)) e
  where
    by_test : (b : Bool) → (entry_from (index + 1) (function_behind index function x) xs id ≡ Some d → find (defines id) (take n xs) ≡ None)
        → (if b then Some (record { index = index; function = home_of function x }) else entry_from (index + 1) (function_behind index function x) xs id) ≡ Some d
        → (if b then Some x else find (defines id) (take n xs)) ≡ None
    by_test true rest e = absurd (omega (arith, ap (index_or 0) e, is))
    by_test false rest e = rest e

pub defined-at : (insts : List RawInst) (id n : ℕ) (d : Definition) → entry_of insts id ≡ Some d → d.index < n → definition_of (take n insts) id ≡ slice_get insts d.index
defined-at insts id n d e below = found-at 0 None insts id n d.index d e (omega arith) below

pub defined-later : (insts : List RawInst) (id n : ℕ) (d : Definition) → entry_of insts id ≡ Some d → n ≤ d.index → definition_of (take n insts) id ≡ None
defined-later insts id n d e below = found-later 0 None insts id n d.index d e (omega arith) below

pub defined-nowhere : (insts : List RawInst) (id n : ℕ) → entry_of insts id ≡ None → definition_of (take n insts) id ≡ None
defined-nowhere insts id n e = found-nowhere 0 None insts id n e
