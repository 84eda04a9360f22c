-- Modes go to the entry point at the index of its function.
use Rattle.std.proofs.Common.{◌≡◌, ℕ, zero, suc, ◌+◌, ◌<◌, ◌==◌, Bool, true, false, List, [], ◌∷◌, ◌++◌, length, get_or, set, Option, Some, None, refl, ap, sym, ◌∙◌, arith}
use Rattle.std.specs.Prelude.{if◌then◌else◌}
use Rattle.std.specs.Option.{option_or}
use Rattle.spv_module.specs.declared.module.Entry.{Entry}
use Rattle.spv_build.specs.declared.entries.GivenMode.{GivenMode}
use Rattle.spv_build.specs.Entries.{with_mode, put_mode, index_from, index_of}

or-more : (b : Bool) (index : ℕ) (rest more : Option ℕ) → (if b then Some index else option_or rest more) ≡ option_or (if b then Some index else rest) more
or-more true index rest more = refl
or-more false index rest more = refl

index-more : (from : ℕ) (entries : List Entry) (entry : Entry) (function : ℕ)
    → index_from from (entries ++ entry ∷ []) function
    ≡ option_or (index_from from entries function) (if entry.function == function then Some (from + length entries) else None)
index-more from [] entry function = ap (λ n. if entry.function == function then Some n else None) (omega arith)
index-more from (other ∷ others) entry function =
    ap (λ o. if other.function == function then Some from else o)
    (index-more (from + 1) others entry function
    ∙ ap (λ n. option_or (index_from (from + 1) others function) (if entry.function == function then Some n else None)) (omega arith))
    ∙ or-more (other.function == function) from (index_from (from + 1) others function) (if entry.function == function then Some (from + length (other ∷ others)) else None)

pub indexed-more : (entries : List Entry) (entry : Entry) (function : ℕ)
    → index_of (entries ++ entry ∷ []) function ≡ option_or (index_of entries function) (if entry.function == function then Some (length entries) else None)
indexed-more entries entry function =
    index-more 0 entries entry function
    ∙ ap (λ n. option_or (index_of entries function) (if entry.function == function then Some n else None)) (omega arith)

-- a mode leaves the functions of entry points as they are
index-put : (given : GivenMode) (from : ℕ) (entries : List Entry) (function : ℕ) → index_from from (put_mode given entries) function ≡ index_from from entries function
index-put given from [] function = refl
index-put given from (entry ∷ entries) function = by_test (entry.function == given.function) (index-put given (from + 1) entries function)
  where
    by_test : (b : Bool) → index_from (from + 1) (put_mode given entries) function ≡ index_from (from + 1) entries function
        → index_from from (if b then with_mode entry given ∷ entries else entry ∷ put_mode given entries) function ≡ index_from from (entry ∷ entries) function
    by_test true rest = refl
    by_test false rest = ap (λ o. if entry.function == function then Some from else o) rest

pub indexed-put : (given : GivenMode) (entries : List Entry) (function : ℕ) → index_of (put_mode given entries) function ≡ index_of entries function
indexed-put given entries function = index-put given 0 entries function

none_some : {P : Type 0} (index : ℕ) → None ≡ Some index → P
none_some index e = cc

abbrev index_or : ℕ → Option ℕ → ℕ
index_or n None = n
index_or n (Some index) = index

put-nowhere : (given : GivenMode) (from : ℕ) (entries : List Entry) → index_from from entries given.function ≡ None → put_mode given entries ≡ entries
put-nowhere given from [] e = refl
put-nowhere given from (entry ∷ entries) e = by_test (entry.function == given.function) (put-nowhere given (from + 1) entries) e
  where
    by_test : (b : Bool) → (index_from (from + 1) entries given.function ≡ None → put_mode given entries ≡ entries)
        → (if b then Some from else index_from (from + 1) entries given.function) ≡ None
        → (if b then with_mode entry given ∷ entries else entry ∷ put_mode given entries) ≡ entry ∷ entries
    by_test true rest is = none_some from (sym is)
    by_test false rest is = ap (λ es. entry ∷ es) (rest is)

pub put-none : (given : GivenMode) (entries : List Entry) → index_of entries given.function ≡ None → put_mode given entries ≡ entries
put-none given entries e = put-nowhere given 0 entries e

index-least : (from : ℕ) (entries : List Entry) (function index : ℕ) → index_from from entries function ≡ Some index → from < index + 1
index-least from [] function index e = none_some index e
index-least from (entry ∷ entries) function index e = by_test (entry.function == function) (index-least (from + 1) entries function index) e
  where
    by_test : (b : Bool) → (index_from (from + 1) entries function ≡ Some index → from + 1 < index + 1)
        → (if b then Some from else index_from (from + 1) entries function) ≡ Some index → from < index + 1
    by_test true rest is = omega (arith, ap (index_or 0) is)
    by_test false rest is = omega (arith, rest is)

index-within : (from : ℕ) (entries : List Entry) (function index : ℕ) → index_from from entries function ≡ Some index → index < from + length entries
index-within from [] function index e = none_some index e
index-within from (entry ∷ entries) function index e = by_test (entry.function == function) (index-within (from + 1) entries function index) e
  where
    by_test : (b : Bool) → (index_from (from + 1) entries function ≡ Some index → index < from + 1 + length entries)
        → (if b then Some from else index_from (from + 1) entries function) ≡ Some index → index < from + length (entry ∷ entries)
    by_test true rest is = omega (arith, ap (index_or 0) is)
    by_test false rest is = omega (arith, rest is)

pub indexed-within : (entries : List Entry) (function index : ℕ) → index_of entries function ≡ Some index → index < length entries
indexed-within entries function index e = omega (arith, index-within 0 entries function index e)

put-here : (given : GivenMode) (from : ℕ) (entries : List Entry) (j : ℕ) (d : Entry) → index_from from entries given.function ≡ Some (from + j)
    → put_mode given entries ≡ set entries j (with_mode (get_or entries j d) given)
put-here given from [] j d e = none_some (from + j) e
put-here given from (entry ∷ entries) zero d e = by_test (entry.function == given.function) (index-least (from + 1) entries given.function (from + 0)) e
  where
    by_test : (b : Bool) → (index_from (from + 1) entries given.function ≡ Some (from + 0) → from + 1 < from + 0 + 1)
        → (if b then Some from else index_from (from + 1) entries given.function) ≡ Some (from + 0)
        → (if b then with_mode entry given ∷ entries else entry ∷ put_mode given entries) ≡ with_mode entry given ∷ entries
    by_test true rest is = refl
    by_test false rest is = absurd (omega (arith, rest is))
put-here given from (entry ∷ entries) (suc j) d e =
    by_test (entry.function == given.function) (λ is. put-here given (from + 1) entries j d (is ∙ ap Some (omega arith))) e
  where
    by_test : (b : Bool) → (index_from (from + 1) entries given.function ≡ Some (from + suc j) → put_mode given entries ≡ set entries j (with_mode (get_or entries j d) given))
        → (if b then Some from else index_from (from + 1) entries given.function) ≡ Some (from + suc j)
        → (if b then with_mode entry given ∷ entries else entry ∷ put_mode given entries) ≡ entry ∷ set entries j (with_mode (get_or entries j d) given)
    by_test true rest is = absurd (omega (arith, ap (index_or 0) is))
    by_test false rest is = ap (λ es. entry ∷ es) (rest is)

pub put-at : (given : GivenMode) (entries : List Entry) (index : ℕ) (d : Entry) → index_of entries given.function ≡ Some index
    → put_mode given entries ≡ set entries index (with_mode (get_or entries index d) given)
put-at given entries index d e = put-here given 0 entries index d (e ∙ ap Some (omega arith))
