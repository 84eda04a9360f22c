-- The entry points of a module are read back with their modes.
use Rattle.std.proofs.Common.{◌≡◌, ◌≢◌, ℕ, ◌==◌, Bool, true, false, List, [], ◌∷◌, ◌++◌, All, map, refl, ap, ap₂, sym, ◌∙◌, append_assoc, append-nil, eqb-true, eq-eqb}
use Rattle.std.specs.Prelude.{if◌then◌else◌}
use Rattle.std.specs.List.{flat_map}
use Rattle.std.proofs.lemmas.List.{map-append}
use Rattle.std.proofs.lemmas.List.Elements.{All-head, All-tail}
use Rattle.spv_module.specs.declared.module.Entry.{Entry}
use Rattle.spv_module.specs.declared.module.Mode.{Mode}
use Rattle.spv_module.specs.Modules.{mode_moved, entry_moved}
use Rattle.spv_module.specs.Sections.{placed, sections}
use Rattle.spv_build.specs.declared.entries.GivenMode.{GivenMode}
use Rattle.spv_build.specs.Entries.{entries_of, entry_of, mode_of, with_mode, put_mode, put_modes}
use Rattle.spv_build.specs.Items.{items_of}
use Rattle.spv_build.specs.Laws.{given}
use Rattle.spv_round_trip.specs.Laws.{EntriesAreBuiltAgain, unplace, mode_unplaced, without_modes, given_modes}
use Rattle.spv_round_trip.specs.Writable.{OfOther, AreApart}
use Rattle.spv_round_trip.proofs.RestBack.{lists-are-back}

abbrev moved : Entry → Entry
moved entry = entry_moved unplace entry

-- places aside, modes are put where they were put
with-moved : (entry : Entry) (g : GivenMode) → moved (with_mode entry g) ≡ with_mode (moved entry) (mode_unplaced g)
with-moved entry g =
    ap (λ ms. let e : Entry = record (moved entry) { modes = ms } in e) (map-append (mode_moved unplace) entry.modes (g.mode ∷ []))

put-moved : (g : GivenMode) (entries : List Entry) → map moved (put_mode g entries) ≡ put_mode (mode_unplaced g) (map moved entries)
put-moved g [] = refl
put-moved g (entry ∷ entries) = by_test (entry.function == g.function) (put-moved g entries)
  where
    by_test : (b : Bool) → map moved (put_mode g entries) ≡ put_mode (mode_unplaced g) (map moved entries)
        → map moved (if b then with_mode entry g ∷ entries else entry ∷ put_mode g entries)
        ≡ (if b then with_mode (moved entry) (mode_unplaced g) ∷ map moved entries else moved entry ∷ put_mode (mode_unplaced g) (map moved entries))
    by_test true rest = ap (λ e. e ∷ map moved entries) (with-moved entry g)
    by_test false rest = ap (λ es. moved entry ∷ es) rest

puts-moved : (gs : List GivenMode) (entries : List Entry) → map moved (put_modes gs entries) ≡ put_modes (map mode_unplaced gs) (map moved entries)
puts-moved [] entries = refl
puts-moved (g ∷ gs) entries = puts-moved gs (put_mode g entries) ∙ ap (put_modes (map mode_unplaced gs)) (put-moved g entries)

same-eqb : (n : ℕ) → (n == n) ≡ true
same-eqb n = eq-eqb n n refl

abbrev with_modes : Entry → List Mode → Entry
with_modes entry modes = record entry { modes = modes }

-- the modes of the first entry point
put-own : (entry : Entry) (done modes : List Mode) (rest : List GivenMode) (entries : List Entry)
    → put_modes (map (given entry.function) modes ++ rest) (with_modes entry done ∷ entries) ≡ put_modes rest (with_modes entry (done ++ modes) ∷ entries)
put-own entry done [] rest entries = ap (λ ms. put_modes rest (with_modes entry ms ∷ entries)) (sym (append-nil done))
put-own entry done (mode ∷ modes) rest entries =
    ap (λ b. put_modes (map (given entry.function) modes ++ rest) (if b then with_modes entry (done ++ mode ∷ []) ∷ entries else with_modes entry done ∷ put_mode (given entry.function mode) entries))
    (same-eqb entry.function)
    ∙ (put-own entry (done ++ mode ∷ []) modes rest entries
    ∙ ap (λ ms. put_modes rest (with_modes entry ms ∷ entries)) (append_assoc done (mode ∷ []) modes))

put-other : (entry : Entry) (function : ℕ) → function ≢ entry.function → (modes : List Mode) (rest : List GivenMode) (entries : List Entry)
    → ((es : List Entry) → put_modes rest (entry ∷ es) ≡ entry ∷ put_modes rest es)
    → put_modes (map (given function) modes ++ rest) (entry ∷ entries) ≡ entry ∷ put_modes (map (given function) modes ++ rest) entries
put-other entry function other [] rest entries more = more entries
put-other entry function other (mode ∷ modes) rest entries more =
    by_test (entry.function == function) (λ e. eqb-true entry.function function e) (put-other entry function other modes rest (put_mode (given function mode) entries) more)
  where
    by_test : (b : Bool) → (b ≡ true → entry.function ≡ function)
        → put_modes (map (given function) modes ++ rest) (entry ∷ put_mode (given function mode) entries) ≡ entry ∷ put_modes (map (given function) modes ++ rest) (put_mode (given function mode) entries)
        → put_modes (map (given function) modes ++ rest) (if b then with_mode entry (given function mode) ∷ entries else entry ∷ put_mode (given function mode) entries)
        ≡ entry ∷ put_modes (map (given function) modes ++ rest) (put_mode (given function mode) entries)
    by_test true same behind = absurd (other (sym (same refl)))
    by_test false same behind = behind

-- those of others don't change it
put-others : (entry : Entry) (others : List Entry) → All (OfOther entry.function) others → (entries : List Entry)
    → put_modes (flat_map given_modes others) (entry ∷ entries) ≡ entry ∷ put_modes (flat_map given_modes others) entries
put-others entry [] all entries = refl
put-others entry (other ∷ others) all entries =
    put-other entry other.function (All-head (OfOther entry.function) other others all) other.modes (flat_map given_modes others) entries
    (put-others entry others (All-tail (OfOther entry.function) other others all))

pub put-back : (entries : List Entry) → AreApart entries → put_modes (flat_map given_modes entries) (map without_modes entries) ≡ entries
put-back [] apart = refl
put-back (entry ∷ entries) apart =
    put-own entry [] entry.modes (flat_map given_modes entries) (map without_modes entries)
    ∙ (put-others entry entries apart.0 (map without_modes entries)
    ∙ ap (λ es. entry ∷ es) (put-back entries apart.1))

pub entries-are-built : EntriesAreBuiltAgain
unfolding entries_of
entries-are-built m bodies texts apart =
    let insts = placed 5 (sections m) in
    let read = lists-are-back m bodies texts in
    puts-moved (items_of mode_of insts) (items_of entry_of insts)
    ∙ (ap₂ put_modes read.modes read.entries
    ∙ (sym (puts-moved (flat_map given_modes m.entries) (map without_modes m.entries))
    ∙ ap (map moved) (put-back m.entries apart)))
