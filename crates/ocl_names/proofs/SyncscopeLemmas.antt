-- The words of scopes and storage, read and written
use Rattle.std.proofs.Common.{◌≡◌, ◌≢◌, ◌↔◌, ℕ, ◌*◌, ◌/◌, ◌%◌, ◌^◌, List, ◌++◌, length, drop, Bool, true, false, cond, bit_and, Option, Some, None, IsNone, Bor, sym, ap, ◌∙◌, refl, eqb, arith, ◌⊎◌, inl, inr}
use Rattle.std.specs.Option.{option_map, option_and_then}
use Rattle.std.specs.Str.{bytes_eq}
use Rattle.std.proofs.Math.Seq.{drop-append_seam}
use Rattle.std.proofs.lemmas.Bool.{cases_eq, eqb-true, eqb-false, eq-eqb, ne_eqb}
use Rattle.std.proofs.lemmas.Nat.Bits.{and_pow}
use Rattle.std.proofs.lemmas.Option.{option_and_then_some}
use Rattle.std.proofs.lemmas.Slice.Eq.{bytes_eq-Decides}
use Rattle.kern_lanes.specs.declared.scope.Scope.{Scope}
use Rattle.kern_lanes.specs.declared.scope.Scope.TheVariants.{CrossDevice, Device, Workgroup, Subgroup, Invocation}
use Rattle.ocl_names.specs.declared.storage.Storage.{Storage}
use Rattle.ocl_names.specs.declared.storage.Storage.TheVariants.{Both, Local, Global, Neither}
use Rattle.ocl_names.specs.Storage.{storage_bits, storage_suffix, storage_of, storages}
use Rattle.ocl_names.specs.Syncscopes.{scope_name, scopes, scope_word, told_storage, word_unless_default, written_scope, scope_at, storage_at, storage_behind, scope_word_parts, read_syncscope, IsDefault, IsScopeWord}
use Rattle.ocl_names.specs.Laws.{WordsAreRead, told_bits, IsDefaultWord, IsWritten, ReadingUndoesWriting}
use Rattle.ocl_names.proofs.SearchLemmas.{find_passes, found_front, option_map_some}
use Rattle.ocl_names.proofs.OrderLemmas.{storage_and}

-- no earlier name begins a word
scope_found : (scope : Scope) (rest : List ℕ) → scope_at (scope_name scope ++ rest) ≡ Some scope
scope_found CrossDevice rest = refl
scope_found Device rest = refl
scope_found Workgroup rest = refl
scope_found Subgroup rest = refl
scope_found Invocation rest = refl

storage_found : (storage : Storage) → storage_at (storage_suffix storage) ≡ Some storage
storage_found Both = refl
storage_found Local = refl
storage_found Global = refl
storage_found Neither = refl

-- the parts of a word, and what is told of them
abbrev with_scope : Scope → Option Storage → Option (Scope × Storage)
with_scope scope = option_map (λ storage. (scope, storage))

abbrev told_parts : Scope × Storage → Scope × ℕ
told_parts parts = (parts.0, storage_bits parts.1)

-- a word has its parts
parts_found : (scope : Scope) (storage : Storage) → scope_word_parts (scope_word scope storage) ≡ Some (scope, storage)
parts_found scope storage =
    let suffix = storage_suffix storage in
    ap (option_and_then (storage_behind (scope_word scope storage))) (scope_found scope suffix)
    ∙ ap (λ rest. with_scope scope (storage_at rest)) (drop-append_seam (scope_name scope) suffix)
    ∙ ap (with_scope scope) (storage_found storage)

-- and is read
word_found : (scope : Scope) (storage : Storage) → read_syncscope (scope_word scope storage) ≡ Some (scope, storage_bits storage)
unfolding read_syncscope
word_found scope storage = ap (option_map told_parts) (parts_found scope storage)

-- what has parts is their word
of_parts : (text : List ℕ) (scope : Scope) (storage : Storage) → scope_word_parts text ≡ Some (scope, storage) → text ≡ scope_word scope storage
of_parts text scope storage e =
    option_and_then_some (storage_behind text) (scope_at text) (scope, storage) e
    (λ s found rest.
    let suffix = drop (length (scope_name s)) text in
    option_map_some (λ t. (s, t)) (storage_at suffix) (scope, storage) rest
    (λ t found_t same.
    let passes = find_passes (λ t. bytes_eq (storage_suffix t) suffix) storages t found_t in
    let named : storage_suffix t ≡ suffix = (bytes_eq-Decides (storage_suffix t) suffix).0 passes in
    found_front scope_name text scopes s found
    ∙ ap (λ rest. scope_name s ++ rest) (sym named)
    ∙ ap (λ p. scope_word p.0 p.1) same))

-- what is read is a word
is_word : (text : List ℕ) (scope : Scope) (bits : ℕ) → read_syncscope text ≡ Some (scope, bits) → IsScopeWord text scope bits
unfolding read_syncscope
is_word text scope bits e =
    option_map_some told_parts (scope_word_parts text) (scope, bits) e
    (λ parts found same. record {
      storage = parts.1;
      spelled = of_parts text parts.0 parts.1 found ∙ ap (λ s. scope_word s parts.1) (ap (λ p. p.0) same);
      told = sym (ap (λ p. p.1) same);
    })

pub words_read : WordsAreRead
words_read text scope bits = (
  is_word text scope bits,
  λ word. ap read_syncscope word.spelled ∙ word_found scope word.storage ∙ ap (λ b. Some (scope, b)) (sym word.told),
)

-- the word that is written
written_word : (scope : Scope) (storage : Storage) (text : List ℕ) → word_unless_default scope storage ≡ Some text → text ≡ scope_word scope storage
written_word CrossDevice Both text e = absurd (cc)
written_word CrossDevice Local text e = cc
written_word CrossDevice Global text e = cc
written_word CrossDevice Neither text e = cc
written_word Device storage text e = cc
written_word Workgroup storage text e = cc
written_word Subgroup storage text e = cc
written_word Invocation storage text e = cc

-- it is written but for the default
written_unless : (scope : Scope) (storage : Storage) → ((scope ≡ CrossDevice) × (storage ≡ Both)) ⊎ (word_unless_default scope storage ≡ Some (scope_word scope storage))
written_unless CrossDevice Both = inl (refl, refl)
written_unless CrossDevice Local = inr refl
written_unless CrossDevice Global = inr refl
written_unless CrossDevice Neither = inr refl
written_unless Device storage = inr refl
written_unless Workgroup storage = inr refl
written_unless Subgroup storage = inr refl
written_unless Invocation storage = inr refl

storage_of-bits : (storage : Storage) → storage_of (storage_bits storage) ≡ storage
storage_of-bits Both = refl
storage_of-bits Local = refl
storage_of-bits Global = refl
storage_of-bits Neither = refl

by_bits : (mask : ℕ) (b c : Bool) → eqb (bit_and mask 0x100) 0 ≡ b → eqb (bit_and mask 0x200) 0 ≡ c → storage_bits (cond b (cond c Neither Global) (cond c Local Both)) ≡ bit_and mask 0x300
by_bits mask true true e f =
    let l : mask / 2 ^ 8 % 2 * 2 ^ 8 ≡ 0 = sym (and_pow mask 8) ∙ eqb-true (bit_and mask 0x100) 0 e in
    let g : mask / 2 ^ 9 % 2 * 2 ^ 9 ≡ 0 = sym (and_pow mask 9) ∙ eqb-true (bit_and mask 0x200) 0 f in
    omega (arith, storage_and mask)
by_bits mask true false e f =
    let l : mask / 2 ^ 8 % 2 * 2 ^ 8 ≡ 0 = sym (and_pow mask 8) ∙ eqb-true (bit_and mask 0x100) 0 e in
    let g : mask / 2 ^ 9 % 2 * 2 ^ 9 ≢ 0 = λ z. eqb-false (bit_and mask 0x200) 0 f (and_pow mask 9 ∙ z) in
    omega (arith, storage_and mask)
by_bits mask false true e f =
    let l : mask / 2 ^ 8 % 2 * 2 ^ 8 ≢ 0 = λ z. eqb-false (bit_and mask 0x100) 0 e (and_pow mask 8 ∙ z) in
    let g : mask / 2 ^ 9 % 2 * 2 ^ 9 ≡ 0 = sym (and_pow mask 9) ∙ eqb-true (bit_and mask 0x200) 0 f in
    omega (arith, storage_and mask)
by_bits mask false false e f =
    let l : mask / 2 ^ 8 % 2 * 2 ^ 8 ≢ 0 = λ z. eqb-false (bit_and mask 0x100) 0 e (and_pow mask 8 ∙ z) in
    let g : mask / 2 ^ 9 % 2 * 2 ^ 9 ≢ 0 = λ z. eqb-false (bit_and mask 0x200) 0 f (and_pow mask 9 ∙ z) in
    omega (arith, storage_and mask)

-- a number's storage has its storage bits
storage_bits-of : (mask : ℕ) → storage_bits (storage_of mask) ≡ bit_and mask 0x300
storage_bits-of mask = by_bits mask (eqb (bit_and mask 0x100) 0) (eqb (bit_and mask 0x200) 0) refl refl

-- and the storage that is told has those that are told
told-by : (mask : ℕ) (b : Bool) → storage_bits (cond b Both (storage_of mask)) ≡ cond b 0x300 (bit_and mask 0x300)
told-by mask true = refl
told-by mask false = storage_bits-of mask

pub undoes : (scope : Scope) (mask : ℕ) (text : List ℕ) → written_scope scope mask ≡ Some text → read_syncscope text ≡ Some (scope, told_bits mask)
unfolding written_scope
undoes scope mask text e =
    ap read_syncscope (written_word scope (told_storage mask) text e)
    ∙ word_found scope (told_storage mask)
    ∙ ap (λ b. Some (scope, b)) (told-by mask (eqb (bit_and mask 0x1E) 0))

-- where there is an order, the storage is told
told_with_order : (mask : ℕ) → bit_and mask 0x1E ≢ 0 → told_storage mask ≡ storage_of mask
told_with_order mask order = ap (λ b. cond b Both (storage_of mask)) (ne_eqb (bit_and mask 0x1E) 0 order)

written_for : (scope : Scope) (storage : Storage) → word_unless_default scope storage ≡ Some (scope_word scope storage) → (mask : ℕ) → bit_and mask 0x1E ≢ 0 → bit_and mask 0x300 ≡ storage_bits storage → written_scope scope mask ≡ Some (scope_word scope storage)
unfolding written_scope
written_for scope storage word mask order bits =
    let same : storage_of mask ≡ storage =
    sym (storage_of-bits (storage_of mask)) ∙ ap storage_of (storage_bits-of mask ∙ bits) ∙ storage_of-bits storage in
    ap (word_unless_default scope) (told_with_order mask order ∙ same) ∙ word

beyond : (text : List ℕ) (scope : Scope) (bits : ℕ) → read_syncscope text ≡ Some (scope, bits) → IsDefaultWord text scope bits ⊎ IsWritten text scope bits
beyond text scope bits e =
    let word = is_word text scope bits e in
    elim (written_unless scope word.storage) [
      | inl h ↦ inl (record {
        word = word.spelled ∙ ap (λ s. scope_word s word.storage) h.0 ∙ ap (scope_word CrossDevice) h.1;
        all_devices = h.0;
        both = word.told ∙ ap storage_bits h.1;
      })
      | inr w ↦ inr (λ mask order same. written_for scope word.storage w mask order (same ∙ word.told) ∙ ap Some (sym word.spelled))
    ]

-- no word is written for all devices and both storages alone
no_word : (scope : Scope) (storage : Storage) → word_unless_default scope storage ≡ None → (scope ≡ CrossDevice) × (storage ≡ Both)
no_word scope storage e =
    elim (written_unless scope storage) [ inl h ↦ h | inr w ↦ absurd (cc) ]

told_both : (mask : ℕ) → told_storage mask ≡ Both → (bit_and mask 0x300 ≡ 0x300) ⊎ (bit_and mask 0x1E ≡ 0)
told_both mask e =
    elim (cases_eq (bit_and mask 0x1E) 0) [
      | inl none ↦ inr none
      | inr order ↦ inl (sym (storage_bits-of mask) ∙ ap storage_bits (sym (told_with_order mask order) ∙ e))
    ]

both_told : (mask : ℕ) → (bit_and mask 0x300 ≡ 0x300) ⊎ (bit_and mask 0x1E ≡ 0) → told_storage mask ≡ Both
both_told mask (inr none) = ap (λ b. cond b Both (storage_of mask)) (eq-eqb (bit_and mask 0x1E) 0 none)
both_told mask (inl bits) =
    elim (cases_eq (bit_and mask 0x1E) 0) [
      | inl none ↦ ap (λ b. cond b Both (storage_of mask)) (eq-eqb (bit_and mask 0x1E) 0 none)
      | inr order ↦ told_with_order mask order ∙ sym (storage_of-bits (storage_of mask)) ∙ ap storage_of (storage_bits-of mask ∙ bits)
    ]

pub none_exactly : (scope : Scope) (mask : ℕ) → (written_scope scope mask ≡ None) ↔ IsDefault scope mask
unfolding written_scope
none_exactly scope mask = (
  λ e. let h = no_word scope (told_storage mask) e in record { all_devices = h.0; both_or_no_order = told_both mask h.1 },
  λ d. ap (word_unless_default scope) (both_told mask d.both_or_no_order) ∙ ap (λ s. word_unless_default s Both) d.all_devices,
)

-- when `scope_text` gives nothing
pub no_text : (scope : Scope) (mask : ℕ) (r : Option (Bor (List ℕ))) → option_map (λ w. w.now) r ≡ written_scope scope mask → IsNone r ↔ IsDefault scope mask
no_text scope mask None e = (λ _. (none_exactly scope mask).0 (sym e), λ _. refl)
no_text scope mask (Some w) e =
    (λ none. absurd (cc), λ d. let no : Some w.now ≡ None = e ∙ (none_exactly scope mask).1 d in absurd (cc))

pub undoes_writing : ReadingUndoesWriting
undoes_writing = record {
  none = none_exactly;
  undoes = undoes;
  beyond = beyond;
  one_more = word_found CrossDevice Both;
}

-- what `read_scope` reads
pub reads_word : (text : List ℕ) (r : Option (Scope × ℕ)) → r ≡ read_syncscope text → (scope : Scope) (bits : ℕ) → (r ≡ Some (scope, bits)) ↔ IsScopeWord text scope bits
reads_word text r e scope bits =
    (λ some. (words_read text scope bits).0 (sym e ∙ some), λ word. e ∙ (words_read text scope bits).1 word)
