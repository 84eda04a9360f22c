-- The syncscope words of scopes and storage (SPIR-V 1.2, 3.25 and 3.27; LLVM 14, "Atomic Memory Ordering
-- Constraints", which leaves the words to the target)
use Rattle.std.specs.Prelude.{◌≡◌, ◌⊎◌, ℕ, List, [], ◌∷◌, ◌++◌, length, drop, codes, ◌==◌, bit_and, Option, Some, None, nat_eq, if◌then◌else◌}
use Rattle.std.specs.List.{find, starts_with}
use Rattle.std.specs.Option.{option_map, option_and_then}
use Rattle.std.specs.Str.{bytes_eq}
use Rattle.kern_lanes.specs.declared.scope.Scope.{Scope}
use Rattle.kern_lanes.specs.declared.scope.Scope.TheVariants.{CrossDevice, Device, Workgroup, Subgroup, Invocation}
use Rattle.ocl_names.specs.declared.storage.Storage.{Storage}
use Rattle.ocl_names.specs.declared.storage.Storage.TheVariants.{Both}
use Rattle.ocl_names.specs.Storage.{storage_bits, storage_suffix, storage_of, storages}

-- the name of a scope
abbrev pub scope_name : Scope → List ℕ
scope_name CrossDevice = codes "all_svm_devices"
scope_name Device = codes "device"
scope_name Workgroup = codes "workgroup"
scope_name Subgroup = codes "subgroup"
scope_name Invocation = codes "singlethread"

-- all of them
abbrev pub scopes : List Scope
scopes = CrossDevice ∷ Device ∷ Workgroup ∷ Subgroup ∷ Invocation ∷ []

-- the word of a scope and its storage
abbrev pub scope_word : Scope → Storage → List ℕ
scope_word scope storage = scope_name scope ++ storage_suffix storage

-- the storage that a word tells: that of the number's bits, and both where it has no order
abbrev pub told_storage : ℕ → Storage
told_storage mask = if bit_and mask 0x1E == 0 then Both else storage_of mask

-- the word of a scope and its storage, but for all devices and both, which is what no word means
abbrev pub word_unless_default : Scope → Storage → Option (List ℕ)
word_unless_default CrossDevice Both = None
word_unless_default scope storage = Some (scope_word scope storage)

-- the word that is written for a scope and a memory semantics number, if one is
unfoldable pub written_scope : Scope → ℕ → Option (List ℕ)
written_scope scope mask = word_unless_default scope (told_storage mask)

-- all devices and both storages, or no order: what is meant where no word is written
pub record IsDefault (scope : Scope) (mask : ℕ) : Type 0 where
  pub all_devices : scope ≡ CrossDevice
  pub both_or_no_order : (bit_and mask 0x300 ≡ 0x300) ⊎ (bit_and mask 0x1E ≡ 0)

-- the text is the word of this scope and the storage of these bits
pub record IsScopeWord (text : List ℕ) (scope : Scope) (bits : ℕ) : Type 0 where
  pub storage : Storage
  pub spelled : text ≡ scope_word scope storage
  pub told : bits ≡ storage_bits storage

-- the scope with whose name a text begins, and the storage of a suffix, if there are such
abbrev pub scope_at : List ℕ → Option Scope
scope_at text = find (λ s. starts_with nat_eq text (scope_name s)) scopes

abbrev pub storage_at : List ℕ → Option Storage
storage_at suffix = find (λ s. bytes_eq (storage_suffix s) suffix) storages

-- the scope and the storage of a word, if it is one
abbrev pub storage_behind : List ℕ → Scope → Option (Scope × Storage)
storage_behind text scope = option_map (λ storage. (scope, storage)) (storage_at (drop (length (scope_name scope)) text))

abbrev pub scope_word_parts : List ℕ → Option (Scope × Storage)
scope_word_parts text = option_and_then (storage_behind text) (scope_at text)

-- the scope and the storage bits of a word, if it is one
unfoldable pub read_syncscope : List ℕ → Option (Scope × ℕ)
read_syncscope text = option_map (λ parts. (parts.0, storage_bits parts.1)) (scope_word_parts text)
