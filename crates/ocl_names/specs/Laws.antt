-- Laws of names, words and numbers
use Rattle.std.specs.Prelude.{◌≡◌, ◌≢◌, ◌⊎◌, ◌↔◌, ℕ, ◌+◌, ◌==◌, List, codes, Option, Some, None, bit_and, if◌then◌else◌}
use Rattle.std.specs.Option.{option_map}
use Rattle.kern_lanes.specs.declared.scope.Scope.{Scope}
use Rattle.kern_lanes.specs.declared.scope.Scope.TheVariants.{CrossDevice}
use Rattle.ocl_names.specs.declared.atomic.AtomicCall.{AtomicCall}
use Rattle.ocl_names.specs.declared.barrier.BarrierCall.{BarrierCall}
use Rattle.ocl_names.specs.declared.ordering.Ordering.{Ordering}
use Rattle.ocl_names.specs.declared.ordering.Ordering.TheVariants.{Relaxed, Acquire, Release, AcquireRelease, SeqCst}
use Rattle.ocl_names.specs.WorkItems.{builtin_of, builtin_text}
use Rattle.ocl_names.specs.Atomics.{atomic_of, IsAtomicName}
use Rattle.ocl_names.specs.Barriers.{barrier_of}
use Rattle.ocl_names.specs.Orders.{order_number, order_mask, order_parts, IsStorage, HasTwoOrders, HasOtherBits}
use Rattle.ocl_names.specs.Syncscopes.{written_scope, IsDefault, IsScopeWord, read_syncscope}

-- a name has a number exactly where the number has the name
abbrev pub NumbersAndNamesAgree : Type 0
NumbersAndNamesAgree = (text : List ℕ) (number : ℕ) → (builtin_of text ≡ Some number) ↔ (builtin_text number ≡ Some text)

-- a text has a call exactly where the grammar of mangled names spells that call so
abbrev pub AtomicsByGrammar : Type 0
AtomicsByGrammar = (text : List ℕ) (call : AtomicCall) → (atomic_of text ≡ Some call) ↔ IsAtomicName text call

-- a text is read exactly where it is a word
abbrev pub WordsAreRead : Type 0
WordsAreRead = (text : List ℕ) (scope : Scope) (bits : ℕ) → (read_syncscope text ≡ Some (scope, bits)) ↔ IsScopeWord text scope bits

-- the storage bits that a word tells: all of them where the number has no order bit
abbrev pub told_bits : ℕ → ℕ
told_bits mask = if bit_and mask 0x1E == 0 then 0x300 else bit_and mask 0x300

-- what is read but never written
pub record IsDefaultWord (text : List ℕ) (scope : Scope) (bits : ℕ) : Type 0 where
  pub word : text ≡ codes "all_svm_devices"
  pub all_devices : scope ≡ CrossDevice
  pub both : bits ≡ 0x300

-- the text is written for this scope and each number with an order bit and these storage bits
abbrev pub IsWritten : List ℕ → Scope → ℕ → Type 0
IsWritten text scope bits = (mask : ℕ) → bit_and mask 0x1E ≢ 0 → bit_and mask 0x300 ≡ bits → written_scope scope mask ≡ Some text

-- a word is written but for the default; reading undoes writing, and reads one word more
pub record ReadingUndoesWriting : Type 0 where
  pub none : (scope : Scope) (mask : ℕ) → (written_scope scope mask ≡ None) ↔ IsDefault scope mask
  pub undoes : (scope : Scope) (mask : ℕ) (text : List ℕ) → written_scope scope mask ≡ Some text → read_syncscope text ≡ Some (scope, told_bits mask)
  pub beyond : (text : List ℕ) (scope : Scope) (bits : ℕ) → read_syncscope text ≡ Some (scope, bits) → IsDefaultWord text scope bits ⊎ IsWritten text scope bits
  pub one_more : read_syncscope (codes "all_svm_devices") ≡ Some (CrossDevice, 0x300)

-- the storage bits that a number of this order keeps
abbrev pub kept_bits : Ordering → ℕ → ℕ
kept_bits Relaxed bits = 0
kept_bits Acquire bits = bits
kept_bits Release bits = bits
kept_bits AcquireRelease bits = bits
kept_bits SeqCst bits = bits

-- a number has an order and storage bits exactly where it is their sum, none exactly where it has bits of two orders
-- or other bits, and those that it was made of
pub record NumbersAreSums : Type 0 where
  pub sums : (mask : ℕ) (order : Ordering) (bits : ℕ) → (order_parts mask ≡ Some (order, bits)) ↔ ((mask ≡ order_number order + bits) × IsStorage bits)
  pub none : (mask : ℕ) → (order_parts mask ≡ None) ↔ (HasTwoOrders mask ⊎ HasOtherBits mask)
  pub undoes : (order : Ordering) (bits : ℕ) → IsStorage bits → order_parts (order_mask order bits) ≡ Some (order, kept_bits order bits)

-- what an instruction means that is written with this word, or without one
abbrev pub meant : Option (List ℕ) → Option (Scope × ℕ)
meant None = Some (CrossDevice, 0x300)
meant (Some text) = read_syncscope text

-- its scope, and its number for an order on the storage that is told
abbrev pub remade : Ordering → Scope × ℕ → Scope × ℕ
remade order parts = (parts.0, order_mask order parts.1)

-- a scope and a number come back from the word and the order that are written for them
abbrev pub ScopesComeBack : Type 0
ScopesComeBack = (scope : Scope) (order : Ordering) (bits : ℕ) → IsStorage bits
    → let mask = order_mask order bits in
    option_map (remade order) (meant (written_scope scope mask)) ≡ Some (scope, mask)

-- no text is in two of the tables
pub record TablesAreDisjoint : Type 0 where
  pub of_work_item : (text : List ℕ) (number : ℕ) → builtin_of text ≡ Some number → (barrier_of text ≡ None) × (atomic_of text ≡ None)
  pub of_barrier : (text : List ℕ) (call : BarrierCall) → barrier_of text ≡ Some call → (builtin_of text ≡ None) × (atomic_of text ≡ None)
  pub of_atomic : (text : List ℕ) (call : AtomicCall) → atomic_of text ≡ Some call → (builtin_of text ≡ None) × (barrier_of text ≡ None)
