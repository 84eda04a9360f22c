-- Orders and storage as one number (SPIR-V 1.2, 3.25)
use Rattle.std.specs.Prelude.{◌≡◌, ◌≢◌, ℕ, ◌+◌, ◌-◌, ◌%◌, ◌<◌, List, [], ◌∷◌, ◌==◌, Option, bit_and, count_ones}
use Rattle.std.specs.List.{find}
use Rattle.std.specs.Option.{option_map}
use Rattle.ocl_names.specs.declared.ordering.Ordering.{Ordering}
use Rattle.ocl_names.specs.declared.ordering.Ordering.TheVariants.{Relaxed, Acquire, Release, AcquireRelease, SeqCst}

-- the bit of an order
abbrev pub order_number : Ordering → ℕ
order_number Relaxed = 0x0
order_number Acquire = 0x2
order_number Release = 0x4
order_number AcquireRelease = 0x8
order_number SeqCst = 0x10

-- all of them
abbrev pub orders : List Ordering
orders = Relaxed ∷ Acquire ∷ Release ∷ AcquireRelease ∷ SeqCst ∷ []

-- a number has no bit but 0x100 and 0x200
abbrev pub IsStorage : ℕ → Type 0
IsStorage bits = (bits % 0x100 ≡ 0) × (bits < 0x400)

-- the number of an order on some storage
abbrev pub order_mask : Ordering → ℕ → ℕ
order_mask Relaxed bits = 0
order_mask Acquire bits = 0x2 + bits
order_mask Release bits = 0x4 + bits
order_mask AcquireRelease bits = 0x8 + bits
order_mask SeqCst bits = 0x10 + bits

-- the order of a bit
abbrev pub order_with : ℕ → Option Ordering
order_with bit = find (λ order. order_number order == bit) orders

-- the order whose bit is all that a number has beside its storage bits, if there is one, and those
unfoldable pub order_parts : ℕ → Option (Ordering × ℕ)
order_parts mask =
    let bits = bit_and mask 0x300 in
    option_map (λ order. (order, bits)) (order_with (mask - bits))

-- a number has bits of two orders
abbrev pub HasTwoOrders : ℕ → Type 0
HasTwoOrders mask = 1 < count_ones (bit_and mask 0x1E)

-- a number has a bit that is neither an order's nor 0x100 nor 0x200
abbrev pub HasOtherBits : ℕ → Type 0
HasOtherBits mask = bit_and mask 0x31E ≢ mask
