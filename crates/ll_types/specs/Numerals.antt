-- Which numbers a type takes (LLVM 14, Simple Constants): how far they go below 0, and above it.
use Rattle.std.specs.Prelude.{ℕ, ◌-◌, ◌^◌, Option, None, Some}

abbrev pub least_of : Option ℕ → ℕ
least_of (Some bits) = 2 ^ (bits - 1)
least_of None = 2 ^ 63

abbrev pub greatest_of : Option ℕ → ℕ
greatest_of (Some bits) = 2 ^ bits - 1
greatest_of None = 2 ^ 64 - 1
