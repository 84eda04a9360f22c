-- How a function of OpenCL C is called in LLVM (Itanium C++ ABI, 5.1)
use Rattle.std.specs.Prelude.{ℕ, List, [], ◌∷◌, ◌++◌, ◌+◌, ◌/◌, ◌%◌, nat_lt, length, codes, if◌then◌else◌}

-- a number in decimal, for a number below 100, as the length of each name here is
abbrev pub decimal : ℕ → List ℕ
decimal n = if nat_lt n 10 then (48 + n) ∷ [] else (48 + n / 10) ∷ (48 + n % 10) ∷ []

-- the mangled name of a function: `_Z`, the length of its name in decimal, the name, its parameters
abbrev pub mangled : List ℕ → List ℕ → List ℕ
mangled name parameters = codes "_Z" ++ (decimal (length name) ++ (name ++ parameters))
