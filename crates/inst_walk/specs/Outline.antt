-- What the walks see of an instruction: the names that it holds, each in its role.
use Rattle.std.specs.Prelude.{Bool, true, false, List, [], ◌++◌, Option, map}
use Rattle.std.specs.Option.{option_map, option_to_list}

-- The named values that an instruction takes. A phi takes each for a predecessor block, which stands beside it.
pub data Uses (N : Type 0) : Type 0 where
  Plain : List N → Uses N
  Phi : List (N × N) → Uses N

pub record Outline (N : Type 0) : Type 0 where
  pub defines : Option N
  pub uses : Uses N
  pub calls : Option N
  pub leads_to : List N
  pub others : List N

module _ {N : Type 0} where
  abbrev pub is_phi : Uses N → Bool
  is_phi (Plain values) = false
  is_phi (Phi entries) = true

  -- the values, in order
  abbrev pub values_of : Uses N → List N
  values_of (Plain values) = values
  values_of (Phi entries) = map (λ e. e.0) entries

  -- the predecessor blocks of a phi's values, in order
  abbrev pub parents_of : Uses N → List N
  parents_of (Plain values) = []
  parents_of (Phi entries) = map (λ e. e.1) entries

  -- all names of an instruction
  abbrev pub names_of : Outline N → List N
  names_of o = option_to_list o.defines ++ (values_of o.uses ++ (parents_of o.uses ++ (option_to_list o.calls ++ (o.leads_to ++ o.others))))

module _ {N M : Type 0} (f : N → M) where
  abbrev pub uses_renamed : Uses N → Uses M
  uses_renamed (Plain values) = Plain (map f values)
  uses_renamed (Phi entries) = Phi (map (λ e. (f e.0, f e.1)) entries)

  -- every name replaced
  abbrev pub outline_renamed : Outline N → Outline M
  outline_renamed o = record {
    defines = option_map f o.defines;
    uses = uses_renamed o.uses;
    calls = option_map f o.calls;
    leads_to = map f o.leads_to;
    others = map f o.others;
  }
