-- The storage that an order concerns: two bits of a memory semantics number (SPIR-V 1.2, 3.25), and a suffix of a
-- syncscope word
use Rattle.std.specs.Prelude.{ℕ, List, [], ◌∷◌, codes, ◌==◌, bit_and, if◌then◌else◌}
use Rattle.ocl_names.specs.declared.storage.Storage.{Storage}
use Rattle.ocl_names.specs.declared.storage.Storage.TheVariants.{Both, Local, Global, Neither}

-- WorkgroupMemory is 0x100, CrossWorkgroupMemory 0x200
abbrev pub storage_bits : Storage → ℕ
storage_bits Both = 0x300
storage_bits Local = 0x100
storage_bits Global = 0x200
storage_bits Neither = 0x0

abbrev pub storage_suffix : Storage → List ℕ
storage_suffix Both = []
storage_suffix Local = codes "-local"
storage_suffix Global = codes "-global"
storage_suffix Neither = codes "-none"

-- the storage of which a number has the bits
abbrev pub storage_of : ℕ → Storage
storage_of mask =
    if bit_and mask 0x100 == 0 then (if bit_and mask 0x200 == 0 then Neither else Global)
    else (if bit_and mask 0x200 == 0 then Local else Both)

-- all of them
abbrev pub storages : List Storage
storages = Both ∷ Local ∷ Global ∷ Neither ∷ []
