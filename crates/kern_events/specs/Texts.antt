-- The text of events
use Rattle.std.specs.Prelude.{ℕ, Bool, List, [], ◌∷◌, ◌++◌, ◌/◌, ◌%◌, ◌==◌, false, length, map, codes, if◌then◌else◌}
use Rattle.std.specs.List.{join_with_byte, flat_map, list_all}
use Rattle.std.specs.Fmt.{decimal, digit_glyph}
use Rattle.kern_lanes.specs.declared.width.Width.{Width}
use Rattle.kern_lanes.specs.declared.scope.Scope.{Scope}
use Rattle.kern_lanes.specs.Widths.{bits_of}
use Rattle.kern_lanes.specs.Scopes.{scope_number}
use Rattle.kern_types.specs.declared.class.Class.{Class}
use Rattle.kern_events.specs.declared.bytes.Init.{Init}
use Rattle.kern_events.specs.declared.bytes.Init.TheVariants.{Nothing, Bytes}
use Rattle.kern_events.specs.declared.event.Event.{Event}
use Rattle.kern_events.specs.declared.event.Event.TheVariants.{Place, Alloc, Load, Store, AtomicLoad, AtomicStore, Rmw, Cas, Fence, Barrier}
use Rattle.kern_events.specs.Words.{class_word, op_word, volatile_word}

-- numbers in decimal, a comma between each two
unfoldable pub numbers_text : List ℕ → List ℕ
numbers_text numbers = join_with_byte 44 (map decimal numbers)

-- a byte in hexadecimal, by two lower-case digits
abbrev pub hex_byte : ℕ → List ℕ
hex_byte byte = digit_glyph false (byte / 16) ∷ digit_glyph false (byte % 16) ∷ []

-- bytes in hexadecimal, or a word where all of them are 0
unfoldable pub bytes_text : List ℕ → List ℕ
bytes_text bytes = if list_all (λ byte. byte == 0) bytes then codes "zero" else flat_map hex_byte bytes

-- what a variable holds at first
abbrev pub init_text : Init → List ℕ
init_text Nothing = codes "none"
init_text (Bytes bytes) = bytes_text bytes

-- an address space, an address in it, and the width of what stands there
unfoldable pub place_text : Class → ℕ → Width → List ℕ
place_text class address width =
    class_word class ++ (codes " " ++ (decimal address ++ (codes " i" ++ decimal (bits_of width))))

-- how many lanes there are, and their alignment
unfoldable pub access_text : List ℕ → ℕ → Bool → List ℕ
access_text lanes align volatile =
    decimal (length lanes) ++ (codes " align " ++ (decimal align ++ volatile_word volatile))

-- a scope and a mask
unfoldable pub order_text : Scope → ℕ → List ℕ
order_text scope mask = codes "scope " ++ (decimal (scope_number scope) ++ (codes " mask " ++ decimal mask))

-- a scope and the masks of a compare exchange
unfoldable pub orders_text : Scope → ℕ → ℕ → List ℕ
orders_text scope equal unequal =
    codes "scope " ++ (decimal (scope_number scope) ++ (codes " equal " ++ (decimal equal ++ (codes " unequal " ++ decimal unequal))))

-- the line of a compare exchange, from its parts
abbrev pub cas_text : List ℕ → List ℕ → ℕ → ℕ → ℕ → List ℕ
cas_text place orders value comparator answer =
    codes "cas " ++ (place ++ (codes " " ++ (orders ++ (codes " " ++ (decimal value ++ (codes " cmp " ++ (decimal comparator ++ (codes " -> " ++ decimal answer))))))))

-- the line of an event, without its line feed
abbrev pub text_of : Event → List ℕ
text_of (Place class size align init answer) =
    codes "place " ++ (class_word class ++ (codes " " ++ (decimal size ++ (codes " " ++ (decimal align ++ (codes " " ++ (init_text init ++ (codes " -> " ++ decimal answer))))))))
text_of (Alloc size align answer) =
    codes "alloc " ++ (decimal size ++ (codes " " ++ (decimal align ++ (codes " -> " ++ decimal answer))))
text_of (Load class address width align volatile lanes) =
    codes "load " ++ (place_text class address width ++ (codes " " ++ (access_text lanes align volatile ++ (codes " -> " ++ numbers_text lanes))))
text_of (Store class address width align volatile lanes) =
    codes "store " ++ (place_text class address width ++ (codes " " ++ (access_text lanes align volatile ++ (codes " " ++ numbers_text lanes))))
text_of (AtomicLoad class address width scope mask answer) =
    codes "atomic_load " ++ (place_text class address width ++ (codes " " ++ (order_text scope mask ++ (codes " -> " ++ decimal answer))))
text_of (AtomicStore class address width scope mask value) =
    codes "atomic_store " ++ (place_text class address width ++ (codes " " ++ (order_text scope mask ++ (codes " " ++ decimal value))))
text_of (Rmw op class address width scope mask value answer) =
    codes "rmw " ++ (op_word op ++ (codes " " ++ (place_text class address width ++ (codes " " ++ (order_text scope mask ++ (codes " " ++ (decimal value ++ (codes " -> " ++ decimal answer))))))))
text_of (Cas class address width scope equal unequal value comparator answer) =
    cas_text (place_text class address width) (orders_text scope equal unequal) value comparator answer
text_of (Fence scope mask) = codes "fence " ++ order_text scope mask
text_of (Barrier execution memory mask) =
    codes "barrier " ++ (decimal (scope_number execution) ++ (codes " " ++ order_text memory mask))
