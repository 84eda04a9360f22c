-- The atomic functions and their names (OpenCL C 1.2, 6.12.11; Itanium C++ ABI, 5.1)
use Rattle.std.specs.Prelude.{◌≡◌, ℕ, suc, List, [], ◌∷◌, ◌++◌, length, drop, replicate, codes, Bool, true, false, Option, Some, None, nat_eq, if◌then◌else◌}
use Rattle.std.specs.List.{find, starts_with}
use Rattle.std.specs.Option.{option_map, option_and_then}
use Rattle.std.specs.Str.{bytes_eq}
use Rattle.kern_lanes.specs.declared.atomic.RmwOp.TheVariants as rmw
use Rattle.ocl_names.specs.Mangling.{mangled}
use Rattle.ocl_names.specs.declared.atomic.AtomicOp.{AtomicOp}
use Rattle.ocl_names.specs.declared.atomic.AtomicOp.TheVariants as op
use Rattle.ocl_names.specs.declared.atomic.AtomicCall.{AtomicCall}
use Rattle.ocl_names.specs.declared.atomic.AtomicFunction.{AtomicFunction}
use Rattle.ocl_names.specs.declared.atomic.AtomicFunction.TheVariants.{Add, Sub, Xchg, Inc, Dec, Cmpxchg, Min, Max, And, Or, Xor}
use Rattle.ocl_names.specs.declared.atomic.PointerSpelling.{PointerSpelling}
use Rattle.ocl_names.specs.declared.atomic.PointerSpelling.TheVariants.{GlobalVolatile, VolatileGlobal, LocalVolatile, VolatileLocal}

-- the name of a function in OpenCL C
abbrev pub function_name : AtomicFunction → List ℕ
function_name Add = codes "atomic_add"
function_name Sub = codes "atomic_sub"
function_name Xchg = codes "atomic_xchg"
function_name Inc = codes "atomic_inc"
function_name Dec = codes "atomic_dec"
function_name Cmpxchg = codes "atomic_cmpxchg"
function_name Min = codes "atomic_min"
function_name Max = codes "atomic_max"
function_name And = codes "atomic_and"
function_name Or = codes "atomic_or"
function_name Xor = codes "atomic_xor"

-- how many values it takes behind the pointer
abbrev pub value_count : AtomicFunction → ℕ
value_count Add = 1
value_count Sub = 1
value_count Xchg = 1
value_count Inc = 0
value_count Dec = 0
value_count Cmpxchg = 2
value_count Min = 1
value_count Max = 1
value_count And = 1
value_count Or = 1
value_count Xor = 1

-- what it does to numbers of type int (true) or uint
abbrev pub op_of : AtomicFunction → Bool → AtomicOp
op_of Add signed = op.Rmw rmw.Add
op_of Sub signed = op.Rmw rmw.Sub
op_of Xchg signed = op.Rmw rmw.Xchg
op_of Inc signed = op.Inc
op_of Dec signed = op.Dec
op_of Cmpxchg signed = op.Cas
op_of Min signed = if signed then op.Rmw rmw.Min else op.Rmw rmw.UMin
op_of Max signed = if signed then op.Rmw rmw.Max else op.Rmw rmw.UMax
op_of And signed = op.Rmw rmw.And
op_of Or signed = op.Rmw rmw.Or
op_of Xor signed = op.Rmw rmw.Xor

-- the spelling of a pointer to volatile numbers of a space
abbrev pub pointer_text : PointerSpelling → List ℕ
pointer_text GlobalVolatile = codes "PU3AS1V"
pointer_text VolatileGlobal = codes "PVU3AS1"
pointer_text LocalVolatile = codes "PU3AS3V"
pointer_text VolatileLocal = codes "PVU3AS3"

-- the number of that space
abbrev pub pointer_space : PointerSpelling → ℕ
pointer_space GlobalVolatile = 1
pointer_space VolatileGlobal = 1
pointer_space LocalVolatile = 3
pointer_space VolatileLocal = 3

-- the letter of int is i, that of uint is j
abbrev pub letter : Bool → ℕ
letter true = 105
letter false = 106

-- a letter for what the pointer points to, and one for each value
abbrev pub letters_of : AtomicFunction → Bool → List ℕ
letters_of function signed = replicate (suc (value_count function)) (letter signed)

-- the mangled name of a function at a pointer and numbers of one type
abbrev pub atomic_text : AtomicFunction → PointerSpelling → Bool → List ℕ
atomic_text function pointer signed = mangled (function_name function) (pointer_text pointer ++ letters_of function signed)

-- what is called by it
abbrev pub atomic_call : AtomicFunction → PointerSpelling → Bool → AtomicCall
atomic_call function pointer signed =
    record { op = op_of function signed; space = pointer_space pointer; signed = signed }

-- the text is the mangled name of this call
pub record IsAtomicName (text : List ℕ) (call : AtomicCall) : Type 0 where
  pub function : AtomicFunction
  pub pointer : PointerSpelling
  pub signed : Bool
  pub spelled : text ≡ atomic_text function pointer signed
  pub meant : call ≡ atomic_call function pointer signed

-- all functions, and all spellings of pointers
abbrev pub functions : List AtomicFunction
functions = Add ∷ Sub ∷ Xchg ∷ Inc ∷ Dec ∷ Cmpxchg ∷ Min ∷ Max ∷ And ∷ Or ∷ Xor ∷ []

abbrev pub pointers : List PointerSpelling
pointers = GlobalVolatile ∷ VolatileGlobal ∷ LocalVolatile ∷ VolatileLocal ∷ []

-- the mangled name of a function up to its parameters
abbrev pub function_front : AtomicFunction → List ℕ
function_front function = mangled (function_name function) []

-- the function, the pointer and the type that a text begins with, if there are such
abbrev pub function_at : List ℕ → Option AtomicFunction
function_at text = find (λ f. starts_with nat_eq text (function_front f)) functions

abbrev pub pointer_at : List ℕ → Option PointerSpelling
pointer_at text = find (λ p. starts_with nat_eq text (pointer_text p)) pointers

abbrev pub sign_of : AtomicFunction → List ℕ → Option Bool
sign_of function letters =
    if bytes_eq letters (letters_of function true) then Some true
    else (if bytes_eq letters (letters_of function false) then Some false else None)

abbrev pub call_at : AtomicFunction → List ℕ → PointerSpelling → Option AtomicCall
call_at function parameters pointer =
    option_map (atomic_call function pointer) (sign_of function (drop (length (pointer_text pointer)) parameters))

abbrev pub call_behind : List ℕ → AtomicFunction → Option AtomicCall
call_behind text function =
    let parameters = drop (length (function_front function)) text in
    option_and_then (call_at function parameters) (pointer_at parameters)

-- the call that a text names, if it names one
unfoldable pub atomic_of : List ℕ → Option AtomicCall
atomic_of text = option_and_then (call_behind text) (function_at text)
