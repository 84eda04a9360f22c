-- The names of atomics, by their grammar
use Rattle.std.proofs.Common.{◌≡◌, ◌↔◌, ℕ, List, ◌++◌, length, drop, Bool, true, false, cond, Option, Some, None, sym, ap, ◌∙◌, refl, ◌⊎◌, inl, inr}
use Rattle.std.specs.Option.{option_map, option_and_then}
use Rattle.std.specs.Str.{bytes_eq}
use Rattle.std.proofs.Math.Seq.{drop-append_seam}
use Rattle.std.proofs.lemmas.Option.{option_and_then_some}
use Rattle.std.proofs.lemmas.Slice.Eq.{bytes_eq-Decides}
use Rattle.ocl_names.specs.declared.atomic.AtomicCall.{AtomicCall}
use Rattle.ocl_names.specs.declared.atomic.AtomicFunction.{AtomicFunction}
use Rattle.ocl_names.specs.declared.atomic.AtomicFunction.TheVariants.{Add, Sub, Xchg, Inc, Dec, Cmpxchg, Min, Max, And, Or, Xor}
use Rattle.ocl_names.specs.declared.atomic.PointerSpelling.{PointerSpelling}
use Rattle.ocl_names.specs.declared.atomic.PointerSpelling.TheVariants.{GlobalVolatile, VolatileGlobal, LocalVolatile, VolatileLocal}
use Rattle.ocl_names.specs.Mangling.{mangled}
use Rattle.ocl_names.specs.Atomics.{function_name, function_front, functions, pointer_text, pointers, letters_of, atomic_text, atomic_call, IsAtomicName, function_at, pointer_at, sign_of, call_at, call_behind, atomic_of}
use Rattle.ocl_names.specs.Laws.{AtomicsByGrammar}
use Rattle.ocl_names.proofs.SearchLemmas.{found_front, option_map_some}

-- a mangled name is its front and its parameters
front-append : (f : AtomicFunction) (rest : List ℕ) → function_front f ++ rest ≡ mangled (function_name f) rest
front-append Add rest = refl
front-append Sub rest = refl
front-append Xchg rest = refl
front-append Inc rest = refl
front-append Dec rest = refl
front-append Cmpxchg rest = refl
front-append Min rest = refl
front-append Max rest = refl
front-append And rest = refl
front-append Or rest = refl
front-append Xor rest = refl

-- no earlier front begins it
function_found : (f : AtomicFunction) (rest : List ℕ) → function_at (mangled (function_name f) rest) ≡ Some f
function_found Add rest = refl
function_found Sub rest = refl
function_found Xchg rest = refl
function_found Inc rest = refl
function_found Dec rest = refl
function_found Cmpxchg rest = refl
function_found Min rest = refl
function_found Max rest = refl
function_found And rest = refl
function_found Or rest = refl
function_found Xor rest = refl

pointer_found : (p : PointerSpelling) (rest : List ℕ) → pointer_at (pointer_text p ++ rest) ≡ Some p
pointer_found GlobalVolatile rest = refl
pointer_found VolatileGlobal rest = refl
pointer_found LocalVolatile rest = refl
pointer_found VolatileLocal rest = refl

sign_found : (f : AtomicFunction) (signed : Bool) → sign_of f (letters_of f signed) ≡ Some signed
sign_found f true =
    let same = (bytes_eq-Decides (letters_of f true) (letters_of f true)).1 refl in
    ap (λ b. cond b (Some true) (cond (bytes_eq (letters_of f true) (letters_of f false)) (Some false) None)) same
sign_found f false =
    let same = (bytes_eq-Decides (letters_of f false) (letters_of f false)).1 refl in
    ap (λ b. cond b (Some false) None) same

-- the letters that have a sign
chosen : (b c s : Bool) → cond b (Some true) (cond c (Some false) None) ≡ Some s → ((b ≡ true) × (s ≡ true)) ⊎ ((c ≡ true) × (s ≡ false))
chosen true c s e = inl (refl, cc)
chosen false true s e = inr (refl, cc)
chosen false false s e = absurd (cc)

sign_spells : (f : AtomicFunction) (letters : List ℕ) (s : Bool) → sign_of f letters ≡ Some s → letters ≡ letters_of f s
sign_spells f letters s e =
    elim (chosen (bytes_eq letters (letters_of f true)) (bytes_eq letters (letters_of f false)) s e) [
      | inl h ↦ (bytes_eq-Decides letters (letters_of f true)).0 h.0 ∙ ap (letters_of f) (sym h.1)
      | inr h ↦ (bytes_eq-Decides letters (letters_of f false)).0 h.0 ∙ ap (letters_of f) (sym h.1)
    ]

-- a text that has a call is spelled so
spelled : (text : List ℕ) (call : AtomicCall) → atomic_of text ≡ Some call → IsAtomicName text call
unfolding atomic_of
spelled text call e =
    option_and_then_some (call_behind text) (function_at text) call e
    (λ f found_f rest_f.
    let parameters = drop (length (function_front f)) text in
    option_and_then_some (call_at f parameters) (pointer_at parameters) call rest_f
    (λ p found_p rest_p.
    let letters = drop (length (pointer_text p)) parameters in
    option_map_some (atomic_call f p) (sign_of f letters) call rest_p
    (λ s found_s same. record {
      function = f;
      pointer = p;
      signed = s;
      spelled =
          found_front function_front text functions f found_f
          ∙ ap (λ rest. function_front f ++ rest)
          (found_front pointer_text parameters pointers p found_p
          ∙ ap (λ rest. pointer_text p ++ rest) (sign_spells f letters s found_s))
          ∙ front-append f (pointer_text p ++ letters_of f s);
      meant = sym same;
    })))

-- and what is spelled so has the call
call_found : (f : AtomicFunction) (p : PointerSpelling) (s : Bool) → atomic_of (atomic_text f p s) ≡ Some (atomic_call f p s)
unfolding atomic_of
call_found f p s =
    let parameters = pointer_text p ++ letters_of f s in
    let text = mangled (function_name f) parameters in
    let behind_front : drop (length (function_front f)) text ≡ parameters =
    ap (drop (length (function_front f))) (sym (front-append f parameters)) ∙ drop-append_seam (function_front f) parameters in
    ap (option_and_then (call_behind text)) (function_found f parameters)
    ∙ ap (λ rest. option_and_then (call_at f rest) (pointer_at rest)) behind_front
    ∙ ap (option_and_then (call_at f parameters)) (pointer_found p (letters_of f s))
    ∙ ap (λ rest. option_map (atomic_call f p) (sign_of f rest)) (drop-append_seam (pointer_text p) (letters_of f s))
    ∙ ap (option_map (atomic_call f p)) (sign_found f s)

pub by_grammar : AtomicsByGrammar
by_grammar text call =
    (spelled text call, λ named. ap atomic_of named.spelled ∙ call_found named.function named.pointer named.signed ∙ ap Some (sym named.meant))

-- what `atomic_name` reads
pub reads_name : (text : List ℕ) (r : Option AtomicCall) → r ≡ atomic_of text → (call : AtomicCall) → (r ≡ Some call) ↔ IsAtomicName text call
reads_name text r e call =
    (λ some. (by_grammar text call).0 (sym e ∙ some), λ name. e ∙ (by_grammar text call).1 name)
