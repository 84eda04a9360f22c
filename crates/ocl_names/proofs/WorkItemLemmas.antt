-- The numbers and names of built-in variables
use Rattle.std.proofs.Common.{◌≡◌, ◌≤◌, lit≤, subst, IfSome, Option, None, ℕ, List, Some, sym, ap, ◌∙◌, refl, nat_eq}
use Rattle.std.specs.List.{find}
use Rattle.std.specs.Str.{bytes_eq}
use Rattle.std.proofs.lemmas.Bool.{eqb-true}
use Rattle.std.proofs.lemmas.Slice.Eq.{bytes_eq-Decides}
use Rattle.ocl_names.specs.declared.work_item.BuiltIn.{BuiltIn}
use Rattle.ocl_names.specs.declared.work_item.BuiltIn.TheVariants.{NumWorkgroups, WorkgroupSize, WorkgroupId, LocalInvocationId, GlobalInvocationId, LocalInvocationIndex, WorkDim, GlobalSize, EnqueuedWorkgroupSize, GlobalOffset, GlobalLinearId}
use Rattle.ocl_names.specs.WorkItems.{builtin_number, function_text, builtins, builtin_of, builtin_text}
use Rattle.ocl_names.specs.Laws.{NumbersAndNamesAgree}
use Rattle.ocl_names.proofs.SearchLemmas.{find_passes, option_map_some}

-- no earlier row has the number of a variable
number_found : (b : BuiltIn) → builtin_text (builtin_number b) ≡ Some (function_text b)
unfolding builtin_text
number_found NumWorkgroups = refl
number_found WorkgroupSize = refl
number_found WorkgroupId = refl
number_found LocalInvocationId = refl
number_found GlobalInvocationId = refl
number_found LocalInvocationIndex = refl
number_found WorkDim = refl
number_found GlobalSize = refl
number_found EnqueuedWorkgroupSize = refl
number_found GlobalOffset = refl
number_found GlobalLinearId = refl

-- and none has its name
name_found : (b : BuiltIn) → builtin_of (function_text b) ≡ Some (builtin_number b)
unfolding builtin_of
name_found NumWorkgroups = refl
name_found WorkgroupSize = refl
name_found WorkgroupId = refl
name_found LocalInvocationId = refl
name_found GlobalInvocationId = refl
name_found LocalInvocationIndex = refl
name_found WorkDim = refl
name_found GlobalSize = refl
name_found EnqueuedWorkgroupSize = refl
name_found GlobalOffset = refl
name_found GlobalLinearId = refl

name_of_number : (text : List ℕ) (number : ℕ) → builtin_of text ≡ Some number → builtin_text number ≡ Some text
unfolding builtin_of
name_of_number text number e =
    option_map_some builtin_number (find (λ b. bytes_eq (function_text b) text) builtins) number e
    (λ b found same.
    let passes = find_passes (λ b. bytes_eq (function_text b) text) builtins b found in
    let named : function_text b ≡ text = (bytes_eq-Decides (function_text b) text).0 passes in
    ap builtin_text (sym same) ∙ number_found b ∙ ap Some named)

number_of_name : (text : List ℕ) (number : ℕ) → builtin_text number ≡ Some text → builtin_of text ≡ Some number
unfolding builtin_text
number_of_name text number e =
    option_map_some function_text (find (λ b. nat_eq (builtin_number b) number) builtins) text e
    (λ b found same.
    let passes = find_passes (λ b. nat_eq (builtin_number b) number) builtins b found in
    let numbered : builtin_number b ≡ number = eqb-true (builtin_number b) number passes in
    ap builtin_of (sym same) ∙ name_found b ∙ ap Some numbered)

pub numbers_and_names : NumbersAndNamesAgree
numbers_and_names text number = (name_of_number text number, number_of_name text number)

number_range : (b : BuiltIn) → (24 ≤ builtin_number b) × (builtin_number b ≤ 34)
number_range NumWorkgroups = (lit≤ tt, lit≤ tt)
number_range WorkgroupSize = (lit≤ tt, lit≤ tt)
number_range WorkgroupId = (lit≤ tt, lit≤ tt)
number_range LocalInvocationId = (lit≤ tt, lit≤ tt)
number_range GlobalInvocationId = (lit≤ tt, lit≤ tt)
number_range LocalInvocationIndex = (lit≤ tt, lit≤ tt)
number_range WorkDim = (lit≤ tt, lit≤ tt)
number_range GlobalSize = (lit≤ tt, lit≤ tt)
number_range EnqueuedWorkgroupSize = (lit≤ tt, lit≤ tt)
number_range GlobalOffset = (lit≤ tt, lit≤ tt)
number_range GlobalLinearId = (lit≤ tt, lit≤ tt)

-- which numbers there are
pub in_range : (text : List ℕ) (r : Option ℕ) → r ≡ builtin_of text → IfSome r (λ number. (24 ≤ number) × (number ≤ 34))
unfolding builtin_of
in_range text None e = tt
in_range text (Some number) e =
    option_map_some builtin_number (find (λ b. bytes_eq (function_text b) text) builtins) number (sym e)
    (λ b found same. subst (λ n. (24 ≤ n) × (n ≤ 34)) same (number_range b))
