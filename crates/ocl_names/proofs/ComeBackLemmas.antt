-- Scopes, orders and storage come back from what is written for them
use Rattle.std.proofs.Common.{◌≡◌, ◌≢◌, ℕ, ◌+◌, List, Option, Some, None, bit_and, cond, arith, sym, ap, ◌∙◌, refl, inl, inr}
use Rattle.std.specs.Option.{option_map}
use Rattle.std.proofs.lemmas.Bool.{cases_eq, eq-eqb, ne_eqb}
use Rattle.kern_lanes.specs.declared.scope.Scope.{Scope}
use Rattle.ocl_names.specs.declared.ordering.Ordering.{Ordering}
use Rattle.ocl_names.specs.declared.ordering.Ordering.TheVariants.{Relaxed, Acquire, Release, AcquireRelease, SeqCst}
use Rattle.ocl_names.specs.Orders.{order_number, order_mask, IsStorage}
use Rattle.ocl_names.specs.Syncscopes.{written_scope, IsDefault}
use Rattle.ocl_names.specs.Laws.{told_bits, meant, remade, ScopesComeBack}
use Rattle.ocl_names.proofs.OrderLemmas.{storage_and, order_and, order_small, order_even}
use Rattle.ocl_names.proofs.SyncscopeLemmas.{none_exactly, undoes}

-- where there is an order, its storage is told
told_back : (order : Ordering) (bits : ℕ) → IsStorage bits → order_number order ≢ 0 → told_bits (order_number order + bits) ≡ bits
told_back order bits storage ordered =
    let mask = order_number order + bits in
    let aligned = storage.0 in
    let below = storage.1 in
    let small = order_small order in
    let even = order_even order in
    let orders : bit_and mask 0x1E ≡ order_number order = order_and mask ∙ omega arith in
    let stored : bit_and mask 0x300 ≡ bits = storage_and mask ∙ omega arith in
    ap (λ b. cond b 0x300 (bit_and mask 0x300)) (ne_eqb (bit_and mask 0x1E) 0 (λ none. ordered (sym orders ∙ none))) ∙ stored

-- the number is made again of what is told
mask_again : (order : Ordering) (bits : ℕ) → IsStorage bits → order_mask order (told_bits (order_mask order bits)) ≡ order_mask order bits
mask_again Relaxed bits storage = refl
mask_again Acquire bits storage = ap (order_mask Acquire) (told_back Acquire bits storage (λ e. cc))
mask_again Release bits storage = ap (order_mask Release) (told_back Release bits storage (λ e. cc))
mask_again AcquireRelease bits storage = ap (order_mask AcquireRelease) (told_back AcquireRelease bits storage (λ e. cc))
mask_again SeqCst bits storage = ap (order_mask SeqCst) (told_back SeqCst bits storage (λ e. cc))

-- where no word is written, both storages are told
default_told : (scope : Scope) (mask : ℕ) → IsDefault scope mask → told_bits mask ≡ 0x300
default_told scope mask default =
    elim (cases_eq (bit_and mask 0x1E) 0) [
      | inl none ↦ ap (λ b. cond b 0x300 (bit_and mask 0x300)) (eq-eqb (bit_and mask 0x1E) 0 none)
      | inr order ↦
          elim default.both_or_no_order [
            | inl both ↦ ap (λ b. cond b 0x300 (bit_and mask 0x300)) (ne_eqb (bit_and mask 0x1E) 0 order) ∙ both
            | inr none ↦ absurd (order none)
          ]
    ]

-- what is told of what is written
told_written : (scope : Scope) (mask : ℕ) (word : Option (List ℕ)) → written_scope scope mask ≡ word → meant word ≡ Some (scope, told_bits mask)
told_written scope mask None e =
    let default = (none_exactly scope mask).0 e in
    ap (λ s. Some (s, 0x300)) (sym default.all_devices) ∙ ap (λ b. Some (scope, b)) (sym (default_told scope mask default))
told_written scope mask (Some text) e = undoes scope mask text e

pub come_back : ScopesComeBack
come_back scope order bits storage =
    let mask = order_mask order bits in
    ap (option_map (remade order)) (told_written scope mask (written_scope scope mask) refl)
    ∙ ap (λ m. Some (scope, m)) (mask_again order bits storage)
