-- The names in no role make no difference to the walks.
use Rattle.std.proofs.Common.{◌≡◌, ℕ, Bool, List, Option, None, Some, refl, sym, ◌∙◌, ap}
use Rattle.std.specs.Prelude.{map}
use Rattle.std.specs.Option.{option_map}
use Rattle.inst_walk.specs.Body.{BodyOutline, block_preorder}
use Rattle.inst_walk.specs.Calls.{first_cycle_call}
use Rattle.inst_walk.specs.Outline.{Uses, Plain, Phi, uses_renamed}
use Rattle.inst_walk.specs.RenamedBody.{without_others, block_without_others, body_without_others}
use Rattle.inst_walk.specs.Uses.{first_use_break}
use Rattle.inst_walk.proofs.ListLemmas.{map-alike, map-same}
use Rattle.inst_walk.proofs.RenamedCalls.{first_call-viewed}
use Rattle.inst_walk.proofs.RenamedUses.{first_use-viewed}
use Rattle.inst_walk.proofs.RenamedWalks.{Renames, body_viewed, order-viewed}

module _ {N : Type 0} where
  option-itself : (o : Option N) → o ≡ option_map (λ name. name) o
  option-itself None = refl
  option-itself (Some name) = refl

  uses-itself : (uses : Uses N) → uses ≡ uses_renamed (λ name. name) uses
  uses-itself (Plain values) = ap Plain (sym (map-same (λ name. name) values (λ name h. refl)))
  uses-itself (Phi entries) = ap Phi (sym (map-same (λ (e : N × N). (e.0, e.1)) entries (λ e h. refl)))

  itself : Renames (λ (name : N). name) without_others
  itself = record {
    defines = λ o. option-itself o.defines;
    uses = λ o. uses-itself o.uses;
    calls = λ o. option-itself o.calls;
    leads_to = λ o. sym (map-same (λ name. name) o.leads_to (λ name h. refl));
  }

  body-shown : (body : BodyOutline N) → body_without_others body ≡ body_viewed (λ name. name) without_others body
  body-shown body =
      ap (λ (params : List N). let b : BodyOutline N = record { params = params; blocks = map block_without_others body.blocks } in b) (sym (map-same (λ name. name) body.params (λ name h. refl)))

  module _ (eq : N → N → Bool) where
    pub order-without : (body : BodyOutline N) → block_preorder eq (body_without_others body) ≡ block_preorder eq body
    order-without body = ap (block_preorder eq) (body-shown body) ∙ order-viewed (λ name. name) without_others itself eq eq body (λ block b x y i j. refl)

    pub first_use-without : (body : BodyOutline N) (order : List ℕ) → first_use_break eq (body_without_others body) order ≡ first_use_break eq body order
    first_use-without body order =
        ap (λ b. first_use_break eq b order) (body-shown body)
        ∙ first_use-viewed eq eq (λ name. name) without_others itself body order (record { values = λ block o b h x y i j. refl; parents = λ block o b h x y i j. refl })

    pub first_call-without : (names : List N) (bodies : List (BodyOutline N)) → first_cycle_call eq names (map body_without_others bodies) ≡ first_cycle_call eq names bodies
    first_call-without names bodies =
        ap (first_cycle_call eq names) (map-alike body_without_others (body_viewed (λ name. name) without_others) bodies (λ b h. body-shown b))
        ∙ first_call-viewed eq eq names names (λ (b : BodyOutline N). b) (λ b name. name) (λ b. without_others) (λ b. itself) bodies (λ b name h i. refl)
        ∙ ap (first_cycle_call eq names) (map-same (λ b. b) bodies (λ b h. refl))
