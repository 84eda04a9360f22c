-- How `Parts` holds the values of a type that may lead back to it: as a list of them.
use mathlib.Core.Path.{◌≡◌, refl, sym}
use mathlib.Core.List.{List, []}
use mathlib.Core.Former as former
use base.Stored.{code_map}
use denote.RattleType.{RattleType}
use denote.HoleLaws.{Alike}
use denote.HolePlaces.{Recodes, struct_places, laid}
use denote.Hole.Carrier.{listed, list-listed}
use denote.Hole.Fix.{over}
use denote.Param.Weighed.{Weighed, w_list}
use denote.Model.Placed.{view_places}
use Rattle.std.specs.formers.vec.Vec as vector
use Rattle.std.specs.declared.alloc.Global.{Global}
use Rattle.std.specs.contracts.alloc.Global as heap
use Rattle.std.specs.contracts.impls.GlobalAllocator.TheImpl.{ghosts}
use Rattle.ll_tree.specs.declared.parts.Parts.TheInside.{Inside}
use Rattle.ll_tree.specs.declared.parts.Parts.TheView.{view, invariant}
use Rattle.ll_tree.specs.contracts.parts.Parts as outside
use Rattle.ll_tree.specs.contracts.parts.Parts.TheInside as inside

abbrev pub the_former : former.Former {0} → former.Former {0}
the_former part = former.list part

abbrev pub the_weighed : {part : former.Former {0}} → Weighed part → Weighed (the_former part)
the_weighed weight = w_list weight

pub the_empty : List ⊥
the_empty = []

abbrev pub the_items : (X : Type 0) → List X → List X
the_items X parts = parts

pub the_items_listed : (X : Type 0) (parts : List X) → listed _ (former.children (the_former former.this) X parts) ≡ the_items X parts
the_items_listed = list-listed

-- the one field, a `Vec`
abbrev held : former.Former {0}
held = former.via (vector.the_former former.this Global) Inside (λ X field. field.items) (λ X items. record { items = items }) (λ X field. refl) (λ X items. refl)

module _ (R S : RattleType) (h : R.Denot → S.Denot) where
  pub the_places : Alike R S h → Alike (outside.the_row R) (outside.the_row S) ((the_former former.this).map R.Denot S.Denot h)
  the_places alike =
      let stored = laid _ _ _ (vector.the_places heap.the_row ghosts R S h alike) in
      view_places held (former.list former.this) view (λ X Y k u. refl) (λ X u. refl) R.Denot S.Denot h (outside.the_row R).coded (outside.the_row S).coded
      (invariant R.Denot) (invariant S.Denot) (λ u p q. refl) (λ u p q. refl) (λ u e. tt) (λ u e. tt)
      (over (inside.the_row R)) (over (inside.the_row S))
      (struct_places (inside.the_type R) (inside.the_type S) (vector.mapped h, tt) _ (λ d. refl) refl (stored, tt))

  pub the_codes_placed : Recodes R S h → Recodes (outside.the_row R) (outside.the_row S) ((the_former former.this).map R.Denot S.Denot h)
  the_codes_placed recodes parts = sym (code_map R.coded.code S.coded.code h (λ x. sym (recodes x)) parts)
