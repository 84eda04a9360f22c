-- How `Child` holds a value of a type that may lead back to it: as that value.
use mathlib.Core.Path.{refl}
use mathlib.Core.Former as former
use base.Stored.{gnil}
use base.Fml.{ftrue}
use denote.RattleType.{RattleType}
use denote.Memory.{part_of}
use denote.RawPtr.{Ptr}
use denote.Sharing.{nothing}
use denote.HoleLaws.{Alike}
use denote.HolePlaces.{Recodes, struct_places, laid, one_value}
use denote.Hole.Fix.{over}
use denote.Param.Weighed.{Weighed}
use denote.Model.Placed.{view_places}
use Rattle.std.specs.declared.boxed.Box.{Box}
use Rattle.std.specs.contracts.boxed.Box as box
use Rattle.std.specs.declared.alloc.Global.{Global}
use Rattle.std.specs.contracts.alloc.Global as heap
use Rattle.std.specs.contracts.impls.GlobalAllocator.TheImpl.{ghosts}
use Rattle.ll_tree.specs.declared.child.Child.TheInside.{Inside}
use Rattle.ll_tree.specs.declared.child.Child.TheView.{view, invariant}
use Rattle.ll_tree.specs.contracts.child.Child as outside
use Rattle.ll_tree.specs.contracts.child.Child.TheInside as inside

abbrev pub the_former : former.Former {0} → former.Former {0}
the_former part = part

abbrev pub the_weighed : {part : former.Former {0}} → Weighed part → Weighed (the_former part)
the_weighed weight = weight

-- the one field, a `Box`: where it points, and the value there
abbrev held : former.Former {0}
held = former.via (former.pair (former.const (Ptr × Global)) former.this) Inside (λ X field. ((field.part.ptr, field.part.alloc), field.part.value))
    (λ X p. record { part = record { ptr = p.0.0; alloc = p.0.1; value = p.1 } }) (λ X field. refl) (λ X p. refl)

abbrev holding : {X Y : Type 0} → Box X Global → Y → Box Y Global
holding owner value = record { ptr = owner.ptr; alloc = owner.alloc; value = value }

abbrev box_row : RattleType → RattleType
box_row R = box.the_row R heap.the_row ghosts

module _ (R S : RattleType) (h : R.Denot → S.Denot) where
  box_places : Alike R S h → Alike (box_row R) (box_row S) (λ owner. holding owner (h owner.value))
  unfolding part_of
  box_places alike = record {
    mir_same = λ i. (box_row (one_value R (alike.mir_same i) (λ _. ftrue) (λ _ _. nothing) gnil)).mir;
    own_same = λ owner i. (box_row (one_value R (alike.mir_same i) (alike.own_same owner.value i) (alike.shr_same owner.value i) gnil)).own_val (holding owner tt);
    shr_same = λ owner i. (box_row (one_value R (alike.mir_same i) (alike.own_same owner.value i) (alike.shr_same owner.value i) gnil)).shr_at (holding owner tt);
  }

  pub the_places : Alike R S h → Alike (outside.the_row R) (outside.the_row S) ((the_former former.this).map R.Denot S.Denot h)
  the_places alike =
      view_places held former.this view (λ X Y k u. refl) (λ X u. refl) R.Denot S.Denot h (outside.the_row R).coded (outside.the_row S).coded
      (invariant R.Denot) (invariant S.Denot) (λ u p q. refl) (λ u p q. refl) (λ u e. tt) (λ u e. tt)
      (over (inside.the_row R)) (over (inside.the_row S))
      (struct_places (inside.the_type R) (inside.the_type S) ((λ owner. holding owner (h owner.value)), tt) _ (λ d. refl) refl (laid _ _ _ (box_places alike), tt))

  pub the_codes_placed : Recodes R S h → Recodes (outside.the_row R) (outside.the_row S) ((the_former former.this).map R.Denot S.Denot h)
  the_codes_placed recodes part = recodes part
