-- What becomes of a tree's node when a part that it lent is given back.
use Rattle.std.specs.Prelude.{List, ◌++◌, length, take, drop}
use Rattle.std.specs.Borrow.{Lends, MutBor, Fml, RattleType, Array}
use Rattle.ll_tree.specs.contracts.parts.Parts as parts
use Rattle.ll_tree.specs.contracts.child.Child as child

-- the list with its front replaced by another list, as far as there is room
abbrev pub overlaid : {A : Type 0} → List A → List A → List A
overlaid below above = take (length below) (above ++ drop (length above) below)

module _ (T : RattleType) where
  abbrev pub lends_parts : MutBor (List T.Denot) → MutBor (List T.Denot) → Fml
  lends_parts lender lent = Lends (parts.the_row T) (Array T 0) lender lent (overlaid lender.now)

  abbrev pub lends_child : MutBor T.Denot → MutBor T.Denot → Fml
  lends_child lender lent = Lends (child.the_row T) T lender lent (λ last. last)
