use Rattle.std.proofs.Common.{refl}
use Rattle.std.proofs.lemmas.Result.{err_from_is_err_and}
use Rattle.ll_parser.specs.GrammarItems.{node_part}
use Rattle.ll_items.specs.ItemParts.{metadata_part}
use Rattle.ll_items.proofs.ListsRead.{fewer_items, list_begun, list_read, list_stops, more_items}
use Rattle.ll_items.proofs.NodeFacts.{metadata_is_part, metadata_shortens}
use Rattle.ll_items.proofs.lists.some_parts.Goals as goal

pub loop-parts-init : goal.loop-parts-init
loop-parts-init c = list_begun node_part metadata_part metadata_is_part metadata_shortens _ _ _ _ _ _ _ _ c.in_ok-first.ensures c.in_ok-push.ensures.ok c.new-parts.ensures refl

pub returns-in_err-part : goal.returns-in_err-part
returns-in_err-part c =
    let p = err_from_is_err_and c.from_residual-in_err-part.result c.from_residual-in_err-part.ensures.1 in
    rw p.1 (list_stops node_part metadata_part metadata_is_part _ _ _ _ _ _ _ _ p.2 c.loop-parts.invariant c.last.ensures c.in_err-part.ensures)

pub loop-parts-smaller : goal.loop-parts-smaller
loop-parts-smaller c =
    let one = rw c.in-Some.is at c.in_ok-part.ensures in
    fewer_items node_part metadata_part metadata_is_part metadata_shortens _ _ _ _ _ _ _ _ _ c.loop-parts.invariant c.last.ensures one

pub loop-parts-preserved : goal.loop-parts-preserved
loop-parts-preserved c =
    let one = rw c.in-Some.is at c.in_ok-part.ensures in
    more_items node_part metadata_part metadata_is_part metadata_shortens _ _ _ _ _ _ _ _ _ _ _ c.loop-parts.invariant c.last.ensures one c.in_ok-push-2.ensures.ok refl

pub returns : goal.returns
returns c =
    let none = rw c.in_default.is at c.in_ok-part.ensures in
    list_read node_part metadata_part metadata_is_part _ _ _ _ _ _ _ _ c.loop-parts.invariant c.last.ensures c.last-2.ensures none
