-- No module begins with the tokens up to the place of a refusal.
use Rattle.std.proofs.Common.{◌-◌, [], length, subst}
use Rattle.ll_tokens.proofs.Places.{no_token_at_end, one_reading}
use Rattle.ll_parser.specs.GrammarItems.{IsModule}
use Rattle.ll_modules.specs.Modules.{items_part}
use Rattle.ll_modules.proofs.ItemsWhole.{refused_of_none}
use Rattle.ll_front_parts.specs.Laws.{Stays}
use Rattle.ll_front_parts.proofs.Fronts.{one}
use Rattle.ll_front_parts.proofs.Refusals.{local_stays}
use Rattle.ll_fronts.specs.Laws.{RefusalsDependOnNothingBehind, TextsDependOnNothingBehind}
use Rattle.ll_fronts.proofs.Items.{local_items}

pub stay : Stays items_part
stay = local_stays one items_part local_items

pub nothing_behind : RefusalsDependOnNothingBehind
nothing_behind tokens other refusal d less same m is =
    refused_of_none other (record { rule = refusal.rule; left = length other - (length tokens - refusal.left) }) m (stay tokens other refusal d less same) is

pub no_text : TextsDependOnNothingBehind
no_text tokens other refusal d less same text m are is =
    let whole = one_reading (length text) text [] [] is.tokens other is.are_tokens no_token_at_end are no_token_at_end in
    nothing_behind tokens other refusal d less same m (subst (λ ts. IsModule ts m) whole.0 is.reads)
