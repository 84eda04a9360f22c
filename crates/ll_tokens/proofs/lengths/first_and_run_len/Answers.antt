use Rattle.std.proofs.Common.{Some, sym, ◌∙◌, ap, arith}
use Rattle.std.proofs.lemmas.List.Sums.{prefix_len-le-length}
use Rattle.ll_tokens.specs.Forms.{in_class, Run}
use Rattle.ll_tokens.specs.Reach.{one_more}
use Rattle.ll_tokens.proofs.Reaches.{reach_run}
use Rattle.ll_tokens.proofs.lengths.first_and_run_len.Goals as goal

pub overflow_add-result : goal.overflow_add-result
overflow_add-result c =
    omega (arith, prefix_len-le-length (in_class c.args.then) c.in_ok-rest.rest.now, c.in_ok-rest.ensures.shorter, c.run_len.ensures)

pub returns : goal.returns
returns c = sym (c.in_ok-rest.ensures.reach (Run c.args.then) ∙ ap one_more (reach_run _ _ ∙ ap Some (sym c.run_len.ensures)))
