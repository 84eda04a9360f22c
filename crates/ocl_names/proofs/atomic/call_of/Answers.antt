use Rattle.std.proofs.Common.{rules}
use Rattle.ocl_names.specs.Atomics.{function_front, functions, pointer_text, pointers}
use Rattle.ocl_names.proofs.SearchLemmas.{front_within}
use Rattle.ocl_names.proofs.atomic.call_of.Goals as goal

pub split_at-requires : goal.split_at-requires
split_at-requires c =
    front_within function_front c.args.text.now functions c.in_ok-function.function c.front.result.now (search rules) c.front.ensures

pub split_at-requires-2 : goal.split_at-requires-2
split_at-requires-2 c =
    front_within pointer_text c.split_at.result.1.now pointers c.in_ok-pointer.pointer c.text.result.now (search rules) c.text.ensures
