use Rattle.std.proofs.Common.{◌≡◌, take}
use Rattle.ll_modules.specs.Definitions.{numbers_of}
use Rattle.ll_modules.proofs.definitions.numbers_of.Given as goal

abbrev pub invariant-loop-param : goal.invariant-loop-param
invariant-loop-param l = l.numbers ≡ numbers_of (take l.param-index l.params)
