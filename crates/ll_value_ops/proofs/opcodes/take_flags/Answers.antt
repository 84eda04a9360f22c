use Rattle.std.proofs.Common.{refl}
use Rattle.ll_value_ops.proofs.FlagsRead.{flag_fewer, flag_read, flags_end, no_flag_yet}
use Rattle.ll_value_ops.proofs.opcodes.take_flags.Goals as goal

pub loop-flag-init : goal.loop-flag-init
loop-flag-init c = no_flag_yet _ _ _ c.new-flags.ensures refl

pub loop-flag-smaller : goal.loop-flag-smaller
loop-flag-smaller c = flag_fewer _ _ _ _ _ _ c.loop-flag.invariant c.last.ensures c.in-Some.ensures

pub loop-flag-preserved : goal.loop-flag-preserved
loop-flag-preserved c = flag_read _ _ _ _ _ _ _ _ c.loop-flag.invariant c.last.ensures c.in-Some.ensures c.in_ok-push.ensures.ok refl

pub returns : goal.returns
returns c = flags_end _ _ _ _ _ c.loop-flag.invariant c.last.ensures c.last-2.ensures c.in_default.ensures
