use Rattle.encl_core.proofs.HighHalves.{high_is, high_small}
use Rattle.trig_series.proofs.KernelSteps.{step_near}
use Rattle.trig_series.proofs.kernel.step.Goals as goal
use Rattle.std.proofs.Common.{arith}

pub returns-clause-near : goal.returns-clause-near
returns-clause-near c = λ x u v z i s n.
    let p = high_is _ _ _ c.high_half.ensures.value in
    let l = high_small c.high_half.result c.args.square c.args.inner p (omega (arith, c.ranges.square.fits)) in
    step_near c.args.coefficient c.args.square c.args.inner c.high_half.result x u v p
    (omega (arith, l, c.requires.falling)) c.requires.half z i s n
