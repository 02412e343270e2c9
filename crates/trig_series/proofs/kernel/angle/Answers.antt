use Rattle.std.proofs.Common.{refl}
use Rattle.trig_series.proofs.KernelAngles.{angle_there, angle_between}
use Rattle.trig_series.proofs.kernel.angle.Goals as goal

pub returns-clause-near : goal.returns-clause-near
returns-clause-near c = λ n m. angle_there n c.args.degrees _ c.high_half.result _ m c.requires.octant refl
    c.high_half.ensures.value refl

pub returns-clause-there : goal.returns-clause-there
returns-clause-there c = λ x t. angle_between c.args.degrees _ c.high_half.result _ x c.requires.octant refl
    c.high_half.ensures.value refl t
