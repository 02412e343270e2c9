use Rattle.std.proofs.Common.{arith}
use Rattle.moon_core.proofs.Measured.{left_answer}
use Rattle.moon_core.proofs.phases.within_turn.Goals as goal

pub returns-clause-wide : goal.returns-clause-wide
returns-clause-wide g c = λ v e b h. left_answer g.E.Enclosure.shown _ 360 v c.args.angle c.wrap_step.result e
    (omega arith) h c.wrap_step.ensures.narrow
