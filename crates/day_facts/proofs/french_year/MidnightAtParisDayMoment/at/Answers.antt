use Rattle.std.proofs.Common.{arith, ◌^◌}
use Rattle.day_facts.proofs.Measured.{moments_looser}
use Rattle.day_facts.proofs.french_year.MidnightAtParisDayMoment.at.Goals as goal

pub returns-clause-measured : goal.returns-clause-measured
returns-clause-measured g c = λ e. moments_looser g.E.Enclosure.shown (2 ^ 31) (2 ^ 33) c.paris_midnight.result
    (omega arith) (c.paris_midnight.ensures.measured e)
