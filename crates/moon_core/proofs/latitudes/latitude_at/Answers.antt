use Rattle.moon_core.proofs.Measured.{latitude_within}
use Rattle.moon_core.proofs.latitudes.latitude_at.Goals as goal

pub returns-clause-measured : goal.returns-clause-measured
returns-clause-measured g c = λ v e k. latitude_within g.E.Enclosure.shown _ v c.mul_frac.result e
    (c.mul_frac.ensures.encloses.narrow _ _ (c.millionths.ensures.narrow v e k))
