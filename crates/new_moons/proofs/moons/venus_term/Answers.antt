use Rattle.book_model.specs.numbers.Polynomials.{quadratic_term_of}
use Rattle.new_moons.proofs.Measured.{time_within, venus_within}
use Rattle.new_moons.proofs.moons.venus_term.Goals as goal

pub returns-clause-measured : goal.returns-clause-measured
unfolding quadratic_term_of
returns-clause-measured g c = λ e h.
    let shown = g.E.Enclosure.shown in
    let t = time_within shown _ _ c.from_frac.result e h (λ r. c.from_frac.ensures.encloses.narrow r) in
    venus_within shown _ c.from_frac.result c.mul_frac.result e t
    (λ r x k. c.mul_frac.ensures.encloses.narrow r _
    (c.sin_deg.ensures.encloses.narrow r _ (c.venus_angle.ensures.encloses.narrow r x k)))
