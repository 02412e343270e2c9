use Rattle.std.proofs.Common.{arith, ◌^◌}
use Rattle.std.specs.Prelude.{pos}
use Rattle.book_model.specs.numbers.Expressions.{integer}
use Rattle.new_moons.proofs.Measured.{angles_close, terms_within}
use Rattle.new_moons.proofs.moons.sum_of_angles.Goals as goal

pub returns-clause-holds : goal.returns-clause-holds
returns-clause-holds g c = λ w a d k.
    c.new_moon_terms.ensures.holds w (integer (pos 0)) a d
    (record {
      elongation = c.from_int.ensures.encloses.holds w d;
      sun_anomaly = k.sun_anomaly;
      moon_anomaly = k.moon_anomaly;
      latitude_argument = k.latitude_argument;
      eccentricity = k.eccentricity;
    })

pub returns-clause-measured : goal.returns-clause-measured
returns-clause-measured g c = λ e h.
    terms_within _ (c.new_moon_terms.ensures.narrow (2 ^ 15) e (omega arith)
    (angles_close g.E.Enclosure.shown _ c.from_int.result c.args.angles e (λ r. c.from_int.ensures.encloses.narrow r)
    h))
