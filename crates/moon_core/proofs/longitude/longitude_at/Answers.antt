use Rattle.std.proofs.Common.{arith, ◌+◌, ◌*◌, ◌^◌}
use Rattle.book_model.specs.sky.Moon.{moon_longitude_of}
use Rattle.sun_core.specs.Daily.{in_centuries}
use Rattle.moon_core.specs.Elements.{reduced_longitude_of}
use Rattle.moon_core.proofs.Measured.{left_answer}
use Rattle.moon_core.proofs.MoonPlaces.{longitudes_again}
use Rattle.moon_core.specs.Elements.{HoldElements}
use Rattle.book_model.specs.numbers.Relations.{Within}
use Rattle.moon_core.proofs.longitude.longitude_at.Goals as goal

pub returns-clause-leads : goal.returns-clause-leads
unfolding reduced_longitude_of
returns-clause-leads g c = λ w x h. c.wrap_step.ensures.leads w (moon_longitude_of (in_centuries x))
    (c.longitude.ensures.holds w x h)

pub returns-clause-measured : goal.returns-clause-measured
returns-clause-measured g c = λ v e b k. c.wrap_step.ensures.measured (20 * v + 2 ^ 36) e (omega (arith, b))
    (c.longitude.ensures.measured v e k)

pub returns-clause-wide : goal.returns-clause-wide
returns-clause-wide g c = λ v e b k.
    left_answer g.E.Enclosure.shown _ 360 (20 * v + 2 ^ 36) c.longitude.result c.wrap_step.result e (omega arith)
    (c.longitude.ensures.measured v e k)
    c.wrap_step.ensures.narrow

pub returns-clause-again : goal.returns-clause-again
returns-clause-again g c =
    longitudes_again (λ w x. HoldElements g.E.Enclosure.shown w x c.args.elements) (λ w. Within g.E.Enclosure.shown w)
    in_centuries c.wrap_step.result (returns-clause-leads g c)
