use Rattle.std.proofs.Common.{arith}
use Rattle.std.proofs.lemmas.Int.{ints}
use Rattle.encl_core.specs.parts.TheConstants.{OCTANT}
use Rattle.trig_series.proofs.KernelAngles.{by_lower}
use Rattle.trig_series.proofs.PointLemmas.{sine_same, sine_around, sine_close, sine_of_none, sine_of_eighth, near_none}
use Rattle.trig_series.proofs.PointLemmas.{near_sine_eighth}
use Rattle.trig_series.proofs.points.sine_endpoints_at_degrees.Goals as goal

pub returns-then-degrees-eq0-clause-holds : goal.returns-then-degrees-eq0-clause-holds
returns-then-degrees-eq0-clause-holds c = λ n y l e. let d = rw c.if-degrees-eq0.true at e in
    sine_same n 0 y _ d (sine_of_none n l)

pub returns-then-degrees-eq0-clause-near : goal.returns-then-degrees-eq0-clause-near
returns-then-degrees-eq0-clause-near c = rw c.if-degrees-eq0.true near_none

pub returns-then-degrees-eq-OCTANT-clause-holds : goal.returns-then-degrees-eq-OCTANT-clause-holds
returns-then-degrees-eq-OCTANT-clause-holds c = λ n y l e.
    let d = rw c.if-degrees-eq-OCTANT.true at e in
    let p = c.at_octant_end.ensures.low in
    let q = c.at_octant_end.ensures.high in
    rw (p, q) (sine_same n OCTANT y _ d (sine_of_eighth n l))

pub returns-then-degrees-eq-OCTANT-clause-near : goal.returns-then-degrees-eq-OCTANT-clause-near
returns-then-degrees-eq-OCTANT-clause-near c =
    let p = c.at_octant_end.ensures.low in
    let q = c.at_octant_end.ensures.high in
    rw (c.if-degrees-eq-OCTANT.true, p, q) near_sine_eighth

pub returns-clause-holds : goal.returns-clause-holds
returns-clause-holds c = λ n y l e.
    let low = c.span_around.ensures.low in
    let high = c.span_around.ensures.high in
    sine_around c.args.degrees c.sine_of_degrees_56.result _ _ n y
    (c.sine_of_degrees_56.ensures.near n (omega (arith, l))) low high e

pub returns-clause-near : goal.returns-clause-near
returns-clause-near c =
    let low = c.span_around.ensures.low_close in
    let high = c.span_around.ensures.high_close in
    sine_close c.args.degrees c.sine_of_degrees_56.result _ _ (c.sine_of_degrees_56.ensures.endpoints 8 _ (omega arith)
    (by_lower c.args.degrees))
    (omega (arith, ints, low)) (omega (arith, ints, high))
