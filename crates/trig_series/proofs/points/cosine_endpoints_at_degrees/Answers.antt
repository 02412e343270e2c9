use Rattle.std.proofs.Common.{arith}
use Rattle.std.proofs.lemmas.Int.{ints}
use Rattle.encl_core.specs.parts.TheConstants.{OCTANT}
use Rattle.trig_series.proofs.KernelAngles.{by_lower}
use Rattle.trig_series.proofs.PointLemmas.{cosine_same, cosine_around, cosine_close, cosine_of_none, cosine_of_eighth}
use Rattle.trig_series.proofs.PointLemmas.{near_full, near_cosine_eighth}
use Rattle.trig_series.proofs.points.cosine_endpoints_at_degrees.Goals as goal

pub returns-then-degrees-eq0-clause-holds : goal.returns-then-degrees-eq0-clause-holds
returns-then-degrees-eq0-clause-holds c = λ n y l e. let d = rw c.if-degrees-eq0.true at e in
    cosine_same n 0 y _ l d (cosine_of_none n l)

pub returns-then-degrees-eq0-clause-near : goal.returns-then-degrees-eq0-clause-near
returns-then-degrees-eq0-clause-near c = rw c.if-degrees-eq0.true near_full

pub returns-then-degrees-eq-OCTANT-clause-holds : goal.returns-then-degrees-eq-OCTANT-clause-holds
returns-then-degrees-eq-OCTANT-clause-holds c = λ n y l e.
    let d = rw c.if-degrees-eq-OCTANT.true at e in
    let p = c.at_octant_end.ensures.low in
    let q = c.at_octant_end.ensures.high in
    rw (p, q) (cosine_same n OCTANT y _ l d (cosine_of_eighth n l))

pub returns-then-degrees-eq-OCTANT-clause-near : goal.returns-then-degrees-eq-OCTANT-clause-near
returns-then-degrees-eq-OCTANT-clause-near c =
    let p = c.at_octant_end.ensures.low in
    let q = c.at_octant_end.ensures.high in
    rw (c.if-degrees-eq-OCTANT.true, p, q) near_cosine_eighth

pub returns-clause-holds : goal.returns-clause-holds
returns-clause-holds c = λ n y l e.
    let low = c.span_around.ensures.low in
    let high = c.span_around.ensures.high in
    cosine_around c.args.degrees c.cosine_of_degrees_56.result _ _ n y l
    (c.cosine_of_degrees_56.ensures.near n (omega (arith, l))) low high e

pub returns-clause-near : goal.returns-clause-near
returns-clause-near c =
    let low = c.span_around.ensures.low_close in
    let high = c.span_around.ensures.high_close in
    cosine_close c.args.degrees c.cosine_of_degrees_56.result _ _
    (c.cosine_of_degrees_56.ensures.endpoints 9 _ (omega arith) (by_lower c.args.degrees))
    (omega (arith, ints, low)) (omega (arith, ints, high))
