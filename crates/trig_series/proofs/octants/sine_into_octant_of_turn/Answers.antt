use Rattle.std.proofs.Common.{arith, SFits, pos, ◌-ℤ◌}
use Rattle.std.specs.Int.{w128}
use Rattle.std.proofs.lemmas.Int.{ints, to_z-of_z}
use Rattle.trig_series.proofs.AngleLemmas.{into_later}
use Rattle.trig_series.proofs.OctantLemmas.{span_opposite}
use Rattle.trig_series.proofs.TurnLemmas.{later_point, later_begins, later_endpoints}
use Rattle.trig_series.proofs.octants.sine_into_octant_of_turn.Goals as goal

pub returns-then-octant-ge4-clause-holds : goal.returns-then-octant-ge4-clause-holds
returns-then-octant-ge4-clause-holds c = λ n y l e.
    let fo = c.ranges.octant in
    let fm : SFits w128 (c.args.octant -ℤ pos 4) = omega (arith, ints, c.requires) in
    let h = simp to_z-of_z at c.sine_into_octant_of_half_turn.ensures.holds in
    into_later n c.args.octant y _ (omega (arith, ints, c.if-octant-ge4.true))
    (span_opposite _ _ _ _ _ c.opposite.ensures.low c.opposite.ensures.high (h n y l e))

pub returns-then-octant-ge4-clause-near : goal.returns-then-octant-ge4-clause-near
returns-then-octant-ge4-clause-near c =
    let fo = c.ranges.octant in
    let fm : SFits w128 (c.args.octant -ℤ pos 4) = omega (arith, ints, c.requires) in
    let h = simp to_z-of_z at c.sine_into_octant_of_half_turn.ensures.near in
    later_point c.args.octant c.args.degrees _ _ _ _ (omega (arith, ints, c.if-octant-ge4.true)) c.opposite.ensures.low
    c.opposite.ensures.high h

pub returns-then-octant-ge4-clause-begins : goal.returns-then-octant-ge4-clause-begins
returns-then-octant-ge4-clause-begins c = λ e.
    let fo = c.ranges.octant in
    let fm : SFits w128 (c.args.octant -ℤ pos 4) = omega (arith, ints, c.requires) in
    let h = simp to_z-of_z at c.sine_into_octant_of_half_turn.ensures.begins in
    later_begins c.args.octant _ _ _ _ (omega (arith, ints, c.if-octant-ge4.true)) c.opposite.ensures.low
    c.opposite.ensures.high (h e)

pub returns-then-octant-ge4-clause-endpoints : goal.returns-then-octant-ge4-clause-endpoints
returns-then-octant-ge4-clause-endpoints c = λ e.
    let fo = c.ranges.octant in
    let fm : SFits w128 (c.args.octant -ℤ pos 4) = omega (arith, ints, c.requires) in
    let h = simp to_z-of_z at c.sine_into_octant_of_half_turn.ensures.endpoints in
    later_endpoints c.args.octant _ _ _ _ (omega (arith, ints, c.if-octant-ge4.true)) c.opposite.ensures.low
    c.opposite.ensures.high (h e)
