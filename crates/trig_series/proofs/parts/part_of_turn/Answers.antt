use Rattle.std.proofs.Common.{arith, SFits, pos, ◌-ℤ◌}
use Rattle.std.specs.Int.{w128}
use Rattle.std.proofs.lemmas.Int.{ints, to_z-of_z}
use Rattle.trig_series.proofs.AngleLemmas.{into_later}
use Rattle.trig_series.proofs.OctantLemmas.{span_opposite}
use Rattle.trig_series.proofs.PartLemmas.{later_part}
use Rattle.trig_series.proofs.parts.part_of_turn.Goals as goal

pub returns-then-octant-ge4-clause-holds : goal.returns-then-octant-ge4-clause-holds
returns-then-octant-ge4-clause-holds c = λ n d y l from to same.
    let fo = c.ranges.octant in
    let fm : SFits w128 (c.args.octant -ℤ pos 4) = omega (arith, ints, c.requires) in
    let h = simp to_z-of_z at c.part_of_half.ensures.holds in
    into_later n c.args.octant y _ (omega (arith, ints, c.if-octant-ge4.true))
    (span_opposite _ _ _ _ _ c.opposite.ensures.low c.opposite.ensures.high (h n d y l from to same))

pub returns-then-octant-ge4-clause-near : goal.returns-then-octant-ge4-clause-near
returns-then-octant-ge4-clause-near c =
    let fo = c.ranges.octant in
    let fm : SFits w128 (c.args.octant -ℤ pos 4) = omega (arith, ints, c.requires) in
    let h = simp to_z-of_z at c.part_of_half.ensures.near in
    later_part c.args.octant c.args.from c.args.to _ _ _ _ (omega (arith, ints, c.if-octant-ge4.true))
    c.opposite.ensures.low c.opposite.ensures.high h
