use Rattle.std.proofs.Common.{rules, arith, SFits, ◌+ℤ◌}
use Rattle.std.specs.Int.{w128}
use Rattle.std.proofs.lemmas.Int.{ints, to_z-of_z}
use Rattle.trig_series.proofs.KernelAngles.{by_lower}
use Rattle.trig_series.proofs.PartLemmas.{sine_part_holds, sine_part_near}
use Rattle.trig_series.proofs.parts.sine_endpoints_over_degrees.Goals as goal

pub returns-clause-holds : goal.returns-clause-holds
returns-clause-holds c =
    let fp : SFits w128 c.span_around-point.result.lo = search rules in
    let fq : SFits w128 c.span_around-point.result.hi = search rules in
    let fm : SFits w128 c.most_moved.result = search rules in
    let b = c.span_around-point.ensures.room in
    let fs : SFits w128 (c.span_around-point.result.hi +ℤ c.most_moved.result) =
    omega (arith, ints, c.requires, c.most_moved.ensures.close, b.above, b.below, c.span_around-point.result.ordered) in
    simp to_z-of_z (λ n d y h from to same.
    sine_part_holds n c.args.from d c.sine_of_degrees_56.result y c.span_around-point.result.lo
    c.span_around-point.result.hi c.most_moved.result h from
    (omega (arith, c.requires, to)) (omega (arith, ints, c.most_moved.ensures.enough, to))
    c.sine_of_degrees_56.ensures.endpoints c.span_around-point.ensures.low c.span_around-point.ensures.high same)

pub returns-clause-near : goal.returns-clause-near
returns-clause-near c =
    let fp : SFits w128 c.span_around-point.result.lo = search rules in
    let fq : SFits w128 c.span_around-point.result.hi = search rules in
    let fm : SFits w128 c.most_moved.result = search rules in
    let b = c.span_around-point.ensures.room in
    let fs : SFits w128 (c.span_around-point.result.hi +ℤ c.most_moved.result) =
    omega (arith, ints, c.requires, c.most_moved.ensures.close, b.above, b.below, c.span_around-point.result.ordered) in
    simp to_z-of_z (sine_part_near c.args.from c.args.to c.sine_of_degrees_56.result c.span_around-point.result.lo
    c.span_around-point.result.hi
    c.most_moved.result c.requires.ordered c.requires.octant
    (omega (arith, ints, c.most_moved.ensures.close, c.requires))
    (c.sine_of_degrees_56.ensures.endpoints 8 _ (omega arith) (by_lower c.args.from))
    c.span_around-point.ensures.low_close c.span_around-point.ensures.high_close)
