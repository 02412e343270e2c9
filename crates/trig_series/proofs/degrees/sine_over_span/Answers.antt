use Rattle.std.proofs.Common.{rules, arith, SFits, ◌-ℤ◌}
use Rattle.std.specs.Int.{w128}
use Rattle.std.proofs.lemmas.Int.{ints, to_z-of_z}
use Rattle.trig_series.proofs.OctantLemmas.{order_at}
use Rattle.trig_series.proofs.SineLemmas.{all_hold, apart_sine}
use Rattle.trig_series.proofs.degrees.sine_over_span.Goals as goal

pub returns-then-degrees-clause-holds : goal.returns-then-degrees-clause-holds
returns-then-degrees-clause-holds c =
    λ n l. all_hold n _ _ _ (order_at c.args.degrees.lo c.args.degrees.hi c.args.degrees.ordered)
    c.all_sines.ensures.low c.all_sines.ensures.high

pub returns-then-degrees-gt-MAX_DEGREES_56-clause-holds : goal.returns-then-degrees-gt-MAX_DEGREES_56-clause-holds
returns-then-degrees-gt-MAX_DEGREES_56-clause-holds c =
    λ n l. all_hold n _ _ _ (order_at c.args.degrees.lo c.args.degrees.hi c.args.degrees.ordered)
    c.all_sines-then-degrees-gt-MAX_DEGREES_56.ensures.low
    c.all_sines-then-degrees-gt-MAX_DEGREES_56.ensures.high

pub returns-then-degrees-ge-TURN-clause-holds : goal.returns-then-degrees-ge-TURN-clause-holds
returns-then-degrees-ge-TURN-clause-holds c =
    λ n l. all_hold n _ _ _ (order_at c.args.degrees.lo c.args.degrees.hi c.args.degrees.ordered)
    c.all_sines-then-degrees-ge-TURN.ensures.low
    c.all_sines-then-degrees-ge-TURN.ensures.high

pub returns-then-degrees-ge-TURN-clause-narrow : goal.returns-then-degrees-ge-TURN-clause-narrow
returns-then-degrees-ge-TURN-clause-narrow c =
    let fa : SFits w128 c.args.degrees.lo = search rules in
    let fb : SFits w128 c.args.degrees.hi = search rules in
    let fd : SFits w128 (c.args.degrees.hi -ℤ c.args.degrees.lo) =
    omega (arith, ints, c.args.degrees.ordered, c.if-degrees.false, c.if-degrees-gt-MAX_DEGREES_56.false) in
    let t = simp to_z-of_z at c.if-degrees-ge-TURN.true in
    apart_sine c.args.degrees.lo c.args.degrees.hi _ _ (omega (arith, ints, t))
    c.all_sines-then-degrees-ge-TURN.ensures.low
    c.all_sines-then-degrees-ge-TURN.ensures.high

pub returns-clause-holds : goal.returns-clause-holds
returns-clause-holds c =
    let fa : SFits w128 c.args.degrees.lo = search rules in
    let fb : SFits w128 c.args.degrees.hi = search rules in
    simp to_z-of_z at c.cut_sine_over_degrees.ensures.holds
