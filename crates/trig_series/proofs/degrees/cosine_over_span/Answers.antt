use Rattle.std.proofs.Common.{rules, arith, SFits, refl, ◌+ℤ◌}
use Rattle.std.specs.Int.{w128}
use Rattle.std.proofs.lemmas.Int.{ints, to_z-of_z}
use Rattle.encl_core.specs.parts.TheConstants.{QUARTER}
use Rattle.trig_series.proofs.OctantLemmas.{order_at}
use Rattle.trig_series.proofs.SineLemmas.{all_cosines_hold, quarter_holds, quarter_narrow}
use Rattle.trig_series.proofs.degrees.cosine_over_span.Goals as goal

pub returns-then-degrees-gt-MAX_DEGREES_56-clause-holds : goal.returns-then-degrees-gt-MAX_DEGREES_56-clause-holds
returns-then-degrees-gt-MAX_DEGREES_56-clause-holds c =
    λ n l. all_cosines_hold n _ _ _ (order_at c.args.degrees.lo c.args.degrees.hi c.args.degrees.ordered)
    c.all_sines.ensures.low c.all_sines.ensures.high

pub returns-clause-holds : goal.returns-clause-holds
returns-clause-holds c =
    let fa : SFits w128 c.args.degrees.lo = search rules in
    let fb : SFits w128 c.args.degrees.hi = search rules in
    let fl : SFits w128 (c.args.degrees.lo +ℤ QUARTER) =
    omega (arith, ints, c.args.degrees.ordered, c.if-degrees-gt-MAX_DEGREES_56.false) in
    let fh : SFits w128 (c.args.degrees.hi +ℤ QUARTER) =
    omega (arith, ints, c.args.degrees.ordered, c.if-degrees-gt-MAX_DEGREES_56.false) in
    let k = simp to_z-of_z at c.sine_over_span.ensures.holds in
    λ n l. quarter_holds n c.args.degrees.lo c.args.degrees.hi _ _ _ _ c.args.degrees.ordered refl refl (k n l)

pub returns-clause-narrow : goal.returns-clause-narrow
returns-clause-narrow c =
    let fa : SFits w128 c.args.degrees.lo = search rules in
    let fb : SFits w128 c.args.degrees.hi = search rules in
    let fl : SFits w128 (c.args.degrees.lo +ℤ QUARTER) =
    omega (arith, ints, c.args.degrees.ordered, c.if-degrees-gt-MAX_DEGREES_56.false) in
    let fh : SFits w128 (c.args.degrees.hi +ℤ QUARTER) =
    omega (arith, ints, c.args.degrees.ordered, c.if-degrees-gt-MAX_DEGREES_56.false) in
    let k = simp to_z-of_z at c.sine_over_span.ensures.narrow in
    quarter_narrow c.args.degrees.lo c.args.degrees.hi _ _ _ _ refl refl k
