use Rattle.std.proofs.Common.{rules, arith, SFits}
use Rattle.std.specs.Int.{w128}
use Rattle.std.proofs.lemmas.Int.{ints, clamps, to_z-of_z}
use Rattle.trig_series.proofs.OctantLemmas.{order_at}
use Rattle.trig_series.proofs.SineLemmas.{cut_holds, cut_narrow}
use Rattle.trig_series.proofs.degrees.cut_sine_over_degrees.Goals as goal

pub invariant_of-result : goal.invariant_of-result
invariant_of-result c =
    let fs : SFits w128 c.sine_over_degrees-sine.result.lo = search rules in
    let ft : SFits w128 c.sine_over_degrees-sine.result.hi = search rules in
    let fa = c.ranges.lo in
    let fb = c.ranges.hi in
    let fp : SFits w128 c.max.result = search rules in
    let fq : SFits w128 c.min-low.result = search rules in
    let fr : SFits w128 c.max-2.result = search rules in
    let fu : SFits w128 c.min-high.result = search rules in
    let e = simp to_z-of_z at c.max.ensures.value in
    let f = simp to_z-of_z at c.min-low.ensures.value in
    let e' = simp to_z-of_z at c.max-2.ensures.value in
    let f' = simp to_z-of_z at c.min-high.ensures.value in
    record {
      ordered = simp to_z-of_z
          (omega (arith, ints, clamps, e, f, e', f', c.sine_over_degrees-sine.result.ordered));
    }

pub returns-clause-holds : goal.returns-clause-holds
returns-clause-holds c =
    let fs : SFits w128 c.sine_over_degrees-sine.result.lo = search rules in
    let ft : SFits w128 c.sine_over_degrees-sine.result.hi = search rules in
    let fa = c.ranges.lo in
    let fb = c.ranges.hi in
    let fp : SFits w128 c.max.result = search rules in
    let fq : SFits w128 c.min-low.result = search rules in
    let fr : SFits w128 c.max-2.result = search rules in
    let fu : SFits w128 c.min-high.result = search rules in
    let e = simp to_z-of_z at c.max.ensures.value in
    let f = simp to_z-of_z at c.min-low.ensures.value in
    let e' = simp to_z-of_z at c.max-2.ensures.value in
    let f' = simp to_z-of_z at c.min-high.ensures.value in
    let h = simp to_z-of_z at c.sine_over_degrees-sine.ensures.holds in
    simp to_z-of_z (λ n l. cut_holds n _ c.sine_over_degrees-sine.result.lo c.sine_over_degrees-sine.result.hi
    c.max.result c.min-low.result c.max-2.result
    c.min-high.result (order_at c.args.lo c.args.hi c.requires.ordered) (h n l) e f e' f')

pub returns-clause-narrow : goal.returns-clause-narrow
returns-clause-narrow c =
    let fs : SFits w128 c.sine_over_degrees-sine.result.lo = search rules in
    let ft : SFits w128 c.sine_over_degrees-sine.result.hi = search rules in
    let fa = c.ranges.lo in
    let fb = c.ranges.hi in
    let fp : SFits w128 c.max.result = search rules in
    let fq : SFits w128 c.min-low.result = search rules in
    let fr : SFits w128 c.max-2.result = search rules in
    let fu : SFits w128 c.min-high.result = search rules in
    let e = simp to_z-of_z at c.max.ensures.value in
    let f = simp to_z-of_z at c.min-low.ensures.value in
    let e' = simp to_z-of_z at c.max-2.ensures.value in
    let f' = simp to_z-of_z at c.min-high.ensures.value in
    let n = simp to_z-of_z at c.sine_over_degrees-sine.ensures.narrow in
    let s = simp to_z-of_z at c.sine_over_degrees-sine.ensures.small in
    let t = simp to_z-of_z at c.sine_over_degrees-sine.ensures.crest in
    let i = simp to_z-of_z at c.sine_over_degrees-sine.ensures.inside in
    simp to_z-of_z (cut_narrow c.args.lo c.args.hi c.sine_over_degrees-sine.result.lo c.sine_over_degrees-sine.result.hi
    c.max.result c.min-low.result
    c.max-2.result c.min-high.result c.requires.ordered e f e' f' n s t i)
