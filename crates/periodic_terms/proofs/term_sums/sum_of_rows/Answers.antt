use Rattle.std.proofs.Common.{rules, arith, SFits, pos, ◌-ℤ◌}
use Rattle.std.specs.Int.{w128}
use Rattle.std.proofs.lemmas.Int.{ints, clamps, to_z-of_z}
use Rattle.periodic_terms.specs.Multiples.{most_of}
use Rattle.periodic_terms.proofs.TermSpans.{cut_apart, cut_inside, greatest_cut, least_cut, most_inside, radius_less}
use Rattle.periodic_terms.proofs.TermSpans.{summed_most, wide_enough}
use Rattle.periodic_terms.proofs.TermSums.{all_most}
use Rattle.periodic_terms.proofs.term_sums.sum_of_rows.Goals as goal

pub returns-then-not-all_known-clause-holds : goal.returns-then-not-all_known-clause-holds
returns-then-not-all_known-clause-holds g c =
    let fm : SFits w128 c.most-most.result.0 = search rules in
    let fn : SFits w128 (pos 0 -ℤ c.most-most.result.0) =
    omega (arith, ints, c.most-most.ensures.value, c.most-most.ensures.small) in
    simp to_z-of_z (λ w u term none d t.
    most_inside u _ c.most-most.result.0 _ c.most-most.ensures.value
    (summed_most u c.args.turns.now.factors _ _ c.args.sums (c.requires.sums none)
    (all_most w u c.args.turns.now g.T.MultipleRow.row_of term none c.args.rows.now c.requires.small t)))

pub invariant_of-result-2 : goal.invariant_of-result-2
invariant_of-result-2 g c =
    let fm : SFits w128 c.most-most.result.0 = search rules in
    let fl : SFits w128 c.sum_around-sum.result.lo = search rules in
    let fh : SFits w128 c.sum_around-sum.result.hi = search rules in
    let fp : SFits w128 c.cut.result = search rules in
    let fq : SFits w128 c.cut-2.result = search rules in
    let e = simp to_z-of_z at c.cut.ensures.value in
    let f = simp to_z-of_z at c.cut-2.ensures.value in
    let v = c.most-most.ensures.value in
    let s = c.most-most.ensures.small in
    let o = c.sum_around-sum.result.ordered in
    record {
      ordered = simp to_z-of_z (omega (arith, ints, clamps, e, f, v, s, o));
      low = simp to_z-of_z (omega (arith, ints, clamps, e, f, v, s, o));
      high = simp to_z-of_z (omega (arith, ints, clamps, e, f, v, s, o));
    }

pub returns-clause-holds : goal.returns-clause-holds
returns-clause-holds g c =
    let fm : SFits w128 c.most-most.result.0 = search rules in
    let fl : SFits w128 c.sum_around-sum.result.lo = search rules in
    let fh : SFits w128 c.sum_around-sum.result.hi = search rules in
    let fp : SFits w128 c.cut.result = search rules in
    let fq : SFits w128 c.cut-2.result = search rules in
    let e = simp to_z-of_z at c.cut.ensures.value in
    let f = simp to_z-of_z at c.cut-2.ensures.value in
    simp to_z-of_z (λ w u term none d t.
    cut_inside u (most_of c.args.turns.now.factors c.args.sums) c.sum_around-sum.result.lo c.sum_around-sum.result.hi
    c.cut.result c.cut-2.result
    c.most-most.result.0 _ c.most-most.ensures.value e f
    (c.sum_around-sum.ensures.holds w u term none d (c.all_known.ensures.known c.if-not-all_known.false) t)
    (summed_most u c.args.turns.now.factors _ _ c.args.sums (c.requires.sums none)
    (all_most w u c.args.turns.now g.T.MultipleRow.row_of term none c.args.rows.now c.requires.small t)))

pub returns-clause-narrow : goal.returns-clause-narrow
returns-clause-narrow g c =
    let fm : SFits w128 c.most-most.result.0 = search rules in
    let fl : SFits w128 c.sum_around-sum.result.lo = search rules in
    let fh : SFits w128 c.sum_around-sum.result.hi = search rules in
    let fp : SFits w128 c.cut.result = search rules in
    let fq : SFits w128 c.cut-2.result = search rules in
    let e = simp to_z-of_z at c.cut.ensures.value in
    let f = simp to_z-of_z at c.cut-2.ensures.value in
    let v = c.most-most.ensures.value in
    let a = cut_apart c.sum_around-sum.result.lo c.sum_around-sum.result.hi c.most-most.result.0 c.cut.result
    c.cut-2.result (omega (arith, ints, v))
    c.sum_around-sum.result.ordered e f in
    simp to_z-of_z (λ n h.
    wide_enough c.sum_around-sum.result.lo c.sum_around-sum.result.hi c.cut.result c.cut-2.result _ _ a.1
    c.sum_around-sum.ensures.wide (radius_less c.args.sums c.args.turns.now n h))

pub returns-clause-least : goal.returns-clause-least
returns-clause-least g c =
    let fm : SFits w128 c.most-most.result.0 = search rules in
    let fl : SFits w128 c.sum_around-sum.result.lo = search rules in
    let fp : SFits w128 c.cut.result = search rules in
    let e = simp to_z-of_z at c.cut.ensures.value in
    let v = c.most-most.ensures.value in
    simp to_z-of_z (least_cut c.sum_around-sum.result.lo c.most-most.result.0 c.cut.result _ v e)

pub returns-clause-greatest : goal.returns-clause-greatest
returns-clause-greatest g c =
    let fm : SFits w128 c.most-most.result.0 = search rules in
    let fh : SFits w128 c.sum_around-sum.result.hi = search rules in
    let fq : SFits w128 c.cut-2.result = search rules in
    let f = simp to_z-of_z at c.cut-2.ensures.value in
    let v = c.most-most.ensures.value in
    simp to_z-of_z (greatest_cut c.sum_around-sum.result.hi c.most-most.result.0 c.cut-2.result _ v f)
