use Rattle.std.proofs.Common.{refl, rules, SFits}
use Rattle.std.specs.Int.{w128}
use Rattle.std.proofs.lemmas.Int.{to_z-of_z}
use Rattle.book_model.proofs.Intervals.{within_trans}
use Rattle.arc_series.proofs.ArcLemmas.{moved_held, moved_inside}
use Rattle.arc_series.proofs.SlowArcs.{moved_narrow, nothing_slow}
use Rattle.arc_series.proofs.degrees.kept_around.Goals as goal

pub returns-in-Some-clause-holds : goal.returns-in-Some-clause-holds
returns-in-Some-clause-holds g c =
    let fl : SFits w128 c.in-Some.span.lo = search rules in
    let fh : SFits w128 c.in-Some.span.hi = search rules in
    let fa : SFits w128 c.end_around.result = search rules in
    let fb : SFits w128 c.end_around-in-Some.result = search rules in
    let e = simp to_z-of_z at c.end_around.ensures.value in
    let f = simp to_z-of_z at c.end_around-in-Some.ensures.value in
    let h = simp to_z-of_z at c.from_span.ensures.holds in
    moved_held g.E.Enclosure.shown c.in-Some.span.lo c.in-Some.span.hi c.end_around.result c.end_around-in-Some.result _
    _ e f c.in-Some.ensures.holds h

pub returns-in-Some-clause-inside : goal.returns-in-Some-clause-inside
returns-in-Some-clause-inside g c =
    let fl : SFits w128 c.in-Some.span.lo = search rules in
    let fh : SFits w128 c.in-Some.span.hi = search rules in
    let fa : SFits w128 c.end_around.result = search rules in
    let fb : SFits w128 c.end_around-in-Some.result = search rules in
    let e = simp to_z-of_z at c.end_around.ensures.value in
    let f = simp to_z-of_z at c.end_around-in-Some.ensures.value in
    let h = simp to_z-of_z at c.from_span.ensures.narrow in
    moved_inside g.E.Enclosure.shown _ c.in-Some.span.lo c.in-Some.span.hi c.end_around.result
    c.end_around-in-Some.result _ c.in-Some.span.ordered e f h

pub returns-in-None-clause-holds : goal.returns-in-None-clause-holds
returns-in-None-clause-holds g c = λ i h k. within_trans k c.half_turn_both_ways.ensures.holds

pub returns-in-Some-clause-narrow : goal.returns-in-Some-clause-narrow
returns-in-Some-clause-narrow g c =
    let fl : SFits w128 c.in-Some.span.lo = search rules in
    let fh : SFits w128 c.in-Some.span.hi = search rules in
    let fa : SFits w128 c.end_around.result = search rules in
    let fb : SFits w128 c.end_around-in-Some.result = search rules in
    let e = simp to_z-of_z at c.end_around.ensures.value in
    let f = simp to_z-of_z at c.end_around-in-Some.ensures.value in
    let h = simp to_z-of_z at c.from_span.ensures.narrow in
    moved_narrow g.E.Enclosure.shown _ _ _ c.in-Some.span.lo c.in-Some.span.hi c.end_around.result
    c.end_around-in-Some.result c.in-Some.span.ordered e f
    c.in-Some.ensures.holds c.in-Some.ensures.tight h

pub returns-in-None-clause-narrow : goal.returns-in-None-clause-narrow
returns-in-None-clause-narrow g c = λ high v e k. nothing_slow g.E.Enclosure.shown _ _ (c.in-None.ensures.none refl) _ _
    _ _ _ _ k
