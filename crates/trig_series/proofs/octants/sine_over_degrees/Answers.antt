use Rattle.std.proofs.Common.{◌≡◌, ◌^◌, rules, arith, SFits, ℤ, pos, neg_ℤ, ◌+ℤ◌, ◌*ℤ◌, ◌≤ℤ◌}
use Rattle.std.specs.Int.{w128, int_div_euclid}
use Rattle.std.proofs.lemmas.Int.{ints, to_z-of_z}
use Rattle.book_model.specs.programs.Leading.{units_of_56}
use Rattle.book_model.specs.numbers.Octants.{sine_in as in_octant}
use Rattle.encl_core.specs.parts.TheConstants.{OCTANT}
use Rattle.trig_series.proofs.OctantLemmas.{division_is, first_alone, over_holds, first_alone_is, last_alone_is}
use Rattle.trig_series.proofs.OctantLemmas.{edge_below, edge_above}
use Rattle.trig_series.proofs.PartLemmas.{begun_elsewhere, ended_elsewhere, by_inside}
use Rattle.trig_series.proofs.TurnLemmas.{one_narrow}
use Rattle.trig_series.proofs.octants.sine_over_degrees.Goals as goal

-- there is room for the edges of an octant that a number lies in
record HasRoom (octant : ℤ) : Type 0 where
  edge : SFits w128 (octant *ℤ pos OCTANT)
  next : SFits w128 (octant *ℤ pos OCTANT +ℤ pos OCTANT)

room : (lo hi octant : ℤ) → lo ≤ℤ hi → neg_ℤ (pos (2 ^ 120)) ≤ℤ lo → hi ≤ℤ pos (2 ^ 120)
    → octant ≡ int_div_euclid lo (pos OCTANT) → HasRoom octant
room lo hi octant o from to e =
    let q = division_is lo octant e in
    record { edge = omega (arith, ints, q.not_above, q.close); next = omega (arith, ints, q.not_above, q.close) }

pub sine_over_edges-requires-clause-several : goal.sine_over_edges-requires-clause-several
sine_over_edges-requires-clause-several c =
    let fl = c.ranges.lo in
    let fh = c.ranges.hi in
    let fo : SFits w128 c.octants_in-octant.result = search rules in
    let e = simp to_z-of_z at c.octants_in-octant.ensures.value in
    let q = division_is c.args.lo c.octants_in-octant.result e in
    let r = room c.args.lo c.args.hi c.octants_in-octant.result c.requires.ordered c.requires.from c.requires.to e in
    let fp = r.edge in
    let fn = r.next in
    let l = simp to_z-of_z at c.if-lo-edge.true in
    simp to_z-of_z (edge_below c.octants_in-octant.result c.args.lo c.args.hi (omega (arith, ints, q.not_above))
    (omega (arith, ints, l)) c.requires.ordered)

pub sine_over_edges-requires-then-hi-edge-clause-several : goal.sine_over_edges-requires-then-hi-edge-clause-several
sine_over_edges-requires-then-hi-edge-clause-several c =
    let fl = c.ranges.lo in
    let fh = c.ranges.hi in
    let fo : SFits w128 c.octants_in-octant.result = search rules in
    let e = simp to_z-of_z at c.octants_in-octant.ensures.value in
    let q = division_is c.args.lo c.octants_in-octant.result e in
    let r = room c.args.lo c.args.hi c.octants_in-octant.result c.requires.ordered c.requires.from c.requires.to e in
    let fp = r.edge in
    let fn = r.next in
    let u = simp to_z-of_z at c.if-hi-edge.true in
    simp to_z-of_z (edge_above c.octants_in-octant.result c.args.lo c.args.hi (omega (arith, ints, q.close))
    (omega (arith, ints, u)))

pub returns-then-lo-edge-clause-narrow : goal.returns-then-lo-edge-clause-narrow
returns-then-lo-edge-clause-narrow c =
    let fl = c.ranges.lo in
    let fh = c.ranges.hi in
    simp to_z-of_z at c.sine_over_edges.ensures.narrow

pub returns-then-lo-edge-clause-small : goal.returns-then-lo-edge-clause-small
returns-then-lo-edge-clause-small c =
    let fl = c.ranges.lo in
    let fh = c.ranges.hi in
    simp to_z-of_z at c.sine_over_edges.ensures.small

pub returns-then-lo-edge-clause-crest : goal.returns-then-lo-edge-clause-crest
returns-then-lo-edge-clause-crest c =
    let fl = c.ranges.lo in
    let fh = c.ranges.hi in
    simp to_z-of_z at c.sine_over_edges.ensures.crest

pub returns-then-hi-edge-clause-narrow : goal.returns-then-hi-edge-clause-narrow
returns-then-hi-edge-clause-narrow c =
    let fl = c.ranges.lo in
    let fh = c.ranges.hi in
    simp to_z-of_z at c.sine_over_edges-then-hi-edge.ensures.narrow

pub returns-then-hi-edge-clause-small : goal.returns-then-hi-edge-clause-small
returns-then-hi-edge-clause-small c =
    let fl = c.ranges.lo in
    let fh = c.ranges.hi in
    simp to_z-of_z at c.sine_over_edges-then-hi-edge.ensures.small

pub returns-then-hi-edge-clause-crest : goal.returns-then-hi-edge-clause-crest
returns-then-hi-edge-clause-crest c =
    let fl = c.ranges.lo in
    let fh = c.ranges.hi in
    simp to_z-of_z at c.sine_over_edges-then-hi-edge.ensures.crest

pub returns-clause-holds : goal.returns-clause-holds
returns-clause-holds c =
    let fl = c.ranges.lo in
    let fh = c.ranges.hi in
    let fo : SFits w128 c.octants_in-octant.result = search rules in
    let e = simp to_z-of_z at c.octants_in-octant.ensures.value in
    let r = room c.args.lo c.args.hi c.octants_in-octant.result c.requires.ordered c.requires.from c.requires.to e in
    let fp = r.edge in
    let fn = r.next in
    let l = simp to_z-of_z at c.if-lo-edge.false in
    let u = simp to_z-of_z at c.if-hi-edge.false in
    let h = simp to_z-of_z at c.sine_within_octant.ensures.holds in
    λ n m.
    over_holds n c.args.lo c.args.hi c.octants_in-octant.result c.octants_in-octant.result _ _ m c.requires.ordered
    (first_alone_is c.octants_in-octant.result c.args.lo (omega (arith, ints, l))
    (omega (arith, ints, u, c.requires.ordered)))
    (last_alone_is c.octants_in-octant.result c.args.hi (omega (arith, ints, l, c.requires.ordered))
    (omega (arith, ints, u)))
    (λ k from to. first_alone (in_octant n (units_of_56 c.args.lo) (units_of_56 c.args.hi)) _ c.octants_in-octant.result
    (h n m) k from
    (omega (arith, ints, to)))

pub returns-clause-narrow : goal.returns-clause-narrow
returns-clause-narrow c =
    let fl = c.ranges.lo in
    let fh = c.ranges.hi in
    let fo : SFits w128 c.octants_in-octant.result = search rules in
    let e = simp to_z-of_z at c.octants_in-octant.ensures.value in
    let r = room c.args.lo c.args.hi c.octants_in-octant.result c.requires.ordered c.requires.from c.requires.to e in
    let fp = r.edge in
    let fn = r.next in
    one_narrow c.args.lo c.args.hi c.sine_within_octant.result.lo c.sine_within_octant.result.hi
    (simp to_z-of_z at c.sine_within_octant.ensures.narrow)

pub returns-clause-small : goal.returns-clause-small
returns-clause-small c =
    let fl = c.ranges.lo in
    let fh = c.ranges.hi in
    let fo : SFits w128 c.octants_in-octant.result = search rules in
    let e = simp to_z-of_z at c.octants_in-octant.ensures.value in
    let r = room c.args.lo c.args.hi c.octants_in-octant.result c.requires.ordered c.requires.from c.requires.to e in
    let fp = r.edge in
    let fn = r.next in
    simp to_z-of_z at c.sine_within_octant.ensures.small

pub returns-clause-crest : goal.returns-clause-crest
returns-clause-crest c =
    let fl = c.ranges.lo in
    let fh = c.ranges.hi in
    let fo : SFits w128 c.octants_in-octant.result = search rules in
    let e = simp to_z-of_z at c.octants_in-octant.ensures.value in
    let r = room c.args.lo c.args.hi c.octants_in-octant.result c.requires.ordered c.requires.from c.requires.to e in
    let fp = r.edge in
    let fn = r.next in
    simp to_z-of_z at c.sine_within_octant.ensures.crest

pub returns-then-lo-edge-clause-inside : goal.returns-then-lo-edge-clause-inside
returns-then-lo-edge-clause-inside c =
    let fl = c.ranges.lo in
    let fh = c.ranges.hi in
    let fo : SFits w128 c.octants_in-octant.result = search rules in
    let e = simp to_z-of_z at c.octants_in-octant.ensures.value in
    let q = division_is c.args.lo c.octants_in-octant.result e in
    let r = room c.args.lo c.args.hi c.octants_in-octant.result c.requires.ordered c.requires.from c.requires.to e in
    let fp = r.edge in
    let l = simp to_z-of_z at c.if-lo-edge.true in
    λ k i. absurd (begun_elsewhere k c.octants_in-octant.result c.args.lo c.args.hi (omega (arith, ints, q.not_above))
    (omega (arith, ints, l))
    c.requires.ordered i)

pub returns-then-hi-edge-clause-inside : goal.returns-then-hi-edge-clause-inside
returns-then-hi-edge-clause-inside c =
    let fl = c.ranges.lo in
    let fh = c.ranges.hi in
    let fo : SFits w128 c.octants_in-octant.result = search rules in
    let e = simp to_z-of_z at c.octants_in-octant.ensures.value in
    let q = division_is c.args.lo c.octants_in-octant.result e in
    let r = room c.args.lo c.args.hi c.octants_in-octant.result c.requires.ordered c.requires.from c.requires.to e in
    let fp = r.edge in
    let fn = r.next in
    let u = simp to_z-of_z at c.if-hi-edge.true in
    λ k i. absurd (ended_elsewhere k c.octants_in-octant.result c.args.lo c.args.hi (omega (arith, ints, q.close))
    (omega (arith, ints, u)) i)

pub returns-clause-inside : goal.returns-clause-inside
returns-clause-inside c =
    let fl = c.ranges.lo in
    let fh = c.ranges.hi in
    let fo : SFits w128 c.octants_in-octant.result = search rules in
    let e = simp to_z-of_z at c.octants_in-octant.ensures.value in
    let q = division_is c.args.lo c.octants_in-octant.result e in
    let r = room c.args.lo c.args.hi c.octants_in-octant.result c.requires.ordered c.requires.from c.requires.to e in
    let fp = r.edge in
    let fn = r.next in
    let h = simp to_z-of_z at c.sine_within_octant.ensures.near in
    λ k i. by_inside k c.octants_in-octant.result c.args.lo c.args.hi _ _ (omega (arith, ints, q.not_above))
    (omega (arith, ints, q.close)) c.requires.ordered i
    h
