use Rattle.std.proofs.Common.{◌≡◌, ◌^◌, rules, arith, SFits, ℤ, pos, neg_ℤ, ◌+ℤ◌, ◌*ℤ◌, ◌≤ℤ◌}
use Rattle.std.specs.Int.{w128, int_min, int_max}
use Rattle.std.proofs.lemmas.Int.{ints, clamps, to_z-of_z}
use Rattle.encl_core.specs.parts.TheConstants.{OCTANT}
use Rattle.trig_series.proofs.OctantLemmas.{in_holds}
use Rattle.trig_series.proofs.Steady.{LiesIn, in_narrow, in_small, in_crest, hull_at_first, hull_at_second}
use Rattle.trig_series.proofs.octants.sine_over_degrees_in_octant.Goals as goal

-- there is room for the edges of an octant
record HasRoom (octant : ℤ) : Type 0 where
  edge : SFits w128 (octant *ℤ pos OCTANT)
  next : SFits w128 (octant *ℤ pos OCTANT +ℤ pos OCTANT)

room : (octant : ℤ) → neg_ℤ (pos (2 ^ 60)) ≤ℤ octant → octant ≤ℤ pos (2 ^ 60) → HasRoom octant
room octant from to = record { edge = omega (arith, ints); next = omega (arith, ints) }

pub sine_at_degrees_in_octant-high-requires-clause-low : goal.sine_at_degrees_in_octant-high-requires-clause-low
sine_at_degrees_in_octant-high-requires-clause-low c =
    let fo = c.ranges.octant in
    let fh = c.ranges.hi in
    let r = room c.args.octant c.requires.from c.requires.to in
    let fe = r.edge in
    let fn = r.next in
    let fq : SFits w128 c.min.result = search rules in
    let v = simp to_z-of_z at c.min.ensures.value in
    simp to_z-of_z (omega (arith, ints, clamps, v, c.requires))

pub returns-clause-holds : goal.returns-clause-holds
returns-clause-holds c =
    let fo = c.ranges.octant in
    let fl = c.ranges.lo in
    let fh = c.ranges.hi in
    let r = room c.args.octant c.requires.from c.requires.to in
    let fe = r.edge in
    let fn = r.next in
    let fp : SFits w128 c.max.result = search rules in
    let fq : SFits w128 c.min.result = search rules in
    let u = simp to_z-of_z at c.max.ensures.value in
    let v = simp to_z-of_z at c.min.ensures.value in
    let low = simp to_z-of_z at c.sine_at_degrees_in_octant-low.ensures.holds in
    let high = simp to_z-of_z at c.sine_at_degrees_in_octant-high.ensures.holds in
    λ n l. in_holds n c.args.octant c.args.lo c.args.hi c.max.result c.min.result _ _ _ _ _ _ u v (λ z e. low n z l e)
    (λ z e. high n z l e) c.hull.ensures.low
    c.hull.ensures.high

-- endpoints that are cut to an octant that they meet
record AreCut (octant lo hi low high : ℤ) : Type 0 where
  above : lo ≤ℤ low
  below : high ≤ℤ hi
  ordered : low ≤ℤ high
  low_from : (octant *ℤ pos OCTANT) ≤ℤ low
  low_to : low ≤ℤ (octant *ℤ pos OCTANT +ℤ pos OCTANT)
  high_from : (octant *ℤ pos OCTANT) ≤ℤ high
  high_to : high ≤ℤ (octant *ℤ pos OCTANT +ℤ pos OCTANT)

are_cut : (octant lo hi low high : ℤ) → low ≡ int_max (octant *ℤ pos OCTANT) lo
    → high ≡ int_min (octant *ℤ pos OCTANT +ℤ pos OCTANT) hi → lo ≤ℤ hi
    → (octant *ℤ pos OCTANT) ≤ℤ hi → lo ≤ℤ (octant *ℤ pos OCTANT +ℤ pos OCTANT) → AreCut octant lo hi low high
are_cut octant lo hi low high u v ordered begun ended = record {
  above = omega (arith, ints, clamps, u);
  below = omega (arith, ints, clamps, v);
  ordered = omega (arith, ints, clamps, u, v);
  low_from = omega (arith, ints, clamps, u);
  low_to = omega (arith, ints, clamps, u);
  high_from = omega (arith, ints, clamps, v);
  high_to = omega (arith, ints, clamps, v);
}

-- and the sines there
record HaveSines (octant lo hi p q a b x y : ℤ) : Type 0 where
  least : p ≡ int_max (octant *ℤ pos OCTANT) lo
  most : q ≡ int_min (octant *ℤ pos OCTANT +ℤ pos OCTANT) hi
  cut : AreCut octant lo hi p q
  low : LiesIn octant p a b
  high : LiesIn octant q x y

cut_endpoints : (c : goal.After-hull)
    → HaveSines c.args.octant c.args.lo c.args.hi c.max.result c.min.result c.sine_at_degrees_in_octant-low.result.lo
    c.sine_at_degrees_in_octant-low.result.hi c.sine_at_degrees_in_octant-high.result.lo
    c.sine_at_degrees_in_octant-high.result.hi
cut_endpoints c =
    let fo = c.ranges.octant in
    let fl = c.ranges.lo in
    let fh = c.ranges.hi in
    let r = room c.args.octant c.requires.from c.requires.to in
    let fe = r.edge in
    let fn = r.next in
    let fp : SFits w128 c.max.result = search rules in
    let fq : SFits w128 c.min.result = search rules in
    let u = simp to_z-of_z at c.max.ensures.value in
    let v = simp to_z-of_z at c.min.ensures.value in
    let t = are_cut c.args.octant c.args.lo c.args.hi c.max.result c.min.result u v c.requires.ordered
    c.requires.begun c.requires.ended in
    let m = simp to_z-of_z at c.sine_at_degrees_in_octant-low.ensures.near in
    let n = simp to_z-of_z at c.sine_at_degrees_in_octant-high.ensures.near in
    record {
      least = u;
      most = v;
      cut = t;
      low = record { point = m; from = t.low_from; to = t.low_to };
      high = record { point = n; from = t.high_from; to = t.high_to };
    }

pub returns-clause-narrow : goal.returns-clause-narrow
returns-clause-narrow c =
    let t = cut_endpoints c in
    let h =
    in_narrow c.args.octant c.max.result c.min.result _ _ _ _ _ _ t.cut.ordered t.low t.high c.hull.ensures.low
    c.hull.ensures.high in
    rw (t.least, t.most) at h

pub returns-clause-begins : goal.returns-clause-begins
returns-clause-begins c =
    let fo = c.ranges.octant in
    let fl = c.ranges.lo in
    let fh = c.ranges.hi in
    let r = room c.args.octant c.requires.from c.requires.to in
    let fe = r.edge in
    let fn = r.next in
    let fp : SFits w128 c.max.result = search rules in
    let fq : SFits w128 c.min.result = search rules in
    let u = simp to_z-of_z at c.max.ensures.value in
    let v = simp to_z-of_z at c.min.ensures.value in
    λ e.
    let k = simp to_z-of_z at c.sine_at_degrees_in_octant-low.ensures.begins in
    hull_at_first _ _ _ _ _ _ _ c.hull.ensures.low c.hull.ensures.high (k (omega (arith, ints, clamps, u, e)))

pub returns-clause-endpoints : goal.returns-clause-endpoints
returns-clause-endpoints c =
    let fo = c.ranges.octant in
    let fl = c.ranges.lo in
    let fh = c.ranges.hi in
    let r = room c.args.octant c.requires.from c.requires.to in
    let fe = r.edge in
    let fn = r.next in
    let fp : SFits w128 c.max.result = search rules in
    let fq : SFits w128 c.min.result = search rules in
    let u = simp to_z-of_z at c.max.ensures.value in
    let v = simp to_z-of_z at c.min.ensures.value in
    λ e.
    let k = simp to_z-of_z at c.sine_at_degrees_in_octant-high.ensures.endpoints in
    hull_at_second _ _ _ _ _ _ _ c.hull.ensures.low c.hull.ensures.high (k (omega (arith, ints, clamps, v, e)))

pub returns-clause-small : goal.returns-clause-small
returns-clause-small c =
    let t = cut_endpoints c in
    in_small c.args.octant c.args.lo c.args.hi c.max.result c.min.result _ _ _ _ _ _ t.cut.above
    t.cut.ordered t.cut.below t.low t.high c.hull.ensures.low c.hull.ensures.high

pub returns-clause-crest : goal.returns-clause-crest
returns-clause-crest c =
    let t = cut_endpoints c in
    in_crest c.args.octant c.args.lo c.args.hi c.max.result c.min.result _ _ _ _ _ t.cut.above
    t.cut.ordered t.cut.below t.low t.high c.hull.ensures.low
