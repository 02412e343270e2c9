use Rattle.std.proofs.Common.{arith, SFits, pos, ◌+ℤ◌, to_z, refl}
use Rattle.std.specs.Int.{w128}
use Rattle.std.proofs.lemmas.Int.{ints, to_z-of_z}
use Rattle.book_model.specs.programs.Leading.{units_of_56}
use Rattle.book_model.specs.numbers.Octants.{sine_in as in_octant}
use Rattle.trig_series.proofs.OctantLemmas.{first_alone, next_holds, over_holds}
use Rattle.trig_series.proofs.Steady.{hull_at_second, hull_around, hull_crest}
use Rattle.trig_series.proofs.TurnLemmas.{edges_meet, first_narrow, next_narrow, last_narrow}
use Rattle.trig_series.proofs.octants.sine_over_octants.Goals as goal

pub loop-octant-init : goal.loop-octant-init
loop-octant-init c =
    let fl = c.ranges.lo in
    let fh = c.ranges.hi in
    let ff = c.ranges.first in
    let fa : SFits w128 (c.args.first +ℤ pos 1) = omega (
      arith,
      ints,
      c.requires.above,
      c.requires.below,
      c.requires.several,
    ) in
    let s = simp to_z-of_z at c.sine_over_degrees_in_octant-sine.ensures.holds in
    let n = simp to_z-of_z at c.sine_over_degrees_in_octant-sine.ensures.narrow in
    let e = simp to_z-of_z at c.sine_over_degrees_in_octant-sine.ensures.endpoints in
    let m = simp to_z-of_z at c.sine_over_degrees_in_octant-sine.ensures.small in
    let t = simp to_z-of_z at c.sine_over_degrees_in_octant-sine.ensures.crest in
    record {
      begun = simp to_z-of_z (omega (arith, ints));
      within = simp to_z-of_z (omega (arith, ints, c.requires.several));
      holds = simp to_z-of_z (λ n h. first_alone (in_octant n (units_of_56 c.args.lo) (units_of_56 c.args.hi)) _
          c.args.first (s n h));
      narrow =
          simp to_z-of_z (first_narrow c.args.first c.args.lo c.args.hi _ _ c.sine_over_degrees_in_octant-sine.result.lo
          c.sine_over_degrees_in_octant-sine.result.hi refl refl c.requires.begun n);
      reached = simp to_z-of_z (λ r. edges_meet c.args.first _ _ (e (omega (arith, ints, r))));
      small = simp to_z-of_z m;
      crest = simp to_z-of_z t;
    }

pub loop-octant-preserved : goal.loop-octant-preserved
loop-octant-preserved c =
    let fl = c.ranges.lo in
    let fh = c.ranges.hi in
    let ff = c.ranges.first in
    let ft = c.ranges.last in
    let fe : SFits w128 (c.args.last +ℤ pos 1) = omega (
      arith,
      ints,
      c.requires.above,
      c.requires.below,
      c.requires.several,
    ) in
    let t = simp to_z-of_z at c.loop-octant-test.true in
    let i = simp to_z-of_z at c.loop-octant.invariant in
    let o = to_z w128 c.loop-octant.octant-bits in
    let fn : SFits w128 (o +ℤ pos 1) = omega (arith, ints, t, i.begun, c.requires.above, c.requires.below) in
    let s = simp to_z-of_z at c.sine_over_degrees_in_octant.ensures.holds in
    let n = simp to_z-of_z at c.sine_over_degrees_in_octant.ensures.narrow in
    let b = simp to_z-of_z at c.sine_over_degrees_in_octant.ensures.begins in
    let e = simp to_z-of_z at c.sine_over_degrees_in_octant.ensures.endpoints in
    let m = simp to_z-of_z at c.sine_over_degrees_in_octant.ensures.small in
    let r = simp to_z-of_z at c.sine_over_degrees_in_octant.ensures.crest in
    record {
      begun = simp to_z-of_z (omega (arith, ints, i.begun));
      within = simp to_z-of_z (omega (arith, ints, t));
      holds =
          simp to_z-of_z (λ n h. next_holds n (units_of_56 c.args.lo) (units_of_56 c.args.hi) c.args.first o _ _ _ _ _ _
          i.begun (i.holds n h) (s n h)
          c.hull-sine.ensures.low c.hull-sine.ensures.high);
      narrow = simp to_z-of_z (
          next_narrow o c.args.first c.args.lo c.args.hi _ _ _ _ _ _ _ (omega (arith, ints, i.begun, c.requires.ended))
          (omega (arith, ints, t, c.requires.reached))
          (i.reached (omega (arith, ints, t, c.requires.reached))) (b (omega (arith, ints, i.begun, c.requires.ended)))
          c.hull-sine.ensures.low
          c.hull-sine.ensures.high i.narrow n
          );
      reached =
          simp to_z-of_z
          (λ u. edges_meet o _ _ (hull_at_second _ _ _ _ _ _ _ c.hull-sine.ensures.low c.hull-sine.ensures.high
          (e (omega (arith, ints, u)))));
      small = simp to_z-of_z (λ a p q u. hull_around (pos 0) a _ _ _ _ _ _ c.hull-sine.ensures.low
          c.hull-sine.ensures.high (i.small a p q u) (m a p q u));
      crest = simp to_z-of_z (λ a p q u. hull_crest a _ _ _ c.hull-sine.ensures.low (i.crest a p q u) (r a p q u));
    }

pub returns : goal.returns
returns c =
    let fl = c.ranges.lo in
    let fh = c.ranges.hi in
    let ff = c.ranges.first in
    let ft = c.ranges.last in
    let fe : SFits w128 (c.args.last +ℤ pos 1) = omega (
      arith,
      ints,
      c.requires.above,
      c.requires.below,
      c.requires.several,
    ) in
    let i = simp to_z-of_z at c.loop-octant.invariant in
    let t = simp to_z-of_z at c.loop-octant-test.false in
    record {
      holds =
          λ n h. over_holds n c.args.lo c.args.hi c.args.first c.args.last _ _ h c.requires.ordered c.requires.first
          c.requires.last
          (λ k from to. i.holds n h k from (omega (arith, ints, t, to)));
      narrow =
          last_narrow c.args.first c.args.last (to_z w128 c.loop-octant.octant-bits) c.args.lo c.args.hi
          c.loop-octant.sine.lo c.loop-octant.sine.hi
          (omega (arith, ints, t, i.within)) i.narrow;
      small = i.small;
      crest = i.crest;
    }
