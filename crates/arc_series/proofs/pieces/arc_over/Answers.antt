use Rattle.std.proofs.Common.{arith, rules, SFits, inl, inr, ◌≤ℤ◌}
use Rattle.std.specs.Int.{w128}
use Rattle.std.proofs.lemmas.Int.{ints, to_z-of_z}
use Rattle.arc_series.specs.Forms.{of_span, begin_56, end_56}
use Rattle.arc_series.proofs.HeldArcs.{unbegun_held, ended_held, over_held, part_from, part_to, hull_first, hull_second}
use Rattle.arc_series.proofs.ArcParts.{unbegun, ended, part_order, part_reaches}
use Rattle.arc_series.proofs.pieces.arc_over.Goals as goal

pub returns-then-begin-hi : goal.returns-then-begin-hi
returns-then-begin-hi c =
    let fh : SFits w128 c.args.hi = search rules in
    let fb : SFits w128 c.begin_of-begin.result = search rules in
    let k = simp to_z-of_z at c.if-begin-hi.true in
    record {
      holds =
          λ n d. unbegun_held of_span n c.args.piece c.args.lo c.args.hi _ (omega (arith, ints, fh))
          (omega (arith, ints, k, c.begin_of-begin.ensures.value));
      narrow = inl (unbegun c.args.piece c.args.hi (omega (arith, ints, fh))
          (omega (arith, ints, k, c.begin_of-begin.ensures.value)));
    }

pub returns-then-lo-end : goal.returns-then-lo-end
returns-then-lo-end c =
    let fl : SFits w128 c.args.lo = search rules in
    let fe : SFits w128 c.end_of-end.result = search rules in
    let k = simp to_z-of_z at c.if-lo-end.true in
    record {
      holds = λ n d. ended_held of_span n c.args.piece c.args.lo c.args.hi _ (omega (arith, ints, fl))
          (omega (arith, ints, k, c.end_of-end.ensures.value));
      narrow = inr (ended c.args.piece c.args.lo (omega (arith, ints, fl))
          (omega (arith, ints, k, c.end_of-end.ensures.value)));
    }

pub arc-high-requires-clause-from : goal.arc-high-requires-clause-from
arc-high-requires-clause-from c =
    let fh : SFits w128 c.args.hi = search rules in
    let fb : SFits w128 c.begin_of-begin.result = search rules in
    let fe : SFits w128 c.end_of-end.result = search rules in
    let fy : SFits w128 c.min.result = search rules in
    let y = simp c.end_of-end.ensures.value at (simp to_z-of_z at c.min.ensures.value) in
    let k = simp to_z-of_z at c.if-begin-hi.false in
    let l : begin_56 c.args.piece ≤ℤ c.args.hi = omega (arith, ints, k, c.begin_of-begin.ensures.value) in
    simp to_z-of_z ((part_to c.args.piece c.args.lo c.args.hi c.min.result y l).0)

pub returns : goal.returns
returns c =
    let fl : SFits w128 c.args.lo = search rules in
    let fh : SFits w128 c.args.hi = search rules in
    let fb : SFits w128 c.begin_of-begin.result = search rules in
    let fe : SFits w128 c.end_of-end.result = search rules in
    let fx : SFits w128 c.max.result = search rules in
    let fy : SFits w128 c.min.result = search rules in
    let x = simp c.begin_of-begin.ensures.value at (simp to_z-of_z at c.max.ensures.value) in
    let y = simp c.end_of-end.ensures.value at (simp to_z-of_z at c.min.ensures.value) in
    let f = simp to_z-of_z at c.arc-low.ensures.holds in
    let g = simp to_z-of_z at c.arc-high.ensures.holds in
    let i = simp to_z-of_z at c.if-begin-hi.false in
    let j = simp to_z-of_z at c.if-lo-end.false in
    let b : begin_56 c.args.piece ≤ℤ c.args.hi = omega (arith, ints, i, c.begin_of-begin.ensures.value) in
    let e : c.args.lo ≤ℤ end_56 c.args.piece = omega (arith, ints, j, c.end_of-end.ensures.value) in
    let p = part_from c.args.piece c.args.lo c.args.hi c.max.result x e in
    let q = part_to c.args.piece c.args.lo c.args.hi c.min.result y b in
    record {
      holds = λ n d.
          over_held of_span n c.args.piece c.args.lo c.args.hi c.max.result c.min.result _ _ _ d
          (omega (arith, ints, fl)) (omega (arith, ints, fh)) x y f g
          (hull_first _ _ _ _ _ _ c.hull.ensures.low c.hull.ensures.high)
          (hull_second _ _ _ _ _ _ c.hull.ensures.low c.hull.ensures.high);
      narrow =
          part_reaches c.args.piece c.args.lo c.args.hi c.max.result c.min.result _ _ _ _ _
          (record {
            order = c.requires.ordered;
            least = omega (arith, ints, fl);
            most = omega (arith, ints, fh);
            begun = b;
            ended = e;
            begin = x;
            end = y;
          })
          (record {
            from =
                p.0;
            order =
                part_order c.args.piece c.args.lo c.args.hi c.max.result c.min.result c.requires.ordered x y b e;
            to =
                q.1;
            low_thin = c.arc-low.ensures.thin;
            high_thin = c.arc-high.ensures.thin;
            low_held = f;
            high_held = g;
          })
          (record { low = c.hull.ensures.low; high = c.hull.ensures.high });
    }
