use Rattle.std.proofs.Common.{◌≡◌, arith, pos, neg_ℤ}
use Rattle.std.proofs.lemmas.Int.{ints, to_z-of_z}
use Rattle.arc_series.proofs.PieceArcs.{opposite_span, opposite_same, size_below}
use Rattle.arc_series.proofs.pieces.near_zero.Goals as goal

pub returns-then-number-lt0 : goal.returns-then-number-lt0
returns-then-number-lt0 c =
    let f = c.ranges.number in
    let v = simp to_z-of_z at c.unsigned_abs-size.ensures.value in
    let t = simp to_z-of_z at c.if-number-lt0.true in
    let s : c.args.number ≡ neg_ℤ (pos c.unsigned_abs-size.result) =
    rw v (size_below c.args.number (omega (arith, ints, t))) in
    record {
      holds = λ n x d e.
          opposite_span _ _ _ _ _ c.opposite.ensures.low c.opposite.ensures.high
          (c.near.ensures.mirrored n x d (omega (arith, ints, s, t))
          (opposite_same x c.args.number c.unsigned_abs-size.result e s));
      thin = c.opposite.ensures.thin c.near.ensures.thin;
    }
