use Rattle.std.proofs.Common.{◌≡◌, subst, arith, pos, neg_ℤ, ◌≤ℤ◌}
use Rattle.std.proofs.lemmas.Int.{ints, to_z-of_z}
use Rattle.book_model.specs.numbers.Arcs.{arc_above, arc_beyond}
use Rattle.arc_series.specs.Forms.{begin_56, end_56}
use Rattle.arc_series.proofs.PieceArcs.{mirrored_held, size_below, size_above}
use Rattle.arc_series.proofs.pieces.arc.Goals as goal

pub returns-in-FarBelow : goal.returns-in-FarBelow
returns-in-FarBelow c =
    let f = c.ranges.number in
    let v = simp to_z-of_z at c.unsigned_abs.ensures.value in
    let t = subst (λ p. c.args.number ≤ℤ end_56 p) c.in-FarBelow.is c.requires.to in
    let s : c.args.number ≡ neg_ℤ (pos c.unsigned_abs.result) = rw v (size_below c.args.number (omega (arith, ints, t)))
    in
    rw c.in-FarBelow.is (record {
      holds = λ n x d e. mirrored_held arc_beyond n c.unsigned_abs.result x c.args.number _ _ _ _ c.beyond.ensures.holds
          d e s
          c.opposite.ensures.low c.opposite.ensures.high;
      thin = c.opposite.ensures.thin c.beyond.ensures.thin;
    })

pub returns-in-Below : goal.returns-in-Below
returns-in-Below c =
    let f = c.ranges.number in
    let v = simp to_z-of_z at c.unsigned_abs-in-Below.ensures.value in
    let t = subst (λ p. c.args.number ≤ℤ end_56 p) c.in-Below.is c.requires.to in
    let s : c.args.number ≡ neg_ℤ (pos c.unsigned_abs-in-Below.result) =
    rw v (size_below c.args.number (omega (arith, ints, t))) in
    rw c.in-Below.is (record {
      holds = λ n x d e. mirrored_held arc_above n c.unsigned_abs-in-Below.result x c.args.number _ _ _ _
          c.above.ensures.holds d e s
          c.opposite-in-Below.ensures.low c.opposite-in-Below.ensures.high;
      thin = c.opposite-in-Below.ensures.thin c.above.ensures.thin;
    })

pub returns-in-Near : goal.returns-in-Near
returns-in-Near c =
    let f = c.ranges.number in let h = simp to_z-of_z at c.near_zero.ensures.holds in
    rw c.in-Near.is (record { holds = h; thin = c.near_zero.ensures.thin })

pub returns-in-Above : goal.returns-in-Above
returns-in-Above c =
    let f = c.ranges.number in
    let v = simp to_z-of_z at c.unsigned_abs-in-Above.ensures.value in
    let t = subst (λ p. begin_56 p ≤ℤ c.args.number) c.in-Above.is c.requires.from in
    let s : c.args.number ≡ pos c.unsigned_abs-in-Above.result =
    rw v (size_above c.args.number (omega (arith, ints, t))) in
    rw c.in-Above.is (record { holds = rw s c.above-in-Above.ensures.holds; thin = c.above-in-Above.ensures.thin })

pub returns-in-FarAbove : goal.returns-in-FarAbove
returns-in-FarAbove c =
    let f = c.ranges.number in
    let v = simp to_z-of_z at c.unsigned_abs-in-FarAbove.ensures.value in
    let t = subst (λ p. begin_56 p ≤ℤ c.args.number) c.in-FarAbove.is c.requires.from in
    let s : c.args.number ≡ pos c.unsigned_abs-in-FarAbove.result =
    rw v (size_above c.args.number (omega (arith, ints, t))) in
    rw c.in-FarAbove.is
    (record { holds = rw s c.beyond-in-FarAbove.ensures.holds; thin = c.beyond-in-FarAbove.ensures.thin })
