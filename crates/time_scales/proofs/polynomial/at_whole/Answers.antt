use Rattle.std.proofs.Common.{◌≤◌, arith, ap, ◌*ℤ◌, SFits, w64, to_z}
use Rattle.std.proofs.lemmas.Int.{to_z-of_z}
use Rattle.book_model.proofs.Corrections.{polynomial_more, power_more}
use Rattle.std.specs.Prelude.{unsigned_abs}
use Rattle.time_scales.proofs.WholePowers.{power_fits}
use Rattle.time_scales.proofs.polynomial.at_whole.Goals as goal

pub loop-coefficient-preserved : goal.loop-coefficient-preserved
loop-coefficient-preserved g c =
    let f : SFits w64 c.args.x = c.ranges.x in
    let i = c.loop-coefficient.coefficient-index in
    let q = simp to_z-of_z at c.loop-coefficient.invariant.2 in
    let n = simp to_z-of_z at c.loop-coefficient.invariant.0 in
    let m = simp to_z-of_z at c.loop-coefficient.invariant.1 in
    let s : unsigned_abs c.args.x ≤ 256 = c.requires.small in
    let p : SFits w64 (to_z w64 c.loop-coefficient.power-bits *ℤ c.args.x) = power_fits c.args.x _ i s (omega arith) q
    in (
      λ w d. simp to_z-of_z (rw (polynomial_more c.args.coefficients.now c.args.x i, ← q)
          (c.add-sum.ensures.encloses.holds w _ _ (n w d)
          (c.mul_frac.ensures.encloses.holds w _ (c.from_int.ensures.encloses.holds w d)))),
      λ r. simp to_z-of_z (rw (polynomial_more c.args.coefficients.now c.args.x i, ← q)
          (c.add-sum.ensures.encloses.narrow r _ _ (m r)
          (c.mul_frac.ensures.encloses.narrow r _ (c.from_int.ensures.encloses.narrow r)))),
      simp to_z-of_z (rw (power_more c.args.x i) (ap (λ t. t *ℤ c.args.x) q)),
    )
