use Rattle.std.proofs.Common.{rules, refl, ap, ◌∙◌, ◌*ℤ◌, SFits, w64}
use Rattle.std.specs.Int.{w128}
use Rattle.std.proofs.lemmas.Int.{to_z-of_z}
use Rattle.book_model.proofs.Exactly.{decimal_zero, decimals_more, exact_none, exact_more}
use Rattle.book_model.proofs.Corrections.{power_none, power_more}
use Rattle.book_model.proofs.plain.exact_polynomial.Goals as goal

pub loop-coefficient-init : goal.loop-coefficient-init
loop-coefficient-init c = (rw (exact_none c.args.coefficients.now _) decimal_zero, rw (power_none _) refl)

pub loop-coefficient-preserved : goal.loop-coefficient-preserved
loop-coefficient-preserved c =
    let f : SFits w64 c.args.x = c.ranges.x in
    let s : SFits w128 c.in_ok-sum.sum = search rules in
    let t : SFits w128 c.in_ok-scaled_term.field-0 = search rules in
    let p : SFits w64 c.in_ok-power.power = search rules in
    let i = c.loop-coefficient.coefficient-index in
    let h = simp to_z-of_z at c.loop-coefficient.invariant.0 in
    let q = simp to_z-of_z at c.loop-coefficient.invariant.1 in
    let k = rw q at c.in_ok-scaled_term.ensures in
    let e = simp to_z-of_z at c.in_ok-sum.ensures.1 in
    let g = simp to_z-of_z at c.in_ok-power.ensures.1 in (
      simp to_z-of_z (rw (exact_more c.args.coefficients.now c.args.x i, e) (decimals_more _ _ _ _ h k)),
      simp to_z-of_z (rw (power_more c.args.x i) (g ∙ ap (λ z. z *ℤ c.args.x) q)),
    )
