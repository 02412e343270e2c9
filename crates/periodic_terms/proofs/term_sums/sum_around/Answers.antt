use Rattle.std.proofs.Common.{rules, arith, SFits, pos, neg_ℤ, ◌^◌, ◌+ℤ◌, ◌-ℤ◌, ◌≤ℤ◌}
use Rattle.std.specs.Int.{w128}
use Rattle.std.proofs.lemmas.Int.{ints, to_z-of_z}
use Rattle.periodic_terms.proofs.TermSpans.{apart_is, sum_inside}
use Rattle.periodic_terms.proofs.term_sums.sum_around.Goals as goal

pub invariant_of-result : goal.invariant_of-result
invariant_of-result g c =
    let fs : SFits w128 c.sum_at-sum.result.0 = search rules in
    let fr : SFits w128 c.radius-radius.result.0 = search rules in
    let r = c.radius-radius.ensures.value in
    let h = c.radius-radius.ensures.high in
    let l = c.sum_at-sum.ensures.low in
    let u = c.sum_at-sum.ensures.high in
    let g1 : SFits w128 (c.sum_at-sum.result.0 -ℤ c.radius-radius.result.0) = omega (arith, ints, l, u, r, h) in
    let g2 : SFits w128 (c.sum_at-sum.result.0 +ℤ c.radius-radius.result.0) = omega (arith, ints, l, u, r, h) in
    let o : (c.sum_at-sum.result.0 -ℤ c.radius-radius.result.0) ≤ℤ (c.sum_at-sum.result.0 +ℤ c.radius-radius.result.0) =
    omega (arith, ints, r) in
    let p : neg_ℤ (pos (2 ^ 126)) ≤ℤ (c.sum_at-sum.result.0 -ℤ c.radius-radius.result.0) = omega (arith, ints, l, h) in
    let q : (c.sum_at-sum.result.0 +ℤ c.radius-radius.result.0) ≤ℤ pos (2 ^ 126) = omega (arith, ints, u, h) in
    record { ordered = simp to_z-of_z o; low = simp to_z-of_z p; high = simp to_z-of_z q }

pub returns : goal.returns
returns g c =
    let fs : SFits w128 c.sum_at-sum.result.0 = search rules in
    let fr : SFits w128 c.radius-radius.result.0 = search rules in
    let r = c.radius-radius.ensures.value in
    let h = c.radius-radius.ensures.high in
    let l = c.sum_at-sum.ensures.low in
    let u = c.sum_at-sum.ensures.high in
    let g1 : SFits w128 (c.sum_at-sum.result.0 -ℤ c.radius-radius.result.0) = omega (arith, ints, l, u, r, h) in
    let g2 : SFits w128 (c.sum_at-sum.result.0 +ℤ c.radius-radius.result.0) = omega (arith, ints, l, u, r, h) in
    record {
      holds = simp to_z-of_z (λ w n term none d k t.
          sum_inside n c.args.turns.now _ c.sum_at-sum.result.0 c.radius-radius.result.0 _ _ (c.requires.sums none) r
          (c.sum_at-sum.ensures.holds w n term none d k t));
      wide = simp to_z-of_z (apart_is c.sum_at-sum.result.0 c.radius-radius.result.0 _ r);
    }
