use Rattle.std.proofs.Common.{rules, arith, refl, SFits, ◌+ℤ◌, ◌-ℤ◌}
use Rattle.std.specs.Int.{w128}
use Rattle.std.proofs.lemmas.Int.{ints, to_z-of_z}
use Rattle.periodic_terms.proofs.SpansByTime.{span_holds, sum_is_narrow}
use Rattle.periodic_terms.proofs.spans_by_time.near_sum.Goals as goal

pub returns : goal.returns
returns c =
    let fm : SFits w128 c.in_ok-middle.middle.count = search rules in
    let fs : SFits w128 c.sum_at-sum.result.0 = search rules in
    let fr : SFits w128 c.radius-radius.result.0 = search rules in
    let n = c.in_ok-width.ensures.near in
    let v = c.in_ok-width.ensures.half in
    let h = c.sum_at-sum.ensures.holds in
    let l = c.sum_at-sum.ensures.low in
    let u = c.sum_at-sum.ensures.high in
    let p = c.radius-radius.ensures.low in
    let q = c.radius-radius.ensures.high in
    let g1 : SFits w128 (c.sum_at-sum.result.0 -ℤ c.radius-radius.result.0) = omega (arith, ints, l, u, p, q) in
    let g2 : SFits w128 (c.sum_at-sum.result.0 +ℤ c.radius-radius.result.0) = omega (arith, ints, l, u, p, q) in
    record {
      holds = simp to_z-of_z (λ w x vs d t r k.
          span_holds vs c.in_ok-width.width.0 c.args.slope c.args.sizes _ c.sum_at-sum.result.0
          c.radius-radius.result.0 _
          _ r
          c.radius-radius.ensures.enough refl refl
          (h w x vs c.in_ok-width.width.0 c.args.days.lo c.args.days.hi d t n k));
      narrow = simp to_z-of_z (sum_is_narrow c.in_ok-width.width.0 c.args.slope c.args.sizes c.args.days.lo
          c.args.days.hi
          c.sum_at-sum.result.0
          c.radius-radius.result.0 _ _ v c.radius-radius.ensures.close refl refl);
      some = λ k. refl;
    }
