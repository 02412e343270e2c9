use Rattle.std.proofs.Common.{rules, arith, SFits, to_z, ◌^◌, ◌<◌, ◌≡◌, ◌+ℤ◌, length}
use Rattle.std.specs.Int.{w128}
use Rattle.std.proofs.lemmas.Int.{ints, to_z-of_z}
use Rattle.periodic_terms.proofs.SumsByTime.{none_around, next_around, all_around}
use Rattle.periodic_terms.proofs.sums_by_time.sum_at.Goals as goal

pub loop-row-init : goal.loop-row-init
loop-row-init c = (λ w x vs width lo hi d t n k. none_around w x vs width, omega (arith, ints), omega (arith, ints))

pub loop-row-preserved : goal.loop-row-preserved
loop-row-preserved c =
    let fm : SFits w128 c.args.days.count = search rules in
    let fr : SFits w128 c.row_at-sum.result.0 = search rules in
    let i = c.loop-row.invariant in
    let few : c.loop-row.row-index < 2 ^ 32 = omega (
      arith,
      c.loop-row-test.true,
      c.loop-row.auto.row-index-end,
      c.requires.few,
    ) in
    let l = c.row_at-sum.ensures.low in
    let u = c.row_at-sum.ensures.high in
    let fs : SFits w128 (to_z w128 c.loop-row.sum-bits +ℤ c.row_at-sum.result.0) =
    omega (arith, ints, i.1, i.2, few, l, u) in
    let h = c.row_at-sum.ensures.holds in
    simp to_z-of_z (
      λ w x vs width lo hi d t n k. next_around w x vs width c.loop-row.row-index _ _ (i.0 w x vs width lo hi d t n k)
          (h w x _ width lo hi d (t.rows c.loop-row.row-index
          (omega (arith, c.loop-row-test.true, c.loop-row.auto.row-index-end)) _) n k),
      omega (arith, ints, i.1, l),
      omega (arith, ints, i.2, u),
    )

pub returns-clause-holds : goal.returns-clause-holds
returns-clause-holds c =
    let i = c.loop-row.invariant in
    λ w x vs width lo hi d t n k.
    let e : c.loop-row.row-index ≡ length c.args.rows.now =
    omega (arith, c.loop-row.auto.row-index-end, c.loop-row-test.false) in
    all_around w x vs width c.loop-row.row-index _ (omega (arith, e, t.count)) (i.0 w x vs width lo hi d t n k)
