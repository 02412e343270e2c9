use Rattle.std.proofs.Common.{rules, arith, SFits, to_z, ◌^◌, ◌<◌, ◌≡◌, ◌+ℤ◌, length}
use Rattle.std.specs.Int.{w128}
use Rattle.std.proofs.lemmas.Int.{ints, to_z-of_z}
use Rattle.periodic_terms.proofs.TermSums.{none_around, item_around, all_around, row_is, small_row}
use Rattle.periodic_terms.proofs.term_sums.sum_at.Goals as goal

pub loop-row-init : goal.loop-row-init
loop-row-init g c = (
  λ w u term none d k t. none_around w u c.args.turns.now g.T.MultipleRow.row_of term none c.args.rows.now,
  omega (arith, ints),
  omega
      (arith, ints),
)

pub row_at-sum-requires : goal.row_at-sum-requires
row_at-sum-requires g c =
    record {
      small = small_row g.T.MultipleRow.row_of c.args.rows.now c.loop-row.row-index c.row-item.result c.row.result
          c.requires.small
          c.loop-row-test.true c.row.ensures.value c.row-item.is;
    }

pub loop-row-preserved : goal.loop-row-preserved
loop-row-preserved g c =
    let fr : SFits w128 c.row_at-sum.result.0 = search rules in
    let i = c.loop-row.invariant in
    let few : c.loop-row.row-index < 2 ^ 6 = omega (arith, c.loop-row-test.true, c.requires.few) in
    let l = c.row_at-sum.ensures.low in
    let u = c.row_at-sum.ensures.high in
    let fs : SFits w128 (to_z w128 c.loop-row.sum-bits +ℤ c.row_at-sum.result.0) =
    omega (arith, ints, i.1, i.2, few, l, u) in
    let h = c.row_at-sum.ensures.holds in
    simp to_z-of_z (
      λ v n term none d a t. item_around v n c.args.turns.now g.T.MultipleRow.row_of term none c.args.rows.now
          c.loop-row.row-index _
          c.row_at-sum.result.0 c.row.result c.loop-row-test.true
          (row_is g.T.MultipleRow.row_of c.args.rows.now c.loop-row.row-index none c.row-item.result
          c.row.result c.loop-row-test.true c.row.ensures.value c.row-item.is) t (λ x k. h v n x d a k)
          (i.0 v n term none d a t),
      omega (arith, ints, i.1, l),
      omega (arith, ints, i.2, u),
    )

pub returns-clause-holds : goal.returns-clause-holds
returns-clause-holds g c =
    λ w u term none d k t.
    let e : c.loop-row.row-index ≡ length c.args.rows.now =
    omega (arith, c.loop-row.auto.row-index-end, c.loop-row-test.false) in
    all_around w u c.args.turns.now g.T.MultipleRow.row_of term none c.args.rows.now c.loop-row.row-index _ e
    (c.loop-row.invariant.0 w u term none d k t)
