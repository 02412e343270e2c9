use Rattle.std.proofs.Common.{refl, arith, pos, neg_ℤ, ◌+◌, ◌*◌, ◌^◌}
use Rattle.std.proofs.lemmas.Int.{ints}
use Rattle.book_model.proofs.Intervals.{within_trans}
use Rattle.book_model.specs.sky.Distance.{distance_term_of}
use Rattle.book_model.specs.sky.Moon.{no_term}
use Rattle.periodic_terms.specs.declared.tables.TheConstants.{DISTANCE_SUMS}
use Rattle.periodic_terms.proofs.Narrowing.{endpoints_within}
use Rattle.periodic_terms.proofs.TableRows.{few_rows, distance_few, distance_small, distance_sums, distance_terms}
use Rattle.periodic_terms.proofs.TermSpans.{most_less}
use Rattle.periodic_terms.proofs.tables.distance_sum.Goals as goal

pub sum_of_rows-requires : goal.sum_of_rows-requires
sum_of_rows-requires c = record {
  few = few_rows _ 60 refl (omega arith);
  small = distance_small;
  sums = distance_sums;
  few_sums = distance_few;
}

pub returns : goal.returns
returns c = record {
  holds = λ w a d k. within_trans (c.sum_of_rows.ensures.holds w 0 (distance_term_of a) no_term d
      (distance_terms w a c.args.turns.now k)) c.span_of.ensures.holds;
  narrow = λ v h.
      let w = c.sum_of_rows.ensures.narrow v h in
      let l = c.sum_of_rows.ensures.least in
      let u = c.sum_of_rows.ensures.greatest in
      let m = most_less c.args.turns.now.factors DISTANCE_SUMS in
      let p = c.span_of.ensures.low in
      let q = c.span_of.ensures.high in
      let d = c.span_of.ensures.close in
      endpoints_within (neg_ℤ (pos (29900000 * 2 ^ 32))) (pos (29900000 * 2 ^ 32)) (962000 * v + 2 ^ 50) _ _
      c.span_of.result.ordered (omega (arith, ints, p, l, m)) (omega (arith, ints, q, u, m))
      (omega (arith, ints, d, w));
}
