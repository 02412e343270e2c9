use Rattle.std.proofs.Common.{refl, arith, pos, neg_ℤ, ◌+◌, ◌*◌, ◌^◌}
use Rattle.std.proofs.lemmas.Int.{ints}
use Rattle.book_model.proofs.Intervals.{within_trans}
use Rattle.book_model.specs.sky.Latitude.{latitude_term_of, no_latitude_term}
use Rattle.periodic_terms.specs.declared.tables.TheConstants.{LATITUDE_SUMS}
use Rattle.periodic_terms.proofs.Narrowing.{endpoints_within}
use Rattle.periodic_terms.proofs.TableRows.{few_rows, latitude_few, latitude_small, latitude_sums, latitude_terms}
use Rattle.periodic_terms.proofs.TermSpans.{most_less}
use Rattle.periodic_terms.proofs.tables.latitude_sum.Goals as goal

pub sum_of_rows-requires : goal.sum_of_rows-requires
sum_of_rows-requires c = record {
  few = few_rows _ 60 refl (omega arith);
  small = latitude_small;
  sums = latitude_sums;
  few_sums = latitude_few;
}

pub returns : goal.returns
returns c = record {
  holds = λ w a d k. within_trans (c.sum_of_rows.ensures.holds w 0 (latitude_term_of a) no_latitude_term d
      (latitude_terms w a c.args.turns.now k)) c.span_of.ensures.holds;
  narrow = λ v h.
      let w = c.sum_of_rows.ensures.narrow v h in
      let l = c.sum_of_rows.ensures.least in
      let u = c.sum_of_rows.ensures.greatest in
      let m = most_less c.args.turns.now.factors LATITUDE_SUMS in
      let p = c.span_of.ensures.low in
      let q = c.span_of.ensures.high in
      let d = c.span_of.ensures.close in
      endpoints_within (neg_ℤ (pos (6100000 * 2 ^ 32))) (pos (6100000 * 2 ^ 32)) (167000 * v + 2 ^ 47) _ _
      c.span_of.result.ordered (omega (arith, ints, p, l, m)) (omega (arith, ints, q, u, m))
      (omega (arith, ints, d, w));
}
