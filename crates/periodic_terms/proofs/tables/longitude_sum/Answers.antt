use Rattle.std.proofs.Common.{refl, arith, pos, neg_ℤ, ◌+◌, ◌*◌, ◌^◌}
use Rattle.std.proofs.lemmas.Int.{ints}
use Rattle.book_model.proofs.Intervals.{within_trans}
use Rattle.book_model.specs.sky.Moon.{longitude_term_of, no_term}
use Rattle.book_model.specs.declared.moon_tables.TheConstants.{MOON_TERMS}
use Rattle.periodic_terms.specs.declared.tables.TheConstants.{LONGITUDE_SUMS}
use Rattle.periodic_terms.proofs.Narrowing.{endpoints_within}
use Rattle.periodic_terms.proofs.TableRows.{few_rows, longitude_few, longitude_small, longitude_sums, longitude_terms}
use Rattle.periodic_terms.proofs.TermSpans.{most_less}
use Rattle.periodic_terms.proofs.tables.longitude_sum.Goals as goal

pub sum_of_rows-requires : goal.sum_of_rows-requires
sum_of_rows-requires c = record {
  few = few_rows _ 60 refl (omega arith);
  small = longitude_small;
  sums =
      longitude_sums;
  few_sums = longitude_few;
}

pub returns : goal.returns
returns c = record {
  holds = λ w a d k. within_trans (c.sum_of_rows.ensures.holds w 0 (longitude_term_of a) no_term d
      (longitude_terms w a c.args.turns.now MOON_TERMS k)) c.span_of.ensures.holds;
  narrow = λ v h.
      let w = c.sum_of_rows.ensures.narrow v h in
      let l = c.sum_of_rows.ensures.least in
      let u = c.sum_of_rows.ensures.greatest in
      let m = most_less c.args.turns.now.factors LONGITUDE_SUMS in
      let p = c.span_of.ensures.low in
      let q = c.span_of.ensures.high in
      let d = c.span_of.ensures.close in
      endpoints_within (neg_ℤ (pos (9300000 * 2 ^ 32))) (pos (9300000 * 2 ^ 32)) (302000 * v + 2 ^ 49) _ _
      c.span_of.result.ordered (omega (arith, ints, p, l, m)) (omega (arith, ints, q, u, m))
      (omega (arith, ints, d, w));
}
