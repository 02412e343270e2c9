use Rattle.std.proofs.Common.{refl, arith, pos, neg_ℤ, ◌+◌, ◌/◌, ◌^◌}
use Rattle.std.proofs.lemmas.Int.{ints}
use Rattle.book_model.proofs.Intervals.{within_trans}
use Rattle.book_model.specs.sky.NewMoons.{new_moon_term_of, no_new_moon_term}
use Rattle.periodic_terms.specs.declared.tables.TheConstants.{NEW_MOON_SUMS}
use Rattle.periodic_terms.proofs.Narrowing.{endpoints_within}
use Rattle.periodic_terms.proofs.TableRows.{few_rows, new_moon_few, new_moon_small, new_moon_sums, new_moon_terms}
use Rattle.periodic_terms.proofs.TermSpans.{most_less}
use Rattle.periodic_terms.proofs.tables.new_moon_sum.Goals as goal

pub sum_of_rows-requires : goal.sum_of_rows-requires
sum_of_rows-requires c = record {
  few = few_rows _ 24 refl (omega arith);
  small = new_moon_small;
  sums = new_moon_sums;
  few_sums = new_moon_few;
}

pub returns : goal.returns
returns c = record {
  holds = λ w e a d k. within_trans (c.sum_of_rows.ensures.holds w 99999 (new_moon_term_of a) no_new_moon_term d
      (new_moon_terms w e a c.args.turns.now k)) c.span_of_parts.ensures.holds;
  narrow = λ v h.
      let w = c.sum_of_rows.ensures.narrow v h in
      let l = c.sum_of_rows.ensures.least in
      let u = c.sum_of_rows.ensures.greatest in
      let m = most_less c.args.turns.now.factors NEW_MOON_SUMS in
      let p = c.span_of_parts.ensures.low in
      let q = c.span_of_parts.ensures.high in
      let d = c.span_of_parts.ensures.close in
      endpoints_within (neg_ℤ (pos (2 ^ 32))) (pos (2 ^ 32)) (v / 64 + 2 ^ 27) _ _ c.span_of_parts.result.ordered
      (omega (arith, ints, p, l, m)) (omega (arith, ints, q, u, m))
      (omega (arith, ints, d, w));
}
