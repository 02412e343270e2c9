use Rattle.std.proofs.Common.{refl, arith}
use Rattle.book_model.proofs.Intervals.{within_trans}
use Rattle.book_model.specs.sky.Moon.{longitude_term_of, no_term}
use Rattle.periodic_terms.proofs.TableRows.{few_rows, greatest_few, greatest_small, greatest_sums, greatest_terms}
use Rattle.periodic_terms.proofs.tables.greatest_sum.Goals as goal

pub sum_of_rows-requires : goal.sum_of_rows-requires
sum_of_rows-requires c = record {
  few = few_rows _ 4 refl (omega arith);
  small = greatest_small;
  sums = greatest_sums;
  few_sums = greatest_few;
}

pub returns : goal.returns
returns c = record {
  holds = λ w a d k. within_trans (c.sum_of_rows.ensures.holds w 0 (longitude_term_of a) no_term d
      (greatest_terms w a c.args.turns.now k)) c.span_of.ensures.holds;
}
