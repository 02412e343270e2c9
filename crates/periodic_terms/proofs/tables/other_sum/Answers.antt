use Rattle.std.proofs.Common.{refl, arith}
use Rattle.book_model.proofs.Intervals.{within_trans}
use Rattle.book_model.specs.sky.Moon.{longitude_term_of, no_term}
use Rattle.periodic_terms.specs.Tables.{other_rows}
use Rattle.periodic_terms.proofs.TableRows.{few_rows, other_few, other_small, other_sums, longitude_terms}
use Rattle.periodic_terms.proofs.tables.other_sum.Goals as goal

pub sum_of_rows-requires : goal.sum_of_rows-requires
sum_of_rows-requires c = record {
  few = few_rows _ 56 refl (omega arith);
  small = other_small;
  sums = other_sums;
  few_sums = other_few;
}

pub returns : goal.returns
returns c = record {
  holds = λ w a d k. within_trans (c.sum_of_rows.ensures.holds w 0 (longitude_term_of a) no_term d
      (longitude_terms w a c.args.turns.now other_rows k)) c.span_of.ensures.holds;
}
