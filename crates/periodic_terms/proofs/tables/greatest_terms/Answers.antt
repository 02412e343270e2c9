use Rattle.book_model.proofs.Intervals.{within_trans}
use Rattle.book_model.specs.numbers.Relations.{Lies}
use Rattle.periodic_terms.proofs.tables.greatest_terms.Goals as goal

pub returns : goal.returns
unfolding Lies
returns g c = record {
  holds = λ w a deep h.
      let t = c.two_turns.ensures.holds w a h in
      record { deep = deep; inside = within_trans (c.greatest_sum.ensures.holds w a deep t) c.from_span.ensures.holds };
}
