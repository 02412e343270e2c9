use Rattle.book_model.proofs.Intervals.{within_trans}
use Rattle.book_model.specs.numbers.Relations.{Lies}
use Rattle.periodic_terms.proofs.Narrowing.{anywhere}
use Rattle.periodic_terms.proofs.tables.other_terms.Goals as goal

pub returns-in-Some : goal.returns-in-Some
unfolding Lies
returns-in-Some g c = record {
  holds = λ w a deep h.
      let t = c.in-Some.ensures.holds w a h in
      record { deep = deep; inside = within_trans (c.other_sum.ensures.holds w a deep t) c.from_span.ensures.holds };
}

pub returns-in-None : goal.returns-in-None
returns-in-None g c = record { holds = λ w a deep h. anywhere c.whole.ensures.all deep }
