use Rattle.std.proofs.Common.{◌^◌, refl}
use Rattle.book_model.proofs.Intervals.{within_trans}
use Rattle.book_model.specs.numbers.Relations.{Lies}
use Rattle.periodic_terms.proofs.EnclosedSums.{known_and_kept, sum_measured, not_everything}
use Rattle.periodic_terms.proofs.by_time.sum_of_periodic_terms.Goals as goal

pub returns-in-Some-clause-holds : goal.returns-in-Some-clause-holds
unfolding Lies
returns-in-Some-clause-holds g c = λ w x vs t r h. record {
  deep = h.deep;
  inside =
      within_trans (c.sum_over.ensures.holds w x vs h.deep t r (within_trans h.inside c.in-Some.ensures.holds))
      c.from_span.ensures.holds;
}

pub returns-in-Some-clause-measured : goal.returns-in-Some-clause-measured
returns-in-Some-clause-measured g c = λ v e b h.
    let s = c.in-Some.span in
    let o = c.sum_over.result in
    let k = known_and_kept v (g.E.Enclosure.shown c.args.days) s.lo s.hi b s.ordered c.in-Some.ensures.holds
    c.in-Some.ensures.tight h in
    sum_measured c.args.slope c.args.sizes v s.lo s.hi o.lo o.hi c.requires.sizes k.1 (c.sum_over.ensures.narrow k.0)
    o.ordered
    g.E.Enclosure.shown g.E.Enclosure.BITS c.from_span.result e c.from_span.ensures.narrow

pub returns-in-None-clause-holds : goal.returns-in-None-clause-holds
unfolding Lies
returns-in-None-clause-holds g c = λ w x vs t r h. record {
  deep = h.deep;
  inside =
      within_trans (c.any_sum.ensures.holds w x vs c.args.slope r) c.from_span-in-None.ensures.holds;
}

pub returns-in-None-clause-measured : goal.returns-in-None-clause-measured
returns-in-None-clause-measured g c = λ v e b h. absurd (not_everything v (2 ^ 52) (g.E.Enclosure.shown c.args.days)
    (c.in-None.ensures.none refl) h)
