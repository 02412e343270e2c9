use Rattle.std.proofs.Common.{refl, pos, neg_ℤ, ◌+◌, ◌*◌, ◌^◌}
use Rattle.book_model.proofs.Intervals.{within_trans}
use Rattle.book_model.specs.numbers.Relations.{Lies}
use Rattle.periodic_terms.proofs.Narrowing.{anywhere, spanned_within}
use Rattle.periodic_terms.proofs.tables.latitude_terms.Goals as goal

pub returns-in-Some-clause-holds : goal.returns-in-Some-clause-holds
unfolding Lies
returns-in-Some-clause-holds g c = λ w a deep h.
    let t = c.in-Some.ensures.holds w a h in
    record { deep = deep; inside = within_trans (c.latitude_sum.ensures.holds w a deep t) c.from_span.ensures.holds }

pub returns-in-None-clause-holds : goal.returns-in-None-clause-holds
returns-in-None-clause-holds g c = λ w a deep h. anywhere c.whole.ensures.all deep

pub returns-in-Some-clause-narrow : goal.returns-in-Some-clause-narrow
returns-in-Some-clause-narrow g c = λ v e l h.
    spanned_within g.E.Enclosure.shown _ (neg_ℤ (pos (6100000 * 2 ^ 32))) (pos (6100000 * 2 ^ 32)) (167000 * v + 2 ^ 47)
    _ c.from_span.result e refl
    (c.latitude_sum.ensures.narrow v (c.in-Some.ensures.narrow v e l h)) c.from_span.ensures.narrow

pub returns-in-None-clause-narrow : goal.returns-in-None-clause-narrow
returns-in-None-clause-narrow g c = λ v e l h. absurd (c.in-None.ensures.narrow v e l h)
