use Rattle.std.proofs.Common.{arith, ◌+◌, ◌-◌, ◌*◌, ◌^◌}
use Rattle.book_model.specs.sky.Sun.{sun_from_of}
use Rattle.book_model.proofs.Leads.{leads_on, leaf_within}
use Rattle.angle_search.proofs.Measured.{moment_wider}
use Rattle.sun_core.proofs.PassageWidths.{forward_within, passage_measured}
use Rattle.sun_core.proofs.passages.sun_from_again.Goals as goal

pub returns-clause-leads : goal.returns-clause-leads
unfolding sun_from_of
returns-clause-leads g c = λ w l x h k i.
    let s = c.in_ok-short.ensures.leads w l x h i in
    leads_on _ s (c.passage_about.ensures.leads w l x _ h k (c.moved_on.ensures.encloses.holds w _ x (leaf_within s) k))

pub returns-clause-measured : goal.returns-clause-measured
returns-clause-measured g c = λ v e b h k i l.
    let shown = g.E.Enclosure.shown in
    let s = c.in_ok-short.ensures.measured (2 * v + 2 ^ 32) e (omega (arith, b)) h l in
    let a = forward_within shown _ v c.args.t c.in_ok-short.short c.moved_on.result e i k s
    (λ r p q. c.moved_on.ensures.encloses.narrow r p q) in
    passage_measured shown v c.passage_about.result (c.passage_about.ensures.measured (4 * v + (2 ^ 33 - 2 ^ 24)) e
    (omega (arith, b)) h
    (moment_wider v (4 * v + (2 ^ 33 - 2 ^ 24)) _ (omega arith) k) a)
