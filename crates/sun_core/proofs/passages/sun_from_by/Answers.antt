use Rattle.std.proofs.Common.{arith, ◌+◌, ◌-◌, ◌*◌, ◌^◌}
use Rattle.book_model.specs.sky.Sun.{sun_from_of}
use Rattle.book_model.proofs.Leads.{leads_on, leaf_within}
use Rattle.angle_search.proofs.Measured.{moment_wider}
use Rattle.sun_core.proofs.PassageWidths.{forward_within, passage_measured}
use Rattle.book_model.specs.numbers.Expressions.{argument}
use Rattle.book_model.proofs.Early.{three_made}
use Rattle.sun_core.proofs.EarlyTests.{short_least}
use Rattle.sun_core.proofs.UndecidedTests.{late_failure}
use Rattle.sun_core.proofs.Worlds.{world_of_two, within_first, within_second}
use Rattle.sun_core.proofs.passages.sun_from_by.Goals as goal

pub returns-clause-leads : goal.returns-clause-leads
unfolding sun_from_of
returns-clause-leads g c = λ w l x h k.
    let s = c.in_ok-short.ensures.leads w l x h k in
    leads_on _ s (c.passage_about.ensures.leads w l x _ h k (c.moved_on.ensures.encloses.holds w _ x (leaf_within s) k))

pub returns-clause-measured : goal.returns-clause-measured
returns-clause-measured g c = λ v e b h k.
    let shown = g.E.Enclosure.shown in
    let s = c.in_ok-short.ensures.measured v e (omega (arith, b)) h k in
    let a = forward_within shown _ v c.args.t c.in_ok-short.short c.moved_on.result e c.in_ok-short.ensures.in_table k s
    (λ r p q. c.moved_on.ensures.encloses.narrow r p q) in
    passage_measured shown v c.passage_about.result (c.passage_about.ensures.measured (4 * v + (2 ^ 33 - 2 ^ 24)) e
    (omega (arith, b)) h
    (moment_wider v (4 * v + (2 ^ 33 - 2 ^ 24)) _ (omega arith) k) a)

pub returns-clause-early : goal.returns-clause-early
returns-clause-early g c = λ z.
    let shown = g.E.Enclosure.shown in
    let p = g.E.Enclosure.proper in
    let w = world_of_two (shown c.args.t) (shown c.args.l) (p c.args.t) (p c.args.l) in
    let first = within_first shown p c.args.t c.args.l in
    let second = within_second shown p c.args.t c.args.l in
    let l = c.in_ok-short.ensures.leads w (argument 1) (argument 0) second first in
    late_failure (shown c.args.t) c.passage_about.result (three_made w (short_least (argument 1) (argument 0)) z l)
    (c.passage_about.ensures.leads w (argument 1) (argument 0) _ second first
    (c.moved_on.ensures.encloses.holds w _ (argument 0) (leaf_within l) first))
