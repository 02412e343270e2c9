use Rattle.std.proofs.lemmas.Result.{err_from_is_err_and}
use Rattle.book_model.specs.numbers.Expressions.{argument}
use Rattle.book_model.specs.sky.Phases.{phase_before_of}
use Rattle.book_model.proofs.Early.{phase_past_least, three_made}
use Rattle.book_model.proofs.Leads.{leads_on, leaf_within}
use Rattle.sun_core.proofs.Worlds.{world_of_two, within_first, within_second}
use Rattle.sun_core.proofs.UndecidedTests.{late_failure}
use Rattle.std.proofs.Common.{arith, ◌+◌, ◌-◌, ◌*◌, ◌^◌}
use Rattle.sun_core.proofs.SearchMeasured.{moment_wider}
use Rattle.moon_core.proofs.QuarterWidths.{back_within, passage_measured}
use Rattle.moon_core.proofs.quarters.phase_before_by.Goals as goal

pub returns-clause-leads : goal.returns-clause-leads
unfolding phase_before_of
returns-clause-leads g c = λ w f x h k.
    let l = c.in_ok-past.ensures.leads w f x h k in
    leads_on _ l (c.phase_about.ensures.leads w f x _ h k (c.phase_back.ensures.encloses.holds w _ x (leaf_within l) k))

pub returns-clause-early : goal.returns-clause-early
returns-clause-early g c = λ z.
    let shown = g.E.Enclosure.shown in
    let p = g.E.Enclosure.proper in
    let w = world_of_two (shown c.args.t) (shown c.args.p) (p c.args.t) (p c.args.p) in
    let first = within_first shown p c.args.t c.args.p in
    let second = within_second shown p c.args.t c.args.p in
    let l = c.in_ok-past.ensures.leads w (argument 1) (argument 0) second first in
    late_failure (shown c.args.t) c.phase_about.result (three_made w (phase_past_least (argument 1) (argument 0)) z l)
    (c.phase_about.ensures.leads w (argument 1) (argument 0) _ second first
    (c.phase_back.ensures.encloses.holds w _ (argument 0) (leaf_within l) first))

pub returns-clause-measured : goal.returns-clause-measured
returns-clause-measured g c = λ v e b h k.
    let shown = g.E.Enclosure.shown in
    let p = c.in_ok-past.ensures.measured v e (omega (arith, b)) h k in
    let a = back_within shown _ v c.args.t c.in_ok-past.past c.phase_back.result e c.in_ok-past.ensures.in_table k p
    (λ r p q. c.phase_back.ensures.encloses.narrow r p q) in
    passage_measured shown v c.phase_about.result (c.phase_about.ensures.measured (3 * v + (2 ^ 34 - 2 ^ 24)) e
    (omega (arith, b)) h
    (moment_wider v (3 * v + (2 ^ 34 - 2 ^ 24)) _ (omega arith) k) a)

pub returns-in_err-past-clause-measured : goal.returns-in_err-past-clause-measured
returns-in_err-past-clause-measured g c = λ v e b h k.
    let fails = err_from_is_err_and c.from_residual.result c.from_residual.ensures.1 in
    rw (fails.1, fails.2) (c.in_err-past.ensures.measured v e (omega (arith, b)) h k)
