use Rattle.std.proofs.lemmas.Result.{err_from_is_err_and}
use Rattle.std.proofs.Common.{rules, SFits, w64, arith, ◌+◌, ◌*◌, ◌^◌}
use Rattle.std.proofs.lemmas.Int.{to_z-of_z}
use Rattle.std.proofs.lemmas.Result.{IfErr-weaker}
use Rattle.book_model.specs.sky.Kinds.{dt_of}
use Rattle.book_model.specs.sky.Correction.{rounded_of}
use Rattle.book_model.proofs.Leads.{leads_on, leads_bind_exact, leads_fail, leaf_within}
use Rattle.day_facts.proofs.DayLemmas.{dt_is_value, round_not_of_year, void_not_of_year}
use Rattle.day_facts.proofs.WidthLemmas.{rounded_narrow, close_round, void_is_close}
use Rattle.day_facts.proofs.Measured.{milliseconds_within}
use Rattle.day_facts.proofs.dt.dt.Goals as goal

pub returns-clause-leads : goal.returns-clause-leads
unfolding dt_of rounded_of
returns-clause-leads g c = λ w d.
    let f : SFits w64 c.args.day = c.ranges.day in
    let y : SFits w64 c.year_of_whole_day-year.result = search rules in
    let l = simp to_z-of_z at (c.in_ok-days.ensures.leads w d) in
    let k = simp to_z-of_z at (c.year_of_whole_day-year.ensures.leads w) in
    leads_bind_exact _ k
    (leads_on _ l (c.floor_step.ensures.leads w _ (c.milliseconds.ensures.holds w _ (leaf_within l))))

pub returns-clause-value : goal.returns-clause-value
returns-clause-value g c = dt_is_value c.args.day _ _ _ c.requires.day (returns-clause-leads g c)

pub returns-clause-units : goal.returns-clause-units
returns-clause-units g c = λ p q.
    let f : SFits w64 c.args.day = c.ranges.day in
    let y : SFits w64 c.year_of_whole_day-year.result = search rules in
    let e = simp to_z-of_z at c.year_of_whole_day-year.ensures.year in
    let n = simp to_z-of_z at (c.in_ok-days.ensures.close p q) in
    let m = rounded_narrow g.E.Enclosure.shown _ _ _ c.milliseconds.result p q n c.milliseconds.ensures.narrow in
    rw (← e) (IfErr-weaker c.floor_step.result _ _ (λ o k. close_round _ _ c.year_of_whole_day-year.result o m k)
    c.floor_step.ensures.open)

pub returns-clause-early : goal.returns-clause-early
returns-clause-early g c = λ p q. IfErr-weaker c.floor_step.result _ _ (λ f o. round_not_of_year _ f o)
    c.floor_step.ensures.open

pub returns-in_err-days-clause-leads : goal.returns-in_err-days-clause-leads
unfolding dt_of rounded_of
returns-in_err-days-clause-leads g c = λ w d.
    let f : SFits w64 c.args.day = c.ranges.day in
    let y : SFits w64 c.year_of_whole_day-year.result = search rules in
    let l = simp to_z-of_z at (c.in_err-days.ensures.leads w d) in
    let k = simp to_z-of_z at (c.year_of_whole_day-year.ensures.leads w) in
    let fails = err_from_is_err_and c.from_residual.result c.from_residual.ensures.1 in
    rw (fails.1, fails.2) (leads_bind_exact _ k (leads_fail _ l))

pub returns-in_err-days-clause-early : goal.returns-in_err-days-clause-early
returns-in_err-days-clause-early g c = λ p q.
    let fails = err_from_is_err_and c.from_residual.result c.from_residual.ensures.1 in
    rw (fails.1, fails.2) (void_not_of_year _ c.in_err-days.ensures.void)

pub returns-in_err-days-clause-units : goal.returns-in_err-days-clause-units
returns-in_err-days-clause-units g c = λ p q.
    let fails = err_from_is_err_and c.from_residual.result c.from_residual.ensures.1 in
    rw (fails.1, fails.2) (void_is_close _ _ _ c.in_err-days.ensures.void)

pub returns-clause-close : goal.returns-clause-close
returns-clause-close g c = λ e.
    let d = c.in_ok-days.ensures.measured e in
    c.floor_step.ensures.close (86400000 * 2 ^ 14 + 2 ^ 10) (omega arith)
    (milliseconds_within g.E.Enclosure.shown _ (2 ^ 14) c.in_ok-days.days c.milliseconds.result e d
    (λ r x. c.milliseconds.ensures.narrow r x))

pub returns-in_err-days-clause-close : goal.returns-in_err-days-clause-close
returns-in_err-days-clause-close g c = λ e.
    let fails = err_from_is_err_and c.from_residual.result c.from_residual.ensures.1 in
    rw (fails.1, fails.2) (c.in_err-days.ensures.measured e)
