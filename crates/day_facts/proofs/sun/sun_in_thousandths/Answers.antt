use Rattle.std.proofs.lemmas.Result.{err_from_is_err_and}
use Rattle.std.proofs.Common.{SFits, w64, arith, ◌+◌, ◌*◌, ◌^◌}
use Rattle.std.proofs.lemmas.Int.{to_z-of_z}
use Rattle.std.proofs.lemmas.Result.{IfErr-weaker}
use Rattle.book_model.specs.sky.Kinds.{sun_in_thousandths_of}
use Rattle.book_model.proofs.Leads.{leads_on, leaf_within}
use Rattle.day_facts.proofs.DayLemmas.{sun_is_value, day_not_of_year, round_not_of_year}
use Rattle.moon_core.proofs.QuarterWidths.{whole_moment}
use Rattle.day_facts.proofs.Measured.{fact_day, small_day, thousandths_within}
use Rattle.day_facts.proofs.sun.sun_in_thousandths.Goals as goal

pub returns-clause-leads : goal.returns-clause-leads
unfolding sun_in_thousandths_of
returns-clause-leads g c = λ w d.
    let f : SFits w64 c.args.day = c.ranges.day in
    let i = simp to_z-of_z at (c.from_int.ensures.encloses.holds w d) in
    let l = c.in_ok-degrees.ensures.leads w _ i in
    leads_on _ l (c.floor_step.ensures.leads w _ (c.mul_frac.ensures.encloses.holds w _ (leaf_within l)))

pub returns-clause-value : goal.returns-clause-value
returns-clause-value g c = sun_is_value c.args.day _ _ _ (returns-clause-leads g c)

pub returns-clause-early : goal.returns-clause-early
returns-clause-early g c = λ p q. IfErr-weaker c.floor_step.result _ _ (λ f o. round_not_of_year _ f o)
    c.floor_step.ensures.open

pub returns-in_err-degrees-clause-early : goal.returns-in_err-degrees-clause-early
returns-in_err-degrees-clause-early g c = λ p q.
    let f : SFits w64 c.args.day = c.ranges.day in
    let n = simp to_z-of_z at c.from_int.ensures.encloses.narrow in
    let fails = err_from_is_err_and c.from_residual.result c.from_residual.ensures.1 in
    rw (fails.1, fails.2) (day_not_of_year g.E.Enclosure.shown _ c.args.day c.from_int.result _ p q c.requires.day n
    c.in_err-degrees.ensures.open)

pub returns-clause-close : goal.returns-clause-close
returns-clause-close g c = λ e.
    let shown = g.E.Enclosure.shown in
    let f : SFits w64 c.args.day = c.ranges.day in
    let i = whole_moment shown _ c.args.day c.from_int.result e (small_day _ (fact_day _ c.requires.day))
    (simp to_z-of_z at c.from_int.ensures.encloses.narrow) in
    let s = c.in_ok-degrees.ensures.measured 0 e (omega arith) i in
    c.floor_step.ensures.close (1000 * (2 * 0 + 2 ^ 32) + 2 ^ 9) (omega arith)
    (thousandths_within shown _ (2 * 0 + 2 ^ 32) c.in_ok-degrees.degrees e s c.mul_frac.result
    (λ r x. c.mul_frac.ensures.encloses.narrow r x))

pub returns-in_err-degrees-clause-close : goal.returns-in_err-degrees-clause-close
returns-in_err-degrees-clause-close g c = λ e.
    let shown = g.E.Enclosure.shown in
    let f : SFits w64 c.args.day = c.ranges.day in
    let i = whole_moment shown _ c.args.day c.from_int.result e (small_day _ (fact_day _ c.requires.day))
    (simp to_z-of_z at c.from_int.ensures.encloses.narrow) in
    let fails = err_from_is_err_and c.from_residual.result c.from_residual.ensures.1 in
    rw (fails.1, fails.2) (c.in_err-degrees.ensures.measured 0 e (omega arith) i)
