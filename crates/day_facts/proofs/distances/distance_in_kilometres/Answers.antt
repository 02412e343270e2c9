use Rattle.std.proofs.lemmas.Result.{err_from_is_err_and}
use Rattle.std.proofs.Common.{SFits, w64, arith, ◌+◌, ◌*◌, ◌^◌}
use Rattle.std.proofs.lemmas.Int.{to_z-of_z, ints}
use Rattle.book_model.proofs.Leads.{leads_on, leaf_within}
use Rattle.encl_core.proofs.Measuring.{looser}
use Rattle.moon_core.proofs.QuarterWidths.{whole_moment}
use Rattle.day_facts.proofs.DayLemmas.{day_not_of_year}
use Rattle.day_facts.proofs.DistanceValues.{distance_is_value}
use Rattle.day_facts.proofs.Measured.{fact_day, small_day}
use Rattle.day_facts.proofs.distances.distance_in_kilometres.Goals as goal

pub returns-clause-leads : goal.returns-clause-leads
returns-clause-leads g c = λ w d.
    let f : SFits w64 c.args.day = c.ranges.day in
    let i = simp to_z-of_z at (c.from_int.ensures.encloses.holds w d) in
    let l = c.in_ok-kilometres.ensures.leads w _ i in
    leads_on _ l (c.rounded.ensures.leads w _ (leaf_within l))

pub returns-clause-value : goal.returns-clause-value
returns-clause-value g c = distance_is_value c.args.day _ _ _ (returns-clause-leads g c)

pub returns-in_err-kilometres-clause-early : goal.returns-in_err-kilometres-clause-early
returns-in_err-kilometres-clause-early g c = λ p q.
    let f : SFits w64 c.args.day = c.ranges.day in
    let n = simp to_z-of_z at c.from_int.ensures.encloses.narrow in
    let fails = err_from_is_err_and c.from_residual.result c.from_residual.ensures.1 in
    rw (fails.1, fails.2) (day_not_of_year g.E.Enclosure.shown _ c.args.day c.from_int.result _ p q c.requires.day n
    c.in_err-kilometres.ensures.open)

pub returns-clause-close : goal.returns-clause-close
returns-clause-close g c = λ e.
    let shown = g.E.Enclosure.shown in
    let f : SFits w64 c.args.day = c.ranges.day in
    let i = whole_moment shown _ c.args.day c.from_int.result e (small_day _ (fact_day _ c.requires.day))
    (simp to_z-of_z at c.from_int.ensures.encloses.narrow) in
    let k = c.in_ok-kilometres.ensures.measured 0 e (omega arith) i in
    c.rounded.ensures.close (2 ^ 42) e (omega arith)
    (looser _ _ _ _ (16384 * 0 + 2 ^ 42) (2 ^ 42) (shown c.in_ok-kilometres.kilometres) (omega (arith, ints))
    (omega (arith, ints)) (omega arith) k)

pub returns-in_err-kilometres-clause-close : goal.returns-in_err-kilometres-clause-close
returns-in_err-kilometres-clause-close g c = λ e.
    let shown = g.E.Enclosure.shown in
    let f : SFits w64 c.args.day = c.ranges.day in
    let i = whole_moment shown _ c.args.day c.from_int.result e (small_day _ (fact_day _ c.requires.day))
    (simp to_z-of_z at c.from_int.ensures.encloses.narrow) in
    let fails = err_from_is_err_and c.from_residual.result c.from_residual.ensures.1 in
    rw (fails.1, fails.2) (c.in_err-kilometres.ensures.measured 0 e (omega arith) i)
