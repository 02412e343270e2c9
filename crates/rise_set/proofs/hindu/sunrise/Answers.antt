use Rattle.std.proofs.Common.{rules, arith, pos, ◌+ℤ◌, ◌-ℤ◌, SFits, w64, ◌*◌, ◌^◌}
use Rattle.std.proofs.lemmas.Int.{to_z-of_z, ints}
use Rattle.std.proofs.lemmas.Result.{err_from_is_err_and}
use Rattle.book_model.specs.sky.Facts.{at_depth}
use Rattle.book_model.specs.sky.Horizon.{sunrise_of}
use Rattle.book_model.proofs.Leads.{leads_on, leads_bind_exact, leads_answer, leaf_within}
use Rattle.rise_set.proofs.Places.{ujjain_is_narrow, sunrise_within}
use Rattle.rise_set.proofs.Sunrises.{rounded_minutes_near, days_within}
use Rattle.rise_set.proofs.SkyDays.{sunrise_near, recent_found}
use Rattle.rise_set.proofs.hindu.sunrise.Goals as goal

pub returns-clause-leads : goal.returns-clause-leads
unfolding sunrise_of
returns-clause-leads g c = λ w d.
    let f : SFits w64 c.args.day = c.ranges.day in
    let m : SFits w64 c.in_ok-minutes.minutes = search rules in
    let l = simp to_z-of_z at (c.in_ok-rising.ensures.leads w _ (c.from_frac.ensures.encloses.holds w d)) in
    let n = simp to_z-of_z at (c.in_ok-minutes.ensures.leads w _ (leaf_within l)) in
    let y = simp to_z-of_z at (c.days.ensures.encloses.holds w d) in
    leads_on _ l (leads_bind_exact _ n (leads_answer (c.universal.ensures.holds w _ y)))

pub returns-clause-measured : goal.returns-clause-measured
returns-clause-measured g c = λ e.
    let shown = g.E.Enclosure.shown in
    let f : SFits w64 c.args.day = c.ranges.day in
    let m : SFits w64 c.in_ok-minutes.minutes = search rules in
    let d = sunrise_within shown _ c.from_frac.result e (λ r. c.from_frac.ensures.encloses.narrow r) in
    let rises = simp to_z-of_z at c.in_ok-rising.ensures.measured in
    let t = rises ujjain_is_narrow d c.requires.day e in
    let rounds = simp to_z-of_z at c.in_ok-minutes.ensures.leads in
    let n = rounded_minutes_near shown g.E.Enclosure.proper (17 * 2 ^ 28) c.args.day c.in_ok-minutes.minutes
    c.in_ok-rising.rising _ _ t rounds in
    let narrow = simp to_z-of_z at c.days.ensures.encloses.narrow in
    c.universal.ensures.measured ujjain_is_narrow.place (2 ^ 8) e
    (days_within shown _ c.in_ok-minutes.minutes c.days.result e n narrow)

pub returns-in_err-rising-clause-measured : goal.returns-in_err-rising-clause-measured
returns-in_err-rising-clause-measured g c = λ e.
    let f : SFits w64 c.args.day = c.ranges.day in
    let d = sunrise_within g.E.Enclosure.shown _ c.from_frac.result e (λ r. c.from_frac.ensures.encloses.narrow r) in
    let rises = simp to_z-of_z at c.in_err-rising.ensures.measured in
    let fails = err_from_is_err_and c.from_residual.result c.from_residual.ensures.1 in
    rw (fails.1, fails.2) (rises ujjain_is_narrow d c.requires.day e)

pub returns-in_err-minutes-clause-measured : goal.returns-in_err-minutes-clause-measured
returns-in_err-minutes-clause-measured g c = λ e.
    let f : SFits w64 c.args.day = c.ranges.day in
    let d = sunrise_within g.E.Enclosure.shown _ c.from_frac.result e (λ r. c.from_frac.ensures.encloses.narrow r) in
    let rises = simp to_z-of_z at c.in_ok-rising.ensures.measured in
    let fails = err_from_is_err_and c.from_residual-in_err-minutes.result c.from_residual-in_err-minutes.ensures.1 in
    rw (fails.1, fails.2) (c.in_err-minutes.ensures.close e (rises ujjain_is_narrow d c.requires.day e))

pub returns-clause-recent : goal.returns-clause-recent
returns-clause-recent g c = λ k e.
    recent_found g.E.Enclosure.shown (at_depth 40) (5 * 2 ^ 8) (c.args.day -ℤ pos 25) (c.args.day +ℤ pos 38)
    (sunrise_of c.args.day) c.universal.result
    (omega arith) (omega (arith, ints, k)) (sunrise_near (at_depth 40) c.args.day)
    (returns-clause-leads g c (at_depth 40) (omega arith)) (returns-clause-measured g c e)

pub returns-in_err-rising-clause-recent : goal.returns-in_err-rising-clause-recent
returns-in_err-rising-clause-recent g c = λ k e.
    let f : SFits w64 c.args.day = c.ranges.day in
    let d = sunrise_within g.E.Enclosure.shown _ c.from_frac.result e (λ r. c.from_frac.ensures.encloses.narrow r) in
    let rises = simp to_z-of_z at c.in_err-rising.ensures.measured in
    let fails = err_from_is_err_and c.from_residual.result c.from_residual.ensures.1 in
    rw (fails.1, fails.2) (rises ujjain_is_narrow d c.requires.day e)

pub returns-in_err-minutes-clause-recent : goal.returns-in_err-minutes-clause-recent
returns-in_err-minutes-clause-recent g c = λ k e.
    let f : SFits w64 c.args.day = c.ranges.day in
    let d = sunrise_within g.E.Enclosure.shown _ c.from_frac.result e (λ r. c.from_frac.ensures.encloses.narrow r) in
    let rises = simp to_z-of_z at c.in_ok-rising.ensures.measured in
    let fails = err_from_is_err_and c.from_residual-in_err-minutes.result c.from_residual-in_err-minutes.ensures.1 in
    rw (fails.1, fails.2) (c.in_err-minutes.ensures.close e (rises ujjain_is_narrow d c.requires.day e))
