use Rattle.std.proofs.Common.{SFits, w64, arith, pos, ◌+ℤ◌, ◌-ℤ◌, ◌*◌, ◌^◌}
use Rattle.std.proofs.lemmas.Int.{to_z-of_z, ints}
use Rattle.std.proofs.lemmas.Result.{err_from_is_err_and}
use Rattle.book_model.specs.sky.Facts.{at_depth}
use Rattle.book_model.specs.sky.Horizon.{hindu_sunset_of}
use Rattle.book_model.proofs.Leads.{leads_on, leads_fail, leads_answer, leaf_within}
use Rattle.rise_set.specs.Widths.{IsNarrowLocation}
use Rattle.rise_set.proofs.Measured.{mean_local}
use Rattle.rise_set.proofs.Places.{ujjain_is_narrow, setting_within}
use Rattle.rise_set.proofs.SkyDays.{sunset_near, recent_found}
use Rattle.rise_set.proofs.hindu.HinduSunsets.on.Goals as goal

pub returns-clause-leads : goal.returns-clause-leads
unfolding hindu_sunset_of
returns-clause-leads g c = λ w d.
    let f : SFits w64 c.args.day = c.ranges.day in
    let l = rw c.self.invariant.0 at (simp to_z-of_z at (c.in_ok-t.ensures.leads w _ (c.self.invariant.1.holds w d))) in
    leads_on _ l (leads_answer (rw c.self.invariant.0 at (c.universal.ensures.holds w _ (leaf_within l))))

pub returns-in_err-t-clause-leads : goal.returns-in_err-t-clause-leads
unfolding hindu_sunset_of
returns-in_err-t-clause-leads g c = λ w d.
    let f : SFits w64 c.args.day = c.ranges.day in
    let l = rw c.self.invariant.0 at (simp to_z-of_z at (c.in_err-t.ensures.leads w _ (c.self.invariant.1.holds w d)))
    in
    let fails = err_from_is_err_and c.from_residual.result c.from_residual.ensures.1 in
    rw (fails.1, fails.2) (leads_fail _ l)

pub returns-clause-measured : goal.returns-clause-measured
returns-clause-measured g c = λ h e.
    let f : SFits w64 c.args.day = c.ranges.day in
    let p : IsNarrowLocation c.self.inside.horizon.location = rw c.self.invariant.0 ujjain_is_narrow in
    let m = simp to_z-of_z at c.in_ok-t.ensures.measured in
    setting_within _ (c.universal.ensures.measured p.place (17 * 2 ^ 28) e
    (mean_local (17 * 2 ^ 28) _ (m (c.self.invariant.1.narrow e p) h e)))

pub returns-in_err-t-clause-measured : goal.returns-in_err-t-clause-measured
returns-in_err-t-clause-measured g c = λ h e.
    let f : SFits w64 c.args.day = c.ranges.day in
    let p : IsNarrowLocation c.self.inside.horizon.location = rw c.self.invariant.0 ujjain_is_narrow in
    let m = simp to_z-of_z at c.in_err-t.ensures.measured in
    let fails = err_from_is_err_and c.from_residual.result c.from_residual.ensures.1 in
    rw (fails.1, fails.2) (m (c.self.invariant.1.narrow e p) h e)

pub returns-clause-recent : goal.returns-clause-recent
returns-clause-recent g c = λ h k e.
    recent_found g.E.Enclosure.shown (at_depth 40) (9 * 2 ^ 29) (c.args.day -ℤ pos 25) (c.args.day +ℤ pos 38)
    (hindu_sunset_of c.args.day) c.universal.result
    (omega arith) (omega (arith, ints, h)) (sunset_near (at_depth 40) c.args.day)
    (returns-clause-leads g c (at_depth 40) (omega arith)) (returns-clause-measured g c (omega (arith, ints, h), k) e)

pub returns-in_err-t-clause-recent : goal.returns-in_err-t-clause-recent
returns-in_err-t-clause-recent g c = λ h k e.
    let f : SFits w64 c.args.day = c.ranges.day in
    let p : IsNarrowLocation c.self.inside.horizon.location = rw c.self.invariant.0 ujjain_is_narrow in
    let m = simp to_z-of_z at c.in_err-t.ensures.measured in
    let fails = err_from_is_err_and c.from_residual.result c.from_residual.ensures.1 in
    rw (fails.1, fails.2) (m (c.self.invariant.1.narrow e p) (omega (arith, ints, h), k) e)
