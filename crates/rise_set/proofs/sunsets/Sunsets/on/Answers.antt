use Rattle.std.proofs.Common.{SFits, w64, ◌*◌, ◌^◌}
use Rattle.std.proofs.lemmas.Int.{to_z-of_z}
use Rattle.std.proofs.lemmas.Result.{err_from_is_err_and}
use Rattle.book_model.specs.sky.Horizon.{sunset_of}
use Rattle.book_model.proofs.Leads.{leads_on, leads_fail, leads_answer, leaf_within}
use Rattle.rise_set.proofs.Measured.{mean_local}
use Rattle.rise_set.proofs.Places.{setting_within}
use Rattle.rise_set.proofs.sunsets.Sunsets.on.Goals as goal

pub returns-clause-leads : goal.returns-clause-leads
unfolding sunset_of
returns-clause-leads g c = λ w d.
    let f : SFits w64 c.args.day = c.ranges.day in
    let l = rw c.self.view_is at (simp to_z-of_z at (c.in_ok-t.ensures.leads w _ (c.self.invariant.holds w d))) in
    leads_on _ l (leads_answer (rw c.self.view_is at (c.universal.ensures.holds w _ (leaf_within l))))

pub returns-in_err-t-clause-leads : goal.returns-in_err-t-clause-leads
unfolding sunset_of
returns-in_err-t-clause-leads g c = λ w d.
    let f : SFits w64 c.args.day = c.ranges.day in
    let l = rw c.self.view_is at (simp to_z-of_z at (c.in_err-t.ensures.leads w _ (c.self.invariant.holds w d))) in
    let fails = err_from_is_err_and c.from_residual.result c.from_residual.ensures.1 in
    rw (fails.1, fails.2) (leads_fail _ l)

pub returns-clause-measured : goal.returns-clause-measured
returns-clause-measured g c = λ p h e.
    let f : SFits w64 c.args.day = c.ranges.day in
    let q = rw (← c.self.view_is) at p in
    let m = simp to_z-of_z at c.in_ok-t.ensures.measured in
    setting_within _ (c.universal.ensures.measured q.place (17 * 2 ^ 28) e
    (mean_local (17 * 2 ^ 28) _ (m (c.self.invariant.narrow e q) h e)))

pub returns-in_err-t-clause-measured : goal.returns-in_err-t-clause-measured
returns-in_err-t-clause-measured g c = λ p h e.
    let f : SFits w64 c.args.day = c.ranges.day in
    let q = rw (← c.self.view_is) at p in
    let m = simp to_z-of_z at c.in_err-t.ensures.measured in
    let fails = err_from_is_err_and c.from_residual.result c.from_residual.ensures.1 in
    rw (fails.1, fails.2) (m (c.self.invariant.narrow e q) h e)
