use Rattle.std.proofs.Common.{rules, ◌≡◌, ◌*◌, ◌^◌, ◌-ℤ◌, pos, w64, to_z, of_z}
use Rattle.std.proofs.lemmas.Result.{err_from_is_err_and}
use Rattle.book_model.specs.sky.Crescent.{evening_of}
use Rattle.book_model.proofs.Leads.{leads_on, leads_fail, leads_answer, leaf_within}
use Rattle.rise_set.proofs.Measured.{mean_local}
use Rattle.rise_set.proofs.Places.{setting_within}
use Rattle.crescent.proofs.evening.Evenings.on.Goals as goal

pub returns-clause-leads : goal.returns-clause-leads
unfolding evening_of
returns-clause-leads g c = λ w deep.
    let same : to_z w64 (of_z w64 c.args.day) ≡ c.args.day = search rules in
    let day : to_z w64 (of_z w64 (c.args.day -ℤ pos 1)) ≡ c.args.day -ℤ pos 1 = search rules in
    let l = rw c.self.view_is at (rw (same, day) at (c.in_ok-t.ensures.leads w _ (c.self.invariant.0.holds w deep))) in
    leads_on _ l (leads_answer (rw c.self.view_is at (c.universal.ensures.holds w _ (leaf_within l))))

pub returns-in_err-t-clause-leads : goal.returns-in_err-t-clause-leads
unfolding evening_of
returns-in_err-t-clause-leads g c = λ w deep.
    let same : to_z w64 (of_z w64 c.args.day) ≡ c.args.day = search rules in
    let day : to_z w64 (of_z w64 (c.args.day -ℤ pos 1)) ≡ c.args.day -ℤ pos 1 = search rules in
    let l = rw c.self.view_is at (rw (same, day) at (c.in_err-t.ensures.leads w _ (c.self.invariant.0.holds w deep))) in
    let fails = err_from_is_err_and c.from_residual.result c.from_residual.ensures.1 in
    rw (fails.1, fails.2) (leads_fail _ l)

pub returns-clause-measured : goal.returns-clause-measured
returns-clause-measured g c = λ p h e.
    let same : to_z w64 (of_z w64 c.args.day) ≡ c.args.day = search rules in
    let day : to_z w64 (of_z w64 (c.args.day -ℤ pos 1)) ≡ c.args.day -ℤ pos 1 = search rules in
    let q = rw (← c.self.view_is) at p in
    let m = rw (same, day) at c.in_ok-t.ensures.measured in
    setting_within _ (c.universal.ensures.measured q.place (17 * 2 ^ 28) e
    (mean_local (17 * 2 ^ 28) _ (m (c.self.invariant.0.narrow e q) h e)))

pub returns-in_err-t-clause-measured : goal.returns-in_err-t-clause-measured
returns-in_err-t-clause-measured g c = λ p h e.
    let same : to_z w64 (of_z w64 c.args.day) ≡ c.args.day = search rules in
    let day : to_z w64 (of_z w64 (c.args.day -ℤ pos 1)) ≡ c.args.day -ℤ pos 1 = search rules in
    let q = rw (← c.self.view_is) at p in
    let m = rw (same, day) at c.in_err-t.ensures.measured in
    let fails = err_from_is_err_and c.from_residual.result c.from_residual.ensures.1 in
    rw (fails.1, fails.2) (m (c.self.invariant.0.narrow e q) h e)
