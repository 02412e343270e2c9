use Rattle.std.proofs.Common.{arith, ◌*◌, ◌^◌, SFits, w64}
use Rattle.std.proofs.lemmas.Int.{to_z-of_z, ints}
use Rattle.std.proofs.lemmas.Result.{err_from_is_err_and}
use Rattle.book_model.specs.sky.HinduFacts.{sankranti_of}
use Rattle.book_model.proofs.Leads.{leads_on, leaf_within}
use Rattle.day_facts.proofs.hindu_days.sankranti.Goals as goal

pub returns-clause-leads : goal.returns-clause-leads
unfolding sankranti_of
returns-clause-leads g c = λ w d.
    let f : SFits w64 c.args.day = c.ranges.day in
    let l = simp to_z-of_z at (c.in_ok-t.ensures.leads w d) in
    leads_on _ l (simp to_z-of_z at (c.sign_entered.ensures.leads w _ (leaf_within l)))

pub returns-clause-close : goal.returns-clause-close
returns-clause-close g c = λ e.
    let f : SFits w64 c.args.day = c.ranges.day in
    let d = c.requires.day in
    let m = simp to_z-of_z at c.in_ok-t.ensures.recent in
    c.sign_entered.ensures.close (9 * 2 ^ 29) e (omega arith)
    (m (omega (arith, ints, d.0)) (omega (arith, ints, d.1)) e)

pub returns-in_err-t-clause-close : goal.returns-in_err-t-clause-close
returns-in_err-t-clause-close g c = λ e.
    let f : SFits w64 c.args.day = c.ranges.day in
    let d = c.requires.day in
    let m = simp to_z-of_z at c.in_err-t.ensures.recent in
    let fails = err_from_is_err_and c.from_residual.result c.from_residual.ensures.1 in
    rw (fails.1, fails.2) (m (omega (arith, ints, d.0)) (omega (arith, ints, d.1)) e)
