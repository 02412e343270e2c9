use Rattle.std.proofs.Common.{SFits, w64, arith, ◌*◌, ◌^◌}
use Rattle.std.proofs.lemmas.Int.{to_z-of_z}
use Rattle.book_model.specs.sky.Kinds.{new_moon_before_of}
use Rattle.book_model.proofs.Leads.{leads_on, leaf_within}
use Rattle.day_facts.proofs.MoonFacts.{new_moon_before_is_value}
use Rattle.std.proofs.lemmas.Result.{err_from_is_err_and}
use Rattle.day_facts.proofs.Measured.{midnight_day, dated_moment}
use Rattle.day_facts.proofs.moon_days.new_moon_before.Goals as goal

pub returns-clause-leads : goal.returns-clause-leads
unfolding new_moon_before_of
returns-clause-leads g c = λ w d.
    let f : SFits w64 c.args.day = c.ranges.day in
    let m = simp to_z-of_z at (c.midnight.ensures.encloses.holds w d) in
    let l = c.in_ok-moment.ensures.leads w _ m in
    leads_on _ l (c.day_at.ensures.leads w _ (leaf_within l))

pub returns-clause-value : goal.returns-clause-value
returns-clause-value g c = new_moon_before_is_value c.args.place c.args.day _ _ _ (returns-clause-leads g c)

pub returns-clause-close : goal.returns-clause-close
returns-clause-close g c = λ e.
    let f : SFits w64 c.args.day = c.ranges.day in
    let m = simp to_z-of_z at c.midnight.ensures.measured in
    let t = m e (midnight_day _ c.requires.day) in
    c.day_at.ensures.close (2 ^ 30) e (omega arith)
    (dated_moment _ _ (c.in_ok-moment.ensures.measured (3 * 2 ^ 8) e (omega arith) t))

pub returns-in_err-moment-clause-close : goal.returns-in_err-moment-clause-close
returns-in_err-moment-clause-close g c = λ e.
    let f : SFits w64 c.args.day = c.ranges.day in
    let m = simp to_z-of_z at c.midnight.ensures.measured in
    let t = m e (midnight_day _ c.requires.day) in
    let fails = err_from_is_err_and c.from_residual.result c.from_residual.ensures.1 in
    rw (fails.1, fails.2) (c.in_err-moment.ensures.measured (3 * 2 ^ 8) e (omega arith) t)
