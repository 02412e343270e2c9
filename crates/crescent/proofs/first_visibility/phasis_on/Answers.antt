use Rattle.std.proofs.Common.{rules, arith, pos, SFits, w64}
use Rattle.std.proofs.lemmas.Int.{ints, to_z-of_z}
use Rattle.std.proofs.lemmas.Result.{err_from_is_err_and}
use Rattle.book_model.specs.sky.Crescent.{phasis_of}
use Rattle.book_model.specs.sky.Facts.{at_depth}
use Rattle.book_model.proofs.Early.{phase_day_least, three_made}
use Rattle.book_model.proofs.Leads.{leads_bind_exact}
use Rattle.moon_core.proofs.UndecidedTests.{late_is_not_early}
use Rattle.crescent.proofs.Days.{day_dated}
use Rattle.crescent.proofs.first_visibility.phasis_on.Goals as goal

pub returns-clause-leads : goal.returns-clause-leads
unfolding phasis_of
returns-clause-leads g c = λ w d.
    let f : SFits w64 c.args.day = c.ranges.day in
    let n : SFits w64 c.in_ok-new_moon.new_moon = search rules in
    let m = simp to_z-of_z at (c.in_ok-new_moon.ensures.leads w d) in
    let l = simp to_z-of_z at (c.visibility_after.ensures.leads w d) in
    leads_bind_exact _ m l

pub returns-clause-early : goal.returns-clause-early
returns-clause-early g c = λ z p q h.
    let f : SFits w64 c.args.day = c.ranges.day in
    let l = simp to_z-of_z at (c.in_ok-new_moon.ensures.leads (at_depth 40) (omega arith)) in
    late_is_not_early c.visibility_after.result (three_made (at_depth 40) (phase_day_least (pos 0) c.args.day) z l)
    (c.visibility_after.ensures.leads (at_depth 40) (omega arith))

pub returns-in_err-new_moon-clause-close : goal.returns-in_err-new_moon-clause-close
returns-in_err-new_moon-clause-close g c = λ e p.
    let f : SFits w64 c.args.day = c.ranges.day in
    let m = simp to_z-of_z at c.in_err-new_moon.ensures.close in
    let fails = err_from_is_err_and c.from_residual.result c.from_residual.ensures.1 in
    rw (fails.1, fails.2) (m e (omega (arith, ints), omega (arith, ints)) c.requires.day)

pub returns-clause-close : goal.returns-clause-close
returns-clause-close g c = λ e p.
    let f : SFits w64 c.args.day = c.ranges.day in
    let m = simp to_z-of_z at c.visibility_after.ensures.close in
    let l = simp to_z-of_z at c.in_ok-new_moon.ensures.leads in
    let d = day_dated (pos 0) c.args.day _ _ _ l in
    m e p (omega (arith, ints, d.0))
