use Rattle.std.proofs.Common.{rules, arith, pos, SFits, w64}
use Rattle.std.proofs.lemmas.Int.{ints, to_z-of_z}
use Rattle.std.proofs.lemmas.Result.{err_from_is_err_and}
use Rattle.book_model.specs.sky.Nisan.{visibility_from_of}
use Rattle.book_model.proofs.Leads.{leads_bind_exact}
use Rattle.crescent.proofs.Days.{day_dated}
use Rattle.crescent.proofs.first_visibility.visibility_from_by.Goals as goal

pub visibility_by-requires-clause-day : goal.visibility_by-requires-clause-day
visibility_by-requires-clause-day g c =
    let f : SFits w64 c.args.day = c.ranges.day in
    let l = simp to_z-of_z at c.in_ok-new_moon.ensures.leads in
    let d = day_dated (pos 0) c.args.day _ _ _ l in
    simp to_z-of_z d

pub returns-clause-leads : goal.returns-clause-leads
unfolding visibility_from_of
returns-clause-leads g c = λ w d.
    let f : SFits w64 c.args.day = c.ranges.day in
    let n : SFits w64 c.in_ok-new_moon.new_moon = search rules in
    let m = simp to_z-of_z at (c.in_ok-new_moon.ensures.leads w d) in
    let l = rw c.of-evenings.ensures.location at (simp to_z-of_z at (c.visibility_by.ensures.leads w d)) in
    leads_bind_exact _ m l

pub returns-in_err-new_moon-clause-close : goal.returns-in_err-new_moon-clause-close
returns-in_err-new_moon-clause-close g c = λ e p.
    let f : SFits w64 c.args.day = c.ranges.day in
    let m = simp to_z-of_z at c.in_err-new_moon.ensures.close in
    let fails = err_from_is_err_and c.from_residual.result c.from_residual.ensures.1 in
    rw (fails.1, fails.2) (m e (omega (arith, ints), omega (arith, ints)) c.requires.day)

pub returns-clause-close : goal.returns-clause-close
returns-clause-close g c = λ e p.
    let m = rw c.of-evenings.ensures.location at c.visibility_by.ensures.close in
    m e p
