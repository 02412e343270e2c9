use Rattle.std.proofs.Common.{rules, arith, pos, ◌-ℤ◌, SFits, w64}
use Rattle.std.proofs.lemmas.Int.{to_z-of_z, ints}
use Rattle.std.proofs.lemmas.Result.{err_from_is_err_and}
use Rattle.book_model.specs.sky.Kinds.{season_day_of}
use Rattle.book_model.proofs.Leads.{leads_bind_exact}
use Rattle.day_facts.proofs.seasons.season_day.Goals as goal

pub returns-clause-leads : goal.returns-clause-leads
unfolding season_day_of
returns-clause-leads g c = λ w d.
    let f : SFits w64 c.args.day = c.ranges.day in
    let n : SFits w64 c.args.season.longitude = search rules in
    let q : SFits w64 c.in_ok-start.start = search rules in
    let p : SFits w64 (c.in_ok-start.start -ℤ pos 1) =
    omega (arith, ints, c.in_ok-start.ensures.from, c.in_ok-start.ensures.to) in
    leads_bind_exact _ (simp to_z-of_z at (c.in_ok-start.ensures.leads w d))
    (simp to_z-of_z at (c.first_day.ensures.leads w d))

pub returns-clause-close : goal.returns-clause-close
returns-clause-close g c = λ s e. c.first_day.ensures.close (λ d l h. s.1) e

pub returns-in_err-start-clause-close : goal.returns-in_err-start-clause-close
returns-in_err-start-clause-close g c = λ s e.
    let n : SFits w64 c.args.season.longitude = search rules in
    let fails = err_from_is_err_and c.from_residual.result c.from_residual.ensures.1 in
    rw (fails.1, fails.2) (c.in_err-start.ensures.close (simp to_z-of_z s.0) e)
