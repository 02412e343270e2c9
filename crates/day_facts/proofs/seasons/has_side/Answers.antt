use Rattle.std.proofs.Common.{arith, SFits, w64, ◌^◌}
use Rattle.std.proofs.lemmas.Int.{to_z-of_z}
use Rattle.std.proofs.lemmas.Result.{err_from_is_err_and}
use Rattle.book_model.proofs.Leads.{leads_on, leads_fail, leaf_within}
use Rattle.book_model.specs.numbers.Relations.{Within}
use Rattle.book_model.specs.sky.Kinds.{has_side_at, longitude_at_of, is_on_side_of}
use Rattle.book_model.specs.sky.Sun.{sun_of}
use Rattle.day_facts.specs.Seasons.{stands_on}
use Rattle.moon_core.proofs.Nested.{bind_nested}
use Rattle.day_facts.proofs.seasons.has_side.Goals as goal

pub returns-clause-leads : goal.returns-clause-leads
unfolding has_side_at longitude_at_of stands_on
returns-clause-leads g c = λ w d.
    let f : SFits w64 c.args.day = c.ranges.day in
    let l = simp to_z-of_z at (c.in_ok-there.ensures.leads w d) in
    rw (bind_nested (g.M.DayMoment.moment_of c.args.moment.now c.args.day) sun_of (is_on_side_of c.args.side))
    (leads_on _ l (c.stands.ensures.leads w _ (leaf_within l)))

pub returns-in_err-there-clause-leads : goal.returns-in_err-there-clause-leads
unfolding has_side_at longitude_at_of
returns-in_err-there-clause-leads g c = λ w z.
    let f : SFits w64 c.args.day = c.ranges.day in
    let l = simp to_z-of_z at (c.in_err-there.ensures.leads w z) in
    let fails = err_from_is_err_and c.from_residual.result c.from_residual.ensures.1 in
    rw (fails.1, fails.2) (leads_fail _ (leads_fail {S = Within g.E.Enclosure.shown w} sun_of l))

pub returns-clause-close : goal.returns-clause-close
returns-clause-close g c = λ s e. c.stands.ensures.close s (2 ^ 33) e (omega arith) (c.in_ok-there.ensures.measured e)
