use Rattle.std.proofs.Common.{arith, SFits, w64, ◌*◌, ◌^◌}
use Rattle.std.proofs.lemmas.Int.{to_z-of_z}
use Rattle.book_model.specs.sky.Facts.{at_depth}
use Rattle.book_model.proofs.Leads.{leaf_within}
use Rattle.day_facts.proofs.NewYears.{is_estimate, begun, ended}
use Rattle.encl_core.proofs.Measuring.{moment_about}
use Rattle.day_facts.proofs.seasons.search_start.Goals as goal

pub returns-clause-from : goal.returns-clause-from
returns-clause-from g c =
    let n : SFits w64 c.args.longitude = c.ranges.longitude in
    let f : SFits w64 c.args.day = c.ranges.day in
    let l = simp to_z-of_z at (c.in_ok-passage.ensures.leads (at_depth 40) (omega arith)) in
    begun _ (is_estimate (at_depth 40) _ (g.M.DayMoment.moment_of c.args.moment.now) c.args.longitude c.args.day _ l
    (c.floor_step.ensures.leads (at_depth 40) _ (leaf_within l)))

pub returns-clause-to : goal.returns-clause-to
returns-clause-to g c =
    let n : SFits w64 c.args.longitude = c.ranges.longitude in
    let f : SFits w64 c.args.day = c.ranges.day in
    let l = simp to_z-of_z at (c.in_ok-passage.ensures.leads (at_depth 40) (omega arith)) in
    ended _ (is_estimate (at_depth 40) _ (g.M.DayMoment.moment_of c.args.moment.now) c.args.longitude c.args.day _ l
    (c.floor_step.ensures.leads (at_depth 40) _ (leaf_within l)))

pub returns-clause-close : goal.returns-clause-close
returns-clause-close g c = λ s e.
    let n : SFits w64 c.args.longitude = c.ranges.longitude in
    let m = simp to_z-of_z at c.in_ok-passage.ensures.measured in
    c.floor_step.ensures.close (7 * 2 ^ 34) (omega arith) (moment_about _ _ (m s e))
