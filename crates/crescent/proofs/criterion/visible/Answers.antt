use Rattle.std.proofs.Common.{SFits, w64}
use Rattle.std.proofs.lemmas.Int.{to_z-of_z}
use Rattle.crescent.proofs.criterion.visible.Goals as goal

pub returns-clause-leads : goal.returns-clause-leads
returns-clause-leads g c =
    let f : SFits w64 c.args.day = c.ranges.day in
    rw c.new-evenings.ensures.location at (simp to_z-of_z at c.test_visible.ensures.leads)

pub returns-clause-close : goal.returns-clause-close
returns-clause-close g c =
    let f : SFits w64 c.args.day = c.ranges.day in
    rw c.new-evenings.ensures.location at (simp to_z-of_z at c.test_visible.ensures.close)
