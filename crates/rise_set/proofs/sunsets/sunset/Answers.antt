use Rattle.std.proofs.Common.{SFits, w64}
use Rattle.std.proofs.lemmas.Int.{to_z-of_z}
use Rattle.rise_set.proofs.sunsets.sunset.Goals as goal

pub returns-clause-leads : goal.returns-clause-leads
returns-clause-leads g c =
    let f : SFits w64 c.args.day = c.ranges.day in
    rw c.new-sunsets.ensures.location at (simp to_z-of_z at c.on.ensures.leads)

pub returns-clause-measured : goal.returns-clause-measured
returns-clause-measured g c =
    let f : SFits w64 c.args.day = c.ranges.day in
    rw c.new-sunsets.ensures.location at (simp to_z-of_z at c.on.ensures.measured)
