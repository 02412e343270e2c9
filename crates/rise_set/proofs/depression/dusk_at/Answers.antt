use Rattle.std.proofs.Common.{SFits, w64}
use Rattle.std.proofs.lemmas.Int.{to_z-of_z}
use Rattle.rise_set.proofs.depression.dusk_at.Goals as goal

pub returns-clause-measured : goal.returns-clause-measured
returns-clause-measured g c =
    let f : SFits w64 c.args.day = c.ranges.day in
    simp to_z-of_z at c.moment_of_depression.ensures.measured
