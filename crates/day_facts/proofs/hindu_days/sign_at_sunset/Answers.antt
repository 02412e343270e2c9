use Rattle.std.proofs.Common.{SFits, w64}
use Rattle.std.proofs.lemmas.Int.{to_z-of_z}
use Rattle.day_facts.proofs.hindu_days.sign_at_sunset.Goals as goal

pub returns-clause-close : goal.returns-clause-close
returns-clause-close g c =
    let f : SFits w64 c.args.day = c.ranges.day in
    simp to_z-of_z at c.sign_on.ensures.close
