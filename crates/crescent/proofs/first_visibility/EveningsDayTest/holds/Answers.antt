use Rattle.std.proofs.Common.{SFits, w64}
use Rattle.std.proofs.lemmas.Int.{to_z-of_z}
use Rattle.crescent.proofs.first_visibility.EveningsDayTest.holds.Goals as goal

pub returns-clause-close : goal.returns-clause-close
returns-clause-close g c = λ n e.
    let f : SFits w64 c.args.day = c.ranges.day in
    let m = simp to_z-of_z at c.visible_on.ensures.close in
    m e n.0 n.1
