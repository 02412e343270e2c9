use Rattle.std.proofs.Common.{SFits, w64}
use Rattle.std.proofs.lemmas.Int.{to_z-of_z}
use Rattle.day_facts.proofs.Measured.{fact_day}
use Rattle.day_facts.proofs.quarters.phase_day.Goals as goal

pub returns-clause-close : goal.returns-clause-close
returns-clause-close g c = λ e h.
    let p : SFits w64 c.args.phase = c.ranges.phase in
    let f : SFits w64 c.args.day = c.ranges.day in
    let m = simp to_z-of_z at c.phase_day.ensures.close in
    m e h (fact_day _ c.requires.day)
