use Rattle.std.proofs.Common.{arith, ◌*◌, ◌^◌, SFits, w64}
use Rattle.std.proofs.lemmas.Int.{to_z-of_z}
use Rattle.day_facts.proofs.midnights.longitude_at_midnight.Goals as goal

pub returns-clause-measured : goal.returns-clause-measured
returns-clause-measured g c = λ h e.
    let f : SFits w64 c.args.day = c.ranges.day in
    let t = simp to_z-of_z at c.midnight.ensures.measured in
    c.sun.ensures.measured (3 * 2 ^ 8) e (omega arith) (t e h)
