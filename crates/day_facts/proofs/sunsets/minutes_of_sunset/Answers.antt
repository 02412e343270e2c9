use Rattle.std.proofs.Common.{arith, ◌+◌, ◌*◌, ◌^◌, SFits, w64}
use Rattle.std.proofs.lemmas.Int.{to_z-of_z}
use Rattle.day_facts.proofs.sunsets.minutes_of_sunset.Goals as goal

pub returns-clause-close : goal.returns-clause-close
returns-clause-close g c = λ e l d.
    let f : SFits w64 c.args.day = c.ranges.day in
    let s = simp to_z-of_z at c.in_ok-t.ensures.measured in
    let m = simp to_z-of_z at c.minutes.ensures.measured in
    c.rounded.ensures.close (1440 * (9 * 2 ^ 29) + 2 ^ 22) e (omega arith) (m (9 * 2 ^ 29) e (omega arith) d (s l d e))
