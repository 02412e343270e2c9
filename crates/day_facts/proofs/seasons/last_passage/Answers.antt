use Rattle.std.proofs.Common.{arith, ◌^◌, SFits, w64}
use Rattle.std.proofs.lemmas.Int.{to_z-of_z}
use Rattle.moon_core.proofs.QuarterWidths.{whole_moment}
use Rattle.day_facts.proofs.seasons.last_passage.Goals as goal

pub returns-clause-measured : goal.returns-clause-measured
returns-clause-measured g c = λ s e.
    let f : SFits w64 c.args.longitude = c.ranges.longitude in
    let n = whole_moment g.E.Enclosure.shown _ c.args.longitude c.from_int.result e s
    (simp to_z-of_z at c.from_int.ensures.encloses.narrow) in
    c.estimate.ensures.measured (2 ^ 33) e (omega arith) n (c.in_ok-there.ensures.measured e)
