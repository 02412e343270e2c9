use Rattle.std.proofs.Common.{arith, ◌*◌, ◌^◌, SFits, w64}
use Rattle.std.proofs.lemmas.Int.{to_z-of_z}
use Rattle.day_facts.proofs.Measured.{moments_looser}
use Rattle.day_facts.proofs.SunsetWidths.{tehran_is_narrow}
use Rattle.day_facts.proofs.sunsets.SunsetAtTehranDayMoment.at.Goals as goal

pub returns-clause-leads : goal.returns-clause-leads
returns-clause-leads g c =
    let f : SFits w64 c.args.day = c.ranges.day in
    rw c.self.invariant at (simp to_z-of_z at c.on.ensures.leads)

pub returns-clause-measured : goal.returns-clause-measured
returns-clause-measured g c = λ e.
    let f : SFits w64 c.args.day = c.ranges.day in
    let m = rw c.self.invariant at (simp to_z-of_z at c.on.ensures.measured) in
    moments_looser g.E.Enclosure.shown (9 * 2 ^ 29) (2 ^ 33) c.on.result (omega arith)
    (m tehran_is_narrow c.requires.day e)
