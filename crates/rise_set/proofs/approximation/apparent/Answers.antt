use Rattle.std.proofs.Common.{SFits, w64, arith, ◌+◌, ◌/◌, ◌^◌}
use Rattle.std.proofs.lemmas.Int.{to_z-of_z}
use Rattle.rise_set.proofs.Measured.{part_within, less_within, more_within}
use Rattle.rise_set.proofs.approximation.apparent.Goals as goal

pub returns-in-Dawn-clause-measured : goal.returns-in-Dawn-clause-measured
returns-in-Dawn-clause-measured g c = λ v e h s.
    let shown = g.E.Enclosure.shown in
    let f : SFits w64 c.args.day = c.ranges.day in
    let q = simp to_z-of_z at c.quarter.ensures.measured in
    let p = part_within shown _ v c.args.offset c.part_of_day.result e s
    (λ r x. c.part_of_day.ensures.encloses.narrow r x) in
    less_within shown _ (v / 5 + 2 ^ 10 + 1) c.quarter.result c.part_of_day.result c.sub.result e (q e h) p
    (v / 5 + 2 ^ 11) (omega arith)
    (λ r x y. c.sub.ensures.encloses.narrow r x y)

pub returns-in-Dusk-clause-measured : goal.returns-in-Dusk-clause-measured
returns-in-Dusk-clause-measured g c = λ v e h s.
    let shown = g.E.Enclosure.shown in
    let f : SFits w64 c.args.day = c.ranges.day in
    let q = simp to_z-of_z at c.quarter-in-Dusk.ensures.measured in
    let p = part_within shown _ v c.args.offset c.part_of_day-in-Dusk.result e s
    (λ r x. c.part_of_day-in-Dusk.ensures.encloses.narrow r x) in
    more_within shown _ (v / 5 + 2 ^ 10 + 1) c.quarter-in-Dusk.result c.part_of_day-in-Dusk.result c.add.result e
    (q e h) p (v / 5 + 2 ^ 11) (omega arith)
    (λ r x y. c.add.ensures.encloses.narrow r x y)
