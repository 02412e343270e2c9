use Rattle.std.proofs.Common.{SFits, w64}
use Rattle.std.proofs.lemmas.Int.{to_z-of_z}
use Rattle.time_scales.proofs.ZoneWidths.{whole_day_within, hours_within, zone_hours_kept, midnight_within}
use Rattle.time_scales.proofs.zone.midnight.Goals as goal

pub returns-clause-measured : goal.returns-clause-measured
returns-clause-measured g c = λ e h.
    let shown = g.E.Enclosure.shown in
    let f : SFits w64 c.args.day = c.ranges.day in
    let j = simp to_z-of_z at c.from_int.ensures.encloses.narrow in
    let k = simp to_z-of_z at c.zone_on.ensures in
    let x = whole_day_within shown _ c.args.day c.from_int.result e h j in
    let z = hours_within shown _ 24 c.zone_on.result c.from_frac.result e
    (rw k (zone_hours_kept c.args.place c.args.day))
    (λ r. c.from_frac.ensures.encloses.narrow r) in
    midnight_within shown _ c.from_int.result c.from_frac.result c.sub.result e x z
    (λ r p q a b. c.sub.ensures.encloses.narrow r p _ a (c.mul_frac.ensures.encloses.narrow r q b))
