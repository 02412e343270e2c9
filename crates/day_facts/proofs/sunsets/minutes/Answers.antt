use Rattle.std.proofs.Common.{SFits, w64}
use Rattle.std.proofs.lemmas.Int.{to_z-of_z}
use Rattle.time_scales.proofs.ZoneWidths.{zone_hours_kept}
use Rattle.moon_core.proofs.QuarterWidths.{whole_moment}
use Rattle.day_facts.proofs.Measured.{small_day}
use Rattle.day_facts.proofs.SunsetWidths.{minutes_within}
use Rattle.day_facts.proofs.sunsets.minutes.Goals as goal

pub returns-clause-measured : goal.returns-clause-measured
returns-clause-measured g c = λ v e b h m.
    let shown = g.E.Enclosure.shown in
    let f : SFits w64 c.args.day = c.ranges.day in
    let o = simp to_z-of_z at c.zone_on.ensures in
    let d = whole_moment shown _ c.args.day c.from_int.result e (small_day _ h)
    (simp to_z-of_z at c.from_int.ensures.encloses.narrow) in
    minutes_within shown _ v c.zone_on.result c.args.t c.from_frac.result c.mul_frac.result c.add.result
    c.from_int.result c.sub.result c.mul_frac-2.result e
    (rw o (zone_hours_kept c.args.place c.args.day)) m d
    (λ r. c.from_frac.ensures.encloses.narrow r) (λ r x. c.mul_frac.ensures.encloses.narrow r x)
    (λ r x y. c.add.ensures.encloses.narrow r x y)
    (λ r x y. c.sub.ensures.encloses.narrow r x y) (λ r x. c.mul_frac-2.ensures.encloses.narrow r x)
