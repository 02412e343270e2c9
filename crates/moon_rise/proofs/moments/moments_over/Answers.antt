use Rattle.std.proofs.Common.{SFits, w64}
use Rattle.std.proofs.lemmas.Int.{to_z-of_z}
use Rattle.moon_rise.proofs.Between.{between_holds}
use Rattle.moon_rise.proofs.DayMoments.{hours_small}
use Rattle.moon_rise.proofs.moments.moments_over.Goals as goal

pub returns : goal.returns
returns g c = record {
  holds = λ i l u w deep.
      let f : SFits w64 c.args.day = c.ranges.day in
      let z = simp to_z-of_z at c.zone_on-zone.ensures in
      let a = simp to_z-of_z at (c.moment_by.ensures.encloses.holds w deep) in
      let b = simp to_z-of_z at (c.moment_by-2.ensures.encloses.holds w deep) in
      between_holds g.E.Enclosure.shown w c.args.place c.args.day c.args.from i c.args.to c.hull.result
      (hours_small c.args.place c.args.day).some l u
      (rw z at (c.hull.ensures.encloses.holds w _ _ a b));
}
