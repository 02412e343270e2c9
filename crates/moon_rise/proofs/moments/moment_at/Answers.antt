use Rattle.std.proofs.Common.{SFits, w64}
use Rattle.std.proofs.lemmas.Int.{to_z-of_z}
use Rattle.book_model.specs.sky.Time.{zone_on}
use Rattle.moon_rise.proofs.DayMoments.{hours_small, moment_exact, moment_in_year}
use Rattle.moon_rise.proofs.Orders.{moment_holds}
use Rattle.moon_rise.proofs.moments.moment_at.Goals as goal

pub returns-clause-holds : goal.returns-clause-holds
returns-clause-holds g c = λ w deep.
    let f : SFits w64 c.args.day = c.ranges.day in
    let k = simp to_z-of_z at c.zone_on.ensures in
    let h = simp to_z-of_z at (c.moment_by.ensures.encloses.holds w deep) in
    moment_holds g.E.Enclosure.shown w c.args.place c.args.day c.args.moment c.moment_by.result
    (hours_small c.args.place c.args.day).some (rw k at h)

pub returns-clause-narrow : goal.returns-clause-narrow
returns-clause-narrow g c = λ r.
    let f : SFits w64 c.args.day = c.ranges.day in
    let k = simp to_z-of_z at c.zone_on.ensures in
    let n = simp to_z-of_z at (c.moment_by.ensures.encloses.narrow r) in
    rw k at n

pub returns-clause-measured : goal.returns-clause-measured
returns-clause-measured g c = λ e d.
    moment_exact g.E.Enclosure.shown _ (zone_on c.args.place c.args.day) c.args.day c.args.moment c.moment_by.result e d
    c.requires.few
    (hours_small c.args.place c.args.day) (returns-clause-narrow g c)

pub returns-clause-in_year : goal.returns-clause-in_year
returns-clause-in_year g c = λ a b d.
    moment_in_year g.E.Enclosure.shown _ (zone_on c.args.place c.args.day) c.args.day c.args.moment c.moment_by.result a
    b d c.requires.few
    (hours_small c.args.place c.args.day) (returns-clause-narrow g c)
