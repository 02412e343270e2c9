use Rattle.std.proofs.Common.{SFits, w64}
use Rattle.std.proofs.lemmas.Int.{to_z-of_z}
use Rattle.rise_set.proofs.Sunrises.{day_within, minutes_within}
use Rattle.rise_set.proofs.minutes.minutes_after.Goals as goal

pub returns-clause-measured : goal.returns-clause-measured
returns-clause-measured g c = λ e h t.
    let shown = g.E.Enclosure.shown in
    let f : SFits w64 c.args.day = c.ranges.day in
    let i = simp to_z-of_z at c.from_int.ensures.encloses.narrow in
    minutes_within shown _ c.args.t c.from_int.result c.add.result e t
    (day_within shown _ c.args.day c.from_int.result e h i)
    (λ r x y p q. c.add.ensures.encloses.narrow r _ _
    (c.mul_frac.ensures.encloses.narrow r _ (c.sub.ensures.encloses.narrow r x y p q))
    (c.from_frac.ensures.encloses.narrow r))
