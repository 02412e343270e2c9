use Rattle.std.proofs.Common.{SFits, w64}
use Rattle.std.proofs.lemmas.Int.{to_z-of_z}
use Rattle.book_model.specs.declared.horizon.Twilight.TheVariants.{Dawn, Dusk}
use Rattle.book_model.specs.sky.Horizon.{quarter_of}
use Rattle.rise_set.proofs.Measured.{quarter_within}
use Rattle.rise_set.proofs.approximation.quarter.Goals as goal

pub returns-in-Dawn-clause-measured : goal.returns-in-Dawn-clause-measured
unfolding quarter_of
returns-in-Dawn-clause-measured g c = λ e h.
    let f : SFits w64 c.args.day = c.ranges.day in
    let i = simp to_z-of_z at c.from_int.ensures.encloses.narrow in
    quarter_within g.E.Enclosure.shown _ Dawn c.args.day c.add.result e h
    (λ r. c.add.ensures.encloses.narrow r _ _ (i r) (c.from_frac.ensures.encloses.narrow r))

pub returns-in-Dusk-clause-measured : goal.returns-in-Dusk-clause-measured
unfolding quarter_of
returns-in-Dusk-clause-measured g c = λ e h.
    let f : SFits w64 c.args.day = c.ranges.day in
    let i = simp to_z-of_z at c.from_int-in-Dusk.ensures.encloses.narrow in
    quarter_within g.E.Enclosure.shown _ Dusk c.args.day c.add-in-Dusk.result e h
    (λ r. c.add-in-Dusk.ensures.encloses.narrow r _ _ (i r) (c.from_frac-in-Dusk.ensures.encloses.narrow r))
