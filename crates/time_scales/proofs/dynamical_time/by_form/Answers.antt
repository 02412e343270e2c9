use Rattle.std.proofs.Common.{rules, SFits, w64}
use Rattle.std.proofs.lemmas.Int.{to_z-of_z}
use Rattle.book_model.specs.sky.Time.{correction_by}
use Rattle.time_scales.specs.Corrections.{computed_by}
use Rattle.time_scales.proofs.dynamical_time.by_form.Goals as goal

pub seconds-requires : goal.seconds-requires
seconds-requires g c =
    let f : SFits w64 c.args.year = c.ranges.year in
    let o : SFits w64 c.in-SecondsSince.origin = search rules in
    let h = rw c.in-SecondsSince.is at c.requires.year in
    record { few = h.0; small = simp to_z-of_z h.1 }

pub july-requires : goal.july-requires
july-requires g c =
    let f : SFits w64 c.args.year = c.ranges.year in
    let h = rw c.in-DaysByCenturies.is at c.requires.year in
    record { from = simp to_z-of_z h.0; to = simp to_z-of_z h.1 }

pub returns-in-SecondsSince-clause-holds : goal.returns-in-SecondsSince-clause-holds
unfolding correction_by
returns-in-SecondsSince-clause-holds g c = λ w d.
    let f : SFits w64 c.args.year = c.ranges.year in
    let o : SFits w64 c.in-SecondsSince.origin = search rules in
    let h = simp to_z-of_z at c.seconds.ensures.encloses.holds in
    rw c.in-SecondsSince.is (h w d)

pub returns-in-SecondsByHundreds-clause-holds : goal.returns-in-SecondsByHundreds-clause-holds
unfolding correction_by
returns-in-SecondsByHundreds-clause-holds g c = λ w d.
    let f = c.ranges.year in
    let h = simp to_z-of_z at c.hundreds.ensures.value in
    rw c.in-SecondsByHundreds.is (c.mul_frac.ensures.encloses.holds w _ (rw h at (c.at_fraction.ensures.holds w d)))

pub returns-in-DaysByCenturies-clause-holds : goal.returns-in-DaysByCenturies-clause-holds
unfolding correction_by
returns-in-DaysByCenturies-clause-holds g c = λ w d.
    let f = c.ranges.year in
    let h = simp to_z-of_z at c.july.ensures.value in
    rw c.in-DaysByCenturies.is (rw h at (c.at_fraction-in-DaysByCenturies.ensures.holds w d))

pub returns-in-SecondsSince-clause-narrow : goal.returns-in-SecondsSince-clause-narrow
unfolding computed_by
returns-in-SecondsSince-clause-narrow g c = λ r.
    let f : SFits w64 c.args.year = c.ranges.year in
    let o : SFits w64 c.in-SecondsSince.origin = search rules in
    let h = simp to_z-of_z at c.seconds.ensures.encloses.narrow in
    rw c.in-SecondsSince.is (h r)

pub returns-in-SecondsByHundreds-clause-narrow : goal.returns-in-SecondsByHundreds-clause-narrow
unfolding computed_by
returns-in-SecondsByHundreds-clause-narrow g c = λ r.
    let f = c.ranges.year in
    let h = simp to_z-of_z at c.hundreds.ensures.value in
    rw c.in-SecondsByHundreds.is (c.mul_frac.ensures.encloses.narrow r _ (rw h at (c.at_fraction.ensures.narrow r)))

pub returns-in-DaysByCenturies-clause-narrow : goal.returns-in-DaysByCenturies-clause-narrow
unfolding computed_by
returns-in-DaysByCenturies-clause-narrow g c = λ r.
    let f = c.ranges.year in
    let h = simp to_z-of_z at c.july.ensures.value in
    rw c.in-DaysByCenturies.is (rw h at (c.at_fraction-in-DaysByCenturies.ensures.narrow r))
