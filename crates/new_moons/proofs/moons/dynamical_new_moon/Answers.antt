use Rattle.std.proofs.Common.{SFits, w64}
use Rattle.std.proofs.lemmas.Int.{to_z-of_z}
use Rattle.book_model.specs.numbers.Fractions.{fraction_of}
use Rattle.book_model.specs.sky.NewMoons.{centuries_of_months, dynamical_new_moon_of}
use Rattle.new_moons.specs.Months.{HoldPowers}
use Rattle.new_moons.specs.Widths.{IsNearTime}
use Rattle.new_moons.proofs.Measured.{all_within, months_near, months_recent, recent_within}
use Rattle.new_moons.proofs.moons.dynamical_new_moon.Goals as goal

pub returns-clause-holds : goal.returns-clause-holds
unfolding dynamical_new_moon_of
returns-clause-holds g c = λ w d.
    let f : SFits w64 c.args.number = c.ranges.number in
    let t = centuries_of_months c.args.number in
    let v = simp to_z-of_z at c.centuries_of_months-time.ensures.value in
    let h : HoldPowers g.E.Enclosure.shown w t c.powers_at-powers.result =
    rw v at (c.powers_at-powers.ensures.holds w d) in
    let m = simp to_z-of_z at c.mean_new_moon.ensures.holds in
    let n = simp to_z-of_z at c.node_term.ensures.holds in
    let a = simp to_z-of_z at c.lunar_terms.ensures.holds in
    let p = simp to_z-of_z at c.planet_terms.ensures.holds in
    let venus = rw v at (c.venus_term.ensures.encloses.holds w d) in
    c.add-4.ensures.encloses.holds w _ _ (c.add-3.ensures.encloses.holds w _ _ (c.add-2.ensures.encloses.holds w _ _
    (c.add.ensures.encloses.holds w _ _ (m w d h) (n w d h)) (a w d h)) venus) (p w d)

pub returns-clause-measured : goal.returns-clause-measured
returns-clause-measured g c = λ e k.
    let f : SFits w64 c.args.number = c.ranges.number in
    let v = simp to_z-of_z at c.centuries_of_months-time.ensures.value in
    let t : IsNearTime (fraction_of c.centuries_of_months-time.result) = rw v (months_near c.args.number k) in
    let h = c.powers_at-powers.ensures.measured e t in
    let m = simp to_z-of_z at c.mean_new_moon.ensures.measured in
    let n = simp to_z-of_z at c.node_term.ensures.measured in
    let a = simp to_z-of_z at c.lunar_terms.ensures.measured in
    let p = simp to_z-of_z at c.planet_terms.ensures.measured in
    all_within g.E.Enclosure.shown _ c.mean_new_moon.result c.node_term.result c.lunar_terms.result c.venus_term.result
    c.planet_terms.result c.add.result
    c.add-2.result c.add-3.result c.add-4.result e (n e k h) (a e k h) (c.venus_term.ensures.measured e t) (p e k)
    (λ r x y. c.add.ensures.encloses.narrow r x y) (λ r x y. c.add-2.ensures.encloses.narrow r x y)
    (λ r x y. c.add-3.ensures.encloses.narrow r x y)
    (λ r x y. c.add-4.ensures.encloses.narrow r x y)
    (m e k h)

pub returns-clause-recent : goal.returns-clause-recent
returns-clause-recent g c = λ e q.
    let f : SFits w64 c.args.number = c.ranges.number in
    let k = months_recent c.args.number q in
    let v = simp to_z-of_z at c.centuries_of_months-time.ensures.value in
    let t : IsNearTime (fraction_of c.centuries_of_months-time.result) = rw v (months_near c.args.number k) in
    let h = c.powers_at-powers.ensures.measured e t in
    let m = simp to_z-of_z at c.mean_new_moon.ensures.recent in
    let n = simp to_z-of_z at c.node_term.ensures.measured in
    let a = simp to_z-of_z at c.lunar_terms.ensures.measured in
    let p = simp to_z-of_z at c.planet_terms.ensures.measured in
    recent_within g.E.Enclosure.shown _ c.mean_new_moon.result c.node_term.result c.lunar_terms.result
    c.venus_term.result c.planet_terms.result c.add.result
    c.add-2.result c.add-3.result c.add-4.result e (n e k h) (a e k h) (c.venus_term.ensures.measured e t) (p e k)
    (λ r x y. c.add.ensures.encloses.narrow r x y) (λ r x y. c.add-2.ensures.encloses.narrow r x y)
    (λ r x y. c.add-3.ensures.encloses.narrow r x y)
    (λ r x y. c.add-4.ensures.encloses.narrow r x y)
    (m e q h)
