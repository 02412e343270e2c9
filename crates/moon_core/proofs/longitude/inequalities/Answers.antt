use Rattle.std.proofs.Common.{arith, refl, ◌+◌, ◌*◌, ◌^◌}
use Rattle.book_model.specs.numbers.Bounds.{Reach}
use Rattle.book_model.specs.sky.Moon.{inequalities_of, longitude_terms_of, lunar_angles_of}
use Rattle.sun_core.specs.Daily.{in_centuries}
use Rattle.sun_core.proofs.Measured.{days_of}
use Rattle.moon_core.specs.Widths.{days_and, longitude_bound}
use Rattle.moon_core.proofs.TermWidths.{angles_close, argument_beside, days_beside, longitude_beside, terms_beside}
use Rattle.moon_core.proofs.longitude.inequalities.Goals as goal

pub returns-clause-holds : goal.returns-clause-holds
unfolding inequalities_of longitude_terms_of lunar_angles_of
returns-clause-holds g c = λ w x h.
    let a = h.angles in
    let terms = c.longitude_terms.ensures.holds w (lunar_angles_of (in_centuries x)) h.days.deep a in
    let venus = c.add.ensures.encloses.holds w _ _ terms (c.sine_periodic_term.ensures.holds w x h.days) in
    let jupiter = c.add-2.ensures.encloses.holds w _ _ venus (c.sine_periodic_term-2.ensures.holds w x h.days) in
    c.add-3.ensures.encloses.holds w _ _ jupiter (c.flattening.ensures.holds w x h.mean_longitude a.latitude_argument)

pub returns-clause-narrow : goal.returns-clause-narrow
returns-clause-narrow g c = λ v e h.
    let shown = g.E.Enclosure.shown in
    let n = g.E.Enclosure.BITS in
    let b = c.args.elements in
    let r : Reach = record { width = v + 2 ^ 17; bounds = days_and longitude_bound } in
    let d = days_beside shown n v longitude_bound b h in
    let close = angles_close shown n v e b.angles h.short h.keep.angles in
    let within = c.longitude_terms.ensures.narrow (14 * v + 2 ^ 22) e (omega (arith, h.short)) close in
    let terms = terms_beside shown n v longitude_bound b h (9300000 * 2 ^ 32) (4228000 * 2 ^ 40)
    (2 ^ 50) _ c.longitude_terms.result refl (omega arith) within in
    let venus = c.add.ensures.encloses.narrow r _ _ terms (c.sine_periodic_term.ensures.narrow r days_of d) in
    let jupiter = c.add-2.ensures.encloses.narrow r _ _ venus (c.sine_periodic_term-2.ensures.narrow r days_of d) in
    c.add-3.ensures.encloses.narrow r _ _ jupiter
    (c.flattening.ensures.narrow r days_of (longitude_beside shown n v longitude_bound b h)
    (argument_beside shown n v longitude_bound b h))
