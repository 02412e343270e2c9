use Rattle.std.proofs.Common.{arith, refl, ◌+◌, ◌*◌, ◌^◌}
use Rattle.book_model.specs.numbers.Bounds.{Reach}
use Rattle.book_model.specs.sky.Latitude.{latitude_terms_of, millionths_of}
use Rattle.book_model.specs.sky.Moon.{lunar_angles_of}
use Rattle.sun_core.specs.Daily.{in_centuries}
use Rattle.sun_core.proofs.Measured.{days_of}
use Rattle.moon_core.specs.Widths.{days_and, latitude_bound}
use Rattle.moon_core.proofs.TermWidths.{angles_close, anomaly_beside, argument_beside, days_beside, longitude_beside}
use Rattle.moon_core.proofs.TermWidths.{terms_beside}
use Rattle.moon_core.proofs.latitudes.millionths.Goals as goal

pub returns-clause-holds : goal.returns-clause-holds
unfolding millionths_of latitude_terms_of lunar_angles_of
returns-clause-holds g c = λ w x h.
    let a = h.angles in
    let terms = c.latitude_terms.ensures.holds w (lunar_angles_of (in_centuries x)) h.days.deep a in
    let venus = c.add.ensures.encloses.holds w _ _ terms
    (c.venus.ensures.encloses.holds w _ _ (c.term_angle.ensures.holds w x h.days) a.latitude_argument) in
    let flattening = c.add-2.ensures.encloses.holds w _ _ venus
    (c.flattening.ensures.encloses.holds w _ _ h.mean_longitude a.moon_anomaly) in
    c.add-3.ensures.encloses.holds w _ _ flattening (c.sine_periodic_term.ensures.holds w x h.days)

pub returns-clause-narrow : goal.returns-clause-narrow
returns-clause-narrow g c = λ v e h.
    let shown = g.E.Enclosure.shown in
    let n = g.E.Enclosure.BITS in
    let b = c.args.elements in
    let r : Reach = record { width = v + 2 ^ 17; bounds = days_and latitude_bound } in
    let d = days_beside shown n v latitude_bound b h in
    let f = argument_beside shown n v latitude_bound b h in
    let close = angles_close shown n v e b.angles h.short h.keep.angles in
    let within = c.latitude_terms.ensures.narrow (14 * v + 2 ^ 22) e (omega (arith, h.short)) close in
    let terms = terms_beside shown n v latitude_bound b h (6100000 * 2 ^ 32) (2338000 * 2 ^ 40)
    (2 ^ 48) _ c.latitude_terms.result refl (omega arith) within in
    let venus = c.add.ensures.encloses.narrow r _ _ terms (c.venus.ensures.encloses.narrow r _ _
    (c.term_angle.ensures.narrow r days_of d) f) in
    let flattening = c.add-2.ensures.encloses.narrow r _ _ venus
    (c.flattening.ensures.encloses.narrow r _ _ (longitude_beside shown n v latitude_bound b h)
    (anomaly_beside shown n v latitude_bound b h)) in
    c.add-3.ensures.encloses.narrow r _ _ flattening (c.sine_periodic_term.ensures.narrow r days_of d)
