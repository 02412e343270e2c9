use Rattle.std.proofs.Common.{arith, ◌+◌, ◌*◌, ◌^◌}
use Rattle.book_model.specs.sky.Distance.{distance_by, distance_terms_of}
use Rattle.book_model.specs.sky.Moon.{lunar_angles_of}
use Rattle.moon_core.specs.SunDaily.{in_centuries}
use Rattle.moon_core.proofs.TermWidths.{angles_close}
use Rattle.moon_rise.proofs.Measured.{distance_within, terms_reach, terms_within}
use Rattle.moon_rise.proofs.Orders.{thousandth_holds}
use Rattle.moon_rise.proofs.distances.distance_at.Goals as goal

pub returns-clause-holds : goal.returns-clause-holds
unfolding distance_by distance_terms_of lunar_angles_of
returns-clause-holds g c = λ w x h.
    let terms = c.distance_terms-terms.ensures.holds w (lunar_angles_of (in_centuries x)) h.days.deep h.angles in
    let metres = rw c.metre.ensures.metre at (c.mul_frac.ensures.encloses.holds w _ terms) in
    let mean = rw c.mean_kilometres.ensures.mean at (c.from_frac.ensures.encloses.holds w h.days.deep) in
    thousandth_holds g.E.Enclosure.shown w _ c.add.result (c.add.ensures.encloses.holds w _ _ mean metres)

pub returns-clause-measured : goal.returns-clause-measured
returns-clause-measured g c = λ v e k.
    let shown = g.E.Enclosure.shown in
    let n = g.E.Enclosure.BITS in
    let r = terms_reach v in
    let close = angles_close shown n v e c.args.elements.angles k.short k.keep.angles in
    let within = c.distance_terms-terms.ensures.narrow (14 * v + 2 ^ 22) e (omega (arith, k.short)) close in
    let terms = terms_within shown n v c.distance_terms-terms.result within in
    let metres = rw c.metre.ensures.metre at (c.mul_frac.ensures.encloses.narrow r _ terms) in
    let mean = rw c.mean_kilometres.ensures.mean at (c.from_frac.ensures.encloses.narrow r) in
    distance_within shown n v c.add.result e (c.add.ensures.encloses.narrow r _ _ mean metres)
