use Rattle.std.proofs.Common.{◌+◌, ◌^◌}
use Rattle.book_model.specs.numbers.Bounds.{Reach}
use Rattle.moon_core.specs.Widths.{days_and, longitude_bound}
use Rattle.moon_core.proofs.Measured.{longitude_within}
use Rattle.moon_core.proofs.TermWidths.{centuries_beside, longitude_beside}
use Rattle.moon_core.proofs.longitude.longitude.Goals as goal

pub returns-clause-measured : goal.returns-clause-measured
returns-clause-measured g c = λ v e h.
    let shown = g.E.Enclosure.shown in
    let n = g.E.Enclosure.BITS in
    let b = c.args.elements in
    let r : Reach = record { width = v + 2 ^ 17; bounds = days_and longitude_bound } in
    longitude_within shown n v c.add-2.result e
    (c.add-2.ensures.encloses.narrow r _ _
    (c.add.ensures.encloses.narrow r _ _ (longitude_beside shown n v longitude_bound b h)
    (c.mul_frac.ensures.encloses.narrow r _ (c.inequalities.ensures.narrow v e h)))
    (c.nutation.ensures.encloses.narrow r _ (centuries_beside shown n v longitude_bound b h)))
