use Rattle.std.proofs.Common.{rules, arith, refl, SFits, w32, w64}
use Rattle.std.proofs.lemmas.Int.{to_z-of_z, ints}
use Rattle.line_core.proofs.GregorianDates.{fields_of_date}
use Rattle.line_core.proofs.gregorian.gregorian_date.Goals as goal

pub returns : goal.returns
returns c =
    let fn : SFits w64 c.args.day = c.ranges.day in
    let fy : SFits w32 c.unwrap-date.result.year = search rules in
    let fm : SFits w32 c.from.result = search rules in
    let fd : SFits w32 c.from-2.result = search rules in
    let date = rw c.unwrap-date.ensures at (simp to_z-of_z at c.from_fixed.ensures.date) in
    let fields = fields_of_date c.args.day c.unwrap-date.result.year _ _ date (omega (arith, ints, fy))
    (omega (arith, ints, fy)) in
    record { fields = simp to_z-of_z (rw (c.from.ensures, c.from-2.ensures, fields) refl) }
