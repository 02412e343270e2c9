use Rattle.std.proofs.Common.{arith, pos, ◌-ℤ◌, FitsSigned, w64, ◌∙◌}
use Rattle.std.proofs.lemmas.Int.{to_z-of_z}
use Rattle.jiff.proofs.SpanFacts.{signed_arith, date_add-days, can_add-days}
use Rattle.civil_core.proofs.JiffCalendar.{day_one}
use Rattle.civil_core.proofs.jiff_date.date_on.Goals as goal

pub unwrap-requires : goal.unwrap-requires
unwrap-requires c =
    let d : FitsSigned w64 c.args.day = c.ranges.day in
    let f : FitsSigned w64 (c.args.day -ℤ pos 1) = omega (arith, signed_arith) in
    let only = simp to_z-of_z at c.days.ensures in
    let one = day_one c.date.result c.date.ensures in
    c.checked_add.ensures.succeeds.1 ((can_add-days c.date.result (c.args.day -ℤ pos 1) c.days.result only).1
    (omega (arith, signed_arith)))

pub returns : goal.returns
returns c =
    let d : FitsSigned w64 c.args.day = c.ranges.day in
    let f : FitsSigned w64 (c.args.day -ℤ pos 1) = omega (arith, signed_arith) in
    let only = simp to_z-of_z at c.days.ensures in
    let after = date_add-days c.date.result (c.args.day -ℤ pos 1) c.days.result only in
    let value = rw c.unwrap.ensures at c.checked_add.ensures.value in
    let one = day_one c.date.result c.date.ensures in
    let day = value ∙ after in
    record { day = omega (arith, signed_arith, one, day) }
