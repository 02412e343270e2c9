use Rattle.std.proofs.Common.{arith, rules, SFits, w64}
use Rattle.std.proofs.lemmas.Int.{to_z-of_z, ints}
use Rattle.book_model.specs.declared.calendar.Calendar.TheVariants.{Bahai}
use Rattle.book_model.proofs.DateLimits.{within_limits, by_size}
use Rattle.bahai_cal.specs.Dates.{fields_of_date}
use Rattle.oracle_core.proofs.Inquiring.{asking}
use Rattle.book_model.specs.calendars.Bahai.{bahai_day}
use Rattle.bahai_cal.proofs.date.to_fixed.Goals as goal

pub year_number-requires-clause-major_from : goal.year_number-requires-clause-major_from
year_number-requires-clause-major_from g c =
    let major = within_limits Bahai (fields_of_date c.args.date) 0 (omega arith) c.requires.askable.0 in
    (by_size c.args.date.major 9 major.high).0

pub year_number-requires-clause-major_to : goal.year_number-requires-clause-major_to
year_number-requires-clause-major_to g c =
    let major = within_limits Bahai (fields_of_date c.args.date) 0 (omega arith) c.requires.askable.0 in
    (by_size c.args.date.major 9 major.high).1

pub month_start-start-requires-clause-to_last_month : goal.month_start-start-requires-clause-to_last_month
month_start-start-requires-clause-to_last_month g c =
    let month = within_limits Bahai (fields_of_date c.args.date) 3 (omega arith) c.requires.askable.0 in
    let f : SFits w64 c.from.result = search rules in
    simp to_z-of_z (omega (arith, ints, c.from.ensures, month.high))

pub day_counted_from-requires-clause-from_first_day : goal.day_counted_from-requires-clause-from_first_day
day_counted_from-requires-clause-from_first_day g c =
    let day = within_limits Bahai (fields_of_date c.args.date) 4 (omega arith) c.requires.askable.0 in
    let f : SFits w64 c.from-2.result = search rules in
    simp to_z-of_z (omega (arith, ints, c.from-2.ensures, day.low))

pub day_counted_from-requires-clause-to_last_day : goal.day_counted_from-requires-clause-to_last_day
day_counted_from-requires-clause-to_last_day g c =
    let day = within_limits Bahai (fields_of_date c.args.date) 4 (omega arith) c.requires.askable.0 in
    let f : SFits w64 c.from-2.result = search rules in
    simp to_z-of_z (omega (arith, ints, c.from-2.ensures, day.high))

pub returns : goal.returns
unfolding bahai_day
returns g c = grind (arith, asking)
