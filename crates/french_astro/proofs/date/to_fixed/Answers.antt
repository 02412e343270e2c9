use Rattle.std.proofs.Common.{arith}
use Rattle.std.proofs.lemmas.Int.{ints}
use Rattle.book_model.specs.declared.calendar.Calendar.TheVariants.{French}
use Rattle.book_model.proofs.DateLimits.{within_limits, by_size}
use Rattle.french_astro.specs.Dates.{fields_of_date}
use Rattle.oracle_core.proofs.Inquiring.{asking}
use Rattle.book_model.specs.calendars.French.{french_day}
use Rattle.french_astro.proofs.date.to_fixed.Goals as goal

pub new_year_fact-requires : goal.new_year_fact-requires
new_year_fact-requires g c =
    let year = within_limits French (fields_of_date c.args.date) 0 (omega arith) c.requires.askable.0 in
    let near = by_size c.args.date.year 9999 year.high in
    grind (arith, ints, near.0, near.1)

pub day_by-day-requires-clause-from_first_month : goal.day_by-day-requires-clause-from_first_month
day_by-day-requires-clause-from_first_month g c =
    let month = within_limits French (fields_of_date c.args.date) 1 (omega arith) c.requires.askable.0 in
    grind (arith, ints, month.low)

pub day_by-day-requires-clause-to_last_month : goal.day_by-day-requires-clause-to_last_month
day_by-day-requires-clause-to_last_month g c =
    let month = within_limits French (fields_of_date c.args.date) 1 (omega arith) c.requires.askable.0 in
    grind (arith, ints, month.high)

pub day_by-day-requires-clause-from_first_day : goal.day_by-day-requires-clause-from_first_day
day_by-day-requires-clause-from_first_day g c =
    let day = within_limits French (fields_of_date c.args.date) 2 (omega arith) c.requires.askable.0 in
    grind (arith, ints, day.low)

pub day_by-day-requires-clause-to_last_day : goal.day_by-day-requires-clause-to_last_day
day_by-day-requires-clause-to_last_day g c =
    let day = within_limits French (fields_of_date c.args.date) 2 (omega arith) c.requires.askable.0 in
    grind (arith, ints, day.high)

pub returns-in_err-first : goal.returns-in_err-first
unfolding french_day
returns-in_err-first g c = grind (arith, asking)

pub returns : goal.returns
unfolding french_day
returns g c = grind (arith, asking)
