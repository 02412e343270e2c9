use Rattle.std.proofs.Common.{arith}
use Rattle.std.proofs.lemmas.Int.{ints}
use Rattle.book_model.specs.declared.calendar.Calendar.TheVariants.{Islamic}
use Rattle.book_model.proofs.DateLimits.{within_limits, by_size}
use Rattle.islamic_observed.specs.Dates.{fields_of_date}
use Rattle.oracle_core.proofs.Inquiring.{asking}
use Rattle.book_model.specs.calendars.Islamic.{islamic_day}
use Rattle.islamic_observed.proofs.date.to_fixed.Goals as goal

pub month_fact-requires : goal.month_fact-requires
month_fact-requires g c =
    let year = within_limits Islamic (fields_of_date c.args.date) 0 (omega arith) c.requires.askable.0 in
    let month = within_limits Islamic (fields_of_date c.args.date) 1 (omega arith) c.requires.askable.0 in
    let near = by_size c.args.date.year 9999 year.high in
    grind (arith, ints, near.0, near.1, month.low, month.high)

pub day_by-requires-clause-from_first_day : goal.day_by-requires-clause-from_first_day
day_by-requires-clause-from_first_day g c =
    let day = within_limits Islamic (fields_of_date c.args.date) 2 (omega arith) c.requires.askable.0 in
    grind (arith, ints, day.low)

pub day_by-requires-clause-to_last_day : goal.day_by-requires-clause-to_last_day
day_by-requires-clause-to_last_day g c =
    let day = within_limits Islamic (fields_of_date c.args.date) 2 (omega arith) c.requires.askable.0 in
    grind (arith, ints, day.high)

pub returns-in_err-first : goal.returns-in_err-first
unfolding islamic_day
returns-in_err-first g c = grind (arith, asking)

pub returns : goal.returns
unfolding islamic_day
returns g c = grind (arith, asking)
