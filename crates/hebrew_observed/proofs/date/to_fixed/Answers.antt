use Rattle.std.proofs.Common.{rules, arith, ◌≡◌, ◌≤◌, ℕ, ℤ, pos, SFits, w64}
use Rattle.std.proofs.lemmas.Int.{to_z-of_z, ints}
use Rattle.book_model.specs.declared.calendar.Calendar.TheVariants.{HebrewObserved}
use Rattle.book_model.proofs.DateLimits.{within_limits, by_size}
use Rattle.hebrew_observed.specs.Dates.{fields_of_date}
use Rattle.hebrew_observed.specs.Months.{IsMonth}
use Rattle.oracle_core.proofs.Inquiring.{asking}
use Rattle.book_model.specs.calendars.HebrewObserved.{hebrew_day}
use Rattle.hebrew_observed.proofs.date.to_fixed.Goals as goal

-- a month by its number
is_month : (z : ℤ) (m : ℕ) → z ≡ pos m → 1 ≤ m → m ≤ 13 → IsMonth z
is_month z m e low high = (omega (arith, ints, e, low), omega (arith, ints, e, high))

pub nisan_year-requires-clause-from : goal.nisan_year-requires-clause-from
nisan_year-requires-clause-from g c =
    let year = within_limits HebrewObserved (fields_of_date c.args.date) 0 (omega arith) c.requires.askable.0 in
    let near = by_size c.args.date.year 9999 year.high in
    grind (arith, ints, near.0)

pub nisan_year-requires-clause-to : goal.nisan_year-requires-clause-to
nisan_year-requires-clause-to g c =
    let year = within_limits HebrewObserved (fields_of_date c.args.date) 0 (omega arith) c.requires.askable.0 in
    let near = by_size c.args.date.year 9999 year.high in
    grind (arith, ints, near.1)

pub month_fact-requires-clause-month : goal.month_fact-requires-clause-month
month_fact-requires-clause-month g c =
    let month = within_limits HebrewObserved (fields_of_date c.args.date) 1 (omega arith) c.requires.askable.0 in
    let fm : SFits w64 c.from-month.result = search rules in
    let e = c.from-month.ensures in
    is_month _ c.args.date.month (simp to_z-of_z e) month.low month.high

pub day_by-requires-clause-from_first_day : goal.day_by-requires-clause-from_first_day
day_by-requires-clause-from_first_day g c =
    let day = within_limits HebrewObserved (fields_of_date c.args.date) 2 (omega arith) c.requires.askable.0 in
    grind (arith, ints, day.low)

pub day_by-requires-clause-to_last_day : goal.day_by-requires-clause-to_last_day
day_by-requires-clause-to_last_day g c =
    let day = within_limits HebrewObserved (fields_of_date c.args.date) 2 (omega arith) c.requires.askable.0 in
    grind (arith, ints, day.high)

pub returns-in_err-nisan : goal.returns-in_err-nisan
unfolding hebrew_day
returns-in_err-nisan g c = grind (arith, asking)

pub returns-in_err-first : goal.returns-in_err-first
unfolding hebrew_day
returns-in_err-first g c = grind (arith, asking)

pub returns : goal.returns
unfolding hebrew_day
returns g c = grind (arith, asking)
