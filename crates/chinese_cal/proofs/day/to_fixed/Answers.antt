use Rattle.std.proofs.Common.{arith, rules, SFits, w64}
use Rattle.std.proofs.lemmas.Int.{to_z-of_z, ints}
use Rattle.book_model.specs.declared.calendar.Calendar.TheVariants.{Chinese}
use Rattle.book_model.proofs.DateLimits.{within_limits, by_size}
use Rattle.chinese_cal.specs.Dates.{fields_of_date}
use Rattle.chinese_cal.proofs.KeptLemmas.{empty_kept}
use Rattle.oracle_core.proofs.Inquiring.{asking}
use Rattle.book_model.specs.calendars.Chinese.{chinese_day}
use Rattle.chinese_cal.proofs.day.to_fixed.Goals as goal

pub mid_year_day-middle-requires-clause-from_cycle : goal.mid_year_day-middle-requires-clause-from_cycle
mid_year_day-middle-requires-clause-from_cycle g c =
    let cycle = within_limits Chinese (fields_of_date c.args.date) 0 (omega arith) c.requires.askable.0 in
    let near = by_size c.args.date.cycle 99 cycle.high in
    let f : SFits w64 c.from.result = search rules in
    simp to_z-of_z (omega (arith, ints, c.from.ensures, near.0))

pub mid_year_day-middle-requires-clause-to_cycle : goal.mid_year_day-middle-requires-clause-to_cycle
mid_year_day-middle-requires-clause-to_cycle g c =
    let cycle = within_limits Chinese (fields_of_date c.args.date) 0 (omega arith) c.requires.askable.0 in
    let near = by_size c.args.date.cycle 99 cycle.high in
    let f : SFits w64 c.from.result = search rules in
    simp to_z-of_z (omega (arith, ints, c.from.ensures, near.1))

pub mid_year_day-middle-requires-clause-from_year : goal.mid_year_day-middle-requires-clause-from_year
mid_year_day-middle-requires-clause-from_year g c =
    let year = within_limits Chinese (fields_of_date c.args.date) 1 (omega arith) c.requires.askable.0 in
    let f : SFits w64 c.from-2.result = search rules in
    simp to_z-of_z (omega (arith, ints, c.from-2.ensures, year.low))

pub mid_year_day-middle-requires-clause-to_year : goal.mid_year_day-middle-requires-clause-to_year
mid_year_day-middle-requires-clause-to_year g c =
    let year = within_limits Chinese (fields_of_date c.args.date) 1 (omega arith) c.requires.askable.0 in
    let f : SFits w64 c.from-2.result = search rules in
    simp to_z-of_z (omega (arith, ints, c.from-2.ensures, year.high))

pub month_beginning-requires-clause-from : goal.month_beginning-requires-clause-from
month_beginning-requires-clause-from g c =
    (within_limits Chinese (fields_of_date c.args.date) 2 (omega arith) c.requires.askable.0).low

pub month_beginning-requires-clause-to : goal.month_beginning-requires-clause-to
month_beginning-requires-clause-to g c =
    (within_limits Chinese (fields_of_date c.args.date) 2 (omega arith) c.requires.askable.0).high

pub returns-in_err-new_year : goal.returns-in_err-new_year
unfolding chinese_day
returns-in_err-new_year g c = grind (arith, asking)

pub returns-in_err-first : goal.returns-in_err-first
unfolding chinese_day
returns-in_err-first g c = grind (arith, asking)

pub returns : goal.returns
unfolding chinese_day
returns g c = grind (arith, asking)

pub new_year_by_day-requires-clause-kept : goal.new_year_by_day-requires-clause-kept
new_year_by_day-requires-clause-kept g c = grind (arith, empty_kept)
