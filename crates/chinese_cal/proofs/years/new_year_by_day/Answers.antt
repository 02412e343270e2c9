use Rattle.std.proofs.Common.{arith}
use Rattle.oracle_core.proofs.Inquiring.{asking}
use Rattle.book_model.specs.calendars.Chinese.{new_year_by_day}
use Rattle.chinese_cal.proofs.years.new_year_by_day.Goals as goal

pub returns-in_err-new_year-clause-day : goal.returns-in_err-new_year-clause-day
unfolding new_year_by_day
returns-in_err-new_year-clause-day g c = grind (arith, asking)

pub returns-then-day-new_year-clause-day : goal.returns-then-day-new_year-clause-day
unfolding new_year_by_day
returns-then-day-new_year-clause-day g c = grind (arith, asking)

pub returns-else-day-new_year-clause-day : goal.returns-else-day-new_year-clause-day
unfolding new_year_by_day
returns-else-day-new_year-clause-day g c = grind (arith, asking)
