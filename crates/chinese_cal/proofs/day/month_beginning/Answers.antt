use Rattle.std.proofs.Common.{arith}
use Rattle.oracle_core.proofs.Inquiring.{asking}
use Rattle.book_model.specs.calendars.Chinese.{month_beginning}
use Rattle.chinese_cal.proofs.day.month_beginning.Goals as goal

pub returns-in_err-first-clause-day : goal.returns-in_err-first-clause-day
unfolding month_beginning
returns-in_err-first-clause-day g c = grind (arith, asking)

pub returns-in_err-date-clause-day : goal.returns-in_err-date-clause-day
unfolding month_beginning
returns-in_err-date-clause-day g c = grind (arith, asking)

pub returns-then-has_month-clause-day : goal.returns-then-has_month-clause-day
unfolding month_beginning
returns-then-has_month-clause-day g c = grind (arith, asking)

pub returns-else-has_month-clause-day : goal.returns-else-has_month-clause-day
unfolding month_beginning
returns-else-has_month-clause-day g c = grind (arith, asking)
