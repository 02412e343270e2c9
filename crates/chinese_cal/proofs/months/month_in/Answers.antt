use Rattle.std.proofs.Common.{arith}
use Rattle.oracle_core.proofs.Inquiring.{asking}
use Rattle.book_model.specs.calendars.Chinese.{month_in}
use Rattle.chinese_cal.proofs.months.month_in.Goals as goal

pub returns-in_err-from_leap-clause-month : goal.returns-in_err-from_leap-clause-month
unfolding month_in
returns-in_err-from_leap-clause-month g c = grind (arith, asking)

pub returns-in_err-is_leap-clause-month : goal.returns-in_err-is_leap-clause-month
unfolding month_in
returns-in_err-is_leap-clause-month g c = grind (arith, asking)

pub returns-clause-month : goal.returns-clause-month
unfolding month_in
returns-clause-month g c = grind (arith, asking)
