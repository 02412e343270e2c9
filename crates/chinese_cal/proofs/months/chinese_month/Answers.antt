use Rattle.std.proofs.Common.{arith}
use Rattle.oracle_core.proofs.Inquiring.{asking}
use Rattle.book_model.specs.calendars.Chinese.{chinese_month}
use Rattle.chinese_cal.proofs.months.chinese_month.Goals as goal

pub returns-in_err-sui-clause-month : goal.returns-in_err-sui-clause-month
unfolding chinese_month
returns-in_err-sui-clause-month g c = grind (arith, asking)

pub returns-in_err-leap_sui-clause-month : goal.returns-in_err-leap_sui-clause-month
unfolding chinese_month
returns-in_err-leap_sui-clause-month g c = grind (arith, asking)

pub returns-in_err-month-clause-month : goal.returns-in_err-month-clause-month
unfolding chinese_month
returns-in_err-month-clause-month g c = grind (arith, asking)

pub returns-clause-month : goal.returns-clause-month
unfolding chinese_month
returns-clause-month g c = grind (arith, asking)
