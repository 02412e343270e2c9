use Rattle.std.proofs.Common.{arith}
use Rattle.oracle_core.proofs.Inquiring.{asking}
use Rattle.book_model.specs.calendars.Chinese.{is_leap_month}
use Rattle.chinese_cal.proofs.leap_months.is_leap_month.Goals as goal

pub returns-in_err-before-clause-leap : goal.returns-in_err-before-clause-leap
unfolding is_leap_month
returns-in_err-before-clause-leap g c = grind (arith, asking)

pub returns-in_err-found-clause-leap : goal.returns-in_err-found-clause-leap
unfolding is_leap_month
returns-in_err-found-clause-leap g c = grind (arith, asking)

pub returns-clause-leap : goal.returns-clause-leap
unfolding is_leap_month
returns-clause-leap g c = grind (arith, asking)

pub returns-then-not-leap_sui-clause-leap : goal.returns-then-not-leap_sui-clause-leap
unfolding is_leap_month
returns-then-not-leap_sui-clause-leap g c = grind (arith, asking)

pub returns-in_err-is_bare-clause-leap : goal.returns-in_err-is_bare-clause-leap
unfolding is_leap_month
returns-in_err-is_bare-clause-leap g c = grind (arith, asking)

pub returns-then-not-branch-clause-leap : goal.returns-then-not-branch-clause-leap
unfolding is_leap_month
returns-then-not-branch-clause-leap g c = grind (arith, asking)
