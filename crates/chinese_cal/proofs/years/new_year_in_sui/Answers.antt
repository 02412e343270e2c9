use Rattle.std.proofs.Common.{arith}
use Rattle.oracle_core.proofs.Inquiring.{asking}
use Rattle.book_model.specs.calendars.Chinese.{new_year_in_sui}
use Rattle.chinese_cal.proofs.years.new_year_in_sui.Goals as goal

pub returns-in_err-sui-clause-day : goal.returns-in_err-sui-clause-day
unfolding new_year_in_sui
returns-in_err-sui-clause-day g c = grind (arith, asking)

pub returns-in_err-second-clause-day : goal.returns-in_err-second-clause-day
unfolding new_year_in_sui
returns-in_err-second-clause-day g c = grind (arith, asking)

pub returns-in_err-leap_sui-clause-day : goal.returns-in_err-leap_sui-clause-day
unfolding new_year_in_sui
returns-in_err-leap_sui-clause-day g c = grind (arith, asking)

pub returns-in_err-is_leap_at_start-clause-day : goal.returns-in_err-is_leap_at_start-clause-day
unfolding new_year_in_sui
returns-in_err-is_leap_at_start-clause-day g c = grind (arith, asking)

pub returns-then-branch-clause-day : goal.returns-then-branch-clause-day
unfolding new_year_in_sui
returns-then-branch-clause-day g c = grind (arith, asking)

pub returns-else-branch-clause-day : goal.returns-else-branch-clause-day
unfolding new_year_in_sui
returns-else-branch-clause-day g c = grind (arith, asking)
