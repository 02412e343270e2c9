use Rattle.std.proofs.Common.{arith}
use Rattle.oracle_core.proofs.Inquiring.{asking}
use Rattle.book_model.specs.calendars.Chinese.{is_leap_at_start}
use Rattle.chinese_cal.proofs.years.is_leap_at_start.Goals as goal

pub returns-then-not-leap_sui-clause-early : goal.returns-then-not-leap_sui-clause-early
unfolding is_leap_at_start
returns-then-not-leap_sui-clause-early g c = grind (arith, asking)

pub returns-in_err-is_bare-clause-early : goal.returns-in_err-is_bare-clause-early
unfolding is_leap_at_start
returns-in_err-is_bare-clause-early g c = grind (arith, asking)

pub returns-then-branch-clause-early : goal.returns-then-branch-clause-early
unfolding is_leap_at_start
returns-then-branch-clause-early g c = grind (arith, asking)

pub returns-clause-early : goal.returns-clause-early
unfolding is_leap_at_start
returns-clause-early g c = grind (arith, asking)
