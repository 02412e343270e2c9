use Rattle.std.proofs.Common.{arith}
use Rattle.oracle_core.proofs.Inquiring.{asking}
use Rattle.book_model.specs.calendars.Chinese.{is_leap_sui}
use Rattle.chinese_cal.proofs.sui.is_leap_sui.Goals as goal

pub returns-in_err-eleventh-clause-leap : goal.returns-in_err-eleventh-clause-leap
unfolding is_leap_sui
returns-in_err-eleventh-clause-leap g c = grind (arith, asking)

pub returns-clause-leap : goal.returns-clause-leap
unfolding is_leap_sui
returns-clause-leap g c = grind (arith, asking)
