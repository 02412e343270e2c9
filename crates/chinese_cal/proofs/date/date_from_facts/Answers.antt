use Rattle.std.proofs.Common.{arith}
use Rattle.oracle_core.proofs.Inquiring.{asking}
use Rattle.book_model.specs.calendars.Chinese.{chinese_on}
use Rattle.chinese_cal.proofs.date.date_from_facts.Goals as goal

pub returns-in_err-month-clause-date : goal.returns-in_err-month-clause-date
unfolding chinese_on
returns-in_err-month-clause-date g c = grind (arith, asking)

pub returns-clause-date : goal.returns-clause-date
unfolding chinese_on
returns-clause-date g c = grind (arith, asking)
