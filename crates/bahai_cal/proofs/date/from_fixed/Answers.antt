use Rattle.std.proofs.Common.{arith}
use Rattle.oracle_core.proofs.Inquiring.{asking}
use Rattle.book_model.specs.calendars.Bahai.{bahai_on}
use Rattle.bahai_cal.proofs.date.from_fixed.Goals as goal

pub returns-in_err-first : goal.returns-in_err-first
unfolding bahai_on
returns-in_err-first g c = grind (arith, asking)

pub returns-in_err-next : goal.returns-in_err-next
unfolding bahai_on
returns-in_err-next g c = grind (arith, asking)

pub returns-in_err-base : goal.returns-in_err-base
unfolding bahai_on
returns-in_err-base g c = grind (arith, asking)

pub returns : goal.returns
unfolding bahai_on
returns g c = grind (arith, asking)
