use Rattle.std.proofs.Common.{arith}
use Rattle.oracle_core.proofs.Inquiring.{asking}
use Rattle.book_model.specs.calendars.Persian.{persian_on}
use Rattle.persian_cal.proofs.date.from_fixed.Goals as goal

pub returns-in_err-first : goal.returns-in_err-first
unfolding persian_on
returns-in_err-first g c = grind (arith, asking)

pub returns-in_err-new_year : goal.returns-in_err-new_year
unfolding persian_on
returns-in_err-new_year g c = grind (arith, asking)

pub returns : goal.returns
unfolding persian_on
returns g c = grind (arith, asking)
