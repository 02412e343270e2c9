use Rattle.std.proofs.Common.{arith}
use Rattle.oracle_core.proofs.Inquiring.{asking}
use Rattle.book_model.specs.calendars.Islamic.{islamic_on}
use Rattle.islamic_observed.proofs.date.from_fixed.Goals as goal

pub returns-in_err-first : goal.returns-in_err-first
unfolding islamic_on
returns-in_err-first g c = grind (arith, asking)

pub returns : goal.returns
unfolding islamic_on
returns g c = grind (arith, asking)
