use Rattle.std.proofs.Common.{arith}
use Rattle.oracle_core.proofs.Inquiring.{asking}
use Rattle.book_model.specs.calendars.HebrewObserved.{hebrew_on}
use Rattle.hebrew_observed.proofs.date.from_fixed.Goals as goal

pub returns-in_err-first : goal.returns-in_err-first
unfolding hebrew_on
returns-in_err-first g c = grind (arith, asking)

pub returns-in_err-nisan : goal.returns-in_err-nisan
unfolding hebrew_on
returns-in_err-nisan g c = grind (arith, asking)

pub returns : goal.returns
unfolding hebrew_on
returns g c = grind (arith, asking)
