use Rattle.std.proofs.Common.{arith}
use Rattle.oracle_core.proofs.Inquiring.{asking}
use Rattle.hebrew_observed.proofs.date.date_in_year.Goals as goal

pub returns-in_err-nisan : goal.returns-in_err-nisan
returns-in_err-nisan g c = grind (arith, asking)

pub returns : goal.returns
returns g c = grind (arith, asking)
