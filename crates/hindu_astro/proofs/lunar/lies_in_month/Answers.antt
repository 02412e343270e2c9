use Rattle.std.proofs.Common.{arith}
use Rattle.oracle_core.proofs.Inquiring.{asking}
use Rattle.book_model.specs.calendars.HinduLunar.{lies_in_month}
use Rattle.hindu_astro.proofs.lunar.lies_in_month.Goals as goal

pub returns-in_err-date : goal.returns-in_err-date
unfolding lies_in_month
returns-in_err-date g c = grind (arith, asking)

pub returns : goal.returns
unfolding lies_in_month
returns g c = grind (arith, asking)
