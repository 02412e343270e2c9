use Rattle.std.proofs.Common.{arith}
use Rattle.oracle_core.proofs.Inquiring.{asking}
use Rattle.book_model.specs.calendars.HinduLunar.{has_date}
use Rattle.hindu_astro.proofs.lunar.has_date.Goals as goal

pub returns-in_err-date : goal.returns-in_err-date
unfolding has_date
returns-in_err-date g c = grind (arith, asking)

pub returns : goal.returns
unfolding has_date
returns g c = grind (arith, asking)
