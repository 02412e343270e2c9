use Rattle.std.proofs.Common.{arith}
use Rattle.oracle_core.proofs.Inquiring.{asking}
use Rattle.book_model.specs.calendars.HinduLunar.{day_by_month}
use Rattle.hindu_astro.proofs.lunar.day_by_month.Goals as goal

pub returns-in_err-tithi : goal.returns-in_err-tithi
unfolding day_by_month
returns-in_err-tithi g c = grind (arith, asking)

pub returns-in_err-middle : goal.returns-in_err-middle
unfolding day_by_month
returns-in_err-middle g c = grind (arith, asking)

pub returns : goal.returns
unfolding day_by_month
returns g c = grind (arith, asking)
