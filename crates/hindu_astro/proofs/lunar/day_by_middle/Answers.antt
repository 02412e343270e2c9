use Rattle.std.proofs.Common.{arith}
use Rattle.oracle_core.proofs.Inquiring.{asking}
use Rattle.book_model.specs.calendars.HinduLunar.{day_by_middle}
use Rattle.hindu_astro.proofs.lunar.day_by_middle.Goals as goal

pub returns-in_err-tithi : goal.returns-in_err-tithi
unfolding day_by_middle
returns-in_err-tithi g c = grind (arith, asking)

pub returns : goal.returns
unfolding day_by_middle
returns g c = grind (arith, asking)
