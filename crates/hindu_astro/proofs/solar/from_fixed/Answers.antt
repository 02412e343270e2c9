use Rattle.std.proofs.Common.{arith}
use Rattle.oracle_core.proofs.Inquiring.{asking}
use Rattle.book_model.specs.calendars.HinduSolar.{hindu_solar_on}
use Rattle.hindu_astro.proofs.solar.from_fixed.Goals as goal

pub returns-in_err-sign : goal.returns-in_err-sign
unfolding hindu_solar_on
returns-in_err-sign g c = grind (arith, asking)

pub returns-in_err-year : goal.returns-in_err-year
unfolding hindu_solar_on
returns-in_err-year g c = grind (arith, asking)

pub returns-in_err-first : goal.returns-in_err-first
unfolding hindu_solar_on
returns-in_err-first g c = grind (arith, asking)

pub returns : goal.returns
unfolding hindu_solar_on
returns g c = grind (arith, asking)
