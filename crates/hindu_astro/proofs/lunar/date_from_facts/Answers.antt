use Rattle.std.proofs.Common.{arith}
use Rattle.oracle_core.proofs.Inquiring.{asking}
use Rattle.book_model.specs.calendars.HinduLunar.{hindu_lunar_on}
use Rattle.hindu_astro.proofs.lunar.date_from_facts.Goals as goal

pub returns-in_err-tithi : goal.returns-in_err-tithi
unfolding hindu_lunar_on
returns-in_err-tithi g c = grind (arith, asking)

pub returns-in_err-earlier : goal.returns-in_err-earlier
unfolding hindu_lunar_on
returns-in_err-earlier g c = grind (arith, asking)

pub returns : goal.returns
unfolding hindu_lunar_on
returns g c = grind (arith, asking)
