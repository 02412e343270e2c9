use Rattle.std.proofs.Common.{arith}
use Rattle.oracle_core.proofs.Inquiring.{asking}
use Rattle.book_model.specs.calendars.HinduLunar.{lunar_date_by}
use Rattle.hindu_astro.proofs.lunar.date_from_tithis.Goals as goal

pub returns-in_err-before : goal.returns-in_err-before
unfolding lunar_date_by
returns-in_err-before g c = grind (arith, asking)

pub returns-in_err-after : goal.returns-in_err-after
unfolding lunar_date_by
returns-in_err-after g c = grind (arith, asking)

pub returns-in_err-year : goal.returns-in_err-year
unfolding lunar_date_by
returns-in_err-year g c = grind (arith, asking)

pub returns : goal.returns
unfolding lunar_date_by
returns g c = grind (arith, asking)
