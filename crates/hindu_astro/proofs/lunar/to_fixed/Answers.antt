use Rattle.std.proofs.Common.{arith}
use Rattle.std.proofs.lemmas.Int.{ints}
use Rattle.book_model.specs.declared.calendar.Calendar.TheVariants.{HinduLunar}
use Rattle.book_model.proofs.DateLimits.{within_limits, by_size}
use Rattle.hindu_astro.specs.Dates.{fields_of_lunar}
use Rattle.oracle_core.proofs.Inquiring.{asking}
use Rattle.book_model.specs.calendars.HinduLunar.{hindu_lunar_day}
use Rattle.hindu_astro.proofs.lunar.to_fixed.Goals as goal

pub day_by_sun-by_sun-requires : goal.day_by_sun-by_sun-requires
day_by_sun-by_sun-requires g c =
    let year = within_limits HinduLunar (fields_of_lunar c.args.date) 0 (omega arith) c.requires.askable.0 in
    let month = within_limits HinduLunar (fields_of_lunar c.args.date) 1 (omega arith) c.requires.askable.0 in
    let near = by_size c.args.date.year 9999 year.high in
    grind (arith, ints, near.0, near.1, month.low, month.high)

pub returns : goal.returns
unfolding hindu_lunar_day
returns g c = grind (arith, asking)
