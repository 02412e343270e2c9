use Rattle.std.proofs.Common.{arith}
use Rattle.oracle_core.proofs.Inquiring.{asking}
use Rattle.book_model.specs.calendars.Bahai.{day_counted_from}
use Rattle.bahai_cal.proofs.date.day_counted_from.Goals as goal

pub returns-in_err-first : goal.returns-in_err-first
unfolding day_counted_from
returns-in_err-first g c = grind (arith, asking)

pub returns : goal.returns
unfolding day_counted_from
returns g c = grind (arith, asking)
