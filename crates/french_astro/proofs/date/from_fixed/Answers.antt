use Rattle.std.proofs.Common.{arith}
use Rattle.oracle_core.proofs.Inquiring.{asking}
use Rattle.book_model.specs.calendars.French.{french_on}
use Rattle.french_astro.proofs.date.from_fixed.Goals as goal

pub returns-in_err-first : goal.returns-in_err-first
unfolding french_on
returns-in_err-first g c = grind (arith, asking)

pub returns : goal.returns
unfolding french_on
returns g c = grind (arith, asking)
