use Rattle.std.proofs.Common.{arith}
use Rattle.std.proofs.lemmas.Int.{ints}
use Rattle.bahai_cal.proofs.months.days_before.Goals as goal

pub returns : goal.returns
returns c = record { days = omega (arith, ints, c.ranges.number, c.requires.near.0, c.requires.near.1) }
