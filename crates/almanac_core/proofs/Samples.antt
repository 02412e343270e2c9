-- The days that a sample names lie within the range.
use Rattle.std.specs.Prelude.{ℕ}
use Rattle.std.proofs.Common.{arith}
use Rattle.almanac_core.specs.Sample.{day_by, IsSampleDay}

pub sample_day : (state : ℕ) → IsSampleDay (day_by state)
unfolding day_by
sample_day state = (omega arith, omega arith)
