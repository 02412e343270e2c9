use Rattle.std.proofs.Common.{arith}
use Rattle.moon_rise.proofs.steady_intervals.SteadyInterval.empty.Goals as goal

pub returns : goal.returns
returns c = record { answers = λ holds. record { leads = λ i l u. absurd (omega (arith, l, u)) } }
