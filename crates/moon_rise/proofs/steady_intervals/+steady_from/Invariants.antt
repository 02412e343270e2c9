use Rattle.moon_rise.proofs.steady_intervals.+steady_from.Given as goal

abbrev pub decreases-steady_from : goal.decreases-steady_from
decreases-steady_from g l = l.quarters
