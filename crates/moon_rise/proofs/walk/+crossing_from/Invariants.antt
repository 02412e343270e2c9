use Rattle.moon_rise.proofs.walk.+crossing_from.Given as goal

abbrev pub decreases-crossing_from : goal.decreases-crossing_from
decreases-crossing_from g l = l.more
