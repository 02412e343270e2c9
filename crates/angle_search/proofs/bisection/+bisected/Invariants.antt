use Rattle.angle_search.proofs.bisection.+bisected.Given as goal

abbrev pub decreases-bisected : goal.decreases-bisected
decreases-bisected g l = l.more
