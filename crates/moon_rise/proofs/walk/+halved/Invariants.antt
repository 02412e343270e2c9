use Rattle.moon_rise.proofs.walk.+halved.Given as goal

abbrev pub decreases-halved : goal.decreases-halved
decreases-halved g l = l.more
