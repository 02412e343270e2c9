use Rattle.moon_core.proofs.again.+count_again.Given as goal

abbrev pub decreases-count_again : goal.decreases-count_again
decreases-count_again l = l.tests
