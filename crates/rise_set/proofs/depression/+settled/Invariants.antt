use Rattle.rise_set.proofs.depression.+settled.Given as goal

abbrev pub decreases-settled : goal.decreases-settled
decreases-settled g l = l.more
