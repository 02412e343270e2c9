use Rattle.chinese_cal.proofs.walk.+walk_back.Given as goal

abbrev pub decreases-walk_back : goal.decreases-walk_back
decreases-walk_back g l = l.calls
