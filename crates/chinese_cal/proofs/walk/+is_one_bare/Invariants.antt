use Rattle.std.proofs.Common.{length}
use Rattle.chinese_cal.proofs.walk.+is_one_bare.Given as goal

abbrev pub decreases-is_one_bare : goal.decreases-is_one_bare
decreases-is_one_bare g l = length l.months.now
