use Rattle.std.proofs.Common.{arith}
use Rattle.oracle_core.proofs.Inquiring.{asking}
use Rattle.chinese_cal.proofs.WalkLemmas.{prior_is_walk}
use Rattle.chinese_cal.proofs.walk.prior.Goals as goal

pub returns-in_err-months-clause-prior : goal.returns-in_err-months-clause-prior
returns-in_err-months-clause-prior g c = rw (prior_is_walk 15 c.args.first c.args.month) (grind (arith, asking))

pub returns-clause-prior : goal.returns-clause-prior
returns-clause-prior g c = rw (prior_is_walk 15 c.args.first c.args.month) (grind (arith, asking))
