use Rattle.std.proofs.Common.{arith}
use Rattle.std.proofs.lemmas.Int.{ints}
use Rattle.day_facts.proofs.nowruz.nowruz.Goals as goal

pub returns-clause-close : goal.returns-clause-close
returns-clause-close g c = λ e. c.season_day.ensures.close (
  (omega (arith, ints), omega (arith, ints)),
  (omega (arith, ints), omega (arith, ints)),
) e
