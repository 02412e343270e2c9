use Rattle.std.proofs.Common.{arith, ◌≡◌, refl}
use Rattle.moon_core.proofs.Replays.{no_turn}
use Rattle.moon_core.proofs.again.+count_again.Goals as goal

pub returns-else-tests-gt0 : goal.returns-else-tests-gt0
returns-else-tests-gt0 t c = record {
  counted = let z : c.args.tests ≡ 0 = omega (arith, c.if-tests-gt0.false) in
      rw (z, no_turn c.args.trail.now.count) refl;
}
