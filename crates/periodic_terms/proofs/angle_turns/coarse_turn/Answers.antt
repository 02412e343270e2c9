use Rattle.std.proofs.Common.{arith, ◌/◌, pos, ◌-ℤ◌}
use Rattle.std.proofs.lemmas.Int.{ints}
use Rattle.periodic_terms.proofs.angle_turns.coarse_turn.Goals as goal

pub returns : goal.returns
returns c =
    let e = c.shifted-angle.ensures.value in
    record {
      turn = record {
        turns = pos (c.shifted-angle.result / 45 / 1099511627776) -ℤ pos 131072;
        below = omega (arith, ints, e);
        close = omega
            (arith, ints, e);
      };
    }
