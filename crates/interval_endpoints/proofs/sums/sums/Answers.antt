use Rattle.std.proofs.Common.{refl, arith}
use Rattle.std.proofs.lemmas.Int.{ints}
use Rattle.interval_endpoints.proofs.sums.sums.Goals as goal

pub returns-in_err-lo : goal.returns-in_err-lo
returns-in_err-lo g c = record { endpoints = rw c.from_residual.ensures (λ p q. c.in_err-lo.ensures.none refl p) }

pub returns-in_err-hi : goal.returns-in_err-hi
returns-in_err-hi g c =
    record { endpoints = rw c.from_residual-in_err-hi.ensures (λ p q. c.in_err-hi.ensures.none refl q) }

pub invariant_of-result : goal.invariant_of-result
invariant_of-result g c =
    record {
      ordered = omega (
        arith,
        ints,
        c.in_ok-lo.ensures.sum,
        c.in_ok-hi.ensures.sum,
        c.args.x.ordered,
        c.args.y.ordered,
      );
    }

pub returns : goal.returns
returns g c = record { endpoints = (c.in_ok-lo.ensures.sum, c.in_ok-hi.ensures.sum) }
