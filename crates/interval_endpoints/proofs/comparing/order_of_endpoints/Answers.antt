use Rattle.std.proofs.Common.{rules}
use Rattle.interval_endpoints.proofs.Testing.{order_below, order_above, order_open, order_first, order_second}
use Rattle.interval_endpoints.proofs.comparing.order_of_endpoints.Goals as goal

pub returns-in_err-x : goal.returns-in_err-x
returns-in_err-x g c = record { value = rw (c.from_residual.ensures, c.in_err-x.was) (order_first _) }

pub returns-in_err-y : goal.returns-in_err-y
returns-in_err-y g c = record {
  value = rw (c.from_residual-in_err-y.ensures, c.in_ok-x.was, c.in_err-y.was)
      (order_second _ _);
}

pub returns-then-is_less : goal.returns-then-is_less
returns-then-is_less g c =
    record { value = rw (c.in_ok-x.was, c.in_ok-y.was) (order_below g.I.MachineWord.scale _ _ _ _ (search rules)) }

pub returns-then-is_less-2 : goal.returns-then-is_less-2
returns-then-is_less-2 g c =
    record {
      value = rw (c.in_ok-x.was, c.in_ok-y.was) (order_open g.I.MachineWord.scale _ _ _ _ (search rules)
          (search rules));
    }

pub returns-else-is_less-2 : goal.returns-else-is_less-2
returns-else-is_less-2 g c =
    record {
      value = rw (c.in_ok-x.was, c.in_ok-y.was) (order_above g.I.MachineWord.scale _ _ _ _ (search rules)
          (search rules));
    }
