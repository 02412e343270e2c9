use Rattle.std.proofs.Common.{◌≡◌, ℤ, ◌*ℤ◌, ◌≤ℤ◌, arith, rules, SFits}
use Rattle.std.specs.Int.{w128}
use Rattle.std.proofs.lemmas.Int.{ints, to_z-of_z}
use Rattle.book_model.specs.Interval.{between, ◌⊆◌}
use Rattle.book_model.specs.programs.Leading.{units_of_56}
use Rattle.interval_endpoints.specs.Scales.{Scale, coarse, fine, at_scale, finer_units}
use Rattle.interval_endpoints.proofs.spans.endpoints_at_fine_scale.Goals as goal

-- endpoints that are counted by the finer scale
record AreFiner (scale : Scale) (a b x y : ℤ) : Type 0 where
  low : x ≡ a *ℤ finer_units scale
  high : y ≡ b *ℤ finer_units scale

finer_hold : (scale : Scale) (a b x y : ℤ) → AreFiner scale a b x y
    → between (at_scale scale a) (at_scale scale b) ⊆ between (units_of_56 x) (units_of_56 y)
finer_hold coarse a b x y f =
    record {
      endpoints = (
        record { cross = omega (arith, ints, f.low) },
        record { cross = omega (arith, ints, f.high) },
      );
    }
finer_hold fine a b x y f =
    record {
      endpoints = (
        record { cross = omega (arith, ints, f.low) },
        record { cross = omega (arith, ints, f.high) },
      );
    }

finer_held : (scale : Scale) (a b x y : ℤ) → AreFiner scale a b x y
    → between (units_of_56 x) (units_of_56 y) ⊆ between (at_scale scale a) (at_scale scale b)
finer_held coarse a b x y f =
    record {
      endpoints = (
        record { cross = omega (arith, ints, f.low) },
        record { cross = omega (arith, ints, f.high) },
      );
    }
finer_held fine a b x y f =
    record {
      endpoints = (
        record { cross = omega (arith, ints, f.low) },
        record { cross = omega (arith, ints, f.high) },
      );
    }

finer_order : (scale : Scale) (a b x y : ℤ) → a ≤ℤ b → AreFiner scale a b x y → x ≤ℤ y
finer_order coarse a b x y o f = omega (arith, ints, f.low, f.high)
finer_order fine a b x y o f = omega (arith, ints, f.low, f.high)

pub returns-clause-holds : goal.returns-clause-holds
returns-clause-holds g c =
    let fl : SFits w128 c.at_fine_scale.result = search rules in
    let fh : SFits w128 c.at_fine_scale-2.result = search rules in
    rw c.in_ok-e.was (simp to_z-of_z (finer_hold g.I.MachineWord.scale _ _ _ _
    (record { low = c.at_fine_scale.ensures.value; high = c.at_fine_scale-2.ensures.value })))

pub returns-clause-tight : goal.returns-clause-tight
returns-clause-tight g c =
    let fl : SFits w128 c.at_fine_scale.result = search rules in
    let fh : SFits w128 c.at_fine_scale-2.result = search rules in
    rw c.in_ok-e.was (simp to_z-of_z (finer_held g.I.MachineWord.scale _ _ _ _
    (record { low = c.at_fine_scale.ensures.value; high = c.at_fine_scale-2.ensures.value })))

pub returns-clause-ordered : goal.returns-clause-ordered
returns-clause-ordered g c =
    let fl : SFits w128 c.at_fine_scale.result = search rules in
    let fh : SFits w128 c.at_fine_scale-2.result = search rules in
    simp to_z-of_z (finer_order g.I.MachineWord.scale _ _ _ _ c.in_ok-e.e.ordered
    (record { low = c.at_fine_scale.ensures.value; high = c.at_fine_scale-2.ensures.value }))
