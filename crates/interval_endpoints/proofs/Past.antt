-- How far a number is above the beginning of its period, without room for the beginning itself. Each number on the way
-- fits since it lies between bounds that the period and the modulus give: all linear, so that omega has them one by
-- one.
use Rattle.std.proofs.Common.{◌≡◌, ℕ, ◌^◌, ◌<◌, arith, ℤ, pos, ◌+ℤ◌, ◌*ℤ◌, ◌-ℤ◌, ◌≤ℤ◌, ◌<ℤ◌, SFits}
use Rattle.std.specs.Int.{w64, w128}
use Rattle.std.proofs.lemmas.Int.{ints}

-- how far an endpoint is above a number z, in units, by the whole number that is not above the endpoint
pub record AreLowered (z whole end : ℤ) : Type 0 where
  pub begun : SFits w128 z
  pub above : SFits w128 (whole -ℤ z)
  pub raised : SFits w128 ((whole -ℤ z) *ℤ pos (2 ^ 56))
  pub down : SFits w128 (whole *ℤ pos (2 ^ 56))
  pub rest : SFits w128 (end -ℤ whole *ℤ pos (2 ^ 56))
  pub sum : SFits w128 ((whole -ℤ z) *ℤ pos (2 ^ 56) +ℤ (end -ℤ whole *ℤ pos (2 ^ 56)))
  pub same : ((whole -ℤ z) *ℤ pos (2 ^ 56) +ℤ (end -ℤ whole *ℤ pos (2 ^ 56))) ≡ end -ℤ z *ℤ pos (2 ^ 56)

pub are_lowered : (z whole end : ℤ) (m : ℕ) → SFits w128 end → (whole *ℤ pos (2 ^ 56)) ≤ℤ end
    → end <ℤ ((whole +ℤ pos 1) *ℤ pos (2 ^ 56)) → (z *ℤ pos (2 ^ 56))
    ≤ℤ end → end <ℤ ((z +ℤ pos m) *ℤ pos (2 ^ 56)) → m < 2 ^ 32 → AreLowered z whole end
are_lowered z whole end m f a b c d l = record {
  begun = omega (arith, ints, f, a, b, c, d, l);
  above = omega (arith, ints, f, a, b, c, d, l);
  raised = omega (arith, ints, f, a, b, c, d, l);
  down = omega (arith, ints, f, a, b, c, d, l);
  rest = omega (arith, ints, f, a, b, c, d, l);
  sum = omega (arith, ints, f, a, b, c, d, l);
  same = omega (arith, ints);
}

-- and where there is room for it
pub record AreBegun (z end : ℤ) : Type 0 where
  pub begun : SFits w128 z
  pub raised : SFits w128 (z *ℤ pos (2 ^ 36))
  pub rest : SFits w128 (end -ℤ z *ℤ pos (2 ^ 36))

pub are_begun : (z end : ℤ) (m : ℕ) → SFits w64 end → (z *ℤ pos (2 ^ 36)) ≤ℤ end → end <ℤ ((z +ℤ pos m) *ℤ pos (2 ^ 36))
    → m < 2 ^ 32 → AreBegun z end
are_begun z end m f c d l = record {
  begun = omega (arith, ints, f, c, d, l);
  raised = omega (arith, ints, f, c, d, l);
  rest = omega (arith, ints, f, c, d, l);
}
