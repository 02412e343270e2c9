-- The powers of a small whole number, and the sum of a polynomial term by term. A row of ΔT has at most seven
-- coefficients and its years are at most 256 from its origin, so that the sixth power, the last that is taken, has 48
-- bits and a product with one more 56: each is bounded by itself, by cases of the exponent. The last lemma is the
-- loop's step.
use Rattle.std.specs.Prelude.{◌≡◌, ℕ, ◌*◌, ◌^◌, ◌≤◌, ◌<◌, ℤ, ◌*ℤ◌, unsigned_abs, FitsSigned}
use Rattle.std.proofs.Common.{zero, suc, arith}
use Rattle.std.specs.Int.{w64}
use Rattle.std.proofs.lemmas.Int.{fits_signed_mul, to_z-of_z}
use Rattle.book_model.specs.sky.Correction.{int_power}
use Rattle.book_model.proofs.Corrections.{polynomial_none, polynomial_more, polynomial_all, power_none, power_more}
use Rattle.book_model.proofs.Corrections.{power_size}

-- the powers of 256 to the seventh fit 64 bits
small_power : (i : ℕ) → i ≤ 6 → 256 ^ i * 256 < 2 ^ 63
small_power zero h = omega arith
small_power (suc zero) h = omega arith
small_power (suc (suc zero)) h = omega arith
small_power (suc (suc (suc zero))) h = omega arith
small_power (suc (suc (suc (suc zero)))) h = omega arith
small_power (suc (suc (suc (suc (suc zero))))) h = omega arith
small_power (suc (suc (suc (suc (suc (suc zero)))))) h = omega arith
small_power (suc (suc (suc (suc (suc (suc (suc i))))))) h = absurd (omega arith)

-- the next power fits 64 bits
pub power_fits : (x p : ℤ) (i : ℕ) → unsigned_abs x ≤ 256 → i ≤ 6 → p ≡ int_power x i → FitsSigned w64 (p *ℤ x)
power_fits x p i h k e =
    let s : unsigned_abs p ≤ 256 ^ i = rw e (power_size 256 x i h) in
    fits_signed_mul w64 p x (256 ^ i) 256 s h (small_power i k)

pub ruleset polynomials = (
  polynomial_none,
  polynomial_more,
  polynomial_all,
  power_none,
  power_more,
  power_fits,
  to_z-of_z,
)
