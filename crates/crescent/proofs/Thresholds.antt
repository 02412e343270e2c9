-- How wide what the conditions of the criterion compare with is at the scale 2^-56: 0, 90 degrees, and the least arc of
-- light and altitude. Each is a constant, whose bound is computed once; and what is compared with it lies in the range
-- that a test asks (`IsAbout`).
use Rattle.std.specs.Prelude.{◌≡◌, ℕ, ◌^◌, true, pos, neg_ℤ, refl}
use Rattle.std.proofs.Common.{arith}
use Rattle.std.proofs.lemmas.Int.{ints}
use Rattle.book_model.specs.Interval.{Interval}
use Rattle.book_model.specs.declared.crescent_tables.TheConstants.{LEAST_ALTITUDE, LEAST_ARC_OF_LIGHT}
use Rattle.book_model.specs.numbers.Bounds.{unbounded, bounded, Reach, implies, bound_of, limits_at, limits_of}
use Rattle.book_model.specs.numbers.Bounds.{integer_bound, constant_bound, spanned_bound, sine_spans, cosine_spans}
use Rattle.book_model.specs.numbers.Expressions.{constant, integer, sine as sine_of, cosine as cosine_of}
use Rattle.book_model.specs.numbers.Fractions.{fraction_of}
use Rattle.book_model.specs.numbers.Relations.{Narrow}
use Rattle.book_model.specs.programs.Widths.{IsAbout}
use Rattle.encl_core.proofs.Measuring.{measured, looser}
use Rattle.rise_set.specs.Altitudes.{IsMoonAngle, IsAltitudeSine}
use Rattle.crescent.specs.Widths.{IsArcCosine}

module _ {E : Type 0} (shown : E → Interval) (n : ℕ) (y : E) (e : n ≡ 56) where
  none_reach : implies (bound_of (limits_at 56) (λ k. unbounded) (integer (pos 0)))
      (bounded (neg_ℤ (pos (2 ^ 90))) (pos (2 ^ 90)) 0 (2 ^ 16)) ≡ true
  unfolding implies bound_of integer_bound
  none_reach = refl

  pub none_within : ((r : Reach) → Narrow shown (limits_of n) r (integer (pos 0)) y)
      → IsAbout (2 ^ 90) (2 ^ 16) (shown y)
  none_within f = measured shown n 0 (λ k. unbounded) (integer (pos 0)) _ _ 0 (2 ^ 16) (2 ^ 16) y e none_reach
      (omega arith)
      (f (record { width = 0; bounds = λ k. unbounded }))

  quarter_reach : implies (bound_of (limits_at 56) (λ k. unbounded) (integer (pos 90)))
      (bounded (neg_ℤ (pos (2 ^ 90))) (pos (2 ^ 90)) 0 (2 ^ 16)) ≡ true
  unfolding implies bound_of integer_bound
  quarter_reach = refl

  pub quarter_within : ((r : Reach) → Narrow shown (limits_of n) r (integer (pos 90)) y)
      → IsAbout (2 ^ 90) (2 ^ 16) (shown y)
  quarter_within f = measured shown n 0 (λ k. unbounded) (integer (pos 90)) _ _ 0 (2 ^ 16) (2 ^ 16) y e quarter_reach
      (omega arith)
      (f (record { width = 0; bounds = λ k. unbounded }))

  least_arc_reach : implies
      (bound_of (limits_at 56) (λ k. unbounded) (cosine_of (constant (fraction_of LEAST_ARC_OF_LIGHT))))
      (bounded (neg_ℤ (pos (2 ^ 90))) (pos (2 ^ 90)) 0 (2 ^ 16)) ≡ true
  unfolding implies bound_of constant_bound spanned_bound cosine_spans
  least_arc_reach = refl

  pub least_arc_within : ((r : Reach)
      → Narrow shown (limits_of n) r (cosine_of (constant (fraction_of LEAST_ARC_OF_LIGHT))) y)
      → IsAbout (2 ^ 90) (2 ^ 16) (shown y)
  least_arc_within f = measured shown n 0 (λ k. unbounded) (cosine_of (constant (fraction_of LEAST_ARC_OF_LIGHT))) _ _ 0
      (2 ^ 16) (2 ^ 16) y e least_arc_reach
      (omega arith) (f (record { width = 0; bounds = λ k. unbounded }))

  least_altitude_reach : implies
      (bound_of (limits_at 56) (λ k. unbounded) (sine_of (constant (fraction_of LEAST_ALTITUDE))))
      (bounded (neg_ℤ (pos (2 ^ 90))) (pos (2 ^ 90)) 0 (2 ^ 16)) ≡ true
  unfolding implies bound_of constant_bound spanned_bound sine_spans
  least_altitude_reach = refl

  pub least_altitude_within : ((r : Reach)
      → Narrow shown (limits_of n) r (sine_of (constant (fraction_of LEAST_ALTITUDE))) y)
      → IsAbout (2 ^ 90) (2 ^ 16) (shown y)
  least_altitude_within f = measured shown n 0 (λ k. unbounded) (sine_of (constant (fraction_of LEAST_ALTITUDE))) _ _ 0
      (2 ^ 16) (2 ^ 16) y e
      least_altitude_reach (omega arith) (f (record { width = 0; bounds = λ k. unbounded }))

-- what is compared lies in the range of tests
pub angle_about : (i : Interval) → IsMoonAngle i → IsAbout (2 ^ 90) (2 ^ 38) i
angle_about i h = looser _ _ _ _ (2 ^ 38) (2 ^ 38) i (omega (arith, ints)) (omega (arith, ints)) (omega arith) h

pub arc_about : (i : Interval) → IsArcCosine i → IsAbout (2 ^ 90) (2 ^ 33) i
arc_about i h = looser _ _ _ _ (2 ^ 33) (2 ^ 33) i (omega (arith, ints)) (omega (arith, ints)) (omega arith) h

pub altitude_about : (i : Interval) → IsAltitudeSine i → IsAbout (2 ^ 90) (2 ^ 37) i
altitude_about i h = looser _ _ _ _ (2 ^ 37) (2 ^ 37) i (omega (arith, ints)) (omega (arith, ints)) (omega arith) h
