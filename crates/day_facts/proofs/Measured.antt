-- How wide the numbers are whose tests kinds of facts make, at the scale 2^-56. Each formula is computed with bounds in
-- place of its arguments (`bound_of`), once, as a closed term that is compared with what is wanted; `measured` leads
-- from there to the width of any enclosure, and `sloped` gives the bounds of an argument by its width.
use Rattle.std.specs.Prelude.{◌≡◌, ℕ, ◌+◌, ◌*◌, ◌^◌, ◌≤◌, true, ℤ, pos, neg_ℤ, refl, if◌then◌else◌, ◌==◌, Result, Ok}
use Rattle.std.specs.Prelude.{Err}
use Rattle.std.proofs.Common.{arith}
use Rattle.std.proofs.lemmas.Int.{ints}
use Rattle.book_model.specs.Interval.{Interval}
use Rattle.book_model.specs.declared.fail.Fail.{Fail}
use Rattle.book_model.specs.declared.sun_tables.TheConstants.{DEGREE_IN_TERMS}
use Rattle.book_model.specs.declared.tables.TheConstants.{THOUSANDTHS_OF_DEGREE}
use Rattle.book_model.specs.numbers.Bounds.{Bound, bounded, Reach, implies, bound_of, limits_at, limits_of}
use Rattle.book_model.specs.numbers.Bounds.{constant_bound, sum_bound, difference_bound, scaled_bound}
use Rattle.book_model.specs.numbers.Expressions.{Expression, argument, integer, subtract, scale}
use Rattle.book_model.specs.numbers.Fractions.{fraction_of}
use Rattle.book_model.specs.numbers.Relations.{Narrow}
use Rattle.book_model.specs.programs.Widths.{IsAbout, IsCorrection, IsMoment, IsSmall, IsUpTo, Measures, IsDated}
use Rattle.book_model.specs.sky.Facts.{IsFactDay, IsValueDay}
use Rattle.encl_core.proofs.Measuring.{measured, sloped, looser, moment_about}
use Rattle.moon_core.proofs.QuarterWidths.{whole_moment}
use Rattle.time_scales.specs.Widths.{IsMidnightDay}
use Rattle.day_facts.specs.Widths.{rounded_expression}

-- ---- days
pub fact_day : (d : ℤ) → IsValueDay d → IsFactDay d
fact_day d h = (omega (arith, ints, h.0), omega (arith, ints, h.1))

pub midnight_day : (d : ℤ) → IsValueDay d → IsMidnightDay d
midnight_day d h = (omega (arith, ints, h.0), omega (arith, ints, h.1))

pub small_day : (d : ℤ) → IsFactDay d → IsSmall d
small_day d h = (omega (arith, ints, h.0), omega (arith, ints, h.1))

-- ---- what is said of a nearer range, or of less width
pub later_about : (v : ℕ) (i : Interval) → IsAbout (2 ^ 59) v i → IsAbout (2 ^ 90) v i
later_about v i h = looser _ _ _ _ v v i (omega (arith, ints)) (omega (arith, ints)) (omega arith) h

pub dated_moment : (v : ℕ) (i : Interval) → IsDated 1 v i → IsMoment v i
dated_moment v i h = looser _ _ _ _ v v i (omega (arith, ints)) (omega (arith, ints)) (omega arith) h

pub moments_looser : {E : Type 0} (shown : E → Interval) (v u : ℕ) (r : Result E Fail) → v ≤ u
    → Measures (λ t. IsMoment v (shown t)) r
    → Measures (λ t. IsMoment u (shown t)) r
moments_looser shown v u (Ok t) h m = looser _ _ _ _ v u (shown t) (omega (arith, ints)) (omega (arith, ints)) h m
moments_looser shown v u (Err f) h m = m

pub turn_about : (v : ℕ) (i : Interval) → IsUpTo 360 v i → IsAbout (2 ^ 90) v i
turn_about v i h = looser _ _ _ _ v v i (omega (arith, ints)) (omega (arith, ints)) (omega arith) h

-- a whole number with which an enclosure is compared
pub whole_about : {E : Type 0} (shown : E → Interval) (n : ℕ) (d : ℤ) (x : E) → n ≡ 56 → IsSmall d
    → ((r : Reach) → Narrow shown (limits_of n) r (integer d) x)
    → IsAbout (2 ^ 90) 0 (shown x)
whole_about shown n d x e h f = moment_about 0 (shown x) (whole_moment shown n d x e h f)

-- ---- thousandths of a degree, spans of 30 degrees, milliseconds
abbrev turn_bounds : ℕ → Bound
turn_bounds k = if k == 0 then bounded (pos 0) (pos (360 * 2 ^ 32)) (2 ^ 40) 0 else bounded (neg_ℤ (pos (2 ^ 58)))
    (pos (2 ^ 58)) 0 0

thousandths_reach : implies
    (bound_of (limits_at 56) turn_bounds (scale (fraction_of THOUSANDTHS_OF_DEGREE) (argument 0)))
    (bounded (neg_ℤ (pos (2 ^ 90))) (pos (2 ^ 90)) (1000 * 2 ^ 40) (2 ^ 9)) ≡ true
unfolding implies bound_of scaled_bound
thousandths_reach = refl

terms_reach : implies (bound_of (limits_at 56) turn_bounds (scale (fraction_of DEGREE_IN_TERMS) (argument 0)))
    (bounded (neg_ℤ (pos (2 ^ 90))) (pos (2 ^ 90)) (2 ^ 40) (2 ^ 9)) ≡ true
unfolding implies bound_of scaled_bound
terms_reach = refl

spans_reach : implies
    (bound_of (limits_at 56) turn_bounds (scale (fraction_of DEGREE_IN_TERMS) (subtract (argument 1) (argument 0))))
    (bounded (neg_ℤ (pos (2 ^ 90))) (pos (2 ^ 90)) (2 ^ 40) (2 ^ 9)) ≡ true
unfolding implies bound_of difference_bound scaled_bound
spans_reach = refl

module _ {E : Type 0} (shown : E → Interval) (n v : ℕ) (s : E) (e : n ≡ 56) (h : IsUpTo 360 v (shown s)) where
  longitude_kept : Narrow shown (limits_of n) (record { width = v; bounds = turn_bounds }) (argument 0) s
  longitude_kept = sloped shown (limits_of n) v v turn_bounds 0 (pos 0) (pos (360 * 2 ^ 32)) (2 ^ 40) 0 s refl
      (omega arith) h

  pub thousandths_within : (y : E) → ((r : Reach) (p : Expression) → Narrow shown (limits_of n) r p s
      → Narrow shown (limits_of n) r (scale (fraction_of THOUSANDTHS_OF_DEGREE) p) y)
      → IsAbout (2 ^ 90) (1000 * v + 2 ^ 9) (shown y)
  thousandths_within y f =
      measured shown n v turn_bounds (scale (fraction_of THOUSANDTHS_OF_DEGREE) (argument 0)) _ _ (1000 * 2 ^ 40)
      (2 ^ 9) (1000 * v + 2 ^ 9) y e
      thousandths_reach (omega arith) (f (record { width = v; bounds = turn_bounds }) (argument 0) longitude_kept)

  pub terms_within : (y : E) → ((r : Reach) (p : Expression) → Narrow shown (limits_of n) r p s
      → Narrow shown (limits_of n) r (scale (fraction_of DEGREE_IN_TERMS) p) y) → IsAbout (2 ^ 90) (v + 2 ^ 9) (shown y)
  terms_within y f = measured shown n v turn_bounds (scale (fraction_of DEGREE_IN_TERMS) (argument 0)) _ _ (2 ^ 40)
      (2 ^ 9) (v + 2 ^ 9) y e terms_reach
      (omega arith) (f (record { width = v; bounds = turn_bounds }) (argument 0) longitude_kept)

  pub spans_within : (l d y : E) → IsMoment 0 (shown l)
      → ((r : Reach) (p q : Expression) → Narrow shown (limits_of n) r p l → Narrow shown (limits_of n) r q s
      → Narrow shown (limits_of n) r (subtract p q) d)
      → ((r : Reach) (p : Expression) → Narrow shown (limits_of n) r p d
      → Narrow shown (limits_of n) r (scale (fraction_of DEGREE_IN_TERMS) p) y)
      → IsAbout (2 ^ 90) (v + 2 ^ 9) (shown y)
  spans_within l d y k f g =
      let r : Reach = record { width = v; bounds = turn_bounds } in
      measured shown n v turn_bounds (scale (fraction_of DEGREE_IN_TERMS) (subtract (argument 1) (argument 0))) _ _
      (2 ^ 40) (2 ^ 9) (v + 2 ^ 9) y e spans_reach
      (omega arith)
      (g r _ (f r (argument 1) (argument 0) (sloped shown (limits_of n) v 0 turn_bounds 1 (neg_ℤ (pos (2 ^ 58)))
      (pos (2 ^ 58)) 0 0 l refl (omega arith) k)
      longitude_kept))

abbrev correction_bounds : ℕ → Bound
correction_bounds k = bounded (neg_ℤ (pos (2 ^ 30))) (pos (2 ^ 30)) (2 ^ 40) 0

milliseconds_reach : implies (bound_of (limits_at 56) correction_bounds (rounded_expression (argument 0)))
    (bounded (neg_ℤ (pos (2 ^ 90))) (pos (2 ^ 90)) (86400000 * 2 ^ 40) (2 ^ 10)) ≡ true
unfolding implies bound_of constant_bound sum_bound scaled_bound
milliseconds_reach = refl

-- ΔT in milliseconds, and a half
pub milliseconds_within : {E : Type 0} (shown : E → Interval) (n v : ℕ) (d y : E) → n ≡ 56 → IsCorrection v (shown d)
    → ((r : Reach) (x : Expression) → Narrow shown (limits_of n) r x d
    → Narrow shown (limits_of n) r (rounded_expression x) y)
    → IsAbout (2 ^ 90) (86400000 * v + 2 ^ 10) (shown y)
milliseconds_within shown n v d y e h f =
    measured shown n v correction_bounds (rounded_expression (argument 0)) _ _ (86400000 * 2 ^ 40) (2 ^ 10)
    (86400000 * v + 2 ^ 10) y e milliseconds_reach
    (omega arith)
    (f (record { width = v; bounds = correction_bounds }) (argument 0)
    (sloped shown (limits_of n) v v correction_bounds 0 (neg_ℤ (pos (2 ^ 30))) (pos (2 ^ 30)) (2 ^ 40) 0 d refl
    (omega arith) h))
