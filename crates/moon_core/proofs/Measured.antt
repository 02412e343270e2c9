-- How wide the moon's longitude, latitude and phase are at the scale 2^-56, and the numbers of months by which new
-- moons are found.
use Rattle.std.specs.Prelude.{◌≡◌, ℕ, ◌+◌, ◌*◌, ◌/◌, ◌^◌, ◌≤◌, ◌<◌, true, ℤ, pos, neg_ℤ, refl, if◌then◌else◌, ◌==◌}
use Rattle.std.specs.Prelude.{Result, Ok, Err, IfOk}
use Rattle.std.proofs.Common.{arith}
use Rattle.std.proofs.lemmas.Int.{ints}
use Rattle.book_model.specs.Interval.{Interval}
use Rattle.book_model.specs.declared.fail.Fail.{Fail}
use Rattle.book_model.specs.declared.moon_tables.TheConstants.{MILLIONTH}
use Rattle.book_model.specs.declared.new_moon_tables.TheConstants.{DAY_IN_MONTHS, DEGREE_IN_MONTHS, TURN, LATE_START}
use Rattle.book_model.specs.declared.tables.TheConstants.{HALF}
use Rattle.book_model.specs.numbers.Bounds.{Bound, unbounded, bounded, Reach, implies, bound_of, limits_at, limits_of}
use Rattle.book_model.specs.numbers.Bounds.{integer_bound, constant_bound, sum_bound, difference_bound, negated_bound}
use Rattle.book_model.specs.numbers.Bounds.{scaled_bound, product_bound, power_bound, maximum_bound, spanned_bound}
use Rattle.book_model.specs.numbers.Bounds.{sine_spans}
use Rattle.book_model.specs.numbers.Expressions.{Expression, argument, integer, constant, add, subtract, scale}
use Rattle.book_model.specs.numbers.Expressions.{remainder}
use Rattle.book_model.specs.numbers.Fractions.{fraction_of}
use Rattle.book_model.specs.numbers.Polynomials.{quadratic_of, quadratic_term_of}
use Rattle.book_model.specs.numbers.Relations.{Narrow}
use Rattle.book_model.specs.programs.Widths.{IsAbout, IsMoment, IsUpTo, table_days, table_from, table_to, IsDated}
use Rattle.book_model.specs.programs.Widths.{IsSince}
use Rattle.book_model.specs.sky.Latitude.{venus_by, flattening_by}
use Rattle.book_model.specs.sky.Phases.{size_of}
use Rattle.book_model.specs.sky.Sun.{nutation_of}
use Rattle.encl_core.proofs.Measuring.{measured, sloped, looser}
use Rattle.encl_core.proofs.StepWidths.{left_within}
use Rattle.sun_core.specs.Daily.{in_centuries, has_daily, by_centuries, by_days, daily_term_of}
use Rattle.sun_core.proofs.Measured.{days_of}
use Rattle.moon_core.specs.Daily.{daily_quartic_of, computed_flattening_of, inequalities_by, longitude_by}
use Rattle.moon_core.specs.Daily.{millionths_by}
use Rattle.moon_core.specs.Widths.{days_and, latitude_bound, longitude_bound}

-- ---- what is left of a wrap, where it answers: as wide as what was wrapped, whatever that is
pub left_answer : {E : Type 0} (shown : E → Interval) (n m v : ℕ) (x : E) (result : Result E Fail) → n ≡ 56 → m < 2 ^ 32
    → IsAbout (2 ^ 90) v (shown x)
    → IfOk result (λ y. (q : ℤ) (r : Reach) (e : Expression) → Narrow shown (limits_of n) r e x
    → Narrow shown (limits_of n) r (remainder m e q) y)
    → IfOk result (λ y. IsUpTo m v (shown y))
left_answer shown n m v x (Ok y) e k h f = left_within shown n m v x y e k h f
left_answer shown n m v x (Err f) e k h g = tt

-- ---- longitude and latitude
longitude_reach : implies (bound_of (limits_at 56) (days_and longitude_bound)
    (longitude_by (inequalities_by (argument 1) days_of) days_of))
    (bounded (neg_ℤ (pos (2 ^ 57))) (pos (2 ^ 57)) (35 * 2 ^ 39) (2 ^ 31)) ≡ true
unfolding implies bound_of integer_bound constant_bound sum_bound difference_bound scaled_bound product_bound
    power_bound spanned_bound sine_spans
    computed_flattening_of daily_quartic_of nutation_of quadratic_term_of quadratic_of daily_term_of by_days has_daily
    by_centuries in_centuries
longitude_reach = refl

latitude_reach : implies (bound_of (limits_at 56) (days_and latitude_bound)
    (scale (fraction_of MILLIONTH) (millionths_by (argument 1) days_of)))
    (bounded (neg_ℤ (pos (7 * 2 ^ 32))) (pos (7 * 2 ^ 32)) (5 * 2 ^ 39) (2 ^ 29)) ≡ true
unfolding implies bound_of integer_bound constant_bound sum_bound difference_bound scaled_bound product_bound
    power_bound spanned_bound sine_spans
    venus_by flattening_by daily_quartic_of daily_term_of by_days has_daily by_centuries in_centuries
latitude_reach = refl

module _ {E : Type 0} (shown : E → Interval) (n v : ℕ) (y : E) (e : n ≡ 56) where
  pub longitude_within : Narrow shown (limits_of n) (record { width = v + 2 ^ 17; bounds = days_and longitude_bound })
      (longitude_by (inequalities_by (argument 1) days_of) days_of) y
      → IsAbout (2 ^ 90) (20 * v + 2 ^ 36) (shown y)
  longitude_within h =
      looser _ _ _ _ (20 * v + 2 ^ 36) (20 * v + 2 ^ 36) _ (omega (arith, ints)) (omega (arith, ints)) (omega arith)
      (measured shown n (v + 2 ^ 17) (days_and longitude_bound)
      (longitude_by (inequalities_by (argument 1) days_of) days_of) (neg_ℤ (pos (2 ^ 57)))
      (pos (2 ^ 57)) (35 * 2 ^ 39) (2 ^ 31) (20 * v + 2 ^ 36) y e longitude_reach (omega arith) h)

  pub latitude_within : Narrow shown (limits_of n) (record { width = v + 2 ^ 17; bounds = days_and latitude_bound })
      (scale (fraction_of MILLIONTH) (millionths_by (argument 1) days_of)) y
      → IsAbout (7 * 2 ^ 32) (4 * v + 2 ^ 36) (shown y)
  latitude_within h = measured shown n (v + 2 ^ 17) (days_and latitude_bound)
      (scale (fraction_of MILLIONTH) (millionths_by (argument 1) days_of)) _ _
      (5 * 2 ^ 39) (2 ^ 29) (4 * v + 2 ^ 36) y e latitude_reach (omega arith) h

-- ---- the moon's longitude less the sun's
abbrev longitudes : ℕ → Bound
longitudes k = if k == 0 then bounded (pos 0) (pos (360 * 2 ^ 32)) (20 * 2 ^ 40) (2 ^ 36) else bounded (pos 0)
    (pos (360 * 2 ^ 32)) (2 * 2 ^ 40) (2 ^ 32)

elongation_reach : implies (bound_of (limits_at 56) longitudes (subtract (argument 0) (argument 1)))
    (bounded (neg_ℤ (pos (2 ^ 90))) (pos (2 ^ 90)) (22 * 2 ^ 40) (17 * 2 ^ 32)) ≡ true
unfolding implies bound_of difference_bound
elongation_reach = refl

pub elongation_within : {E : Type 0} (shown : E → Interval) (n v : ℕ) (m s d : E) → n ≡ 56
    → IsUpTo 360 (20 * v + 2 ^ 36) (shown m)
    → IsUpTo 360 (2 * v + 2 ^ 32) (shown s)
    → ((r : Reach) (p q : Expression) → Narrow shown (limits_of n) r p m → Narrow shown (limits_of n) r q s
    → Narrow shown (limits_of n) r (subtract p q) d)
    → IsAbout (2 ^ 90) (22 * v + 17 * 2 ^ 32) (shown d)
elongation_within shown n v m s d e h k f =
    measured shown n v longitudes (subtract (argument 0) (argument 1)) _ _ (22 * 2 ^ 40) (17 * 2 ^ 32)
    (22 * v + 17 * 2 ^ 32) d e elongation_reach (omega arith)
    (f (record { width = v; bounds = longitudes }) (argument 0) (argument 1)
    (sloped shown (limits_of n) v (20 * v + 2 ^ 36) longitudes 0 (pos 0) (pos (360 * 2 ^ 32)) (20 * 2 ^ 40)
    (2 ^ 36) m refl (omega arith) h)
    (sloped shown (limits_of n) v (2 * v + 2 ^ 32) longitudes 1 (pos 0) (pos (360 * 2 ^ 32)) (2 * 2 ^ 40)
    (2 ^ 32) s refl (omega arith) k))

-- ---- months
abbrev moments : ℕ → Bound
moments k = if k == 0 then bounded (neg_ℤ (pos (2 ^ 58))) (pos (2 ^ 58)) (2 ^ 40) 0 else table_days 1 0 (2 ^ 30)

months_reach : implies (bound_of (limits_at 56) moments (scale (fraction_of DAY_IN_MONTHS)
    (subtract (argument 0) (argument 1))))
    (bounded (neg_ℤ (pos (2 ^ 54))) (pos (2 ^ 54)) 37900000000 37000000) ≡ true
unfolding implies bound_of difference_bound scaled_bound
months_reach = refl

-- the months from a new moon to a moment
pub months_within : {E : Type 0} (shown : E → Interval) (n v : ℕ) (t m d y : E) → n ≡ 56 → IsMoment v (shown t)
    → IsDated 1 (2 ^ 30) (shown m)
    → ((r : Reach) (p q : Expression) → Narrow shown (limits_of n) r p t → Narrow shown (limits_of n) r q m
    → Narrow shown (limits_of n) r (subtract p q) d)
    → ((r : Reach) (p : Expression) → Narrow shown (limits_of n) r p d
    → Narrow shown (limits_of n) r (scale (fraction_of DAY_IN_MONTHS) p) y)
    → IsAbout (2 ^ 54) (v / 29 + 2 ^ 26) (shown y)
months_within shown n v t m d y e h k f g =
    let r : Reach = record { width = v; bounds = moments } in
    measured shown n v moments (scale (fraction_of DAY_IN_MONTHS) (subtract (argument 0) (argument 1))) _
    _ 37900000000 37000000 (v / 29 + 2 ^ 26) y e
    months_reach (omega arith)
    (g r _ (f r (argument 0) (argument 1)
    (sloped shown (limits_of n) v v moments 0 (neg_ℤ (pos (2 ^ 58))) (pos (2 ^ 58)) (2 ^ 40) 0 t refl (omega arith) h)
    (sloped shown (limits_of n) v (2 ^ 30) moments 1 (table_from 1) (table_to 1) 0 (2 ^ 30) m refl (omega arith) k)))

pub months_most : (v : ℕ) (i : Interval) → IsAbout (2 ^ 54) v i → IsAbout (2 ^ 90) v i
months_most v i h = looser _ _ _ _ v v i (omega (arith, ints)) (omega (arith, ints)) (omega arith) h

pub months_about : (v : ℕ) (i : Interval) → IsAbout (2 ^ 54) v i → IsAbout (2 ^ 89) v i
months_about v i h = looser _ _ _ _ v v i (omega (arith, ints)) (omega (arith, ints)) (omega arith) h

-- half a month more
abbrev month_bounds : ℕ → Bound
month_bounds k = bounded (neg_ℤ (pos (2 ^ 89))) (pos (2 ^ 89)) (2 ^ 40) 0

half_reach : implies (bound_of (limits_at 56) month_bounds (add (argument 0) (constant (fraction_of HALF))))
    (bounded (neg_ℤ (pos (2 ^ 90))) (pos (2 ^ 90)) (2 ^ 40) (2 ^ 8)) ≡ true
unfolding implies bound_of constant_bound sum_bound
half_reach = refl

pub half_within : {E : Type 0} (shown : E → Interval) (n v : ℕ) (m half y : E) → n ≡ 56 → IsAbout (2 ^ 89) v (shown m)
    → ((r : Reach) → Narrow shown (limits_of n) r (constant (fraction_of HALF)) half)
    → ((r : Reach) (p q : Expression) → Narrow shown (limits_of n) r p m → Narrow shown (limits_of n) r q half
    → Narrow shown (limits_of n) r (add p q) y)
    → IsAbout (2 ^ 90) (v + 2 ^ 8) (shown y)
half_within shown n v m half y e h i f =
    let r : Reach = record { width = v; bounds = month_bounds } in
    measured shown n v month_bounds (add (argument 0) (constant (fraction_of HALF))) _ _ (2 ^ 40) (2 ^ 8) (v + 2 ^ 8) y
    e half_reach (omega arith)
    (f r (argument 0) _ (sloped shown (limits_of n) v v month_bounds 0 (neg_ℤ (pos (2 ^ 89))) (pos (2 ^ 89))
    (2 ^ 40) 0 m refl (omega arith) h) (i r))

-- ---- the phase by months
abbrev rest_bounds : ℕ → Bound
rest_bounds k = bounded (pos 0) (pos (1 * 2 ^ 32)) (2 ^ 40) 0

turn_reach : implies (bound_of (limits_at 56) rest_bounds (scale (fraction_of TURN) (argument 0)))
    (bounded (pos 0) (pos (360 * 2 ^ 32)) (360 * 2 ^ 40) (2 ^ 9))
    ≡ true
unfolding implies bound_of scaled_bound
turn_reach = refl

pub by_months_within : {E : Type 0} (shown : E → Interval) (n v : ℕ) (m y : E) → n ≡ 56
    → IsUpTo 1 (v / 29 + 2 ^ 26) (shown m)
    → ((r : Reach) (p : Expression) → Narrow shown (limits_of n) r p m
    → Narrow shown (limits_of n) r (scale (fraction_of TURN) p) y)
    → IsUpTo 360 (13 * v + 2 ^ 35) (shown y)
by_months_within shown n v m y e h f =
    measured shown n (v / 29 + 2 ^ 26) rest_bounds (scale (fraction_of TURN) (argument 0)) _ _ (360 * 2 ^ 40) (2 ^ 9)
    (13 * v + 2 ^ 35) y e turn_reach
    (omega arith)
    (f (record { width = v / 29 + 2 ^ 26; bounds = rest_bounds }) (argument 0)
    (sloped shown (limits_of n) (v / 29 + 2 ^ 26) (v / 29 + 2 ^ 26) rest_bounds 0 (pos 0) (pos (1 * 2 ^ 32))
    (2 ^ 40) 0 m refl (omega arith) h))

-- ---- which of two phases is taken
abbrev phases : ℕ → Bound
phases k = if k == 0 then bounded (pos 0) (pos (360 * 2 ^ 32)) (22 * 2 ^ 40) (17 * 2 ^ 32) else bounded (pos 0)
    (pos (360 * 2 ^ 32)) (13 * 2 ^ 40) (2 ^ 35)

apart_reach : implies (bound_of (limits_at 56) phases (size_of (subtract (argument 0) (argument 1))))
    (bounded (neg_ℤ (pos (2 ^ 90))) (pos (2 ^ 90)) (35 * 2 ^ 40) (2 ^ 37)) ≡ true
unfolding implies bound_of difference_bound negated_bound maximum_bound
apart_reach = refl

pub apart_within : {E : Type 0} (shown : E → Interval) (n v : ℕ) (a b d y : E) → n ≡ 56
    → IsUpTo 360 (22 * v + 17 * 2 ^ 32) (shown a)
    → IsUpTo 360 (13 * v + 2 ^ 35) (shown b)
    → ((r : Reach) (p q : Expression) → Narrow shown (limits_of n) r p a → Narrow shown (limits_of n) r q b
    → Narrow shown (limits_of n) r (subtract p q) d)
    → ((r : Reach) (p : Expression) → Narrow shown (limits_of n) r p d → Narrow shown (limits_of n) r (size_of p) y)
    → IsAbout (2 ^ 90) (35 * v + 2 ^ 37) (shown y)
apart_within shown n v a b d y e h k f g =
    let r : Reach = record { width = v; bounds = phases } in
    measured shown n v phases (size_of (subtract (argument 0) (argument 1))) _ _ (35 * 2 ^ 40) (2 ^ 37)
    (35 * v + 2 ^ 37) y e apart_reach (omega arith)
    (g r _ (f r (argument 0) (argument 1)
    (sloped shown (limits_of n) v (22 * v + 17 * 2 ^ 32) phases 0 (pos 0) (pos (360 * 2 ^ 32)) (22 * 2 ^ 40)
    (17 * 2 ^ 32) a refl (omega arith) h)
    (sloped shown (limits_of n) v (13 * v + 2 ^ 35) phases 1 (pos 0) (pos (360 * 2 ^ 32)) (13 * 2 ^ 40) (2 ^ 35) b refl
    (omega arith) k)))

pub wider_turn : (v w : ℕ) (i : Interval) → v ≤ w → IsUpTo 360 v i → IsUpTo 360 w i
wider_turn v w i l h = looser _ _ _ _ v w i (omega (arith, ints)) (omega (arith, ints)) l h

straight_reach : implies (bound_of (limits_at 56) (λ k. unbounded) (integer (pos 180)))
    (bounded (neg_ℤ (pos (2 ^ 90))) (pos (2 ^ 90)) 0 0) ≡ true
unfolding implies bound_of integer_bound
straight_reach = refl

-- half a turn
pub straight_within : {E : Type 0} (shown : E → Interval) (n : ℕ) (y : E) → n ≡ 56
    → ((r : Reach) → Narrow shown (limits_of n) r (integer (pos 180)) y)
    → IsAbout (2 ^ 90) 0 (shown y)
straight_within shown n y e f = measured shown n 0 (λ k. unbounded) (integer (pos 180)) _ _ 0 0 0 y e straight_reach
    (omega arith)
    (f (record { width = 0; bounds = λ k. unbounded }))

-- ---- the number of a new moon
abbrev number_bounds : ℕ → Bound
number_bounds k = if k == 0 then bounded (neg_ℤ (pos (2 ^ 54))) (pos (2 ^ 54)) (2 ^ 36) (2 ^ 26) else bounded (pos 0)
    (pos (360 * 2 ^ 32)) (24 * 2 ^ 40)
    (2 ^ 37)

number_reach : implies (bound_of (limits_at 56) number_bounds
    (subtract (argument 0) (scale (fraction_of DEGREE_IN_MONTHS) (argument 1))))
    (bounded (neg_ℤ (pos (2 ^ 89))) (pos (2 ^ 89)) (2 ^ 38) (2 ^ 30)) ≡ true
unfolding implies bound_of difference_bound scaled_bound
number_reach = refl

pub number_within : {E : Type 0} (shown : E → Interval) (n v : ℕ) (m p s y : E) → n ≡ 56
    → IsAbout (2 ^ 54) (v / 29 + 2 ^ 26) (shown m)
    → IsUpTo 360 (24 * v + 2 ^ 37) (shown p)
    → ((r : Reach) (x : Expression) → Narrow shown (limits_of n) r x p
    → Narrow shown (limits_of n) r (scale (fraction_of DEGREE_IN_MONTHS) x) s)
    → ((r : Reach) (x z : Expression) → Narrow shown (limits_of n) r x m → Narrow shown (limits_of n) r z s
    → Narrow shown (limits_of n) r (subtract x z) y)
    → IsAbout (2 ^ 89) (v + 2 ^ 30) (shown y)
number_within shown n v m p s y e h k f g =
    let r : Reach = record { width = v; bounds = number_bounds } in
    measured shown n v number_bounds (subtract (argument 0) (scale (fraction_of DEGREE_IN_MONTHS) (argument 1))) _ _
    (2 ^ 38) (2 ^ 30) (v + 2 ^ 30) y e
    number_reach (omega arith)
    (g r (argument 0) _
    (sloped shown (limits_of n) v (v / 29 + 2 ^ 26) number_bounds 0 (neg_ℤ (pos (2 ^ 54))) (pos (2 ^ 54)) (2 ^ 36)
    (2 ^ 26) m refl (omega arith) h)
    (f r (argument 1) (sloped shown (limits_of n) v (24 * v + 2 ^ 37) number_bounds 1 (pos 0) (pos (360 * 2 ^ 32))
    (24 * 2 ^ 40) (2 ^ 37) p refl (omega arith)
    k)))

-- a moment of a new moon is a number that a comparison can have
pub dated_about : (v : ℕ) (i : Interval) → IsDated 1 v i → IsAbout (2 ^ 90) v i
dated_about v i h = looser _ _ _ _ v v i (omega (arith, ints)) (omega (arith, ints)) (omega arith) h

pub late_moment : (v : ℕ) (i : Interval) → IsSince LATE_START v i → IsMoment v i
late_moment v i h = looser _ _ _ _ v v i (omega (arith, ints)) (omega (arith, ints)) (omega arith) h
