-- How wide the sun's longitude, the estimates from it, the obliquity, the equation of time and noon are at the scale
-- 2^-56. The bound of each expression is computed once (`.._reach`), with the sum of the periodic terms as a free
-- argument whose own width is given; `measured` and `sloped` lead from there to the enclosure.
use Rattle.std.specs.Prelude.{◌≡◌, ℕ, ◌+◌, ◌-◌, ◌*◌, ◌/◌, ◌^◌, ◌≤◌, true, ℤ, pos, neg_ℤ, ◌+ℤ◌, ◌*ℤ◌, nat_lt}
use Rattle.std.specs.Prelude.{unsigned_abs, max, refl, if◌then◌else◌, ◌==◌}
use Rattle.std.proofs.Common.{arith}
use Rattle.std.proofs.lemmas.Int.{ints}
use Rattle.std.proofs.lemmas.Bool.{lt-ltb}
use Rattle.book_model.specs.Interval.{Interval}
use Rattle.book_model.specs.declared.frac.Frac.{Frac}
use Rattle.book_model.specs.declared.sun_tables.TheConstants.{OBLIQUITY, PARIS_LONGITUDE, PERSIAN_NOON_LONGITUDE}
use Rattle.book_model.specs.declared.sun_tables.TheConstants.{SUN_UNIT_COARSELY, SUN_UNIT_FINELY}
use Rattle.book_model.specs.declared.time_tables.TheConstants.{NOON_2000}
use Rattle.book_model.specs.numbers.Bounds.{Bound, unbounded, bounded, Reach, implies, bound_of, limits_at, limits_of}
use Rattle.book_model.specs.numbers.Bounds.{integer_bound, constant_bound, sum_bound, difference_bound, scaled_bound}
use Rattle.book_model.specs.numbers.Bounds.{product_bound, power_bound, quotient_bound, minimum_bound, maximum_bound}
use Rattle.book_model.specs.numbers.Bounds.{spanned_bound, sine_spans, cosine_spans}
use Rattle.book_model.specs.numbers.Expressions.{Expression, argument, constant, integer, add, subtract, scale, minimum}
use Rattle.book_model.specs.numbers.Fractions.{fraction_of}
use Rattle.book_model.specs.numbers.Polynomials.{quadratic_of, cubic_of, quadratic_term_of}
use Rattle.book_model.specs.numbers.Ranges.{IsInTable}
use Rattle.book_model.specs.numbers.Relations.{Narrow, Keeps}
use Rattle.book_model.specs.programs.Widths.{IsAbout, IsMoment, IsUpTo, AreCenturies, table_days, table_from, table_to}
use Rattle.book_model.specs.programs.Widths.{table_centuries, centuries_from, centuries_to}
use Rattle.book_model.specs.sky.Facts.{IsFactDay}
use Rattle.book_model.specs.sky.Noon.{tilt_of, reduction_of, centre_of, joint_of, second_reduction_of, second_centre_of}
use Rattle.book_model.specs.sky.Noon.{radians_of, part_of_day, equation_of, ahead_of}
use Rattle.book_model.specs.sky.Sun.{nutation_of, back_by}
use Rattle.book_model.proofs.Implying.{limits_within}
use Rattle.encl_core.proofs.Measuring.{measured, measured_argument, sloped, looser, drawn}
use Rattle.sun_core.specs.Daily.{in_centuries, has_daily, by_centuries, by_days}
use Rattle.sun_core.specs.Steps.{apparent_midnight_of, apparent_noon_of, computed_mean_longitude_of}
use Rattle.sun_core.specs.Steps.{computed_aberration_of}
use Rattle.sun_core.specs.declared.turns.TheConstants.{SUN_SIZES, SUN_SLOPE}
use Rattle.periodic_terms.specs.Turning.{width_of_sum}
use Rattle.sun_core.specs.Widths.{IsObliquity, IsNarrowPlace, IsLocalMoment, IsNearMoment}

-- ---- the sun's longitude
-- a moment of dynamical time in the table
abbrev pub tabled : ℕ → Bound
tabled k = table_days 1 (2 ^ 40) 0

abbrev pub days_of : Expression
days_of = subtract (argument 0) (constant (fraction_of NOON_2000))

days_reach : implies (bound_of (limits_at 56) tabled days_of)
    (bounded (neg_ℤ (pos (2 ^ 52))) (pos (2 ^ 52)) (2 ^ 40) (2 ^ 10)) ≡ true
unfolding implies bound_of constant_bound difference_bound
days_reach = refl

centuries_reach : implies (bound_of (limits_at 56) tabled (in_centuries days_of))
    (bounded centuries_from centuries_to (2 ^ 40 / 36525 + 1) (2 ^ 11)) ≡ true
unfolding implies bound_of constant_bound difference_bound scaled_bound in_centuries
centuries_reach = refl

module _ {E : Type 0} (shown : E → Interval) (n v : ℕ) (e : n ≡ 56) (b : v ≤ 2 ^ 42) where
  -- the days of a moment, and their centuries
  pub days_within : (d : E) → Narrow shown (limits_of n) (record { width = v + 2 ^ 17; bounds = tabled }) days_of d
      → IsAbout (2 ^ 52) (v + 2 ^ 18) (shown d)
  days_within d h = measured shown n (v + 2 ^ 17) tabled days_of _ _ (2 ^ 40) (2 ^ 10) (v + 2 ^ 18) d e days_reach
      (omega arith) h

  pub centuries_within : (c : E) → Narrow shown (limits_of n) (record { width = v + 2 ^ 17; bounds = tabled })
      (in_centuries days_of) c
      → AreCenturies ((v + 2 ^ 18) / 36525 + 2 ^ 12) (shown c)
  centuries_within c h =
      measured shown n (v + 2 ^ 17) tabled (in_centuries days_of) _ _ (2 ^ 40 / 36525 + 1) (2 ^ 11)
      ((v + 2 ^ 18) / 36525 + 2 ^ 12) c e centuries_reach
      (omega (arith, b)) h

  pub turned_within : (y : E) → IsAbout (2 ^ 90) (2 * (v + 2 ^ 18) + 2 ^ 31) (shown y)
      → IsAbout (2 ^ 90) (2 * v + 2 ^ 32) (shown y)
  turned_within y h = looser _ _ _ _ _ _ (shown y) (omega (arith, ints)) (omega (arith, ints)) (omega arith) h

-- the sum of the periodic terms, and its value in degrees
abbrev terms_bound : ℕ → Bound
terms_bound k =
    bounded (neg_ℤ (pos (SUN_SIZES * 2 ^ 32))) (pos (SUN_SIZES * 2 ^ 32)) (SUN_SLOPE * 2 ^ 8)
    (width_of_sum SUN_SLOPE SUN_SIZES 0 + 1)

abbrev in_degrees : Expression → Expression
in_degrees x = scale (fraction_of SUN_UNIT_FINELY) (scale (fraction_of SUN_UNIT_COARSELY) x)

periodic_reach : implies (bound_of (limits_at 56) terms_bound (in_degrees (argument 0)))
    (bounded (neg_ℤ (pos (5 * 2 ^ 32))) (pos (5 * 2 ^ 32)) (2 ^ 40 / 20) (2 ^ 25))
    ≡ true
unfolding implies bound_of scaled_bound
periodic_reach = refl

pub periodic_within : {E : Type 0} (shown : E → Interval) (n v : ℕ) (s y : E) → n ≡ 56
    → IsAbout (SUN_SIZES * 2 ^ 32) (width_of_sum SUN_SLOPE SUN_SIZES v) (shown s)
    → ((r : Reach) (x : Expression) → Narrow shown (limits_of n) r x s → Narrow shown (limits_of n) r (in_degrees x) y)
    → IsAbout (5 * 2 ^ 32) (v / 20 + 2 ^ 26) (shown y)
periodic_within shown n v s y e h f =
    measured shown n v terms_bound (in_degrees (argument 0)) _ _ (2 ^ 40 / 20) (2 ^ 25) (v / 20 + 2 ^ 26) y e
    periodic_reach (omega arith)
    (f (record { width = v; bounds = terms_bound }) (argument 0)
    (sloped shown (limits_of n) v (width_of_sum SUN_SLOPE SUN_SIZES v) terms_bound 0 _ _ (SUN_SLOPE * 2 ^ 8)
    (width_of_sum SUN_SLOPE SUN_SIZES 0 + 1) s refl
    (omega arith) h))

-- the longitude by the days, their centuries, and what the sun is ahead of its mean longitude
abbrev parts_bound : ℕ → Bound
parts_bound k =
    if k == 0 then bounded (neg_ℤ (pos (2 ^ 52))) (pos (2 ^ 52)) (2 ^ 40) 0
    else (if k == 1 then table_centuries (2 ^ 40 / 36525 + 1) (2 ^ 12)
    else bounded (neg_ℤ (pos (5 * 2 ^ 32))) (pos (5 * 2 ^ 32)) (2 ^ 40 / 20 + 1) (2 ^ 26))

abbrev longitude_by : (d c a : Expression) → Expression
longitude_by d c a = add (add (add (computed_mean_longitude_of d) a) (computed_aberration_of d)) (nutation_of c)

longitude_reach : implies (bound_of (limits_at 56) parts_bound (longitude_by (argument 0) (argument 1) (argument 2)))
    (bounded (neg_ℤ (pos (2 ^ 90))) (pos (2 ^ 90)) (2 * 2 ^ 40) (2 ^ 30)) ≡ true
unfolding implies bound_of integer_bound constant_bound sum_bound difference_bound scaled_bound product_bound
    power_bound spanned_bound sine_spans cosine_spans
    computed_mean_longitude_of computed_aberration_of nutation_of quadratic_term_of quadratic_of by_days has_daily
    by_centuries in_centuries
longitude_reach = refl

pub longitude_within : {E : Type 0} (shown : E → Interval) (n v : ℕ) (d c a y : E) → n ≡ 56
    → IsAbout (2 ^ 52) v (shown d)
    → AreCenturies (v / 36525 + 2 ^ 12) (shown c) → IsAbout (5 * 2 ^ 32) (v / 20 + 2 ^ 26) (shown a)
    → ((r : Reach) (p q s : Expression) → Narrow shown (limits_of n) r p d → Narrow shown (limits_of n) r q c
    → Narrow shown (limits_of n) r s a
    → Narrow shown (limits_of n) r (longitude_by p q s) y)
    → IsAbout (2 ^ 90) (2 * v + 2 ^ 31) (shown y)
longitude_within shown n v d c a y e h k m f =
    let r : Reach = record { width = v; bounds = parts_bound } in
    measured shown n v parts_bound (longitude_by (argument 0) (argument 1) (argument 2)) _ _ (2 * 2 ^ 40) (2 ^ 30)
    (2 * v + 2 ^ 31) y e longitude_reach
    (omega arith)
    (f r (argument 0) (argument 1) (argument 2)
    (sloped shown (limits_of n) v v parts_bound 0 (neg_ℤ (pos (2 ^ 52))) (pos (2 ^ 52)) (2 ^ 40) 0 d refl (omega arith)
    h)
    (sloped shown (limits_of n) v (v / 36525 + 2 ^ 12) parts_bound 1 centuries_from centuries_to (2 ^ 40 / 36525 + 1)
    (2 ^ 12) c refl (omega arith) k)
    (sloped shown (limits_of n) v (v / 20 + 2 ^ 26) parts_bound 2 (neg_ℤ (pos (5 * 2 ^ 32))) (pos (5 * 2 ^ 32))
    (2 ^ 40 / 20 + 1) (2 ^ 26) a refl
    (omega arith) m))

-- ---- the obliquity
obliquity_reach : implies (bound_of (limits_at 56) (λ k. table_centuries (2 ^ 40) 0) (cubic_of OBLIQUITY (argument 0)))
    (bounded (pos (23 * 2 ^ 32)) (pos (24 * 2 ^ 32)) 17000000000 (2 ^ 11)) ≡ true
unfolding implies bound_of constant_bound sum_bound scaled_bound product_bound power_bound cubic_of
obliquity_reach = refl

pub obliquity_within : {E : Type 0} (shown : E → Interval) (n v : ℕ) (c y : E) → n ≡ 56 → AreCenturies v (shown c)
    → ((r : Reach) (x : Expression) → Narrow shown (limits_of n) r x c
    → Narrow shown (limits_of n) r (cubic_of OBLIQUITY x) y)
    → IsObliquity v (shown y)
obliquity_within shown n v c y e h f =
    let b : ℕ → Bound = λ k. table_centuries (2 ^ 40) 0 in
    measured shown n v b (cubic_of OBLIQUITY (argument 0)) _ _ 17000000000 (2 ^ 11) (v / 64 + 2 ^ 12) y e
    obliquity_reach (omega arith)
    (f (record { width = v; bounds = b }) (argument 0) (measured_argument shown (limits_of n) _ _ v 0 c h))

-- ---- how far the sun is past a longitude
abbrev past_bounds : ℕ → Bound
past_bounds k = if k == 0 then bounded (pos 0) (pos (360 * 2 ^ 32)) (2 * 2 ^ 40) (2 ^ 32) else bounded
    (neg_ℤ (pos (2 ^ 58))) (pos (2 ^ 58)) 0 0

past_reach : implies (bound_of (limits_at 56) past_bounds (subtract (argument 0) (argument 1)))
    (bounded (neg_ℤ (pos (2 ^ 90))) (pos (2 ^ 90)) (2 * 2 ^ 40) (2 ^ 32)) ≡ true
unfolding implies bound_of difference_bound
past_reach = refl

off_reach : implies (bound_of (limits_at 56) past_bounds (add (subtract (argument 0) (argument 1)) (integer (pos 180))))
    (bounded (neg_ℤ (pos (2 ^ 90))) (pos (2 ^ 90)) (2 * 2 ^ 40) (2 ^ 32)) ≡ true
unfolding implies bound_of difference_bound sum_bound integer_bound
off_reach = refl

abbrev turn_bounds : ℕ → Bound
turn_bounds k = bounded (pos 0) (pos (360 * 2 ^ 32)) (2 ^ 40) 0

half_reach : implies (bound_of (limits_at 56) turn_bounds (subtract (argument 0) (integer (pos 180))))
    (bounded (neg_ℤ (pos (180 * 2 ^ 32))) (pos (180 * 2 ^ 32)) (2 ^ 40) 0) ≡ true
unfolding implies bound_of difference_bound integer_bound
half_reach = refl

module _ {E : Type 0} (shown : E → Interval) (n v : ℕ) (s l d : E) (e : n ≡ 56)
    (h : IsUpTo 360 (2 * v + 2 ^ 32) (shown s)) (k : IsMoment 0 (shown l))
    (f : (r : Reach) (p q : Expression) → Narrow shown (limits_of n) r p s → Narrow shown (limits_of n) r q l
    → Narrow shown (limits_of n) r (subtract p q) d)
  where
    past_kept : Narrow shown (limits_of n) (record { width = v; bounds = past_bounds })
        (subtract (argument 0) (argument 1)) d
    past_kept =
        f (record { width = v; bounds = past_bounds }) (argument 0) (argument 1)
        (sloped shown (limits_of n) v (2 * v + 2 ^ 32) past_bounds 0 (pos 0) (pos (360 * 2 ^ 32)) (2 * 2 ^ 40)
        (2 ^ 32) s refl (omega arith) h)
        (sloped shown (limits_of n) v 0 past_bounds 1 (neg_ℤ (pos (2 ^ 58))) (pos (2 ^ 58)) 0 0 l refl (omega arith) k)

    pub past_within : IsAbout (2 ^ 90) (2 * v + 2 ^ 32) (shown d)
    past_within = measured shown n v past_bounds (subtract (argument 0) (argument 1)) _ _ (2 * 2 ^ 40) (2 ^ 32)
        (2 * v + 2 ^ 32) d e past_reach (omega arith)
        past_kept

    pub off_within : (half z : E) → ((r : Reach) → Narrow shown (limits_of n) r (integer (pos 180)) half)
        → ((r : Reach) (p q : Expression) → Narrow shown (limits_of n) r p d → Narrow shown (limits_of n) r q half
        → Narrow shown (limits_of n) r (add p q) z)
        → IsAbout (2 ^ 90) (2 * v + 2 ^ 32) (shown z)
    off_within half z i g =
        measured shown n v past_bounds (add (subtract (argument 0) (argument 1)) (integer (pos 180))) _ _ (2 * 2 ^ 40)
        (2 ^ 32) (2 * v + 2 ^ 32) z e off_reach
        (omega arith)
        (g (record { width = v; bounds = past_bounds }) _ _ past_kept (i (record { width = v; bounds = past_bounds })))

pub half_off : {E : Type 0} (shown : E → Interval) (n v : ℕ) (x half d : E) → n ≡ 56 → IsUpTo 360 v (shown x)
    → ((r : Reach) → Narrow shown (limits_of n) r (integer (pos 180)) half)
    → ((r : Reach) (p q : Expression) → Narrow shown (limits_of n) r p x → Narrow shown (limits_of n) r q half
    → Narrow shown (limits_of n) r (subtract p q) d)
    → IsAbout (180 * 2 ^ 32) v (shown d)
half_off shown n v x half d e h i f =
    let r : Reach = record { width = v; bounds = turn_bounds } in
    measured shown n v turn_bounds (subtract (argument 0) (integer (pos 180))) _ _ (2 ^ 40) 0 v d e half_reach
    (omega arith)
    (f r (argument 0) _ (measured_argument shown (limits_of n) _ _ v 0 x h) (i r))

-- ---- the estimate: the moment, the moment found first, and what the sun is still off there
abbrev moments_bounds : ℕ → Bound
moments_bounds k =
    if k == 0 then table_days 0 (2 ^ 40) 0
    else (if k == 1 then bounded (pos 0) (pos (360 * 2 ^ 32)) (2 * 2 ^ 40) (2 ^ 32)
    else (if k == 2 then bounded (neg_ℤ (pos (2 ^ 52))) (pos (2 ^ 52)) (13 * 2 ^ 38) (2 ^ 33)
    else bounded (neg_ℤ (pos (180 * 2 ^ 32))) (pos (180 * 2 ^ 32)) (13 * 2 ^ 39) (5 * 2 ^ 32)))

back_reach : implies (bound_of (limits_at 56) moments_bounds (back_by (argument 1) (argument 0)))
    (bounded (neg_ℤ (pos (2 ^ 52))) (pos (2 ^ 52)) (13 * 2 ^ 38 - 2 ^ 37) (2 ^ 33 - 2 ^ 20)) ≡ true
unfolding implies bound_of difference_bound scaled_bound back_by
back_reach = refl

estimate_reach : implies (bound_of (limits_at 56) moments_bounds
    (minimum (argument 0) (back_by (argument 3) (argument 2))))
    (bounded (neg_ℤ (pos (2 ^ 58))) (pos (2 ^ 58)) (10 * 2 ^ 40) (2 ^ 35)) ≡ true
unfolding implies bound_of difference_bound scaled_bound minimum_bound back_by
estimate_reach = refl

module _ {E : Type 0} (shown : E → Interval) (n v : ℕ) (t : E) (e : n ≡ 56) (i : IsInTable (shown t))
    (h : IsMoment v (shown t)) where
  moment_kept : Narrow shown (limits_of n) (record { width = v; bounds = moments_bounds }) (argument 0) t
  moment_kept = sloped shown (limits_of n) v v moments_bounds 0 (table_from 0) (table_to 0) (2 ^ 40) 0 t refl
      (omega arith) (drawn _ _ _ _ v (shown t) i h)

  pub back_within : (p x : E) → IsUpTo 360 (2 * v + 2 ^ 32) (shown p)
      → ((r : Reach) (a b : Expression) → Narrow shown (limits_of n) r a p → Narrow shown (limits_of n) r b t
      → Narrow shown (limits_of n) r (back_by a b) x)
      → IsNearMoment (3 * v + v / 4 + 2 ^ 33) (shown x)
  back_within p x k f =
      measured shown n v moments_bounds (back_by (argument 1) (argument 0)) _ _ (13 * 2 ^ 38 - 2 ^ 37) (2 ^ 33 - 2 ^ 20)
      (3 * v + v / 4 + 2 ^ 33) x e back_reach
      (omega arith)
      (f (record { width = v; bounds = moments_bounds }) (argument 1) (argument 0)
      (sloped shown (limits_of n) v (2 * v + 2 ^ 32) moments_bounds 1 (pos 0) (pos (360 * 2 ^ 32)) (2 * 2 ^ 40)
      (2 ^ 32) p refl (omega arith) k) moment_kept)

  pub estimate_within : (near rest x m : E) → IsNearMoment (3 * v + v / 4 + 2 ^ 33) (shown near)
      → IsAbout (180 * 2 ^ 32) (2 * (3 * v + v / 4 + 2 ^ 33) + 2 ^ 32) (shown rest)
      → ((r : Reach) (a b : Expression) → Narrow shown (limits_of n) r a rest → Narrow shown (limits_of n) r b near
      → Narrow shown (limits_of n) r (back_by a b) x)
      → ((r : Reach) (a b : Expression) → Narrow shown (limits_of n) r a t → Narrow shown (limits_of n) r b x
      → Narrow shown (limits_of n) r (minimum a b) m)
      → IsMoment (10 * v + 2 ^ 35) (shown m)
  estimate_within near rest x m k o f g =
      let r : Reach = record { width = v; bounds = moments_bounds } in
      measured shown n v moments_bounds (minimum (argument 0) (back_by (argument 3) (argument 2))) _ _ (10 * 2 ^ 40)
      (2 ^ 35) (10 * v + 2 ^ 35) m e
      estimate_reach (omega arith)
      (g r _ _ moment_kept
      (f r (argument 3) (argument 2)
      (sloped shown (limits_of n) v (2 * (3 * v + v / 4 + 2 ^ 33) + 2 ^ 32) moments_bounds 3
      (neg_ℤ (pos (180 * 2 ^ 32))) (pos (180 * 2 ^ 32)) (13 * 2 ^ 39)
      (5 * 2 ^ 32) rest refl (omega arith) o)
      (sloped shown (limits_of n) v (3 * v + v / 4 + 2 ^ 33) moments_bounds 2 (neg_ℤ (pos (2 ^ 52))) (pos (2 ^ 52))
      (13 * 2 ^ 38) (2 ^ 33) near refl
      (omega arith) k)))

pub near_moment : (v : ℕ) (i : Interval) → IsNearMoment v i → IsMoment v i
near_moment v i h = looser _ _ _ _ v v i (omega (arith, ints)) (omega (arith, ints)) (omega arith) h

-- ---- the equation of time
equation_reach : implies (bound_of (limits_at 56) (λ k. table_centuries (2 ^ 40) 0) (equation_of (argument 0)))
    (bounded (neg_ℤ (pos (2 ^ 31))) (pos (2 ^ 31)) (80 * 2 ^ 40) (2 ^ 28)) ≡ true
unfolding implies bound_of integer_bound constant_bound sum_bound difference_bound scaled_bound product_bound
    power_bound quotient_bound minimum_bound
    maximum_bound spanned_bound sine_spans cosine_spans equation_of tilt_of reduction_of centre_of joint_of
    second_reduction_of second_centre_of radians_of
    part_of_day quadratic_of cubic_of
equation_reach = refl

pub equation_within : {E : Type 0} (shown : E → Interval) (n v : ℕ) (c y : E) → n ≡ 56 → v ≤ 2 ^ 42
    → AreCenturies (v / 36525 + 2 ^ 12) (shown c)
    → ((r : Reach) (x : Expression) → Narrow shown (limits_of n) r x c → Narrow shown (limits_of n) r (equation_of x) y)
    → IsAbout (2 ^ 31) (v / 100 + 2 ^ 30) (shown y)
equation_within shown n v c y e b h f =
    let g : ℕ → Bound = λ k. table_centuries (2 ^ 40) 0 in
    measured shown n (v / 36525 + 2 ^ 12) g (equation_of (argument 0)) _ _ (80 * 2 ^ 40) (2 ^ 28) (v / 100 + 2 ^ 30) y e
    equation_reach (omega arith)
    (f (record { width = v / 36525 + 2 ^ 12; bounds = g }) (argument 0)
    (measured_argument shown (limits_of n) _ _ (v / 36525 + 2 ^ 12) 0 c h))

-- ---- apparent time: a moment, what local time is ahead, and the equation of time
pub ahead_within : {E : Type 0} (shown : E → Interval) (n : ℕ) (l : Frac) (a : E) → n ≡ 56 → IsNarrowPlace l
    → ((r : Reach) → Narrow shown (limits_of n) r (ahead_of (fraction_of l)) a) → IsAbout (2 ^ 32) (2 ^ 10) (shown a)
ahead_within shown n l a e p f = measured shown n 0 (λ k. unbounded) (ahead_of (fraction_of l)) _ _ 0 (2 ^ 10)
    (2 ^ 10) a e p.narrow (omega arith)
    (f (record { width = 0; bounds = λ k. unbounded }))

abbrev apparent_bounds : ℕ → Bound
apparent_bounds k =
    if k == 0 then bounded (neg_ℤ (pos (2 ^ 58 - 2 ^ 34))) (pos (2 ^ 58 - 2 ^ 34)) (2 ^ 40) 0
    else (if k == 1 then bounded (neg_ℤ (pos (2 ^ 32))) (pos (2 ^ 32)) 0 (2 ^ 10)
    else bounded (neg_ℤ (pos (2 ^ 31))) (pos (2 ^ 31)) 11000000000 (2 ^ 30 + 2 ^ 20))

universal_reach : implies (bound_of (limits_at 56) apparent_bounds (subtract (argument 0) (argument 1)))
    (bounded (neg_ℤ (pos (2 ^ 58))) (pos (2 ^ 58)) (2 ^ 40) (2 ^ 10)) ≡ true
unfolding implies bound_of difference_bound
universal_reach = refl

mean_reach : implies (bound_of (limits_at 56) apparent_bounds (subtract (argument 0) (argument 2)))
    (bounded (neg_ℤ (pos (2 ^ 58 - 2 ^ 33))) (pos (2 ^ 58 - 2 ^ 33)) (2 ^ 40 + 11000000000) (2 ^ 30 + 2 ^ 20)) ≡ true
unfolding implies bound_of difference_bound
mean_reach = refl

module _ {E : Type 0} (shown : E → Interval) (n v : ℕ) (t : E) (e : n ≡ 56) (h : IsLocalMoment v (shown t)) where
  local_kept : Narrow shown (limits_of n) (record { width = v; bounds = apparent_bounds }) (argument 0) t
  local_kept = sloped shown (limits_of n) v v apparent_bounds 0 (neg_ℤ (pos (2 ^ 58 - 2 ^ 34))) (pos (2 ^ 58 - 2 ^ 34))
      (2 ^ 40) 0 t refl (omega arith) h

  pub universal_within : (a u : E) → IsAbout (2 ^ 32) (2 ^ 10) (shown a)
      → ((r : Reach) (p q : Expression) → Narrow shown (limits_of n) r p t → Narrow shown (limits_of n) r q a
      → Narrow shown (limits_of n) r (subtract p q) u)
      → IsMoment (v + 2 ^ 10) (shown u)
  universal_within a u k f =
      measured shown n v apparent_bounds (subtract (argument 0) (argument 1)) _ _ (2 ^ 40) (2 ^ 10) (v + 2 ^ 10) u e
      universal_reach (omega arith)
      (f (record { width = v; bounds = apparent_bounds }) (argument 0) (argument 1) local_kept
      (sloped shown (limits_of n) v (2 ^ 10) apparent_bounds 1 (neg_ℤ (pos (2 ^ 32))) (pos (2 ^ 32)) 0 (2 ^ 10) a refl
      (omega arith) k))

  pub mean_within : (q m : E) → v ≤ 2 ^ 41 → IsAbout (2 ^ 31) ((v + 2 ^ 10) / 100 + 2 ^ 30) (shown q)
      → ((r : Reach) (x y : Expression) → Narrow shown (limits_of n) r x t → Narrow shown (limits_of n) r y q
      → Narrow shown (limits_of n) r (subtract x y) m)
      → IsAbout (2 ^ 58 - 2 ^ 33) (v + v / 100 + 3 * 2 ^ 29) (shown m)
  mean_within q m b k f =
      measured shown n v apparent_bounds (subtract (argument 0) (argument 2)) _ _ (2 ^ 40 + 11000000000)
      (2 ^ 30 + 2 ^ 20) (v + v / 100 + 3 * 2 ^ 29) m e
      mean_reach (omega arith)
      (f (record { width = v; bounds = apparent_bounds }) (argument 0) (argument 2) local_kept
      (sloped shown (limits_of n) v ((v + 2 ^ 10) / 100 + 2 ^ 30) apparent_bounds 2 (neg_ℤ (pos (2 ^ 31)))
      (pos (2 ^ 31)) 11000000000 (2 ^ 30 + 2 ^ 20) q refl
      (omega arith) k))

-- ---- noon at Tehran
tehran_reach : implies (bound_of (limits_at 56) (λ k. unbounded) (ahead_of (fraction_of PERSIAN_NOON_LONGITUDE)))
    (bounded (neg_ℤ (pos (2 ^ 32))) (pos (2 ^ 32)) 0 (2 ^ 10)) ≡ true
unfolding implies bound_of constant_bound scaled_bound ahead_of
tehran_reach = refl

pub tehran_is_narrow : IsNarrowPlace PERSIAN_NOON_LONGITUDE
tehran_is_narrow = record { narrow = tehran_reach }

noon_bound : (d : ℤ) → IsFactDay d → bound_of (limits_at 56) (λ k. unbounded) (apparent_noon_of d)
    ≡ bounded (d *ℤ pos (2 ^ 32) +ℤ pos (2 ^ 31)) (d *ℤ pos (2 ^ 32) +ℤ pos (2 ^ 31)) 0 (2 ^ 8)
unfolding bound_of integer_bound constant_bound sum_bound apparent_noon_of
noon_bound d h =
    let p : nat_lt (unsigned_abs d * 2 ^ 32) (2 ^ 100) ≡ true = lt-ltb _ _ (omega (arith, ints, h.0, h.1)) in
    let q : nat_lt (max (unsigned_abs (d *ℤ pos (2 ^ 32) +ℤ pos (2 ^ 31)))
    (unsigned_abs (d *ℤ pos (2 ^ 32) +ℤ pos (2 ^ 31)))) (2 ^ 100)
    ≡ true = lt-ltb _ _ (omega (arith, ints, h.0, h.1)) in
    rw (p, q) refl

pub noon_within : {E : Type 0} (shown : E → Interval) (n : ℕ) (d : ℤ) (x : E) → n ≡ 56 → IsFactDay d
    → ((r : Reach) → Narrow shown (limits_of n) r (apparent_noon_of d) x) → IsLocalMoment (2 ^ 8) (shown x)
unfolding Keeps
noon_within shown n d x e h f =
    let l = limits_within n (omega arith) (omega arith) in
    let z = f (record { width = 0; bounds = λ k. unbounded }) in
    let b = noon_bound d h in
    looser _ _ _ _ (2 ^ 8) (2 ^ 8) _ (omega (arith, ints, h.0)) (omega (arith, ints, h.1)) (omega arith)
    (record { kept = rw (l, e, b) at z.kept })

abbrev noon_bounds : ℕ → Bound
noon_bounds k = if k == 0 then bounded (neg_ℤ (pos (2 ^ 58 - 2 ^ 33))) (pos (2 ^ 58 - 2 ^ 33)) 0
    (2 ^ 8 + 2 + 3 * 2 ^ 29) else bounded (neg_ℤ (pos (2 ^ 32)))
    (pos (2 ^ 32)) 0 (2 ^ 10)

noon_reach : implies (bound_of (limits_at 56) noon_bounds (subtract (argument 0) (argument 1)))
    (bounded (neg_ℤ (pos (2 ^ 58))) (pos (2 ^ 58)) 0 (2 ^ 31))
    ≡ true
unfolding implies bound_of difference_bound
noon_reach = refl

pub noon_found : {E : Type 0} (shown : E → Interval) (n : ℕ) (x a m : E) → n ≡ 56
    → IsAbout (2 ^ 58 - 2 ^ 33) (2 ^ 8 + 2 ^ 8 / 100 + 3 * 2 ^ 29) (shown x)
    → IsAbout (2 ^ 32) (2 ^ 10) (shown a)
    → ((r : Reach) (p q : Expression) → Narrow shown (limits_of n) r p x → Narrow shown (limits_of n) r q a
    → Narrow shown (limits_of n) r (subtract p q) m)
    → IsMoment (2 ^ 31) (shown m)
noon_found shown n x a m e h k f =
    measured shown n 0 noon_bounds (subtract (argument 0) (argument 1)) _ _ 0 (2 ^ 31) (2 ^ 31) m e noon_reach
    (omega arith)
    (f (record { width = 0; bounds = noon_bounds }) (argument 0) (argument 1)
    (sloped shown (limits_of n) 0 (2 ^ 8 + 2 ^ 8 / 100 + 3 * 2 ^ 29) noon_bounds 0 (neg_ℤ (pos (2 ^ 58 - 2 ^ 33)))
    (pos (2 ^ 58 - 2 ^ 33)) 0
    (2 ^ 8 + 2 + 3 * 2 ^ 29) x refl (omega arith) h)
    (sloped shown (limits_of n) 0 (2 ^ 10) noon_bounds 1 (neg_ℤ (pos (2 ^ 32))) (pos (2 ^ 32)) 0 (2 ^ 10) a refl
    (omega arith) k))

-- ---- midnight at Paris
paris_reach : implies (bound_of (limits_at 56) (λ k. unbounded) (ahead_of (fraction_of PARIS_LONGITUDE)))
    (bounded (neg_ℤ (pos (2 ^ 32))) (pos (2 ^ 32)) 0 (2 ^ 10)) ≡ true
unfolding implies bound_of constant_bound scaled_bound ahead_of
paris_reach = refl

pub paris_is_narrow : IsNarrowPlace PARIS_LONGITUDE
paris_is_narrow = record { narrow = paris_reach }

midnight_bound : (d : ℤ) → IsFactDay d → bound_of (limits_at 56) (λ k. unbounded) (apparent_midnight_of d)
    ≡ bounded ((d +ℤ pos 1) *ℤ pos (2 ^ 32)) ((d +ℤ pos 1) *ℤ pos (2 ^ 32)) 0 0
unfolding bound_of integer_bound apparent_midnight_of
midnight_bound d h = let p : nat_lt (unsigned_abs (d +ℤ pos 1) * 2 ^ 32) (2 ^ 100) ≡ true =
    lt-ltb _ _ (omega (arith, ints, h.0, h.1)) in rw p refl

pub midnight_within : {E : Type 0} (shown : E → Interval) (n : ℕ) (d : ℤ) (x : E) → n ≡ 56 → IsFactDay d
    → ((r : Reach) → Narrow shown (limits_of n) r (apparent_midnight_of d) x) → IsLocalMoment (2 ^ 8) (shown x)
unfolding Keeps
midnight_within shown n d x e h f =
    let l = limits_within n (omega arith) (omega arith) in
    let z = f (record { width = 0; bounds = λ k. unbounded }) in
    let b = midnight_bound d h in
    looser _ _ _ _ 0 (2 ^ 8) _ (omega (arith, ints, h.0)) (omega (arith, ints, h.1)) (omega arith)
    (record { kept = rw (l, e, b) at z.kept })
