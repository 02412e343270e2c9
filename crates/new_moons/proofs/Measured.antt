-- How wide a new moon is at the scale 2^-56: its parts by the sizes of their coefficients, which hold at each time
-- within 25.1 centuries; and that one within 4 centuries is recent.
use Rattle.std.specs.Prelude.{◌≡◌, ℕ, suc, ◌+◌, ◌*◌, ◌/◌, ◌^◌, ◌≤◌, ◌<◌, true, nat_lt, unsigned_abs, ℤ, pos, neg_ℤ}
use Rattle.std.specs.Prelude.{◌≤ℤ◌, List, refl, if◌then◌else◌, ◌==◌, Result, Ok, Err, ◌+ℤ◌, ◌*ℤ◌}
use Rattle.std.proofs.Common.{arith}
use Rattle.std.proofs.lemmas.Bool.{lt-ltb}
use Rattle.std.proofs.lemmas.Int.{ints}
use Rattle.book_model.specs.Fraction.{Fraction}
use Rattle.book_model.specs.Interval.{Interval}
use Rattle.book_model.specs.declared.fail.Fail.{Fail}
use Rattle.book_model.specs.declared.frac.Frac.{Frac}
use Rattle.book_model.specs.declared.moon_tables.TheConstants.{ECCENTRICITY_FACTOR}
use Rattle.book_model.specs.declared.new_moon_tables.TheConstants.{MEAN_NEW_MOON, NEW_MOON_ANOMALY}
use Rattle.book_model.specs.declared.new_moon_tables.TheConstants.{NEW_MOON_LATITUDE_ARGUMENT, NEW_MOON_NODE}
use Rattle.book_model.specs.declared.new_moon_tables.TheConstants.{NEW_MOON_SUN_ANOMALY, NEW_MOON_TERM, NODE_TERM}
use Rattle.book_model.specs.declared.new_moon_tables.TheConstants.{RECENT_DAYS}
use Rattle.book_model.specs.declared.time_tables.TheConstants.{NOON_2000, RECENT_START}
use Rattle.book_model.specs.numbers.Bounds.{Bound, unbounded, bounded, Reach, bound_of, ceil_at_32, floor_at_32}
use Rattle.book_model.specs.numbers.Bounds.{implies, limits_at, limits_of, integer_bound, constant_bound, range_size}
use Rattle.book_model.specs.numbers.Bounds.{sum_bound, scaled_bound, product_bound, power_bound, spanned_bound}
use Rattle.book_model.specs.numbers.Bounds.{sine_spans}
use Rattle.book_model.specs.numbers.Expressions.{Expression, argument, constant, integer, add, multiply, power, scale}
use Rattle.book_model.specs.numbers.Expressions.{sine}
use Rattle.book_model.specs.numbers.Fractions.{fraction_of}
use Rattle.book_model.specs.numbers.Polynomials.{quadratic_of, quadratic_term_of}
use Rattle.book_model.specs.numbers.Relations.{Narrow, Keeps}
use Rattle.book_model.specs.programs.Widths.{IsWithin, IsAbout, IsMoment, Measures, recent_from, IsSince}
use Rattle.book_model.specs.sky.NewMoons.{millionths, centuries_of_months}
use Rattle.book_model.proofs.Implying.{limits_within}
use Rattle.encl_core.proofs.Covering.{IsCovered, ceil_least, ceil_most, covered, floor_least, floor_most, size_least}
use Rattle.encl_core.proofs.Covering.{within_covered}
use Rattle.encl_core.proofs.Measuring.{measured, sloped, looser}
use Rattle.periodic_terms.specs.Widths.{AreClose, IsUsualEccentricity}
use Rattle.new_moons.specs.Months.{cubic_sum, quartic_sum}
use Rattle.new_moons.specs.Widths.{AreNearAngles, ArePowers, IsNearMonth, IsNearTime, IsRecentMean, IsRecentMonth}
use Rattle.new_moons.specs.Widths.{near_size, recent_mean_from, recent_mean_to}
use Rattle.periodic_terms.specs.declared.mean.MeanAngles.{MeanAngles}
use Rattle.new_moons.specs.declared.angles.Angles.{Angles}
use Rattle.new_moons.specs.declared.months.Powers.{Powers}
use Rattle.new_moons.proofs.MonthPolynomials.{coefficient}

-- ---- constants by their size in 2^-32
parts_covered : (f : Fraction) (G : ℕ) → G < 2 ^ 92 → unsigned_abs f.num * 2 ^ 32 ≤ G * suc f.below
    → unsigned_abs f.num < 2 ^ 70
    → IsCovered (constant_bound (limits_at 56) f) G (2 ^ 8)
unfolding constant_bound
parts_covered f G b h k =
    let l : neg_ℤ (pos (G * suc f.below)) ≤ℤ (f.num *ℤ pos (2 ^ 32)) = omega (arith, ints, h) in
    let u : (f.num *ℤ pos (2 ^ 32)) ≤ℤ pos (G * suc f.below) = omega (arith, ints, h) in
    let h1 = floor_least (f.num *ℤ pos (2 ^ 32)) f.below G l in
    let h2 = floor_most (f.num *ℤ pos (2 ^ 32)) f.below G u in
    let h3 = ceil_least (f.num *ℤ pos (2 ^ 32)) f.below G l in
    let h4 = ceil_most (f.num *ℤ pos (2 ^ 32)) f.below G u in
    let z = size_least (floor_at_32 f) (ceil_at_32 f) G h1 h2 h3 h4 in
    let t1 : nat_lt (unsigned_abs f.num) (2 ^ 70) ≡ true = lt-ltb _ _ k in
    let t2 : nat_lt (range_size (floor_at_32 f) (ceil_at_32 f)) (2 ^ 100) ≡ true = lt-ltb _ _ (omega (arith, z, b)) in
    let h5 : 2 ^ 8 ≤ 2 ^ 8 = omega arith in
    rw (t1, t2) (covered h1 h2 h3 h4 h5)

pub parts_within : {E : Type 0} (shown : E → Interval) (n : ℕ) (f : Fraction) (G : ℕ) (e : E) → n ≡ 56 → G < 2 ^ 92
    → unsigned_abs f.num * 2 ^ 32 ≤ G * suc f.below → unsigned_abs f.num < 2 ^ 70
    → ((r : Reach) → Narrow shown (limits_of n) r (constant f) e)
    → IsAbout G (2 ^ 8) (shown e)
unfolding Keeps bound_of
parts_within shown n f G e p b h k g =
    let l = limits_within n (omega arith) (omega arith) in
    let z = g (record { width = 0; bounds = λ k. unbounded }) in
    within_covered _ _ _ (shown e) (parts_covered f G b h k) (rw (l, p) at z.kept)

-- ---- the time itself, and its powers
pub time_within : {E : Type 0} (shown : E → Interval) (n : ℕ) (c : Fraction) (e : E) → n ≡ 56 → IsNearTime c
    → ((r : Reach) → Narrow shown (limits_of n) r (constant c) e) → IsAbout near_size (2 ^ 8) (shown e)
time_within shown n c e p i f = parts_within shown n c near_size e p (omega arith) i.size (omega (arith, i.numerator)) f

abbrev time_bounds : ℕ → Bound
time_bounds k = if k == 0 then bounded (neg_ℤ (pos near_size)) (pos near_size) 0 (2 ^ 8) else bounded (pos 0)
    (pos (631 * 2 ^ 32)) 0 (2 ^ 14)

square_reach : implies (bound_of (limits_at 56) time_bounds (power (argument 0) 2))
    (bounded (pos 0) (pos (631 * 2 ^ 32)) 0 (2 ^ 14)) ≡ true
unfolding implies bound_of power_bound
square_reach = refl

cube_reach : implies (bound_of (limits_at 56) time_bounds (multiply (argument 1) (argument 0)))
    (bounded (neg_ℤ (pos (15900 * 2 ^ 32))) (pos (15900 * 2 ^ 32)) 0 (2 ^ 20)) ≡ true
unfolding implies bound_of product_bound
cube_reach = refl

eccentricity_reach : implies (bound_of (limits_at 56) time_bounds (quadratic_of ECCENTRICITY_FACTOR (argument 0)))
    (bounded (pos (3 * 2 ^ 30)) (pos (35 * 2 ^ 27)) 0 (2 ^ 24)) ≡ true
unfolding implies bound_of constant_bound sum_bound scaled_bound power_bound quadratic_of
eccentricity_reach = refl

venus_reach : implies (bound_of (limits_at 56) time_bounds (quadratic_term_of NEW_MOON_TERM (argument 0)))
    (bounded (neg_ℤ (pos (2 ^ 32))) (pos (2 ^ 32)) 0 (2 ^ 12)) ≡ true
unfolding implies bound_of constant_bound sum_bound scaled_bound power_bound spanned_bound sine_spans quadratic_of
    quadratic_term_of
venus_reach = refl

module _ {E : Type 0} (shown : E → Interval) (n : ℕ) (e y : E) (p : n ≡ 56)
    (h : IsAbout near_size (2 ^ 8) (shown e)) where
  time_kept : Narrow shown (limits_of n) (record { width = 0; bounds = time_bounds }) (argument 0) e
  time_kept = sloped shown (limits_of n) 0 (2 ^ 8) time_bounds 0 (neg_ℤ (pos near_size)) (pos near_size) 0
      (2 ^ 8) e refl (omega arith) h

  pub square_within : ((r : Reach) (x : Expression) → Narrow shown (limits_of n) r x e
      → Narrow shown (limits_of n) r (power x 2) y)
      → IsWithin (pos 0) (pos (631 * 2 ^ 32)) (2 ^ 14) (shown y)
  square_within f = measured shown n 0 time_bounds (power (argument 0) 2) _ _ 0 (2 ^ 14) (2 ^ 14) y p square_reach
      (omega arith)
      (f (record { width = 0; bounds = time_bounds }) (argument 0) time_kept)

  pub cube_within : (s : E) → IsWithin (pos 0) (pos (631 * 2 ^ 32)) (2 ^ 14) (shown s)
      → ((r : Reach) (a b : Expression) → Narrow shown (limits_of n) r a s → Narrow shown (limits_of n) r b e
      → Narrow shown (limits_of n) r (multiply a b) y)
      → IsAbout (15900 * 2 ^ 32) (2 ^ 20) (shown y)
  cube_within s i f = measured shown n 0 time_bounds (multiply (argument 1) (argument 0)) _ _ 0 (2 ^ 20) (2 ^ 20) y p
      cube_reach (omega arith)
      (f (record { width = 0; bounds = time_bounds }) (argument 1) (argument 0)
      (sloped shown (limits_of n) 0 (2 ^ 14) time_bounds 1 (pos 0) (pos (631 * 2 ^ 32)) 0 (2 ^ 14) s refl (omega arith)
      i) time_kept)

  pub eccentricity_within : ((r : Reach) (x : Expression) → Narrow shown (limits_of n) r x e
      → Narrow shown (limits_of n) r (quadratic_of ECCENTRICITY_FACTOR x) y) → IsUsualEccentricity (shown y)
  eccentricity_within f = measured shown n 0 time_bounds (quadratic_of ECCENTRICITY_FACTOR (argument 0)) _ _ 0 (2 ^ 24)
      (2 ^ 24) y p eccentricity_reach
      (omega arith) (f (record { width = 0; bounds = time_bounds }) (argument 0) time_kept)

  pub venus_within : ((r : Reach) (x : Expression) → Narrow shown (limits_of n) r x e
      → Narrow shown (limits_of n) r (quadratic_term_of NEW_MOON_TERM x) y)
      → IsAbout (2 ^ 32) (2 ^ 12) (shown y)
  venus_within f = measured shown n 0 time_bounds (quadratic_term_of NEW_MOON_TERM (argument 0)) _ _ 0 (2 ^ 12)
      (2 ^ 12) y p venus_reach (omega arith)
      (f (record { width = 0; bounds = time_bounds }) (argument 0) time_kept)

-- ---- the polynomials, by their first two terms and the powers
abbrev part_of_four : (size : ℕ) → ℕ → Bound
part_of_four size k =
    if k == 0 then bounded (neg_ℤ (pos size)) (pos size) 0 (2 ^ 8)
    else (if k == 1 then bounded (pos 0) (pos (631 * 2 ^ 32)) 0 (2 ^ 14)
    else (if k == 2 then bounded (neg_ℤ (pos (15900 * 2 ^ 32))) (pos (15900 * 2 ^ 32)) 0 (2 ^ 20)
    else bounded (neg_ℤ (pos near_size)) (pos near_size) 0 (2 ^ 8)))

abbrev quartic_parts : List Frac → Expression
quartic_parts cs = quartic_sum (coefficient cs 2) (coefficient cs 3) (coefficient cs 4) (argument 0) (argument 1)
    (argument 2) (argument 3)

abbrev cubic_parts : List Frac → Expression
cubic_parts cs = cubic_sum (coefficient cs 2) (coefficient cs 3) (argument 0) (argument 1) (argument 2)

abbrev Reaches : (size most : ℕ) → Expression → Type 0
Reaches size most x = implies (bound_of (limits_at 56) (part_of_four size) x)
    (bounded (neg_ℤ (pos most)) (pos most) 0 (2 ^ 15)) ≡ true

pub mean_reach : Reaches (2 ^ 52) (2 ^ 53) (quartic_parts MEAN_NEW_MOON)
unfolding implies bound_of sum_bound scaled_bound product_bound
mean_reach = refl

pub recent_reach : Reaches (2 ^ 49) (RECENT_DAYS * 2 ^ 32) (quartic_parts MEAN_NEW_MOON)
unfolding implies bound_of sum_bound scaled_bound product_bound
recent_reach = refl

pub moon_reach : Reaches (2 ^ 56) (2 ^ 57) (quartic_parts NEW_MOON_ANOMALY)
unfolding implies bound_of sum_bound scaled_bound product_bound
moon_reach = refl

pub latitude_reach : Reaches (2 ^ 56) (2 ^ 57) (quartic_parts NEW_MOON_LATITUDE_ARGUMENT)
unfolding implies bound_of sum_bound scaled_bound product_bound
latitude_reach = refl

pub sun_reach : Reaches (2 ^ 56) (2 ^ 57) (cubic_parts NEW_MOON_SUN_ANOMALY)
unfolding implies bound_of sum_bound scaled_bound
sun_reach = refl

pub node_reach : Reaches (2 ^ 56) (2 ^ 57) (cubic_parts NEW_MOON_NODE)
unfolding implies bound_of sum_bound scaled_bound
node_reach = refl

module _ {E : Type 0} (shown : E → Interval) (n size most : ℕ) (cs : List Frac) (first y : E) (b : Powers E)
    (p : n ≡ 56)
    (i : IsAbout size (2 ^ 8) (shown first)) (h : ArePowers shown b) where
  abbrev there : Reach
  there = record { width = 0; bounds = part_of_four size }

  first_kept : Narrow shown (limits_of n) there (argument 0) first
  first_kept = sloped shown (limits_of n) 0 (2 ^ 8) (part_of_four size) 0 (neg_ℤ (pos size)) (pos size) 0 (2 ^ 8) first
      refl (omega arith) i

  square_kept : Narrow shown (limits_of n) there (argument 1) b.square
  square_kept = sloped shown (limits_of n) 0 (2 ^ 14) (part_of_four size) 1 (pos 0) (pos (631 * 2 ^ 32)) 0
      (2 ^ 14) b.square refl (omega arith) h.square

  cube_kept : Narrow shown (limits_of n) there (argument 2) b.cube
  cube_kept = sloped shown (limits_of n) 0 (2 ^ 20) (part_of_four size) 2 (neg_ℤ (pos (15900 * 2 ^ 32)))
      (pos (15900 * 2 ^ 32)) 0 (2 ^ 20) b.cube refl (omega
      arith) h.cube

  centuries_kept : Narrow shown (limits_of n) there (argument 3) b.centuries
  centuries_kept = sloped shown (limits_of n) 0 (2 ^ 8) (part_of_four size) 3 (neg_ℤ (pos near_size)) (pos near_size) 0
      (2 ^ 8) b.centuries refl (omega arith)
      h.centuries

  pub quartic_within : Reaches size most (quartic_parts cs)
      → ((r : Reach) (f s u c : Expression) → Narrow shown (limits_of n) r f first
      → Narrow shown (limits_of n) r s b.square
      → Narrow shown (limits_of n) r u b.cube → Narrow shown (limits_of n) r c b.centuries
      → Narrow shown (limits_of n) r (quartic_sum (coefficient cs 2) (coefficient cs 3) (coefficient cs 4) f s u c) y)
      → IsAbout most (2 ^ 15) (shown y)
  quartic_within e f = measured shown n 0 (part_of_four size) (quartic_parts cs) _ _ 0 (2 ^ 15) (2 ^ 15) y p e
      (omega arith)
      (f there (argument 0) (argument 1) (argument 2) (argument 3) first_kept square_kept cube_kept centuries_kept)

  pub cubic_within : Reaches size most (cubic_parts cs)
      → ((r : Reach) (f s u : Expression) → Narrow shown (limits_of n) r f first
      → Narrow shown (limits_of n) r s b.square
      → Narrow shown (limits_of n) r u b.cube → Narrow shown (limits_of n) r
      (cubic_sum (coefficient cs 2) (coefficient cs 3) f s u) y)
      → IsAbout most (2 ^ 15) (shown y)
  cubic_within e f = measured shown n 0 (part_of_four size) (cubic_parts cs) _ _ 0 (2 ^ 15) (2 ^ 15) y p e (omega arith)
      (f there (argument 0) (argument 1) (argument 2) first_kept square_kept cube_kept)

-- ---- the mean new moon and the node
abbrev mean_bounds : (size : ℕ) → ℕ → Bound
mean_bounds size k = bounded (neg_ℤ (pos size)) (pos size) 0 (2 ^ 15)

mean_sum_reach : implies (bound_of (limits_at 56) (mean_bounds (2 ^ 53))
    (add (constant (fraction_of NOON_2000)) (argument 0)))
    (bounded (neg_ℤ (pos (2 ^ 54))) (pos (2 ^ 54)) 0 (2 ^ 16)) ≡ true
unfolding implies bound_of constant_bound sum_bound
mean_sum_reach = refl

recent_sum_reach : implies (bound_of (limits_at 56) (mean_bounds (RECENT_DAYS * 2 ^ 32))
    (add (constant (fraction_of NOON_2000)) (argument 0)))
    (bounded recent_mean_from recent_mean_to 0 (2 ^ 16)) ≡ true
unfolding implies bound_of constant_bound sum_bound
recent_sum_reach = refl

module _ {E : Type 0} (shown : E → Interval) (n : ℕ) (noon q m : E) (p : n ≡ 56)
    (i : (r : Reach) → Narrow shown (limits_of n) r (constant (fraction_of NOON_2000)) noon)
    (f : (r : Reach) (x y : Expression) → Narrow shown (limits_of n) r x noon → Narrow shown (limits_of n) r y q
    → Narrow shown (limits_of n) r (add x y) m)
  where
    mean_kept : (size : ℕ) → IsAbout size (2 ^ 15) (shown q)
        → Narrow shown (limits_of n) (record { width = 0; bounds = mean_bounds size })
        (add (constant (fraction_of NOON_2000)) (argument 0)) m
    mean_kept size h =
        let r : Reach = record { width = 0; bounds = mean_bounds size } in
        f r _ (argument 0) (i r) (sloped shown (limits_of n) 0 (2 ^ 15) (mean_bounds size) 0 (neg_ℤ (pos size))
        (pos size) 0 (2 ^ 15) q refl (omega arith) h)

    pub mean_within : IsAbout (2 ^ 53) (2 ^ 15) (shown q) → IsAbout (2 ^ 54) (2 ^ 16) (shown m)
    mean_within h = measured shown n 0 (mean_bounds (2 ^ 53)) (add (constant (fraction_of NOON_2000)) (argument 0)) _
        _ 0 (2 ^ 16) (2 ^ 16) m p mean_sum_reach
        (omega arith) (mean_kept (2 ^ 53) h)

    pub recent_mean_within : IsAbout (RECENT_DAYS * 2 ^ 32) (2 ^ 15) (shown q) → IsRecentMean (2 ^ 16) (shown m)
    recent_mean_within h =
        measured shown n 0 (mean_bounds (RECENT_DAYS * 2 ^ 32)) (add (constant (fraction_of NOON_2000)) (argument 0)) _
        _ 0 (2 ^ 16) (2 ^ 16) m p
        recent_sum_reach (omega arith) (mean_kept (RECENT_DAYS * 2 ^ 32) h)

abbrev node_bounds : ℕ → Bound
node_bounds k = bounded (neg_ℤ (pos (2 ^ 57))) (pos (2 ^ 57)) 0 (2 ^ 15)

node_sum_reach : implies (bound_of (limits_at 56) node_bounds (scale (fraction_of NODE_TERM) (sine (argument 0))))
    (bounded (neg_ℤ (pos (2 ^ 32))) (pos (2 ^ 32)) 0 (2 ^ 12)) ≡ true
unfolding implies bound_of scaled_bound spanned_bound sine_spans
node_sum_reach = refl

pub node_within : {E : Type 0} (shown : E → Interval) (n : ℕ) (a s m : E) → n ≡ 56 → IsAbout (2 ^ 57) (2 ^ 15) (shown a)
    → ((r : Reach) (x : Expression) → Narrow shown (limits_of n) r x a → Narrow shown (limits_of n) r (sine x) s)
    → ((r : Reach) (x : Expression) → Narrow shown (limits_of n) r x s
    → Narrow shown (limits_of n) r (scale (fraction_of NODE_TERM) x) m)
    → IsAbout (2 ^ 32) (2 ^ 12) (shown m)
node_within shown n a s m p h f g =
    let r : Reach = record { width = 0; bounds = node_bounds } in
    measured shown n 0 node_bounds (scale (fraction_of NODE_TERM) (sine (argument 0))) _ _ 0 (2 ^ 12) (2 ^ 12) m p
    node_sum_reach (omega arith)
    (g r _ (f r (argument 0) (sloped shown (limits_of n) 0 (2 ^ 15) node_bounds 0 (neg_ℤ (pos (2 ^ 57)))
    (pos (2 ^ 57)) 0 (2 ^ 15) a refl (omega arith) h)))

-- ---- the terms of the three angles
none_reach : implies (bound_of (limits_at 56) (λ k. unbounded) (integer (pos 0)))
    (bounded (neg_ℤ (pos (2 ^ 57))) (pos (2 ^ 57)) 0 (2 ^ 15)) ≡ true
unfolding implies bound_of integer_bound
none_reach = refl

-- the angles of a new moon, whose rows take no elongation
abbrev pub with_none : {E : Type 0} → E → Angles E → MeanAngles E
with_none none b =
    record {
      elongation = none;
      sun_anomaly = b.sun_anomaly;
      moon_anomaly = b.moon_anomaly;
      latitude_argument = b.latitude_argument;
      eccentricity = b.eccentricity;
    }

pub angles_close : {E : Type 0} (shown : E → Interval) (n : ℕ) (none : E) (b : Angles E) → n ≡ 56
    → ((r : Reach) → Narrow shown (limits_of n) r (integer (pos 0)) none) → AreNearAngles shown b
    → AreClose shown (2 ^ 15) (with_none none b)
angles_close shown n none b p f h = record {
  elongation = measured shown n 0 (λ k. unbounded) (integer (pos 0)) (neg_ℤ (pos (2 ^ 57))) (pos (2 ^ 57)) 0 (2 ^ 15)
      (2 ^ 15) none p none_reach (omega arith)
      (f (record { width = 0; bounds = λ k. unbounded }));
  sun_anomaly = h.sun_anomaly;
  moon_anomaly = h.moon_anomaly;
  latitude_argument = h.latitude_argument;
  eccentricity = h.eccentricity;
}

pub terms_within : (i : Interval) → IsAbout (2 ^ 32) (2 ^ 15 / 64 + 2 ^ 27 + 2 ^ 9) i → IsAbout (2 ^ 33) (2 ^ 28) i
terms_within i h = looser _ _ _ _ _ (2 ^ 28) i (omega (arith, ints)) (omega (arith, ints)) (omega arith) h

-- ---- the planets: a sum in millionths
abbrev sum_bounds : ℕ → Bound
sum_bounds k = bounded (neg_ℤ (pos (2 ^ 46))) (pos (2 ^ 46)) 0 (2 ^ 37)

millionth_reach : implies (bound_of (limits_at 56) sum_bounds (scale (millionths (pos 1)) (argument 0)))
    (bounded (neg_ℤ (pos (2 ^ 40))) (pos (2 ^ 40)) 0 (2 ^ 18)) ≡ true
unfolding implies bound_of scaled_bound
millionth_reach = refl

pub millionths_within : {E : Type 0} (shown : E → Interval) (n : ℕ) (s y : E) → n ≡ 56
    → IsAbout (2 ^ 46) (2 ^ 37) (shown s)
    → ((r : Reach) (x : Expression) → Narrow shown (limits_of n) r x s
    → Narrow shown (limits_of n) r (scale (millionths (pos 1)) x) y)
    → IsAbout (2 ^ 40) (2 ^ 18) (shown y)
millionths_within shown n s y p h f =
    measured shown n 0 sum_bounds (scale (millionths (pos 1)) (argument 0)) _ _ 0 (2 ^ 18) (2 ^ 18) y p millionth_reach
    (omega arith)
    (f (record { width = 0; bounds = sum_bounds }) (argument 0)
    (sloped shown (limits_of n) 0 (2 ^ 37) sum_bounds 0 (neg_ℤ (pos (2 ^ 46))) (pos (2 ^ 46)) 0 (2 ^ 37) s refl
    (omega arith) h))

-- ---- all together
-- the mean new moon lies from low to high
abbrev part_bounds : (low high : ℤ) → ℕ → Bound
part_bounds low high k =
    if k == 0 then bounded low high 0 (2 ^ 16)
    else (if k == 1 then bounded (neg_ℤ (pos (2 ^ 32))) (pos (2 ^ 32)) 0 (2 ^ 12)
    else (if k == 2 then bounded (neg_ℤ (pos (2 ^ 33))) (pos (2 ^ 33)) 0 (2 ^ 28)
    else (if k == 3 then bounded (neg_ℤ (pos (2 ^ 32))) (pos (2 ^ 32)) 0 (2 ^ 12)
    else bounded (neg_ℤ (pos (2 ^ 40))) (pos (2 ^ 40)) 0 (2 ^ 18))))

abbrev sum_of_parts : Expression
sum_of_parts = add (add (add (add (argument 0) (argument 1)) (argument 2)) (argument 3)) (argument 4)

parts_reach : implies (bound_of (limits_at 56) (part_bounds (neg_ℤ (pos (2 ^ 54))) (pos (2 ^ 54))) sum_of_parts)
    (bounded (neg_ℤ (pos (2 ^ 58))) (pos (2 ^ 58)) 0 (2 ^ 29 + 2 ^ 24)) ≡ true
unfolding implies bound_of sum_bound
parts_reach = refl

recent_parts_reach : implies (bound_of (limits_at 56) (part_bounds recent_mean_from recent_mean_to) sum_of_parts)
    (bounded (recent_from (pos 1)) (pos (2 ^ 58)) 0 (2 ^ 29 + 2 ^ 24)) ≡ true
unfolding implies bound_of sum_bound
recent_parts_reach = refl

module _ {E : Type 0} (shown : E → Interval) (n : ℕ) (a b c d z y1 y2 y3 y4 : E) (p : n ≡ 56)
    (hb : IsAbout (2 ^ 32) (2 ^ 12) (shown b)) (hc : IsAbout (2 ^ 33) (2 ^ 28) (shown c))
    (hd : IsAbout (2 ^ 32) (2 ^ 12) (shown d))
    (hz : IsAbout (2 ^ 40) (2 ^ 18) (shown z))
    (f1 : (r : Reach) (x y : Expression) → Narrow shown (limits_of n) r x a → Narrow shown (limits_of n) r y b
    → Narrow shown (limits_of n) r (add x y) y1)
    (f2 : (r : Reach) (x y : Expression) → Narrow shown (limits_of n) r x y1 → Narrow shown (limits_of n) r y c
    → Narrow shown (limits_of n) r (add x y) y2)
    (f3 : (r : Reach) (x y : Expression) → Narrow shown (limits_of n) r x y2 → Narrow shown (limits_of n) r y d
    → Narrow shown (limits_of n) r (add x y) y3)
    (f4 : (r : Reach) (x y : Expression) → Narrow shown (limits_of n) r x y3 → Narrow shown (limits_of n) r y z
    → Narrow shown (limits_of n) r (add x y) y4)
  where
    parts_kept : (low high : ℤ) → IsWithin low high (2 ^ 16) (shown a)
        → Narrow shown (limits_of n) (record { width = 0; bounds = part_bounds low high }) sum_of_parts y4
    parts_kept low high ha =
        let r : Reach = record { width = 0; bounds = part_bounds low high } in
        let l = limits_of n in
        f4 r _ _ (f3 r _ _ (f2 r _ _ (f1 r _ _
        (sloped shown l 0 (2 ^ 16) (part_bounds low high) 0 low high 0 (2 ^ 16) a refl (omega arith) ha)
        (sloped shown l 0 (2 ^ 12) (part_bounds low high) 1 (neg_ℤ (pos (2 ^ 32))) (pos (2 ^ 32)) 0 (2 ^ 12) b refl
        (omega arith) hb))
        (sloped shown l 0 (2 ^ 28) (part_bounds low high) 2 (neg_ℤ (pos (2 ^ 33))) (pos (2 ^ 33)) 0 (2 ^ 28) c refl
        (omega arith) hc))
        (sloped shown l 0 (2 ^ 12) (part_bounds low high) 3 (neg_ℤ (pos (2 ^ 32))) (pos (2 ^ 32)) 0 (2 ^ 12) d refl
        (omega arith) hd))
        (sloped shown l 0 (2 ^ 18) (part_bounds low high) 4 (neg_ℤ (pos (2 ^ 40))) (pos (2 ^ 40)) 0 (2 ^ 18) z refl
        (omega arith) hz)

    pub all_within : IsAbout (2 ^ 54) (2 ^ 16) (shown a) → IsMoment (2 ^ 29 + 2 ^ 24) (shown y4)
    all_within ha = measured shown n 0 (part_bounds (neg_ℤ (pos (2 ^ 54))) (pos (2 ^ 54))) sum_of_parts _ _ 0
        (2 ^ 29 + 2 ^ 24) (2 ^ 29 + 2 ^ 24) y4 p
        parts_reach (omega arith) (parts_kept _ _ ha)

    pub recent_within : IsRecentMean (2 ^ 16) (shown a) → IsSince (RECENT_START +ℤ pos 1) (2 ^ 29 + 2 ^ 24) (shown y4)
    recent_within ha =
        measured shown n 0 (part_bounds recent_mean_from recent_mean_to) sum_of_parts _ _ 0 (2 ^ 29 + 2 ^ 24)
        (2 ^ 29 + 2 ^ 24) y4 p recent_parts_reach
        (omega arith) (parts_kept _ _ ha)

-- a number of months within 25.1 centuries, and a recent one
pub months_near : (k : ℤ) → IsNearMonth k → IsNearTime (centuries_of_months k)
months_near k h = record { size = omega (arith, ints, h.0, h.1); numerator = omega (arith, ints, h.0, h.1) }

pub months_recent : (k : ℤ) → IsRecentMonth k → IsNearMonth k
months_recent k h = (omega (arith, ints, h.0), omega (arith, ints, h.1))

-- what is taken again is wider than what was found
pub found_within : {E : Type 0} (low high : ℤ) (shown : E → Interval) (r : Result E Fail)
    → Measures (λ y. IsWithin low high (2 ^ 29 + 2 ^ 24 + 2 ^ 17) (shown y)) r
    → Measures (λ y. IsWithin low high (2 ^ 30) (shown y)) r
found_within low high shown (Ok y) h = looser low high low high (2 ^ 29 + 2 ^ 24 + 2 ^ 17) (2 ^ 30) (shown y)
    (omega (arith, ints)) (omega (arith, ints))
    (omega arith) h
found_within low high shown (Err f) h = h
