-- How wide the moment of an evening is at the scale 2^-56, and what the criterion is taken of at that moment. Each
-- number is computed with bounds in place of its arguments, once, and `measured` leads to the width of any enclosure. A
-- longitude on the ground is known by the width of its part of a day: that product is turned back into bounds of the
-- longitude itself.
use Rattle.std.specs.Prelude.{◌≡◌, ℕ, ◌+◌, ◌*◌, ◌/◌, ◌^◌, ◌≤◌, Bool, true, false, ℤ, pos, neg_ℤ, ◌*ℤ◌, ◌≤ℤ◌, ◌&&◌, refl}
use Rattle.std.specs.Prelude.{if◌then◌else◌, ◌==◌}
use Rattle.std.proofs.Common.{arith}
use Rattle.std.proofs.lemmas.Int.{ints, clamps}
use Rattle.std.proofs.lemmas.Float.{T_from_true}
use Rattle.std.specs.Int.{int_min, int_max}
use Rattle.std.specs.Int.Signed.{le_z, le_z_yes}
use Rattle.book_model.specs.Fraction.{floor_quotient}
use Rattle.book_model.specs.Interval.{Interval}
use Rattle.book_model.proofs.Floors.{floor_quotient_is}
use Rattle.book_model.specs.declared.crescent_tables.TheConstants.{CRESCENT_DEPRESSION}
use Rattle.book_model.specs.declared.frac.Frac.{Frac}
use Rattle.book_model.specs.declared.sun_tables.TheConstants.{DEGREE_IN_DAYS}
use Rattle.book_model.specs.numbers.Bounds.{Bound, unbounded, bounded, Reach, limited, implies, bound_of, limits_at}
use Rattle.book_model.specs.numbers.Bounds.{limits_of, constant_bound, scaled_bound, sum_bound, ceil_quotient}
use Rattle.book_model.specs.numbers.Expressions.{Expression, argument, constant, add}
use Rattle.book_model.specs.numbers.Fractions.{fraction_of}
use Rattle.book_model.specs.numbers.Ranges.{IsInTable}
use Rattle.book_model.specs.numbers.Relations.{Narrow}
use Rattle.book_model.specs.programs.Widths.{IsAbout, IsUpTo}
use Rattle.book_model.specs.sky.Noon.{ahead_of}
use Rattle.encl_core.proofs.Measuring.{measured, sloped, looser, drawn}
use Rattle.rise_set.specs.SunWidths.{IsNarrowPlace}
use Rattle.rise_set.specs.Widths.{IsDepression}
use Rattle.rise_set.specs.Altitudes.{IsMoonAngle, IsMoonLatitude, IsLocalSiderealTime}
use Rattle.crescent.specs.Widths.{IsEvening, IsDatedEvening, IsSiderealTime}
use Rattle.book_model.specs.declared.time_tables.TheConstants.{TABLE_START, TABLE_END}

-- ---- the depression of the sun
depression_reach : implies (bound_of (limits_at 56) (λ k. unbounded) (constant (fraction_of CRESCENT_DEPRESSION)))
    (bounded (pos 0) (pos (46 * 2 ^ 32 / 10)) 0 (2 ^ 24)) ≡ true
unfolding implies bound_of constant_bound
depression_reach = refl

pub depression_within : {E : Type 0} (shown : E → Interval) (n : ℕ) (x : E) → n ≡ 56
    → ((r : Reach) → Narrow shown (limits_of n) r (constant (fraction_of CRESCENT_DEPRESSION)) x)
    → IsDepression (shown x)
depression_within shown n x e f = measured shown n 0 (λ k. unbounded) (constant (fraction_of CRESCENT_DEPRESSION)) _ _ 0
    (2 ^ 24) (2 ^ 24) x e depression_reach
    (omega arith) (f (record { width = 0; bounds = λ k. unbounded }))

-- ---- ranges of what is taken at the moment of an evening
pub dated_evening : (i : Interval) → IsInTable i → IsEvening i → IsDatedEvening i
dated_evening i t h = drawn TABLE_START TABLE_END _ _ (9 * 2 ^ 29) i t h

pub dated_moment : (i : Interval) → IsDatedEvening i → IsEvening i
dated_moment i h = looser _ _ _ _ (9 * 2 ^ 29) (9 * 2 ^ 29) i (omega (arith, ints)) (omega (arith, ints))
    (omega arith) h

pub angle_within : (v : ℕ) (i : Interval) → v ≤ 2 ^ 38 → IsUpTo 360 v i → IsMoonAngle i
angle_within v i b h = looser _ _ _ _ v (2 ^ 38) i (omega (arith, ints)) (omega (arith, ints)) b h

pub north_within : (i : Interval) → IsAbout (7 * 2 ^ 32) (4 * (9 * 2 ^ 29) + 2 ^ 36) i → IsMoonLatitude i
north_within i h = looser _ _ _ _ (4 * (9 * 2 ^ 29) + 2 ^ 36) (2 ^ 37) i (omega (arith, ints)) (omega (arith, ints))
    (omega arith) h

pub greenwich_within : (i : Interval) → IsAbout (2 ^ 61) (362 * (9 * 2 ^ 29) + 2 ^ 37) i → IsSiderealTime i
greenwich_within i h = looser _ _ _ _ (362 * (9 * 2 ^ 29) + 2 ^ 37) (2 ^ 41) i (omega (arith, ints))
    (omega (arith, ints)) (omega arith) h

-- ---- a longitude of the ground: it lies within a turn of 0 where its part of a day lies within a day
parts : (p q r s : Bool) → (p && q && r && s) ≡ true → (p ≡ true) × (q ≡ true)
parts true true r s e = (refl, refl)
parts true false r s e = absurd (cc)
parts false q r s e = absurd (cc)

le_true : (a b : ℤ) → le_z a b ≡ true → a ≤ℤ b
le_true a b e = le_z_yes (T_from_true _ e)

both_endpoints : (p q : Bool) → p ≡ true → q ≡ true → (p && q && true && true) ≡ true
both_endpoints true true h k = refl
both_endpoints true false h k = absurd (cc)
both_endpoints false q h k = absurd (cc)

le_yes : (a b : ℤ) → a ≤ℤ b → le_z a b ≡ true
le_yes a b h = let e : true ≡ le_z a b = omega (arith, ints) in cc

min_first : (a b c : ℤ) → c ≤ℤ int_min a b → c ≤ℤ a
min_first a b c h = omega (arith, ints, clamps)

max_second : (a b c : ℤ) → int_max a b ≤ℤ c → b ≤ℤ c
max_second a b c h = omega (arith, ints, clamps)

from_quotient : (q n : ℤ) → neg_ℤ (pos (2 ^ 32)) ≤ℤ q → (q *ℤ pos 360) ≤ℤ n → neg_ℤ (pos (360 * 2 ^ 32)) ≤ℤ n
from_quotient q n h k = omega (arith, ints)

to_quotient : (q n : ℤ) → neg_ℤ q ≤ℤ pos (2 ^ 32) → (q *ℤ pos 360) ≤ℤ neg_ℤ n → n ≤ℤ pos (360 * 2 ^ 32)
to_quotient q n h k = omega (arith, ints)

once : (n : ℤ) → n *ℤ pos 1 ≡ n
once n = omega (arith, ints)

least_low : (lo hi : ℤ) → neg_ℤ (pos (2 ^ 32)) ≤ℤ int_min (floor_quotient (lo *ℤ pos 1) 359)
    (floor_quotient (hi *ℤ pos 1) 359) → neg_ℤ (pos (360 * 2 ^ 32))
    ≤ℤ lo
least_low lo hi h =
    let z = floor_quotient_is (lo *ℤ pos 1) 359 in
    let n = from_quotient (floor_quotient (lo *ℤ pos 1) 359) (lo *ℤ pos 1) (min_first _ _ _ h) z.not_above in
    omega (arith, ints, once lo, n)

greatest_high : (lo hi : ℤ) → int_max (ceil_quotient (lo *ℤ pos 1) 359) (ceil_quotient (hi *ℤ pos 1) 359) ≤ℤ pos
    (2 ^ 32) → hi ≤ℤ pos (360 * 2 ^ 32)
greatest_high lo hi h =
    let z = floor_quotient_is (neg_ℤ (hi *ℤ pos 1)) 359 in
    let n = to_quotient (floor_quotient (neg_ℤ (hi *ℤ pos 1)) 359) (hi *ℤ pos 1)
    (max_second (ceil_quotient (lo *ℤ pos 1) 359) _ _ h) z.not_above in
    omega (arith, ints, once hi, n)

by_scaled : (t : Bool) (lo hi : ℤ) (s k : ℕ)
    → implies (limited t (bounded (int_min (floor_quotient (lo *ℤ pos 1) 359) (floor_quotient (hi *ℤ pos 1) 359))
    (int_max (ceil_quotient (lo *ℤ pos 1) 359) (ceil_quotient (hi *ℤ pos 1) 359)) s k))
    (bounded (neg_ℤ (pos (2 ^ 32))) (pos (2 ^ 32)) 0 (2 ^ 10)) ≡ true
    → implies (bounded lo hi 0 (2 ^ 8)) (bounded (neg_ℤ (pos (360 * 2 ^ 32))) (pos (360 * 2 ^ 32)) 0 (2 ^ 8)) ≡ true
unfolding implies
by_scaled false lo hi s k h = absurd (cc)
by_scaled true lo hi s k h =
    let p = parts _ _ _ _ h in
    both_endpoints _ _ (le_yes _ _ (least_low lo hi (le_true _ _ p.0)))
    (le_yes _ _ (greatest_high lo hi (le_true _ _ p.1)))

by_endpoints : (t : Bool) (lo hi : ℤ)
    → implies (scaled_bound (limits_at 56) (fraction_of DEGREE_IN_DAYS) (limited t (bounded lo hi 0 (2 ^ 8))))
    (bounded (neg_ℤ (pos (2 ^ 32))) (pos (2 ^ 32)) 0 (2 ^ 10)) ≡ true
    → implies (limited t (bounded lo hi 0 (2 ^ 8))) (bounded (neg_ℤ (pos (360 * 2 ^ 32))) (pos (360 * 2 ^ 32)) 0
    (2 ^ 8)) ≡ true
unfolding implies scaled_bound
by_endpoints false lo hi h = absurd (cc)
by_endpoints true lo hi h = by_scaled _ lo hi _ _ h

place_reach : (l : Frac) → IsNarrowPlace l
    → implies (bound_of (limits_at 56) (λ k. unbounded) (constant (fraction_of l)))
    (bounded (neg_ℤ (pos (360 * 2 ^ 32))) (pos (360 * 2 ^ 32)) 0 (2 ^ 8)) ≡ true
unfolding bound_of constant_bound ahead_of
place_reach l p = by_endpoints _ _ _ p.narrow

abbrev local_bounds : ℕ → Bound
local_bounds k = if k == 0 then bounded (neg_ℤ (pos (2 ^ 61))) (pos (2 ^ 61)) 0 (2 ^ 41)
    else bounded (neg_ℤ (pos (360 * 2 ^ 32))) (pos (360 * 2 ^ 32)) 0
    (2 ^ 8)

local_reach : implies (bound_of (limits_at 56) local_bounds (add (argument 0) (argument 1)))
    (bounded (neg_ℤ (pos (2 ^ 62))) (pos (2 ^ 62)) 0 (2 ^ 41 + 2 ^ 8))
    ≡ true
unfolding implies bound_of sum_bound
local_reach = refl

-- the sidereal time at a longitude
pub local_within : {E : Type 0} (shown : E → Interval) (n : ℕ) (l : Frac) (t a y : E) → n ≡ 56 → IsNarrowPlace l
    → IsSiderealTime (shown t)
    → ((r : Reach) → Narrow shown (limits_of n) r (constant (fraction_of l)) a)
    → ((r : Reach) (p q : Expression) → Narrow shown (limits_of n) r p t → Narrow shown (limits_of n) r q a
    → Narrow shown (limits_of n) r (add p q) y)
    → IsLocalSiderealTime (shown y)
local_within shown n l t a y e p h f g =
    let d = measured shown n 0 (λ k. unbounded) (constant (fraction_of l)) _ _ 0 (2 ^ 8) (2 ^ 8) a e (place_reach l p)
    (omega arith)
    (f (record { width = 0; bounds = λ k. unbounded })) in
    measured shown n 0 local_bounds (add (argument 0) (argument 1)) _ _ 0 (2 ^ 41 + 2 ^ 8) (2 ^ 41 + 2 ^ 8) y e
    local_reach (omega arith)
    (g (record { width = 0; bounds = local_bounds }) (argument 0) (argument 1)
    (sloped shown (limits_of n) 0 (2 ^ 41) local_bounds 0 (neg_ℤ (pos (2 ^ 61))) (pos (2 ^ 61)) 0 (2 ^ 41) t refl
    (omega arith) h)
    (sloped shown (limits_of n) 0 (2 ^ 8) local_bounds 1 (neg_ℤ (pos (360 * 2 ^ 32))) (pos (360 * 2 ^ 32)) 0 (2 ^ 8) a
    refl (omega arith) d))
