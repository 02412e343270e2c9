-- How wide declinations, offsets and approximations of dawn and dusk are at the scale 2^-56. The bound of each
-- expression is computed once of ranges of its arguments (`.._reach`), and `measured` leads from there to the
-- enclosure. Of places the latitude is from 0 to 36 degrees and the depression at most 4.6, of which the ranges of
-- tangents, cosines and sines are computed.
use Rattle.std.specs.Prelude.{◌≡◌, ℕ, ◌+◌, ◌-◌, ◌*◌, ◌/◌, ◌^◌, ◌≤◌, Bool, true, false, not, cond, ℤ, pos, neg_ℤ, ◌+ℤ◌}
use Rattle.std.specs.Prelude.{◌*ℤ◌, ◌≤ℤ◌, nat_lt, unsigned_abs, max, Some, Result, Ok, Err, IfOk, IfErr, refl}
use Rattle.std.specs.Prelude.{if◌then◌else◌, ◌==◌}
use Rattle.std.proofs.Common.{arith, sym}
use Rattle.std.proofs.lemmas.Int.{ints}
use Rattle.std.proofs.lemmas.Bool.{lt-ltb}
use lib.Signed.{le_z}
use Rattle.book_model.specs.Fraction.{Fraction, den, ◌≤F◌, is_at_most}
use Rattle.book_model.specs.Interval.{Interval, everything, between}
use Rattle.book_model.proofs.Fractions.{le_trans}
use Rattle.book_model.specs.declared.frac.Frac.{Frac}
use Rattle.book_model.specs.declared.fail.Fail.{Fail}
use Rattle.book_model.specs.declared.fail.Fail.TheVariants.{Undecided as undecided_at, Void}
use Rattle.book_model.specs.declared.site.Site.{Site}
use Rattle.book_model.specs.declared.location_tables.TheConstants.{HALF_MINUTE}
use Rattle.book_model.specs.declared.horizon.Twilight.{Twilight}
use Rattle.book_model.specs.declared.horizon.Twilight.TheVariants.{Dawn, Dusk}
use Rattle.book_model.specs.numbers.Bounds.{Bound, unbounded, bounded, Reach, implies, bound_of, limits_at, limits_of}
use Rattle.book_model.specs.numbers.Bounds.{integer_bound, constant_bound, sum_bound, difference_bound, negated_bound}
use Rattle.book_model.specs.numbers.Bounds.{scaled_bound, product_bound, power_bound, quotient_bound, maximum_bound}
use Rattle.book_model.specs.numbers.Bounds.{spanned_bound, sine_spans, cosine_spans, root_bound, clamp_bound, arc_spans}
use Rattle.book_model.specs.numbers.Bounds.{arctangent_bound, half_tangent_bound, arcsine_bound, at_32, IsNarrow}
use Rattle.book_model.specs.numbers.Roots.{root_by_digits}
use Rattle.book_model.specs.numbers.Expressions.{Expression, argument, constant, integer, add, subtract}
use Rattle.book_model.specs.numbers.Expressions.{sine as sine_of, cosine as cosine_of, tangent as tangent_of}
use Rattle.book_model.specs.numbers.Fractions.{fraction_of}
use Rattle.book_model.specs.numbers.Relations.{Narrow, Keeps}
use Rattle.book_model.specs.programs.Programs.{compare_at, when}
use Rattle.book_model.specs.programs.Widths.{IsWithin, IsAbout, IsMoment, IsUpTo, Measures}
use Rattle.book_model.specs.sky.Horizon.{declination_by, part_of, quarter_of}
use Rattle.book_model.specs.sky.Noon.{ahead_of}
use Rattle.book_model.specs.sky.Phases.{size_of}
use Rattle.book_model.proofs.Implying.{limits_within}
use Rattle.encl_core.proofs.Measuring.{measured, measured_argument, sloped, looser}
use Rattle.sun_core.specs.Widths.{IsNarrowPlace, IsObliquity, IsLocalMoment}
use Rattle.sun_core.proofs.Measured.{ahead_within}
use Rattle.encl_core.specs.Steps.{IsUndecidedLess}
use Rattle.rise_set.specs.Horizons.{offset_by_parts}
use Rattle.rise_set.specs.Widths.{IsMeanMoment, IsDeclination, IsDepression, IsOffset, IsSettled}
use Rattle.book_model.specs.sky.Facts.{IsFactDay}

-- ---- the universal time of a moment of local mean time
abbrev mean_bounds : ℕ → Bound
mean_bounds k = if k == 0 then bounded (neg_ℤ (pos (2 ^ 58 - 2 ^ 32))) (pos (2 ^ 58 - 2 ^ 32)) (2 ^ 40) 0
    else bounded (neg_ℤ (pos (2 ^ 32))) (pos (2 ^ 32)) 0
    (2 ^ 10)

universal_reach : implies (bound_of (limits_at 56) mean_bounds (subtract (argument 0) (argument 1)))
    (bounded (neg_ℤ (pos (2 ^ 58))) (pos (2 ^ 58)) (2 ^ 40) (2 ^ 10)) ≡ true
unfolding implies bound_of difference_bound
universal_reach = refl

pub local_within : {E : Type 0} (shown : E → Interval) (n v : ℕ) (l : Frac) (t a u : E) → n ≡ 56 → IsNarrowPlace l
    → IsAbout (2 ^ 58 - 2 ^ 32) v (shown t)
    → ((r : Reach) → Narrow shown (limits_of n) r (ahead_of (fraction_of l)) a)
    → ((r : Reach) (p q : Expression) → Narrow shown (limits_of n) r p t → Narrow shown (limits_of n) r q a
    → Narrow shown (limits_of n) r (subtract p q) u)
    → IsMoment (v + 2 ^ 10) (shown u)
local_within shown n v l t a u e p h f g =
    measured shown n v mean_bounds (subtract (argument 0) (argument 1)) _ _ (2 ^ 40) (2 ^ 10) (v + 2 ^ 10) u e
    universal_reach (omega arith)
    (g (record { width = v; bounds = mean_bounds }) (argument 0) (argument 1)
    (sloped shown (limits_of n) v v mean_bounds 0 (neg_ℤ (pos (2 ^ 58 - 2 ^ 32))) (pos (2 ^ 58 - 2 ^ 32)) (2 ^ 40) 0 t
    refl (omega arith) h)
    (sloped shown (limits_of n) v (2 ^ 10) mean_bounds 1 (neg_ℤ (pos (2 ^ 32))) (pos (2 ^ 32)) 0 (2 ^ 10) a refl
    (omega arith)
    (ahead_within shown n l a e p f)))

pub mean_local : (v : ℕ) (i : Interval) → IsMeanMoment v i → IsAbout (2 ^ 58 - 2 ^ 32) v i
mean_local v i h = looser _ _ _ _ v v i (omega (arith, ints)) (omega (arith, ints)) (omega arith) h

-- ---- the declination
abbrev ecliptic_bounds : ℕ → Bound
ecliptic_bounds k = if k == 0 then bounded (pos (23 * 2 ^ 32)) (pos (24 * 2 ^ 32)) (2 ^ 19) (2 ^ 13)
    else bounded (pos 0) (pos (360 * 2 ^ 32)) (2 * 2 ^ 40)
    (2 ^ 32)

declination_reach : implies (bound_of (limits_at 56) ecliptic_bounds (declination_by (argument 0) (argument 1)))
    (bounded (neg_ℤ (pos (2531 * 2 ^ 32 / 100))) (pos (2531 * 2 ^ 32 / 100)) (2 ^ 40) (2 ^ 32)) ≡ true
unfolding implies bound_of integer_bound sum_bound difference_bound scaled_bound product_bound power_bound
    quotient_bound clamp_bound root_bound root_by_digits
    spanned_bound sine_spans arc_spans arctangent_bound half_tangent_bound arcsine_bound declination_by
declination_reach = refl

pub declination_within : {E : Type 0} (shown : E → Interval) (n v : ℕ) (o s d : E) → n ≡ 56
    → IsObliquity (v / 36525 + 2 ^ 12) (shown o)
    → IsUpTo 360 (2 * v + 2 ^ 32) (shown s)
    → ((r : Reach) (x y : Expression) → Narrow shown (limits_of n) r x o → Narrow shown (limits_of n) r y s
    → Narrow shown (limits_of n) r (declination_by x y) d) → IsDeclination (v + 2 ^ 32) (shown d)
declination_within shown n v o s d e h k f =
    measured shown n v ecliptic_bounds (declination_by (argument 0) (argument 1)) _ _ (2 ^ 40) (2 ^ 32) (v + 2 ^ 32) d e
    declination_reach (omega arith)
    (f (record { width = v; bounds = ecliptic_bounds }) (argument 0) (argument 1)
    (sloped shown (limits_of n) v ((v / 36525 + 2 ^ 12) / 64 + 2 ^ 12) ecliptic_bounds 0 (pos (23 * 2 ^ 32))
    (pos (24 * 2 ^ 32)) (2 ^ 19) (2 ^ 13) o refl
    (omega arith) h)
    (sloped shown (limits_of n) v (2 * v + 2 ^ 32) ecliptic_bounds 1 (pos 0) (pos (360 * 2 ^ 32)) (2 * 2 ^ 40) (2 ^ 32)
    s refl (omega arith) k))

-- ---- a horizon
abbrev latitude_bounds : ℕ → Bound
latitude_bounds k = bounded (pos 0) (pos (36 * 2 ^ 32)) 0 (2 ^ 8)

tangent_reach : implies (bound_of (limits_at 56) latitude_bounds (tangent_of (argument 0)))
    (bounded (neg_ℤ (pos (63 * 2 ^ 32 / 80))) (pos (63 * 2 ^ 32 / 80)) 0 (2 ^ 15)) ≡ true
unfolding implies bound_of quotient_bound spanned_bound sine_spans cosine_spans
tangent_reach = refl

cosine_reach : implies (bound_of (limits_at 56) latitude_bounds (cosine_of (argument 0)))
    (bounded (pos (802 * 2 ^ 32 / 1000)) (pos (2 ^ 32)) 0 (2 ^ 14)) ≡ true
unfolding implies bound_of spanned_bound cosine_spans
cosine_reach = refl

abbrev depression_bounds : ℕ → Bound
depression_bounds k = bounded (pos 0) (pos (46 * 2 ^ 32 / 10)) 0 (2 ^ 24)

sine_reach : implies (bound_of (limits_at 56) depression_bounds (sine_of (argument 0)))
    (bounded (neg_ℤ (pos (808 * 2 ^ 32 / 10000))) (pos (808 * 2 ^ 32 / 10000)) 0 (2 ^ 19)) ≡ true
unfolding implies bound_of spanned_bound sine_spans
sine_reach = refl

-- the latitude of a location, as an enclosure
pub latitude_within : {E : Type 0} (shown : E → Interval) (n : ℕ) (l : Frac) (x : E) → n ≡ 56
    → implies (bound_of (limits_at 56) (λ k. unbounded) (constant (fraction_of l)))
    (bounded (pos 0) (pos (36 * 2 ^ 32)) 0 (2 ^ 8)) ≡ true
    → ((r : Reach) → Narrow shown (limits_of n) r (constant (fraction_of l)) x)
    → IsWithin (pos 0) (pos (36 * 2 ^ 32)) (2 ^ 8) (shown x)
latitude_within shown n l x e p f = measured shown n 0 (λ k. unbounded) (constant (fraction_of l)) _ _ 0 (2 ^ 8) (2 ^ 8)
    x e p (omega arith)
    (f (record { width = 0; bounds = λ k. unbounded }))

pub tangent_within : {E : Type 0} (shown : E → Interval) (n : ℕ) (x y : E) → n ≡ 56
    → IsWithin (pos 0) (pos (36 * 2 ^ 32)) (2 ^ 8) (shown x)
    → ((r : Reach) (p : Expression) → Narrow shown (limits_of n) r p x → Narrow shown (limits_of n) r (tangent_of p) y)
    → IsAbout (63 * 2 ^ 32 / 80) (2 ^ 15) (shown y)
tangent_within shown n x y e h f =
    measured shown n 0 latitude_bounds (tangent_of (argument 0)) _ _ 0 (2 ^ 15) (2 ^ 15) y e tangent_reach (omega arith)
    (f (record { width = 0; bounds = latitude_bounds }) (argument 0)
    (sloped shown (limits_of n) 0 (2 ^ 8) latitude_bounds 0 (pos 0) (pos (36 * 2 ^ 32)) 0 (2 ^ 8) x refl
    (omega arith) h))

pub cosine_within : {E : Type 0} (shown : E → Interval) (n : ℕ) (x y : E) → n ≡ 56
    → IsWithin (pos 0) (pos (36 * 2 ^ 32)) (2 ^ 8) (shown x)
    → ((r : Reach) (p : Expression) → Narrow shown (limits_of n) r p x → Narrow shown (limits_of n) r (cosine_of p) y)
    → IsWithin (pos (802 * 2 ^ 32 / 1000)) (pos (2 ^ 32)) (2 ^ 14) (shown y)
cosine_within shown n x y e h f =
    measured shown n 0 latitude_bounds (cosine_of (argument 0)) _ _ 0 (2 ^ 14) (2 ^ 14) y e cosine_reach (omega arith)
    (f (record { width = 0; bounds = latitude_bounds }) (argument 0)
    (sloped shown (limits_of n) 0 (2 ^ 8) latitude_bounds 0 (pos 0) (pos (36 * 2 ^ 32)) 0 (2 ^ 8) x refl
    (omega arith) h))

pub sine_within : {E : Type 0} (shown : E → Interval) (n : ℕ) (x y : E) → n ≡ 56 → IsDepression (shown x)
    → ((r : Reach) (p : Expression) → Narrow shown (limits_of n) r p x → Narrow shown (limits_of n) r (sine_of p) y)
    → IsAbout (808 * 2 ^ 32 / 10000) (2 ^ 19) (shown y)
sine_within shown n x y e h f =
    measured shown n 0 depression_bounds (sine_of (argument 0)) _ _ 0 (2 ^ 19) (2 ^ 19) y e sine_reach (omega arith)
    (f (record { width = 0; bounds = depression_bounds }) (argument 0)
    (sloped shown (limits_of n) 0 (2 ^ 24) depression_bounds 0 (pos 0) (pos (46 * 2 ^ 32 / 10)) 0 (2 ^ 24) x refl
    (omega arith) h))

-- ---- the offset: the tangent and the cosine of the latitude, the sine of the depression, and the declination
abbrev offset_bounds : ℕ → Bound
offset_bounds k =
    if k == 0 then bounded (neg_ℤ (pos (63 * 2 ^ 32 / 80))) (pos (63 * 2 ^ 32 / 80)) 0 (2 ^ 15)
    else (if k == 1 then bounded (pos (802 * 2 ^ 32 / 1000)) (pos (2 ^ 32)) 0 (2 ^ 14)
    else (if k == 2 then bounded (neg_ℤ (pos (808 * 2 ^ 32 / 10000))) (pos (808 * 2 ^ 32 / 10000)) 0 (2 ^ 19)
    else bounded (neg_ℤ (pos (2531 * 2 ^ 32 / 100))) (pos (2531 * 2 ^ 32 / 100)) (2 ^ 40) (2 ^ 32 + 2 ^ 10)))

offset_reach : implies (bound_of (limits_at 56) offset_bounds (offset_by_parts (argument 0) (argument 1) (argument 2)
    (argument 3)))
    (bounded (neg_ℤ (pos (2 ^ 31))) (pos (2 ^ 31)) (2 ^ 35) (2 ^ 27)) ≡ true
unfolding implies bound_of sum_bound product_bound quotient_bound spanned_bound sine_spans cosine_spans offset_by_parts
offset_reach = refl

pub offset_within : {E : Type 0} (shown : E → Interval) (n v : ℕ) (t c s d y : E) → n ≡ 56
    → IsAbout (63 * 2 ^ 32 / 80) (2 ^ 15) (shown t)
    → IsWithin (pos (802 * 2 ^ 32 / 1000)) (pos (2 ^ 32)) (2 ^ 14) (shown c)
    → IsAbout (808 * 2 ^ 32 / 10000) (2 ^ 19) (shown s) → IsDeclination ((v + 2 ^ 10) + 2 ^ 32) (shown d)
    → ((r : Reach) (p q x z : Expression) → Narrow shown (limits_of n) r p t → Narrow shown (limits_of n) r q c
    → Narrow shown (limits_of n) r x s
    → Narrow shown (limits_of n) r z d → Narrow shown (limits_of n) r (offset_by_parts p q x z) y)
    → IsOffset (v / 16 + 2 ^ 28) (shown y)
offset_within shown n v t c s d y e h k i j f =
    measured shown n v offset_bounds (offset_by_parts (argument 0) (argument 1) (argument 2) (argument 3)) _ _ (2 ^ 35)
    (2 ^ 27) (v / 16 + 2 ^ 28) y e
    offset_reach (omega arith)
    (f (record { width = v; bounds = offset_bounds }) (argument 0) (argument 1) (argument 2) (argument 3)
    (sloped shown (limits_of n) v (2 ^ 15) offset_bounds 0 (neg_ℤ (pos (63 * 2 ^ 32 / 80))) (pos (63 * 2 ^ 32 / 80)) 0
    (2 ^ 15) t refl (omega arith) h)
    (sloped shown (limits_of n) v (2 ^ 14) offset_bounds 1 (pos (802 * 2 ^ 32 / 1000)) (pos (2 ^ 32)) 0 (2 ^ 14) c refl
    (omega arith) k)
    (sloped shown (limits_of n) v (2 ^ 19) offset_bounds 2 (neg_ℤ (pos (808 * 2 ^ 32 / 10000)))
    (pos (808 * 2 ^ 32 / 10000)) 0 (2 ^ 19) s refl (omega arith) i)
    (sloped shown (limits_of n) v ((v + 2 ^ 10) + 2 ^ 32) offset_bounds 3 (neg_ℤ (pos (2531 * 2 ^ 32 / 100)))
    (pos (2531 * 2 ^ 32 / 100)) (2 ^ 40)
    (2 ^ 32 + 2 ^ 10) d refl (omega arith) j))

-- ---- sizes, and offsets that are sines
abbrev offsets_bounds : ℕ → Bound
offsets_bounds k = bounded (neg_ℤ (pos (2 ^ 31))) (pos (2 ^ 31)) (2 ^ 40) 0

size_reach : implies (bound_of (limits_at 56) offsets_bounds (size_of (argument 0)))
    (bounded (neg_ℤ (pos (2 ^ 31))) (pos (2 ^ 31)) (2 ^ 40) 0) ≡ true
unfolding implies bound_of maximum_bound negated_bound
size_reach = refl

pub size_within : {E : Type 0} (shown : E → Interval) (n v : ℕ) (x y : E) → n ≡ 56 → IsOffset v (shown x)
    → ((r : Reach) (p : Expression) → Narrow shown (limits_of n) r p x → Narrow shown (limits_of n) r (size_of p) y)
    → IsOffset v (shown y)
size_within shown n v x y e h f =
    measured shown n v offsets_bounds (size_of (argument 0)) _ _ (2 ^ 40) 0 v y e size_reach (omega arith)
    (f (record { width = v; bounds = offsets_bounds }) (argument 0) (measured_argument shown (limits_of n) _ _ v 0 x h))

one_reach : implies (bound_of (limits_at 56) (λ k. unbounded) (integer (pos 1)))
    (bounded (pos (2 ^ 32)) (pos (2 ^ 32)) 0 0) ≡ true
unfolding implies bound_of integer_bound
one_reach = refl

pub one_within : {E : Type 0} (shown : E → Interval) (n : ℕ) (x : E) → n ≡ 56
    → ((r : Reach) → Narrow shown (limits_of n) r (integer (pos 1)) x)
    → IsWithin (pos (2 ^ 32)) (pos (2 ^ 32)) 0 (shown x)
one_within shown n x e f = measured shown n 0 (λ k. unbounded) (integer (pos 1)) _ _ 0 0 0 x e one_reach (omega arith)
    (f (record { width = 0; bounds = λ k. unbounded }))

by_tests : (p q : Bool) → p ≡ true → q ≡ true → cond (not p) (Some true) (when q false) ≡ Some false
by_tests true true h k = refl
by_tests true false h k = absurd (cc)
by_tests false q h k = absurd (cc)

at_most_yes : (a b : Fraction) → a ≤F b → is_at_most a b ≡ true
unfolding is_at_most
at_most_yes a b h = let k = h.cross in let e : true ≡ le_z (a.num *ℤ den b) (b.num *ℤ den a) = omega (arith, ints) in
    sym e

half_below : (a d : Fraction) → at_32 (pos (2 ^ 32)) ≤F a → d ≤F at_32 (pos (2 ^ 31)) → d ≤F a
half_below a d h k = le_trans _ _ _ k (le_trans _ _ _ (record { cross = omega (arith, ints) }) h)

-- 1 isn't below a number that is at most 1/2
pub one_above : (v : ℕ) (i j : Interval) → IsWithin (pos (2 ^ 32)) (pos (2 ^ 32)) 0 i → IsOffset v j
    → compare_at i j ≡ Some false
unfolding compare_at IsNarrow
one_above v everything j h k = absurd h.kept
one_above v (between a b) everything h k = absurd k.kept
one_above v (between a b) (between c d) h k =
    let low = half_below a d h.kept.above k.kept.below in
    by_tests (is_at_most c b) (is_at_most d a)
    (at_most_yes c b (le_trans _ _ _ k.kept.ordered (le_trans _ _ _ low h.kept.ordered))) (at_most_yes d a low)

-- so the test whether an offset is no sine is decided
pub within_reach : (s : Site) (v : ℕ) (i j : Interval) (r : Result Bool Fail)
    → IsWithin (pos (2 ^ 32)) (pos (2 ^ 32)) 0 i → IsOffset v j
    → IfOk r (λ t. compare_at i j ≡ Some t) → IfErr r (IsUndecidedLess i j s) → Measures (λ t. t ≡ false) r
within_reach s v i j (Ok t) h k d o = let z = one_above v i j h k in cc
within_reach s v i j (Err (undecided_at u)) h k d o = let z = one_above v i j h k in let n = o.0.open_there in
    absurd (cc)
within_reach s v i j (Err (Void t)) h k d o = absurd o

-- ---- the angle of an offset as a part of a day, and the apparent time
part_reach : implies (bound_of (limits_at 56) offsets_bounds (part_of (argument 0)))
    (bounded (neg_ℤ (pos (2 ^ 29))) (pos (2 ^ 29)) 219000000000 (2 ^ 10))
    ≡ true
unfolding implies bound_of integer_bound sum_bound difference_bound scaled_bound power_bound product_bound
    quotient_bound clamp_bound root_bound root_by_digits
    spanned_bound arc_spans arctangent_bound half_tangent_bound arcsine_bound
part_reach = refl

pub part_within : {E : Type 0} (shown : E → Interval) (n v : ℕ) (x y : E) → n ≡ 56 → IsOffset v (shown x)
    → ((r : Reach) (p : Expression) → Narrow shown (limits_of n) r p x → Narrow shown (limits_of n) r (part_of p) y)
    → IsAbout (2 ^ 29) (v / 5 + 2 ^ 10 + 1) (shown y)
part_within shown n v x y e h f =
    measured shown n v offsets_bounds (part_of (argument 0)) _ _ 219000000000 (2 ^ 10) (v / 5 + 2 ^ 10 + 1) y e
    part_reach (omega arith)
    (f (record { width = v; bounds = offsets_bounds }) (argument 0) (measured_argument shown (limits_of n) _ _ v 0 x h))

-- a quarter of a day, or three
quarters : Twilight → ℤ
quarters Dawn = pos (2 ^ 30)
quarters Dusk = pos (3 * 2 ^ 30)

quarter_bound : (k : Twilight) (d : ℤ) → IsFactDay d → bound_of (limits_at 56) (λ k. unbounded) (quarter_of k d)
    ≡ bounded (d *ℤ pos (2 ^ 32) +ℤ quarters k) (d *ℤ pos (2 ^ 32) +ℤ quarters k) 0 (2 ^ 8)
unfolding bound_of integer_bound constant_bound sum_bound quarter_of quarters
quarter_bound Dawn d h =
    let p : nat_lt (unsigned_abs d * 2 ^ 32) (2 ^ 100) ≡ true = lt-ltb _ _ (omega (arith, ints, h.0, h.1)) in
    let q : nat_lt (max (unsigned_abs (d *ℤ pos (2 ^ 32) +ℤ pos (2 ^ 30)))
    (unsigned_abs (d *ℤ pos (2 ^ 32) +ℤ pos (2 ^ 30)))) (2 ^ 100)
    ≡ true = lt-ltb _ _ (omega (arith, ints, h.0, h.1)) in
    rw (p, q) refl
quarter_bound Dusk d h =
    let p : nat_lt (unsigned_abs d * 2 ^ 32) (2 ^ 100) ≡ true = lt-ltb _ _ (omega (arith, ints, h.0, h.1)) in
    let q : nat_lt (max (unsigned_abs (d *ℤ pos (2 ^ 32) +ℤ pos (3 * 2 ^ 30)))
    (unsigned_abs (d *ℤ pos (2 ^ 32) +ℤ pos (3 * 2 ^ 30)))) (2 ^ 100)
    ≡ true = lt-ltb _ _ (omega (arith, ints, h.0, h.1)) in
    rw (p, q) refl

quarters_low : (k : Twilight) → pos 0 ≤ℤ quarters k
unfolding quarters
quarters_low Dawn = omega (arith, ints)
quarters_low Dusk = omega (arith, ints)

quarters_high : (k : Twilight) → quarters k ≤ℤ pos (2 ^ 32)
unfolding quarters
quarters_high Dawn = omega (arith, ints)
quarters_high Dusk = omega (arith, ints)

pub quarter_within : {E : Type 0} (shown : E → Interval) (n : ℕ) (k : Twilight) (d : ℤ) (x : E) → n ≡ 56 → IsFactDay d
    → ((r : Reach) → Narrow shown (limits_of n) r (quarter_of k d) x) → IsAbout (40000001 * 2 ^ 32) (2 ^ 8) (shown x)
unfolding Keeps
quarter_within shown n k d x e h f =
    let l = limits_within n (omega arith) (omega arith) in
    let z = f (record { width = 0; bounds = λ k. unbounded }) in
    let b = quarter_bound k d h in
    let low = quarters_low k in
    let high = quarters_high k in
    looser _ _ _ _ (2 ^ 8) (2 ^ 8) _ (omega (arith, ints, low, h.0)) (omega (arith, ints, high, h.1)) (omega arith)
    (record { kept = rw (l, e, b) at z.kept })

abbrev apparent_bounds : ℕ → Bound
apparent_bounds k = if k == 0 then bounded (neg_ℤ (pos (40000001 * 2 ^ 32))) (pos (40000001 * 2 ^ 32)) 0 (2 ^ 8)
    else bounded (neg_ℤ (pos (2 ^ 29)))
    (pos (2 ^ 29)) (2 ^ 40) 0

less_reach : implies (bound_of (limits_at 56) apparent_bounds (subtract (argument 0) (argument 1)))
    (bounded (neg_ℤ (pos (2 ^ 58 - 2 ^ 34))) (pos (2 ^ 58 - 2 ^ 34)) (2 ^ 40) (2 ^ 8)) ≡ true
unfolding implies bound_of difference_bound
less_reach = refl

more_reach : implies (bound_of (limits_at 56) apparent_bounds (add (argument 0) (argument 1)))
    (bounded (neg_ℤ (pos (2 ^ 58 - 2 ^ 34))) (pos (2 ^ 58 - 2 ^ 34)) (2 ^ 40) (2 ^ 8)) ≡ true
unfolding implies bound_of sum_bound
more_reach = refl

module _ {E : Type 0} (shown : E → Interval) (n v : ℕ) (x y z : E) (e : n ≡ 56)
    (h : IsAbout (40000001 * 2 ^ 32) (2 ^ 8) (shown x))
    (k : IsAbout (2 ^ 29) v (shown y)) where
  quarter_kept : Narrow shown (limits_of n) (record { width = v; bounds = apparent_bounds }) (argument 0) x
  quarter_kept = sloped shown (limits_of n) v (2 ^ 8) apparent_bounds 0 (neg_ℤ (pos (40000001 * 2 ^ 32)))
      (pos (40000001 * 2 ^ 32)) 0 (2 ^ 8) x refl
      (omega arith) h

  part_kept : Narrow shown (limits_of n) (record { width = v; bounds = apparent_bounds }) (argument 1) y
  part_kept = sloped shown (limits_of n) v v apparent_bounds 1 (neg_ℤ (pos (2 ^ 29))) (pos (2 ^ 29)) (2 ^ 40) 0 y refl
      (omega arith) k

  pub less_within : (u : ℕ) → v + 2 ^ 8 ≤ u → ((r : Reach) (p q : Expression) → Narrow shown (limits_of n) r p x
      → Narrow shown (limits_of n) r q y
      → Narrow shown (limits_of n) r (subtract p q) z) → IsLocalMoment u (shown z)
  less_within u b f = measured shown n v apparent_bounds (subtract (argument 0) (argument 1)) _ _ (2 ^ 40) (2 ^ 8) u z e
      less_reach (omega arith)
      (f (record { width = v; bounds = apparent_bounds }) (argument 0) (argument 1) quarter_kept part_kept)

  pub more_within : (u : ℕ) → v + 2 ^ 8 ≤ u → ((r : Reach) (p q : Expression) → Narrow shown (limits_of n) r p x
      → Narrow shown (limits_of n) r q y
      → Narrow shown (limits_of n) r (add p q) z) → IsLocalMoment u (shown z)
  more_within u b f = measured shown n v apparent_bounds (add (argument 0) (argument 1)) _ _ (2 ^ 40) (2 ^ 8) u z e
      more_reach (omega arith)
      (f (record { width = v; bounds = apparent_bounds }) (argument 0) (argument 1) quarter_kept part_kept)

-- ---- whether two moments have settled
abbrev settled_bounds : ℕ → Bound
settled_bounds k = bounded (neg_ℤ (pos (2 ^ 58 - 2 ^ 33))) (pos (2 ^ 58 - 2 ^ 33)) 0 (17 * 2 ^ 28)

settled_reach : implies (bound_of (limits_at 56) settled_bounds (size_of (subtract (argument 1) (argument 0))))
    (bounded (neg_ℤ (pos (2 ^ 90))) (pos (2 ^ 90)) 0 (2 ^ 34)) ≡ true
unfolding implies bound_of difference_bound maximum_bound negated_bound
settled_reach = refl

pub apart_within : {E : Type 0} (shown : E → Interval) (n : ℕ) (x y d z : E) → n ≡ 56 → IsSettled (shown x)
    → IsSettled (shown y)
    → ((r : Reach) (p q : Expression) → Narrow shown (limits_of n) r p y → Narrow shown (limits_of n) r q x
    → Narrow shown (limits_of n) r (subtract p q) d)
    → ((r : Reach) (p : Expression) → Narrow shown (limits_of n) r p d → Narrow shown (limits_of n) r (size_of p) z)
    → IsAbout (2 ^ 90) (2 ^ 34) (shown z)
apart_within shown n x y d z e h k f g =
    let r : Reach = record { width = 0; bounds = settled_bounds } in
    measured shown n 0 settled_bounds (size_of (subtract (argument 1) (argument 0))) _ _ 0 (2 ^ 34) (2 ^ 34) z e
    settled_reach (omega arith)
    (g r _ (f r (argument 1) (argument 0)
    (sloped shown (limits_of n) 0 (17 * 2 ^ 28) settled_bounds 1 (neg_ℤ (pos (2 ^ 58 - 2 ^ 33))) (pos (2 ^ 58 - 2 ^ 33))
    0 (17 * 2 ^ 28) y refl (omega arith) k)
    (sloped shown (limits_of n) 0 (17 * 2 ^ 28) settled_bounds 0 (neg_ℤ (pos (2 ^ 58 - 2 ^ 33))) (pos (2 ^ 58 - 2 ^ 33))
    0 (17 * 2 ^ 28) x refl (omega arith)
    h)))

half_minute_reach : implies (bound_of (limits_at 56) (λ k. unbounded) (constant (fraction_of HALF_MINUTE)))
    (bounded (neg_ℤ (pos (2 ^ 90))) (pos (2 ^ 90)) 0 (2 ^ 8)) ≡ true
unfolding implies bound_of constant_bound
half_minute_reach = refl

pub half_minute_within : {E : Type 0} (shown : E → Interval) (n : ℕ) (x : E) → n ≡ 56
    → ((r : Reach) → Narrow shown (limits_of n) r (constant (fraction_of HALF_MINUTE)) x)
    → IsAbout (2 ^ 90) (2 ^ 8) (shown x)
half_minute_within shown n x e f = measured shown n 0 (λ k. unbounded) (constant (fraction_of HALF_MINUTE)) _ _ 0
    (2 ^ 8) (2 ^ 8) x e half_minute_reach
    (omega arith) (f (record { width = 0; bounds = λ k. unbounded }))

-- ---- ranges
pub mean_about : (v : ℕ) (i : Interval) → IsMeanMoment v i → IsAbout (2 ^ 90) v i
mean_about v i h = looser _ _ _ _ v v i (omega (arith, ints)) (omega (arith, ints)) (omega arith) h

pub turn_settles : (v : ℕ) (i : Interval) → v ≤ 17 * 2 ^ 28 → IsMeanMoment v i → IsSettled i
turn_settles v i b h = looser _ _ _ _ v (17 * 2 ^ 28) i (omega (arith, ints)) (omega (arith, ints)) b h

pub turn_within : {E : Type 0} (shown : E → Interval) (v u : ℕ) (r : Result E Fail) → v ≤ u
    → Measures (λ y. IsMeanMoment v (shown y)) r
    → Measures (λ y. IsMeanMoment u (shown y)) r
turn_within shown v u (Ok y) b h = looser _ _ _ _ v u (shown y) (omega (arith, ints)) (omega (arith, ints)) b h
turn_within shown v u (Err f) b h = h

pub first_moment : (i : Interval) → IsAbout (40000001 * 2 ^ 32) (2 ^ 8) i → IsSettled i
first_moment i h = looser _ _ _ _ (2 ^ 8) (17 * 2 ^ 28) i (omega (arith, ints)) (omega (arith, ints)) (omega arith) h
