-- How wide what the Hindu calendars ask of a moment is at the scale 2^-56. Each number is computed with bounds in place
-- of its arguments (`bound_of`), once, as a closed term; `measured` leads from there to the width of any enclosure that
-- its operations kept.
use Rattle.std.specs.Prelude.{◌≡◌, ℕ, ◌+◌, ◌*◌, ◌^◌, true, ℤ, pos, neg_ℤ, ◌*ℤ◌, ◌≤ℤ◌, nat_lt, unsigned_abs, refl}
use Rattle.std.specs.Prelude.{if◌then◌else◌, ◌==◌, ◌+ℤ◌}
use Rattle.std.proofs.Common.{arith}
use Rattle.std.proofs.lemmas.Int.{ints}
use Rattle.std.proofs.lemmas.Bool.{lt-ltb}
use Rattle.book_model.specs.Interval.{Interval}
use Rattle.book_model.specs.declared.fact.TheConstants.{LAST_FACT_DAY}
use Rattle.book_model.specs.declared.sun_tables.TheConstants.{DEGREE_IN_LUNAR_DAYS, DEGREE_IN_SIGNS}
use Rattle.book_model.specs.declared.tables.TheConstants.{HALF}
use Rattle.book_model.specs.numbers.Bounds.{Bound, unbounded, bounded, Reach, implies, bound_of, limits_at, limits_of}
use Rattle.book_model.specs.numbers.Bounds.{integer_bound, constant_bound, sum_bound, difference_bound, scaled_bound}
use Rattle.book_model.specs.numbers.Expressions.{Expression, argument, constant, integer, add, scale}
use Rattle.book_model.specs.numbers.Fractions.{fraction_of}
use Rattle.book_model.specs.numbers.Relations.{Narrow, Keeps}
use Rattle.book_model.specs.programs.Widths.{IsAbout, IsMoment, IsUpTo, IsFrom, IsSince}
use Rattle.book_model.specs.sky.Sidereal.{years_gone_of}
use Rattle.book_model.proofs.Implying.{limits_within}
use Rattle.rise_set.specs.declared.hindu.TheConstants.{FIRST_HINDU_DAY}
use Rattle.encl_core.proofs.Measuring.{measured, sloped, looser}
use Rattle.book_model.specs.declared.time_tables.TheConstants.{RECENT_START, TABLE_END}

-- ---- fractions of a turn
abbrev turn_bounds : ℕ → Bound
turn_bounds k = bounded (pos 0) (pos (360 * 2 ^ 32)) (2 ^ 40) 0

signs_reach : implies (bound_of (limits_at 56) turn_bounds (scale (fraction_of DEGREE_IN_SIGNS) (argument 0)))
    (bounded (neg_ℤ (pos (2 ^ 90))) (pos (2 ^ 90)) (2 ^ 40) (2 ^ 9)) ≡ true
unfolding implies bound_of scaled_bound
signs_reach = refl

lunar_reach : implies (bound_of (limits_at 56) turn_bounds (scale (fraction_of DEGREE_IN_LUNAR_DAYS) (argument 0)))
    (bounded (neg_ℤ (pos (2 ^ 90))) (pos (2 ^ 90)) (2 ^ 40) (2 ^ 9)) ≡ true
unfolding implies bound_of scaled_bound
lunar_reach = refl

module _ {E : Type 0} (shown : E → Interval) (n v : ℕ) (x y : E) (e : n ≡ 56) (h : IsUpTo 360 v (shown x)) where
  turn_kept : Narrow shown (limits_of n) (record { width = v; bounds = turn_bounds }) (argument 0) x
  turn_kept = sloped shown (limits_of n) v v turn_bounds 0 (pos 0) (pos (360 * 2 ^ 32)) (2 ^ 40) 0 x refl
      (omega arith) h

  pub signs_within : ((r : Reach) (p : Expression) → Narrow shown (limits_of n) r p x
      → Narrow shown (limits_of n) r (scale (fraction_of DEGREE_IN_SIGNS) p) y)
      → IsAbout (2 ^ 90) (v + 2 ^ 9) (shown y)
  signs_within f = measured shown n v turn_bounds (scale (fraction_of DEGREE_IN_SIGNS) (argument 0)) _ _ (2 ^ 40)
      (2 ^ 9) (v + 2 ^ 9) y e signs_reach
      (omega arith) (f (record { width = v; bounds = turn_bounds }) (argument 0) turn_kept)

  pub lunar_within : ((r : Reach) (p : Expression) → Narrow shown (limits_of n) r p x
      → Narrow shown (limits_of n) r (scale (fraction_of DEGREE_IN_LUNAR_DAYS) p) y)
      → IsAbout (2 ^ 90) (v + 2 ^ 9) (shown y)
  lunar_within f = measured shown n v turn_bounds (scale (fraction_of DEGREE_IN_LUNAR_DAYS) (argument 0)) _ _ (2 ^ 40)
      (2 ^ 9) (v + 2 ^ 9) y e lunar_reach
      (omega arith) (f (record { width = v; bounds = turn_bounds }) (argument 0) turn_kept)

-- ---- years
abbrev year_bounds : ℕ → Bound
year_bounds k = if k == 0 then bounded (neg_ℤ (pos (2 ^ 58))) (pos (2 ^ 58)) (2 ^ 40) 0
    else bounded (pos 0) (pos (360 * 2 ^ 32)) (3 * 2 ^ 40) (2 ^ 34)

years_reach : implies
    (bound_of (limits_at 56) year_bounds (add (years_gone_of (argument 0) (argument 1)) (constant (fraction_of HALF))))
    (bounded (neg_ℤ (pos (2 ^ 90))) (pos (2 ^ 90)) (2 ^ 40) (2 ^ 34)) ≡ true
unfolding implies bound_of integer_bound constant_bound sum_bound difference_bound scaled_bound years_gone_of
years_reach = refl

pub years_within : {E : Type 0} (shown : E → Interval) (n v : ℕ) (t s g h y : E) → n ≡ 56 → IsMoment v (shown t)
    → IsUpTo 360 (3 * v + 2 ^ 34) (shown s)
    → ((r : Reach) (p q : Expression) → Narrow shown (limits_of n) r p t → Narrow shown (limits_of n) r q s
    → Narrow shown (limits_of n) r (years_gone_of p q) g)
    → ((r : Reach) → Narrow shown (limits_of n) r (constant (fraction_of HALF)) h)
    → ((r : Reach) (p q : Expression) → Narrow shown (limits_of n) r p g → Narrow shown (limits_of n) r q h
    → Narrow shown (limits_of n) r (add p q) y)
    → IsAbout (2 ^ 90) (v + 2 ^ 34) (shown y)
years_within shown n v t s g h y e m u f i z =
    let r : Reach = record { width = v; bounds = year_bounds } in
    measured shown n v year_bounds (add (years_gone_of (argument 0) (argument 1)) (constant (fraction_of HALF))) _ _
    (2 ^ 40) (2 ^ 34) (v + 2 ^ 34) y e
    years_reach (omega arith)
    (z r _ _ (f r (argument 0) (argument 1)
    (sloped shown (limits_of n) v v year_bounds 0 (neg_ℤ (pos (2 ^ 58))) (pos (2 ^ 58)) (2 ^ 40) 0 t refl
    (omega arith) m)
    (sloped shown (limits_of n) v (3 * v + 2 ^ 34) year_bounds 1 (pos 0) (pos (360 * 2 ^ 32)) (3 * 2 ^ 40) (2 ^ 34) s
    refl (omega arith) u)) (i r))

-- ---- a day from R.D. 620,600 on, as it begins
pub day_recent : {E : Type 0} (shown : E → Interval) (n : ℕ) (d : ℤ) (x : E) → n ≡ 56 → FIRST_HINDU_DAY ≤ℤ d
    → d ≤ℤ LAST_FACT_DAY
    → ((r : Reach) → Narrow shown (limits_of n) r (integer d) x) → IsSince RECENT_START 0 (shown x)
unfolding Keeps bound_of integer_bound
day_recent shown n d x e h k f =
    let l = limits_within n (omega arith) (omega arith) in
    let z = f (record { width = 0; bounds = λ k. unbounded }) in
    let p : nat_lt (unsigned_abs d * 2 ^ 32) (2 ^ 100) ≡ true = lt-ltb _ _ (omega (arith, ints, h, k)) in
    looser (d *ℤ pos (2 ^ 32)) (d *ℤ pos (2 ^ 32)) _ _ 0 0 _ (omega (arith, ints, h)) (omega (arith, ints, k))
    (omega arith)
    (record { kept = rw (l, e, p) at z.kept })

-- ---- a new moon
pub dated_recent : (v : ℕ) (i : Interval) → IsFrom RECENT_START (TABLE_END +ℤ pos 1) v i → IsSince RECENT_START v i
dated_recent v i h = looser _ _ _ _ v v i (omega (arith, ints)) (omega (arith, ints)) (omega arith) h
