-- How wide whole days, the hours of a zone and its moments are at the scale 2^-56; the steps of a zone. The hours are
-- constants of the table of places, of which that they are at most 24, and 8 at Beijing, is computed over the rows; the
-- bound of a moment is computed once of such hours. The steps of a zone are taken one by one, by the first of them and
-- the others, as the code and the definition do.
use Rattle.std.specs.Prelude.{◌≡◌, ℕ, ◌+◌, ◌-◌, ◌*◌, ◌^◌, ◌<◌, ◌≤◌, Bool, true, false, ◌&&◌, ℤ, pos, neg_ℤ, ◌*ℤ◌}
use Rattle.std.specs.Prelude.{nat_lt, int_lt, unsigned_abs, List, [], ◌∷◌, length, take, drop, slice_index_or, refl}
use Rattle.std.specs.Prelude.{if◌then◌else◌, ◌==◌}
use Rattle.std.specs.List.{list_all}
use Rattle.std.proofs.Common.{arith, subst, sym, ◌∙◌}
use Rattle.std.proofs.Math.Seq.{take-length}
use Rattle.std.proofs.lemmas.Int.{ints}
use Rattle.std.proofs.lemmas.Bool.{lt-ltb}
use Rattle.book_model.specs.Fraction.{is_at_most}
use Rattle.book_model.specs.Interval.{Interval}
use Rattle.book_model.specs.declared.fact.Place.{Place}
use Rattle.book_model.specs.declared.fact.Place.TheVariants.{Beijing}
use Rattle.book_model.specs.declared.frac.Frac.{Frac}
use Rattle.book_model.specs.declared.site.Site.TheVariants.{Zone}
use Rattle.book_model.specs.declared.time_tables.TheConstants.{HOUR}
use Rattle.book_model.specs.declared.zone.ZoneStep.{ZoneStep}
use Rattle.book_model.specs.numbers.Bounds.{Bound, unbounded, bounded, Reach, bound_of, implies, limits_at, limits_of}
use Rattle.book_model.specs.numbers.Bounds.{integer_bound, constant_bound, sum_bound, difference_bound, scaled_bound}
use Rattle.book_model.specs.numbers.Expressions.{Expression, argument, constant, integer, add, subtract, scale}
use Rattle.book_model.specs.numbers.Fractions.{fraction_of}
use Rattle.book_model.specs.numbers.Relations.{Narrow, Keeps}
use Rattle.book_model.specs.programs.Widths.{IsAbout, IsMoment, IsUpTo}
use Rattle.book_model.specs.programs.Programs.{answer, compare, bind}
use Rattle.book_model.specs.sky.Names.{zone_steps, last_hours}
use Rattle.book_model.specs.sky.Places.{are_kept_hours, is_kept_step, is_kept_zone}
use Rattle.book_model.specs.sky.Time.{hours_at_of, hours_on, zone_on}
use Rattle.book_model.proofs.CorrectionRows.{both}
use Rattle.book_model.proofs.Places.{zone_kept}
use Rattle.time_scales.specs.Widths.{IsMidnightDay}
use Rattle.book_model.proofs.Implying.{limits_within}
use Rattle.encl_core.proofs.Measuring.{measured, sloped, looser}

both_hold : (p q : Bool) → p ≡ true → q ≡ true → (p && q) ≡ true
both_hold p q e f = rw (e, f) refl

-- the list behind its first element
others : {A : Type 0} (first : A) (later : List A) → later ≡ take (length (first ∷ later) - 1) later
others first later =
    let e : length (first ∷ later) - 1 ≡ length later = omega arith in
    sym (take-length later) ∙ (λ k. take (sym e k) later)

-- ---- a whole day
whole_bound : (d : ℤ) → IsMidnightDay d → bound_of (limits_at 56) (λ k. unbounded) (integer d) ≡ bounded
    (d *ℤ pos (2 ^ 32)) (d *ℤ pos (2 ^ 32)) 0 0
unfolding bound_of integer_bound
whole_bound d h =
    let p : nat_lt (unsigned_abs d * 2 ^ 32) (2 ^ 100) ≡ true = lt-ltb _ _ (omega (arith, ints, h.0, h.1)) in
    rw p refl

-- within 40,000,001 days of day 0
pub whole_day_within : {E : Type 0} (shown : E → Interval) (n : ℕ) (d : ℤ) (x : E) → n ≡ 56 → IsMidnightDay d
    → ((r : Reach) → Narrow shown (limits_of n) r (integer d) x) → IsAbout (40000001 * 2 ^ 32) 0 (shown x)
unfolding Keeps
whole_day_within shown n d x e h f =
    let l = limits_within n (omega arith) (omega arith) in
    let z = f (record { width = 0; bounds = λ k. unbounded }) in
    let b = whole_bound d h in
    looser _ _ _ _ 0 0 _ (omega (arith, ints, h.0)) (omega (arith, ints, h.1)) (omega arith)
    (record { kept = rw (l, e, b) at z.kept })

-- ---- the hours of a zone
pub hours_within : {E : Type 0} (shown : E → Interval) (n m : ℕ) (f : Frac) (h : E) → n ≡ 56 → are_kept_hours m f ≡ true
    → ((r : Reach) → Narrow shown (limits_of n) r (constant (fraction_of f)) h) → IsUpTo m (2 ^ 8) (shown h)
hours_within shown n m f h e k g =
    measured shown n 0 (λ k. unbounded) (constant (fraction_of f)) _ _ 0 (2 ^ 8) (2 ^ 8) h e (both _ _ k).0
    (omega arith)
    (g (record { width = 0; bounds = λ k. unbounded }))

-- the day whose comparison with a moment tells which they are
pub step_within : {E : Type 0} (shown : E → Interval) (n m : ℕ) (s : ZoneStep) (x : E) → n ≡ 56
    → is_kept_step m s ≡ true
    → ((r : Reach) → Narrow shown (limits_of n) r (integer s.before) x) → IsAbout (2 ^ 90) 0 (shown x)
step_within shown n m s x e k f = measured shown n 0 (λ k. unbounded) (integer s.before) _ _ 0 0 0 x e (both _ _ k).1
    (omega arith)
    (f (record { width = 0; bounds = λ k. unbounded }))

-- the hours of a day are hours of the zone
pub hours_kept : (m : ℕ) (steps : List ZoneStep) (last : Frac) (d : ℤ) → is_kept_zone m steps last ≡ true
    → are_kept_hours m (hours_on steps last d) ≡ true
hours_kept m [] last d h = h
hours_kept m (step ∷ steps) last d h =
    let b = both (list_all (is_kept_step m) (step ∷ steps)) _ h in
    let s = both (is_kept_step m step) _ b.0 in
    by (int_lt d step.before) (both _ _ s.0).0 (hours_kept m steps last d (both_hold _ _ s.1 b.1))
  where
    by : (t : Bool) → are_kept_hours m step.hours ≡ true → are_kept_hours m (hours_on steps last d) ≡ true
        → are_kept_hours m (if t then step.hours else hours_on steps last d) ≡ true
    by true p q = p
    by false p q = q

pub zone_hours_kept : (place : Place) (d : ℤ) → are_kept_hours 24 (zone_on place d) ≡ true
unfolding zone_on
zone_hours_kept place d = hours_kept 24 (zone_steps place) (last_hours place) d (zone_kept place)

-- that of Beijing is ahead by at most 8 hours
pub beijing_kept : is_kept_zone 8 (zone_steps Beijing) (last_hours Beijing) ≡ true
unfolding zone_steps last_hours implies bound_of integer_bound constant_bound is_at_most
beijing_kept = refl

-- what stands for the first step of no steps
abbrev pub none : ZoneStep
none = record { before = pos 0; hours = record { num = pos 0; den = 0 } }

-- ---- the steps of a zone, by the first of them and the others
pub no_step : (steps : List ZoneStep) (last : Frac) (x : Expression) → length steps < 1
    → hours_at_of steps last x ≡ answer (constant (fraction_of last))
unfolding hours_at_of
no_step [] last x h = refl
no_step (step ∷ later) last x h = absurd (omega (arith, h))

pub first_step : (none : ZoneStep) (steps : List ZoneStep) (last : Frac) (x : Expression) → 1 ≤ length steps
    → hours_at_of steps last x
    ≡ bind (compare Zone x (integer (slice_index_or steps 0 none).before) answer)
    (λ early. if early then answer (constant (fraction_of (slice_index_or steps 0 none).hours))
    else hours_at_of (take (length steps - 1) (drop 1 steps))
    last x)
unfolding hours_at_of
first_step none [] last x h = absurd (omega (arith, h))
first_step none (step ∷ later) last x h =
    λ j. bind (compare Zone x (integer step.before) answer) (λ early.
    if early then answer (constant (fraction_of step.hours)) else hours_at_of (others step later j) last x)

pub no_step_on : (steps : List ZoneStep) (last : Frac) (d : ℤ) → length steps < 1 → hours_on steps last d ≡ last
no_step_on [] last d h = refl
no_step_on (step ∷ later) last d h = absurd (omega (arith, h))

pub first_step_on : (none : ZoneStep) (steps : List ZoneStep) (last : Frac) (d : ℤ) → 1 ≤ length steps
    → hours_on steps last d ≡ (if int_lt d (slice_index_or steps 0 none).before then (slice_index_or steps 0 none).hours
    else hours_on
    (take (length steps - 1) (drop 1 steps)) last d)
first_step_on none [] last d h = absurd (omega (arith, h))
first_step_on none (step ∷ later) last d h = λ j. if int_lt d step.before then step.hours
    else hours_on (others step later j) last d

-- what is kept of a zone is kept of its first step and of the others
pub record AreKeptSteps (none : ZoneStep) (m : ℕ) (steps : List ZoneStep) (last : Frac) : Type 0 where
  pub first : is_kept_step m (slice_index_or steps 0 none) ≡ true
  pub later : is_kept_zone m (take (length steps - 1) (drop 1 steps)) last ≡ true

pub kept_steps : (none : ZoneStep) (m : ℕ) (steps : List ZoneStep) (last : Frac) → 1 ≤ length steps
    → is_kept_zone m steps last ≡ true
    → AreKeptSteps none m steps last
kept_steps none m [] last h k = absurd (omega (arith, h))
kept_steps none m (step ∷ later) last h k =
    let b = both (list_all (is_kept_step m) (step ∷ later)) _ k in
    let s = both (is_kept_step m step) _ b.0 in
    record {
      first = s.0;
      later = subst (λ z. is_kept_zone m z last ≡ true) (others step later)
          (both_hold _ _ s.1 b.1);
    }

pub last_kept : (m : ℕ) (steps : List ZoneStep) (last : Frac) → is_kept_zone m steps last ≡ true
    → are_kept_hours m last ≡ true
last_kept m steps last k = (both (list_all (is_kept_step m) steps) _ k).1

-- ---- a moment and the hours
abbrev moment_bounds : ℕ → Bound
moment_bounds k = if k == 0 then bounded (neg_ℤ (pos (2 ^ 58))) (pos (2 ^ 58)) (2 ^ 40) 0
    else bounded (pos 0) (pos (24 * 2 ^ 32)) 0 (2 ^ 8)

later_reach : implies (bound_of (limits_at 56) moment_bounds (add (argument 0) (scale (fraction_of HOUR) (argument 1))))
    (bounded (neg_ℤ (pos (2 ^ 59))) (pos (2 ^ 59)) (2 ^ 40) (3 * 2 ^ 8)) ≡ true
unfolding implies bound_of sum_bound scaled_bound
later_reach = refl

pub later_within : {E : Type 0} (shown : E → Interval) (n v : ℕ) (t h y : E) → n ≡ 56 → IsMoment v (shown t)
    → IsUpTo 24 (2 ^ 8) (shown h)
    → ((r : Reach) (p q : Expression) → Narrow shown (limits_of n) r p t → Narrow shown (limits_of n) r q h
    → Narrow shown (limits_of n) r (add p (scale (fraction_of HOUR) q)) y) → IsAbout (2 ^ 59) (v + 3 * 2 ^ 8) (shown y)
later_within shown n v t h y e i k f =
    measured shown n v moment_bounds (add (argument 0) (scale (fraction_of HOUR) (argument 1))) _ _ (2 ^ 40) (3 * 2 ^ 8)
    (v + 3 * 2 ^ 8) y e later_reach
    (omega arith)
    (f (record { width = v; bounds = moment_bounds }) (argument 0) (argument 1)
    (sloped shown (limits_of n) v v moment_bounds 0 (neg_ℤ (pos (2 ^ 58))) (pos (2 ^ 58)) (2 ^ 40) 0 t refl
    (omega arith) i)
    (sloped shown (limits_of n) v (2 ^ 8) moment_bounds 1 (pos 0) (pos (24 * 2 ^ 32)) 0 (2 ^ 8) h refl (omega arith) k))

abbrev day_bounds : ℕ → Bound
day_bounds k = if k == 0 then bounded (neg_ℤ (pos (40000001 * 2 ^ 32))) (pos (40000001 * 2 ^ 32)) 0 0
    else bounded (pos 0) (pos (24 * 2 ^ 32)) 0 (2 ^ 8)

midnight_reach : implies
    (bound_of (limits_at 56) day_bounds (subtract (argument 0) (scale (fraction_of HOUR) (argument 1))))
    (bounded (neg_ℤ (pos (2 ^ 58))) (pos (2 ^ 58)) 0 (3 * 2 ^ 8)) ≡ true
unfolding implies bound_of difference_bound scaled_bound
midnight_reach = refl

pub midnight_within : {E : Type 0} (shown : E → Interval) (n : ℕ) (x h y : E) → n ≡ 56
    → IsAbout (40000001 * 2 ^ 32) 0 (shown x) → IsUpTo 24 (2 ^ 8) (shown h)
    → ((r : Reach) (p q : Expression) → Narrow shown (limits_of n) r p x → Narrow shown (limits_of n) r q h
    → Narrow shown (limits_of n) r (subtract p (scale (fraction_of HOUR) q)) y) → IsMoment (3 * 2 ^ 8) (shown y)
midnight_within shown n x h y e i k f =
    measured shown n 0 day_bounds (subtract (argument 0) (scale (fraction_of HOUR) (argument 1))) _ _ 0 (3 * 2 ^ 8)
    (3 * 2 ^ 8) y e midnight_reach (omega arith)
    (f (record { width = 0; bounds = day_bounds }) (argument 0) (argument 1)
    (sloped shown (limits_of n) 0 0 day_bounds 0 (neg_ℤ (pos (40000001 * 2 ^ 32))) (pos (40000001 * 2 ^ 32)) 0 0 x refl
    (omega arith) i)
    (sloped shown (limits_of n) 0 (2 ^ 8) day_bounds 1 (pos 0) (pos (24 * 2 ^ 32)) 0 (2 ^ 8) h refl (omega arith) k))
