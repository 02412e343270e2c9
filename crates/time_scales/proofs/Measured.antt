-- Moments that are measured: the year, sums with ΔT, centuries and sidereal time. The bound of each expression is
-- computed once of bounds of its arguments (`.._reach`), and `measured` leads from there to the enclosure. That a
-- moment lies in the table follows from its year, which has a row of ΔT. Recent moments are those of which a nearer
-- range is said, with the same widths.
use Rattle.std.specs.Prelude.{◌≡◌, ℕ, ◌+◌, ◌*◌, ◌/◌, ◌^◌, ◌≤◌, ℤ, pos, negsuc, neg_ℤ, ◌-ℤ◌, ◌*ℤ◌, ◌≤ℤ◌, true, Result}
use Rattle.std.specs.Prelude.{Ok, Err, IfOk, IfErr, refl, if◌then◌else◌, ◌==◌, ◌+ℤ◌}
use Rattle.std.proofs.Common.{arith}
use Rattle.std.proofs.lemmas.Int.{ints}
use Rattle.book_model.specs.Interval.{Interval, everything, IsProper, between, ◌⊆◌}
use Rattle.book_model.proofs.Intervals.{within_refl}
use Rattle.book_model.specs.declared.site.Site.TheVariants.{Year}
use Rattle.book_model.specs.declared.fail.Fail.{Fail}
use Rattle.book_model.specs.declared.fail.Fail.TheVariants.{Undecided as undecided_at, Void}
use Rattle.book_model.specs.declared.time_tables.TheConstants.{SIDEREAL_TIME, RECENT_START, TABLE_END}
use Rattle.book_model.specs.numbers.Bounds.{Bound, bounded, Reach, bound_of, implies, limits_at, limits_of, IsNarrow}
use Rattle.book_model.specs.numbers.Bounds.{sum_bound, difference_bound, scaled_bound, constant_bound, product_bound}
use Rattle.book_model.specs.numbers.Bounds.{power_bound}
use Rattle.book_model.specs.numbers.Expressions.{Expression, World, value, argument, add, subtract}
use Rattle.book_model.specs.numbers.Polynomials.{cubic_of}
use Rattle.book_model.specs.numbers.Ranges.{IsInTable}
use Rattle.book_model.specs.numbers.Relations.{Within, Lies, Narrow}
use Rattle.book_model.specs.programs.Leading.{Leads, leaf, units_of_56}
use Rattle.book_model.specs.programs.Widths.{IsAbout, IsClose, IsMoment, Measures, IsCorrection, IsDated, AreCenturies}
use Rattle.book_model.specs.programs.Widths.{IsWithin, table_from, table_to, table_days, table_centuries, centuries_to}
use Rattle.book_model.specs.programs.Widths.{recent_from, recent_centuries_from, IsFrom, IsSince}
use Rattle.book_model.specs.sky.Time.{correction_at, in_centuries}
use Rattle.book_model.proofs.Leads.{leads_leaf}
use Rattle.encl_core.specs.declared.greatest_widths.TheConstants.{CORRECTION}
use Rattle.encl_core.specs.GreatestWidths.{greatest_of}
use Rattle.encl_core.proofs.Measuring.{measured, measured_argument, sloped, looser, drawn}
use Rattle.encl_core.proofs.Closing.{inner_apart, close_endpoints}
use Rattle.time_scales.specs.Widths.{HasYearEndpoints, AreRecentCenturies}
use Rattle.time_scales.proofs.Moments.{corrected_in_table}

-- ---- the year
year_at : (v : ℕ) (lo hi : ℤ) (f : Fail) → v ≤ 2 ^ 44 → ((hi -ℤ lo) *ℤ pos 256) ≤ℤ pos v → HasYearEndpoints lo hi f
    → IsClose f
year_at v lo hi (undecided_at u) h k e = close_endpoints u Year v e.2 h (rw (e.0, e.1) k)
year_at v lo hi (Void s) h k e = absurd e

-- an undecided year is as close as the moment is wide
pub year_close : (v : ℕ) (lo hi : ℤ) (i : Interval) (r : Result ℤ Fail) → v ≤ 2 ^ 44 → IsAbout (2 ^ 90) v i
    → between (units_of_56 lo) (units_of_56 hi) ⊆ i
    → IfErr r (HasYearEndpoints lo hi) → IfErr r IsClose
year_close v lo hi i (Ok y) b h k o = tt
year_close v lo hi i (Err f) b h k o = year_at v lo hi f b (inner_apart _ _ v lo hi i h k) o

-- ---- a moment whose ΔT is found lies in the table
unfoldable moment_world : (i : Interval) → IsProper i → World
moment_world i p = record { depth = 40; arguments = λ k. i; proper = λ k. p }

within_moment : {E : Type 0} (shown : E → Interval) (p : (e : E) → IsProper (shown e)) (e : E)
    → Within shown (moment_world (shown e) (p e)) (argument 0) e
unfolding Lies value moment_world
within_moment shown p e = record { deep = omega arith; inside = within_refl _ }

found_in_table : {E T : Type 0} {R : Expression → T → Type 0} (shown : E → Interval) (p : (e : E) → IsProper (shown e))
    (t : E) {b a : ℕ} (r : Result T Fail) →
    Leads (moment_world (shown t) (p t)) R (correction_at (argument 0)) b a r → IfOk r (λ v. IsInTable (shown t))
unfolding value moment_world
found_in_table shown p t (Ok v) h = (corrected_in_table (moment_world (shown t) (p t)) (argument 0)
    (leaf (moment_world (shown t) (p t)) (correction_at (argument 0))) (leads_leaf h)).0
found_in_table shown p t (Err f) h = tt

pub moment_in_table : {E T : Type 0} (R : World → Expression → T → Type 0) (shown : E → Interval) (p : (e : E)
    → IsProper (shown e)) (t : E) {b a : ℕ}
    (r : Result T Fail) →
    ((w : World) (x : Expression) → Within shown w x t → Leads w (R w) (correction_at x) b a r)
    → IfOk r (λ v. IsInTable (shown t))
moment_in_table R shown p t r h = found_in_table shown p t r
    (h (moment_world (shown t) (p t)) (argument 0) (within_moment shown p t))

-- ---- a moment of the table and its ΔT
-- ΔT of a year is narrower than the table says
pub correction_looser : {E : Type 0} (shown : E → Interval) (r : Result E Fail)
    → Measures (λ y. IsCorrection (2 ^ 14) (shown y)) r
    → Measures (λ y. IsCorrection (greatest_of CORRECTION 0) (shown y)) r
correction_looser shown (Ok y) h = looser _ _ _ _ (2 ^ 14) (2 ^ 17) (shown y) (omega (arith, ints))
    (omega (arith, ints)) (omega arith) h
correction_looser shown (Err f) h = h

abbrev moment_bounds : ℕ → Bound
moment_bounds k = if k == 0 then table_days 0 (2 ^ 40) 0 else bounded (neg_ℤ (pos (2 ^ 30))) (pos (2 ^ 30)) 0 (2 ^ 17)

sum_reach : implies (bound_of (limits_at 56) moment_bounds (add (argument 0) (argument 1)))
    (table_days 1 (2 ^ 40) (2 ^ 17)) ≡ true
unfolding implies bound_of sum_bound
sum_reach = refl

difference_reach : implies (bound_of (limits_at 56) moment_bounds (subtract (argument 0) (argument 1)))
    (table_days 1 (2 ^ 40) (2 ^ 17)) ≡ true
unfolding implies bound_of difference_bound
difference_reach = refl

module _ {E : Type 0} (shown : E → Interval) (n v : ℕ) (t c d : E) (p : n ≡ 56) (i : IsInTable (shown t))
    (h : IsMoment v (shown t))
    (k : IsCorrection (2 ^ 17) (shown c)) where
  moment_kept : Narrow shown (limits_of n) (record { width = v; bounds = moment_bounds }) (argument 0) t
  moment_kept = sloped shown (limits_of n) v v moment_bounds 0 (table_from 0) (table_to 0) (2 ^ 40) 0 t refl
      (omega arith) (drawn _ _ _ _ v (shown t) i h)

  correction_kept : Narrow shown (limits_of n) (record { width = v; bounds = moment_bounds }) (argument 1) c
  correction_kept = sloped shown (limits_of n) v (2 ^ 17) moment_bounds 1 (neg_ℤ (pos (2 ^ 30))) (pos (2 ^ 30)) 0
      (2 ^ 17) c refl (omega arith) k

  -- a moment of the table and its ΔT
  pub sum_within : ((r : Reach) (x y : Expression) → Narrow shown (limits_of n) r x t → Narrow shown (limits_of n) r y c
      → Narrow shown (limits_of n) r (add x y) d) → IsDated 1 (v + 2 ^ 17) (shown d)
  sum_within f =
      measured shown n v moment_bounds (add (argument 0) (argument 1)) _ _ (2 ^ 40) (2 ^ 17) (v + 2 ^ 17) d p sum_reach
      (omega arith)
      (f (record { width = v; bounds = moment_bounds }) (argument 0) (argument 1) moment_kept correction_kept)

  -- a moment of the table less its ΔT
  pub difference_within : ((r : Reach) (x y : Expression) → Narrow shown (limits_of n) r x t
      → Narrow shown (limits_of n) r y c
      → Narrow shown (limits_of n) r (subtract x y) d) → IsDated 1 (v + 2 ^ 17) (shown d)
  difference_within f =
      measured shown n v moment_bounds (subtract (argument 0) (argument 1)) _ _ (2 ^ 40) (2 ^ 17) (v + 2 ^ 17) d p
      difference_reach (omega arith)
      (f (record { width = v; bounds = moment_bounds }) (argument 0) (argument 1) moment_kept correction_kept)

-- ---- centuries of a moment of the table
abbrev days_bounds : ℕ → Bound
days_bounds k = table_days 1 (2 ^ 40) 0

centuries_reach : implies (bound_of (limits_at 56) days_bounds (in_centuries (argument 0)))
    (table_centuries 30102988 1000) ≡ true
unfolding implies bound_of difference_bound scaled_bound constant_bound in_centuries
centuries_reach = refl

pub centuries_within : {E : Type 0} (shown : E → Interval) (n v : ℕ) (t c : E) → n ≡ 56 → v ≤ 2 ^ 44
    → IsDated 1 (v + 2 ^ 17) (shown t)
    → ((r : Reach) (x : Expression) → Narrow shown (limits_of n) r x t
    → Narrow shown (limits_of n) r (in_centuries x) c)
    → AreCenturies (v / 36525 + 2 ^ 12) (shown c)
centuries_within shown n v t c p b h f =
    measured shown n (v + 2 ^ 17) days_bounds (in_centuries (argument 0)) _ _ 30102988 1000 (v / 36525 + 2 ^ 12) c p
    centuries_reach (omega arith)
    (f (record { width = v + 2 ^ 17; bounds = days_bounds }) (argument 0)
    (measured_argument shown (limits_of n) _ _ (v + 2 ^ 17) 0 t h))

-- ---- recent moments
pub recent_moment : (v : ℕ) (i : Interval) → IsSince RECENT_START v i → IsMoment v i
recent_moment v i h = looser _ _ _ _ v v i (omega (arith, ints)) (omega (arith, ints)) (omega arith) h

pub later_moment : (v : ℕ) (i : Interval) → IsSince (RECENT_START +ℤ pos 1) v i → IsMoment v i
later_moment v i h = looser _ _ _ _ v v i (omega (arith, ints)) (omega (arith, ints)) (omega arith) h

-- a moment of the table that lies from some day on lies from that day to the last year of the table
dated_from : (low high : ℤ) (v : ℕ) (i : Interval) → IsInTable i → IsWithin low high v i → IsWithin low (table_to 0) v i
unfolding IsNarrow
dated_from low high v everything b h = absurd h.kept
dated_from low high v (between x y) b h = record {
  kept = record {
    ordered = h.kept.ordered;
    above = h.kept.above;
    below = (drawn _ _ _ _ v (between x y) b h).kept.below;
    close = h.kept.close;
  };
}

-- such a moment and ΔT
abbrev bounds_from : (later : ℤ) → ℕ → Bound
bounds_from later k = if k == 0 then bounded (recent_from later) (table_to 0) (2 ^ 40) 0
    else bounded (neg_ℤ (pos (2 ^ 30))) (pos (2 ^ 30)) 0 (2 ^ 17)

recent_sum_reach : implies (bound_of (limits_at 56) (bounds_from (pos 0)) (add (argument 0) (argument 1)))
    (bounded (recent_from (negsuc 0)) (table_to 1) (2 ^ 40) (2 ^ 17)) ≡ true
unfolding implies bound_of sum_bound
recent_sum_reach = refl

later_difference_reach : implies (bound_of (limits_at 56) (bounds_from (pos 1)) (subtract (argument 0) (argument 1)))
    (bounded (recent_from (pos 0)) (table_to 1) (2 ^ 40) (2 ^ 17)) ≡ true
unfolding implies bound_of difference_bound
later_difference_reach = refl

pub recent_sum_within : {E : Type 0} (shown : E → Interval) (n v : ℕ) (t c d : E) → n ≡ 56 → IsInTable (shown t)
    → IsSince RECENT_START v (shown t)
    → IsCorrection (2 ^ 17) (shown c)
    → ((r : Reach) (x y : Expression) → Narrow shown (limits_of n) r x t → Narrow shown (limits_of n) r y c
    → Narrow shown (limits_of n) r (add x y) d)
    → IsFrom (RECENT_START -ℤ pos 1) (TABLE_END +ℤ pos 1) (v + 2 ^ 17) (shown d)
recent_sum_within shown n v t c d p i h k f =
    measured shown n v (bounds_from (pos 0)) (add (argument 0) (argument 1)) _ _ (2 ^ 40) (2 ^ 17) (v + 2 ^ 17) d p
    recent_sum_reach (omega arith)
    (f (record { width = v; bounds = bounds_from (pos 0) }) (argument 0) (argument 1)
    (sloped shown (limits_of n) v v (bounds_from (pos 0)) 0 _ _ (2 ^ 40) 0 t refl (omega arith)
    (dated_from _ _ v (shown t) i h))
    (sloped shown (limits_of n) v (2 ^ 17) (bounds_from (pos 0)) 1 _ _ 0 (2 ^ 17) c refl (omega arith) k))

pub later_difference_within : {E : Type 0} (shown : E → Interval) (n v : ℕ) (t c d : E) → n ≡ 56 → IsInTable (shown t)
    → IsSince (RECENT_START +ℤ pos 1) v (shown t)
    → IsCorrection (2 ^ 17) (shown c)
    → ((r : Reach) (x y : Expression) → Narrow shown (limits_of n) r x t → Narrow shown (limits_of n) r y c
    → Narrow shown (limits_of n) r (subtract x y) d)
    → IsFrom RECENT_START (TABLE_END +ℤ pos 1) (v + 2 ^ 17) (shown d)
later_difference_within shown n v t c d p i h k f =
    measured shown n v (bounds_from (pos 1)) (subtract (argument 0) (argument 1)) _ _ (2 ^ 40) (2 ^ 17) (v + 2 ^ 17) d p
    later_difference_reach (omega arith)
    (f (record { width = v; bounds = bounds_from (pos 1) }) (argument 0) (argument 1)
    (sloped shown (limits_of n) v v (bounds_from (pos 1)) 0 _ _ (2 ^ 40) 0 t refl (omega arith)
    (dated_from _ _ v (shown t) i h))
    (sloped shown (limits_of n) v (2 ^ 17) (bounds_from (pos 1)) 1 _ _ 0 (2 ^ 17) c refl (omega arith) k))

abbrev recent_days : ℕ → Bound
recent_days k = bounded (recent_from (negsuc 0)) (table_to 1) (2 ^ 40) 0

recent_centuries_reach : implies (bound_of (limits_at 56) recent_days (in_centuries (argument 0)))
    (bounded recent_centuries_from centuries_to 30102988 1000)
    ≡ true
unfolding implies bound_of difference_bound scaled_bound constant_bound in_centuries
recent_centuries_reach = refl

pub recent_centuries_within : {E : Type 0} (shown : E → Interval) (n v : ℕ) (t c : E) → n ≡ 56 → v ≤ 2 ^ 44
    → IsFrom (RECENT_START -ℤ pos 1) (TABLE_END +ℤ pos 1) (v + 2 ^ 17) (shown t)
    → ((r : Reach) (x : Expression) → Narrow shown (limits_of n) r x t
    → Narrow shown (limits_of n) r (in_centuries x) c)
    → AreRecentCenturies (v / 36525 + 2 ^ 12) (shown c)
recent_centuries_within shown n v t c p b h f =
    measured shown n (v + 2 ^ 17) recent_days (in_centuries (argument 0)) _ _ 30102988 1000 (v / 36525 + 2 ^ 12) c p
    recent_centuries_reach (omega arith)
    (f (record { width = v + 2 ^ 17; bounds = recent_days }) (argument 0)
    (measured_argument shown (limits_of n) _ _ (v + 2 ^ 17) 0 t h))

-- ---- sidereal time of a moment of the table
sidereal_reach : implies (bound_of (limits_at 56) (λ k. table_days 0 (2 ^ 40) 0)
    (cubic_of SIDEREAL_TIME (in_centuries (argument 0))))
    (bounded (neg_ℤ (pos (2 ^ 61))) (pos (2 ^ 61)) (362 * 2 ^ 40) (2 ^ 37)) ≡ true
unfolding implies bound_of constant_bound sum_bound difference_bound scaled_bound product_bound power_bound in_centuries
    cubic_of
sidereal_reach = refl

pub sidereal_within : {E : Type 0} (shown : E → Interval) (n v : ℕ) (t y : E) → n ≡ 56 → IsDated 0 v (shown t)
    → ((r : Reach) (x : Expression) → Narrow shown (limits_of n) r x t
    → Narrow shown (limits_of n) r (cubic_of SIDEREAL_TIME (in_centuries x)) y)
    → IsAbout (2 ^ 61) (362 * v + 2 ^ 37) (shown y)
sidereal_within shown n v t y e h f =
    let b : ℕ → Bound = λ k. table_days 0 (2 ^ 40) 0 in
    measured shown n v b (cubic_of SIDEREAL_TIME (in_centuries (argument 0))) _ _ (362 * 2 ^ 40) (2 ^ 37)
    (362 * v + 2 ^ 37) y e sidereal_reach (omega arith)
    (f (record { width = v; bounds = b }) (argument 0) (measured_argument shown (limits_of n) _ _ v 0 t h))

pub ruleset measuring = (sum_within, difference_within, centuries_within, sidereal_within)
