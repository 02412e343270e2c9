-- Periodic terms by turns and days, and how far a sum of their rows may be off; where the sines at an angle of an
-- octant lie. A phase counts 10^-7 degrees, and a rate the same a century: 3600000000 of them are a turn, and
-- 365250000000 a degree a day.
use Rattle.std.specs.Prelude.{◌≡◌, ℕ, zero, suc, ◌+◌, ◌*◌, ◌/◌, ◌-◌, ◌^◌, ◌≤◌, ◌<◌, unsigned_abs, ℤ, pos, neg_ℤ, ◌+ℤ◌}
use Rattle.std.specs.Prelude.{◌-ℤ◌, ◌*ℤ◌, ◌≤ℤ◌, List, length, slice_index_or}
use Rattle.book_model.specs.Fraction.{◌≤F◌, whole, floor_quotient}
use Rattle.book_model.specs.Sums.{lower, upper}
use Rattle.book_model.specs.programs.Leading.{units_of_56}
use Rattle.book_model.specs.numbers.Series.{sine_term, cosine_term}
use Rattle.book_model.specs.declared.polynomial.PeriodicTerm.{PeriodicTerm}
use Rattle.book_model.specs.numbers.Expressions.{Expression, constant, add, scale, sine}
use Rattle.book_model.specs.numbers.Fractions.{ten_millionths, daily_ten_millionths}
use Rattle.book_model.specs.numbers.Polynomials.{no_periodic_term}
use Rattle.encl_core.specs.parts.TheConstants.{OCTANT}
use Rattle.trig_series.specs.Kernel.{in_radians, in_radians_above}
use Rattle.periodic_terms.specs.declared.rows_by_time.TurningTerm.{TurningTerm}

-- the sums of the sine of d degrees, in units of 2^-56, lie from lo to hi, in the same units
pub record HasSine (d : ℕ) (lo hi : ℤ) : Type 0 where
  pub low : (n : ℕ) → 40 ≤ n → units_of_56 lo ≤F lower (sine_term (in_radians d)) n
  pub high : (n : ℕ) → 40 ≤ n → upper (sine_term (in_radians_above d)) n ≤F units_of_56 hi

-- the same of the cosine
pub record HasCosine (d : ℕ) (lo hi : ℤ) : Type 0 where
  pub low : (n : ℕ) → 40 ≤ n → units_of_56 lo ≤F lower (cosine_term (in_radians_above d)) n
  pub high : (n : ℕ) → 40 ≤ n → upper (cosine_term (in_radians d)) n ≤F units_of_56 hi

-- the same of the sine at d degrees into octant j of a turn
unfoldable pub HasPoint : ℕ → ℕ → ℤ → ℤ → Type 0
HasPoint zero d lo hi = HasSine d lo hi
HasPoint (suc zero) d lo hi = HasCosine (OCTANT - d) lo hi
HasPoint (suc (suc zero)) d lo hi = HasCosine d lo hi
HasPoint (suc (suc (suc zero))) d lo hi = HasSine (OCTANT - d) lo hi
HasPoint (suc (suc (suc (suc j)))) d lo hi = HasPoint j d (neg_ℤ hi) (neg_ℤ lo)

-- the octant of an angle in units of 2^-64 turns
abbrev pub octant_of : ℕ → ℕ
octant_of t = t / 2 ^ 61

-- how far into it that is, in degrees in units of 2^-56, rounded down
abbrev pub degrees_of : ℕ → ℕ
degrees_of t = (t - t / 2 ^ 61 * 2 ^ 61) * 45 / 32

-- a periodic term as it is summed: its size; its phase in 2^-64 turns, and its rate in 2^-80 turns a day, both rounded
-- down. A turn a day is 8 * 16436250000000 of a rate, so that 2^-80 turns are that over 2^77
pub record IsTurning (v : PeriodicTerm) (t : TurningTerm) : Type 0 where
  pub size : t.size ≡ v.size
  pub phase_below : (pos t.phase.0 *ℤ pos 3600000000) ≤ℤ (v.phase *ℤ pos (2 ^ 64))
  pub phase_close : (v.phase *ℤ pos (2 ^ 64)) ≤ℤ (pos t.phase.0 *ℤ pos 3600000000 +ℤ pos 3600000000)
  pub rate_below : (t.rate.0 *ℤ pos 16436250000000) ≤ℤ (v.rate *ℤ pos (2 ^ 77))
  pub rate_close : (v.rate *ℤ pos (2 ^ 77)) ≤ℤ (t.rate.0 *ℤ pos 16436250000000 +ℤ pos 16436250000000)

-- the same of all rows of two tables
pub record AreTurning (vs : List PeriodicTerm) (ts : List TurningTerm) : Type 0 where
  pub count : length vs ≡ length ts
  pub rows : (i : ℕ) → i < length ts → (none : TurningTerm)
      → IsTurning (slice_index_or vs i no_periodic_term) (slice_index_or ts i none)

-- what a periodic term adds, by the days
unfoldable pub turning_term_of : Expression → PeriodicTerm → Expression
turning_term_of x v = scale (whole v.size) (sine (add (constant (ten_millionths v.phase))
    (scale (daily_ten_millionths v.rate) x)))

-- how far what a periodic term adds is off at most, in 2^-56, for days that are at most w off, in 2^-56: its angle
-- moves by rate * w, and its sine by a 57th of that; 20819250000000 is 57 * 365250000000. The roundings of a row are 28
abbrev pub radius_of : PeriodicTerm → ℕ → ℕ
radius_of v w = unsigned_abs v.size * (unsigned_abs v.rate * w / 20819250000000 + 28)

-- the same of the sum of the first n periodic terms
unfoldable pub radius_to : List PeriodicTerm → ℕ → ℕ → ℕ
radius_to vs w zero = 0
radius_to vs w (suc n) = radius_to vs w n + radius_of (slice_index_or vs n no_periodic_term) w

-- the sums of the sizes, and of their products with the rates, of the first n periodic terms
unfoldable pub sizes_to : List PeriodicTerm → ℕ → ℕ
sizes_to vs zero = 0
sizes_to vs (suc n) = sizes_to vs n + unsigned_abs (slice_index_or vs n no_periodic_term).size

unfoldable pub reach_to : List PeriodicTerm → ℕ → ℕ
reach_to vs zero = 0
reach_to vs (suc n) = reach_to vs n + unsigned_abs (slice_index_or vs n no_periodic_term).size * unsigned_abs
    (slice_index_or vs n no_periodic_term).rate

-- the part of a turn, in 2^-64, that a rate in 2^-80 turns makes of days in units of 2^-48
abbrev pub turn_part : (rate mid : ℤ) → ℤ
turn_part rate mid = floor_quotient (rate *ℤ mid) (2 ^ 64 - 1)

-- how many whole turns such a number has
abbrev pub whole_turns : ℤ → ℤ
whole_turns n = floor_quotient n (2 ^ 64 - 1)

-- the days from lo to hi, in 2^-56, are within w of a number of days in units of 2^-48
pub record AreNear (mid : ℤ) (w : ℕ) (lo hi : ℤ) : Type 0 where
  pub ordered : lo ≤ℤ hi
  pub above : (mid *ℤ pos (2 ^ 8) -ℤ pos w) ≤ℤ lo
  pub below : hi ≤ℤ (mid *ℤ pos (2 ^ 8) +ℤ pos w)
  pub least : neg_ℤ (pos (2 ^ 68)) ≤ℤ mid
  pub greatest : mid ≤ℤ pos (2 ^ 68)

-- a slope in units of 2^-32 is at least a 57th of the sum of the sizes times the rates a day, in degrees, and the sizes
-- add up to no more than this
pub record HasReach (vs : List PeriodicTerm) (slope sizes : ℕ) : Type 0 where
  pub reach : (pos (reach_to vs (length vs)) *ℤ pos (2 ^ 32)) ≤ℤ (pos slope *ℤ pos 20819250000000)
  pub total : pos (sizes_to vs (length vs)) ≤ℤ pos sizes

-- days, in 2^-56, within 2^20 of 0, which are known to 64 days
pub record AreKnown (first last : ℤ) : Type 0 where
  pub from : neg_ℤ (pos (2 ^ 76)) ≤ℤ first
  pub to : last ≤ℤ pos (2 ^ 76)
  pub close : (last -ℤ first) ≤ℤ pos (2 ^ 62)

-- the sum over the days from first to last: as wide as the slope makes it, and twice the roundings of the rows
pub record IsNarrowSum (slope sizes : ℕ) (first last lo hi : ℤ) : Type 0 where
  pub narrow : ((hi -ℤ lo) *ℤ pos (2 ^ 32))
      ≤ℤ (((last -ℤ first) +ℤ pos (2 ^ 9)) *ℤ pos slope +ℤ (pos sizes *ℤ pos 28 +ℤ pos 1) *ℤ pos (2 ^ 33))
  pub above : neg_ℤ (pos (sizes * 2 ^ 56)) ≤ℤ lo
  pub below : hi ≤ℤ pos (sizes * 2 ^ 56)

-- the same as an enclosure at the scale of 2^-56, over days of width v, both in 2^-64
abbrev pub width_of_sum : (slope sizes v : ℕ) → ℕ
width_of_sum slope sizes v = (v + 2 ^ 17) * slope / 2 ^ 32 + (sizes * 28 + 2) * 2 ^ 9
