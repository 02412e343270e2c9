-- How wide the parts of a new moon are at the scale 2^-56, within 25.1 centuries of 2000.
use Rattle.std.specs.Prelude.{ℕ, suc, ◌*◌, ◌^◌, ◌≤◌, ◌<◌, unsigned_abs, ℤ, pos, negsuc, ◌+ℤ◌, ◌-ℤ◌, ◌*ℤ◌, ◌≤ℤ◌}
use Rattle.book_model.specs.Fraction.{Fraction}
use Rattle.book_model.specs.Interval.{Interval}
use Rattle.book_model.specs.declared.new_moon_tables.TheConstants.{FIRST_RECENT_MOON, LAST_RECENT_MOON}
use Rattle.book_model.specs.declared.new_moon_tables.TheConstants.{NEW_MOON_OF_2000, RECENT_DAYS}
use Rattle.book_model.specs.programs.Widths.{IsWithin, IsAbout}
use Rattle.periodic_terms.specs.Widths.{IsUsualEccentricity}
use Rattle.new_moons.specs.declared.angles.Angles.{Angles}
use Rattle.new_moons.specs.declared.months.Powers.{Powers}

-- 25.1, in 2^-32
abbrev pub near_size : ℕ
near_size = 107803613594

-- a time within 25.1 centuries of 2000: its cube is one that the scale bears
pub record IsNearTime (c : Fraction) : Type 0 where
  pub size : unsigned_abs c.num * 2 ^ 32 ≤ near_size * suc c.below
  pub numerator : unsigned_abs c.num < 2 ^ 40

-- the number of a new moon of such a time, counted from that of January 2000
abbrev pub IsNearMonth : ℤ → Type 0
IsNearMonth k = (negsuc 31023 ≤ℤ k) × (k ≤ℤ pos 31024)

-- the powers of such a time
pub record ArePowers {E : Type 0} (shown : E → Interval) (p : Powers E) : Type 0 where
  pub centuries : IsAbout near_size (2 ^ 8) (shown p.centuries)
  pub square : IsWithin (pos 0) (pos (631 * 2 ^ 32)) (2 ^ 14) (shown p.square)
  pub cube : IsAbout (15900 * 2 ^ 32) (2 ^ 20) (shown p.cube)

-- the number of a recent new moon, counted from that of January 2000
abbrev pub IsRecentMonth : ℤ → Type 0
IsRecentMonth k = ((FIRST_RECENT_MOON -ℤ NEW_MOON_OF_2000) ≤ℤ k) × (k ≤ℤ (LAST_RECENT_MOON -ℤ NEW_MOON_OF_2000))

-- from where to where their means lie: so many days on both sides of noon of 1 January 2000, whose R.D. is 730,120.5
abbrev pub recent_mean_from : ℤ
recent_mean_from = (pos 730120 -ℤ pos RECENT_DAYS) *ℤ pos (2 ^ 32)

abbrev pub recent_mean_to : ℤ
recent_mean_to = (pos 730122 +ℤ pos RECENT_DAYS) *ℤ pos (2 ^ 32)

-- a mean new moon at such a time, at most so wide
abbrev pub IsRecentMean : ℕ → Interval → Type 0
IsRecentMean v i = IsWithin recent_mean_from recent_mean_to v i

-- the angles at a time within 25.1 centuries of 2000
pub record AreNearAngles {E : Type 0} (shown : E → Interval) (b : Angles E) : Type 0 where
  pub sun_anomaly : IsAbout (2 ^ 57) (2 ^ 15) (shown b.sun_anomaly)
  pub moon_anomaly : IsAbout (2 ^ 57) (2 ^ 15) (shown b.moon_anomaly)
  pub latitude_argument : IsAbout (2 ^ 57) (2 ^ 15) (shown b.latitude_argument)
  pub eccentricity : IsUsualEccentricity (shown b.eccentricity)
