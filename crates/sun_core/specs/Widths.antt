-- How wide a longitude of the sun is at the coarse scale, whose unit is 2^-36 degrees; ranges of moments at the scale
-- 2^-56.
use Rattle.std.specs.Prelude.{◌≡◌, ℕ, ◌+◌, ◌-◌, ◌*◌, ◌/◌, ◌^◌, ℤ, pos, neg_ℤ, ◌*ℤ◌, true}
use Rattle.book_model.specs.Interval.{Interval}
use Rattle.book_model.specs.declared.frac.Frac.{Frac}
use Rattle.book_model.specs.declared.sun_tables.TheConstants.{GREATEST_RECENT_ADVANCE, LEAST_RECENT_CROSSING}
use Rattle.book_model.specs.numbers.Bounds.{Bound, unbounded, bounded, bound_of, implies, limits_at}
use Rattle.book_model.specs.numbers.Fractions.{fraction_of}
use Rattle.book_model.specs.programs.Widths.{IsWithin, IsAbout}
use Rattle.book_model.specs.sky.Noon.{ahead_of}

-- days of the years 1800 to 2050, counted from noon of 1 January 2000, as far as a moment's width is known
abbrev pub days_of_years : ℕ → Bound
days_of_years k = bounded (neg_ℤ (pos (73050 * 2 ^ 32))) (pos (18263 * 2 ^ 32)) (2 ^ 40) 0

-- a moment of local time: within 2^26 days of day 0, less four, and at most so wide
abbrev pub IsLocalMoment : ℕ → Interval → Type 0
IsLocalMoment v i = IsAbout (2 ^ 58 - 2 ^ 34) v i

-- a moment within 2^20 days of day 0, and at most so wide
abbrev pub IsNearMoment : ℕ → Interval → Type 0
IsNearMoment v i = IsAbout (2 ^ 52) v i

-- the obliquity of the ecliptic by centuries of this width: from 23 to 24 degrees, a 64th as wide and 2^-52 degrees
abbrev pub IsObliquity : ℕ → Interval → Type 0
IsObliquity v i = IsWithin (pos (23 * 2 ^ 32)) (pos (24 * 2 ^ 32)) (v / 64 + 2 ^ 12) i

-- what local time is ahead at a longitude is narrow at the scale 2^-56: at most four units wide
pub record IsNarrowPlace (longitude : Frac) : Type 0 where
  pub narrow : implies (bound_of (limits_at 56) (λ k. unbounded) (ahead_of (fraction_of longitude)))
      (bounded (neg_ℤ (pos (2 ^ 32))) (pos (2 ^ 32)) 0 (2 ^ 10))
      ≡ true

-- the least crossing of recent moments, and the greatest size of their advance
abbrev pub crossing_from : ℤ
crossing_from = LEAST_RECENT_CROSSING *ℤ pos (2 ^ 31)

abbrev pub advance_size : ℕ
advance_size = GREATEST_RECENT_ADVANCE * 2 ^ 32

-- the angles of which precession is made, of recent moments and at most so wide: the tilt of the ecliptic, where it
-- crosses that of 2000, and the advance of the equinox
abbrev pub IsTilt : ℕ → Interval → Type 0
IsTilt v i = IsAbout (2 ^ 28) v i

abbrev pub IsCrossing : ℕ → Interval → Type 0
IsCrossing v i = IsWithin crossing_from (pos (176 * 2 ^ 32)) v i

abbrev pub IsAdvance : ℕ → Interval → Type 0
IsAdvance v i = IsAbout advance_size v i
