-- How wide dawn, dusk and what they are made of are at the scale 2^-56, at places of latitudes from 0 to 36 degrees.
use Rattle.std.specs.Prelude.{◌≡◌, ℕ, ◌+◌, ◌-◌, ◌*◌, ◌/◌, ◌^◌, true, ℤ, pos, neg_ℤ, ◌≤ℤ◌}
use Rattle.book_model.specs.Interval.{Interval}
use Rattle.book_model.specs.declared.horizon.Location.{Location}
use Rattle.book_model.specs.numbers.Bounds.{unbounded, bounded, bound_of, implies, limits_at}
use Rattle.book_model.specs.numbers.Expressions.{constant}
use Rattle.book_model.specs.numbers.Fractions.{fraction_of}
use Rattle.book_model.specs.programs.Widths.{IsWithin, IsAbout}
use Rattle.book_model.specs.sky.Horizon.{refraction_of}
use Rattle.sun_core.specs.Widths.{IsNarrowPlace}
use Rattle.rise_set.specs.declared.skyline.Horizon.{Horizon}

-- a moment of local mean time: within 2^26 days of day 0, less two, and at most so wide
abbrev pub IsMeanMoment : ℕ → Interval → Type 0
IsMeanMoment v i = IsAbout (2 ^ 58 - 2 ^ 33) v i

-- a moment of dawn or dusk, or one from which it is approximated: at most 17/16 of 2^-32 wide
abbrev pub IsSettled : Interval → Type 0
IsSettled i = IsMeanMoment (17 * 2 ^ 28) i

-- minutes of a moment of local mean time, from the day of R.D. 0
abbrev pub AreMinutes : ℤ → Type 0
AreMinutes n = (neg_ℤ (pos (1440 * (2 ^ 26 - 2) + 1)) ≤ℤ n) × (n ≤ℤ pos (1440 * (2 ^ 26 - 2) + 1))

-- a declination of the sun: within 25.31 degrees of 0, and at most so wide
abbrev pub IsDeclination : ℕ → Interval → Type 0
IsDeclination v i = IsAbout (2531 * 2 ^ 32 / 100) v i

-- a depression from 0 to 4.6 degrees, at most 2^-40 wide
abbrev pub IsDepression : Interval → Type 0
IsDepression i = IsWithin (pos 0) (pos (46 * 2 ^ 32 / 10)) (2 ^ 24) i

-- an offset: within 1/2 of 0, so that it is a sine, and at most so wide
abbrev pub IsOffset : ℕ → Interval → Type 0
IsOffset v i = IsAbout (2 ^ 31) v i

-- what is computed of a location: its longitude, its latitude from 0 to 36 degrees, and its refraction of at most 4
-- degrees are narrow
pub record IsNarrowLocation (p : Location) : Type 0 where
  pub place : IsNarrowPlace p.longitude
  pub latitude : implies (bound_of (limits_at 56) (λ k. unbounded) (constant (fraction_of p.latitude)))
      (bounded (pos 0) (pos (36 * 2 ^ 32)) 0 (2 ^ 8)) ≡ true
  pub refraction : implies (bound_of (limits_at 56) (λ k. unbounded) (refraction_of p))
      (bounded (pos 0) (pos (4 * 2 ^ 32)) 0 (2 ^ 23)) ≡ true

-- the numbers of such a latitude and of a depression from 0 to 4.6 degrees
pub record IsNarrowHorizon {E : Type 0} (shown : E → Interval) (h : Horizon E) : Type 0 where
  pub place : IsNarrowPlace h.location.longitude
  pub tangent : IsAbout (63 * 2 ^ 32 / 80) (2 ^ 15) (shown h.tangent)
  pub cosine : IsWithin (pos (802 * 2 ^ 32 / 1000)) (pos (2 ^ 32)) (2 ^ 14) (shown h.cosine)
  pub sine : IsAbout (808 * 2 ^ 32 / 10000) (2 ^ 19) (shown h.sine)
