-- How wide a sum is, by the widths of its mean angles, in 2^-64 degrees.
use Rattle.std.specs.Prelude.{◌≡◌, ℕ, ◌+◌, ◌*◌, ◌/◌, ◌^◌, ◌≤◌, true, ℤ, pos, ◌-ℤ◌, ◌≤ℤ◌}
use Rattle.book_model.specs.Interval.{Interval}
use Rattle.book_model.specs.programs.Widths.{IsAbout, IsWithin}
use Rattle.periodic_terms.specs.declared.mean.MeanAngles.{MeanAngles}
use Rattle.periodic_terms.specs.declared.mean.MeanFactor.{MeanFactor}
use Rattle.periodic_terms.specs.declared.mean.MeanTurn.{MeanTurn}
use Rattle.periodic_terms.specs.declared.mean.MeanTurns.{MeanTurns}
use Rattle.periodic_terms.specs.declared.term_sums.RowSums.{RowSums}

-- a turn is known, and as far off as an angle of width v makes it: by half of that, and the rounding of the middle
pub record IsTurnWithin (a : MeanTurn) (v : ℕ) : Type 0 where
  pub known : a.known ≡ true
  pub narrow : a.half.count * 16 ≤ v + 2 ^ 11

-- endpoints of the factor or its square, in units of 2^-56: from 1/4 to 39/32, and 2^-38 apart
pub record IsFactorSpan (lo hi : ℤ) : Type 0 where
  pub low : pos (2 ^ 54) ≤ℤ lo
  pub high : hi ≤ℤ pos (39 * 2 ^ 51)
  pub order : lo ≤ℤ hi
  pub close : (hi -ℤ lo) ≤ℤ pos (2 ^ 18)

abbrev pub IsFactorWithin : Interval → Type 0
IsFactorWithin i = IsWithin (pos (2 ^ 30)) (pos (39 * 2 ^ 27)) (2 ^ 26) i

-- such a factor
pub record IsUsualFactor (f : MeanFactor) : Type 0 where
  pub least : 2 ^ 18 ≤ f.middle.0
  pub greatest : f.middle.0 ≤ 39 * 2 ^ 51
  pub narrow : f.wide.0 ≤ 2 ^ 18

-- the factor of the eccentricity, from 3/4 to 35/32 and at most 2^-40 wide, so that its square is such a one too
abbrev pub IsUsualEccentricity : Interval → Type 0
IsUsualEccentricity i = IsWithin (pos (3 * 2 ^ 30)) (pos (35 * 2 ^ 27)) (2 ^ 24) i

-- the mean angles are within 2^25 degrees of 0 and at most v wide, and the factor is a usual one
pub record AreClose {E : Type 0} (shown : E → Interval) (v : ℕ) (a : MeanAngles E) : Type 0 where
  pub elongation : IsAbout (2 ^ 57) v (shown a.elongation)
  pub sun_anomaly : IsAbout (2 ^ 57) v (shown a.sun_anomaly)
  pub moon_anomaly : IsAbout (2 ^ 57) v (shown a.moon_anomaly)
  pub latitude_argument : IsAbout (2 ^ 57) v (shown a.latitude_argument)
  pub eccentricity : IsUsualEccentricity (shown a.eccentricity)

-- as turns
pub record AreTurnsWithin (v : ℕ) (t : MeanTurns) : Type 0 where
  pub elongation : IsTurnWithin t.elongation v
  pub sun_anomaly : IsTurnWithin t.sun_anomaly v
  pub moon_anomaly : IsTurnWithin t.moon_anomaly v
  pub latitude_argument : IsTurnWithin t.latitude_argument v
  pub factors : t.factors.wide.0 ≤ 2 ^ 18

-- how many times the sizes take an angle
abbrev pub reach_of : RowSums → ℕ
reach_of s = s.elongation + s.sun_anomaly + s.moon_anomaly + s.latitude_argument

-- how wide a sum is at most, in 2^-93, where the factor is at most 5/4
abbrev pub wide_of : RowSums → ℕ → ℕ
wide_of s v = 5 * 2 ^ 36 * (reach_of s * ((v + 2 ^ 11) / 29184 + 1) + 11 * s.sizes) + s.powered * 2 ^ 57
