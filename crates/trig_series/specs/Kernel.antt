-- Numbers in 64 bits that are near a fraction; all are in units of 2^-64.
use Rattle.std.specs.Prelude.{ℕ, ℤ, pos, ◌-ℤ◌, ◌+ℤ◌, ◌≤◌, ◌*◌, ◌^◌}
use Rattle.book_model.specs.Fraction.{Fraction, ◌≤F◌, times}
use Rattle.book_model.specs.Sums.{lower, upper, one_over}
use Rattle.book_model.specs.declared.tables.TheConstants.{PI_BELOW, PI_ABOVE}
use Rattle.book_model.specs.numbers.Fractions.{fraction_of}
use Rattle.book_model.specs.programs.Leading.{units_of_56}
use Rattle.book_model.specs.numbers.Series.{four_fifths, sine_term, cosine_term}
use Rattle.encl_core.specs.Units.{at_64}
use Rattle.trig_series.specs.declared.waves.Coefficients.{Coefficients}

-- c is x, rounded down
pub record IsCut (c : ℕ) (x : Fraction) : Type 0 where
  pub not_above : at_64 (pos c) ≤F x
  pub close : x ≤F at_64 (pos c +ℤ pos 1)

-- the coefficients of a series grow from that of the greatest power on, and all but the constant are at most a half
pub record AreGrowing (r : Coefficients) : Type 0 where
  pub eighth : r.ninth ≤ r.eighth
  pub seventh : r.eighth ≤ r.seventh
  pub sixth : r.seventh ≤ r.sixth
  pub fifth : r.sixth ≤ r.fifth
  pub fourth : r.fifth ≤ r.fourth
  pub third : r.fourth ≤ r.third
  pub second : r.third ≤ r.second
  pub first : r.second ≤ r.first
  pub constant : r.first ≤ r.constant
  pub half : 2 * r.first ≤ 2 ^ 64

-- x is at most 68 above a, and from 0 to 4/5
pub record IsAngle (a : ℕ) (x : Fraction) : Type 0 where
  pub not_above : at_64 (pos a) ≤F x
  pub close : x ≤F at_64 (pos a +ℤ pos 68)
  pub small : x ≤F four_fifths

-- u is at most 112 above w, and at most 16/25
pub record IsSquare (w : ℕ) (u : Fraction) : Type 0 where
  pub not_above : at_64 (pos w) ≤F u
  pub close : u ≤F at_64 (pos w +ℤ pos 112)
  pub small : u ≤F record { num = pos 16; below = 24 }

-- at depth n the endpoints of the sine's sum at x are within 384 of s
pub record AreSineEndpoints (x : Fraction) (s n : ℕ) : Type 0 where
  pub low : at_64 (pos s -ℤ pos 384) ≤F lower (sine_term x) n
  pub high : upper (sine_term x) n ≤F at_64 (pos s +ℤ pos 384)

-- at depth n the endpoints of the cosine's sum at x are within 320 of s
pub record AreCosineEndpoints (x : Fraction) (s n : ℕ) : Type 0 where
  pub low : at_64 (pos s -ℤ pos 320) ≤F lower (cosine_term x) n
  pub high : upper (cosine_term x) n ≤F at_64 (pos s +ℤ pos 320)

-- so many degrees in units of 2^-56, in radians, by the lower neighbour of pi
abbrev pub in_radians : ℕ → Fraction
in_radians d = times (units_of_56 (pos d)) (times (fraction_of PI_BELOW) (one_over 179))

-- the same by the upper neighbour of pi
abbrev pub in_radians_above : ℕ → Fraction
in_radians_above d = times (units_of_56 (pos d)) (times (fraction_of PI_ABOVE) (one_over 179))

-- x is so many degrees in radians, by a number between the two neighbours of pi
pub record IsInRadians (d : ℕ) (x : Fraction) : Type 0 where
  pub above : in_radians d ≤F x
  pub below : x ≤F in_radians_above d
