-- Terms whose angles are sums of multiples of a few mean angles, each of which is known as a turn.
use Rattle.std.specs.Prelude.{◌≡◌, ℕ, zero, suc, true, ◌+◌, ◌*◌, ◌/◌, ◌-◌, ◌^◌, ◌≤◌, ◌<◌, unsigned_abs, ℤ, pos, ◌+ℤ◌}
use Rattle.std.specs.Prelude.{◌-ℤ◌, ◌*ℤ◌, List, length, slice_index_or}
use Rattle.book_model.specs.Fraction.{Fraction, below_product}
use Rattle.book_model.specs.Interval.{Interval, between}
use Rattle.book_model.specs.numbers.Expressions.{Expression, World, value, scale, sine, cosine, power}
use Rattle.book_model.specs.numbers.Terms.{times_power}
use Rattle.book_model.specs.sky.Moon.{LunarAngles}
use Rattle.periodic_terms.specs.Angles.{IsFactor, IsKnown, IsNearTurn, IsTurn}
use Rattle.periodic_terms.specs.declared.term_rows.Multiples.{Multiples}
use Rattle.periodic_terms.specs.declared.mean.MeanFactors.{MeanFactors}
use Rattle.periodic_terms.specs.declared.mean.MeanTurn.{MeanTurn}
use Rattle.periodic_terms.specs.declared.mean.MeanTurns.{MeanTurns}
use Rattle.periodic_terms.specs.declared.term_sums.RowSums.{RowSums}

-- a number in units of 2^-93 of a part of u + 1
abbrev pub in_93 : ℕ → ℤ → Fraction
in_93 u z = record { num = z; below = below_product (2 ^ 93 - 1) u }

-- the factor's power by which a row is multiplied, in 2^-56
abbrev pub factor_of : MeanFactors → ℕ → ℕ
factor_of f zero = 2 ^ 56
factor_of f (suc zero) = f.first.0
factor_of f (suc (suc k)) = f.second.0

-- what lies within e of a number, in 2^-93 of a part of u + 1
abbrev pub around_93 : ℕ → ℤ → ℕ → Interval
around_93 u n e = between (in_93 u (n -ℤ pos e)) (in_93 u (n +ℤ pos e))

-- how many times a row takes an angle
abbrev pub count_of : Multiples → ℕ
count_of r = unsigned_abs r.elongation + unsigned_abs r.sun_anomaly + unsigned_abs r.moon_anomaly
    + unsigned_abs r.latitude_argument

-- a row takes few angles, and is no greater than those of the tables
pub record IsSmallRow (r : Multiples) : Type 0 where
  pub few : count_of r ≤ 8
  pub quarters : r.quarters ≤ 1
  pub power : r.power ≤ 2
  pub size : unsigned_abs r.size ≤ 2 ^ 25

-- the sum of the angles that a row takes, in units of 2^-64 turns, and how far that may be off, in 2^-61 degrees
abbrev pub multiples_of : MeanTurns → Multiples → ℤ
multiples_of t r =
    ((r.elongation *ℤ pos t.elongation.turn.0 +ℤ r.sun_anomaly *ℤ pos t.sun_anomaly.turn.0)
    +ℤ r.moon_anomaly *ℤ pos t.moon_anomaly.turn.0)
    +ℤ r.latitude_argument *ℤ pos t.latitude_argument.turn.0

abbrev pub half_of : MeanTurns → Multiples → ℕ
half_of t r =
    ((unsigned_abs r.elongation * t.elongation.half.count + unsigned_abs r.sun_anomaly * t.sun_anomaly.half.count)
    + unsigned_abs r.moon_anomaly * t.moon_anomaly.half.count)
    + unsigned_abs r.latitude_argument * t.latitude_argument.half.count

-- the angle of a row: so many quarters of a turn later
abbrev pub turns_of : MeanTurns → Multiples → ℤ
turns_of t r = multiples_of t r +ℤ pos (r.quarters * 2 ^ 62)

-- the sine of an angle, or the cosine, which is the sine a quarter of a turn later
abbrev pub periodic_term_of : ℕ → Expression → Expression
periodic_term_of zero x = sine x
periodic_term_of (suc k) x = cosine x

-- all four are known
pub record AreKnown (t : MeanTurns) : Type 0 where
  pub elongation : t.elongation.known ≡ true
  pub sun_anomaly : t.sun_anomaly.known ≡ true
  pub moon_anomaly : t.moon_anomaly.known ≡ true
  pub latitude_argument : t.latitude_argument.known ≡ true

-- an expression is what a row adds: its size, in parts of u + 1, times a power of a factor and the sine or cosine of an
-- angle
pub record IsTerm (w : World) (u : ℕ) (t : MeanTurns) (r : Multiples) (x : Expression) : Type 0 where
  pub factor : Expression
  pub angle : Expression
  pub is : x ≡ scale (record { num = r.size; below = u })
      (times_power factor r.power (periodic_term_of r.quarters angle))
  pub near : AreKnown t → IsNearTurn (multiples_of t r) (half_of t r) (value w angle)
  pub first : r.power ≡ 1 → IsFactor t.factors.first.0 t.factors.wide.0 (value w factor)
  pub second : r.power ≡ 2 → IsFactor t.factors.second.0 t.factors.wide.0 (value w (power factor 2))

-- the mean angles of the rows, as far as they are known, and the factor lie near these turns
pub record AreTurns (w : World) (a : LunarAngles) (t : MeanTurns) : Type 0 where
  pub elongation : IsTurn t.elongation (value w a.elongation)
  pub sun_anomaly : IsTurn t.sun_anomaly (value w a.sun_anomaly)
  pub moon_anomaly : IsTurn t.moon_anomaly (value w a.moon_anomaly)
  pub latitude_argument : IsTurn t.latitude_argument (value w a.latitude_argument)
  pub first : IsFactor t.factors.first.0 t.factors.wide.0 (value w a.eccentricity)
  pub second : IsFactor t.factors.second.0 t.factors.wide.0 (value w (power a.eccentricity 2))

-- the elongation and the moon's anomaly do, and something is known of the others, of which rows take nothing
pub record AreTwoTurns (w : World) (a : LunarAngles) (t : MeanTurns) : Type 0 where
  pub elongation : IsTurn t.elongation (value w a.elongation)
  pub sun_anomaly : t.sun_anomaly.known ≡ true → IsKnown (value w a.sun_anomaly)
  pub moon_anomaly : IsTurn t.moon_anomaly (value w a.moon_anomaly)
  pub latitude_argument : t.latitude_argument.known ≡ true → IsKnown (value w a.latitude_argument)

-- how far the sines of rows are off at most by an angle, in 2^-56, by how many times it is taken
abbrev pub spread_by : ℕ → MeanTurn → ℕ
spread_by reach a = reach * (a.half.count / 1824 + 1)

-- how far a sum is off at most, in 2^-93: by the sizes times the angles of the rows, the sizes, and those of rows with
-- a power
abbrev pub radius_of : MeanTurns → RowSums → ℕ
radius_of t s =
    t.factors.greatest.0 * (spread_by s.elongation t.elongation + spread_by s.sun_anomaly t.sun_anomaly
    + spread_by s.moon_anomaly t.moon_anomaly
    + spread_by s.latitude_argument t.latitude_argument + 11 * s.sizes) + s.powered * ((t.factors.wide.0 + 1) * 2 ^ 37)

-- no sum is further from 0, in 2^-93: the sizes, and those of rows with a power times what the factor is above 1
abbrev pub most_of : MeanFactors → RowSums → ℕ
most_of f s = (s.sizes * 2 ^ 37 + s.powered * (f.greatest.0 - 2 ^ 37)) * 2 ^ 56

-- the size of a row that has a power, and 0 of one that has none
abbrev pub powered_of : (size : ℤ) → ℕ → ℕ
powered_of size zero = 0
powered_of size (suc k) = unsigned_abs size

-- the totals of a row
abbrev pub sums_of : Multiples → RowSums
sums_of r =
    record {
      elongation = unsigned_abs r.size * unsigned_abs r.elongation;
      sun_anomaly = unsigned_abs r.size * unsigned_abs r.sun_anomaly;
      moon_anomaly = unsigned_abs r.size * unsigned_abs r.moon_anomaly;
      latitude_argument = unsigned_abs r.size * unsigned_abs r.latitude_argument;
      sizes = unsigned_abs r.size;
      powered = powered_of r.size r.power;
    }

-- no row, and two together
abbrev pub no_sums : RowSums
no_sums = record { elongation = 0; sun_anomaly = 0; moon_anomaly = 0; latitude_argument = 0; sizes = 0; powered = 0 }

abbrev pub together : RowSums → RowSums → RowSums
together a b =
    record {
      elongation = a.elongation + b.elongation;
      sun_anomaly = a.sun_anomaly + b.sun_anomaly;
      moon_anomaly = a.moon_anomaly + b.moon_anomaly;
      latitude_argument = a.latitude_argument + b.latitude_argument;
      sizes = a.sizes + b.sizes;
      powered = a.powered + b.powered;
    }

-- the totals of the first n rows of a table
unfoldable pub sums_to : {T : Type 0} → (T → Multiples) → T → List T → ℕ → RowSums
sums_to row_of none rows zero = no_sums
sums_to row_of none rows (suc n) = together (sums_to row_of none rows n) (sums_of (row_of (slice_index_or rows n none)))

-- all rows of a table are small
abbrev pub AreSmall : {T : Type 0} → (T → Multiples) → List T → Type 0
AreSmall {T} row_of rows = (i : ℕ) → i < length rows → (none : T) → IsSmallRow (row_of (slice_index_or rows i none))

-- the terms of the rows of a table are what the rows add
abbrev pub AreTerms : {T : Type 0} → World → ℕ → MeanTurns → (T → Multiples) → (T → Expression) → List T → T → Type 0
AreTerms {T} w u t row_of term rows none = (i : ℕ) → i < length rows
    → IsTerm w u t (row_of (slice_index_or rows i none)) (term (slice_index_or rows i none))

-- the totals of the rows of a table
abbrev pub HasSums : {T : Type 0} → (T → Multiples) → List T → T → RowSums → Type 0
HasSums row_of rows none s = sums_to row_of none rows (length rows) ≡ s

-- that is few
pub record AreFew (s : RowSums) : Type 0 where
  pub elongation : s.elongation ≤ 2 ^ 28
  pub sun_anomaly : s.sun_anomaly ≤ 2 ^ 28
  pub moon_anomaly : s.moon_anomaly ≤ 2 ^ 28
  pub latitude_argument : s.latitude_argument ≤ 2 ^ 28
  pub sizes : s.sizes ≤ 2 ^ 28
  pub powered : s.powered ≤ 2 ^ 28
