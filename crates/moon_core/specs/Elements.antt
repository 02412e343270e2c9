-- What the code's mean elements of the moon say of a moment.
use Rattle.std.specs.Prelude.{◌≡◌, ℕ, ◌+◌, ◌^◌, ◌≤◌, Ok}
use Rattle.book_model.specs.Interval.{Interval}
use Rattle.book_model.specs.declared.moon_tables.TheConstants.{MOON_LONGITUDE}
use Rattle.book_model.specs.declared.site.Site.TheVariants.{MoonWrap}
use Rattle.book_model.specs.declared.time_tables.TheConstants.{NOON_2000}
use Rattle.book_model.specs.numbers.Bounds.{Limits, Reach, limits_of}
use Rattle.book_model.specs.numbers.Expressions.{Expression, World, argument, constant, remainder, subtract}
use Rattle.book_model.specs.numbers.Fractions.{fraction_of}
use Rattle.book_model.specs.numbers.Polynomials.{quartic_of}
use Rattle.book_model.specs.numbers.Relations.{Within, Narrow}
use Rattle.book_model.specs.programs.Leading.{Leads, next_turn}
use Rattle.book_model.specs.programs.Programs.{Program, answer, cell, multiples}
use Rattle.book_model.specs.programs.Widths.{table_days}
use Rattle.book_model.specs.sky.Moon.{lunar_angles_of, moon_longitude_of}
use Rattle.book_model.specs.sky.Time.{centuries_of}
use Rattle.moon_core.specs.Angles.{KeepAngles}
use Rattle.periodic_terms.specs.MeanAngles.{HoldAngles}
use Rattle.moon_core.specs.Daily.{daily_angles_of, daily_quartic_of}
use Rattle.moon_core.specs.declared.elements.MoonElements.{MoonElements}
use Rattle.sun_core.specs.Daily.{in_centuries}

-- each enclosure holds its element at a number of days
pub record HoldElements {E : Type 0} (shown : E → Interval) (w : World) (x : Expression) (b : MoonElements E) :
    Type 0 where
  pub days : Within shown w x b.days
  pub centuries : Within shown w (in_centuries x) b.centuries
  pub mean_longitude : Within shown w (quartic_of MOON_LONGITUDE (in_centuries x)) b.mean_longitude
  pub angles : HoldAngles shown w (lunar_angles_of (in_centuries x)) b.angles

-- each enclosure keeps its element's bound
pub record KeepElements {E : Type 0} (shown : E → Interval) (l : Limits) (r : Reach) (x : Expression)
    (b : MoonElements E) : Type 0 where
  pub days : Narrow shown l r x b.days
  pub centuries : Narrow shown l r (in_centuries x) b.centuries
  pub mean_longitude : Narrow shown l r (daily_quartic_of MOON_LONGITUDE x) b.mean_longitude
  pub angles : KeepAngles shown l r (daily_angles_of x) b.angles

-- elements hold those of a time in centuries: of the days that it is
pub record AreElements {E : Type 0} (shown : E → Interval) (w : World) (c : Expression) (b : MoonElements E) :
    Type 0 where
  pub days : Expression
  pub is : c ≡ in_centuries days
  pub hold : HoldElements shown w days b

-- Elements are those of a moment of universal time: wherever a run stands, one test, of the year, leads to them. So
-- where they are at hand, a formula that begins with their time may count this test and make no other.
pub record AreElementsOf {E : Type 0} (shown : E → Interval) (w : World) (x : Expression) (b : MoonElements E) :
    Type 0 where
  pub again : (k : ℕ) → Leads w (AreElements shown w) (centuries_of x) k (next_turn k) (Ok b)

-- elements are as narrow as those of a moment that is at most so wide, and 2^-20 days, one of the years of which ΔT is
-- known
pub record AreMeasured {E : Type 0} (shown : E → Interval) (bits v : ℕ) (b : MoonElements E) : Type 0 where
  pub short : v ≤ 2 ^ 44
  pub keep : KeepElements shown (limits_of bits) (record { width = v + 2 ^ 17; bounds = λ k. table_days 1 (2 ^ 40) 0 })
      (subtract (argument 0) (constant (fraction_of NOON_2000))) b

-- the longitude at a time, reduced: what is left of its formula after the year's test
unfoldable pub reduced_longitude_of : Expression → Program Expression
reduced_longitude_of c = cell MoonWrap (multiples 360) (moon_longitude_of c) λ q. answer
    (remainder 360 (moon_longitude_of c) q)
