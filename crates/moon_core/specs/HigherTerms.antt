-- The higher terms of a quartic of the time.
use Rattle.book_model.specs.Interval.{Interval}
use Rattle.book_model.specs.declared.moon_tables.TheConstants.{ELONGATION, LATITUDE_ARGUMENT, MOON_ANOMALY}
use Rattle.book_model.specs.declared.moon_tables.TheConstants.{MOON_LONGITUDE}
use Rattle.book_model.specs.declared.polynomial.Quartic.{Quartic}
use Rattle.book_model.specs.numbers.Expressions.{Expression, World, add, scale, power}
use Rattle.book_model.specs.numbers.Fractions.{fraction_of}
use Rattle.book_model.specs.numbers.Bounds.{Limits, Reach}
use Rattle.book_model.specs.numbers.Relations.{Within, Narrow}
use Rattle.moon_core.specs.Daily.{higher_by}
use Rattle.moon_core.specs.declared.higher_terms.HigherTerms.{HigherTerms}

-- a2 x^2 + a3 x^3 + a4 x^4
unfoldable pub higher_sum_of : Quartic → Expression → Expression
higher_sum_of p x =
    add (scale (fraction_of p.square) (power x 2)) (add (scale (fraction_of p.cube) (power x 3))
    (scale (fraction_of p.fourth) (power x 4)))

-- each enclosure holds the sum of its quartic's higher terms at a time
pub record HoldHigherTerms {E : Type 0} (shown : E → Interval) (w : World) (x : Expression) (b : HigherTerms E) :
    Type 0 where
  pub longitude : Within shown w (higher_sum_of MOON_LONGITUDE x) b.longitude
  pub elongation : Within shown w (higher_sum_of ELONGATION x) b.elongation
  pub moon_anomaly : Within shown w (higher_sum_of MOON_ANOMALY x) b.moon_anomaly
  pub latitude_argument : Within shown w (higher_sum_of LATITUDE_ARGUMENT x) b.latitude_argument

-- each enclosure keeps the bound of the sum
pub record KeepHigherTerms {E : Type 0} (shown : E → Interval) (l : Limits) (r : Reach) (x : Expression)
    (b : HigherTerms E) : Type 0 where
  pub longitude : Narrow shown l r (higher_by MOON_LONGITUDE x) b.longitude
  pub elongation : Narrow shown l r (higher_by ELONGATION x) b.elongation
  pub moon_anomaly : Narrow shown l r (higher_by MOON_ANOMALY x) b.moon_anomaly
  pub latitude_argument : Narrow shown l r (higher_by LATITUDE_ARGUMENT x) b.latitude_argument
