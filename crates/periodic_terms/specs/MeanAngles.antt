-- What the code's mean angles say of the definition's.
use Rattle.book_model.specs.Interval.{Interval}
use Rattle.book_model.specs.numbers.Expressions.{Expression, World}
use Rattle.book_model.specs.numbers.Relations.{Within}
use Rattle.book_model.specs.sky.Moon.{LunarAngles}
use Rattle.book_model.specs.sky.NewMoons.{NewMoonAngles}
use Rattle.periodic_terms.specs.declared.mean.MeanAngles.{MeanAngles}

-- each enclosure holds its angle
pub record HoldAngles {E : Type 0} (shown : E → Interval) (w : World) (a : LunarAngles) (b : MeanAngles E) :
    Type 0 where
  pub elongation : Within shown w a.elongation b.elongation
  pub sun_anomaly : Within shown w a.sun_anomaly b.sun_anomaly
  pub moon_anomaly : Within shown w a.moon_anomaly b.moon_anomaly
  pub latitude_argument : Within shown w a.latitude_argument b.latitude_argument
  pub eccentricity : Within shown w a.eccentricity b.eccentricity

-- the angles of a new moon, of which no term takes the elongation: it may be any
abbrev pub with_elongation : Expression → NewMoonAngles → LunarAngles
with_elongation d a =
    record {
      elongation = d;
      sun_anomaly = a.sun_anomaly;
      moon_anomaly = a.moon_anomaly;
      latitude_argument = a.latitude_argument;
      eccentricity = a.eccentricity;
    }
