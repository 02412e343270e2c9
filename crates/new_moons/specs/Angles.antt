-- What the code's angles of a new moon say of the definition's.
use Rattle.book_model.specs.Interval.{Interval}
use Rattle.book_model.specs.numbers.Expressions.{World}
use Rattle.book_model.specs.sky.NewMoons.{NewMoonAngles}
use Rattle.book_model.specs.numbers.Relations.{Within}
use Rattle.new_moons.specs.declared.angles.Angles.{Angles}

-- each enclosure holds its angle
pub record HoldAngles {E : Type 0} (shown : E → Interval) (w : World) (a : NewMoonAngles) (b : Angles E) : Type 0 where
  pub sun_anomaly : Within shown w a.sun_anomaly b.sun_anomaly
  pub moon_anomaly : Within shown w a.moon_anomaly b.moon_anomaly
  pub latitude_argument : Within shown w a.latitude_argument b.latitude_argument
  pub eccentricity : Within shown w a.eccentricity b.eccentricity
