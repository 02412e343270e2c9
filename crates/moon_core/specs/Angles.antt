-- How far the code's mean angles of the moon reach.
use Rattle.book_model.specs.Interval.{Interval}
use Rattle.book_model.specs.numbers.Bounds.{Limits, Reach}
use Rattle.book_model.specs.sky.Moon.{LunarAngles}
use Rattle.book_model.specs.numbers.Relations.{Narrow}
use Rattle.periodic_terms.specs.declared.mean.MeanAngles.{MeanAngles}

-- each enclosure keeps its angle's bound
pub record KeepAngles {E : Type 0} (shown : E → Interval) (l : Limits) (r : Reach) (a : LunarAngles)
    (b : MeanAngles E) : Type 0 where
  pub elongation : Narrow shown l r a.elongation b.elongation
  pub sun_anomaly : Narrow shown l r a.sun_anomaly b.sun_anomaly
  pub moon_anomaly : Narrow shown l r a.moon_anomaly b.moon_anomaly
  pub latitude_argument : Narrow shown l r a.latitude_argument b.latitude_argument
  pub eccentricity : Narrow shown l r a.eccentricity b.eccentricity
