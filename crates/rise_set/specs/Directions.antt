-- Angles by their sine and their cosine, and the altitude over a latitude of the ground.
use Rattle.book_model.specs.Interval.{Interval}
use Rattle.book_model.specs.numbers.Bounds.{Limits, Reach}
use Rattle.book_model.specs.numbers.Expressions.{Expression, World, add, multiply, sine as sine_of, cosine as cosine_of}
use Rattle.book_model.specs.numbers.Relations.{Within, Narrow}
use Rattle.book_model.specs.sky.Altitude.{north_of, towards_of}
use Rattle.rise_set.specs.declared.altitude.Direction.{Direction}

-- both enclosures hold their number of an angle
pub record IsDirection {E : Type 0} (shown : E → Interval) (w : World) (x : Expression) (d : Direction E) : Type 0 where
  pub sine : Within shown w (sine_of x) d.sine
  pub cosine : Within shown w (cosine_of x) d.cosine

-- both keep the bound of their number
pub record IsNarrowDirection {E : Type 0} (shown : E → Interval) (l : Limits) (r : Reach) (x : Expression)
    (d : Direction E) : Type 0 where
  pub sine : Narrow shown l r (sine_of x) d.sine
  pub cosine : Narrow shown l r (cosine_of x) d.cosine

-- the sine of the altitude, by the latitude of the ground as an expression
unfoldable pub over_ground : (here sidereal obliquity longitude latitude : Expression) → Expression
over_ground g t o l b = add (multiply (sine_of g) (north_of o l b)) (multiply (cosine_of g) (towards_of t o l b))
