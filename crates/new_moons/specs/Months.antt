-- The polynomials of a new moon with their first two terms as one fraction, and what holds the powers of a time.
use Rattle.book_model.specs.Fraction.{Fraction, power}
use Rattle.book_model.specs.Interval.{Interval}
use Rattle.book_model.specs.numbers.Expressions.{Expression, World, constant, add, multiply, scale}
use Rattle.book_model.specs.numbers.Relations.{Within}
use Rattle.new_moons.specs.declared.months.Powers.{Powers}

-- each enclosure holds its power of a time
pub record HoldPowers {E : Type 0} (shown : E → Interval) (w : World) (c : Fraction) (p : Powers E) : Type 0 where
  pub centuries : Within shown w (constant c) p.centuries
  pub square : Within shown w (constant (power c 2)) p.square
  pub cube : Within shown w (constant (power c 3)) p.cube

-- f + q s + k u, where s is a square and u a cube
abbrev pub cubic_sum : (q k : Fraction) (f s u : Expression) → Expression
cubic_sum q k f s u = add (add f (scale q s)) (scale k u)

-- f + q s + k u + (h u) c
abbrev pub quartic_sum : (q k h : Fraction) (f s u c : Expression) → Expression
quartic_sum q k h f s u c = add (cubic_sum q k f s u) (multiply (scale h u) c)

-- f + q c^2 + k c^3
abbrev pub cubic_by : (f q k c : Fraction) → Expression
cubic_by f q k c = add (add (constant f) (scale q (constant (power c 2)))) (scale k (constant (power c 3)))

-- f + q c^2 + k c^3 + h c^4
abbrev pub quartic_by : (f q k h c : Fraction) → Expression
quartic_by f q k h c = add (cubic_by f q k c) (scale h (constant (power c 4)))
