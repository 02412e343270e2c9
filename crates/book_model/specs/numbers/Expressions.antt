-- Expressions over the arguments of a formula, and their values at each depth.
use Rattle.std.specs.Prelude.{ℕ, ℤ, pos, ◌*ℤ◌}
use Rattle.exact_math.specs.Fraction.{Fraction, whole}
use Rattle.exact_math.specs.Interval.{Interval, between, sum, difference, negative, product, quotient}
use Rattle.exact_math.specs.Interval.{power as interval_power, minimum as interval_minimum, maximum as interval_maximum}
use Rattle.exact_math.specs.Interval.{hull as interval_hull, clamp as interval_clamp, widen as interval_widen, IsProper}
use Rattle.book_model.specs.numbers.Series.{pi_at}
use Rattle.book_model.specs.numbers.Octants.{sine_of_degrees, cosine_of_degrees, tangent_of_degrees}
use Rattle.book_model.specs.numbers.Roots.{root_of}
use Rattle.book_model.specs.numbers.Arcs.{arctangent_of, arcsine_of, arccosine_of, arctangent_of_two as two_arctangent}

-- What a formula computes: its arguments, numbers, and the operations of the model. Angles are in degrees. The
-- remainder of x by m, where x lies in the period of number q, is x - m q.
pub data Expression : Type 0 where
  argument : ℕ → Expression
  integer : ℤ → Expression
  constant : Fraction → Expression
  add subtract multiply divide : Expression → Expression → Expression
  negate : Expression → Expression
  scale : Fraction → Expression → Expression
  power : Expression → ℕ → Expression
  minimum maximum hull : Expression → Expression → Expression
  clamp : Expression → Expression
  widen : Fraction → Expression → Expression
  pi : Expression
  sine cosine tangent : Expression → Expression
  root arctangent arcsine arccosine : Expression → Expression
  arctangent_of_two : Expression → Expression → Expression
  remainder : ℕ → Expression → ℤ → Expression

-- a depth, and what the arguments are
pub record World : Type 0 where
  pub depth : ℕ
  pub arguments : ℕ → Interval
  pub proper : (k : ℕ) → IsProper (arguments k)

-- the interval of one fraction
abbrev pub exactly : Fraction → Interval
exactly a = between a a

-- the value of an expression in a world
unfoldable pub value : World → Expression → Interval
value w (argument k) = w.arguments k
value w (integer n) = exactly (whole n)
value w (constant a) = exactly a
value w (add x y) = sum (value w x) (value w y)
value w (subtract x y) = difference (value w x) (value w y)
value w (multiply x y) = product (value w x) (value w y)
value w (divide x y) = quotient (value w x) (value w y)
value w (negate x) = negative (value w x)
value w (scale a x) = product (value w x) (exactly a)
value w (power x k) = interval_power (value w x) k
value w (minimum x y) = interval_minimum (value w x) (value w y)
value w (maximum x y) = interval_maximum (value w x) (value w y)
value w (hull x y) = interval_hull (value w x) (value w y)
value w (clamp x) = interval_clamp (value w x)
value w (widen a x) = interval_widen a (value w x)
value w pi = pi_at w.depth
value w (sine x) = sine_of_degrees w.depth (value w x)
value w (cosine x) = cosine_of_degrees w.depth (value w x)
value w (tangent x) = tangent_of_degrees w.depth (value w x)
value w (root x) = root_of w.depth (value w x)
value w (arctangent x) = arctangent_of w.depth (value w x)
value w (arcsine x) = arcsine_of w.depth (value w x)
value w (arccosine x) = arccosine_of w.depth (value w x)
value w (arctangent_of_two y x) = two_arctangent w.depth (value w y) (value w x)
value w (remainder m x q) = difference (value w x) (exactly (whole (pos m *ℤ q)))
