-- Polynomials and periodic terms, as expressions.
use Rattle.std.specs.Prelude.{ℕ, zero, suc, pos, List, length, slice_index_or}
use Rattle.exact_math.specs.Fraction.{Fraction, whole, power as fraction_power}
use Rattle.book_model.specs.declared.frac.Frac.{Frac}
use Rattle.book_model.specs.declared.polynomial.Quadratic.{Quadratic}
use Rattle.book_model.specs.declared.polynomial.Cubic.{Cubic}
use Rattle.book_model.specs.declared.polynomial.Quartic.{Quartic}
use Rattle.book_model.specs.declared.polynomial.PeriodicTerm.{PeriodicTerm}
use Rattle.book_model.specs.declared.polynomial.QuadraticTerm.{QuadraticTerm}
use Rattle.book_model.specs.sky.Correction.{no_fraction}
use Rattle.book_model.specs.numbers.Fractions.{fraction_of, ten_millionths}
use Rattle.book_model.specs.numbers.Expressions.{Expression, integer, constant, add, scale, power, sine}
use Rattle.book_model.specs.numbers.Terms.{terms_of}

-- a0 + a1 x + a2 x^2
unfoldable pub quadratic_of : Quadratic → Expression → Expression
quadratic_of p x = add (add (constant (fraction_of p.constant)) (scale (fraction_of p.linear) x))
    (scale (fraction_of p.square) (power x 2))

-- a0 + a1 x + a2 x^2 + a3 x^3
unfoldable pub cubic_of : Cubic → Expression → Expression
cubic_of p x =
    add (add (add (constant (fraction_of p.constant)) (scale (fraction_of p.linear) x))
    (scale (fraction_of p.square) (power x 2)))
    (scale (fraction_of p.cube) (power x 3))

-- a0 + a1 x + a2 x^2 + a3 x^3 + a4 x^4
unfoldable pub quartic_of : Quartic → Expression → Expression
quartic_of p x =
    add (add (add (add (constant (fraction_of p.constant)) (scale (fraction_of p.linear) x))
    (scale (fraction_of p.square) (power x 2)))
    (scale (fraction_of p.cube) (power x 3))) (scale (fraction_of p.fourth) (power x 4))

-- a0 + a1 c + a2 c^2 + .. at an exact fraction c, to the term before that of index n
unfoldable pub polynomial_at_to : List Frac → Fraction → ℕ → Expression
polynomial_at_to cs c zero = integer (pos 0)
polynomial_at_to cs c (suc n) = add (polynomial_at_to cs c n) (scale (fraction_of (slice_index_or cs n no_fraction))
    (constant (fraction_power c n)))

-- the polynomial with these coefficients at an exact fraction
unfoldable pub polynomial_at : List Frac → Fraction → Expression
polynomial_at cs c = polynomial_at_to cs c (length cs)

-- the phase of a periodic term and its rate times x, which are in centuries
abbrev pub angle_of_term : PeriodicTerm → Expression → Expression
angle_of_term v x = add (constant (ten_millionths v.phase)) (scale (ten_millionths v.rate) x)

-- the size of a periodic term times the sine of its angle
unfoldable pub periodic_term_of : Expression → PeriodicTerm → Expression
periodic_term_of x v = scale (whole v.size) (sine (angle_of_term v x))

-- the size of a periodic term times the sine of its angle, which is quadratic
unfoldable pub quadratic_term_of : QuadraticTerm → Expression → Expression
quadratic_term_of v x = scale (fraction_of v.size) (sine (quadratic_of v.angle x))

-- what stands for a periodic term past the last
abbrev pub no_periodic_term : PeriodicTerm
no_periodic_term = record { size = pos 0; phase = pos 0; rate = pos 0 }

-- the sum of the periodic terms
abbrev pub periodic_terms_of : List PeriodicTerm → Expression → Expression
periodic_terms_of vs x = terms_of (periodic_term_of x) no_periodic_term vs
