-- The value of every expression is a proper interval, and lies within its value in a wider world.
use Rattle.std.specs.Prelude.{pos, ◌*ℤ◌}
use Rattle.exact_math.specs.Fraction.{whole}
use Rattle.exact_math.specs.Interval.{IsProper, ◌⊆◌}
use Rattle.exact_math.proofs.Fractions.{le_refl}
use Rattle.exact_math.proofs.Intervals.{within_refl, sum_within, difference_within, product_within, quotient_within}
use Rattle.exact_math.proofs.Intervals.{negative_within, power_within, minimum_within, maximum_within, hull_within}
use Rattle.exact_math.proofs.Intervals.{clamp_within, widen_within, plus_proper, difference_proper, product_proper}
use Rattle.exact_math.proofs.Intervals.{quotient_proper, negative_proper, power_proper, minimum_proper, maximum_proper}
use Rattle.exact_math.proofs.Intervals.{hull_proper, clamp_proper, widen_proper}
use Rattle.book_model.specs.numbers.Expressions.{Expression, argument, integer, constant, add, subtract, multiply}
use Rattle.book_model.specs.numbers.Expressions.{divide, negate, scale, power, minimum, maximum, hull, clamp, widen, pi}
use Rattle.book_model.specs.numbers.Expressions.{sine, cosine, tangent, root, arctangent, arcsine, arccosine}
use Rattle.book_model.specs.numbers.Expressions.{arctangent_of_two, remainder, World, value, exactly}
use Rattle.exact_math.proofs.Narrowing.{at_least}
use Rattle.book_model.specs.numbers.Octants.{sine_of_degrees, cosine_of_degrees, tangent_of_degrees}
use Rattle.book_model.specs.numbers.Roots.{root_of}
use Rattle.book_model.specs.numbers.Arcs.{arctangent_of, arcsine_of, arccosine_of}
use Rattle.book_model.proofs.Roots.{roots}
use Rattle.book_model.proofs.Arcs.{arctangents, arcsines, arccosines, two_proper, two_nested}
use Rattle.book_model.proofs.Pi.{pi_proper, pi_at_least}
use Rattle.book_model.proofs.DegreeSines.{degree_sines, degree_cosines, degree_tangents}
use Rattle.book_model.specs.programs.Nesting.{IsNarrower, ValuesNest}

pub value_proper : (w : World) (x : Expression) → IsProper (value w x)
unfolding value
value_proper w (argument k) = w.proper k
value_proper w (integer n) = le_refl (whole n)
value_proper w (constant a) = le_refl a
value_proper w (add x y) = plus_proper (value w x) (value w y) (value_proper w x) (value_proper w y)
value_proper w (subtract x y) = difference_proper (value w x) (value w y) (value_proper w x) (value_proper w y)
value_proper w (multiply x y) = product_proper (value w x) (value w y) (value_proper w x) (value_proper w y)
value_proper w (divide x y) = quotient_proper (value w x) (value w y) (value_proper w x) (value_proper w y)
value_proper w (negate x) = negative_proper (value w x) (value_proper w x)
value_proper w (scale a x) = product_proper (value w x) (exactly a) (value_proper w x) (le_refl a)
value_proper w (power x k) = power_proper k (value w x) (value_proper w x)
value_proper w (minimum x y) = minimum_proper (value w x) (value w y) (value_proper w x) (value_proper w y)
value_proper w (maximum x y) = maximum_proper (value w x) (value w y) (value_proper w x) (value_proper w y)
value_proper w (hull x y) = hull_proper (value w x) (value w y) (value_proper w x) (value_proper w y)
value_proper w (clamp x) = clamp_proper (value w x) (value_proper w x)
value_proper w (widen a x) = widen_proper a (value w x) (value_proper w x)
value_proper w pi = pi_proper w.depth
value_proper w (sine x) = degree_sines.proper w.depth (value w x) (value_proper w x)
value_proper w (cosine x) = degree_cosines.proper w.depth (value w x) (value_proper w x)
value_proper w (tangent x) = degree_tangents.proper w.depth (value w x) (value_proper w x)
value_proper w (root x) = roots.proper w.depth (value w x) (value_proper w x)
value_proper w (arctangent x) = arctangents.proper w.depth (value w x) (value_proper w x)
value_proper w (arcsine x) = arcsines.proper w.depth (value w x) (value_proper w x)
value_proper w (arccosine x) = arccosines.proper w.depth (value w x) (value_proper w x)
value_proper w (arctangent_of_two y x) = two_proper w.depth (value w y) (value w x) (value_proper w y)
    (value_proper w x)
value_proper w (remainder m x q) = difference_proper (value w x) (exactly (whole (pos m *ℤ q))) (value_proper w x)
    (le_refl (whole (pos m *ℤ q)))

pub value_nested : (v w : World) → IsNarrower v w → (x : Expression) → value v x ⊆ value w x
unfolding value
value_nested v w h (argument k) = h.inner k
value_nested v w h (integer n) = within_refl (exactly (whole n))
value_nested v w h (constant a) = within_refl (exactly a)
value_nested v w h (add x y) = sum_within (value_nested v w h x) (value_nested v w h y)
value_nested v w h (subtract x y) = difference_within (value_nested v w h x) (value_nested v w h y)
value_nested v w h (multiply x y) = product_within (value_proper v x) (value_proper v y) (value_nested v w h x)
    (value_nested v w h y)
value_nested v w h (divide x y) = quotient_within (value_proper v x) (value_proper v y) (value_nested v w h x)
    (value_nested v w h y)
value_nested v w h (negate x) = negative_within (value_nested v w h x)
value_nested v w h (scale a x) = product_within (value_proper v x) (le_refl a) (value_nested v w h x)
    (within_refl (exactly a))
value_nested v w h (power x k) = power_within k (value_proper v x) (value_nested v w h x)
value_nested v w h (minimum x y) = minimum_within (value_nested v w h x) (value_nested v w h y)
value_nested v w h (maximum x y) = maximum_within (value_nested v w h x) (value_nested v w h y)
value_nested v w h (hull x y) = hull_within (value_nested v w h x) (value_nested v w h y)
value_nested v w h (clamp x) = clamp_within (value_nested v w h x)
value_nested v w h (widen a x) = widen_within a (value_nested v w h x)
value_nested v w h pi = pi_at_least w.depth v.depth h.deeper
value_nested v w h (sine x) = at_least sine_of_degrees degree_sines w.depth v.depth h.deeper (value_proper v x)
    (value_nested v w h x)
value_nested v w h (cosine x) = at_least cosine_of_degrees degree_cosines w.depth v.depth h.deeper (value_proper v x)
    (value_nested v w h x)
value_nested v w h (tangent x) = at_least tangent_of_degrees degree_tangents w.depth v.depth h.deeper (value_proper v x)
    (value_nested v w h x)
value_nested v w h (root x) = at_least root_of roots w.depth v.depth h.deeper (value_proper v x) (value_nested v w h x)
value_nested v w h (arctangent x) = at_least arctangent_of arctangents w.depth v.depth h.deeper (value_proper v x)
    (value_nested v w h x)
value_nested v w h (arcsine x) = at_least arcsine_of arcsines w.depth v.depth h.deeper (value_proper v x)
    (value_nested v w h x)
value_nested v w h (arccosine x) = at_least arccosine_of arccosines w.depth v.depth h.deeper (value_proper v x)
    (value_nested v w h x)
value_nested v w h (arctangent_of_two y x) = two_nested w.depth v.depth h.deeper (value_proper v y) (value_proper v x)
    (value_nested v w h y)
    (value_nested v w h x)
value_nested v w h (remainder m x q) = difference_within (value_nested v w h x)
    (within_refl (exactly (whole (pos m *ℤ q))))

pub values_nest : ValuesNest
values_nest = record { within = value_nested }
