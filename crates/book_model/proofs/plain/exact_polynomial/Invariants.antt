use Rattle.std.proofs.Common.{◌≡◌}
use Rattle.exact_math.specs.Fraction.{◌≈◌}
use Rattle.book_model.specs.sky.Correction.{int_power}
use Rattle.book_model.specs.sky.Plain.{decimal_11, exact_to}
use Rattle.book_model.proofs.plain.exact_polynomial.Given as goal

abbrev pub invariant-loop-coefficient : goal.invariant-loop-coefficient
invariant-loop-coefficient l =
    (decimal_11 l.sum ≈ exact_to l.coefficients l.x l.coefficient-index) × (l.power ≡ int_power l.x l.coefficient-index)
