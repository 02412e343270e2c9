-- Sums over the rows of a table, and the power of a factor with which a term is multiplied.
use Rattle.std.specs.Prelude.{ℕ, zero, suc, pos, List, length, slice_index_or}
use Rattle.book_model.specs.numbers.Expressions.{Expression, integer, add, multiply, power}

-- the sum of the terms of the first n rows; no row stands for one past the last
unfoldable pub terms_to : {R : Type 0} → (R → Expression) → R → List R → ℕ → Expression
terms_to term none rows zero = integer (pos 0)
terms_to term none rows (suc n) = add (terms_to term none rows n) (term (slice_index_or rows n none))

-- the sum of the terms of all rows
unfoldable pub terms_of : {R : Type 0} → (R → Expression) → R → List R → Expression
terms_of term none rows = terms_to term none rows (length rows)

-- a term times a power of a factor
unfoldable pub times_power : Expression → ℕ → Expression → Expression
times_power factor zero x = x
times_power factor (suc zero) x = multiply factor x
times_power factor (suc (suc k)) x = multiply (power factor (suc (suc k))) x
