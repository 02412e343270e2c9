-- What the table of greatest widths says.
use Rattle.std.specs.Prelude.{ℕ, zero, suc, ◌+◌, ◌*◌, ◌/◌}
use Rattle.encl_core.specs.declared.greatest_widths.WidthRow.{WidthRow}

-- so many times a width: none of a factor of 0, and itself of a factor of 1
abbrev times : (n v : ℕ) → ℕ
times zero v = zero
times (suc zero) v = v
times n v = n * v

-- a width over a denominator, rounded down: itself over 1
abbrev over : (v d : ℕ) → ℕ
over v (suc zero) = v
over v d = v / d

-- the greatest width of a row where the argument is v wide; both are in units of 2^-64
abbrev pub greatest_of : WidthRow → ℕ → ℕ
greatest_of row v = over (times row.numerator v) row.denominator + row.slack
