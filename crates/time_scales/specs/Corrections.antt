-- What is computed by each row of the table of ΔT.
use Rattle.std.specs.Prelude.{ℕ, ◌-◌, ◌*◌, ◌^◌, ◌≤◌, ℤ, pos, negsuc, ◌-ℤ◌, ◌≤ℤ◌, unsigned_abs, List, Option, Some, None}
use Rattle.book_model.specs.declared.correction_rows.CorrectionForm.{CorrectionForm}
use Rattle.book_model.specs.declared.correction_rows.CorrectionForm.TheVariants.{SecondsSince, SecondsByHundreds}
use Rattle.book_model.specs.declared.correction_rows.CorrectionForm.TheVariants.{DaysByCenturies}
use Rattle.book_model.specs.declared.frac.Frac.{Frac}
use Rattle.book_model.specs.declared.tables.TheConstants.{SECOND}
use Rattle.book_model.specs.numbers.Bounds.{Bound, bounded}
use Rattle.book_model.specs.sky.Correction.{Correction, row_of_year, seconds_of}
use Rattle.book_model.specs.numbers.Expressions.{Expression, integer, scale}
use Rattle.book_model.specs.numbers.Fractions.{fraction_of}
use Rattle.book_model.specs.sky.Time.{hundreds_of, centuries_to_july}
use Rattle.time_scales.specs.Horner.{horner_of}

-- a form with so many coefficients can be computed of a year: its powers fit 64 bits, or its July is one of the
-- calendar's
abbrev pub IsFormYear : CorrectionForm → ℕ → ℤ → Type 0
IsFormYear (SecondsSince origin) n y = (n ≤ 7) × (unsigned_abs (y -ℤ origin) ≤ 256)
IsFormYear SecondsByHundreds n y = Unit {0}
IsFormYear DaysByCenturies n y = (pos 1 ≤ℤ y) × (y ≤ℤ pos 9999)

-- ΔT by a form, in the order in which it is computed
unfoldable pub computed_by : CorrectionForm → List Frac → ℤ → Expression
computed_by (SecondsSince origin) cs y = seconds_of cs origin y
computed_by SecondsByHundreds cs y = scale (fraction_of SECOND) (horner_of cs (hundreds_of y))
computed_by DaysByCenturies cs y = horner_of cs (centuries_to_july y)

abbrev pub computed_in : ℤ → Option Correction → Expression
computed_in y None = integer (pos 0)
computed_in y (Some row) = computed_by row.form row.coefficients y

-- what is computed in a year; nothing where it has no row
unfoldable pub computed_of : ℤ → Expression
computed_of y = computed_in y (row_of_year y)

abbrev pub units_in : Option Correction → Option ℕ
units_in None = None
units_in (Some row) = row.units

-- how many units of a scale ΔT of a year is wide at most, where its row promises it
unfoldable pub units_of_year : ℤ → Option ℕ
units_of_year y = units_in (row_of_year y)

-- within a 64th of a day of 0, and at most so many units of 2^-bits wide
abbrev pub correction_bound : (units bits : ℕ) → Bound
correction_bound units bits = bounded (negsuc (2 ^ 26 - 1)) (pos (2 ^ 26)) 0 (units * 2 ^ (64 - bits))
