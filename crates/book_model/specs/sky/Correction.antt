-- Polynomials at a whole number, the rows of ΔT (dynamical less universal time), and the tests of a year and of a
-- rounding. Reingold and Dershowitz, Calendrical Calculations, chapter 14, ephemeris correction.
use Rattle.std.specs.Prelude.{ℕ, zero, suc, ◌&&◌, Bool, if◌then◌else◌, ℤ, pos, ◌-ℤ◌, ◌*ℤ◌, List, [], ◌∷◌, length, map}
use Rattle.std.specs.Prelude.{slice_index_or, int_le, Option, Some, None}
use Rattle.book_model.specs.declared.correction_rows.CorrectionForm.{CorrectionForm}
use Rattle.book_model.specs.declared.correction_rows.TheConstants.{CORRECTIONS}
use Rattle.book_model.specs.declared.frac.Frac.{Frac}
use Rattle.book_model.specs.declared.site.Site.TheVariants.{Year, Round}
use Rattle.book_model.specs.declared.tables.TheConstants.{HALF, SECOND}
use Rattle.book_model.specs.declared.version.Version.{Version}
use Rattle.book_model.specs.numbers.Fractions.{fraction_of}
use Rattle.book_model.specs.numbers.Expressions.{Expression, integer, constant, add, scale}
use Rattle.book_model.specs.programs.Programs.{Program, answer, cell, integers, years}

-- x to the power k
unfoldable pub int_power : ℤ → ℕ → ℤ
int_power x zero = pos 1
int_power x (suc k) = int_power x k *ℤ x

-- what stands for a coefficient past the last
abbrev pub no_fraction : Frac
no_fraction = record { num = pos 0; den = 0 }

-- a0 + a1 x + a2 x^2 + .., to the term before that of index n
unfoldable pub polynomial_to : List Frac → ℤ → ℕ → Expression
polynomial_to cs x zero = integer (pos 0)
polynomial_to cs x (suc n) = add (polynomial_to cs x n) (scale (fraction_of (slice_index_or cs n no_fraction))
    (integer (int_power x n)))

-- the polynomial with these coefficients at a whole number
unfoldable pub polynomial_of : List Frac → ℤ → Expression
polynomial_of cs x = polynomial_to cs x (length cs)

-- a polynomial of seconds in the years from one on, in days
unfoldable pub seconds_of : List Frac → (origin y : ℤ) → Expression
seconds_of cs origin y = scale (fraction_of SECOND) (polynomial_of cs (y -ℤ origin))

abbrev pub is_between : ℤ → ℤ → ℤ → Bool
is_between low high z = int_le low z && int_le z high

-- ---- the rows of the table
-- a row: its years, how its polynomial is taken, the coefficients, how many units of a scale an enclosure of its ΔT is
-- wide at most, and the first version of certificates that has it
pub record Correction : Type 0 where
  pub first : ℤ
  pub last : ℤ
  pub form : CorrectionForm
  pub coefficients : List Frac
  pub units : Option ℕ
  pub since : Version

abbrev pub correction_row : (first last : ℤ) → CorrectionForm → List Frac → Option ℕ → Version → Correction
correction_row first last form coefficients units since =
    record { first = first; last = last; form = form; coefficients = coefficients; units = units; since = since }

unfoldable pub corrections : List Correction
corrections = map (λ r. correction_row r.0 r.1 r.2 r.3.now r.4 r.5) CORRECTIONS

-- the first of some rows that has a year, if one has
abbrev pub row_in : List Correction → ℤ → Option Correction
row_in [] y = None
row_in (row ∷ rows) y = if is_between row.first row.last y then Some row else row_in rows y

-- the row of a year
unfoldable pub row_of_year : ℤ → Option Correction
row_of_year y = row_in corrections y

-- ---- tests
-- the Gregorian year of a moment
unfoldable pub year_of : Expression → Program ℤ
year_of x = cell Year years x answer

-- the whole number that is nearest, the greater of two
unfoldable pub rounded_of : Expression → Program ℤ
rounded_of x = cell Round integers (add x (constant (fraction_of HALF))) answer
