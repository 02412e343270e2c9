-- How narrow the values of ΔT are at the scale 2^-56: computed for each year of the table. The test goes over the rows
-- and over the years of each, as in `CorrectionWidths`, with one bound for all years, which formulas cite;
-- `year_tabled` takes the year at hand out of it.
use Rattle.std.specs.Prelude.{◌≡◌, ℕ, ◌^◌, ℤ, pos, neg_ℤ, Bool, true, List, Some, refl}
use Rattle.std.specs.List.{list_all}
use Rattle.std.proofs.Common.{arith}
use Rattle.book_model.specs.Interval.{Interval}
use Rattle.book_model.specs.numbers.Bounds.{bounded, Reach, bound_of, implies, integer_bound, constant_bound, sum_bound}
use Rattle.book_model.specs.numbers.Bounds.{scaled_bound, limits_of, limits_at}
use Rattle.book_model.specs.calendars.Gregorian.{fixed_of, first_day, days_of_months}
use Rattle.book_model.specs.sky.Correction.{Correction, corrections, row_of_year, int_power, polynomial_to}
use Rattle.book_model.specs.sky.Correction.{polynomial_of, seconds_of}
use Rattle.book_model.specs.numbers.Relations.{Narrow}
use Rattle.encl_core.proofs.Measuring.{measured}
use Rattle.book_model.specs.declared.correction_rows.CorrectionForm.{CorrectionForm}
use Rattle.book_model.specs.declared.frac.Frac.{Frac}
use Rattle.book_model.proofs.CorrectionRows.{year_row}
use Rattle.time_scales.specs.Corrections.{computed_by}
use Rattle.time_scales.proofs.CorrectionRows.{years_of, year_inside}
use Rattle.time_scales.specs.Horner.{horner_to, horner_of}
use Rattle.book_model.specs.programs.Widths.{IsCorrection}
use Rattle.time_scales.proofs.CorrectionWidths.{no_bound, holds_from, holds_at}

-- ΔT of a year by a form lies within a fourth of a day of 0, and is at most 2^-50 days wide
unfoldable is_tabled : CorrectionForm → List Frac → ℤ → Bool
is_tabled form cs y = implies (bound_of (limits_at 56) no_bound (computed_by form cs y))
    (bounded (neg_ℤ (pos (2 ^ 30))) (pos (2 ^ 30)) 0 (2 ^ 14))

-- and so do those of a row
unfoldable is_tabled_row : Correction → Bool
is_tabled_row row = holds_from (is_tabled row.form row.coefficients) row.first (years_of row)

rows_tabled : list_all is_tabled_row corrections ≡ true
unfolding corrections is_tabled_row holds_from is_tabled implies bound_of integer_bound constant_bound sum_bound
    scaled_bound computed_by seconds_of
    polynomial_of polynomial_to int_power horner_of horner_to fixed_of first_day days_of_months
rows_tabled = refl

year_tabled : (y : ℤ) (row : Correction) → row_of_year y ≡ Some row → is_tabled row.form row.coefficients y ≡ true
unfolding is_tabled_row
year_tabled y row e =
    let r = year_row is_tabled_row y row rows_tabled e in
    holds_at (is_tabled row.form row.coefficients) (years_of row) row.first y r.passes r.from
    (year_inside row y r.from r.to)

-- ΔT that keeps its computed bound
pub correction_within : {E : Type 0} (shown : E → Interval) (n : ℕ) (y : ℤ) (row : Correction) (e : E) → n ≡ 56
    → row_of_year y ≡ Some row
    → ((r : Reach) → Narrow shown (limits_of n) r (computed_by row.form row.coefficients y) e)
    → IsCorrection (2 ^ 14) (shown e)
unfolding is_tabled
correction_within shown n y row e p g f =
    measured shown n 0 no_bound (computed_by row.form row.coefficients y) (neg_ℤ (pos (2 ^ 30))) (pos (2 ^ 30)) 0
    (2 ^ 14) (2 ^ 14) e p (year_tabled y row g)
    (omega arith) (f (record { width = 0; bounds = no_bound }))
