-- The rows of the table of ΔT: of which years they are computed, and what stands behind a value of ΔT. That each row
-- can be computed of its years, so that no power leaves 64 bits, is a test over the rows, which is computed
-- (`forms_kept`). From a run that ends with a value the row is found by the cases of the table's look-up: without a row
-- the run is void.
use Rattle.std.specs.Prelude.{◌≡◌, ℕ, ◌-◌, ◌+◌, ℤ, pos, negsuc, ◌+ℤ◌, ◌-ℤ◌, ◌≤ℤ◌, ◌<ℤ◌, Bool, true, ◌&&◌, nat_lt}
use Rattle.std.specs.Prelude.{unsigned_abs, length, Option, Some, None, refl}
use Rattle.std.specs.List.{list_all}
use Rattle.std.proofs.Common.{arith}
use Rattle.std.proofs.lemmas.Int.{ints}
use Rattle.std.proofs.lemmas.Bool.{ltb-true}
use Rattle.book_model.specs.declared.correction_rows.CorrectionForm.{CorrectionForm}
use Rattle.book_model.specs.declared.correction_rows.CorrectionForm.TheVariants.{SecondsSince, SecondsByHundreds}
use Rattle.book_model.specs.declared.correction_rows.CorrectionForm.TheVariants.{DaysByCenturies}
use Rattle.book_model.specs.declared.frac.Frac.{Frac}
use Rattle.book_model.specs.declared.site.Site.{Site}
use Rattle.book_model.specs.numbers.Expressions.{Expression, World}
use Rattle.book_model.specs.numbers.Fractions.{fraction_of}
use Rattle.book_model.specs.programs.Programs.{void, run, valued, outcome}
use Rattle.book_model.specs.sky.Correction.{is_between, Correction, corrections, row_of_year}
use Rattle.book_model.specs.sky.Time.{correction_by, by_row, correction_of_year}
use Rattle.book_model.proofs.CorrectionRows.{both, lies, year_row}
use Rattle.book_model.proofs.Estimates.{valued_same}
use Rattle.time_scales.specs.Corrections.{IsFormYear}

-- how many years a row has
abbrev pub years_of : Correction → ℕ
years_of row = unsigned_abs (row.last -ℤ row.first) + 1

-- a year of a row comes before the row's years are over
pub year_inside : (row : Correction) (y : ℤ) → row.first ≤ℤ y → y ≤ℤ row.last → y <ℤ (row.first +ℤ pos (years_of row))
year_inside row y h k = omega (arith, ints)

-- ---- of which years a row is computed
form_kept : CorrectionForm → (first last : ℤ) → ℕ → Bool
form_kept (SecondsSince origin) first last n =
    nat_lt n 8 && (is_between (negsuc 255) (pos 256) (first -ℤ origin) && is_between (negsuc 255) (pos 256)
    (last -ℤ origin))
form_kept SecondsByHundreds first last n = true
form_kept DaysByCenturies first last n = is_between (pos 1) (pos 9999) first && is_between (pos 1) (pos 9999) last

is_form_kept : Correction → Bool
is_form_kept row = form_kept row.form row.first row.last (length row.coefficients)

forms_kept : list_all is_form_kept corrections ≡ true
unfolding corrections is_form_kept form_kept
forms_kept = refl

form_fits : (form : CorrectionForm) (first last y : ℤ) (n : ℕ) → form_kept form first last n ≡ true → first ≤ℤ y
    → y ≤ℤ last → IsFormYear form n y
unfolding form_kept
form_fits (SecondsSince origin) first last y n e h k =
    let b = both (nat_lt n 8) (is_between (negsuc 255) (pos 256) (first -ℤ origin) && is_between (negsuc 255) (pos 256)
    (last -ℤ origin)) e in
    let c = both (is_between (negsuc 255) (pos 256) (first -ℤ origin))
    (is_between (negsuc 255) (pos 256) (last -ℤ origin)) b.1 in
    let l = lies (negsuc 255) (pos 256) (first -ℤ origin) c.0 in
    let m = lies (negsuc 255) (pos 256) (last -ℤ origin) c.1 in
    let f = ltb-true _ _ b.0 in
    (omega (arith, f), omega (arith, ints, l.0, m.1))
form_fits SecondsByHundreds first last y n e h k = tt
form_fits DaysByCenturies first last y n e h k =
    let b = both (is_between (pos 1) (pos 9999) first) (is_between (pos 1) (pos 9999) last) e in
    let l = lies (pos 1) (pos 9999) first b.0 in
    let m = lies (pos 1) (pos 9999) last b.1 in
    (omega (arith, ints, l.0), omega (arith, ints, m.1))

-- a row can be computed of its years
pub form_year : (y : ℤ) (row : Correction) → row_of_year y ≡ Some row → IsFormYear row.form (length row.coefficients) y
unfolding is_form_kept
form_year y row e =
    let r = year_row is_form_kept y row forms_kept e in
    form_fits row.form row.first row.last y (length row.coefficients) r.passes r.from r.to

-- ---- what stands behind ΔT
pub record HasRow (y : ℤ) (c : Expression) : Type 0 where
  pub row : Correction
  pub found : row_of_year y ≡ Some row
  pub same : correction_by row.form row.coefficients y ≡ c

none_valued : (w : World) (s : Site) (c : Expression) → outcome (run w (void s)) ≡ valued c → ⊥
unfolding run outcome
none_valued w s c e = absurd (cc)

row_of_value : (w : World) (y : ℤ) (c : Expression) (o : Option Correction) → row_of_year y ≡ o
    → outcome (run w (by_row y o)) ≡ valued c → HasRow y c
row_of_value w y c None f e = absurd (none_valued w _ c e)
row_of_value w y c (Some row) f e = record { row = row; found = f; same = valued_same w _ c e }

-- ΔT that has a value is that of a row
pub row_behind : (w : World) (y : ℤ) (c : Expression) → outcome (run w (correction_of_year y)) ≡ valued c → HasRow y c
unfolding correction_of_year
row_behind w y c e = row_of_value w y c (row_of_year y) refl e

-- a fraction of known numbers
pub fraction_is : (f : Frac) (n : ℤ) (d : ℕ) → f.num ≡ n → f.den ≡ d → fraction_of f ≡ record { num = n; below = d - 1 }
fraction_is f n d e g = rw (e, g) refl
