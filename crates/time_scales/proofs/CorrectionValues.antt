-- From where to where the values of ΔT (dynamical less universal time) lie, in milliseconds: computed for each year,
-- with endpoints rounded outwards.
use Rattle.std.specs.Prelude.{◌≡◌, suc, ◌-◌, ◌^◌, ◌&&◌, ◌||◌, int_le, int_lt, List, ℤ, pos, negsuc, ◌+ℤ◌, ◌*ℤ◌, ◌≤ℤ◌}
use Rattle.std.specs.Prelude.{Some, Bool, true, false, refl}
use Rattle.std.specs.List.{list_all}
use Rattle.std.proofs.Common.{arith, sym, ◌∙◌}
use Rattle.std.proofs.lemmas.Int.{ints}
use Rattle.std.specs.Ordering.{int_eq}
use Rattle.book_model.specs.Fraction.{Fraction, whole, floor, floor_quotient, plus, times, smaller, larger, is_at_most}
use Rattle.book_model.specs.Interval.{Interval, everything, between, ◌⊆◌, IsProper, sum, product, least, greatest}
use Rattle.book_model.proofs.Floors.{floor_mono, floor_quotient_is}
use Rattle.book_model.proofs.Fractions.{le_trans, le_refl}
use Rattle.book_model.proofs.IntLaws.{add_mul, one_mul}
use Rattle.book_model.proofs.Intervals.{within_trans, within_refl, within_everything, sum_within, product_within}
use Rattle.book_model.specs.declared.tables.TheConstants.{HALF, MILLISECONDS_OF_DAY}
use Rattle.book_model.specs.calendars.Gregorian.{first_day, year_of_day, days_of_months, fixed_of}
use Rattle.book_model.specs.declared.correction_rows.CorrectionForm.{CorrectionForm}
use Rattle.book_model.specs.declared.correction_rows.CorrectionForm.TheVariants.{SecondsSince, SecondsByHundreds}
use Rattle.book_model.specs.declared.correction_rows.CorrectionForm.TheVariants.{DaysByCenturies}
use Rattle.book_model.specs.declared.fact.TheConstants.{FIRST_DAY, LAST_DAY}
use Rattle.book_model.specs.declared.frac.Frac.{Frac}
use Rattle.book_model.specs.sky.Correction.{Correction, corrections, int_power, polynomial_to, polynomial_of}
use Rattle.book_model.specs.sky.Correction.{seconds_of, year_of, rounded_of}
use Rattle.book_model.specs.numbers.Expressions.{Expression, argument, integer, constant, add, subtract, multiply}
use Rattle.book_model.specs.numbers.Expressions.{divide, negate, scale, power, minimum, maximum, hull, clamp, widen, pi}
use Rattle.book_model.specs.numbers.Expressions.{sine, cosine, tangent, root, arctangent, arcsine, arccosine}
use Rattle.book_model.specs.numbers.Expressions.{arctangent_of_two, remainder, World, value, exactly}
use Rattle.book_model.specs.numbers.Fractions.{fraction_of}
use Rattle.book_model.specs.sky.Kinds.{dt_of}
use Rattle.book_model.specs.numbers.Polynomials.{polynomial_at}
use Rattle.book_model.specs.programs.Programs.{integers, years, cell_of, cell_at, run, valued, outcome}
use Rattle.book_model.specs.sky.Facts.{IsValueDay}
use Rattle.book_model.specs.sky.Time.{hundreds_of, centuries_to_july, correction_by, correction_of_year}
use Rattle.book_model.proofs.Calendars.{year_mono}
use Rattle.book_model.proofs.CorrectionRows.{both, year_row}
use Rattle.book_model.proofs.Corrections.{year_of_whole}
use Rattle.book_model.proofs.FactRuns.{parts, decides, when_some}
use Rattle.book_model.proofs.Values.{value_proper}
use Rattle.time_scales.specs.Corrections.{computed_by}
use Rattle.time_scales.specs.Horner.{horner_to, horner_of}
use Rattle.time_scales.proofs.CorrectionRows.{years_of, year_inside, HasRow, row_behind}
use Rattle.time_scales.proofs.CorrectionWidths.{holds_from, holds_at}
use Rattle.time_scales.proofs.HornerLemmas.{values_same}

-- ---- values, with endpoints that are rounded outwards
abbrev at_20 : ℤ → Fraction
at_20 n = record { num = n; below = 2 ^ 20 - 1 }

-- an endpoint in 2^-20, rounded down
abbrev down_20 : Fraction → ℤ
down_20 a = floor_quotient (a.num *ℤ pos (2 ^ 20)) a.below

unfoldable outwards : Interval → Interval
outwards everything = everything
outwards (between a b) = between (at_20 (down_20 a)) (at_20 (down_20 b +ℤ pos 1))

within_outwards : (i : Interval) → i ⊆ outwards i
unfolding outwards
within_outwards everything = within_everything everything
within_outwards (between a b) =
    let f = floor_quotient_is (a.num *ℤ pos (2 ^ 20)) a.below in
    let g = floor_quotient_is (b.num *ℤ pos (2 ^ 20)) b.below in
    record {
      endpoints = (
        record { cross = omega (arith, ints, f.not_above) },
        record {
          cross = omega (
            arith,
            ints,
            g.close,
            add_mul (floor_quotient (b.num *ℤ pos (2 ^ 20)) b.below) (pos 1) (pos (suc b.below)),
            one_mul (pos (suc b.below)),
          );
        },
      );
    }

-- where the value of a sum of multiples of known numbers lies
unfoldable ranged : Expression → Interval
ranged (argument k) = everything
ranged (integer n) = exactly (whole n)
ranged (constant a) = outwards (exactly a)
ranged (add x y) = outwards (sum (ranged x) (ranged y))
ranged (subtract x y) = everything
ranged (multiply x y) = everything
ranged (divide x y) = everything
ranged (negate x) = everything
ranged (scale a x) = outwards (product (ranged x) (exactly a))
ranged (power x k) = everything
ranged (minimum x y) = everything
ranged (maximum x y) = everything
ranged (hull x y) = everything
ranged (clamp x) = everything
ranged (widen a x) = everything
ranged pi = everything
ranged (sine x) = everything
ranged (cosine x) = everything
ranged (tangent x) = everything
ranged (root x) = everything
ranged (arctangent x) = everything
ranged (arcsine x) = everything
ranged (arccosine x) = everything
ranged (arctangent_of_two y x) = everything
ranged (remainder m x q) = everything

value_ranged : (w : World) (x : Expression) → value w x ⊆ ranged x
unfolding value ranged
value_ranged w (argument k) = within_everything _
value_ranged w (integer n) = within_refl _
value_ranged w (constant a) = within_outwards _
value_ranged w (add x y) = within_trans (sum_within (value_ranged w x) (value_ranged w y)) (within_outwards _)
value_ranged w (subtract x y) = within_everything _
value_ranged w (multiply x y) = within_everything _
value_ranged w (divide x y) = within_everything _
value_ranged w (negate x) = within_everything _
value_ranged w (scale a x) = within_trans (product_within (value_proper w x) (le_refl a) (value_ranged w x)
    (within_refl (exactly a))) (within_outwards _)
value_ranged w (power x k) = within_everything _
value_ranged w (minimum x y) = within_everything _
value_ranged w (maximum x y) = within_everything _
value_ranged w (hull x y) = within_everything _
value_ranged w (clamp x) = within_everything _
value_ranged w (widen a x) = within_everything _
value_ranged w pi = within_everything _
value_ranged w (sine x) = within_everything _
value_ranged w (cosine x) = within_everything _
value_ranged w (tangent x) = within_everything _
value_ranged w (root x) = within_everything _
value_ranged w (arctangent x) = within_everything _
value_ranged w (arcsine x) = within_everything _
value_ranged w (arccosine x) = within_everything _
value_ranged w (arctangent_of_two y x) = within_everything _
value_ranged w (remainder m x q) = within_everything _

-- ---- each year's ΔT
-- within 10,000,000 of 0
abbrev fits : Interval → Bool
fits everything = false
fits (between a b) = int_le (negsuc 9999999) (floor a) && int_le (floor b) (pos 10000000)

abbrev rounded : Expression → Expression
rounded c = add (scale (fraction_of MILLISECONDS_OF_DAY) c) (constant (fraction_of HALF))

-- within 200 days of 0
abbrev pub fits_days : Interval → Bool
fits_days everything = false
fits_days (between a b) = is_at_most (whole (negsuc 199)) a && is_at_most b (whole (pos 200))

-- ΔT of a year by a form is within 200 days of 0, and in milliseconds within 10,000,000
unfoldable has_few_days : CorrectionForm → List Frac → ℤ → Bool
has_few_days form cs y = fits_days (ranged (computed_by form cs y))

unfoldable is_value : CorrectionForm → List Frac → ℤ → Bool
is_value form cs y = fits (ranged (rounded (computed_by form cs y)))

-- the values of ΔT of a row are within 200 days of 0
unfoldable has_few_days_each : Correction → Bool
has_few_days_each row = holds_from (has_few_days row.form row.coefficients) row.first (years_of row)

rows_have_few_days : list_all has_few_days_each corrections ≡ true
unfolding corrections has_few_days_each holds_from has_few_days ranged outwards sum product least greatest times plus
    smaller larger is_at_most computed_by
    horner_of horner_to fixed_of days_of_months first_day seconds_of polynomial_of polynomial_to int_power
rows_have_few_days = refl

-- those of the years of which facts have values are values, in milliseconds
unfoldable has_values_each : Correction → Bool
has_values_each row = int_lt row.last (year_of_day FIRST_DAY) || holds_from (is_value row.form row.coefficients)
    row.first (years_of row)

rows_have_values : list_all has_values_each corrections ≡ true
unfolding corrections has_values_each holds_from is_value ranged outwards sum product least greatest times plus smaller
    larger is_at_most computed_by horner_of
    horner_to fixed_of days_of_months first_day year_of_day seconds_of polynomial_of polynomial_to int_power
rows_have_values = refl

-- what a row's ΔT is, as it is computed
computed_holds : (w : World) (form : CorrectionForm) (cs : List Frac) (y : ℤ)
    → value w (correction_by form cs y) ⊆ value w (computed_by form cs y)
unfolding correction_by computed_by value
computed_holds w (SecondsSince origin) cs y = within_refl _
computed_holds w SecondsByHundreds cs y = product_within (value_proper w (polynomial_at cs (hundreds_of y))) (le_refl _)
    (values_same w cs (hundreds_of y))
    (within_refl _)
computed_holds w DaysByCenturies cs y = values_same w cs (centuries_to_july y)

rounded_holds : (w : World) (form : CorrectionForm) (cs : List Frac) (y : ℤ)
    → value w (rounded (correction_by form cs y)) ⊆ ranged (rounded (computed_by form cs y))
unfolding value
rounded_holds w form cs y =
    within_trans
    (sum_within (product_within (value_proper w (correction_by form cs y)) (le_refl _) (computed_holds w form cs y)
    (within_refl _))
    (within_refl _)) (value_ranged w (rounded (computed_by form cs y)))

-- ΔT that has a value lies within an interval that is within 200 days of 0
pub record IsClose (i : Interval) : Type 0 where
  pub around : Interval
  pub fits : fits_days around ≡ true
  pub inside : i ⊆ around

pub correction_close : (w : World) (y : ℤ) (c : Expression) → HasRow y c → IsClose (value w c)
unfolding has_few_days_each has_few_days
correction_close w y c h =
    let r = year_row has_few_days_each y h.row rows_have_few_days h.found in
    let f = holds_at (has_few_days h.row.form h.row.coefficients) (years_of h.row) h.row.first y r.passes r.from
    (year_inside h.row y r.from r.to) in
    record {
      around = ranged (computed_by h.row.form h.row.coefficients y);
      fits = f;
      inside = rw (← h.same) (within_trans (computed_holds w h.row.form h.row.coefficients y)
          (value_ranged w (computed_by h.row.form h.row.coefficients y)));
    }

-- ---- the value of a day's ΔT
not_first : (p q : Bool) → (p || q) ≡ true → p ≡ false → q ≡ true
not_first true q e f = absurd (cc)
not_first false q e f = e

-- the years of days of which a fact may have a value
first_year_fits : int_le (negsuc 9999) (year_of_day FIRST_DAY) ≡ true
unfolding year_of_day first_day
first_year_fits = refl

last_year_fits : int_le (year_of_day LAST_DAY) (pos 10000) ≡ true
unfolding year_of_day first_day
last_year_fits = refl

pub year_small : (d : ℤ) → IsValueDay d → (negsuc 9999 ≤ℤ year_of_day d) × (year_of_day d ≤ℤ pos 10000)
year_small d h =
    let l = year_mono FIRST_DAY d h.0 in
    let u = year_mono d LAST_DAY h.1 in
    let p : true ≡ int_le (negsuc 9999) (year_of_day FIRST_DAY) = sym first_year_fits in
    let q : true ≡ int_le (year_of_day LAST_DAY) (pos 10000) = sym last_year_fits in
    (omega (arith, ints), omega (arith, ints))

floor_fits : (i j : Interval) (v : ℤ) → IsProper i → i ⊆ j → fits j ≡ true → cell_at integers i ≡ Some v
    → (negsuc 9999999 ≤ℤ v) × (v ≤ℤ pos 10000000)
unfolding cell_at cell_of
floor_fits i everything v p h f e = absurd (cc)
floor_fits everything (between c d) v p h f e = absurd h.endpoints
floor_fits (between a b) (between c d) v p h f e =
    let w = when_some (int_eq (floor a) (floor b)) (floor a) v e in
    let k = both (int_le (negsuc 9999999) (floor c)) (int_le (floor d) (pos 10000000)) f in
    let l = floor_mono _ _ h.endpoints.0 in
    let u = floor_mono _ _ (le_trans _ _ _ p h.endpoints.1) in
    let m : true ≡ int_le (negsuc 9999999) (floor c) = sym k.0 in
    let n : true ≡ int_le (floor d) (pos 10000000) = sym k.1 in
    (omega (arith, ints, w.1), omega (arith, ints, w.1))

year_found : (w : World) (d y : ℤ) → outcome (run w (year_of (integer d))) ≡ valued y → y ≡ year_of_day d
unfolding year_of value
year_found w d y e =
    let c = decides w _ years (integer d) (λ q. q) y e in
    let z = year_of_whole d in
    let s : Some c.cell_there ≡ Some (year_of_day d) = sym c.decided_so ∙ z in
    let t : c.cell_there ≡ year_of_day d = cc in
    sym c.leads_to ∙ t

-- ΔT of a value day's year, in milliseconds
value_fits : (d y : ℤ) (c : Expression) (h : HasRow y c) → IsValueDay d → y ≡ year_of_day d
    → fits (ranged (rounded (computed_by h.row.form h.row.coefficients y))) ≡ true
unfolding has_values_each is_value
value_fits d y c h v e =
    let r = year_row has_values_each y h.row rows_have_values h.found in
    let m = year_mono FIRST_DAY d v.0 in
    let l : int_lt h.row.last (year_of_day FIRST_DAY) ≡ false = grind (arith, ints, e, m, r.to) in
    let f = not_first _ _ r.passes l in
    holds_at (is_value h.row.form h.row.coefficients) (years_of h.row) h.row.first y f r.from
    (year_inside h.row y r.from r.to)

-- a value of ΔT lies within 10,000,000 of 0
pub dt_value : (w : World) (d v : ℤ) → IsValueDay d → outcome (run w (dt_of d)) ≡ valued v → (negsuc 9999999 ≤ℤ v)
    × (v ≤ℤ pos 10000000)
unfolding dt_of rounded_of
dt_value w d v k e =
    let y = parts w (year_of (integer d)) _ v e in
    let same = year_found w d y.part y.first in
    let c = parts w (correction_of_year y.part) _ v y.then in
    let h = row_behind w y.part c.part c.first in
    let r = decides w _ integers (rounded c.part) (λ q. q) v c.then in
    let i = rw h.same at (rounded_holds w h.row.form h.row.coefficients y.part) in
    rw r.leads_to at (floor_fits _ _ r.cell_there (value_proper w (rounded c.part)) i
    (value_fits d y.part c.part h k same) r.decided_so)
