-- From where to where moments lie at which a formula has a value: ΔT is known of few years, and is small. A run with a
-- value made the test of the year, whose cell is a year of a row; so the moment lies between the first day of that year
-- and of the next, and by a test over the rows within the table. What is a sum with ΔT lies at most 200 days further
-- out.
use Rattle.std.specs.Prelude.{◌≡◌, int_le, ℤ, pos, negsuc, ◌+ℤ◌, ◌-ℤ◌, ◌&&◌, Some, Bool, true, refl}
use Rattle.std.specs.List.{list_all}
use Rattle.std.proofs.Common.{arith, sym, ◌∙◌}
use Rattle.std.proofs.lemmas.Int.{ints}
use Rattle.std.specs.Ordering.{int_eq}
use Rattle.std.proofs.lemmas.Bool.Decides.{Decides-int_eq}
use Rattle.book_model.specs.Fraction.{whole, is_at_most}
use Rattle.book_model.specs.Interval.{Interval, everything, between, ◌⊆◌}
use Rattle.book_model.proofs.Fractions.{at_most_true}
use Rattle.book_model.proofs.Intervals.{within_trans}
use Rattle.book_model.specs.declared.site.Site.TheVariants.{Year}
use Rattle.book_model.specs.declared.time_tables.TheConstants.{TABLE_START, TABLE_END}
use Rattle.book_model.specs.calendars.Gregorian.{first_day}
use Rattle.book_model.specs.sky.Correction.{Correction, corrections, year_of}
use Rattle.book_model.specs.numbers.Expressions.{Expression, World, value, subtract}
use Rattle.book_model.specs.programs.Programs.{years, cell_of, cell_at, threshold, run, valued, outcome}
use Rattle.book_model.specs.sky.Time.{correction_of_year, correction_at, dynamical_of, from_dynamical_of, centuries_of}
use Rattle.book_model.proofs.Calendars.{first_day_rises}
use Rattle.book_model.proofs.Cells.{cells_cut}
use Rattle.book_model.proofs.CorrectionRows.{both, year_row}
use Rattle.time_scales.proofs.CorrectionRows.{HasRow, row_behind}
use Rattle.time_scales.proofs.CorrectionValues.{IsClose, fits_days, correction_close}
use Rattle.book_model.specs.numbers.Ranges.{IsBetween, IsInTable}
use Rattle.book_model.proofs.Estimates.{wider, difference_between, between_of_within, valued_same}
use Rattle.book_model.proofs.FactRuns.{parts, decides, when_some}

-- ---- values of ΔT
close_between : (i : Interval) → IsClose i → IsBetween (negsuc 199) (pos 200) i
close_between i h = by h.around h.fits h.inside
  where
    by : (j : Interval) → fits_days j ≡ true → i ⊆ j → IsBetween (negsuc 199) (pos 200) i
    by everything f k = absurd (cc)
    by (between a b) f k =
        let t = both (is_at_most (whole (negsuc 199)) a) (is_at_most b (whole (pos 200))) f in
        between_of_within (negsuc 199) (pos 200) i
        (within_trans k (record { endpoints = (at_most_true _ _ t.0, at_most_true _ _ t.1) }))

-- ΔT of a year is at most 200 days
correction_between : (w : World) (y : ℤ) (c : Expression) → HasRow y c → IsBetween (negsuc 199) (pos 200) (value w c)
correction_between w y c h = close_between _ (correction_close w y c h)

-- ---- moments
year_cell : (y : ℤ) (i : Interval) → cell_at years i ≡ Some y → IsBetween (first_day y) (first_day (y +ℤ pos 1)) i
unfolding cell_at threshold
year_cell y everything e = absurd (cc)
year_cell y (between a b) e =
    let w = when_some (int_eq (cell_of years a) (cell_of years b)) (cell_of years a) y e in
    let same : cell_of years b ≡ y = sym ((Decides-int_eq _ _).0 w.0) ∙ w.1 in
    let low = rw w.1 at ((cells_cut years).begun a) in
    let high = rw same at ((cells_cut years).not_over b) in
    (low, record { cross = omega (arith, ints, high.strict) })

-- the years of a row are those of the table
is_of_table : Correction → Bool
is_of_table row = int_le TABLE_START (first_day row.first) && int_le (first_day (row.last +ℤ pos 1)) TABLE_END

rows_of_table : list_all is_of_table corrections ≡ true
unfolding corrections is_of_table first_day
rows_of_table = refl

tabled_cell : (y : ℤ) (c : Expression) (i : Interval) → HasRow y c → IsBetween (first_day y) (first_day (y +ℤ pos 1)) i
    → IsInTable i
unfolding is_of_table
tabled_cell y c i t h =
    let r = year_row is_of_table y t.row rows_of_table t.found in
    let b = both _ _ r.passes in
    let p : true ≡ int_le TABLE_START (first_day t.row.first) = sym b.0 in
    let q : true ≡ int_le (first_day (t.row.last +ℤ pos 1)) TABLE_END = sym b.1 in
    let l = first_day_rises t.row.first y r.from in
    let k = r.to in
    let u = first_day_rises (y +ℤ pos 1) (t.row.last +ℤ pos 1) (omega (arith, ints)) in
    wider (first_day y) (first_day (y +ℤ pos 1)) TABLE_START TABLE_END i (omega (arith, ints)) (omega (arith, ints)) h

-- a moment whose ΔT has a value, and that value
pub corrected_in_table : (w : World) (x c : Expression) → outcome (run w (correction_at x)) ≡ valued c
    → IsInTable (value w x)
    × IsBetween (negsuc 199) (pos 200) (value w c)
unfolding correction_at year_of
corrected_in_table w x c e =
    let y = parts w (year_of x) correction_of_year c e in
    let d = decides w Year years x (λ q. q) y.part y.first in
    let k = rw d.leads_to at d.decided_so in
    let h = row_behind w y.part c y.then in
    (tabled_cell y.part c (value w x) h (year_cell y.part (value w x) k), correction_between w y.part c h)

-- a moment whose centuries have a value
pub dated_in_table : (w : World) (x c : Expression) → outcome (run w (centuries_of x)) ≡ valued c
    → IsInTable (value w x)
unfolding centuries_of dynamical_of
dated_in_table w x c e =
    let d = parts w (dynamical_of x) _ c e in
    let k = parts w (correction_at x) _ d.part d.first in
    (corrected_in_table w x k.part k.first).0

-- the universal time of a moment of dynamical time
pub universal_between : (w : World) (x t : Expression) → outcome (run w (from_dynamical_of x)) ≡ valued t
    → IsBetween (TABLE_START -ℤ pos 200) (TABLE_END +ℤ pos 200) (value w t)
unfolding from_dynamical_of value
universal_between w x t e =
    let k = parts w (correction_at x) _ t e in
    let c = corrected_in_table w x k.part k.first in
    let b = difference_between TABLE_START TABLE_END (negsuc 199) (pos 200) _ _ c.0 c.1 in
    rw (← valued_same w (subtract x k.part) t k.then) (wider _ _ (TABLE_START -ℤ pos 200) (TABLE_END +ℤ pos 200) _
    (omega (arith, ints)) (omega (arith, ints))
    b)
