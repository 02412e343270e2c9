-- The requests of a sample break no rule.
use Rattle.std.specs.Prelude.{◌≡◌, ℕ, ◌<◌, nat_le, true, [], ◌∷◌, refl, pos, ℤ, ◌+ℤ◌, ◌*ℤ◌, int_le, Ok}
use Rattle.std.proofs.Common.{arith}
use Rattle.std.proofs.lemmas.Bool.Decides.{nat_tests}
use Rattle.std.proofs.lemmas.Int.{ints}
use Rattle.book_model.specs.declared.calendar.Calendar.TheVariants as calendars
use Rattle.book_model.specs.declared.version.TheConstants.{WRITTEN}
use Rattle.book_model.specs.calendars.Dates.{row_of, may_have, is_answered, year_number}
use Rattle.book_model.specs.declared.words.FromWord.TheVariants as from
use Rattle.book_model.specs.declared.words.ToWord.{ToWord}
use Rattle.book_model.specs.declared.words.ToWord.TheVariants as to
use Rattle.book_model.specs.calendars.Versions.{days_in}
use Rattle.book_model.specs.lines.Reach.{reach_of, is_reached}
use Rattle.book_model.specs.lines.Requests.{fields_with, has_words, checked_request}
use Rattle.book_model.proofs.VersionTables.{all_words}
use Rattle.almanac_core.specs.Sample.{day_by, asked_at, sample_line_of, IsSampleDay}
use Rattle.almanac_core.proofs.Samples.{sample_day}

-- a day number is a date
fixed_may : (n : ℕ) → n < 1000000 → may_have calendars.Fixed (fields_with (n ∷ [])) ≡ true
unfolding may_have
fixed_may n high =
    let low : nat_le 0 n ≡ true = grind (arith, nat_tests) in
    let fits : nat_le n 9999999 ≡ true = grind (arith, nat_tests) in
    rw (low, fits) refl

nothing_counted : (z : ℤ) → pos 0 *ℤ z ≡ pos 0
nothing_counted z = omega (arith, ints)

sum_of_nothing : (z : ℤ) → z ≡ pos 0 → pos 0 +ℤ z +ℤ (pos 0 *ℤ pos 0) +ℤ (pos 0 *ℤ pos 0) +ℤ (pos 0 *ℤ pos 0)
    +ℤ (pos 0 *ℤ pos 0) ≡ pos 0
sum_of_nothing z e = rw e refl

-- the number of its year is 0, since a day number has none
fixed_year : (n : ℕ) → year_number (row_of calendars.Fixed) (fields_with (n ∷ [])) ≡ pos 0
unfolding year_number
fixed_year n = sum_of_nothing (pos 0 *ℤ pos n) (nothing_counted (pos n))

-- what any word shows there is of the days of a sample: the last line is checked for each word by itself
shown_before : (to : ToWord) → int_le (reach_of WRITTEN from.Fixed to).0 (pos 657802) ≡ true
shown_before to.Gregorian = refl
shown_before _ = refl

-- a line may name them
pub in_reach : (n : ℕ) (to : ToWord) → IsSampleDay n → is_reached WRITTEN from.Fixed to (pos n) ≡ true
in_reach n to day =
    let low = day.0 in
    let high = day.1 in
    let before = shown_before to in
    let from_first : int_le (reach_of WRITTEN from.Fixed to).0 (pos n) ≡ true = grind (arith, ints, nat_tests, before)
    in
    let to_last : int_le (pos n) (days_in WRITTEN).1 ≡ true = grind (arith, ints, nat_tests) in
    rw (from_first, to_last) refl

fixed_answered : (n : ℕ) (to : ToWord) → IsSampleDay n → is_answered WRITTEN (reach_of WRITTEN from.Fixed to)
    calendars.Fixed (fields_with (n ∷ [])) ≡ true
unfolding is_answered
fixed_answered n to day = rw (fixed_year n, in_reach n to day) refl

-- the request of a state breaks no rule
pub sample_checked : (state index : ℕ) → checked_request WRITTEN (sample_line_of state index) ≡ Ok
    (sample_line_of state index)
unfolding sample_line_of
sample_checked state index =
    let day = sample_day state in
    let words : has_words WRITTEN (sample_line_of state index) ≡ true = all_words (sample_line_of state index) in
    rw (words, fixed_may (day_by state) (omega (arith, day.1)), fixed_answered (day_by state) (asked_at index) day) refl
