-- Lines can spell the requests of almanacs, of years in the eastern calendars and of samples.
use Rattle.std.specs.Prelude.{◌≡◌, ℕ, zero, suc, ◌+◌, ◌-◌, ◌/◌, ◌%◌, ◌<◌, ◌≤◌, ◌==◌, Bool, true, false, if◌then◌else◌}
use Rattle.std.specs.Prelude.{[], ◌∷◌, nat_lt, refl, ◌-ℤ◌}
use Rattle.std.proofs.Common.{arith}
use Rattle.std.proofs.lemmas.Bool.Decides.{nat_tests}
use Rattle.std.proofs.lemmas.Int.{ints}
use Rattle.book_model.specs.declared.calendar_tables.TheConstants.{ISLAMIC_EPOCH}
use Rattle.book_model.specs.declared.request.Request.{Request}
use Rattle.book_model.specs.declared.version.TheConstants.{LAST_ALMANAC_YEAR}
use Rattle.book_model.specs.declared.words.FromWord.{FromWord}
use Rattle.book_model.specs.declared.words.FromWord.TheVariants as from
use Rattle.book_model.specs.calendars.Dates.{row_of}
use Rattle.book_model.specs.calendars.Gregorian.{fixed_of}
use Rattle.book_model.specs.calendars.Versions.{IsAlmanacYear}
use Rattle.book_model.specs.lines.Requests.{fields_with, is_of_seven_digits, IsSpelled, AreSpelled}
use Rattle.book_model.specs.lines.Words.{calendar_of}
use Rattle.almanac_core.specs.Almanac.{chinese_day_of, bahai_new_year_of, festival_of, months_to, islamic_month_after}
use Rattle.almanac_core.specs.Almanac.{term_of, phase_word, month_phase_of, month_sunset_of, almanac_line_of}
use Rattle.almanac_core.specs.Almanac.{lines_from, almanac_requests}
use Rattle.almanac_core.specs.East.{dated_at, month_middle_of, east_line_of, east_requests}
use Rattle.almanac_core.specs.Sample.{state_after, day_by, sample_line_of, sample_from, sample_requests}
use Rattle.almanac_core.proofs.Samples.{sample_day}
use Rattle.almanac_core.proofs.Years.{january_from, january_to, months_from, months_few}

-- ---- dates of one, three and five numbers

one_spelled : (r : Request) (a : ℕ) → r.date ≡ fields_with (a ∷ []) → (row_of (calendar_of r.from)).count ≡ 1
    → a < 10000000 → IsSpelled r
one_spelled r a date many h = record {
  numbers = a ∷ [];
  date = date;
  many = omega (arith, many);
  short = grind (arith, nat_tests);
}

three_spelled : (r : Request) (a b c : ℕ) → r.date ≡ fields_with (a ∷ b ∷ c ∷ [])
    → (row_of (calendar_of r.from)).count ≡ 3 → a < 10000000 → b < 10000000
    → c < 10000000 → IsSpelled r
three_spelled r a b c date many h k l =
    let first : is_of_seven_digits a ≡ true = grind (arith, nat_tests) in
    let second : is_of_seven_digits b ≡ true = grind (arith, nat_tests) in
    let third : is_of_seven_digits c ≡ true = grind (arith, nat_tests) in
    record { numbers = a ∷ b ∷ c ∷ []; date = date; many = omega (arith, many); short = rw (first, second, third) refl }

five_spelled : (r : Request) (a b c d e : ℕ) → r.date ≡ fields_with (a ∷ b ∷ c ∷ d ∷ e ∷ [])
    → (row_of (calendar_of r.from)).count ≡ 5
    → a < 10000000 → b < 10000000 → c < 10000000 → d < 10000000 → e < 10000000 → IsSpelled r
five_spelled r a b c d e date many h k l m n =
    let first : is_of_seven_digits a ≡ true = grind (arith, nat_tests) in
    let second : is_of_seven_digits b ≡ true = grind (arith, nat_tests) in
    let third : is_of_seven_digits c ≡ true = grind (arith, nat_tests) in
    let fourth : is_of_seven_digits d ≡ true = grind (arith, nat_tests) in
    let fifth : is_of_seven_digits e ≡ true = grind (arith, nat_tests) in
    record {
      numbers = a ∷ b ∷ c ∷ d ∷ e ∷ [];
      date = date;
      many = omega (arith, many);
      short = rw (first, second, third, fourth, fifth) refl;
    }

-- one of two requests
chosen : (t : Bool) (r s : Request) → (t ≡ true → IsSpelled r) → (t ≡ false → IsSpelled s)
    → IsSpelled (if t then r else s)
chosen true r s h k = h refl
chosen false r s h k = k refl

-- ---- the lines of an almanac

chinese_spelled : (word : FromWord) (year month day : ℕ) → (row_of (calendar_of word)).count ≡ 5
    → year ≤ LAST_ALMANAC_YEAR → month < 13 → day < 31
    → IsSpelled (chinese_day_of word year month day)
unfolding chinese_day_of
chinese_spelled word year month day five h k l =
    five_spelled _ ((year + 2636) / 60 + 1) ((year + 2636) % 60 + 1) month 0 day refl five (omega arith) (omega arith)
    (omega arith) (omega arith) (omega arith)

bahai_spelled : (year : ℕ) → year ≤ LAST_ALMANAC_YEAR → IsSpelled (bahai_new_year_of year)
unfolding bahai_new_year_of
bahai_spelled year h =
    five_spelled _ ((year - 1483) / 361) ((year - 1483) % 361 / 19 + 1) ((year - 1483) % 19 + 1) 1 1 refl refl
    (omega arith) (omega arith) (omega arith)
    (omega arith) (omega arith)

festival_spelled : (year index : ℕ) → year ≤ LAST_ALMANAC_YEAR → IsSpelled (festival_of year index)
unfolding festival_of
festival_spelled year index h =
    chosen (index == 1) _ _ (λ e. chinese_spelled from.Chinese year 1 1 refl h (omega arith) (omega arith)) (λ e.
    chosen (index == 2) _ _ (λ e. chinese_spelled from.Chinese year 5 5 refl h (omega arith) (omega arith)) (λ e.
    chosen (index == 3) _ _ (λ e. three_spelled _ year 3 30 refl refl (omega arith) (omega arith) (omega arith)) (λ e.
    chosen (index == 4) _ _ (λ e. three_spelled _ (year - 621) 1 1 refl refl (omega arith) (omega arith) (omega arith))
    (λ e.
    chosen (index == 5) _ _ (λ e. bahai_spelled year h) (λ e.
    chosen (index == 6) _ _ (λ e. three_spelled _ (year - 78) 1 1 refl refl (omega arith) (omega arith) (omega arith))
    (λ e.
    five_spelled _ (year + 57) 1 0 1 0 refl refl (omega arith) (omega arith) (omega arith) (omega arith)
    (omega arith)))))))

months_small : (year : ℕ) → IsAlmanacYear year → months_to year ≤ 21000
unfolding months_to
months_small year h =
    let low = january_from year h.0 in
    let high = january_to year h.1 in
    let from = months_from (fixed_of year 1 1 -ℤ ISLAMIC_EPOCH) (omega (arith, ints, low)) in
    let few = months_few (fixed_of year 1 1 -ℤ ISLAMIC_EPOCH) (omega (arith, ints, high)) in
    omega (arith, ints, from, few)

month_spelled : (passed : ℕ) → passed ≤ 21100 → IsSpelled (islamic_month_after passed)
unfolding islamic_month_after
month_spelled passed h = three_spelled _ (passed / 12 + 1) (passed % 12 + 1) 1 refl refl (omega arith) (omega arith)
    (omega arith)

term_spelled : (year index : ℕ) → year ≤ LAST_ALMANAC_YEAR → index ≤ 24 → IsSpelled (term_of year index)
unfolding term_of
term_spelled year index h k =
    chosen (index % 2 == 0) _ _ (λ e. three_spelled _ year (index / 2 + 1) 1 refl refl (omega arith) (omega arith)
    (omega arith))
    (λ e. three_spelled _ year (index / 2 + 1) 15 refl refl (omega arith) (omega arith) (omega arith))

phase_count : (index : ℕ) → (row_of (calendar_of (phase_word index))).count ≡ 3
unfolding phase_word
phase_count index = by (index == 0) (index == 1) (index == 2)
  where
    by : (s t u : Bool) → (row_of (calendar_of (if s then from.NewMoon else
        (if t then from.FirstQuarter else (if u then from.FullMoon else from.LastQuarter))))).count ≡ 3
    by true t u = refl
    by false true u = refl
    by false false true = refl
    by false false false = refl

phase_spelled : (year index : ℕ) → year ≤ LAST_ALMANAC_YEAR → index ≤ 48 → IsSpelled (month_phase_of year index)
unfolding month_phase_of
phase_spelled year index h k = three_spelled _ year (index / 4 + 1) 28 refl (phase_count (index % 4)) (omega arith)
    (omega arith) (omega arith)

sunset_spelled : (year month : ℕ) → year ≤ LAST_ALMANAC_YEAR → month ≤ 13 → IsSpelled (month_sunset_of year month)
unfolding month_sunset_of
sunset_spelled year month h k = three_spelled _ year month 1 refl refl (omega arith) (omega arith) (omega arith)

line_spelled : (year index : ℕ) → IsAlmanacYear year → index ≤ 104 → IsSpelled (almanac_line_of year index)
unfolding almanac_line_of
line_spelled year index h k =
    let few = months_small year h in
    let last = h.1 in
    chosen (nat_lt index 8) _ _ (λ e. festival_spelled year index last) (λ e.
    chosen (nat_lt index 21) _ _ (λ f. month_spelled (months_to year + (index - 8)) (grind (arith, nat_tests))) (λ e.
    chosen (nat_lt index 45) _ _ (λ f. term_spelled year (index - 21) last (grind (arith, nat_tests))) (λ e.
    chosen (nat_lt index 93) _ _ (λ f. phase_spelled year (index - 45) last (grind (arith, nat_tests))) (λ e.
    sunset_spelled year (index - 92) last (omega arith)))))

-- as each line up to the last is, so are so many lines
lines_spelled : (line : ℕ → Request) (last : ℕ) → ((index : ℕ) → index ≤ last → IsSpelled (line index))
    → (many index : ℕ) → index + many ≤ last + 1
    → AreSpelled (lines_from line index many)
lines_spelled line last each zero index k = tt
lines_spelled line last each (suc many) index k =
    (each index (omega arith), lines_spelled line last each many (index + 1) (omega arith))

pub almanac_spelled : (year : ℕ) → IsAlmanacYear year → AreSpelled (almanac_requests year)
almanac_spelled year h = lines_spelled (almanac_line_of year) 104 (λ index. line_spelled year index h) 104 1
    (omega arith)

-- ---- the lines of a year in the eastern calendars

dated_count : (index : ℕ) → (row_of (calendar_of (dated_at index))).count ≡ 5
unfolding dated_at
dated_count index = by (index == 0) (index == 1) (index == 2)
  where
    by : (s t u : Bool) → (row_of (calendar_of (if s then from.Chinese else
        (if t then from.Vietnamese else (if u then from.Korean else from.Japanese))))).count ≡ 5
    by true t u = refl
    by false true u = refl
    by false false true = refl
    by false false false = refl

middle_spelled : (year index : ℕ) → year ≤ LAST_ALMANAC_YEAR → index ≤ 48 → IsSpelled (month_middle_of year index)
unfolding month_middle_of
middle_spelled year index h k = three_spelled _ year (index / 4 + 1) 15 refl refl (omega arith) (omega arith)
    (omega arith)

eastern_spelled : (year index : ℕ) → year ≤ LAST_ALMANAC_YEAR → index ≤ 52 → IsSpelled (east_line_of year index)
unfolding east_line_of
eastern_spelled year index h k =
    chosen (nat_lt index 5) _ _ (λ e. chinese_spelled (dated_at (index - 1)) year 1 1 (dated_count (index - 1)) h
    (omega arith) (omega arith))
    (λ e. middle_spelled year (index - 5) h (omega arith))

pub east_spelled : (year : ℕ) → IsAlmanacYear year → AreSpelled (east_requests year)
east_spelled year h = lines_spelled (east_line_of year) 52 (λ index. eastern_spelled year index h.1) 52 1 (omega arith)

-- ---- the lines of a sample

state_spelled : (state index : ℕ) → IsSpelled (sample_line_of state index)
unfolding sample_line_of
state_spelled state index = one_spelled _ (day_by state) refl refl (omega (arith, (sample_day state).1))

states_spelled : (many state index : ℕ) → AreSpelled (sample_from state index many)
states_spelled zero state index = tt
states_spelled (suc many) state index =
    (state_spelled (state_after state) index, states_spelled many (state_after state) (index + 1))

pub sample_spelled : (count seed : ℕ) → AreSpelled (sample_requests count seed)
sample_spelled count seed = states_spelled count seed 0
