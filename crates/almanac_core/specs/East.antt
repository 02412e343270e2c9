-- The 52 lines of a Gregorian year in the Chinese, the Vietnamese, the Korean and the Japanese calendar, as requests:
-- the four new years, and the dates of the middle of each month.
use Rattle.std.specs.Prelude.{ℕ, ◌+◌, ◌-◌, ◌/◌, ◌%◌, ◌==◌, nat_lt, if◌then◌else◌, List, [], ◌∷◌}
use Rattle.book_model.specs.declared.request.Request.{Request}
use Rattle.book_model.specs.declared.words.FromWord.{FromWord}
use Rattle.book_model.specs.declared.words.FromWord.TheVariants as from
use Rattle.book_model.specs.declared.words.ToWord.{ToWord}
use Rattle.book_model.specs.declared.words.ToWord.TheVariants as to
use Rattle.book_model.specs.lines.Requests.{fields_with}
use Rattle.almanac_core.specs.Almanac.{chinese_day_of, lines_from}

-- the words of the four calendars in their order, from 0 to 3: before a date, and after it
unfoldable pub dated_at : ℕ → FromWord
dated_at index = if index == 0 then from.Chinese
    else (if index == 1 then from.Vietnamese else (if index == 2 then from.Korean else from.Japanese))

unfoldable pub shown_at : ℕ → ToWord
shown_at index = if index == 0 then to.Chinese
    else (if index == 1 then to.Vietnamese else (if index == 2 then to.Korean else to.Japanese))

-- the dates of the 15th of each month in the four calendars, from 0 to 47
unfoldable pub month_middle_of : (year index : ℕ) → Request
month_middle_of year index = record {
  from = from.Gregorian;
  date = fields_with (year ∷ (index / 4 + 1) ∷ 15 ∷ []);
  to = shown_at (index % 4);
}

-- the line of an index, from 1 to 52: first the new years of the four calendars
unfoldable pub east_line_of : (year index : ℕ) → Request
east_line_of year index = if nat_lt index 5 then chinese_day_of (dated_at (index - 1)) year 1 1
    else month_middle_of year (index - 5)

-- the lines of a year
abbrev pub east_requests : ℕ → List Request
east_requests year = lines_from (east_line_of year) 1 52
