-- What a line asks, and the first rule that it breaks.
use Rattle.std.specs.Prelude.{◌≡◌, ℕ, ◌&&◌, nat_le, nat_lt, if◌then◌else◌, Bool, true, List, [], ◌∷◌, length}
use Rattle.std.specs.Prelude.{slice_index_or, pos, ℤ, Some, None, Option, Result, Ok, Err}
use Rattle.std.specs.List.{list_all}
use Rattle.book_model.specs.declared.calendar.Calendar.{Calendar}
use Rattle.book_model.specs.declared.words.FromWord.{FromWord}
use Rattle.book_model.specs.declared.words.ToWord.{ToWord}
use Rattle.book_model.specs.declared.request.Fields.{Fields}
use Rattle.book_model.specs.declared.request.Request.{Request}
use Rattle.book_model.specs.declared.request.Rule.{Rule}
use Rattle.book_model.specs.declared.request.Rule.TheVariants as rules
use Rattle.book_model.specs.declared.request.Rule.TheVariants.{Syntax, Field, Range}
use Rattle.book_model.specs.declared.version.Version.{Version}
use Rattle.book_model.specs.calendars.Dates.{row_of, may_have, is_answered}
use Rattle.book_model.specs.lines.Lines.{is_plain, words_of, parts_of, number_of}
use Rattle.book_model.specs.calendars.Versions.{has_since}
use Rattle.book_model.specs.lines.Reach.{reach_of}
use Rattle.book_model.specs.lines.Words.{from_since, to_since, from_word_in, to_word_in, calendar_of}

-- the number of a rule
abbrev pub rule_number : Rule → ℕ
rule_number Syntax = 1
rule_number rules.Calendar = 2
rule_number Field = 3
rule_number Range = 4

-- a number, and then those that follow, where there are all
abbrev pub onto_numbers : Option ℕ → Option (List ℕ) → Option (List ℕ)
onto_numbers None ns = None
onto_numbers (Some n) None = None
onto_numbers (Some n) (Some ns) = Some (n ∷ ns)

-- the numbers that the parts of a date are
abbrev pub numbers_of : List (List ℕ) → Option (List ℕ)
numbers_of [] = Some []
numbers_of (part ∷ parts) = onto_numbers (number_of part) (numbers_of parts)

-- numbers as the fields of a date, up to five
abbrev pub fields_with : List ℕ → Fields
fields_with ns = record {
  count = length ns;
  values = pos (slice_index_or ns 0 0) ∷ pos (slice_index_or ns 1 0) ∷ pos (slice_index_or ns 2 0) ∷ pos
      (slice_index_or ns 3 0) ∷ pos (slice_index_or ns 4 0) ∷ [];
}

-- a number of at most seven digits
abbrev pub is_of_seven_digits : ℕ → Bool
is_of_seven_digits n = nat_lt n 10000000

-- a line can spell the request: its date is as many numbers as the dates of its calendar have, each of at most seven
-- digits
pub record IsSpelled (r : Request) : Type 0 where
  pub numbers : List ℕ
  pub date : r.date ≡ fields_with numbers
  pub many : length numbers ≡ (row_of (calendar_of r.from)).count
  pub short : list_all is_of_seven_digits numbers ≡ true

-- lines can spell each of the requests
abbrev pub AreSpelled : List Request → Type 0
AreSpelled [] = Unit {0}
AreSpelled (r ∷ rs) = IsSpelled r × AreSpelled rs

-- the fields, where the calendar may have a date with them
abbrev pub checked : Calendar → Fields → Option Fields
checked c f = if may_have c f then Some f else None

abbrev pub checked_numbers : Calendar → Option (List ℕ) → Option Fields
checked_numbers c None = None
checked_numbers c (Some ns) = checked c (fields_with ns)

-- the fields of a date of a calendar: the numbers between its dashes
unfoldable pub fields_of : Calendar → List ℕ → Option Fields
fields_of c date = checked_numbers c (numbers_of (parts_of date))

-- the calendar of a request may have its date
abbrev pub is_possible : Request → Bool
is_possible r = may_have (calendar_of r.from) r.date

-- the date of a request is one that a version answers, as far as that can be told without any fact
abbrev pub is_in_reach : Version → Request → Bool
is_in_reach version r = is_answered version (reach_of version r.from r.to) (calendar_of r.from) r.date

-- the date of a calendar, where it is one that a line of a version answers, which may name these days
abbrev pub ranged : Version → ℤ × ℤ → Calendar → Option Fields → Result Fields Rule
ranged version reach c None = Err Field
ranged version reach c (Some f) = if is_answered version reach c f then Ok f else Err Range

-- the date of a line with these words, where it is one that the line answers
abbrev pub ranged_by : Version → FromWord → ToWord → Option Fields → Result Fields Rule
ranged_by version from to date = ranged version (reach_of version from to) (calendar_of from) date

-- the request for a date
abbrev pub with_date : FromWord → ToWord → Result Fields Rule → Result Request Rule
with_date from to (Err rule) = Err rule
with_date from to (Ok fields) = Ok (record { from = from; date = fields; to = to })

-- a version has the words of a request
abbrev pub has_words : Version → Request → Bool
has_words version r = has_since version (from_since r.from) && has_since version (to_since r.to)

-- the request itself, where a version has its words, its calendar may have its date, and the version answers it
abbrev pub checked_request : Version → Request → Result Request Rule
checked_request version r =
    if has_words version r then with_date r.from r.to
    (ranged_by version r.from r.to (checked (calendar_of r.from) r.date)) else Err rules.Calendar

abbrev pub with_words : Version → Option FromWord → List ℕ → Option ToWord → Result Request Rule
with_words version None date to = Err rules.Calendar
with_words version (Some from) date None = Err rules.Calendar
with_words version (Some from) date (Some to) =
    with_date from to (ranged_by version from to (fields_of (calendar_of from) date))

-- the request of three words, by a version's rules
abbrev pub asked_by : Version → List (List ℕ) → Result Request Rule
asked_by version [] = Err Syntax
asked_by version (from ∷ []) = Err Syntax
asked_by version (from ∷ date ∷ []) = Err Syntax
asked_by version (from ∷ date ∷ to ∷ []) = with_words version (from_word_in version from) date (to_word_in version to)
asked_by version (from ∷ date ∷ to ∷ more ∷ words) = Err Syntax

-- what a line asks, or the first rule of a version that it breaks
unfoldable pub request_of : Version → List ℕ → Result Request Rule
request_of version line = if nat_le (length line) 200 && list_all is_plain line then asked_by version (words_of line)
    else Err Syntax
