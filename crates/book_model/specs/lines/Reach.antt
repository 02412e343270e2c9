-- The days that a line may name: those of its version of which its calendars tell the dates.
use Rattle.std.specs.Prelude.{Bool, if◌then◌else◌, ℤ, pos, int_le}
use Rattle.book_model.specs.declared.version.Version.{Version}
use Rattle.book_model.specs.declared.words.FromWord.{FromWord}
use Rattle.book_model.specs.declared.words.Meaning.{Meaning}
use Rattle.book_model.specs.declared.words.Meaning.TheVariants.{Date, Value}
use Rattle.book_model.specs.declared.words.ToWord.{ToWord}
use Rattle.book_model.specs.calendars.Dates.{row_of}
use Rattle.book_model.specs.calendars.Versions.{days_in}
use Rattle.book_model.specs.lines.Words.{named_by, shown_by}
use Rattle.book_model.specs.sky.Correction.{is_between}

-- the later of two days
abbrev pub later : ℤ → ℤ → ℤ
later a b = if int_le a b then b else a

-- the first day for which what a word is about exists: the first day that a calendar tells, for a date; any, for the
-- value of a fact
abbrev pub first_day_of : Meaning → ℤ
first_day_of (Date c) = (row_of c).first_day
first_day_of (Value kind place) = pos 0

-- the first and the last day that a line of a version may name, by the words before and after its date
abbrev pub reach_of : Version → FromWord → ToWord → ℤ × ℤ
reach_of version from to =
    (later (days_in version).0 (later (first_day_of (named_by from)) (first_day_of (shown_by to))), (days_in version).1)

-- the days that it may name
abbrev pub is_reached : Version → FromWord → ToWord → ℤ → Bool
is_reached version from to day = is_between (reach_of version from to).0 (reach_of version from to).1 day
