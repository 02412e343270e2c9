-- The days that a line of the written version may name: the calendars of its words tell their dates, and facts may be
-- asked of them. The bounds of the version are computed once (IsWrittenDay), and each condition of a call above follows
-- from them and from the first day of a word by arithmetic, by cases of what the word means, with no case for a
-- calendar.
use Rattle.std.proofs.Common.{◌≡◌, arith}
use Rattle.std.proofs.lemmas.Int.{ints}
use Rattle.std.specs.Prelude.{IsTrue, ℤ, pos, ◌≤ℤ◌}
use Rattle.book_model.specs.declared.calendar.TheConstants.{LAST_DATE_DAY}
use Rattle.book_model.specs.declared.version.Version.{Version}
use Rattle.book_model.specs.declared.version.TheConstants.{WRITTEN}
use Rattle.book_model.specs.declared.words.FromWord.{FromWord}
use Rattle.book_model.specs.declared.words.Meaning.{Meaning}
use Rattle.book_model.specs.declared.words.Meaning.TheVariants.{Date, Value}
use Rattle.book_model.specs.declared.words.ToWord.{ToWord}
use Rattle.book_model.specs.declared.request.Fields.{Fields}
use Rattle.book_model.specs.declared.calendar.Calendar.{Calendar}
use Rattle.book_model.specs.declared.calendar.Calendar.TheVariants.{Gregorian}
use Rattle.book_model.specs.calendars.Dates.{gregorian_day, may_have, is_answered, IsAskable, IsDateDay}
use Rattle.book_model.specs.calendars.Versions.{days_in}
use Rattle.book_model.specs.lines.Reach.{first_day_of, reach_of, is_reached}
use Rattle.book_model.specs.lines.Words.{calendar_in, calendar_of, named_by, shown_by}
use Rattle.book_model.specs.sky.Facts.{IsFactDay}
use Rattle.book_model.proofs.CorrectionRows.{lies}
use Rattle.book_model.proofs.VersionTables.{answered_day, askable, later_days, reached_day, told_from}
use Rattle.line_core.specs.Days.{IsTold}

-- a day of the written version
pub record IsWrittenDay (day : ℤ) : Type 0 where
  pub from : pos 1 ≤ℤ day
  pub to : day ≤ℤ LAST_DATE_DAY

written_day : (from : FromWord) (to : ToWord) (day : ℤ) → IsTrue (is_reached WRITTEN from to day) → IsWrittenDay day
written_day from to day h =
    let l = lies (days_in WRITTEN).0 (days_in WRITTEN).1 day (reached_day WRITTEN from to day h) in
    record { from = omega (arith, ints, l.0); to = omega (arith, ints, l.1) }

-- facts may be asked of it
written_fact : (day : ℤ) → IsWrittenDay day → IsFactDay day
written_fact day w = (omega (arith, ints, w.from), omega (arith, ints, w.to))

-- from the first day on of which there is what a word is about, there is that
told_by : (m : Meaning) (day : ℤ) → IsWrittenDay day → first_day_of m ≤ℤ day → IsTold m day
told_by (Date c) day w h = (h, w.to)
told_by (Value kind place) day w h = written_fact day w

-- of a day that a line may name there is what its last word shows
pub shown_told : (from : FromWord) (to : ToWord) (day : ℤ) → IsTrue (is_reached WRITTEN from to day)
    → IsTold (shown_by to) day
shown_told from to day h = told_by (shown_by to) day (written_day from to day h) (told_from WRITTEN from to day h).1

-- what a word names days by tells the date of a day from the first one on
told_in : (m : Meaning) (day : ℤ) → IsWrittenDay day → first_day_of m ≤ℤ day → IsDateDay (calendar_in m) day
told_in (Date c) day w h = (h, w.to)
told_in (Value kind place) day w h = (w.from, w.to)

-- of a day that a line may name the calendar of its first word tells the date
pub named_told : (from : FromWord) (to : ToWord) (day : ℤ) → IsTrue (is_reached WRITTEN from to day)
    → IsDateDay (calendar_of from) day
named_told from to day h = told_in (named_by from) day (written_day from to day h) (told_from WRITTEN from to day h).0

-- a date that a line answers is one that its calendar may be asked the day of
pub asked_date : (version : Version) (reach : ℤ × ℤ) (c d : Calendar) (f : Fields) → d ≡ c → IsTrue (may_have d f)
    → IsTrue (is_answered version reach d f)
    → IsAskable c f
asked_date version reach c d f same possible h = askable version reach c f (rw same at possible) (rw same at h)

-- facts may be asked of the day of a Gregorian date that a line answers
pub asked_day : (version : Version) (from : FromWord) (to : ToWord) (c : Calendar) (f : Fields) → c ≡ Gregorian
    → IsTrue (is_answered version (reach_of version from to) c f) → IsFactDay (gregorian_day f)
asked_day version from to c f same h =
    let near = answered_day version (reach_of version from to) f (rw same at h) in
    written_fact (gregorian_day f)
    (written_day from to (gregorian_day f) (later_days version from to (gregorian_day f) near))
