-- The rule of a line: the day that it names, and its result.
use Rattle.std.specs.Prelude.{if◌then◌else◌, ℤ}
use Rattle.book_model.specs.declared.fact.Fact.{Fact}
use Rattle.book_model.specs.declared.fact.Kind.{Kind}
use Rattle.book_model.specs.declared.fact.Place.{Place}
use Rattle.book_model.specs.declared.words.ToWord.{ToWord}
use Rattle.book_model.specs.declared.words.Meaning.{Meaning}
use Rattle.book_model.specs.declared.words.Meaning.TheVariants.{Date, Value}
use Rattle.book_model.specs.declared.request.Fields.{Fields}
use Rattle.book_model.specs.declared.request.Request.{Request}
use Rattle.book_model.specs.declared.request.Resolved.{Resolved}
use Rattle.book_model.specs.declared.request.Resolved.TheVariants.{Shown, TooFar, NoDate}
use Rattle.book_model.specs.declared.version.Version.{Version}
use Rattle.book_model.specs.calendars.Dates.{row_of, one_field, are_same_fields, gregorian_day, day_named, date_on}
use Rattle.book_model.specs.calendars.Inquiries.{Inquiry, done, ask, ask_once, and_then}
use Rattle.book_model.specs.lines.Reach.{is_reached}
use Rattle.book_model.specs.lines.Words.{named_by, calendar_of, shown_by}

-- the fact of a kind and a place on a day
abbrev pub fact_on : Kind → Place → ℤ → Fact
fact_on kind place day = record { kind = kind; place = place; day = day }

-- the date of a day, or the value of its fact, as a result
abbrev pub shown_on : ToWord → Meaning → ℤ → Inquiry Resolved
shown_on to (Date c) day = and_then (date_on c day) (λ fields. done (Shown to fields))
shown_on to (Value kind place) day = ask (fact_on kind place day) (λ v. done (Shown to (one_field v)))

-- the result of a day within the range
abbrev pub result_on : ToWord → ℤ → Inquiry Resolved
result_on to day = shown_on to (shown_by to) day

-- the result of a day whose own date is this one; the date given has to be the same
unfoldable pub confirmed : Request → ℤ → Fields → Inquiry Resolved
confirmed r day back = if are_same_fields back r.date then result_on r.to day else done (NoDate back)

-- the result of a day within the range that a date names; some calendars have dates that no day has
unfoldable pub result_within : Request → ℤ → Inquiry Resolved
result_within r day = if (row_of (calendar_of r.from)).is_confirmed then and_then (date_on (calendar_of r.from) day)
    (confirmed r day) else result_on r.to day

-- the result of a day that a date names, in lines of a version
unfoldable pub result_of_day : Version → Request → ℤ → Inquiry Resolved
result_of_day version r day = if is_reached version r.from r.to day then result_within r day else done (TooFar day)

-- the day (R.D.) that a date names, by what a word names: in a calendar, or by the fact of its Gregorian day
abbrev pub day_by : Meaning → Fields → Inquiry ℤ
day_by (Date c) date = day_named c date
day_by (Value kind place) date = ask_once (fact_on kind place (gregorian_day date))

-- the rule of a line of a version
unfoldable pub rule_of : Version → Request → Inquiry Resolved
rule_of version r = and_then (day_by (named_by r.from) r.date) (result_of_day version r)
