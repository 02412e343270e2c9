-- The words and the calendars stand in their tables, each where it belongs.
use Rattle.std.proofs.Common.{◌≡◌, ◌≤◌, refl, lit≤, rules}
use Rattle.std.specs.Prelude.{Some, IsTrue}
use Rattle.book_model.specs.declared.calendar.Calendar.{Calendar}
use Rattle.book_model.specs.declared.calendar.Calendar.TheVariants as calendars
use Rattle.book_model.specs.declared.fact.Kind.{Kind}
use Rattle.book_model.specs.declared.fact.Place.{Place}
use Rattle.book_model.specs.declared.words.Meaning.{Meaning}
use Rattle.book_model.specs.declared.words.Meaning.TheVariants.{Date, Value}
use Rattle.book_model.specs.declared.words.FromWord.{FromWord}
use Rattle.book_model.specs.declared.words.FromWord.TheVariants as from
use Rattle.book_model.specs.declared.words.ToWord.{ToWord}
use Rattle.book_model.specs.declared.words.ToWord.TheVariants as to
use Rattle.book_model.specs.calendars.Dates.{row_of}
use Rattle.book_model.specs.sky.Names.{has_place}
use Rattle.book_model.specs.lines.Words.{from_word_of, to_word_of, text_of_from, text_of_to, named_by, shown_by}

-- the word for a value is found as that value: the last line is checked for each value by itself
pub from_found : (w : FromWord) → from_word_of (text_of_from w) ≡ Some w
from_found from.Gregorian = refl
from_found _ = refl

pub to_found : (w : ToWord) → to_word_of (text_of_to w) ≡ Some w
to_found to.Gregorian = refl
to_found _ = refl

-- what a word is about that is no date is the value of facts that there are
abbrev pub IsPlaced : Meaning → Type 0
IsPlaced (Date c) = Unit {0}
IsPlaced (Value kind place) = IsTrue (has_place kind place)

shown_placed : (w : ToWord) → IsPlaced (shown_by w)
shown_placed to.Gregorian = tt
shown_placed _ = search rules

pub value_placed : (w : ToWord) (kind : Kind) (place : Place) → shown_by w ≡ Value kind place
    → IsTrue (has_place kind place)
value_placed w kind place e = rw e at (shown_placed w)

named_placed : (w : FromWord) → IsPlaced (named_by w)
named_placed from.Gregorian = tt
named_placed _ = search rules

pub day_placed : (w : FromWord) (kind : Kind) (place : Place) → named_by w ≡ Value kind place
    → IsTrue (has_place kind place)
day_placed w kind place e = rw e at (named_placed w)

-- the row of a calendar is its own
pub own_row : (c : Calendar) → (row_of c).calendar ≡ c
own_row calendars.Gregorian = refl
own_row _ = refl

-- a date has at most five fields
pub few_fields : (c : Calendar) → (row_of c).count ≤ 5
few_fields calendars.Gregorian = lit≤ tt
few_fields _ = lit≤ tt
