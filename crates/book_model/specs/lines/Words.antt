-- The words of a line, by their tables.
use Rattle.std.specs.Prelude.{ℕ, nat_eq, Bool, true, not, ◌&&◌, List, [], ◌∷◌, map, slice_index_or, Option}
use Rattle.std.specs.List.{list_any}
use denote.Enum.Declared.{tag_of}
use lib.Pointwise.{pointwise}
use Rattle.book_model.specs.contracts.words.FromWord.{the_type as from_type}
use Rattle.book_model.specs.contracts.words.ToWord.{the_type as to_type}
use Rattle.book_model.specs.declared.calendar.Calendar.{Calendar}
use Rattle.book_model.specs.declared.calendar.Calendar.TheVariants.{Gregorian}
use Rattle.book_model.specs.declared.words.FromWord.{FromWord}
use Rattle.book_model.specs.declared.words.Meaning.{Meaning}
use Rattle.book_model.specs.declared.words.Meaning.TheVariants.{Date, Value}
use Rattle.book_model.specs.declared.words.ToWord.{ToWord}
use Rattle.book_model.specs.declared.words.TheConstants.{FROM_WORDS, TO_WORDS}
use Rattle.book_model.specs.declared.version.Version.{Version}
use Rattle.book_model.specs.declared.version.Version.TheVariants.{One}
use Rattle.book_model.specs.calendars.Versions.{had_in}
use Rattle.book_model.specs.sky.Names.{first_named}

-- no word of a table stands in it twice
abbrev pub are_distinct_words : List (List ℕ) → Bool
are_distinct_words [] = true
are_distinct_words (word ∷ words) = not (list_any (pointwise nat_eq word) words) && are_distinct_words words

abbrev pub from_words : List (FromWord × List ℕ)
from_words = map (λ row. (row.0, row.1.now)) FROM_WORDS

abbrev pub to_words : List (ToWord × List ℕ)
to_words = map (λ row. (row.0, row.1.now)) TO_WORDS

-- the first version of certificates that has a word
abbrev pub from_since : FromWord → Version
from_since from = slice_index_or (map (λ row. row.2.1) FROM_WORDS) (tag_of from_type from) One

abbrev pub to_since : ToWord → Version
to_since to = slice_index_or (map (λ row. row.2.1) TO_WORDS) (tag_of to_type to) One

-- what a word before a date stands for
abbrev pub from_word_of : List ℕ → Option FromWord
from_word_of word = first_named from_words word

-- what a word after a date asks for
abbrev pub to_word_of : List ℕ → Option ToWord
to_word_of word = first_named to_words word

-- the same, where a version has the word
abbrev pub from_word_in : Version → List ℕ → Option FromWord
from_word_in version word = had_in version from_since (from_word_of word)

abbrev pub to_word_in : Version → List ℕ → Option ToWord
to_word_in version word = had_in version to_since (to_word_of word)

-- the word for a value
abbrev pub text_of_from : FromWord → List ℕ
text_of_from from = slice_index_or (map (λ row. row.1.now) FROM_WORDS) (tag_of from_type from) []

abbrev pub text_of_to : ToWord → List ℕ
text_of_to to = slice_index_or (map (λ row. row.1.now) TO_WORDS) (tag_of to_type to) []

-- what a word names by the date that follows it
abbrev pub named_by : FromWord → Meaning
named_by from = slice_index_or (map (λ row. row.2.0) FROM_WORDS) (tag_of from_type from) (Date Gregorian)

-- the calendar of the date that follows a word: that of a fact's day is the Gregorian
abbrev pub calendar_in : Meaning → Calendar
calendar_in (Date c) = c
calendar_in (Value kind place) = Gregorian

abbrev pub calendar_of : FromWord → Calendar
calendar_of from = calendar_in (named_by from)

-- what a word shows of a day
abbrev pub shown_by : ToWord → Meaning
shown_by to = slice_index_or (map (λ row. row.2.0) TO_WORDS) (tag_of to_type to) (Date Gregorian)
