-- The line of a request is read as the request. The words of the tables are words of at most 20 bytes, by computing
-- each; the date is the numeral of its numbers (DateSpelling), at most 40 bytes; so the line is short and its three
-- words are read again (SingleSpaces). What remains is the definition's own check of words and date, by cases of
-- whether the version has the words.
use Rattle.std.proofs.Common.{◌≡◌, ◌∙◌, ℕ, ◌≤◌, true, false, List, [], ◌∷◌, length, sym, refl, arith}
use Rattle.std.proofs.lemmas.Bool.Decides.{nat_tests}
use Rattle.std.specs.List.{list_all}
use Rattle.std.specs.Prelude.{Option, None, Some, Err, ◌&&◌, Bool, if◌then◌else◌, nat_le}
use Rattle.book_model.specs.declared.calendar.Calendar.{Calendar}
use Rattle.book_model.specs.declared.calendar.Calendar.TheVariants as calendars
use Rattle.book_model.specs.declared.request.Request.{Request}
use Rattle.book_model.specs.declared.request.Rule.TheVariants as rules
use Rattle.book_model.specs.declared.version.Version.{Version}
use Rattle.book_model.specs.declared.words.FromWord.{FromWord}
use Rattle.book_model.specs.declared.words.FromWord.TheVariants as from
use Rattle.book_model.specs.declared.words.ToWord.{ToWord}
use Rattle.book_model.specs.declared.words.ToWord.TheVariants as to
use Rattle.book_model.specs.calendars.Dates.{row_of}
use Rattle.book_model.specs.calendars.Versions.{has_since, had_in}
use Rattle.book_model.specs.lines.Lines.{words_of}
use Rattle.book_model.specs.lines.Requests.{request_of, checked_request, fields_of, fields_with, checked, ranged_by}
use Rattle.book_model.specs.lines.Requests.{with_date, with_words, is_of_seven_digits, IsSpelled}
use Rattle.book_model.specs.lines.Text.{date_text, line_text, three_words_text}
use Rattle.book_model.specs.lines.Words.{calendar_of, from_since, to_since, from_word_of, to_word_of, text_of_from}
use Rattle.book_model.specs.lines.Words.{text_of_to}
use Rattle.book_model.proofs.WordTables.{from_found, to_found, few_fields}
use Rattle.line_core.proofs.DateSpelling.{IsDate, IsShortWord, dashed_date, gregorian_date, date_numbers, date_word}
use Rattle.line_core.proofs.SingleSpaces.{text_length, text_spaced, asked_words}
use Rattle.line_core.proofs.SpacedWords.{words_read}

-- the words of the tables are words
from_word : (w : FromWord) → IsShortWord 20 (text_of_from w)
from_word from.Gregorian = record { is_word = record { some = omega arith; printed = refl }; short = omega arith }
from_word _ = record { is_word = record { some = omega arith; printed = refl }; short = omega arith }

to_word : (w : ToWord) → IsShortWord 20 (text_of_to w)
to_word to.Gregorian = record { is_word = record { some = omega arith; printed = refl }; short = omega arith }
to_word _ = record { is_word = record { some = omega arith; printed = refl }; short = omega arith }

-- the text of a date is that of its numbers: the last line is checked for each calendar by itself
text_is_date : (c : Calendar) (ns : List ℕ) → length ns ≡ (row_of c).count → list_all is_of_seven_digits ns ≡ true
    → IsDate ns (date_text c (fields_with ns))
text_is_date c [] h small = absurd (no_date c h)
  where
    no_date : (c : Calendar) → 0 ≡ (row_of c).count → ⊥
    no_date calendars.Gregorian h = omega arith
    no_date _ h = omega arith
text_is_date calendars.Gregorian (y ∷ m ∷ d ∷ []) h small = gregorian_date y m d small
text_is_date calendars.Gregorian ns h small = absurd (omega arith)
text_is_date c (n ∷ ns) h small = dashed_date n ns (omega (arith, few_fields c)) small

-- a date is read again
date_read : (c : Calendar) (ns : List ℕ) → length ns ≡ (row_of c).count → list_all is_of_seven_digits ns ≡ true
    → fields_of c (date_text c (fields_with ns))
    ≡ checked c (fields_with ns)
unfolding fields_of
date_read c ns h small = rw (date_numbers ns (date_text c (fields_with ns)) (text_is_date c ns h small)) refl

-- words that are known ask what the request does, or a version hasn't one of them
words_asked : (version : Version) (r : Request) (date : List ℕ) (o : Option FromWord) (p : Option ToWord)
    → o ≡ Some r.from → p ≡ Some r.to
    → fields_of (calendar_of r.from) date ≡ checked (calendar_of r.from) r.date
    → with_words version (had_in version from_since o) date (had_in version to_since p) ≡ checked_request version r
words_asked version r date o p before after again = rw (before, after)
    (by (has_since version (from_since r.from)) (has_since version (to_since r.to)))
  where
    by : (s t : Bool) → with_words version (if s then Some r.from else None) date (if t then Some r.to else None)
        ≡ (if s && t then with_date r.from r.to (ranged_by version r.from r.to (checked (calendar_of r.from) r.date))
        else Err rules.Calendar)
    by true true = rw again refl
    by true false = refl
    by false t = refl

-- the line of a request whose date is these numbers
spelled_read : (version : Version) (r : Request) (ns : List ℕ) → r.date ≡ fields_with ns
    → length ns ≡ (row_of (calendar_of r.from)).count
    → list_all is_of_seven_digits ns ≡ true
    → request_of version (line_text r) ≡ checked_request version r
unfolding line_text
spelled_read version r ns date many small =
    let first = from_word r.from in
    let last = to_word r.to in
    let middle : IsShortWord 40 (date_text (calendar_of r.from) r.date) = rw date
    (date_word ns (date_text (calendar_of r.from) (fields_with ns)) (text_is_date (calendar_of r.from) ns many small)
    (omega (arith, few_fields (calendar_of r.from)))) in
    let size = text_length (text_of_from r.from) (date_text (calendar_of r.from) r.date) (text_of_to r.to) in
    let long : length (three_words_text (text_of_from r.from) (date_text (calendar_of r.from) r.date) (text_of_to r.to))
    ≤ 200 = omega
    (arith, size, first.short, middle.short, last.short) in
    let short : nat_le
    (length (three_words_text (text_of_from r.from) (date_text (calendar_of r.from) r.date) (text_of_to r.to))) 200
    ≡ true = grind (arith, nat_tests) in
    let asked = asked_words version (text_of_from r.from) (date_text (calendar_of r.from) r.date) (text_of_to r.to)
    first.is_word middle.is_word last.is_word
    short in
    let again : fields_of (calendar_of r.from) (date_text (calendar_of r.from) r.date)
    ≡ checked (calendar_of r.from) r.date = rw date (date_read (calendar_of r.from) ns many small) in
    sym asked ∙ words_asked version r (date_text (calendar_of r.from) r.date) (from_word_of (text_of_from r.from))
    (to_word_of (text_of_to r.to))
    (from_found r.from) (to_found r.to) again

pub text_is_read : (version : Version) (r : Request) → IsSpelled r → request_of version (line_text r) ≡ checked_request
    version r
text_is_read version r s = spelled_read version r s.numbers s.date s.many s.short

-- the words of the line of a request whose date is these numbers
spaced_words : (r : Request) (ns : List ℕ) → r.date ≡ fields_with ns → length ns ≡ (row_of (calendar_of r.from)).count
    → list_all is_of_seven_digits ns ≡ true
    → words_of (line_text r) ≡ text_of_from r.from ∷ date_text (calendar_of r.from) r.date ∷ text_of_to r.to ∷ []
unfolding line_text
spaced_words r ns date many small =
    let middle : IsShortWord 40 (date_text (calendar_of r.from) r.date) = rw date
    (date_word ns (date_text (calendar_of r.from) (fields_with ns)) (text_is_date (calendar_of r.from) ns many small)
    (omega (arith, few_fields (calendar_of r.from)))) in
    rw (text_spaced (text_of_from r.from) (date_text (calendar_of r.from) r.date) (text_of_to r.to))
    (words_read (text_of_from r.from) (date_text (calendar_of r.from) r.date ∷ text_of_to r.to ∷ [])
    (from_word r.from).is_word
    (middle.is_word, ((to_word r.to).is_word, tt)))

-- the words of the line of a request
pub line_words : (r : Request) → IsSpelled r → words_of (line_text r) ≡ text_of_from r.from ∷ date_text
    (calendar_of r.from) r.date ∷ text_of_to r.to ∷ []
line_words r s = spaced_words r s.numbers s.date s.many s.short
