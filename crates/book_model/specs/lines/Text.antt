-- The text that is written for lines and their outcomes.
use Rattle.std.specs.Prelude.{ℕ, ◌+◌, ◌-◌, replicate, if◌then◌else◌, List, [], ◌∷◌, ◌++◌, length, take, slice_index_or}
use Rattle.std.specs.Prelude.{codes, decimal, ℤ, pos}
use Rattle.std.specs.Fmt.{signed_decimal}
use Rattle.std.specs.List.{concat, flat_map, list_any, position_or_len}
use Rattle.book_model.specs.declared.version.Version.{Version}
use Rattle.book_model.specs.declared.version.TheConstants.{WRITTEN}
use Rattle.book_model.specs.declared.site.Site.{Site}
use Rattle.book_model.specs.declared.fact.Fact.{Fact}
use Rattle.book_model.specs.declared.fail.Undecided.{Undecided}
use Rattle.book_model.specs.declared.calendar.Calendar.{Calendar}
use Rattle.book_model.specs.declared.words.ToWord.{ToWord}
use Rattle.book_model.specs.declared.words.Meaning.{Meaning}
use Rattle.book_model.specs.declared.words.Meaning.TheVariants.{Date, Value}
use Rattle.book_model.specs.declared.request.Fields.{Fields}
use Rattle.book_model.specs.declared.request.Request.{Request}
use Rattle.book_model.specs.declared.request.Resolved.{Resolved}
use Rattle.book_model.specs.declared.request.Resolved.TheVariants.{Shown, TooFar, NoDate}
pub use Rattle.book_model.specs.calendars.Inquiries.{with_fact}
use Rattle.book_model.specs.calendars.Inquiries.{fact_eq}
use Rattle.book_model.specs.lines.Lines.{words_of}
use Rattle.book_model.specs.sky.Names.{site_name, kind_name, place_name}
use Rattle.book_model.specs.lines.Outcomes.{LineOutcome, refused, resolved, undecided, void}
use Rattle.book_model.specs.calendars.Dates.{row_of, field}
use Rattle.book_model.specs.calendars.Versions.{header_line}
use Rattle.book_model.specs.lines.Requests.{rule_number}
use Rattle.book_model.specs.lines.Words.{calendar_of, shown_by, text_of_from, text_of_to}

-- the first line of a version's files
abbrev pub header_of : Version → List ℕ
header_of version = header_line version ++ codes "\n"

-- fact N KIND PLACE DAY VALUE
unfoldable pub fact_text : ℕ → Fact → ℤ → List ℕ
fact_text number f value = concat (codes "fact " ∷ decimal number ∷ codes " " ∷ kind_name f.kind ∷ codes " "
    ∷ place_name f.place ∷ codes " " ∷ signed_decimal
    f.day ∷ codes " " ∷ signed_decimal value ∷ codes "\n" ∷ [])

-- the first value of the fields
abbrev pub first_value : Fields → ℤ
first_value f = slice_index_or f.values 0 (pos 0)

-- the decimal digits of a number, with leading zeros up to this many digits
abbrev pub padded : ℕ → ℕ → List ℕ
padded width n = replicate (width - length (decimal n)) 48 ++ decimal n

-- a year of four digits, a month of two and a day of two
unfoldable pub gregorian_text : Fields → List ℕ
gregorian_text f = concat (padded 4 (field f 0) ∷ codes "-" ∷ padded 2 (field f 1) ∷ codes "-" ∷ padded 2 (field f 2)
    ∷ [])

-- a number, after a dash
abbrev pub dash_text : ℤ → List ℕ
dash_text z = codes "-" ++ signed_decimal z

-- numbers with dashes between them
abbrev pub dashed : List ℤ → List ℕ
dashed [] = []
dashed (z ∷ zs) = signed_decimal z ++ flat_map dash_text zs

-- the fields of a date with dashes between them
unfoldable pub dashed_text : Fields → List ℕ
dashed_text f = dashed (take f.count f.values)

-- the text of a date of a calendar
abbrev pub date_text : Calendar → Fields → List ℕ
date_text c date = if (row_of c).is_padded then gregorian_text date else dashed_text date

-- FROM DATE TO, with single spaces
unfoldable pub three_words_text : (from date to : List ℕ) → List ℕ
three_words_text from date to = concat (from ∷ codes " " ∷ date ∷ codes " " ∷ to ∷ [])

-- the line of a request
unfoldable pub line_text : Request → List ℕ
line_text r = three_words_text (text_of_from r.from) (date_text (calendar_of r.from) r.date) (text_of_to r.to)

-- the text of a date or a value that is shown
abbrev pub text_shown : Meaning → Fields → List ℕ
text_shown (Date c) fields = date_text c fields
text_shown (Value kind place) fields = signed_decimal (first_value fields)

abbrev pub shown_as : ToWord → Fields → List ℕ
shown_as to fields = text_shown (shown_by to) fields

-- refused 4 DAY
unfoldable pub too_far_text : ℤ → List ℕ
too_far_text day = codes "refused 4 " ++ signed_decimal day

-- refused 5 BACK
unfoldable pub no_date_text : List ℕ → List ℕ
no_date_text back = codes "refused 5 " ++ back

-- the text of a result, or of why there is none
abbrev pub result_text : Resolved → List ℕ
result_text (Shown to fields) = shown_as to fields
result_text (TooFar day) = too_far_text day
result_text (NoDate back) = no_date_text (dashed_text back)

-- words, each with a space after it
abbrev pub spaced_words : List (List ℕ) → List (List ℕ)
spaced_words [] = []
spaced_words (w ∷ ws) = w ∷ codes " " ∷ spaced_words ws

-- line N FROM DATE TO, and a space, by the three words
unfoldable pub echo_text : ℕ → List (List ℕ) → List ℕ
echo_text number words = concat (codes "line " ∷ decimal number ∷ codes " " ∷ spaced_words words)

abbrev pub number_text : ℕ → List ℕ
number_text n = codes " " ++ decimal n

-- facts A B .., at the end of a line
unfoldable pub facts_text : List ℕ → List ℕ
facts_text numbers = codes " facts" ++ (flat_map number_text numbers ++ codes "\n")

-- line N FROM DATE TO, what it shows, and facts A B ..
abbrev pub listed_text : ℕ → List (List ℕ) → List ℕ → List ℕ → List ℕ
listed_text number words shown numbers = echo_text number words ++ (shown ++ facts_text numbers)

-- line N refused R
unfoldable pub refused_text : ℕ → ℕ → List ℕ
refused_text number rule = concat (codes "line " ∷ decimal number ∷ codes " refused " ∷ decimal rule ∷ codes "\n" ∷ [])

-- N undecided SITE TURN LO HI fact KIND PLACE DAY
unfoldable pub open_text : ℕ → Fact → Undecided → List ℕ
open_text number f u =
    concat (decimal number ∷ codes " undecided " ∷ site_name u.site ∷ codes " " ∷ decimal u.turn ∷ codes " "
    ∷ signed_decimal u.lo ∷ codes " " ∷ signed_decimal
    u.hi
    ∷ codes " fact " ∷ kind_name f.kind ∷ codes " " ∷ place_name f.place ∷ codes " " ∷ signed_decimal f.day ∷ codes "\n"
    ∷ [])

-- N void SITE fact KIND PLACE DAY
unfoldable pub empty_text : ℕ → Fact → Site → List ℕ
empty_text number f s =
    concat (decimal number ∷ codes " void " ∷ site_name s ∷ codes " fact " ∷ kind_name f.kind ∷ codes " "
    ∷ place_name f.place ∷ codes " " ∷ signed_decimal
    f.day ∷ codes "\n" ∷ [])

-- HEAD N undecided SITE TURN LO HI fact KIND PLACE DAY: the head is `line`, or `no` in a verdict
abbrev pub undecided_text : List ℕ → ℕ → Fact → Undecided → List ℕ
undecided_text head number f u = head ++ open_text number f u

-- HEAD N void SITE fact KIND PLACE DAY
abbrev pub void_text : List ℕ → ℕ → Fact → Site → List ℕ
void_text head number f s = head ++ empty_text number f s

-- end lines L facts F
unfoldable pub end_text : ℕ → ℕ → List ℕ
end_text lines facts = concat (codes "end lines " ∷ decimal lines ∷ codes " facts " ∷ decimal facts ∷ codes "\n" ∷ [])

-- the facts printed so far, and these
abbrev pub with_facts : List Fact → List (Fact × ℤ) → List Fact
with_facts seen [] = seen
with_facts seen (e ∷ es) = with_facts (with_fact seen e.0) es

-- those of the facts that aren't printed yet, numbered in order of first use
abbrev pub new_facts_text : List Fact → List (Fact × ℤ) → List ℕ
new_facts_text seen [] = []
new_facts_text seen (e ∷ es) = (if list_any (fact_eq e.0) seen then [] else fact_text (length seen + 1) e.0 e.1)
    ++ new_facts_text (with_fact seen e.0) es

-- each fact's number, by its place among the facts printed so far
abbrev pub numbers_of : List Fact → List (Fact × ℤ) → List ℕ
numbers_of seen [] = []
numbers_of seen (e ∷ es) = (position_or_len (fact_eq e.0) seen + 1) ∷ numbers_of (with_fact seen e.0) es

-- the facts printed after a line
abbrev pub seen_after : List Fact → LineOutcome → List Fact
seen_after seen (refused rule) = seen
seen_after seen (resolved x facts) = with_facts seen facts
seen_after seen (undecided f u) = seen
seen_after seen (void f s) = seen

-- what stands for one line: its new facts, and then the line
abbrev pub block_text : List Fact → ℕ → List ℕ → LineOutcome → List ℕ
block_text seen number line (refused rule) = refused_text number (rule_number rule)
block_text seen number line (resolved x facts) = new_facts_text seen facts ++ listed_text number (words_of line)
    (result_text x) (numbers_of seen facts)
block_text seen number line (undecided f u) = undecided_text (codes "line ") number f u
block_text seen number line (void f s) = void_text (codes "line ") number f s

-- after this many lines with these facts: the other lines, and the end
abbrev pub text_from : List Fact → ℕ → List (List ℕ) → List LineOutcome → List ℕ
text_from seen count [] os = end_text count (length seen)
text_from seen count (line ∷ lines) [] = end_text count (length seen)
text_from seen count (line ∷ lines) (o ∷ os) = block_text seen (count + 1) line o ++ text_from (seen_after seen o)
    (count + 1) lines os

-- the text of lines and their outcomes
abbrev pub text : List (List ℕ) → List LineOutcome → List ℕ
text lines os = header_of WRITTEN ++ text_from [] 0 lines os
