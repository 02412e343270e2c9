-- The lines that rows stand for.
use Rattle.std.specs.Prelude.{ℕ, List, [], ◌++◌, map, codes, decimal, slice_index_or}
use Rattle.book_model.specs.lines.Requests.{AreSpelled}
use Rattle.book_model.specs.declared.request.Request.{Request}
use Rattle.book_model.specs.lines.Text.{date_text, line_text}
use Rattle.book_model.specs.lines.Words.{calendar_of, text_of_from, text_of_to}
use Rattle.conversion.specs.declared.rows.Rows.{Rows}
use Rattle.conversion.specs.declared.rows.Rows.TheVariants.{Lines, Made}

abbrev pub lines_in : Rows → List (List ℕ)
lines_in (Lines lines) = map (λ line. line.now) lines.items
lines_in (Made requests) = map line_text requests.items

-- the line of a row, by its place
abbrev pub line_at : Rows → ℕ → List ℕ
line_at rows index = slice_index_or (lines_in rows) index []

-- lines can spell the requests that the program made
abbrev pub AreSpelledRows : Rows → Type 0
AreSpelledRows (Lines lines) = Unit {0}
AreSpelledRows (Made requests) = AreSpelled requests.items

-- a word, with a space behind
abbrev pub spaced : List ℕ → List ℕ
spaced word = word ++ codes " "

-- line N FROM, up to the date
abbrev pub echo_prefix : ℕ → List ℕ → List ℕ
echo_prefix number from = codes "line " ++ (spaced (decimal number) ++ spaced from)

-- TO, behind the date
abbrev pub echo_end : List ℕ → List ℕ
echo_end to = codes " " ++ spaced to

-- line N FROM DATE TO, with a space behind
abbrev pub words_echo : (number : ℕ) (from date to : List ℕ) → List ℕ
words_echo number from date to = echo_prefix number from ++ (date ++ echo_end to)

-- the same of a request
abbrev pub request_echo : ℕ → Request → List ℕ
request_echo number r = words_echo number (text_of_from r.from) (date_text (calendar_of r.from) r.date)
    (text_of_to r.to)
