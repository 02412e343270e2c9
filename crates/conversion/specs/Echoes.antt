-- The lines whose words a text echoes, and what may stand for a line.
use Rattle.std.specs.Prelude.{◌≡◌, ℕ, List, [], ◌∷◌, length, map, slice_index_or}
use Rattle.book_model.specs.lines.Lines.{words_of}
use Rattle.book_model.specs.lines.Outcomes.{LineOutcome, refused, resolved, undecided, void}
use Rattle.book_model.specs.lines.Text.{three_words_text}
use Rattle.cert_text.specs.Echo.{Echo}
use Rattle.cert_text.specs.declared.line.CertLine.{CertLine}
use Rattle.cert_text.specs.declared.line.CertLine.TheVariants as line
use Rattle.conversion.specs.Rows.{AreSpelledRows, lines_in}
use Rattle.conversion.specs.declared.echoes.Echoes.{Echoes}
use Rattle.conversion.specs.declared.echoes.Echoes.TheVariants as echoes

-- FROM DATE TO, with single spaces
abbrev pub echo_line : Echo → List ℕ
echo_line echo = three_words_text echo.from echo.date echo.to

-- the words of a line of a certificate, where it has them
abbrev pub words_in : CertLine → List ℕ
words_in (line.Shown echo result facts) = echo_line echo
words_in (line.TooFar echo day facts) = echo_line echo
words_in (line.NoDate echo back facts) = echo_line echo
words_in (line.Refused number) = []
words_in (line.Undecided fact at) = []
words_in (line.Void fact site) = []

-- the lines whose words are echoed
abbrev pub echoed_lines : Echoes → List (List ℕ)
echoed_lines (echoes.Rows rows) = lines_in rows.now
echoed_lines (echoes.Printed lines) = map words_in lines.now
echoed_lines (echoes.Alone line) = line.now ∷ []

-- the line at a place
abbrev pub echoed_at : Echoes → ℕ → List ℕ
echoed_at from index = slice_index_or (echoed_lines from) index []

-- the words can be written: lines can spell the requests that the program made
abbrev pub CanEcho : Echoes → Type 0
CanEcho (echoes.Rows rows) = AreSpelledRows rows.now
CanEcho (echoes.Printed lines) = Unit {0}
CanEcho (echoes.Alone line) = Unit {0}

-- a result may stand for a line of three words, which it echoes, and anything else for any line
abbrev pub MayStand : List ℕ → LineOutcome → Type 0
MayStand line (refused rule) = Unit {0}
MayStand line (resolved x facts) = length (words_of line) ≡ 3
MayStand line (undecided f u) = Unit {0}
MayStand line (void f s) = Unit {0}
