-- The grammar of certificates: the form of a line of a file of a version, word by word.
use Rattle.std.specs.Prelude.{ℕ, ◌==◌, ◌&&◌, not, nat_le, nat_eq, if◌then◌else◌, Bool, true, false, List, [], ◌∷◌}
use Rattle.std.specs.Prelude.{codes, ℤ, Some, None, Option, option_and_then}
use lib.Pointwise.{pointwise}
use Rattle.book_model.specs.declared.site.Site.{Site}
use Rattle.book_model.specs.declared.fact.Fact.{Fact}
use Rattle.book_model.specs.declared.fact.TheConstants.{FIRST_FACT_DAY, LAST_FACT_DAY, LEAST_VALUE, GREATEST_VALUE}
use Rattle.book_model.specs.declared.fact.Kind.{Kind}
use Rattle.book_model.specs.declared.fact.Place.{Place}
use Rattle.book_model.specs.declared.fail.Undecided.{Undecided as UndecidedTest}
use Rattle.book_model.specs.declared.version.Version.{Version}
use Rattle.book_model.specs.calendars.Versions.{kind_in, place_in, site_in}
use Rattle.book_model.specs.lines.Lines.{is_printable, words_of}
use Rattle.book_model.specs.sky.Names.{has_place}
use Rattle.cert_text.specs.Echo.{Echo}
use Rattle.cert_text.specs.declared.line.CertLine.{CertLine}
use Rattle.cert_text.specs.declared.line.CertLine.TheVariants.{Shown, TooFar, NoDate, Refused}
use Rattle.cert_parser.specs.declared.form.Form.{Form}
use Rattle.cert_parser.specs.declared.form.Form.TheVariants as forms
use Rattle.cert_parser.specs.declared.found.Found.{Found}
use Rattle.cert_parser.specs.declared.found.Found.TheVariants as found
use Rattle.cert_parser.specs.Digits.{counter_of, integer_of, between}

-- one thing after the other, where each is there
infixl 10 ◌>>=◌
abbrev pub ◌>>=◌ : {A B : Type 0} → Option A → (A → Option B) → Option B
o >>= next = option_and_then next o

-- the first, or else the second
abbrev pub or_else : {A : Type 0} → Option A → Option A → Option A
or_else None second = second
or_else (Some x) second = Some x

-- each word is followed by one space or by the end; where a space was last, a word has to come
abbrev pub is_spaced_after : Bool → List ℕ → Bool
is_spaced_after after_space [] = not after_space
is_spaced_after after_space (b ∷ bs) = if b == 32 then not after_space && is_spaced_after true bs
    else is_printable b && is_spaced_after false bs

-- a line is words with single spaces between them
abbrev pub is_spaced : List ℕ → Bool
is_spaced line = is_spaced_after true line

-- the word is this text
abbrev pub is_word : List ℕ → List ℕ → Bool
is_word text word = pointwise nat_eq word text

-- no word is left
abbrev pub is_over : List (List ℕ) → Bool
is_over [] = true
is_over (w ∷ ws) = false

-- a word, and the words after it
abbrev pub word_at : List (List ℕ) → Option (List ℕ × List (List ℕ))
word_at [] = None
word_at (w ∷ ws) = Some (w, ws)

-- the words after this one
unfoldable pub key_at : List ℕ → List (List ℕ) → Option (List (List ℕ))
key_at text ws = do
  w ← word_at ws
  if is_word text w.0 then Some w.1 else None

-- a counter, and the words after it
unfoldable pub counter_at : List (List ℕ) → Option (ℕ × List (List ℕ))
counter_at ws = do
  w ← word_at ws
  n ← counter_of w.0
  Some (n, w.1)

-- a number from low to high, and the words after it
unfoldable pub number_at : ℤ → ℤ → List (List ℕ) → Option (ℤ × List (List ℕ))
number_at low high ws = do
  w ← word_at ws
  z ← between low high (integer_of w.0)
  Some (z, w.1)

-- the day of a fact
abbrev pub day_at : List (List ℕ) → Option (ℤ × List (List ℕ))
day_at ws = number_at FIRST_FACT_DAY LAST_FACT_DAY ws

-- the value of a fact
abbrev pub value_at : List (List ℕ) → Option (ℤ × List (List ℕ))
value_at ws = number_at LEAST_VALUE GREATEST_VALUE ws

-- a bound of an undecided test, of 128 bits
unfoldable pub end_at : List (List ℕ) → Option (ℤ × List (List ℕ))
end_at ws = do
  w ← word_at ws
  z ← integer_of w.0
  Some (z, w.1)

-- a kind, a place or a site that the version has, by its name, and the words after it
unfoldable pub kind_at : Version → List (List ℕ) → Option (Kind × List (List ℕ))
kind_at version ws = do
  w ← word_at ws
  k ← kind_in version w.0
  Some (k, w.1)

unfoldable pub place_at : Version → List (List ℕ) → Option (Place × List (List ℕ))
place_at version ws = do
  w ← word_at ws
  p ← place_in version w.0
  Some (p, w.1)

unfoldable pub site_at : Version → List (List ℕ) → Option (Site × List (List ℕ))
site_at version ws = do
  w ← word_at ws
  s ← site_in version w.0
  Some (s, w.1)

-- the fact, where the place is one of the kind's places
abbrev pub fact_with : Kind → Place → ℤ → Option Fact
fact_with kind place day = if has_place kind place then Some (record { kind = kind; place = place; day = day })
    else None

-- KIND PLACE DAY
unfoldable pub fact_at : Version → List (List ℕ) → Option (Option Fact × List (List ℕ))
fact_at version ws = do
  k ← kind_at version ws
  p ← place_at version k.1
  d ← day_at p.1
  Some (fact_with k.0 p.0 d.0, d.1)

-- N KIND PLACE DAY VALUE
unfoldable pub fact_form : Version → List (List ℕ) → Option Form
fact_form version ws = do
  n ← counter_at ws
  f ← fact_at version n.1
  v ← value_at f.1
  if is_over v.1 then Some (forms.Fact n.0 f.0 v.0) else None

-- lines L facts F
unfoldable pub end_form : List (List ℕ) → Option Form
end_form ws = do
  k ← key_at (codes "lines") ws
  l ← counter_at k
  k ← key_at (codes "facts") l.1
  f ← counter_at k
  if is_over f.1 then Some (forms.End l.0 f.0) else None

-- fact KIND PLACE DAY, at the end of a line
unfoldable pub last_fact_at : Version → List (List ℕ) → Option (Option Fact)
last_fact_at version ws = do
  k ← key_at (codes "fact") ws
  f ← fact_at version k
  if is_over f.1 then Some f.0 else None

-- SITE TURN LO HI
unfoldable pub test_at : Version → List (List ℕ) → Option (UndecidedTest × List (List ℕ))
test_at version ws = do
  s ← site_at version ws
  t ← counter_at s.1
  lo ← end_at t.1
  hi ← end_at lo.1
  Some (record { turn = t.0; site = s.0; lo = lo.0; hi = hi.0 }, hi.1)

-- refused R
unfoldable pub refused_form : ℕ → List (List ℕ) → Option Form
refused_form number ws = do
  k ← key_at (codes "refused") ws
  r ← counter_at k
  if nat_le 1 r.0 && nat_le r.0 4 && is_over r.1 then Some (forms.Line number (Refused r.0)) else None

-- undecided SITE TURN LO HI fact KIND PLACE DAY
unfoldable pub undecided_form : Version → ℕ → List (List ℕ) → Option Form
undecided_form version number ws = do
  k ← key_at (codes "undecided") ws
  u ← test_at version k
  f ← last_fact_at version u.1
  Some (forms.Undecided number f u.0)

-- void SITE fact KIND PLACE DAY
unfoldable pub void_form : Version → ℕ → List (List ℕ) → Option Form
void_form version number ws = do
  k ← key_at (codes "void") ws
  s ← site_at version k
  f ← last_fact_at version s.1
  Some (forms.Void number f s.0)

-- FROM DATE TO
unfoldable pub echo_at : List (List ℕ) → Option (Echo × List (List ℕ))
echo_at ws = do
  from ← word_at ws
  date ← word_at from.1
  to ← word_at date.1
  Some (record { from = from.0; date = date.0; to = to.0 }, to.1)

-- RESULT facts
unfoldable pub shown_at : List (List ℕ) → Option (Found × List (List ℕ))
shown_at ws = do
  w ← word_at ws
  k ← key_at (codes "facts") w.1
  Some (found.Shown w.0, k)

-- refused 4 DAY facts
unfoldable pub too_far_at : List (List ℕ) → Option (Found × List (List ℕ))
too_far_at ws = do
  k ← key_at (codes "refused") ws
  k ← key_at (codes "4") k
  d ← day_at k
  k ← key_at (codes "facts") d.1
  Some (found.TooFar d.0, k)

-- refused 5 BACK facts
unfoldable pub no_date_at : List (List ℕ) → Option (Found × List (List ℕ))
no_date_at ws = do
  k ← key_at (codes "refused") ws
  k ← key_at (codes "5") k
  w ← word_at k
  k ← key_at (codes "facts") w.1
  Some (found.NoDate w.0, k)

-- what a line shows, up to its list of facts
unfoldable pub found_at : List (List ℕ) → Option (Found × List (List ℕ))
found_at ws = or_else (shown_at ws) (or_else (too_far_at ws) (no_date_at ws))

-- the counters that all of the words are
abbrev pub counters_of : List (List ℕ) → Option (List ℕ)
counters_of [] = Some []
counters_of (w ∷ ws) = do
  n ← counter_of w
  ns ← counters_of ws
  Some (n ∷ ns)

-- the line with these parts
abbrev pub line_with : Echo → Found → List ℕ → CertLine
line_with echo (found.Shown result) facts = Shown echo result facts
line_with echo (found.TooFar day) facts = TooFar echo day facts
line_with echo (found.NoDate back) facts = NoDate echo back facts

-- FROM DATE TO, what it shows, and A B ..
unfoldable pub listed_form : ℕ → List (List ℕ) → Option Form
listed_form number ws = do
  e ← echo_at ws
  f ← found_at e.1
  ns ← counters_of f.1
  Some (forms.Line number (line_with e.0 f.0 ns))

-- what follows the number of a line
unfoldable pub body_form : Version → ℕ → List (List ℕ) → Option Form
body_form version number ws = or_else (refused_form number ws) (or_else (undecided_form version number ws)
    (or_else (void_form version number ws) (listed_form number ws)))

-- N, and what follows it
unfoldable pub line_form : Version → List (List ℕ) → Option Form
line_form version ws = do
  n ← counter_at ws
  body_form version n.0 n.1

-- the form of words: their first word says which
abbrev pub form_in : Version → List (List ℕ) → Option Form
form_in version [] = None
form_in version (w ∷ ws) = if is_word (codes "fact") w then fact_form version ws else
    (if is_word (codes "line") w then line_form version ws else (if is_word (codes "end") w then end_form ws else None))

-- the form of a line below the header, if it has one
unfoldable pub form_of : Version → List ℕ → Option Form
form_of version line = if is_spaced line then form_in version (words_of line) else None
