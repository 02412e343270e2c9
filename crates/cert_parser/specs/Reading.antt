-- What a certificate is: its facts and lines in order, or the first line that breaks a rule, with the first rule that
-- it breaks.
use Rattle.std.specs.Prelude.{◌≡◌, ℕ, ◌+◌, ◌≤◌, ◌==◌, ◌&&◌, not, nat_le, nat_eq, if◌then◌else◌, Bool, true, false, List}
use Rattle.std.specs.Prelude.{[], ◌∷◌, ◌++◌, length, map, ℤ, Some, None, Option, is_some, Result, Ok, Err}
use Rattle.std.specs.List.{list_any}
use Rattle.book_model.specs.declared.fact.Fact.{Fact}
use Rattle.book_model.specs.declared.version.Version.{Version}
use Rattle.book_model.specs.calendars.Versions.{version_named}
use Rattle.book_model.specs.calendars.Inquiries.{fact_eq}
use Rattle.book_model.specs.lines.Lines.{lines_of}
use Rattle.cert_text.specs.declared.line.CertLine.{CertLine}
use Rattle.cert_text.specs.declared.line.CertLine.TheVariants.{Shown, TooFar, NoDate, Refused, Undecided, Void}
use Rattle.cert_parser.specs.declared.lines.CertFile.{CertFile}
use Rattle.cert_parser.specs.declared.form.Form.{Form}
use Rattle.cert_parser.specs.declared.form.Form.TheVariants as forms
use Rattle.cert_parser.specs.declared.read.ReadFail.{ReadFail}
use Rattle.cert_parser.specs.declared.read.ReadFail.TheVariants.{Bad, Memory}
use Rattle.cert_parser.specs.Grammar.{form_of}

-- the bytes are a file of the grammar, or a line breaks a rule
pub data Reading : Type 0 where
  file : CertFile → Reading
  bad : ℕ → ℕ → Reading

-- the numbers of facts that a line lists
abbrev pub listed : CertLine → List ℕ
listed (Shown echo result facts) = facts
listed (TooFar echo day facts) = facts
listed (NoDate echo back facts) = facts
listed (Refused rule) = []
listed (Undecided fact at) = []
listed (Void fact site) = []

-- a line that is refused without its words names one of the rules 1 to 4
abbrev pub HasRule : CertLine → Type 0
HasRule (Refused rule) = (1 ≤ rule) × (rule ≤ 4)
HasRule line = Unit {0}

-- facts and lines are numbered 1, 2, 3, .. each
abbrev pub is_numbered : CertFile → Form → Bool
is_numbered before (forms.Fact n f v) = n == length before.facts + 1
is_numbered before (forms.Line n line) = n == length before.lines + 1
is_numbered before (forms.Undecided n f u) = n == length before.lines + 1
is_numbered before (forms.Void n f s) = n == length before.lines + 1
is_numbered before (forms.End lines facts) = true

-- a fact's place is one of its kind's places
abbrev pub is_placed : Form → Bool
is_placed (forms.Fact n f v) = is_some f
is_placed (forms.Line n line) = true
is_placed (forms.Undecided n f u) = is_some f
is_placed (forms.Void n f s) = is_some f
is_placed (forms.End lines facts) = true

-- the fact is none of these
abbrev pub is_new : List (Fact × ℤ) → Option Fact → Bool
is_new facts None = true
is_new facts (Some f) = not (list_any (fact_eq f) (map (λ e. e.0) facts))

-- no two facts are one
abbrev pub is_fresh : CertFile → Form → Bool
is_fresh before (forms.Fact n f v) = is_new before.facts f
is_fresh before (forms.Line n line) = true
is_fresh before (forms.Undecided n f u) = true
is_fresh before (forms.Void n f s) = true
is_fresh before (forms.End lines facts) = true

-- each of the numbers is that of a fact, and none of those before it
abbrev pub are_of_facts : ℕ → List ℕ → List ℕ → Bool
are_of_facts count seen [] = true
are_of_facts count seen (n ∷ ns) = (nat_le 1 n && nat_le n count && not (list_any (nat_eq n) seen)) && are_of_facts
    count (seen ++ n ∷ []) ns

-- the numbers that a line lists are distinct and belong to earlier facts
abbrev pub lists_facts : CertFile → Form → Bool
lists_facts before (forms.Fact n f v) = true
lists_facts before (forms.Line n line) = are_of_facts (length before.facts) [] (listed line)
lists_facts before (forms.Undecided n f u) = true
lists_facts before (forms.Void n f s) = true
lists_facts before (forms.End lines facts) = true

-- the counts of an end line are right
abbrev pub counts_well : CertFile → Form → Bool
counts_well before (forms.Fact n f v) = true
counts_well before (forms.Line n line) = true
counts_well before (forms.Undecided n f u) = true
counts_well before (forms.Void n f s) = true
counts_well before (forms.End lines facts) = (lines == length before.lines) && (facts == length before.facts)

-- the first rule that doesn't hold
abbrev pub first_broken : List (ℕ × Bool) → Option ℕ
first_broken [] = None
first_broken (r ∷ rs) = if r.1 then first_broken rs else Some r.0

-- the first rule that a form breaks after these facts and lines, and after the end line where that has come
unfoldable pub broken_by : CertFile → Bool → Form → Option ℕ
broken_by before ended form = first_broken ((3, is_numbered before form) ∷ (7, is_placed form)
    ∷ (4, is_fresh before form) ∷ (5, lists_facts before form) ∷
    (6, not ended && counts_well before form) ∷ [])

abbrev pub with_fact : CertFile → Option Fact → ℤ → CertFile
with_fact before None v = before
with_fact before (Some f) v = record before { facts = before.facts ++ (f, v) ∷ [] }

abbrev pub with_line : CertFile → CertLine → CertFile
with_line before line = record before { lines = before.lines ++ line ∷ [] }

abbrev pub with_stop : CertFile → Option Fact → (Fact → CertLine) → CertFile
with_stop before None line = before
with_stop before (Some f) line = with_line before (line f)

-- the facts and lines so far, and this one
unfoldable pub with_form : CertFile → Form → CertFile
with_form before (forms.Fact n f v) = with_fact before f v
with_form before (forms.Line n line) = with_line before line
with_form before (forms.Undecided n f u) = with_stop before f (λ fact. Undecided fact u)
with_form before (forms.Void n f s) = with_stop before f (λ fact. Void fact s)
with_form before (forms.End lines facts) = before

abbrev pub is_end : Form → Bool
is_end (forms.Fact n f v) = false
is_end (forms.Line n line) = false
is_end (forms.Undecided n f u) = false
is_end (forms.Void n f s) = false
is_end (forms.End lines facts) = true

-- what a form that breaks this rule, or none, makes of the reading
abbrev pub after_rule : ℕ → CertFile → Form → Option ℕ → (CertFile → Bool → Reading) → Reading
after_rule number before form None next = next (with_form before form) (is_end form)
after_rule number before form (Some rule) next = bad number rule

-- what a line of this form, or of none, makes of the reading
abbrev pub after_form : ℕ → CertFile → Bool → Option Form → (CertFile → Bool → Reading) → Reading
after_form number before ended None next = bad number 2
after_form number before ended (Some form) next = after_rule number before form (broken_by before ended form) next

-- the reading from this line on
abbrev pub reading_from : ℕ → CertFile → Bool → List (List ℕ) → Reading
reading_from number before ended [] = if ended then file before else bad number 6
reading_from number before ended (line ∷ lines) = after_form number before ended (form_of before.version line)
    (λ now end. reading_from (number + 1) now end lines)

-- a file of a version, before its first fact and line
abbrev pub nothing_of : Version → CertFile
nothing_of version = record { version = version; facts = []; lines = [] }

-- the lines below the first, which is the header of a version or of none
abbrev pub below_header : Option Version → List (List ℕ) → Reading
below_header None lines = bad 1 1
below_header (Some version) lines = reading_from 2 (nothing_of version) false lines

-- the first line is the header of a version
abbrev pub reading_of : List (List ℕ) → Reading
reading_of [] = bad 1 1
reading_of (line ∷ lines) = below_header (version_named line) lines

-- what bytes are by the grammar
unfoldable pub grammar_of : List ℕ → Reading
grammar_of bytes = reading_of (lines_of bytes)

-- the answer is what the grammar says, unless memory ran out
abbrev pub Answers : Result CertFile ReadFail → Reading → Type 0
Answers (Ok f) reading = reading ≡ file f
Answers (Err (Bad line rule)) reading = reading ≡ bad line rule
Answers (Err Memory) reading = Unit {0}
