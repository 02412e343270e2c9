-- What reading the text of a block leads to.
use Rattle.std.proofs.Common.{◌≡◌, ◌∙◌, ℕ, ◌+◌, ◌-◌, ◌^◌, ◌≤◌, true, false, List, [], ◌∷◌, ◌++◌, length, length-append}
use Rattle.std.proofs.Common.{refl, arith, append_assoc, append-nil}
use Rattle.std.proofs.lemmas.Bool.Decides.{nat_tests}
use Rattle.std.specs.Prelude.{codes, Some, None, ◌&&◌, ◌==◌, ℤ}
use Rattle.book_model.specs.declared.fact.Fact.{Fact}
use Rattle.book_model.specs.declared.version.Version.{Version}
use Rattle.book_model.specs.declared.version.TheConstants.{WRITTEN}
use Rattle.book_model.specs.lines.Lines.{IsWord, AreWords, lines_of}
use Rattle.book_model.specs.lines.Text.{fact_text}
use Rattle.cert_text.specs.declared.line.CertLine.{CertLine}
use Rattle.cert_parser.specs.declared.lines.CertFile.{CertFile}
use Rattle.cert_parser.specs.declared.form.Form.{Form}
use Rattle.cert_parser.specs.declared.form.Form.TheVariants as forms
use Rattle.cert_parser.specs.Grammar.{form_in, form_of}
use Rattle.cert_parser.specs.Reading.{reading_from, broken_by, with_form, is_end, is_new}
use Rattle.cert_text.specs.Text.{fact_texts}
use Rattle.cert_parser.specs.ReadAgain.{is_named_well, is_value, are_new}
use Rattle.line_core.proofs.SpacedWords.{both, spaced, words_read}
use Rattle.cert_parser.proofs.Rows.{spaced_then, row_read, spaced_well, four}
use Rattle.cert_parser.proofs.RowTexts.{fact_row, fact_is_row}
use Rattle.cert_parser.proofs.RowWords.{text_word, fact_row_words}
use Rattle.cert_parser.proofs.FormsRead.{fact_row_form}

-- the form of words in a row
row_form : (version : Version) (w : List ℕ) (ws : List (List ℕ)) (form : Form) → IsWord w → AreWords ws
    → form_in version (w ∷ ws)
    ≡ Some form → form_of version (w ++ spaced ws) ≡ Some form
unfolding form_of
row_form version w ws form h k f = rw (spaced_well w ws h k, words_read w ws h k) f

-- the reading goes on with what a row of this form leads to
pub row_taken : (number : ℕ) (before : CertFile) (w : List ℕ) (ws : List (List ℕ)) (rest : List ℕ) (form : Form)
    → IsWord w → AreWords ws
    → form_in before.version (w ∷ ws) ≡ Some form → broken_by before false form ≡ None
    → reading_from number before false (lines_of (w ++ spaced_then ws rest)) ≡ reading_from (number + 1)
    (with_form before form) (is_end form) (lines_of rest)
row_taken number before w ws rest form h k f b = rw (row_read w ws rest h k)
    (rw (row_form before.version w ws form h k f) (rw b refl))

-- reading a text after these facts and lines is reading the rest of it after those
pub record Comes (before : CertFile) (text : List ℕ) (after : CertFile) (rest : List ℕ) : Type 0 where
  pub next : ℕ → ℕ
  pub same : (number : ℕ) → reading_from number before false (lines_of text) ≡ reading_from (next number) after false
      (lines_of rest)

-- one text after the other
pub comes_on : (a b c : CertFile) (r s t : List ℕ) → Comes a r b s → Comes b s c t → Comes a r c t
comes_on a b c r s t h k = record { next = λ n. k.next (h.next n); same = λ n. h.same n ∙ k.same (h.next n) }

-- nothing is read
pub comes_none : (a : CertFile) (r : List ℕ) → Comes a r a r
comes_none a r = record { next = λ n. n; same = λ n. refl }

-- a row that isn't the end line
pub row_comes : (before : CertFile) (w : List ℕ) (ws : List (List ℕ)) (rest : List ℕ) (form : Form) → IsWord w
    → AreWords ws
    → form_in before.version (w ∷ ws) ≡ Some form → broken_by before false form ≡ None → is_end form ≡ false
    → Comes before (w ++ spaced_then ws rest) (with_form before form) rest
row_comes before w ws rest form h k f b e =
    record { next = λ n. n + 1; same = λ n. rw e at (row_taken n before w ws rest form h k f b) }

-- these facts and lines, of the version that is written
abbrev pub state : List (Fact × ℤ) → List CertLine → CertFile
state facts lines = record { version = WRITTEN; facts = facts; lines = lines }

-- a new fact
fact_comes : (facts : List (Fact × ℤ)) (lines : List CertLine) (n : ℕ) (f : Fact) (v : ℤ) (rest : List ℕ)
    → n ≤ 2 ^ 32 - 1
    → (n == length facts + 1) ≡ true → is_named_well f ≡ true → is_value v ≡ true → is_new facts (Some f) ≡ true
    → Comes (state facts lines) (fact_text n f v ++ rest) (state (facts ++ (f, v) ∷ []) lines) rest
unfolding broken_by with_form
fact_comes facts lines n f v rest h number named value new =
    rw (fact_is_row n f v rest) (row_comes (state facts lines) (codes "fact") (fact_row n f v) rest
    (forms.Fact n (Some f) v)
    (text_word (codes "fact") refl) (fact_row_words n f v h named value) (fact_row_form n f v h named value)
    (rw (number, new) refl) refl)

-- new facts
pub facts_come : (facts es : List (Fact × ℤ)) (lines : List CertLine) (number : ℕ) (rest : List ℕ)
    → length facts + length es ≤ 2 ^ 32 - 1
    → are_new facts number es ≡ true
    → Comes (state facts lines) (fact_texts number es ++ rest) (state (facts ++ es) lines) rest
facts_come facts [] lines number rest h k = rw (append-nil facts) (comes_none (state facts lines) rest)
facts_come facts (e ∷ es) lines number rest h k =
    let all = both ((number == length facts + 1) && is_named_well e.0 && is_value e.1 && is_new facts (Some e.0))
    (are_new (facts ++ e ∷ []) (number + 1) es)
    k in
    let one = four (number == length facts + 1) (is_named_well e.0) (is_value e.1) (is_new facts (Some e.0)) all.0 in
    let fits : number ≤ 2 ^ 32 - 1 = grind (arith, nat_tests) in
    let longer : length (facts ++ e ∷ []) + length es ≤ 2 ^ 32 - 1 = omega (arith, length-append facts (e ∷ [])) in
    let others = facts_come (facts ++ e ∷ []) es lines (number + 1) rest longer all.1 in
    rw (append_assoc (fact_text number e.0 e.1) (fact_texts (number + 1) es) rest)
    (comes_on (state facts lines) (state (facts ++ e ∷ []) lines) (state (facts ++ e ∷ es) lines)
    (fact_text number e.0 e.1 ++ (fact_texts (number + 1) es ++ rest)) (fact_texts (number + 1) es ++ rest) rest
    (fact_comes facts lines number e.0 e.1 (fact_texts (number + 1) es ++ rest) fits one.0 one.1 one.2 one.3)
    (rw (append_assoc facts (e ∷ []) es) at others))
