-- What reading the text of a line with its number leads to.
use Rattle.std.proofs.Common.{◌≡◌, ℕ, ◌+◌, ◌-◌, ◌^◌, ◌≤◌, true, List, [], ◌∷◌, ◌++◌, length, refl}
use Rattle.std.specs.Fmt.{signed_decimal}
use Rattle.std.specs.Prelude.{codes, Some, ◌==◌, ℤ}
use Rattle.book_model.specs.declared.fact.Fact.{Fact}
use Rattle.book_model.specs.declared.version.TheConstants.{WRITTEN}
use Rattle.cert_text.specs.declared.line.CertLine.{CertLine}
use Rattle.cert_text.specs.declared.line.CertLine.TheVariants.{Shown, TooFar, NoDate, Refused, Undecided, Void}
use Rattle.cert_parser.specs.declared.form.Form.TheVariants as forms
use Rattle.cert_parser.specs.Grammar.{form_in}
use Rattle.cert_parser.specs.Reading.{broken_by, with_form, are_of_facts, listed}
use Rattle.cert_text.specs.Text.{line_text}
use Rattle.cert_parser.specs.ReadAgain.{has_form, are_echo_words, is_text_word, is_day, is_named_well}
use Rattle.cert_parser.specs.ReadAgain.{is_undecided_test}
use Rattle.book_model.specs.lines.Lines.{AreWords}
use Rattle.line_core.proofs.SpacedWords.{both}
use Rattle.cert_parser.proofs.Rows.{spaced_then}
use Rattle.cert_parser.proofs.RowTexts.{listed_row, refused_row, undecided_row, void_row, shown_is_row, too_far_is_row}
use Rattle.cert_parser.proofs.RowTexts.{no_date_is_row, refused_is_row, undecided_is_row, void_is_row}
use Rattle.cert_parser.proofs.RowWords.{text_word, numbers_words, shown_row_words, too_far_row_words, no_date_row_words}
use Rattle.cert_parser.proofs.RowWords.{refused_row_words, undecided_row_words, void_row_words}
use Rattle.cert_parser.proofs.FormsRead.{refused_row_form, undecided_row_form, void_row_form}
use Rattle.cert_parser.proofs.ListedRead.{counters_read, shown_row_form, too_far_row_form, no_date_row_form}
use Rattle.cert_parser.proofs.Comings.{Comes, row_comes, state}

-- a line of this form
form_comes : (facts : List (Fact × ℤ)) (lines : List CertLine) (n : ℕ) (line : CertLine) (ws : List (List ℕ))
    (rest : List ℕ)
    → (n == length lines + 1) ≡ true → are_of_facts (length facts) [] (listed line) ≡ true → AreWords ws
    → form_in WRITTEN (codes "line" ∷ ws)
    ≡ Some (forms.Line n line)
    → Comes (state facts lines) (codes "line" ++ spaced_then ws rest) (state facts (lines ++ line ∷ [])) rest
unfolding broken_by with_form
form_comes facts lines n line ws rest number lists words form =
    row_comes (state facts lines) (codes "line") ws rest (forms.Line n line) (text_word (codes "line") refl) words form
    (rw (number, lists) refl) refl

-- a line with the next number that has a form and lists facts
pub line_comes : (facts : List (Fact × ℤ)) (lines : List CertLine) (n : ℕ) (line : CertLine) (rest : List ℕ)
    → n ≤ 2 ^ 32 - 1 → length facts ≤ 2 ^ 32 - 1
    → (n == length lines + 1) ≡ true → has_form line ≡ true → are_of_facts (length facts) [] (listed line) ≡ true
    → Comes (state facts lines) (line_text n line ++ rest) (state facts (lines ++ line ∷ [])) rest
unfolding broken_by with_form
line_comes facts lines n (Shown echo result ns) rest h k number well lists =
    let b = both (are_echo_words echo) (is_text_word result) well in
    rw (shown_is_row n echo result ns rest) (form_comes facts lines n (Shown echo result ns)
    (listed_row n echo (result ∷ []) ns) rest number lists
    (shown_row_words n echo result ns h b.0 b.1 (numbers_words (length facts) [] ns k lists))
    (shown_row_form n echo result ns h (counters_read (length facts) [] ns k lists)))
line_comes facts lines n (TooFar echo day ns) rest h k number well lists =
    let b = both (are_echo_words echo) (is_day day) well in
    rw (too_far_is_row n echo day ns rest) (form_comes facts lines n (TooFar echo day ns)
    (listed_row n echo (codes "refused" ∷ codes "4" ∷ signed_decimal day ∷ []) ns) rest number lists
    (too_far_row_words n echo day ns h b.0 b.1 (numbers_words (length facts) [] ns k lists))
    (too_far_row_form n echo day ns h b.1 (counters_read (length facts) [] ns k lists)))
line_comes facts lines n (NoDate echo back ns) rest h k number well lists =
    let b = both (are_echo_words echo) (is_text_word back) well in
    rw (no_date_is_row n echo back ns rest) (form_comes facts lines n (NoDate echo back ns)
    (listed_row n echo (codes "refused" ∷ codes "5" ∷ back ∷ []) ns)
    rest number lists
    (no_date_row_words n echo back ns h b.0 b.1 (numbers_words (length facts) [] ns k lists))
    (no_date_row_form n echo back ns h (counters_read (length facts) [] ns k lists)))
line_comes facts lines n (Refused rule) rest h k number well lists =
    rw (refused_is_row n rule rest) (form_comes facts lines n (Refused rule) (refused_row n rule) rest number lists
    (refused_row_words n rule h well)
    (refused_row_form n rule h well))
line_comes facts lines n (Undecided fact at) rest h k number well lists =
    let b = both (is_named_well fact) (is_undecided_test at) well in
    rw (undecided_is_row n fact at rest) (row_comes (state facts lines) (codes "line") (undecided_row n fact at) rest
    (forms.Undecided n (Some fact) at)
    (text_word (codes "line") refl) (undecided_row_words n fact at h b.0 b.1) (undecided_row_form n fact at h b.0 b.1)
    (rw number refl) refl)
line_comes facts lines n (Void fact site) rest h k number well lists =
    rw (void_is_row n fact site rest) (row_comes (state facts lines) (codes "line") (void_row n fact site) rest
    (forms.Void n (Some fact) site)
    (text_word (codes "line") refl) (void_row_words n fact site h well) (void_row_form n fact site h well)
    (rw number refl) refl)
