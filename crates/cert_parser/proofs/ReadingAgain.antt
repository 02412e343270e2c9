-- What was written is read again.
use Rattle.std.proofs.Common.{◌≡◌, ◌∙◌, ℕ, suc, ◌+◌, ◌-◌, ◌^◌, ◌≤◌, true, false, List, [], ◌∷◌, ◌++◌, length}
use Rattle.std.proofs.Common.{length-append, map, refl, arith, append_assoc, append-nil}
use Rattle.std.proofs.lemmas.Bool.Decides.{nat_tests}
use Rattle.std.proofs.lemmas.List.{length-map}
use Rattle.std.specs.List.{flat_map}
use Rattle.std.specs.Prelude.{codes, ◌==◌, ℤ}
use Rattle.book_model.specs.declared.fact.Fact.{Fact}
use Rattle.book_model.specs.lines.Lines.{lines_of}
use Rattle.book_model.specs.calendars.Versions.{version_named}
use Rattle.book_model.specs.declared.version.TheConstants.{WRITTEN}
use Rattle.book_model.specs.lines.Text.{header_of, end_text}
use Rattle.cert_text.specs.declared.line.CertLine.{CertLine}
use Rattle.cert_text.specs.declared.line.Block.{Block}
use Rattle.cert_parser.specs.declared.form.Form.TheVariants as forms
use Rattle.cert_parser.specs.Reading.{file, reading_from, grammar_of, broken_by, with_form, are_of_facts, listed}
use Rattle.cert_text.specs.Text.{fact_texts, line_text, block_text}
use Rattle.cert_parser.specs.ReadAgain.{has_form, are_new, may_follow, are_in_order, facts_of, AreReadAgain}
use Rattle.line_core.proofs.SpacedWords.{both}
use Rattle.cert_parser.proofs.Rows.{four}
use Rattle.cert_parser.proofs.RowTexts.{end_row, end_is_row}
use Rattle.cert_parser.proofs.RowWords.{text_word, end_row_words}
use Rattle.cert_parser.proofs.FormsRead.{end_row_form}
use Rattle.cert_parser.proofs.TextLengths.{blocks_length}
use Rattle.cert_parser.proofs.Comings.{Comes, comes_on, comes_none, row_taken, state, facts_come}
use Rattle.cert_parser.proofs.LineComings.{line_comes}

-- a block that may follow
block_comes : (facts : List (Fact × ℤ)) (lines : List CertLine) (b : Block) (rest : List ℕ)
    → length facts + length b.facts ≤ 2 ^ 32 - 1
    → suc (length lines) ≤ 2 ^ 32 - 1
    → may_follow (length lines) facts b ≡ true → Comes (state facts lines) (block_text b ++ rest)
    (state (facts ++ b.facts) (lines ++ b.line ∷ [])) rest
block_comes facts lines b rest h k follows =
    let all = four (are_new facts b.first b.facts) (b.number == length lines + 1) (has_form b.line)
    (are_of_facts (length (facts ++ b.facts)) [] (listed b.line)) follows in
    let fits : b.number ≤ 2 ^ 32 - 1 = grind (arith, nat_tests) in
    let longer : length (facts ++ b.facts) ≤ 2 ^ 32 - 1 = omega (arith, length-append facts b.facts) in
    rw (append_assoc (fact_texts b.first b.facts) (line_text b.number b.line) rest)
    (comes_on (state facts lines) (state (facts ++ b.facts) lines) (state (facts ++ b.facts) (lines ++ b.line ∷ []))
    (fact_texts b.first b.facts ++ (line_text b.number b.line ++ rest)) (line_text b.number b.line ++ rest) rest
    (facts_come facts b.facts lines b.first (line_text b.number b.line ++ rest) h all.0)
    (line_comes (facts ++ b.facts) lines b.number b.line rest fits longer all.1 all.2 all.3))

-- blocks in order
blocks_come : (facts : List (Fact × ℤ)) (lines : List CertLine) (bs : List Block) (rest : List ℕ)
    → length facts + length (facts_of bs) ≤ 2 ^ 32 - 1
    → length lines + length bs ≤ 2 ^ 32 - 1
    → are_in_order (length lines) facts bs ≡ true → Comes (state facts lines) (flat_map block_text bs ++ rest)
    (state (facts ++ facts_of bs) (lines ++ map (λ b. b.line) bs)) rest
blocks_come facts lines [] rest h k order = rw (append-nil facts, append-nil lines)
    (comes_none (state facts lines) rest)
blocks_come facts lines (b ∷ bs) rest h k order =
    let all = both (may_follow (length lines) facts b) (are_in_order (length lines + 1) (facts ++ b.facts) bs) order in
    let more : length (lines ++ b.line ∷ []) ≡ length lines + 1 = omega (arith, length-append lines (b.line ∷ [])) in
    let fits : length facts + length b.facts ≤ 2 ^ 32 - 1 = omega (arith, length-append b.facts (facts_of bs)) in
    let others_fit : length (facts ++ b.facts) + length (facts_of bs) ≤ 2 ^ 32 - 1 = omega
    (arith, length-append facts b.facts, length-append b.facts (facts_of bs)) in
    let others_order : are_in_order (length (lines ++ b.line ∷ [])) (facts ++ b.facts) bs ≡ true = rw more all.1 in
    let others = blocks_come (facts ++ b.facts) (lines ++ b.line ∷ []) bs rest others_fit (omega arith) others_order in
    rw (append_assoc (block_text b) (flat_map block_text bs) rest)
    (comes_on (state facts lines) (state (facts ++ b.facts) (lines ++ b.line ∷ []))
    (state (facts ++ facts_of (b ∷ bs)) (lines ++ map (λ b. b.line) (b ∷ bs)))
    (block_text b ++ (flat_map block_text bs ++ rest)) (flat_map block_text bs ++ rest) rest
    (block_comes facts lines b (flat_map block_text bs ++ rest) fits (omega arith) all.0)
    (rw (append_assoc facts b.facts (facts_of bs), append_assoc lines (b.line ∷ []) (map (λ b. b.line) bs)) at others))

-- the right end line ends the file
end_taken : (number : ℕ) (facts : List (Fact × ℤ)) (lines : List CertLine) → length facts ≤ 2 ^ 32 - 1
    → length lines ≤ 2 ^ 32 - 1
    → reading_from number (state facts lines) false (lines_of (end_text (length lines) (length facts))) ≡ file
    (state facts lines)
unfolding broken_by with_form
end_taken number facts lines h k =
    let right : (length lines == length lines) ≡ true = grind (arith, nat_tests) in
    let also_right : (length facts == length facts) ≡ true = grind (arith, nat_tests) in
    rw (← append-nil (end_text (length lines) (length facts)), end_is_row (length lines) (length facts) [])
    (row_taken number (state facts lines) (codes "end") (end_row (length lines) (length facts)) []
    (forms.End (length lines) (length facts))
    (text_word (codes "end") refl) (end_row_words (length lines) (length facts) k h)
    (end_row_form (length lines) (length facts) k h)
    (rw (right, also_right) refl))

-- the header is the first line, and the rest is read from the second
header_taken : (rest : List ℕ) → grammar_of (header_of WRITTEN ++ rest) ≡ reading_from 2 (state [] []) false
    (lines_of rest)
unfolding grammar_of version_named
header_taken rest = refl

-- a text that leads from no facts and lines to these is read whole, between the header and the right end line
whole_read : (text : List ℕ) (facts : List (Fact × ℤ)) (lines : List CertLine) → length facts ≤ 2 ^ 32 - 1
    → length lines ≤ 2 ^ 32 - 1
    → Comes (state [] []) (text ++ end_text (length lines) (length facts)) (state facts lines)
    (end_text (length lines) (length facts))
    → grammar_of (header_of WRITTEN ++ (text ++ end_text (length lines) (length facts))) ≡ file (state facts lines)
whole_read text facts lines h k comes = header_taken (text ++ end_text (length lines) (length facts)) ∙ comes.same 2
    ∙ end_taken (comes.next 2) facts lines h k

-- blocks in order are read again
pub are_read_again : (blocks : List Block) → AreReadAgain blocks
are_read_again blocks order short =
    let endpoints : List ℕ = end_text (length blocks) (length (facts_of blocks)) in
    let fit : length (facts_of blocks) + length blocks ≤ 2 ^ 32 - 1 =
    omega (arith, blocks_length blocks, length-append {A = ℕ}) in
    let count : length (map (λ b. b.line) blocks) ≡ length blocks = length-map blocks (λ b. b.line) in
    let comes = blocks_come [] [] blocks endpoints (omega arith) (omega arith) order in
    rw count at (whole_read (flat_map block_text blocks) (facts_of blocks) (map (λ b. b.line) blocks) (omega arith)
    (omega arith) (rw (← count) at comes))
