-- What is written between the header and a right end line, and that it is read again.
use Rattle.std.specs.Prelude.{◌≡◌, ℕ, ◌+◌, ◌-◌, ◌^◌, ◌≤◌, ◌==◌, ◌&&◌, nat_le, nat_lt, Bool, true, List, [], ◌∷◌, ◌++◌}
use Rattle.std.specs.Prelude.{length, map, ℤ, pos, negsuc, Some}
use Rattle.std.specs.List.{list_all, flat_map}
use Rattle.book_model.specs.declared.fact.Fact.{Fact}
use Rattle.book_model.specs.declared.fact.TheConstants.{FIRST_FACT_DAY, LAST_FACT_DAY, LEAST_VALUE, GREATEST_VALUE}
use Rattle.book_model.specs.declared.fail.Undecided.{Undecided as UndecidedTest}
use Rattle.book_model.specs.sky.Correction.{is_between}
use Rattle.book_model.specs.sky.Names.{has_place}
use Rattle.book_model.specs.declared.version.TheConstants.{WRITTEN}
use Rattle.book_model.specs.lines.Text.{header_of, end_text}
use Rattle.cert_text.specs.declared.line.CertLine.{CertLine}
use Rattle.cert_text.specs.declared.line.CertLine.TheVariants.{Shown, TooFar, NoDate, Refused, Undecided, Void}
use Rattle.cert_text.specs.Echo.{Echo}
use Rattle.cert_text.specs.declared.line.Block.{Block}
use Rattle.book_model.specs.lines.Lines.{is_printable}
use Rattle.cert_parser.specs.Reading.{grammar_of, file, is_new, are_of_facts, listed}
use Rattle.cert_text.specs.Text.{block_text}

-- one or more bytes that a word may hold
abbrev pub is_text_word : List ℕ → Bool
is_text_word word = nat_lt 0 (length word) && list_all is_printable word

abbrev pub are_echo_words : Echo → Bool
are_echo_words echo = is_text_word echo.from && is_text_word echo.date && is_text_word echo.to

-- the day of a fact
abbrev pub is_day : ℤ → Bool
is_day day = is_between FIRST_FACT_DAY LAST_FACT_DAY day

-- the value of a fact
abbrev pub is_value : ℤ → Bool
is_value value = is_between LEAST_VALUE GREATEST_VALUE value

-- a number of 128 bits
abbrev pub is_wide : ℤ → Bool
is_wide number = is_between (negsuc (2 ^ 127 - 1)) (pos (2 ^ 127 - 1)) number

-- a fact that a file may name
abbrev pub is_named_well : Fact → Bool
is_named_well f = has_place f.kind f.place && is_day f.day

-- an undecided test whose numbers fit
abbrev pub is_undecided_test : UndecidedTest → Bool
is_undecided_test u = nat_le u.turn (2 ^ 32 - 1) && is_wide u.lo && is_wide u.hi

-- a line, so written, has a form
abbrev pub has_form : CertLine → Bool
has_form (Shown echo result facts) = are_echo_words echo && is_text_word result
has_form (TooFar echo day facts) = are_echo_words echo && is_day day
has_form (NoDate echo back facts) = are_echo_words echo && is_text_word back
has_form (Refused rule) = nat_le 1 rule && nat_le rule 4
has_form (Undecided fact at) = is_named_well fact && is_undecided_test at
has_form (Void fact site) = is_named_well fact

-- facts that are numbered on after those before them, of which each has a form and is none of those before it
abbrev pub are_new : List (Fact × ℤ) → ℕ → List (Fact × ℤ) → Bool
are_new before number [] = true
are_new before number (e ∷ es) = ((number == length before + 1) && is_named_well e.0 && is_value e.1 && is_new before
    (Some e.0)) && are_new (before ++ e ∷ [])
    (number + 1) es

-- after so many lines and these facts: the block's facts are new, and its line is numbered on, has a form and lists
-- distinct facts
abbrev pub may_follow : ℕ → List (Fact × ℤ) → Block → Bool
may_follow lines facts b = are_new facts b.first b.facts && (b.number == lines + 1) && has_form b.line && are_of_facts
    (length (facts ++ b.facts)) []
    (listed b.line)

-- after so many lines and these facts: each block may follow those before it
abbrev pub are_in_order : ℕ → List (Fact × ℤ) → List Block → Bool
are_in_order lines facts [] = true
are_in_order lines facts (b ∷ bs) = may_follow lines facts b && are_in_order (lines + 1) (facts ++ b.facts) bs

-- the facts of blocks
abbrev pub facts_of : List Block → List (Fact × ℤ)
facts_of blocks = flat_map (λ b. b.facts) blocks

-- the header, the blocks, and the right end line
abbrev pub file_text : List Block → List ℕ
file_text blocks = header_of WRITTEN ++ (flat_map block_text blocks ++ end_text (length blocks)
    (length (facts_of blocks)))

-- what is written so is read again, as the same facts and lines in a file of the version that is written, up to the
-- length of a file
abbrev pub AreReadAgain : List Block → Type 0
AreReadAgain blocks = are_in_order 0 [] blocks ≡ true → length (file_text blocks) ≤ 268435456
    → grammar_of (file_text blocks) ≡ file
    (record { version = WRITTEN; facts = facts_of blocks; lines = map (λ b. b.line) blocks })
