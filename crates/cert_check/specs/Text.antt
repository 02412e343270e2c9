-- The text that is written for verdicts, and for how many there are of each kind.
use Rattle.std.specs.Prelude.{ℕ, List, [], ◌∷◌, ◌++◌, codes, decimal, ℤ}
use Rattle.std.specs.Fmt.{signed_decimal}
use Rattle.std.specs.List.{concat}
use Rattle.book_model.specs.declared.fact.Fact.{Fact}
use Rattle.book_model.specs.declared.request.Resolved.{Resolved}
use Rattle.book_model.specs.sky.Names.{kind_name, place_name}
use Rattle.book_model.specs.lines.Text.{result_text, undecided_text, void_text}
use Rattle.cert_check.specs.declared.verdict.Verdict.{Verdict}
use Rattle.cert_check.specs.declared.verdict.Verdict.TheVariants.{Yes, No, Skip}
use Rattle.cert_check.specs.declared.verdict.Reason.{Reason}
use Rattle.cert_check.specs.declared.verdict.Reason.TheVariants.{Form, Value, Undecided, Void, Missing}
use Rattle.cert_check.specs.declared.verdict.Reason.TheVariants.{List as list_reason, Date}

-- yes N
unfoldable pub yes_text : ℕ → List ℕ
yes_text number = concat (codes "yes " ∷ decimal number ∷ codes "\n" ∷ [])

-- skip N
unfoldable pub skip_text : ℕ → List ℕ
skip_text number = concat (codes "skip " ∷ decimal number ∷ codes "\n" ∷ [])

-- no N form R
unfoldable pub form_text : ℕ → ℕ → List ℕ
form_text number rule = concat (codes "no " ∷ decimal number ∷ codes " form " ∷ decimal rule ∷ codes "\n" ∷ [])

-- no N value F LISTED FOUND
unfoldable pub value_text : ℕ → ℕ → ℤ → ℤ → List ℕ
value_text number fact listed found = concat (codes "no " ∷ decimal number ∷ codes " value " ∷ decimal fact ∷ codes " "
    ∷ signed_decimal listed ∷ codes " " ∷
    signed_decimal found ∷ codes "\n" ∷ [])

-- no N missing KIND PLACE DAY
unfoldable pub missing_text : ℕ → Fact → List ℕ
missing_text number f = concat (codes "no " ∷ decimal number ∷ codes " missing " ∷ kind_name f.kind ∷ codes " "
    ∷ place_name f.place ∷ codes " " ∷
    signed_decimal f.day ∷ codes "\n" ∷ [])

-- no N list I
unfoldable pub list_text : ℕ → ℕ → List ℕ
list_text number place = concat (codes "no " ∷ decimal number ∷ codes " list " ∷ decimal place ∷ codes "\n" ∷ [])

-- no N date, and a space
unfoldable pub date_head_text : ℕ → List ℕ
date_head_text number = concat (codes "no " ∷ decimal number ∷ codes " date " ∷ [])

-- no N date FOUND
abbrev pub date_text : ℕ → Resolved → List ℕ
date_text number found = date_head_text number ++ (result_text found ++ codes "\n")

-- a reason against a line
abbrev pub reason_text : ℕ → Reason → List ℕ
reason_text number (Form rule) = form_text number rule
reason_text number (Value fact listed found) = value_text number fact listed found
reason_text number (Undecided f u) = undecided_text (codes "no ") number f u
reason_text number (Void f s) = void_text (codes "no ") number f s
reason_text number (Missing f) = missing_text number f
reason_text number (list_reason place) = list_text number place
reason_text number (Date found) = date_text number found

-- a verdict with the number of its line
abbrev pub verdict_text : ℕ → Verdict → List ℕ
verdict_text number Yes = yes_text number
verdict_text number (No why) = reason_text number why
verdict_text number Skip = skip_text number

-- end yes A no B skip C
unfoldable pub counts_text : ℕ → ℕ → ℕ → List ℕ
counts_text stand fail skip = concat (codes "end yes " ∷ decimal stand ∷ codes " no " ∷ decimal fail ∷ codes " skip "
    ∷ decimal skip ∷ codes "\n" ∷ [])
