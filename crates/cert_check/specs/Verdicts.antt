-- The verdict of a line of a certificate, by an answer for each fact of the file.
use Rattle.std.specs.Prelude.{◌≡◌, ℕ, ◌+◌, ◌-◌, ◌<◌, nat_eq, if◌then◌else◌, List, [], ◌∷◌, length, ℤ, Some, None}
use Rattle.std.specs.Prelude.{Option, Result, Ok, Err, slice_index_or, IsTrue}
use Rattle.std.specs.Ordering.{int_eq}
use Rattle.std.specs.List.{slice_get}
use lib.Pointwise.{pointwise}
use Rattle.book_model.specs.declared.fact.Fact.{Fact}
use Rattle.book_model.specs.declared.fail.Undecided.{Undecided as UndecidedTest}
use Rattle.book_model.specs.declared.request.Request.{Request}
use Rattle.book_model.specs.declared.request.Resolved.{Resolved}
use Rattle.book_model.specs.declared.request.Rule.{Rule}
use Rattle.book_model.specs.sky.Facts.{IsNear}
use Rattle.book_model.specs.calendars.Inquiries.{Inquiry, done, ask, fact_eq, with_fact}
use Rattle.book_model.specs.lines.LineRules.{rule_of}
use Rattle.book_model.specs.declared.version.Version.{Version}
use Rattle.book_model.specs.lines.Outcomes.{resolved, IsRightFor}
use Rattle.book_model.specs.lines.Requests.{request_of, rule_number}
use Rattle.book_model.specs.lines.Text.{result_text, three_words_text}
use Rattle.oracle_core.specs.declared.evaluator.Answer.{Answer}
use Rattle.oracle_core.specs.declared.evaluator.Answer.TheVariants as answer
use Rattle.oracle_core.specs.Answers.{IsRightAnswer}
use Rattle.oracle_core.specs.Pairs.{AllStand, AreFactValues, are_distinct, facts_of, value_beside}
use Rattle.cert_text.specs.Echo.{Echo}
use Rattle.cert_text.specs.declared.line.CertLine.{CertLine}
use Rattle.cert_text.specs.declared.line.CertLine.TheVariants as line
use Rattle.cert_parser.specs.declared.lines.CertFile.{CertFile}
use Rattle.cert_parser.specs.Grammar.{or_else}
use Rattle.cert_parser.specs.Reading.{are_of_facts, listed, HasRule}
use Rattle.cert_text.specs.Text.{too_far_text, no_date_text}
use Rattle.cert_check.specs.declared.verdict.Verdict.{Verdict}
use Rattle.cert_check.specs.declared.verdict.Verdict.TheVariants.{Yes, No, Skip}
use Rattle.cert_check.specs.declared.verdict.Reason.{Reason}
use Rattle.cert_check.specs.declared.verdict.Reason.TheVariants as reason

-- as many answers as facts, each right for its fact
abbrev pub AreRightAnswers : List (Fact × ℤ) → List Answer → Type 0
AreRightAnswers [] [] = Unit {0}
AreRightAnswers [] (a ∷ rest) = ⊥
AreRightAnswers (e ∷ es) [] = ⊥
AreRightAnswers (e ∷ es) (a ∷ rest) = IsRightAnswer e.0 a × AreRightAnswers es rest

-- the values of the pairs
abbrev pub values_of : List (Fact × ℤ) → List ℤ
values_of [] = []
values_of (e ∷ es) = e.1 ∷ values_of es

-- an item, where there is one, and these
abbrev pub onto : {A : Type 0} → Option A → List A → List A
onto None xs = xs
onto (Some x) xs = x ∷ xs

-- the items with these numbers, which count from 1
abbrev pub numbered : {A : Type 0} → List A → List ℕ → List A
numbered xs [] = []
numbered xs (n ∷ ns) = onto (slice_get xs (n - 1)) (numbered xs ns)

-- FROM DATE TO, with single spaces
abbrev pub words_of_echo : Echo → List ℕ
words_of_echo echo = three_words_text echo.from echo.date echo.to

-- a listed fact that isn't answered by its listed value
abbrev pub reason_of : ℕ → Fact × ℤ → Answer → Option Reason
reason_of number e (answer.Value found) = if int_eq e.1 found then None else Some (reason.Value number e.1 found)
reason_of number e (answer.Undecided at) = Some (reason.Undecided e.0 at)
reason_of number e (answer.Void site) = Some (reason.Void e.0 site)

abbrev pub unanswered : ℕ → Option (Fact × ℤ) → Option Answer → Option Reason
unanswered number None a = None
unanswered number (Some e) None = None
unanswered number (Some e) (Some a) = reason_of number e a

-- the first such fact of those with these numbers
abbrev pub first_unanswered : List (Fact × ℤ) → List Answer → List ℕ → Option Reason
first_unanswered facts answers [] = None
first_unanswered facts answers (n ∷ ns) = or_else (unanswered n (slice_get facts (n - 1)) (slice_get answers (n - 1)))
    (first_unanswered facts answers ns)

-- what comes of an inquiry over listed facts: a result with the facts that it asks, each once in order of first use, or
-- the first that isn't listed
pub data Trace (A : Type 0) : Type 0 where
  traced : A → List Fact → Trace A
  missing : Fact → Trace A

abbrev pub traced_at : {A : Type 0} → Fact → Option ℤ → (ℤ → Trace A) → Trace A
traced_at f None next = missing f
traced_at f (Some v) next = next v

-- what comes of it over facts with these values, after those that were asked
abbrev pub trace_after : {A : Type 0} → List Fact → List ℤ → List Fact → Inquiry A → Trace A
trace_after facts values seen (done a) = traced a seen
trace_after facts values seen (ask f next) = traced_at f (value_beside facts values f)
    (λ v. trace_after facts values (with_fact seen f) (next v))

-- the first place, counted from this one, at which two lists of facts differ
abbrev pub difference : ℕ → List Fact → List Fact → Option ℕ
difference place [] [] = None
difference place [] (g ∷ gs) = Some place
difference place (f ∷ fs) [] = Some place
difference place (f ∷ fs) (g ∷ gs) = if fact_eq f g then difference (place + 1) fs gs else Some place

-- a result, by its text and the line's
abbrev pub verdict_on_text : Resolved → List ℕ → Verdict
verdict_on_text found text = if pointwise nat_eq (result_text found) text then Yes else No (reason.Date found)

-- a result, where the facts that were asked differ from the listed ones at this place or at none
abbrev pub verdict_on_list : Option ℕ → Resolved → List ℕ → Verdict
verdict_on_list None found text = verdict_on_text found text
verdict_on_list (Some place) found text = No (reason.List place)

-- what comes of a request over the listed facts
abbrev pub verdict_on_trace : List Fact → Trace Resolved → List ℕ → Verdict
verdict_on_trace facts (missing f) text = No (reason.Missing f)
verdict_on_trace facts (traced found asked) text = verdict_on_list (difference 1 asked facts) found text

-- a request over listed facts, of which the first that isn't answered by its listed value gives this reason or none
abbrev pub verdict_on_facts : Version → Option Reason → List (Fact × ℤ) → Request → List ℕ → Verdict
verdict_on_facts version (Some why) listed request text = No why
verdict_on_facts version None listed request text =
    verdict_on_trace (facts_of listed) (trace_after (facts_of listed) (values_of listed) [] (rule_of version request))
    text

-- words that break a rule or are a request
abbrev pub verdict_on_request : Version → Result Request Rule → Option Reason → List (Fact × ℤ) → List ℕ → Verdict
verdict_on_request version (Err rule) why listed text = No (reason.Form (rule_number rule))
verdict_on_request version (Ok request) why listed text = verdict_on_facts version why listed request text

-- a line of a file of a version with these words, this text of its result, and these numbers of facts
unfoldable pub verdict_on : Version → List (Fact × ℤ) → List Answer → List ℕ → List ℕ → List ℕ → Verdict
verdict_on version facts answers words text numbers =
    verdict_on_request version (request_of version words) (first_unanswered facts answers numbers)
    (numbered facts numbers) text

-- the verdict of a line of a file of a version
abbrev pub verdict_of : Version → List (Fact × ℤ) → List Answer → CertLine → Verdict
verdict_of version facts answers (line.Shown echo result numbers) = verdict_on version facts answers
    (words_of_echo echo) result numbers
verdict_of version facts answers (line.TooFar echo day numbers) = verdict_on version facts answers (words_of_echo echo)
    (too_far_text day) numbers
verdict_of version facts answers (line.NoDate echo back numbers) = verdict_on version facts answers (words_of_echo echo)
    (no_date_text back) numbers
verdict_of version facts answers (line.Refused rule) = Skip
verdict_of version facts answers (line.Undecided fact at) = Skip
verdict_of version facts answers (line.Void fact site) = Skip

-- a line of a file, from 0
abbrev pub line_at : CertFile → ℕ → CertLine
line_at file index = slice_index_or file.lines index (line.Refused 0)

-- The words break no rule of a version, and at every depth from 40 on their result is one with this text, over these
-- facts with these values, each of which stands.
pub record IsCertified (version : Version) (words text : List ℕ) (listed : List (Fact × ℤ)) : Type 0 where
  pub found : Resolved
  pub is_right : IsRightFor version words (resolved found listed)
  pub shows : text ≡ result_text found
  pub stand : AllStand listed

-- what a line of a file of a version shows is certified
abbrev pub IsCertifiedLine : Version → List (Fact × ℤ) → CertLine → Type 0
IsCertifiedLine version facts (line.Shown echo result numbers) = IsCertified version (words_of_echo echo) result
    (numbered facts numbers)
IsCertifiedLine version facts (line.TooFar echo day numbers) = IsCertified version (words_of_echo echo)
    (too_far_text day) (numbered facts numbers)
IsCertifiedLine version facts (line.NoDate echo back numbers) = IsCertified version (words_of_echo echo)
    (no_date_text back) (numbered facts numbers)
IsCertifiedLine version facts (line.Refused rule) = ⊥
IsCertifiedLine version facts (line.Undecided fact at) = ⊥
IsCertifiedLine version facts (line.Void fact site) = ⊥

-- none of the facts is near at a test
abbrev pub AreNearNowhere : List (Fact × ℤ) → Type 0
AreNearNowhere [] = Unit {0}
AreNearNowhere (e ∷ es) = ((u : UndecidedTest) → IsNear e.0 u → ⊥) × AreNearNowhere es

-- The facts of a file are distinct, each value is one of a fact, the numbers that a line lists are distinct and numbers
-- of the facts, and a line that is refused without its words names a rule.
pub record IsCheckable (file : CertFile) : Type 0 where
  pub distinct : IsTrue (are_distinct (facts_of file.facts))
  pub known : AreFactValues (values_of file.facts)
  pub numbers : (index : ℕ) → IsTrue (are_of_facts (length file.facts) [] (listed (line_at file index)))
  pub ruled : (index : ℕ) → index < length file.lines → HasRule (line_at file index)
