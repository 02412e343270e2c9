-- Certified lines get a Yes, where no listed fact is near at a test.
use Rattle.std.proofs.Common.{◌≡◌, ℕ, ◌-◌, ◌+◌, ◌≤◌, Bool, true, false, ◌||◌, refl, List, [], ◌∷◌, ◌++◌, ℤ, ap, sym}
use Rattle.std.proofs.Common.{arith}
use Rattle.std.proofs.lemmas.Int.{ints}
use Rattle.std.specs.Prelude.{Some, None, Option, Result, Ok, Err, nat_eq, slice_get, if◌then◌else◌}
use Rattle.std.specs.Ordering.{int_eq}
use Rattle.std.specs.Cmp.Lexicographic.{other_text}
use Rattle.std.specs.List.{list_any}
use lib.Pointwise.{pointwise}
use Rattle.book_model.specs.declared.fact.Fact.{Fact}
use Rattle.book_model.specs.declared.fail.Undecided.{Undecided}
use Rattle.book_model.specs.declared.request.Request.{Request}
use Rattle.book_model.specs.declared.request.Resolved.{Resolved}
use Rattle.book_model.specs.declared.request.Rule.{Rule}
use Rattle.book_model.specs.declared.version.Version.{Version}
use Rattle.book_model.specs.sky.Facts.{run_of, IsNear}
use Rattle.book_model.specs.calendars.Inquiries.{Inquiry, done, ask, fact_eq, with_fact, with_entry, found, found_at}
use Rattle.book_model.specs.calendars.Inquiries.{finding_after}
use Rattle.book_model.specs.lines.LineRules.{rule_of}
use Rattle.book_model.specs.lines.Outcomes.{resolved, IsRightForRow}
use Rattle.book_model.specs.lines.Requests.{request_of}
use Rattle.book_model.specs.programs.Programs.{Outcome, valued, void_at, undecided_test_at, outcome}
use Rattle.book_model.specs.lines.Text.{result_text}
use Rattle.oracle_core.specs.declared.evaluator.Answer.{Answer}
use Rattle.oracle_core.specs.declared.evaluator.Answer.TheVariants as answer
use Rattle.oracle_core.specs.Answers.{IsRightAnswer}
use Rattle.oracle_core.specs.Pairs.{StandsWith, AllStand, facts_of, value_beside, one_truth}
use Rattle.oracle_core.proofs.FactLemmas.{one_fact}
use Rattle.oracle_core.proofs.Keeping.{facts_of_push}
use Rattle.cert_text.specs.declared.line.CertLine.{CertLine}
use Rattle.cert_text.specs.declared.line.CertLine.TheVariants as line
use Rattle.cert_parser.specs.Grammar.{or_else}
use Rattle.cert_parser.specs.Reading.{listed}
use Rattle.cert_text.specs.Text.{too_far_text, no_date_text}
use Rattle.cert_check.specs.declared.verdict.Reason.{Reason}
use Rattle.cert_check.specs.declared.verdict.Verdict.TheVariants.{Yes}
use Rattle.cert_check.specs.Verdicts.{AreRightAnswers, values_of, onto, numbered, words_of_echo, reason_of, unanswered}
use Rattle.cert_check.specs.Verdicts.{first_unanswered, traced, trace_after, difference, verdict_on_request, verdict_on}
use Rattle.cert_check.specs.Verdicts.{verdict_of, IsCertified, IsCertifiedLine, AreNearNowhere}
use Rattle.cert_check.proofs.Certified.{same_fact}
use Rattle.cert_check.proofs.Entries.{IsRightBeside, right_beside}

among_pairs : (f : Fact) (es : List (Fact × ℤ)) → list_any (λ e. fact_eq f e.0) es ≡ list_any (fact_eq f) (facts_of es)
among_pairs f [] = refl
among_pairs f (e ∷ es) = ap (λ t. fact_eq f e.0 || t) (among_pairs f es)

facts_with : (seen : List (Fact × ℤ)) (f : Fact) (v : ℤ) → facts_of (with_entry seen f v) ≡ with_fact (facts_of seen) f
facts_with seen f v = rw (among_pairs f seen) (step (list_any (fact_eq f) (facts_of seen)))
  where
    step : (t : Bool) → facts_of (if t then seen else seen ++ (f, v) ∷ []) ≡ (if t then facts_of seen else facts_of seen
        ++ f ∷ [])
    step true = refl
    step false = facts_of_push seen f v

-- a fact that is among facts is among more of them
among_more : (g : Fact) (fs : List Fact) (f : Fact) → list_any (fact_eq g) fs ≡ true
    → list_any (fact_eq g) (fs ++ f ∷ []) ≡ true
among_more g [] f h = cc
among_more g (x ∷ fs) f h = step (fact_eq g x) (among_more g fs f) h
  where
    step : (t : Bool) → (list_any (fact_eq g) fs ≡ true → list_any (fact_eq g) (fs ++ f ∷ []) ≡ true)
        → (t || list_any (fact_eq g) fs) ≡ true
        → (t || list_any (fact_eq g) (fs ++ f ∷ [])) ≡ true
    step true rest k = refl
    step false rest k = rest k

among_last : (fs : List Fact) (f : Fact) → list_any (fact_eq f) (fs ++ f ∷ []) ≡ true
among_last [] f = rw (same_fact f) refl
among_last (x ∷ fs) f = step (fact_eq f x) (among_last fs f)
  where
    step : (t : Bool) → list_any (fact_eq f) (fs ++ f ∷ []) ≡ true → (t || list_any (fact_eq f) (fs ++ f ∷ [])) ≡ true
    step true rest = refl
    step false rest = rest

among_with : (g f : Fact) (seen : List Fact) → list_any (fact_eq g) seen ≡ true
    → list_any (fact_eq g) (with_fact seen f) ≡ true
among_with g f seen h = step (list_any (fact_eq f) seen)
  where
    step : (t : Bool) → list_any (fact_eq g) (if t then seen else seen ++ f ∷ []) ≡ true
    step true = h
    step false = among_more g seen f h

itself_with : (f : Fact) (seen : List Fact) → list_any (fact_eq f) (with_fact seen f) ≡ true
itself_with f seen = step (list_any (fact_eq f) seen) refl
  where
    step : (t : Bool) → list_any (fact_eq f) seen ≡ t → list_any (fact_eq f) (if t then seen else seen ++ f ∷ []) ≡ true
    step true e = e
    step false e = among_last seen f

-- one of facts that stand has a value that stands
has_value : (es : List (Fact × ℤ)) (f : Fact) → AllStand es → list_any (fact_eq f) (facts_of es) ≡ true → (w : ℤ)
    × (value_beside (facts_of es) (values_of es) f ≡ Some w) × StandsWith f w
has_value [] f all h = cc
has_value (e ∷ es) f all h = step (fact_eq f e.0) refl (has_value es f all.1) h
  where
    step : (t : Bool) → fact_eq f e.0 ≡ t
        → (list_any (fact_eq f) (facts_of es) ≡ true → (w : ℤ) × (value_beside (facts_of es) (values_of es) f ≡ Some w)
        × StandsWith f w) → (t || list_any (fact_eq f) (facts_of es)) ≡ true
        → (w : ℤ) × ((if t then Some e.1 else value_beside (facts_of es) (values_of es) f) ≡ Some w) × StandsWith f w
    step true same rest k = let one : f ≡ e.0 = one_fact f e.0 same in (e.1, refl, rw one all.0)
    step false same rest k = rest k

module _ {A : Type 0} (n : ℕ) where
  -- what was asked stays asked
  stays : (i : Inquiry A) (seen es : List (Fact × ℤ)) (x : A) (g : Fact) → finding_after n seen i ≡ found x es
      → list_any (fact_eq g) (facts_of seen) ≡ true
      → list_any (fact_eq g) (facts_of es) ≡ true
  unfolding finding_after
  stays (done a) seen es x g h k = let same : seen ≡ es = cc in rw same at k
  stays (ask f next) seen es x g h k = step (outcome (run_of n f)) (λ v. stays (next v) (with_entry seen f v) es x g) h
    where
      step : (o : Outcome ℤ) → ((v : ℤ) → finding_after n (with_entry seen f v) (next v) ≡ found x es
          → list_any (fact_eq g) (facts_of (with_entry seen f v))
          ≡ true → list_any (fact_eq g) (facts_of es) ≡ true)
          → found_at f o (λ v. finding_after n (with_entry seen f v) (next v)) ≡ found x es
          → list_any (fact_eq g) (facts_of es) ≡ true
      step (valued v) rest l = rest v l (rw (facts_with seen f v) (among_with g f (facts_of seen) k))
      step (void_at s) rest l = cc
      step (undecided_test_at s) rest l = cc

  -- what is found at a depth, over facts that stand, is the inquiry's result over their values
  found_traced : (i : Inquiry A) (seen es : List (Fact × ℤ)) (x : A) → 40 ≤ n → AllStand es
      → finding_after n seen i ≡ found x es
      → trace_after (facts_of es) (values_of es) (facts_of seen) i ≡ traced x (facts_of es)
  unfolding finding_after
  found_traced (done a) seen es x deep all h = let same : a ≡ x = cc in let asked : seen ≡ es = cc in
      rw (same, asked) refl
  found_traced (ask f next) seen es x deep all h = step (outcome (run_of n f)) refl
      (λ v. found_traced (next v) (with_entry seen f v) es x deep all) h
    where
      step : (o : Outcome ℤ) → outcome (run_of n f) ≡ o
          → ((v : ℤ) → finding_after n (with_entry seen f v) (next v) ≡ found x es
          → trace_after (facts_of es) (values_of es) (facts_of (with_entry seen f v)) (next v) ≡ traced x (facts_of es))
          → found_at f o (λ v. finding_after n (with_entry seen f v) (next v)) ≡ found x es
          → trace_after (facts_of es) (values_of es) (facts_of seen) (ask f next) ≡ traced x (facts_of es)
      step (valued v) e rest l =
          let asked : list_any (fact_eq f) (facts_of (with_entry seen f v)) ≡ true = rw (facts_with seen f v)
          (itself_with f (facts_of seen)) in
          let kept = has_value es f all (stays (next v) (with_entry seen f v) es x f l asked) in
          let true_value : outcome (run_of n f) ≡ valued kept.0 = kept.2.is_true.at_each_depth n deep in
          let same : kept.0 ≡ v = cc in
          let value : value_beside (facts_of es) (values_of es) f ≡ Some v = rw same at kept.1 in
          let traced_on : trace_after (facts_of es) (values_of es) (with_fact (facts_of seen) f) (next v)
          ≡ traced x (facts_of es) = rw (facts_with seen f v) at (rest v l) in
          rw value traced_on
      step (void_at s) e rest l = cc
      step (undecided_test_at s) e rest l = cc

equal_values : (v w : ℤ) → v ≡ w → int_eq v w ≡ true
equal_values v w e = grind (arith, ints, e)

-- a right answer for a fact that stands and is near nowhere is its value
no_reason : (n : ℕ) (e : Fact × ℤ) (a : Answer) → IsRightAnswer e.0 a → StandsWith e.0 e.1
    → ((u : Undecided) → IsNear e.0 u → ⊥) → reason_of n e a ≡ None
no_reason n e (answer.Value v) right stands clear =
    let same : e.1 ≡ v = one_truth e.0 e.1 v stands (record { is_true = right.0; low = right.1.0; high = right.1.1 }) in
    rw (equal_values e.1 v same) refl
no_reason n e (answer.Undecided u) right stands clear = absurd (clear u right)
no_reason n e (answer.Void s) right stands clear =
    let a : outcome (run_of 40 e.0) ≡ valued e.1 = stands.is_true.at_each_depth 40 (omega arith) in
    let b : outcome (run_of 40 e.0) ≡ void_at s = right.at_each_depth 40 (omega arith) in
    cc

no_reasons : (es : List (Fact × ℤ)) (answers : List Answer) (ns : List ℕ) → AreRightAnswers es answers
    → AllStand (numbered es ns)
    → AreNearNowhere (numbered es ns) → first_unanswered es answers ns ≡ None
no_reasons es answers [] right all clear = refl
no_reasons es answers (n ∷ ns) right all clear = step (slice_get es (n - 1)) (slice_get answers (n - 1))
    (right_beside es answers (n - 1) right)
    (no_reasons es answers ns right) all clear
  where
    step : (e : Option (Fact × ℤ)) (a : Option Answer) → IsRightBeside e a
        → (AllStand (numbered es ns) → AreNearNowhere (numbered es ns) → first_unanswered es answers ns ≡ None)
        → AllStand (onto e (numbered es ns)) → AreNearNowhere (onto e (numbered es ns))
        → or_else (unanswered n e a) (first_unanswered es answers ns) ≡ None
    step None a beside rest all clear = rest all clear
    step (Some e) None beside rest all clear = absurd beside
    step (Some e) (Some a) beside rest all clear = rw (no_reason n e a beside all.0 clear.0) (rest all.1 clear.1)

no_difference : (place : ℕ) (fs : List Fact) → difference place fs fs ≡ None
no_difference place [] = refl
no_difference place (f ∷ fs) = rw (same_fact f) (no_difference (place + 1) fs)

same_words : (text : List ℕ) → pointwise nat_eq text text ≡ true
same_words text = step (pointwise nat_eq text text) refl
  where
    step : (t : Bool) → pointwise nat_eq text text ≡ t → t ≡ true
    step true e = refl
    step false e = absurd (other_text text text (sym e) refl)

-- a row whose result is right over listed facts that stand gets a Yes, where no listed fact is a reason
yes_on_row : (version : Version) (row : Result Request Rule) (why : Option Reason) (es : List (Fact × ℤ)) (x : Resolved)
    (text : List ℕ)
    → IsRightForRow version row (resolved x es) → AllStand es → why ≡ None → text ≡ result_text x
    → verdict_on_request version row why es text ≡ Yes
yes_on_row version (Err rule) why es x text right stand none shows = absurd (cc)
yes_on_row version (Ok request) why es x text right stand none shows =
    let result = found_traced 40 (rule_of version request) [] es x (omega arith) stand
    (right.at_each_depth 40 (omega arith)) in
    rw (none, result, no_difference 1 (facts_of es), shows, same_words (result_text x)) refl

yes_on : (version : Version) (facts : List (Fact × ℤ)) (answers : List Answer) (words text numbers : List ℕ)
    → AreRightAnswers facts answers
    → IsCertified version words text (numbered facts numbers) → AreNearNowhere (numbered facts numbers)
    → verdict_on version facts answers words text numbers ≡ Yes
unfolding verdict_on
yes_on version facts answers words text numbers right certified clear =
    yes_on_row version (request_of version words) (first_unanswered facts answers numbers) (numbered facts numbers)
    certified.found text certified.is_right
    certified.stand
    (no_reasons facts answers numbers right certified.stand clear) certified.shows

-- a line that is certified and rests on facts that are near nowhere gets a Yes
pub yes_to_certified : (version : Version) (facts : List (Fact × ℤ)) (answers : List Answer) (l : CertLine)
    → AreRightAnswers facts answers
    → IsCertifiedLine version facts l → AreNearNowhere (numbered facts (listed l))
    → verdict_of version facts answers l ≡ Yes
yes_to_certified version facts answers (line.Shown echo result numbers) right certified clear =
    yes_on version facts answers (words_of_echo echo) result numbers right certified clear
yes_to_certified version facts answers (line.TooFar echo day numbers) right certified clear =
    yes_on version facts answers (words_of_echo echo) (too_far_text day) numbers right certified clear
yes_to_certified version facts answers (line.NoDate echo back numbers) right certified clear =
    yes_on version facts answers (words_of_echo echo) (no_date_text back) numbers right certified clear
yes_to_certified version facts answers (line.Refused rule) right certified clear = absurd certified
yes_to_certified version facts answers (line.Undecided fact at) right certified clear = absurd certified
yes_to_certified version facts answers (line.Void fact site) right certified clear = absurd certified
