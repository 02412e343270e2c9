-- What a Yes says: the result is that of the words at every depth, over listed facts that stand.
use Rattle.std.proofs.Common.{◌≡◌, ◌∙◌, ℕ, ◌≤◌, Bool, true, false, ◌||◌, refl, List, [], ◌∷◌, ◌++◌, length, ℤ, ap, sym}
use Rattle.std.proofs.Common.{arith, eq-eqb, ◌==◌}
use Rattle.std.proofs.lemmas.Int.{ints}
use Rattle.std.specs.Ordering.{int_eq}
use Rattle.std.specs.Prelude.{Some, None, Option, IsTrue, IfOk, Ok, Err, Result, nat_eq, if◌then◌else◌}
use Rattle.std.specs.Cmp.Lexicographic.{same_text}
use Rattle.std.specs.List.{list_any}
use lib.Pointwise.{pointwise}
use Rattle.book_model.specs.declared.fact.Fact.{Fact}
use Rattle.book_model.specs.declared.request.Request.{Request}
use Rattle.book_model.specs.declared.request.Resolved.{Resolved}
use Rattle.book_model.specs.declared.request.Rule.{Rule}
use Rattle.book_model.specs.sky.Facts.{run_of}
use Rattle.book_model.specs.calendars.Inquiries.{Inquiry, done, ask, fact_eq, with_fact, with_entry, found}
use Rattle.book_model.specs.calendars.Inquiries.{finding_after}
use Rattle.book_model.specs.declared.version.Version.{Version}
use Rattle.book_model.specs.lines.LineRules.{rule_of}
use Rattle.book_model.specs.sky.Names.{kind_number, place_number}
use Rattle.book_model.specs.programs.Programs.{valued, outcome}
use Rattle.book_model.specs.lines.Requests.{request_of}
use Rattle.book_model.specs.lines.Text.{result_text}
use Rattle.oracle_core.specs.declared.evaluator.Answer.{Answer}
use Rattle.oracle_core.specs.Pairs.{StandsWith, AllStand, facts_of, are_distinct, value_beside}
use Rattle.oracle_core.proofs.FactLemmas.{one_fact}
use Rattle.oracle_core.proofs.Listing.{not_and, neither, other_way}
use Rattle.cert_text.specs.declared.line.CertLine.{CertLine}
use Rattle.cert_text.specs.declared.line.CertLine.TheVariants as line
use Rattle.cert_parser.specs.Reading.{are_of_facts, listed}
use Rattle.cert_text.specs.Text.{too_far_text, no_date_text}
use Rattle.cert_check.specs.declared.verdict.Verdict.{Verdict}
use Rattle.cert_check.specs.declared.verdict.Verdict.TheVariants.{Yes, No}
use Rattle.cert_check.specs.declared.verdict.Reason.{Reason}
use Rattle.cert_check.specs.declared.verdict.Reason.TheVariants.{Date}
use Rattle.cert_check.specs.Verdicts.{AreRightAnswers, values_of, numbered, first_unanswered, Trace, traced, missing}
use Rattle.cert_check.specs.Verdicts.{traced_at, trace_after, difference, verdict_on_text, verdict_on_list}
use Rattle.cert_check.specs.Verdicts.{verdict_on_trace, verdict_on_request, verdict_on, verdict_of, words_of_echo}
use Rattle.cert_check.specs.Verdicts.{IsCertified, IsCertifiedLine}
use Rattle.cert_check.proofs.Comparing.{no_difference}
use Rattle.cert_check.proofs.Entries.{all_stand, listed_distinct}
use Rattle.cert_check.proofs.Numbers.{numbers_within, numbers_apart}
use Rattle.cert_check.proofs.Tracing.{table_of}

-- the facts with these values
abbrev pub paired : (Fact → ℤ) → List Fact → List (Fact × ℤ)
paired table [] = []
paired table (f ∷ fs) = (f, table f) ∷ paired table fs

-- the values of the listed facts
abbrev pub listed_table : List (Fact × ℤ) → Fact → ℤ
listed_table es = table_of (facts_of es) (values_of es)

-- the value beside a fact stands with it, where all stand
stands_beside : (es : List (Fact × ℤ)) (f : Fact) (v : ℤ) → AllStand es → value_beside (facts_of es) (values_of es) f
    ≡ Some v → StandsWith f v
stands_beside [] f v all h = cc
stands_beside (e ∷ es) f v all h = step (fact_eq f e.0) refl (stands_beside es f v all.1) h
  where
    step : (t : Bool) → fact_eq f e.0 ≡ t → (value_beside (facts_of es) (values_of es) f ≡ Some v → StandsWith f v)
        → (if t then Some e.1 else value_beside (facts_of es) (values_of es) f) ≡ Some v → StandsWith f v
    step true same rest k =
        let one : f ≡ e.0 = one_fact f e.0 same in
        let value : e.1 ≡ v = cc in
        rw (one, ← value) all.0
    step false same rest k = rest k

-- a fact is among facts with values where it is among the facts
among_paired : (table : Fact → ℤ) (f : Fact) (fs : List Fact) → list_any (λ e. fact_eq f e.0) (paired table fs)
    ≡ list_any (fact_eq f) fs
among_paired table f [] = refl
among_paired table f (g ∷ gs) = ap (λ t. fact_eq f g || t) (among_paired table f gs)

paired_more : (table : Fact → ℤ) (fs : List Fact) (f : Fact) → paired table (fs ++ f ∷ []) ≡ paired table fs
    ++ (f, table f) ∷ []
paired_more table [] f = refl
paired_more table (g ∷ gs) f = ap (λ es. (g, table g) ∷ es) (paired_more table gs f)

-- one fact more, with its value
pub paired_with : (table : Fact → ℤ) (fs : List Fact) (f : Fact) (v : ℤ) → table f ≡ v
    → with_entry (paired table fs) f v ≡ paired table (with_fact fs f)
paired_with table fs f v e = rw (among_paired table f fs) (step (list_any (fact_eq f) fs))
  where
    step : (t : Bool) → (if t then paired table fs else paired table fs ++ (f, v) ∷ []) ≡ paired table
        (if t then fs else fs ++ f ∷ [])
    step true = refl
    step false = rw (← e) (sym (paired_more table fs f))

-- over listed facts that stand, the inquiry finds at each depth its result over their values
module _ {A : Type 0} (n : ℕ) (deep : 40 ≤ n) (es : List (Fact × ℤ)) (all : AllStand es) where
  pub finds_traced : (i : Inquiry A) (seen asked : List Fact) (a : A) → trace_after (facts_of es) (values_of es) seen i
      ≡ traced a asked
      → finding_after n (paired (listed_table es) seen) i ≡ found a (paired (listed_table es) asked)
  unfolding finding_after
  finds_traced (done b) seen asked a h = let same : b ≡ a = cc in let all_asked : seen ≡ asked = cc in
      rw (same, all_asked) refl
  finds_traced (ask f next) seen asked a h = step (value_beside (facts_of es) (values_of es) f) refl
      (λ v. finds_traced (next v) (with_fact seen f) asked a) h
    where
      step : (o : Option ℤ) → value_beside (facts_of es) (values_of es) f ≡ o
          → ((v : ℤ) → trace_after (facts_of es) (values_of es) (with_fact seen f) (next v) ≡ traced a asked
          → finding_after n (paired (listed_table es) (with_fact seen f)) (next v) ≡ found a
          (paired (listed_table es) asked))
          → traced_at f o (λ v. trace_after (facts_of es) (values_of es) (with_fact seen f) (next v)) ≡ traced a asked
          → finding_after n (paired (listed_table es) seen) (ask f next) ≡ found a (paired (listed_table es) asked)
      step None e rest k = cc
      step (Some v) e rest k =
          let stands : StandsWith f v = stands_beside es f v all e in
          let value : outcome (run_of n f) ≡ valued v = stands.is_true.at_each_depth n deep in
          let here : listed_table es f ≡ v = rw e refl in
          rw (value, paired_with (listed_table es) seen f v here) (rest v k)

-- a fact that isn't among others has another value than they
paired_others : (e : Fact × ℤ) (es : List (Fact × ℤ)) (fs : List Fact) → list_any (fact_eq e.0) fs ≡ false
    → paired (listed_table (e ∷ es)) fs
    ≡ paired (listed_table es) fs
paired_others e es [] h = refl
paired_others e es (f ∷ fs) h =
    let p = neither (fact_eq e.0 f) (list_any (fact_eq e.0) fs) h in
    let other : fact_eq f e.0 ≡ false = other_way f e.0 p.0 in
    let here : listed_table (e ∷ es) f ≡ listed_table es f = rw other refl in
    rw (here, paired_others e es fs p.1) refl

same_day : (d : ℤ) → int_eq d d ≡ true
same_day d = grind (arith, ints)

-- a fact is itself
pub same_fact : (f : Fact) → fact_eq f f ≡ true
same_fact f =
    let kind : (kind_number f.kind == kind_number f.kind) ≡ true = eq-eqb (kind_number f.kind) (kind_number f.kind) refl
    in
    let place : (place_number f.place == place_number f.place) ≡ true = eq-eqb (place_number f.place)
    (place_number f.place) refl in
    rw (kind, place, same_day f.day) refl

-- distinct facts with their values are the pairs again
pub paired_again : (es : List (Fact × ℤ)) → IsTrue (are_distinct (facts_of es))
    → paired (listed_table es) (facts_of es) ≡ es
paired_again [] h = refl
paired_again (e ∷ es) h =
    let p = not_and (list_any (fact_eq e.0) (facts_of es)) (are_distinct (facts_of es)) h in
    let here : listed_table (e ∷ es) e.0 ≡ e.1 = rw (same_fact e.0) refl in
    rw (here, paired_others e es (facts_of es) p.0, paired_again es p.1) refl

-- a Yes over listed facts that stand
certified : (version : Version) (words text : List ℕ) (es : List (Fact × ℤ)) (r : Result Request Rule)
    (why : Option Reason) → request_of version words ≡ r
    → (why ≡ None → AllStand es) → IsTrue (are_distinct (facts_of es))
    → verdict_on_request version r why es text ≡ Yes → IsCertified version words text es
certified version words text es (Err rule) why asked stand distinct h = cc
certified version words text es (Ok request) (Some reason) asked stand distinct h = cc
certified version words text es (Ok request) None asked stand distinct h =
    on_trace (trace_after (facts_of es) (values_of es) [] (rule_of version request)) refl h
  where
    on_text : (x : Resolved) (t : Bool) → pointwise nat_eq (result_text x) text ≡ t
        → trace_after (facts_of es) (values_of es) [] (rule_of version request) ≡ traced x (facts_of es)
        → verdict_on_text x text ≡ Yes
        → IsCertified version words text es
    on_text x true e k l = record {
      found = x;
      is_right = rw asked (record {
        at_each_depth = λ n deep. rw (paired_again es distinct) at
            (finds_traced n deep es (stand refl) (rule_of version request) [] (facts_of es) x k);
      });
      shows = sym (same_text (result_text x) text (sym e));
      stand = stand refl;
    }
    on_text x false e k l = let no : verdict_on_text x text ≡ No (Date x) = rw e refl in cc

    on_list : (x : Resolved) (asked_facts : List Fact) (o : Option ℕ) → difference 1 asked_facts (facts_of es) ≡ o
        → trace_after (facts_of es) (values_of es) [] (rule_of version request) ≡ traced x asked_facts
        → verdict_on_list o x text ≡ Yes
        → IsCertified version words text es
    on_list x asked_facts None e k l =
        let same : asked_facts ≡ facts_of es = no_difference 1 asked_facts (facts_of es) e in
        on_text x (pointwise nat_eq (result_text x) text) refl (rw same at k) l
    on_list x asked_facts (Some place) e k l = cc

    on_trace : (t : Trace Resolved) → trace_after (facts_of es) (values_of es) [] (rule_of version request) ≡ t
        → verdict_on_trace (facts_of es) t text ≡ Yes → IsCertified version words text es
    on_trace (missing f) e k = cc
    on_trace (traced x asked_facts) e k = on_list x asked_facts (difference 1 asked_facts (facts_of es)) refl e k

-- a Yes says that what the line shows is certified
pub yes_certified : (version : Version) (facts : List (Fact × ℤ)) (answers : List Answer) (words text numbers : List ℕ)
    → IsTrue (are_distinct (facts_of facts)) → are_of_facts (length facts) [] numbers ≡ true
    → AreRightAnswers facts answers
    → verdict_on version facts answers words text numbers ≡ Yes
    → IsCertified version words text (numbered facts numbers)
unfolding verdict_on
yes_certified version facts answers words text numbers distinct apart right h =
    certified version words text (numbered facts numbers) (request_of version words)
    (first_unanswered facts answers numbers) refl
    (λ none. all_stand facts answers numbers right none)
    (listed_distinct facts (length facts) numbers distinct (numbers_within _ [] numbers apart)
    (numbers_apart _ [] numbers apart))
    h

-- and so it is of each line
pub yes_line : (version : Version) (facts : List (Fact × ℤ)) (answers : List Answer) (l : CertLine)
    → IsTrue (are_distinct (facts_of facts))
    → are_of_facts (length facts) [] (listed l) ≡ true → AreRightAnswers facts answers
    → verdict_of version facts answers l ≡ Yes → IsCertifiedLine version facts l
yes_line version facts answers (line.Shown echo result numbers) distinct apart right h =
    yes_certified version facts answers (words_of_echo echo) result numbers distinct apart right h
yes_line version facts answers (line.TooFar echo day numbers) distinct apart right h =
    yes_certified version facts answers (words_of_echo echo) (too_far_text day) numbers distinct apart right h
yes_line version facts answers (line.NoDate echo back numbers) distinct apart right h =
    yes_certified version facts answers (words_of_echo echo) (no_date_text back) numbers distinct apart right h
yes_line version facts answers (line.Refused rule) distinct apart right h = cc
yes_line version facts answers (line.Undecided fact at) distinct apart right h = cc
yes_line version facts answers (line.Void fact site) distinct apart right h = cc

-- an answer that is the verdict of a line certifies it where it is Yes
pub yes_answer : {E : Type 0} (version : Version) (facts : List (Fact × ℤ)) (answers : List Answer) (l : CertLine)
    (result : Result Verdict E)
    → IsTrue (are_distinct (facts_of facts)) → are_of_facts (length facts) [] (listed l) ≡ true
    → AreRightAnswers facts answers
    → IfOk result (λ v. v ≡ verdict_of version facts answers l)
    → IfOk result (λ v. v ≡ Yes → IsCertifiedLine version facts l)
yes_answer version facts answers l (Ok v) distinct apart right h = λ yes_is. yes_line version facts answers l distinct
    apart right (sym h ∙ yes_is)
yes_answer version facts answers l (Err e) distinct apart right h = tt
