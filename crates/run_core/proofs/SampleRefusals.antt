-- No line of a sample is refused. A sample's request names a day by its number, within what a line may name, so its
-- rule is that of what is shown: by induction over the questions of the inquiry, with each outcome of a fact's run, its
-- result shows something. That holds of the request of each state, and along the states of the generator.
use Rattle.std.proofs.Common.{◌≡◌, ◌∙◌, ℕ, zero, suc, ◌+◌, true, false, List, [], ◌∷◌, length, filter, map, refl, arith}
use Rattle.std.specs.Prelude.{Ok, pos, ℤ}
use Rattle.almanac_core.specs.Sample.{state_after, day_by, asked_at, sample_line_of, sample_from, IsSampleDay}
use Rattle.almanac_core.proofs.Samples.{sample_day}
use Rattle.almanac_core.proofs.SampleDays.{in_reach, sample_checked}
use Rattle.almanac_core.proofs.SpelledRequests.{sample_spelled}
use Rattle.book_model.specs.declared.fact.Fact.{Fact}
use Rattle.book_model.specs.declared.request.Fields.{Fields}
use Rattle.book_model.specs.declared.request.Request.{Request}
use Rattle.book_model.specs.declared.request.Resolved.{Resolved}
use Rattle.book_model.specs.declared.request.Resolved.TheVariants.{Shown}
use Rattle.book_model.specs.declared.version.TheConstants.{WRITTEN}
use Rattle.book_model.specs.declared.words.Meaning.{Meaning}
use Rattle.book_model.specs.declared.words.Meaning.TheVariants.{Date, Value}
use Rattle.book_model.specs.declared.words.FromWord.TheVariants as from
use Rattle.book_model.specs.declared.words.ToWord.{ToWord}
use Rattle.book_model.specs.calendars.Dates.{one_field, date_on}
use Rattle.book_model.specs.calendars.Inquiries.{Inquiry, done, ask, and_then, found, found_at, finding, finding_after}
use Rattle.book_model.specs.calendars.Inquiries.{with_entry}
use Rattle.book_model.specs.lines.LineRules.{rule_of, result_of_day, result_within, shown_on, fact_on}
use Rattle.book_model.specs.lines.Outcomes.{LineOutcome, refused, resolved, undecided, void, IsRightFor, IsRightForRow}
use Rattle.book_model.specs.lines.Outcomes.{AreRight, is_shown}
use Rattle.book_model.specs.lines.Requests.{AreSpelled, IsSpelled, fields_with, request_of}
use Rattle.book_model.specs.lines.Text.{line_text}
use Rattle.book_model.specs.lines.Words.{shown_by}
use Rattle.book_model.specs.programs.Programs.{Outcome, outcome, valued, void_at, undecided_test_at}
use Rattle.book_model.specs.sky.Facts.{run_of}
use Rattle.line_core.proofs.TextRead.{text_is_read}
use Rattle.conversion.specs.Counting.{is_refused}
use Rattle.run_core.specs.Laws.{HasNoRefusal}

-- the request for a day number
abbrev day_request : ℕ → ToWord → Request
day_request n to = record { from = from.Fixed; date = fields_with (n ∷ []); to = to }

-- what is shown of an inquiry's result is a result
shown_found : (n : ℕ) (seen : List (Fact × ℤ)) (i : Inquiry Fields) (to : ToWord) (x : Resolved) (es : List (Fact × ℤ))
    → finding_after n seen (and_then i (λ fields. done (Shown to fields))) ≡ found x es → is_shown x ≡ true
unfolding finding_after and_then
shown_found n seen (done fields) to x es h = let e : Shown to fields ≡ x = cc in rw (← e) refl
shown_found n seen (ask f next) to x es h = by (outcome (run_of n f))
    (λ v k. shown_found n (with_entry seen f v) (next v) to x es k) h
  where
    by : (o : Outcome ℤ)
        → ((v : ℤ) → finding_after n (with_entry seen f v) (and_then (next v) (λ fields. done (Shown to fields)))
        ≡ found x es → is_shown x
        ≡ true)
        → found_at f o
        (λ v. finding_after n (with_entry seen f v) (and_then (next v) (λ fields. done (Shown to fields)))) ≡ found x
        es → is_shown x ≡ true
    by (valued v) rest k = rest v k
    by (void_at s) rest k = absurd (cc)
    by (undecided_test_at s) rest k = absurd (cc)

value_found : (n : ℕ) (f : Fact) (to : ToWord) (x : Resolved) (es : List (Fact × ℤ))
    → finding n (ask f (λ v. done (Shown to (one_field v)))) ≡ found x es
    → is_shown x ≡ true
unfolding finding_after
value_found n f to x es h = by (outcome (run_of n f)) h
  where
    by : (o : Outcome ℤ) → found_at f o (λ v. found (Shown to (one_field v)) (with_entry [] f v)) ≡ found x es
        → is_shown x ≡ true
    by (valued v) k = let e : Shown to (one_field v) ≡ x = cc in rw (← e) refl
    by (void_at s) k = absurd (cc)
    by (undecided_test_at s) k = absurd (cc)

result_shown : (n : ℕ) (to : ToWord) (s : Meaning) (day : ℤ) (x : Resolved) (es : List (Fact × ℤ))
    → finding n (shown_on to s day) ≡ found x es
    → is_shown x ≡ true
result_shown n to (Date c) day x es h = shown_found n [] (date_on c day) to x es h
result_shown n to (Value kind place) day x es h = value_found n (fact_on kind place day) to x es h

day_rule : (n : ℕ) (to : ToWord) → IsSampleDay n → rule_of WRITTEN (day_request n to) ≡ shown_on to (shown_by to)
    (pos n)
unfolding rule_of result_of_day result_within and_then
day_rule n to day = rw (in_reach n to day) refl

request_not_refused : (n : ℕ) (to : ToWord) (o : LineOutcome) → IsSampleDay n
    → IsRightForRow WRITTEN (Ok (day_request n to)) o → is_refused o ≡ false
request_not_refused n to (refused rule) day h = absurd h
request_not_refused n to (undecided f u) day h = refl
request_not_refused n to (void f s) day h = refl
request_not_refused n to (resolved x es) day h =
    let result : finding 40 (rule_of WRITTEN (day_request n to)) ≡ found x es = h.at_each_depth 40 (omega arith) in
    let shown : is_shown x ≡ true = result_shown 40 to (shown_by to) (pos n) x es (rw (day_rule n to day) at result) in
    rw shown refl

-- the line of a state asks its request
sample_again : (state index : ℕ) → IsSpelled (sample_line_of state index)
    → request_of WRITTEN (line_text (sample_line_of state index))
    ≡ Ok (sample_line_of state index)
sample_again state index spelled = text_is_read WRITTEN (sample_line_of state index) spelled ∙ sample_checked
    state index

request_of_state : (state index : ℕ) (o : LineOutcome) → IsRightForRow WRITTEN (Ok (sample_line_of state index)) o
    → is_refused o ≡ false
unfolding sample_line_of
request_of_state state index o h = request_not_refused (day_by state) (asked_at index) o (sample_day state) h

sample_not_refused : (state index : ℕ) (o : LineOutcome) → IsSpelled (sample_line_of state index)
    → IsRightFor WRITTEN (line_text (sample_line_of state index)) o → is_refused o ≡ false
sample_not_refused state index o spelled h = request_of_state state index o (rw (sample_again state index spelled) at h)

none_refused : (many state index : ℕ) (os : List LineOutcome) → AreSpelled (sample_from state index many)
    → AreRight WRITTEN (map line_text (sample_from state index many)) os → length (filter is_refused os) ≡ 0
none_refused zero state index [] spelled h = refl
none_refused zero state index (o ∷ os) spelled h = absurd h
none_refused (suc many) state index [] spelled h = absurd h
none_refused (suc many) state index (o ∷ os) spelled h =
    rw (sample_not_refused (state_after state) index o spelled.0 h.0)
    (none_refused many (state_after state) (index + 1) os spelled.1 h.1)

pub no_refusal : (count seed : ℕ) → HasNoRefusal count seed
no_refusal count seed = λ os h. none_refused count seed 0 os (sample_spelled count seed) h
