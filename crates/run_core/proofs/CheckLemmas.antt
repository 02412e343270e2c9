-- Verdicts, one further. The loop's invariant is an equation: what was written, what waits, the verdicts of the lines
-- that are left and the counts are the whole text; and each count, with those of the lines left, is the whole count.
-- The lemmas take one line from the rest, put it behind what waits, and say what is there at the end and, where a write
-- fails, that it is a prefix. The others join what a file and its reading say to what comes of bytes.
use Rattle.std.proofs.Common.{◌≡◌, inl, inr, ℕ, suc, ℤ, ◌+◌, ◌<◌, ◌≤◌, ◌==◌, ◌&&◌, Bool, true, false, cond, List}
use Rattle.std.proofs.Common.{[], ◌∷◌, ◌++◌, length, drop, filter, get_or, map, refl}
use Rattle.std.proofs.Common.{append_assoc, append-nil, arith}
use Rattle.std.proofs.lemmas.Bool.Decides.{nat_tests}
use Rattle.std.proofs.lemmas.Grind.{common_steps}
use Rattle.std.proofs.lemmas.List.{drop_more}
use Rattle.std.proofs.lemmas.Result.{IfOk-weaker}
use Rattle.std.specs.Prelude.{Result, Err, IsErrOf}
use Rattle.std.specs.List.{list_all, AllZip}
use Rattle.book_model.specs.declared.fact.Fact.{Fact}
use Rattle.oracle_core.specs.Answers.{IsRightAnswer}
use Rattle.std.specs.declared.option.Option.{Option}
use Rattle.std.specs.Io.KnownBytes.{Appends}
use Rattle.oracle_core.specs.declared.evaluator.Answer.{Answer}
use Rattle.cert_parser.specs.declared.lines.CertFile.{CertFile}
use Rattle.cert_text.specs.declared.line.CertLine.TheVariants.{Refused}
use Rattle.cert_parser.specs.declared.read.ReadFail.{ReadFail}
use Rattle.cert_parser.specs.declared.read.ReadFail.TheVariants.{Bad, Memory}
use Rattle.cert_parser.specs.Reading.{Answers, Reading, bad, file, grammar_of}
use Rattle.byte_streams.specs.Stream.{Wrote, AppendsPrefix}
use Rattle.byte_streams.proofs.Flow.{buffered_on, buffered_prefix}
use Rattle.cert_check.specs.declared.verdict.Verdict.{Verdict}
use Rattle.cert_check.specs.declared.verdict.Verdict.TheVariants.{Yes, No, Skip}
use Rattle.cert_check.specs.Verdicts.{AreRightAnswers, IsCheckable, line_at, verdict_of}
use Rattle.cert_check.proofs.Certified.{yes_line}
use Rattle.conversion.specs.declared.text.WriteStop.{WriteStop}
use Rattle.conversion.specs.Writing.{Performs}
use Rattle.run_core.specs.declared.check.Checked.{Checked}
use Rattle.run_core.specs.declared.check.Checked.TheVariants.{AllYes, NotAll, BadText}
use Rattle.run_core.specs.Checking.{verdict_text, verdicts_after, verdicts_of, verdicts_text, is_yes, is_no, is_skip}
use Rattle.run_core.specs.Checking.{with_one, AreVerdictsFrom, ChecksFile, Comes, RefusesText, TellsFail, CutsFail}
use Rattle.run_core.specs.Checking.{bad_text, checked}

-- what comes of one item more is added
pub mapped_on : {X Y : Type 0} (f : X → Y) (ys now : List Y) (y : Y) (i : ℕ) (xs : List X) (d : X) (all : List Y)
    → i < length xs → y ≡ f (get_or xs i d)
    → ys ++ map f (drop i xs) ≡ all → now ≡ ys ++ y ∷ [] → now ++ map f (drop (i + 1) xs) ≡ all
mapped_on f ys now y i xs d all h is old added =
    let grouped : ys ++ (f (get_or xs i d) ∷ map f (drop (i + 1) xs)) ≡ all = rw (drop_more xs i d h) at old in
    rw (added, append_assoc, is) grouped

-- where no item is left, all is there
pub mapped_whole : {X Y : Type 0} (f : X → Y) (ys : List Y) (i : ℕ) (xs : List X) (all : List Y) → length xs ≤ i
    → ys ++ map f (drop i xs) ≡ all → ys ≡ all
mapped_whole f ys i xs all h old =
    let over : drop i xs ≡ [] = grind (arith, common_steps) in
    rw append-nil at (rw over at old)

-- the verdicts of the lines of a file from one on
abbrev pub verdicts_from : CertFile → List Answer → ℕ → List Verdict
verdicts_from f answers i = map (verdict_of f.version f.facts answers) (drop i f.lines)

-- that of the next line is the first of them
pub next_verdict : (f : CertFile) (answers : List Answer) (i : ℕ) (v : Verdict) → i < length f.lines
    → v ≡ verdict_of f.version f.facts answers (line_at f i)
    → verdicts_from f answers i ≡ v ∷ verdicts_from f answers (i + 1)
next_verdict f answers i v h is = rw (drop_more f.lines i (Refused 0) h, is) refl

-- behind the last line there is none
pub no_verdict : (f : CertFile) (answers : List Answer) (i : ℕ) → length f.lines ≤ i → verdicts_from f answers i ≡ []
no_verdict f answers i h =
    let over : drop i f.lines ≡ [] = grind (arith, common_steps) in
    rw over refl

verdicts_split : (i : ℕ) (v : Verdict) (rest : List Verdict) (counts : List ℕ) → verdicts_after i (v ∷ rest) ++ counts
    ≡ verdict_text (i + 1) v ++ (verdicts_after (i + 1) rest ++ counts)
verdicts_split i v rest counts = append_assoc (verdict_text (i + 1) v) (verdicts_after (i + 1) rest) counts

-- one more verdict is put
pub verdicts_on : (a b c : Option (List ℕ)) (t w w' : List ℕ) (i : ℕ) (left rest : List Verdict) (v : Verdict)
    (counts : List ℕ) → left ≡ v ∷ rest
    → Wrote a b t (w ++ (verdicts_after i left ++ counts)) → Wrote b c (w ++ verdict_text (i + 1) v) w'
    → Wrote a c t (w' ++ (verdicts_after (i + 1) rest ++ counts))
verdicts_on a b c t w w' i left rest v counts is old new = buffered_on a b c t w _ w' _
    (rw (is, verdicts_split i v rest counts) at old) new

-- a prefix of one more verdict is put
pub verdicts_prefix : (a b c : Option (List ℕ)) (t w : List ℕ) (i : ℕ) (left rest : List Verdict) (v : Verdict)
    (counts : List ℕ) → left ≡ v ∷ rest
    → Wrote a b t (w ++ (verdicts_after i left ++ counts)) → AppendsPrefix b c (w ++ verdict_text (i + 1) v)
    → AppendsPrefix a c t
verdicts_prefix a b c t w i left rest v counts is old new = buffered_prefix a b c t w _ _
    (rw (is, verdicts_split i v rest counts) at old) new

-- after the last verdict the counts are left
pub verdicts_end : (a b : Option (List ℕ)) (t w : List ℕ) (i : ℕ) (left : List Verdict) (counts : List ℕ) → left ≡ []
    → Wrote a b t (w ++ (verdicts_after i left ++ counts)) → Wrote a b t (w ++ counts)
verdicts_end a b t w i left counts none old = rw none at old

-- where no verdict is left, all are counted
pub all_counted : (p : Verdict → Bool) (n whole : ℕ) (left : List Verdict) → left ≡ []
    → n + length (filter p left) ≡ whole → n ≡ whole
all_counted p n whole left none h = let k : n + length (filter p []) ≡ whole = rw none at h in omega arith

-- one more of the verdicts behind a count is put
pub verdict_on : (a b c : Option (List ℕ)) (t w w' : List ℕ) (n i : ℕ) (left rest : List Verdict) (v : Verdict)
    → left ≡ v ∷ rest
    → Wrote a b t (w ++ verdicts_after (n + i) left) → Wrote b c (w ++ verdict_text (n + i + 1) v) w'
    → Wrote a c t (w' ++ verdicts_after (n + (i + 1)) rest)
verdict_on a b c t w w' n i left rest v is old new =
    let e : n + (i + 1) ≡ n + i + 1 = omega arith in
    rw e (buffered_on a b c t w (verdict_text (n + i + 1) v) w' (verdicts_after (n + i + 1) rest) (rw is at old) new)

-- a prefix of one more of them is put
pub verdict_prefix : (a b c : Option (List ℕ)) (t w : List ℕ) (n i : ℕ) (left rest : List Verdict) (v : Verdict)
    → left ≡ v ∷ rest
    → Wrote a b t (w ++ verdicts_after (n + i) left) → AppendsPrefix b c (w ++ verdict_text (n + i + 1) v)
    → AppendsPrefix a c t
verdict_prefix a b c t w n i left rest v is old new = buffered_prefix a b c t w (verdict_text (n + i + 1) v)
    (verdicts_after (n + i + 1) rest) (rw is at old) new

-- where none is left, all are put
pub verdicts_put : (a b : Option (List ℕ)) (t w : List ℕ) (n i : ℕ) (vs : List Verdict) → length vs ≤ i
    → Wrote a b t (w ++ verdicts_after (n + i) (drop i vs)) → Wrote a b t w
verdicts_put a b t w n i vs h old =
    let over : drop i vs ≡ [] = grind (arith, common_steps) in
    rw append-nil at (rw over at old)

-- where none is left, all are counted
pub counts_put : (p : Verdict → Bool) (n whole i : ℕ) (vs : List Verdict) → length vs ≤ i
    → n + length (filter p (drop i vs)) ≡ whole → n ≡ whole
counts_put p n whole i vs h old =
    let over : drop i vs ≡ [] = grind (arith, common_steps) in
    all_counted p n whole (drop i vs) over old

-- verdicts behind a count, of two lists
verdicts_joined : (n : ℕ) (vs ws : List Verdict)
    → verdicts_after n (vs ++ ws) ≡ verdicts_after n vs ++ verdicts_after (n + length vs) ws
verdicts_joined n [] ws = let e : n + 0 ≡ n = omega arith in rw e refl
verdicts_joined n (v ∷ vs) ws =
    let e : n + suc (length vs) ≡ n + 1 + length vs = omega arith in
    rw (e, append_assoc, verdicts_joined (n + 1) vs ws) refl

-- how many of two lists there are
both_counted : (p : Verdict → Bool) (vs ws : List Verdict)
    → length (filter p (vs ++ ws)) ≡ length (filter p vs) + length (filter p ws)
both_counted p [] ws = omega arith
both_counted p (v ∷ vs) ws = step (p v) (both_counted p vs ws)
  where
    step : (t : Bool) → length (filter p (vs ++ ws)) ≡ length (filter p vs) + length (filter p ws)
        → length (cond t (v ∷ filter p (vs ++ ws)) (filter p (vs ++ ws)))
        ≡ length (cond t (v ∷ filter p vs) (filter p vs)) + length (filter p ws)
    step true h = omega (arith, h)
    step false h = h

-- ---- rounds
later_verdicts : (f : CertFile) (answers : List Answer) (i : ℕ) (v : Verdict) (vs : List Verdict)
    → AreVerdictsFrom f answers i (v ∷ vs) → AreVerdictsFrom f answers (i + 1) vs
later_verdicts f answers i v vs h k d within =
    let e : i + 1 + k ≡ i + suc k = omega arith in
    rw e (h (suc k) d (omega (arith, within)))

-- the verdicts of a round and those of the lines behind it
pub round_of : (f : CertFile) (answers : List Answer) (i : ℕ) (vs : List Verdict) → AreVerdictsFrom f answers i vs
    → i + length vs ≤ length f.lines
    → verdicts_from f answers i ≡ vs ++ verdicts_from f answers (i + length vs)
round_of f answers i [] h within = let e : i + 0 ≡ i = omega arith in rw e refl
round_of f answers i (v ∷ vs) h within =
    let e : i + 0 ≡ i = omega arith in
    let is : v ≡ verdict_of f.version f.facts answers (line_at f i) = rw e at (h 0 v (omega arith)) in
    let next = next_verdict f answers i v (omega (arith, within)) is in
    let rest = round_of f answers (i + 1) vs (later_verdicts f answers i v vs h) (omega (arith, within)) in
    let s : i + suc (length vs) ≡ i + 1 + length vs = omega arith in
    rw (s, next, rest) refl

-- the same, of so many that were found
pub round_next : (f : CertFile) (answers : List Answer) (i n : ℕ) (vs found : List Verdict) → vs ≡ found
    → AreVerdictsFrom f answers i found → length found ≡ n → i + n ≤ length f.lines
    → verdicts_from f answers i ≡ vs ++ verdicts_from f answers (i + n)
round_next f answers i n vs found is h many within =
    rw (is, ← many) (round_of f answers i found h (omega (arith, many, within)))

-- a round is put
pub round_on : (a b c : Option (List ℕ)) (t w w' : List ℕ) (i n : ℕ) (left rest vs : List Verdict) (counts : List ℕ)
    → left ≡ vs ++ rest → n ≡ i + length vs
    → Wrote a b t (w ++ (verdicts_after i left ++ counts)) → Wrote b c (w ++ verdicts_after i vs) w'
    → Wrote a c t (w' ++ (verdicts_after n rest ++ counts))
round_on a b c t w w' i n left rest vs counts is e old new =
    let split : Wrote a b t (w ++ (verdicts_after i vs ++ (verdicts_after (i + length vs) rest ++ counts))) =
    rw (is, verdicts_joined i vs rest, append_assoc) at old in
    rw e (buffered_on a b c t w (verdicts_after i vs) w' (verdicts_after (i + length vs) rest ++ counts) split new)

-- a prefix of a round is put
pub round_prefix : (a b c : Option (List ℕ)) (t w : List ℕ) (i : ℕ) (left rest vs : List Verdict) (counts : List ℕ)
    → left ≡ vs ++ rest
    → Wrote a b t (w ++ (verdicts_after i left ++ counts)) → AppendsPrefix b c (w ++ verdicts_after i vs)
    → AppendsPrefix a c t
round_prefix a b c t w i left rest vs counts is old new =
    let split : Wrote a b t (w ++ (verdicts_after i vs ++ (verdicts_after (i + length vs) rest ++ counts))) =
    rw (is, verdicts_joined i vs rest, append_assoc) at old in
    buffered_prefix a b c t w (verdicts_after i vs) (verdicts_after (i + length vs) rest ++ counts) split new

-- a round is counted
pub round_counted : (p : Verdict → Bool) (n now whole : ℕ) (left rest vs : List Verdict) → left ≡ vs ++ rest
    → n + length (filter p left) ≡ whole → now ≡ n + length (filter p vs)
    → now + length (filter p rest) ≡ whole
round_counted p n now whole left rest vs is old added =
    let both : n + (length (filter p vs) + length (filter p rest)) ≡ whole = rw (is, both_counted p vs rest) at old in
    omega (arith, both, added)

-- one more verdict is counted, or isn't
pub counted : (p : Verdict → Bool) (n now whole : ℕ) (left rest : List Verdict) (v : Verdict) → left ≡ v ∷ rest
    → n + length (filter p left) ≡ whole
    → now ≡ with_one (p v) n → now + length (filter p rest) ≡ whole
counted p n now whole left rest v is old added = step (p v) (rw is at old) added
  where
    step : (t : Bool) → n + length (cond t (v ∷ filter p rest) (filter p rest)) ≡ whole → now ≡ with_one t n
        → now + length (filter p rest) ≡ whole
    step true h k = omega arith
    step false h k = omega arith

-- a count grows by one at most
pub one_more : (t : Bool) (n now i : ℕ) → n ≤ i → now ≡ with_one t n → now ≤ i + 1
one_more true n now i h k = omega arith
one_more false n now i h k = omega arith

-- all are yes where none is a no or a skip
some : (n : ℕ) → (suc n == 0) ≡ false
some n = grind (arith, nat_tests)

pub all_yes : (vs : List Verdict) → ((length (filter is_no vs) == 0) && (length (filter is_skip vs) == 0)) ≡ list_all
    is_yes vs
all_yes [] = refl
all_yes (Yes ∷ vs) = all_yes vs
all_yes (No reason ∷ vs) = rw (some (length (filter is_no vs))) refl
all_yes (Skip ∷ vs) = rw (some (length (filter is_skip vs))) (neither (length (filter is_no vs) == 0))
  where
    neither : (t : Bool) → (t && false) ≡ false
    neither true = refl
    neither false = refl

-- what is left to write is a rest
pub prefix_written : (a b : Option (List ℕ)) (t r : List ℕ) → Wrote a b t r → AppendsPrefix a b t
prefix_written a b t r w = record { rest = r; wrote = w }

-- answers that are right for the facts of pairs, in order
pub right_answers : (es : List (Fact × ℤ)) (answers : List Answer) → AllZip IsRightAnswer (map (λ pair. pair.0) es)
    answers → AreRightAnswers es answers
right_answers [] [] h = tt
right_answers [] (a ∷ rest) h = absurd h
right_answers (e ∷ es) [] h = absurd h
right_answers (e ∷ es) (a ∷ rest) h = (h.0, right_answers es rest h.1)

-- the verdicts of the lines of a file are written, and what a line with a yes shows is certified
pub checks_file : (old new : Option (List ℕ)) (f : CertFile) (answers : List Answer) (all : Bool) → IsCheckable f
    → AreRightAnswers f.facts answers
    → Appends old new (verdicts_text (verdicts_of f answers))
    → all ≡ list_all is_yes (verdicts_of f answers) → ChecksFile old new f all
checks_file old new f answers all checkable right written all_are = record {
  answers = answers;
  right = right;
  written = written;
  yes = all_are;
  certified = λ i h e. yes_line f.version f.facts answers (line_at f i) checkable.distinct (checkable.numbers i) right
      e;
}

-- what comes of a file that is checked
pub checks_come : (old new : Option (List ℕ)) (input : List ℕ) (f : CertFile) (all : Bool) → grammar_of input ≡ file f
    → ChecksFile old new f all
    → Comes old new input (checked all)
checks_come old new input f true h k = record { of = f; read = h; checks = k }
checks_come old new input f false h k = record { of = f; read = h; checks = k }

-- an early return is the same whatever would have been answered
same_stop : {T U : Type 0} (stop other : WriteStop) → IsErrOf {T = T} (Err stop) other
    → IsErrOf {T = U} (Err stop) other
same_stop stop other h = let same : stop ≡ other = cc in rw same refl

-- ---- what is the same of a file that is checked and of one that is upgraded
-- a call stopped within another, of which there is more to tell
pub stopped_within : {S T U : Type 0} {written : S → Option (List ℕ)} {faults : S → ℕ} {old new : S} {done : T → Type 0}
    {finished : U → Type 0}
    {prefix cut : Type 0} (stop : WriteStop) → (prefix → cut) → Performs written faults old new done prefix (Err stop)
    → Performs written faults old new finished cut (Err stop)
stopped_within stop more h = record {
  ok = tt;
  fault = λ e. more (h.fault (same_stop _ _ e));
  memory = λ e. elim (h.memory (same_stop _ _ e)) [ inl kept ↦ inl kept | inr prefix ↦ inr (more prefix) ];
  cause = λ e. h.cause (same_stop _ _ e);
  later = h.later;
}

-- the line stands there that says why bytes aren't such a file
told : (fail : ReadFail) (reading : Reading) (old new : Option (List ℕ)) (is : Checked) → Answers (Err fail) reading
    → TellsFail fail old new is
    → (is ≡ BadText) × RefusesText reading old new
told (Bad line rule) reading old new AllYes h k = absurd k
told (Bad line rule) reading old new NotAll h k = absurd k
told (Bad line rule) reading old new BadText h k = (refl, record { line = line; rule = rule; read = h; written = k })
told Memory reading old new is h k = absurd k

-- or a prefix of it
told_prefix : (fail : ReadFail) (reading : Reading) (old new : Option (List ℕ)) {cut : Type 0}
    → Answers (Err fail) reading
    → ((line rule : ℕ) → reading ≡ bad line rule → AppendsPrefix old new (bad_text line rule) → cut)
    → CutsFail fail old new → cut
told_prefix (Bad line rule) reading old new h prefix k = prefix line rule h k
told_prefix Memory reading old new h prefix k = absurd k

-- and that is what comes of the bytes
pub refused : {S : Type 0} {written : S → Option (List ℕ)} {faults : S → ℕ} {old new : S} {comes : Checked → Type 0}
    {cut : Type 0} {r : Result Checked WriteStop}
    (fail : ReadFail) (reading : Reading) → Answers (Err fail) reading
    → (RefusesText reading (written old) (written new) → comes BadText)
    → ((line rule : ℕ) → reading ≡ bad line rule → AppendsPrefix (written old) (written new) (bad_text line rule) → cut)
    → Performs written faults old new (TellsFail fail (written old) (written new))
    (CutsFail fail (written old) (written new)) r
    → Performs written faults old new comes cut r
refused {written = written} {old = old} {new = new} {comes = comes} {r = r} fail reading h refuses prefix k = record {
  ok = IfOk-weaker r _ _ (λ is t. let bad_one = told fail reading _ _ is h t in rw bad_one.0 (refuses bad_one.1)) k.ok;
  fault = λ e. told_prefix fail reading _ _ h prefix (k.fault e);
  memory = λ e. elim (k.memory e) [
    | inl kept ↦ inl kept
    | inr told_so ↦ inr
        (told_prefix fail reading _ _ h prefix told_so)
  ];
  cause = k.cause;
  later = k.later;
}
