-- The facts that a line lists, by their numbers.
use Rattle.std.proofs.Common.{◌≡◌, ℕ, zero, suc, ◌+◌, ◌-◌, ◌<◌, ◌≤◌, Bool, true, false, ◌||◌, refl, List, [], ◌∷◌, ◌++◌}
use Rattle.std.proofs.Common.{length, get_or, drop, take, arith, ap, append_assoc, ℤ}
use Rattle.std.proofs.lemmas.Int.{ints}
use Rattle.std.specs.Prelude.{Some, None, Option, slice_get, IsTrue, if◌then◌else◌}
use Rattle.std.specs.Ordering.{int_eq}
use Rattle.std.specs.List.{list_any}
use Rattle.std.proofs.lemmas.List.{drop_more, take_more}
use Rattle.book_model.specs.declared.fact.Fact.{Fact}
use Rattle.book_model.specs.calendars.Inquiries.{fact_eq}
use Rattle.oracle_core.specs.declared.evaluator.Answer.{Answer}
use Rattle.oracle_core.specs.declared.evaluator.Answer.TheVariants as answer
use Rattle.oracle_core.specs.Answers.{IsRightAnswer}
use Rattle.oracle_core.specs.Pairs.{StandsWith, AllStand, facts_of, are_distinct, AreFactValues}
use Rattle.oracle_core.proofs.Listing.{other_way, not_and, passed_over}
use Rattle.cert_parser.specs.Grammar.{or_else}
use Rattle.cert_check.specs.declared.verdict.Reason.{Reason}
use Rattle.cert_check.specs.Listed.{AreNumbers}
use Rattle.cert_check.specs.Verdicts.{AreRightAnswers, values_of, onto, numbered, reason_of, unanswered}
use Rattle.cert_check.specs.Verdicts.{first_unanswered}
use Rattle.cert_check.proofs.Numbers.{NoneIs, AreApart}

-- the facts of the entry with the next number
pub facts_on : (es : List (Fact × ℤ)) (ns : List ℕ) (i d : ℕ) (old new : List Fact) (e : Fact × ℤ) → i < length ns
    → Some e ≡ slice_get es (get_or ns i d - 1)
    → old ++ facts_of (numbered es (drop i ns)) ≡ facts_of (numbered es ns) → new ≡ old ++ e.0 ∷ []
    → new ++ facts_of (numbered es (drop (i + 1) ns))
    ≡ facts_of (numbered es ns)
facts_on es ns i d old new e h item so_far pushed =
    let parts : facts_of (numbered es (drop i ns)) ≡ e.0 ∷ facts_of (numbered es (drop (i + 1) ns)) =
    rw (drop_more ns i d h, ← item) refl in
    rw (pushed, append_assoc) (rw parts at so_far)

-- and its value
pub values_on : (es : List (Fact × ℤ)) (ns : List ℕ) (i d : ℕ) (old new : List ℤ) (e : Fact × ℤ) → i < length ns
    → Some e ≡ slice_get es (get_or ns i d - 1)
    → old ++ values_of (numbered es (drop i ns)) ≡ values_of (numbered es ns) → new ≡ old ++ e.1 ∷ []
    → new ++ values_of (numbered es (drop (i + 1) ns))
    ≡ values_of (numbered es ns)
values_on es ns i d old new e h item so_far pushed =
    let parts : values_of (numbered es (drop i ns)) ≡ e.1 ∷ values_of (numbered es (drop (i + 1) ns)) =
    rw (drop_more ns i d h, ← item) refl in
    rw (pushed, append_assoc) (rw parts at so_far)

-- the entry with the next number was answered by its value
pub answered_on : (es : List (Fact × ℤ)) (rs : List Answer) (ns : List ℕ) (i d : ℕ) (e : Fact × ℤ) (a : Answer)
    → i < length ns → Some e
    ≡ slice_get es (get_or ns i d - 1) → Some a ≡ slice_get rs (get_or ns i d - 1)
    → None ≡ reason_of (get_or ns i d) e a → first_unanswered es rs (drop i ns) ≡ first_unanswered es rs ns
    → first_unanswered es rs (drop (i + 1) ns)
    ≡ first_unanswered es rs ns
answered_on es rs ns i d e a h item answer none so_far = rw (drop_more ns i d h, ← item, ← answer, ← none) at so_far

-- or it wasn't, and is the first such
pub unanswered_on : (es : List (Fact × ℤ)) (rs : List Answer) (ns : List ℕ) (i d : ℕ) (e : Fact × ℤ) (a : Answer)
    (why : Reason) → i < length ns → Some e
    ≡ slice_get es (get_or ns i d - 1) → Some a ≡ slice_get rs (get_or ns i d - 1)
    → Some why ≡ reason_of (get_or ns i d) e a → first_unanswered es rs (drop i ns) ≡ first_unanswered es rs ns
    → Some why ≡ first_unanswered es rs ns
unanswered_on es rs ns i d e a why h item answer some so_far = rw (drop_more ns i d h, ← item, ← answer, ← some)
    at so_far

-- answers that are right, with one more
right_push : (es : List (Fact × ℤ)) (rs : List Answer) (e : Fact × ℤ) (a : Answer) → AreRightAnswers es rs
    → IsRightAnswer e.0 a
    → AreRightAnswers (es ++ e ∷ []) (rs ++ a ∷ [])
right_push [] [] e a all right = (right, tt)
right_push [] (b ∷ rs) e a all right = absurd all
right_push (d ∷ es) [] e a all right = absurd all
right_push (d ∷ es) (b ∷ rs) e a all right = (all.0, right_push es rs e a all.1 right)

-- the next fact has a right answer too
pub right_on : (es : List (Fact × ℤ)) (rs new : List Answer) (i : ℕ) (d : Fact × ℤ) (a : Answer) → i < length es
    → AreRightAnswers (take i es) rs
    → IsRightAnswer (get_or es i d).0 a → new ≡ rs ++ a ∷ [] → AreRightAnswers (take (i + 1) es) new
right_on es rs new i d a h all right pushed = rw (take_more es i d h, pushed)
    (right_push (take i es) rs (get_or es i d) a all right)

-- there are as many answers as facts
pub as_many_answers : (es : List (Fact × ℤ)) (rs : List Answer) → AreRightAnswers es rs → length rs ≡ length es
as_many_answers [] [] all = refl
as_many_answers [] (a ∷ rs) all = absurd all
as_many_answers (e ∷ es) [] all = absurd all
as_many_answers (e ∷ es) (a ∷ rs) all = ap suc (as_many_answers es rs all.1)

-- the answer beside an entry is right for its fact
abbrev pub IsRightBeside : Option (Fact × ℤ) → Option Answer → Type 0
IsRightBeside None a = Unit {0}
IsRightBeside (Some e) None = ⊥
IsRightBeside (Some e) (Some a) = IsRightAnswer e.0 a

pub right_beside : (es : List (Fact × ℤ)) (rs : List Answer) (i : ℕ) → AreRightAnswers es rs
    → IsRightBeside (slice_get es i) (slice_get rs i)
right_beside [] rs i all = tt
right_beside (e ∷ es) [] i all = absurd all
right_beside (e ∷ es) (a ∷ rs) zero all = all.0
right_beside (e ∷ es) (a ∷ rs) (suc i) all = right_beside es rs i all.1

same_value : (v w : ℤ) → int_eq v w ≡ true → v ≡ w
same_value v w h = grind (arith, ints, h)

-- a fact that was answered by its value, the answer being right, stands
stands : (n : ℕ) (e : Fact × ℤ) (a : Answer) → IsRightAnswer e.0 a → reason_of n e a ≡ None → StandsWith e.0 e.1
stands n e (answer.Value v) right none = step (int_eq e.1 v) refl none
  where
    step : (t : Bool) → int_eq e.1 v ≡ t
        → (if t then None else Some (Rattle.cert_check.specs.declared.verdict.Reason.TheVariants.Value n e.1 v)) ≡ None
        → StandsWith e.0 e.1
    step true same none = rw (same_value e.1 v same) (record { is_true = right.0; low = right.1.0; high = right.1.1 })
    step false same none = cc
stands n e (answer.Undecided u) right none = cc
stands n e (answer.Void s) right none = cc

neither_reason : (first rest : Option Reason) → or_else first rest ≡ None → (first ≡ None) × (rest ≡ None)
neither_reason None rest h = (refl, h)
neither_reason (Some why) rest h = cc

-- where each listed fact was answered by its value, all stand
pub all_stand : (es : List (Fact × ℤ)) (rs : List Answer) (ns : List ℕ) → AreRightAnswers es rs
    → first_unanswered es rs ns ≡ None → AllStand (numbered es ns)
all_stand es rs [] all none = tt
all_stand es rs (n ∷ ns) all none =
    let parts = neither_reason (unanswered n (slice_get es (n - 1)) (slice_get rs (n - 1))) (first_unanswered es rs ns)
    none in
    step (slice_get es (n - 1)) (slice_get rs (n - 1)) (right_beside es rs (n - 1) all) parts.0
    (all_stand es rs ns all parts.1)
  where
    step : (e : Option (Fact × ℤ)) (a : Option Answer) → IsRightBeside e a → unanswered n e a ≡ None
        → AllStand (numbered es ns)
        → AllStand (onto e (numbered es ns))
    step None a right none rest = rest
    step (Some e) None right none rest = absurd right
    step (Some e) (Some a) right none rest = (stands n e a right none, rest)

-- the value of an entry is one of a fact
abbrev IsKnown : Option (Fact × ℤ) → Type 0
IsKnown None = Unit {0}
IsKnown (Some e) = AreFactValues (e.1 ∷ [])

known_at : (es : List (Fact × ℤ)) (i : ℕ) → AreFactValues (values_of es) → IsKnown (slice_get es i)
known_at [] i all = tt
known_at (d ∷ ds) zero all = (all.0, all.1, tt)
known_at (d ∷ ds) (suc i) all = known_at ds i all.2

-- listed values are values of facts
pub listed_known : (es : List (Fact × ℤ)) (ns : List ℕ) → AreFactValues (values_of es)
    → AreFactValues (values_of (numbered es ns))
listed_known es [] known = tt
listed_known es (n ∷ ns) known = step (slice_get es (n - 1)) (known_at es (n - 1) known) (listed_known es ns known)
  where
    step : (e : Option (Fact × ℤ)) → IsKnown e → AreFactValues (values_of (numbered es ns))
        → AreFactValues (values_of (onto e (numbered es ns)))
    step None k rest = rest
    step (Some e) k rest = (k.0, k.1, rest)

-- there are as many facts as values
pub as_many_values : (es : List (Fact × ℤ)) → length (facts_of es) ≡ length (values_of es)
as_many_values [] = refl
as_many_values (e ∷ es) = ap suc (as_many_values es)

-- at most as many facts are listed as numbers
pub as_many_listed : (es : List (Fact × ℤ)) (ns : List ℕ) → length (facts_of (numbered es ns)) ≤ length ns
as_many_listed es [] = omega arith
as_many_listed es (n ∷ ns) = step (slice_get es (n - 1)) (as_many_listed es ns)
  where
    step : (e : Option (Fact × ℤ)) → length (facts_of (numbered es ns)) ≤ length ns
        → length (facts_of (onto e (numbered es ns))) ≤ suc (length ns)
    step None h = omega arith
    step (Some e) h = omega arith

-- a fact isn't the one of the entry, if there is one
abbrev IsOther : Fact → Option (Fact × ℤ) → Type 0
IsOther f None = Unit {0}
IsOther f (Some e) = fact_eq f e.0 ≡ false

-- none of the facts is this one
other_at : (f : Fact) (es : List (Fact × ℤ)) (i : ℕ) → list_any (fact_eq f) (facts_of es) ≡ false
    → IsOther f (slice_get es i)
other_at f [] i h = tt
other_at f (e ∷ es) i h = step i (passed_over (fact_eq f) [] e.0 (facts_of es) h)
    (λ j. other_at f es j (rest_none (fact_eq f e.0) (list_any (fact_eq f) (facts_of es)) h))
  where
    rest_none : (a b : Bool) → (a || b) ≡ false → b ≡ false
    rest_none true b k = cc
    rest_none false b k = k

    step : (j : ℕ) → fact_eq f e.0 ≡ false → ((k : ℕ) → IsOther f (slice_get es k)) → IsOther f (slice_get (e ∷ es) j)
    step zero here rest = here
    step (suc j) here rest = rest j

-- of distinct facts those at two places are different
other_places : (es : List (Fact × ℤ)) (i j : ℕ) (e : Fact × ℤ) → IsTrue (are_distinct (facts_of es))
    → slice_get es i ≡ Some e → (i ≡ j → ⊥)
    → IsOther e.0 (slice_get es j)
other_places [] i j e h at apart = tt
other_places (d ∷ es) zero zero e h at apart = absurd (apart refl)
other_places (d ∷ es) zero (suc j) e h at apart =
    let p = not_and (list_any (fact_eq d.0) (facts_of es)) (are_distinct (facts_of es)) h in
    let same : d ≡ e = cc in
    rw (← same) (other_at d.0 es j p.0)
other_places (d ∷ es) (suc i) zero e h at apart =
    let p = not_and (list_any (fact_eq d.0) (facts_of es)) (are_distinct (facts_of es)) h in
    let k : IsOther d.0 (Some e) = rw at at (other_at d.0 es i p.0) in
    other_way e.0 d.0 k
other_places (d ∷ es) (suc i) (suc j) e h at apart =
    let p = not_and (list_any (fact_eq d.0) (facts_of es)) (are_distinct (facts_of es)) h in
    other_places es i j e p.1 at (λ same. apart (ap suc same))

-- the fact with a number isn't among those with other numbers
none_listed : (es : List (Fact × ℤ)) (count n : ℕ) (ns : List ℕ) (e : Fact × ℤ) → IsTrue (are_distinct (facts_of es))
    → 1 ≤ n → AreNumbers count ns
    → NoneIs n ns → slice_get es (n - 1) ≡ Some e
    → list_any (fact_eq e.0) (facts_of (numbered es ns)) ≡ false
none_listed es count n [] e distinct first all none at = refl
none_listed es count n (m ∷ ms) e distinct first all none at =
    let low = all.0 in
    let other = other_places es (n - 1) (m - 1) e distinct at (λ same. none.0 (one_less n m first low same)) in
    step (slice_get es (m - 1)) other (none_listed es count n ms e distinct first all.2 none.1 at)
  where
    one_less : (a b : ℕ) → 1 ≤ a → 1 ≤ b → a - 1 ≡ b - 1 → a ≡ b
    one_less a b h k l = omega arith

    step : (d : Option (Fact × ℤ)) → IsOther e.0 d → list_any (fact_eq e.0) (facts_of (numbered es ms)) ≡ false
        → list_any (fact_eq e.0) (facts_of (onto d (numbered es ms))) ≡ false
    step None h rest = rest
    step (Some d) h rest = rw (h, rest) refl

-- distinct numbers list distinct facts
pub listed_distinct : (es : List (Fact × ℤ)) (count : ℕ) (ns : List ℕ) → IsTrue (are_distinct (facts_of es))
    → AreNumbers count ns → AreApart ns
    → IsTrue (are_distinct (facts_of (numbered es ns)))
listed_distinct es count [] distinct all apart = refl
listed_distinct es count (n ∷ ns) distinct all apart = step (slice_get es (n - 1)) refl
    (listed_distinct es count ns distinct all.2 apart.1)
  where
    step : (d : Option (Fact × ℤ)) → slice_get es (n - 1) ≡ d → IsTrue (are_distinct (facts_of (numbered es ns)))
        → IsTrue (are_distinct (facts_of (onto d (numbered es ns))))
    step None at rest = rest
    step (Some d) at rest = let none : list_any (fact_eq d.0) (facts_of (numbered es ns))
        ≡ false = none_listed es count n ns d distinct all.0 all.2 apart.0 at in rw none rest
