-- Inquiries that are made of listed facts.
use Rattle.std.proofs.Common.{◌≡◌, ℕ, Bool, true, false, ◌||◌, refl, List, [], ◌∷◌, ◌++◌, ℤ, pos, ap, sym}
use Rattle.std.specs.Prelude.{Some, None, Option, IsTrue, IfOk, Ok, Err, Result, if◌then◌else◌}
use Rattle.std.specs.List.{list_any}
use Rattle.book_model.specs.declared.fact.Fact.{Fact}
use Rattle.book_model.specs.declared.request.Resolved.{Resolved}
use Rattle.book_model.specs.calendars.Inquiries.{Inquiry, fact_eq, with_fact}
use Rattle.oracle_core.specs.declared.oracle.Stop.{Stop}
use Rattle.oracle_core.specs.declared.oracle.Stop.TheVariants.{Missing as missing_stop}
use Rattle.oracle_core.specs.Inquiring.{State, Tells, endpoints, goes_on, stops, Inquires}
use Rattle.oracle_core.specs.Oracles.{by_table}
use Rattle.oracle_core.specs.Pairs.{FactTable, are_distinct, value_beside}
use Rattle.oracle_core.specs.Stops.{IsStopAt, MayStopListed}
use Rattle.oracle_core.specs.Tables.{AreValued}
use Rattle.oracle_core.proofs.Listing.{next_is_new, distinct_more, neither}
use Rattle.cert_check.specs.declared.verdict.Verdict.{Verdict}
use Rattle.cert_check.specs.Listed.{EndsWithin, NamesMissing}
use Rattle.cert_check.specs.Verdicts.{traced, missing, trace_after, difference, verdict_on_list, verdict_on_trace}

-- the value, or 0
abbrev value_in : Option ℤ → ℤ
value_in None = pos 0
value_in (Some v) = v

-- a fact that isn't listed has no value
unlisted : (fs : List Fact) (vs : List ℤ) (f : Fact) → list_any (fact_eq f) fs ≡ false → value_beside fs vs f ≡ None
unlisted [] vs f h = refl
unlisted (g ∷ gs) [] f h = refl
unlisted (g ∷ gs) (v ∷ vs) f h = let n = neither (fact_eq f g) (list_any (fact_eq f) gs) h in
    rw n.0 (unlisted gs vs f n.1)

-- the values of the listed facts, and 0 of the others
abbrev pub table_of : List Fact → List ℤ → Fact → ℤ
table_of facts values f = value_in (value_beside facts values f)

-- a result over the listed facts is the inquiry's over them, with the facts asked
traces : {A : Type 0} {t : FactTable} {i : Inquiry A} {old new : List Fact} {r : Result A Stop} (a : A)
    → Tells by_table t i old new r → r ≡ Ok a
    → trace_after t.facts t.values old i ≡ traced a new
traces a (endpoints {a = b} {asked = seen}) e = let same : b ≡ a = cc in ap (λ x. traced x seen) same
traces a (goes_on value rest) e = rw value (traces a rest e)
traces a (stops fresh stop) e = cc

-- where an oracle over listed facts misses a fact, it is the first that isn't listed
misses : {A : Type 0} {t : FactTable} {i : Inquiry A} {old new : List Fact} {r : Result A Stop} (f : Fact)
    → Tells by_table t i old new r → r
    ≡ Err (missing_stop f) → trace_after t.facts t.values old i ≡ missing f
misses f endpoints e = cc
misses f (goes_on value rest) e = rw value (misses f rest e)
misses {t = t} f (stops {f = g} {s = s} fresh stop) e =
    let is : s ≡ missing_stop f = cc in
    let there : IsStopAt (MayStopListed t.facts) g (missing_stop f) = rw is at stop in
    let same : f ≡ g = there.names in
    let none : value_beside t.facts t.values g ≡ None = unlisted t.facts t.values g there.may in
    rw none (ap missing (sym same))

-- more facts that have values
valued_more : (t : FactTable) (xs : List Fact) (f : Fact) (v : ℤ) → AreValued by_table t xs
    → value_beside t.facts t.values f ≡ Some v
    → AreValued by_table t (xs ++ f ∷ [])
valued_more t [] f v h k = ((v, k), tt)
valued_more t (x ∷ xs) f v h k = (h.0, valued_more t xs f v h.1 k)

valued_with : (t : FactTable) (seen : List Fact) (f : Fact) (v : ℤ) → AreValued by_table t seen
    → value_beside t.facts t.values f ≡ Some v
    → AreValued by_table t (with_fact seen f)
valued_with t seen f v h k = step (list_any (fact_eq f) seen)
  where
    step : (b : Bool) → AreValued by_table t (if b then seen else seen ++ f ∷ [])
    step true = h
    step false = valued_more t seen f v h k

-- one of facts that have values
valued_at : (t : FactTable) (xs : List Fact) (f : Fact) (ys : List Fact) → AreValued by_table t (xs ++ f ∷ ys) → (v : ℤ)
    × (value_beside t.facts t.values f ≡ Some v)
valued_at t [] f ys h = h.0
valued_at t (x ∷ xs) f ys h = valued_at t xs f ys h.1

distinct_with : (seen : List Fact) (f : Fact) → IsTrue (are_distinct seen) → IsTrue (are_distinct (with_fact seen f))
distinct_with seen f h = step (list_any (fact_eq f) seen) refl
  where
    step : (t : Bool) → list_any (fact_eq f) seen ≡ t → IsTrue (are_distinct (if t then seen else seen ++ f ∷ []))
    step true e = h
    step false e = distinct_more seen f h e

-- a fact that has a value is listed
has_place : (fs : List Fact) (vs : List ℤ) (f : Fact) (v : ℤ) → value_beside fs vs f ≡ Some v
    → list_any (fact_eq f) fs ≡ true
has_place [] vs f v h = cc
has_place (g ∷ gs) [] f v h = cc
has_place (g ∷ gs) (w ∷ ws) f v h = step (fact_eq f g) (has_place gs ws f v) h
  where
    step : (t : Bool) → (value_beside gs ws f ≡ Some v → list_any (fact_eq f) gs ≡ true)
        → (if t then Some w else value_beside gs ws f) ≡ Some v
        → (t || list_any (fact_eq f) gs) ≡ true
    step true rest k = refl
    step false rest k = rest k

-- the facts asked are distinct and have values
record AreFound (t : FactTable) (asked : List Fact) : Type 0 where
  distinct : IsTrue (are_distinct asked)
  valued : AreValued by_table t asked

found_after : {A : Type 0} {t : FactTable} {i : Inquiry A} {old new : List Fact} {r : Result A Stop}
    → Tells by_table t i old new r → AreFound t old
    → AreFound t new
found_after endpoints h = h
found_after {t = t} {old = old} (goes_on {f = f} {v = v} value rest) h = found_after rest
    (record { distinct = distinct_with old f h.distinct; valued = valued_with t old f v h.valued value })
found_after (stops fresh stop) h = h

-- no fact is asked behind all of the listed ones
ends_within : (t : FactTable) (asked : List Fact) → AreFound t asked → EndsWithin asked t.facts
ends_within t asked h = record {
  no_more = λ f fs e.
      let d : IsTrue (are_distinct (t.facts ++ f ∷ fs)) = rw e at h.distinct in
      let v = valued_at t t.facts f fs (rw e at h.valued) in
      let new : list_any (fact_eq f) t.facts ≡ false = next_is_new t.facts f fs d in
      let old : list_any (fact_eq f) t.facts ≡ true = has_place t.facts t.values f v.0 v.1 in
      cc;
}

-- an oracle over these facts and values, of which none was asked yet
pub record IsFresh (facts : List Fact) (values : List ℤ) (s : State FactTable) : Type 0 where
  pub facts_are : s.known.facts ≡ facts
  pub values_are : s.known.values ≡ values
  pub none : s.asked ≡ []

pub asked_within : {A : Type 0} (facts : List Fact) (values : List ℤ) (i : Inquiry A) (old new : State FactTable)
    (r : Result A Stop) → IsFresh facts values old
    → Inquires by_table i old new r → EndsWithin new.asked facts
asked_within facts values i old new r fresh h =
    rw (← fresh.facts_are)
    (ends_within old.known new.asked
    (found_after h.tells (rw fresh.none (record { distinct = refl; valued = tt }))))

-- the verdict by what was asked is that of the listed facts
pub traced_verdict : {E : Type 0} (facts : List Fact) (values : List ℤ) (i : Inquiry Resolved)
    (old new : State FactTable) (x : Resolved) (text : List ℕ)
    (result : Result Verdict E) → IsFresh facts values old → Inquires by_table i old new (Ok x)
    → IfOk result (λ v. v ≡ verdict_on_list (difference 1 new.asked facts) x text)
    → IfOk result (λ v. v ≡ verdict_on_trace facts (trace_after facts values [] i) text)
traced_verdict facts values i old new x text (Ok v) fresh h k =
    let traced_as : trace_after facts values [] i ≡ traced x new.asked =
    rw (fresh.facts_are, fresh.values_are, fresh.none) at (traces x h.tells refl) in
    rw traced_as k
traced_verdict facts values i old new x text (Err e) fresh h k = tt

-- and so is the one by a missing fact
pub missing_verdict : {E : Type 0} (facts : List Fact) (values : List ℤ) (i : Inquiry Resolved)
    (old new : State FactTable) (s : Stop) (text : List ℕ)
    (result : Result Verdict E) → IsFresh facts values old → Inquires by_table i old new (Err s)
    → IfOk result (λ v. NamesMissing s v)
    → IfOk result (λ v. v ≡ verdict_on_trace facts (trace_after facts values [] i) text)
missing_verdict facts values i old new s text (Ok v) fresh h k =
    let misses_it : trace_after facts values [] i ≡ missing k.fact = rw (fresh.facts_are, fresh.values_are, fresh.none)
    at
    (misses k.fact h.tells (ap Err k.stops)) in
    rw misses_it k.named
missing_verdict facts values i old new s text (Err e) fresh h k = tt
