-- What is cached beside an oracle stays known while it is asked. A cached fact carries that it was asked and what it
-- was answered. Facts that were asked stay so, by induction over what an inquiry tells, and what an oracle knows never
-- changes: so each cached fact stays right through any inquiry, and may be answered with nothing asked, as if it had
-- been asked again.
use Rattle.std.proofs.Common.{◌≡◌, ◌∙◌, ℕ, zero, suc, Bool, true, false, ◌||◌, refl, sym, ap, arith, ℤ, List, [], ◌∷◌}
use Rattle.std.proofs.Common.{◌++◌, if◌then◌else◌, slice_set}
use Rattle.std.specs.Prelude.{Result, Ok, Option, Some, None, ◌⊎◌}
use Rattle.std.proofs.Common.{inl, inr}
use Rattle.std.specs.List.{list_any}
use Rattle.std.proofs.lemmas.Int.{ints}
use Rattle.std.proofs.lemmas.Bool.Decides.{nat_tests}
use Rattle.book_model.specs.declared.fact.Fact.{Fact}
use Rattle.book_model.specs.calendars.Inquiries.{Inquiry, done, ask, ask_once, fact_eq, with_fact}
use Rattle.oracle_core.specs.declared.oracle.Stop.{Stop}
use Rattle.oracle_core.specs.Inquiring.{Meaning, State, Tells, endpoints, goes_on, stops, Inquires}
use Rattle.book_model.specs.sky.Facts.{IsFactValue}
use Rattle.chinese_cal.specs.Keeping.{IsKept, AllKept, AreEmpty, kept_value}
use Rattle.oracle_core.proofs.FactLemmas.{one_fact}

-- a fact that is among facts is among more of them
any_more : (f : Fact) (seen more : List Fact) → list_any (fact_eq f) seen ≡ true
    → list_any (fact_eq f) (seen ++ more) ≡ true
any_more f [] more h = cc
any_more f (g ∷ seen) more h = by (fact_eq f g) (any_more f seen more) h
  where
    by : (b : Bool) → (list_any (fact_eq f) seen ≡ true → list_any (fact_eq f) (seen ++ more) ≡ true)
        → (b || list_any (fact_eq f) seen) ≡ true
        → (b || list_any (fact_eq f) (seen ++ more)) ≡ true
    by true rest e = refl
    by false rest e = rest e

-- a fact is itself by the test
same_fact : (f : Fact) → fact_eq f f ≡ true
same_fact f = grind (arith, nat_tests, ints)

-- a fact that was put last is among them
any_last : (f : Fact) (seen : List Fact) → list_any (fact_eq f) (seen ++ f ∷ []) ≡ true
any_last f [] = rw (same_fact f) refl
any_last f (g ∷ seen) = rw (any_last f seen) (by (fact_eq f g))
  where
    by : (b : Bool) → (b || true) ≡ true
    by true = refl
    by false = refl

-- a fact that joins facts is among them
joined : (f : Fact) (seen : List Fact) → list_any (fact_eq f) (with_fact seen f) ≡ true
joined f seen = by (list_any (fact_eq f) seen) refl
  where
    by : (b : Bool) → list_any (fact_eq f) seen ≡ b → list_any (fact_eq f) (if b then seen else seen ++ f ∷ []) ≡ true
    by true e = e
    by false e = any_last f seen

-- those that are among them stay
stays : (f g : Fact) (seen : List Fact) → list_any (fact_eq f) seen ≡ true
    → list_any (fact_eq f) (with_fact seen g) ≡ true
stays f g seen h = by (list_any (fact_eq g) seen)
  where
    by : (b : Bool) → list_any (fact_eq f) (if b then seen else seen ++ g ∷ []) ≡ true
    by true = h
    by false = any_more f seen (g ∷ []) h

-- whatever is asked, a fact that was asked stays so
tells_stays : {Known A : Type 0} {m : Meaning Known} {k : Known} {i : Inquiry A} {old new : List Fact}
    {r : Result A Stop} (f : Fact) → Tells m k i old new r
    → list_any (fact_eq f) old ≡ true → list_any (fact_eq f) new ≡ true
tells_stays f endpoints h = h
tells_stays {m = m} {k = k} {old = old} f (goes_on {f = g} value t) h = tells_stays f t (stays f (m.kept_as k g) old h)
tells_stays f (stops fresh stop) h = h

-- what was cached is cached still
pub still_kept : {Known A : Type 0} {m : Meaning Known} {i : Inquiry A} {old new : State Known} {r : Result A Stop}
    (es : List (Option (Fact × ℤ)))
    → Inquires m i old new r → AllKept m old es → AllKept m new es
still_kept [] h k = tt
still_kept (None ∷ es) h k = still_kept es h k
still_kept {m = m} {old = old} {new = new} (Some e ∷ es) h k = (one, still_kept es h k.1)
  where
    one : IsKept m new e.0 e.1
    one = record {
      known = rw h.same k.0.known;
      asked = rw h.same
          (tells_stays (m.kept_as old.known e.0) h.tells k.0.asked);
      value = k.0.value;
    }

-- nothing is cached
pub empty_kept : {Known : Type 0} (m : Meaning Known) (s : State Known) (es : List (Option (Fact × ℤ))) → AreEmpty es
    → AllKept m s es
empty_kept m s [] h = tt
empty_kept m s (None ∷ es) h = empty_kept m s es h
empty_kept m s (Some e ∷ es) h = absurd h

-- what is found is cached
pub found_kept : {Known : Type 0} {m : Meaning Known} {s : State Known} (es : List (Option (Fact × ℤ))) (f : Fact)
    (v : ℤ) → AllKept m s es → kept_value es f
    ≡ Some v → IsKept m s f v
found_kept [] f v k h = cc
found_kept (None ∷ es) f v k h = cc
found_kept {m = m} {s = s} (Some e ∷ es) f v k h = by (fact_eq e.0 f) refl (found_kept es f v k.1) h
  where
    by : (b : Bool) → fact_eq e.0 f ≡ b → (kept_value es f ≡ Some v → IsKept m s f v)
        → (if b then Some e.1 else kept_value es f) ≡ Some v → IsKept m s f v
    by true same rest h =
        let fact_is : e.0 ≡ f = one_fact e.0 f same in
        let value_is : e.1 ≡ v = cc in
        rw (← fact_is, ← value_is) k.0
    by false other rest h = rest h

-- a cached fact is answered with nothing asked
pub asked_kept : {Known : Type 0} {m : Meaning Known} {s : State Known} (f : Fact) (v : ℤ) → IsKept m s f v
    → Inquires m (ask_once f) s s (Ok v)
unfolding ask_once
asked_kept {m = m} {s = s} f v k =
    let there : with_fact s.asked (m.kept_as s.known f) ≡ s.asked = rw k.asked refl in
    record { same = refl; tells = goes_on k.known (rw there endpoints) }

-- an inquiry that is done asks nothing
told_done : {Known : Type 0} {m : Meaning Known} {k : Known} {i : Inquiry ℤ} {old new : List Fact} {r : Result ℤ Stop}
    (a : ℤ) → Tells m k i old new r → i
    ≡ done a → (new ≡ old) × (r ≡ Ok a)
told_done a endpoints e = (refl, cc)
told_done a (goes_on value t) e = absurd (cc)
told_done a (stops fresh stop) e = absurd (cc)

-- the fact that an inquiry asks first, and what it goes on with
first_of : Fact → Inquiry ℤ → Fact
first_of d (done a) = d
first_of d (ask f next) = f

next_of : ℤ → Inquiry ℤ → Inquiry ℤ
next_of v (done a) = done a
next_of v (ask f next) = next v

-- the one step of a fact that was answered
answered : {Known : Type 0} {m : Meaning Known} {k : Known} {i : Inquiry ℤ} {old new : List Fact} {r : Result ℤ Stop}
    (f : Fact) (v : ℤ) → Tells m k i old new r
    → i ≡ ask f done → r ≡ Ok v
    → m.value_of k (m.kept_as k f) v × (list_any (fact_eq (m.kept_as k f)) new ≡ true)
unfolding first_of next_of
answered f v endpoints is res = absurd (cc)
answered {m = m} {k = k} {old = old} {new = new} f v (goes_on {f = g} {v = w} {next = next} value t) is res =
    let gf : g ≡ f = ap (first_of f) is in
    let d = told_done w t (ap (next_of w) is) in
    let wv : w ≡ v = let e : Ok w ≡ Ok v = sym d.1 ∙ res in cc in
    (rw (← gf, ← wv) value, rw (← gf, d.0) (joined (m.kept_as k g) old))
answered f v (stops fresh stop) is res = absurd (cc)

-- what was answered may be cached
pub answered_kept : {Known : Type 0} {m : Meaning Known} {old new : State Known} (f : Fact) (v : ℤ)
    → Inquires m (ask_once f) old new (Ok v) → IsFactValue v
    → IsKept m new f v
unfolding ask_once
answered_kept {m = m} {old = old} {new = new} f v h value =
    let a = answered f v h.tells refl refl in
    record { known = rw h.same a.0; asked = rw h.same a.1; value = value }

-- one more is cached
pub one_more : {Known : Type 0} {m : Meaning Known} {s : State Known} (es : List (Option (Fact × ℤ))) (n : ℕ) (f : Fact)
    (v : ℤ) → IsKept m s f v
    → AllKept m s es → AllKept m s (slice_set es n (Some (f, v)))
one_more [] n f v h k = tt
one_more (None ∷ es) zero f v h k = (h, k)
one_more (Some e ∷ es) zero f v h k = (h, k.1)
one_more (None ∷ es) (suc n) f v h k = one_more es n f v h k
one_more (Some e ∷ es) (suc n) f v h k = (k.0, one_more es n f v h k.1)

pub kept_or_not : {Known : Type 0} {m : Meaning Known} {s : State Known} (es fs : List (Option (Fact × ℤ))) (n : ℕ)
    (f : Fact) (v : ℤ) → IsKept m s f v
    → AllKept m s es → (fs ≡ slice_set es n (Some (f, v))) ⊎ (fs ≡ es) → AllKept m s fs
kept_or_not es fs n f v h k (inl e) = rw e (one_more es n f v h k)
kept_or_not es fs n f v h k (inr e) = rw e k
