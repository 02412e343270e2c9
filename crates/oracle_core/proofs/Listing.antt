-- Facts that are looked up in a list.
use Rattle.std.proofs.Common.{◌≡◌, ℕ, zero, suc, ◌+◌, ◌<◌, Bool, true, false, cond, not, ◌&&◌, ◌||◌, refl, List, []}
use Rattle.std.proofs.Common.{◌∷◌, ◌++◌, length, get_or, ℤ, arith, ◌⊎◌, inl, inr}
use Rattle.std.specs.Prelude.{Some, IsTrue, if◌then◌else◌, Result, Ok, Err, OnOk, OnErr}
use Rattle.std.specs.List.{list_any, position_or_len, position}
use Rattle.book_model.specs.declared.fact.Fact.{Fact}
use Rattle.book_model.specs.calendars.Inquiries.{fact_eq, with_fact}
use Rattle.book_model.specs.sky.Facts.{IsFactValue}
use Rattle.oracle_core.specs.Pairs.{AreFactValues, are_distinct, value_beside}
use Rattle.oracle_core.proofs.FactLemmas.{one_fact}
use Rattle.oracle_core.proofs.Noting.{found_at}

pub not_and : (a b : Bool) → IsTrue (not a && b) → (a ≡ false) × IsTrue b
not_and true b h = cc
not_and false b h = (refl, h)

pub neither : (a b : Bool) → (a || b) ≡ false → (a ≡ false) × (b ≡ false)
neither true b h = cc
neither false b h = (refl, h)

pub both_false : (a b : Bool) → a ≡ false → b ≡ false → (a || b) ≡ false
both_false a b h k = rw (h, k) refl

-- a test that passes none of a list doesn't pass one of it
pub passed_over : {X : Type 0} (p : X → Bool) (xs : List X) (x : X) (ys : List X) → list_any p (xs ++ x ∷ ys) ≡ false
    → p x ≡ false
passed_over p [] x ys h = (neither _ _ h).0
passed_over p (z ∷ xs) x ys h = passed_over p xs x ys (neither (p z) _ h).1

-- where a fact isn't another, neither is that one it
pub other_way : (f g : Fact) → fact_eq g f ≡ false → fact_eq f g ≡ false
other_way f g h = by (fact_eq f g) refl
  where
    by : (t : Bool) → fact_eq f g ≡ t → t ≡ false
    by true e = let same : f ≡ g = one_fact f g e in let k : fact_eq g g ≡ false = rw same at h in
        let l : fact_eq g g ≡ true = rw same at e in cc
    by false e = refl

-- the next of distinct facts isn't among those before it
pub next_is_new : (xs : List Fact) (x : Fact) (ys : List Fact) → IsTrue (are_distinct (xs ++ x ∷ ys))
    → list_any (fact_eq x) xs ≡ false
next_is_new [] x ys h = refl
next_is_new (y ∷ xs) x ys h =
    let e = not_and (list_any (fact_eq y) (xs ++ x ∷ ys)) (are_distinct (xs ++ x ∷ ys)) h in
    both_false (fact_eq x y) (list_any (fact_eq x) xs) (other_way x y (passed_over (fact_eq y) xs x ys e.0))
    (next_is_new xs x ys e.1)

-- where a fact is none of these and not another, it is none of all
none_more : (g f : Fact) (gs : List Fact) → list_any (fact_eq g) gs ≡ false → fact_eq g f ≡ false
    → list_any (fact_eq g) (gs ++ f ∷ []) ≡ false
none_more g f [] h k = rw k refl
none_more g f (x ∷ gs) h k = let n = neither (fact_eq g x) (list_any (fact_eq g) gs) h in
    both_false (fact_eq g x) (list_any (fact_eq g) (gs ++ f ∷ [])) n.0
    (none_more g f gs n.1 k)

-- a fact more that is none of distinct facts
pub distinct_more : (gs : List Fact) (f : Fact) → IsTrue (are_distinct gs) → list_any (fact_eq f) gs ≡ false
    → IsTrue (are_distinct (gs ++ f ∷ []))
distinct_more [] f h k = refl
distinct_more (g ∷ gs) f h k =
    let p = not_and (list_any (fact_eq g) gs) (are_distinct gs) h in
    let n = neither (fact_eq f g) (list_any (fact_eq f) gs) k in
    let none : list_any (fact_eq g) (gs ++ f ∷ []) ≡ false = none_more g f gs p.0 (other_way g f n.0) in
    rw none (distinct_more gs f p.1 n.1)

value_at_place : (fs : List Fact) (vs : List ℤ) (f : Fact) (d : ℤ) → length fs ≡ length vs
    → position_or_len (fact_eq f) fs < length fs → value_beside fs vs f
    ≡ Some (get_or vs (position_or_len (fact_eq f) fs) d)
value_at_place [] vs f d same h = absurd (omega arith)
value_at_place (g ∷ fs) [] f d same h = absurd (omega arith)
value_at_place (g ∷ fs) (v ∷ vs) f d same h = step (fact_eq f g) (value_at_place fs vs f d (omega arith)) h
  where
    step : (t : Bool)
        → (position_or_len (fact_eq f) fs < length fs
        → value_beside fs vs f ≡ Some (get_or vs (position_or_len (fact_eq f) fs) d))
        → cond (not t) (1 + position_or_len (fact_eq f) fs) 0 < length (g ∷ fs)
        → (if t then Some v else value_beside fs vs f) ≡ Some
        (get_or (v ∷ vs) (cond (not t) (1 + position_or_len (fact_eq f) fs) 0) d)
    step true rest h = refl
    step false rest h =
        let next : 1 + position_or_len (fact_eq f) fs ≡ suc (position_or_len (fact_eq f) fs) = omega arith in
        rw next (rest (omega arith))

-- the value at the place of a fact stands beside it
pub listed_value : (fs : List Fact) (vs : List ℤ) (f : Fact) (i : ℕ) (d : ℤ) → length fs ≡ length vs
    → Some i ≡ position (fact_eq f) fs → value_beside fs vs f
    ≡ Some (get_or vs i d)
listed_value fs vs f i d same h =
    let p = found_at (fact_eq f) fs i h in
    rw p.same (value_at_place fs vs f d same p.before_end)

-- each of the values is one that an answer may have
pub listed_fits : (vs : List ℤ) (i : ℕ) (d : ℤ) → i < length vs → AreFactValues vs → IsFactValue (get_or vs i d)
listed_fits [] i d h all = absurd (omega arith)
listed_fits (v ∷ vs) zero d h all = (all.0, all.1)
listed_fits (v ∷ vs) (suc i) d h all = listed_fits vs i d (omega arith) all.2

-- the value at the place of a fact is one that an answer may have
pub found_fits : (fs : List Fact) (vs : List ℤ) (f : Fact) (i : ℕ) (d : ℤ) → length fs ≡ length vs
    → Some i ≡ position (fact_eq f) fs → AreFactValues vs
    → IsFactValue (get_or vs i d)
found_fits fs vs f i d same h known =
    let p = found_at (fact_eq f) fs i h in
    listed_fits vs i d (omega arith) known

-- ---- once a fact was asked
not_true : (t : Bool) → (t ≡ true → ⊥) → t ≡ false
not_true true h = absurd (h refl)
not_true false h = refl

-- a fact that isn't one of these wasn't asked
pub never_asked : (fs asked : List Fact) (f : Fact) → ((g : Fact) → list_any (fact_eq g) asked ≡ true
    → list_any (fact_eq g) fs ≡ true)
    → list_any (fact_eq f) fs ≡ false → list_any (fact_eq f) asked ≡ false
never_asked fs asked f listed none = not_true (list_any (fact_eq f) asked)
    (λ h. let e : list_any (fact_eq f) fs ≡ true = listed f h in cc)

either_of : (a b : Bool) → (a || b) ≡ true → (a ≡ true) ⊎ (b ≡ true)
either_of true b h = inl refl
either_of false b h = inr h

among_more : (g f : Fact) (xs : List Fact) → list_any (fact_eq g) (xs ++ f ∷ []) ≡ true
    → (list_any (fact_eq g) xs ≡ true) ⊎ (fact_eq g f ≡ true)
among_more g f [] h = elim (either_of (fact_eq g f) false h) [ inl e ↦ inr e | inr e ↦ absurd (cc) ]
among_more g f (x ∷ xs) h = step (fact_eq g x) (among_more g f xs) h
  where
    step : (t : Bool) → (list_any (fact_eq g) (xs ++ f ∷ []) ≡ true → (list_any (fact_eq g) xs ≡ true)
        ⊎ (fact_eq g f ≡ true))
        → (t || list_any (fact_eq g) (xs ++ f ∷ [])) ≡ true → ((t || list_any (fact_eq g) xs) ≡ true)
        ⊎ (fact_eq g f ≡ true)
    step true rest h = inl refl
    step false rest h = rest h

-- with one more that is one of these, all that were asked still are
pub listed_more : (fs asked : List Fact) (f g : Fact) → ((h : Fact) → list_any (fact_eq h) asked ≡ true
    → list_any (fact_eq h) fs ≡ true)
    → list_any (fact_eq f) fs ≡ true → list_any (fact_eq g) (with_fact asked f) ≡ true → list_any (fact_eq g) fs ≡ true
listed_more fs asked f g listed here h = step (list_any (fact_eq f) asked) h
  where
    step : (t : Bool) → list_any (fact_eq g) (if t then asked else asked ++ f ∷ []) ≡ true
        → list_any (fact_eq g) fs ≡ true
    step true h = listed g h
    step false h = elim (among_more g f asked h) [
      | inl e ↦ listed g e
      | inr e ↦ (let same : g ≡ f = one_fact g f e in
          rw same here)
    ]

-- what was asked stays listed, whether or not memory is found for one more
pub listed_noted : {T E : Type 0} (fs asked now : List Fact) (f : Fact) (r : Result T E)
    → ((h : Fact) → list_any (fact_eq h) asked ≡ true → list_any (fact_eq h) fs ≡ true) → list_any (fact_eq f) fs ≡ true
    → OnOk r (now ≡ with_fact asked f)
    → OnErr r (now ≡ asked)
    → (g : Fact) → list_any (fact_eq g) now ≡ true → list_any (fact_eq g) fs ≡ true
listed_noted fs asked now f (Ok x) listed here ok err = λ g h. listed_more fs asked f g listed here (rw ok at h)
listed_noted fs asked now f (Err e) listed here ok err = λ g h. listed g (rw err at h)
