-- Lists of facts, compared place by place.
use Rattle.std.proofs.Common.{◌≡◌, ℕ, zero, suc, ◌+◌, ◌<◌, Bool, true, false, refl, List, [], ◌∷◌, ◌++◌, length, get_or}
use Rattle.std.proofs.Common.{drop, take, arith, ap, append_assoc, ◌∙◌, sym}
use Rattle.std.specs.Prelude.{Some, None, Option, slice_get, if◌then◌else◌}
use Rattle.std.proofs.lemmas.List.{drop_more, take_more, drop_all, take_all}
use Rattle.std.proofs.lemmas.Option.{get_or_from_slice_get, slice_get_within}
use Rattle.book_model.specs.declared.fact.Fact.{Fact}
use Rattle.book_model.specs.calendars.Inquiries.{fact_eq}
use Rattle.oracle_core.proofs.FactLemmas.{one_fact}
use Rattle.cert_check.specs.Listed.{EndsWithin, is_fact_at}
use Rattle.cert_check.specs.Verdicts.{difference}

-- so far the facts are the same, and the difference is among those that are left
pub record IsSameTo (i : ℕ) (asked listed : List Fact) : Type 0 where
  pub same : take i listed ++ drop i asked ≡ asked
  pub later : difference (1 + i) (drop i asked) (drop i listed) ≡ difference 1 asked listed

-- what is left from an index on
left_from : (xs : List Fact) (i : ℕ) (f : Fact) → slice_get xs i ≡ Some f → drop i xs ≡ f ∷ drop (i + 1) xs
left_from xs i f h =
    let before_end : i < length xs = slice_get_within xs i f h in
    let item : get_or xs i f ≡ f = get_or_from_slice_get xs i f f h in
    drop_more xs i f before_end ∙ ap (λ g. g ∷ drop (i + 1) xs) item

nothing_left : (xs : List Fact) (i : ℕ) → slice_get xs i ≡ None → drop i xs ≡ []
nothing_left [] zero h = refl
nothing_left [] (suc i) h = refl
nothing_left (x ∷ xs) zero h = cc
nothing_left (x ∷ xs) (suc i) h = nothing_left xs i h

-- a fact more is the same
pub same_on : (asked listed : List Fact) (i : ℕ) (d : Fact) → i < length listed
    → is_fact_at (slice_get asked i) (get_or listed i d) ≡ true
    → IsSameTo i asked listed → IsSameTo (i + 1) asked listed
same_on asked listed i d h at so_far = step (slice_get asked i) refl at
  where
    step : (o : Option Fact) → slice_get asked i ≡ o → is_fact_at o (get_or listed i d) ≡ true
        → IsSameTo (i + 1) asked listed
    step None e k = cc
    step (Some f) e k =
        let left = left_from asked i f e in
        let one : f ≡ get_or listed i d = one_fact f (get_or listed i d) k in
        let parts : take i listed ++ (f ∷ drop (i + 1) asked) ≡ asked = rw left at so_far.same in
        let next : difference (1 + i) (f ∷ drop (i + 1) asked) (get_or listed i d ∷ drop (i + 1) listed)
        ≡ difference 1 asked listed = rw (left, drop_more listed i d h) at so_far.later in
        let n : 1 + i + 1 ≡ 1 + (i + 1) = omega arith in
        record {
          same = rw (take_more listed i d h, append_assoc, ← one) parts;
          later = rw (← n) (rw k at next);
        }

-- the next is another, or there is none
pub differs_at : (asked listed : List Fact) (i : ℕ) (d : Fact) → i < length listed
    → is_fact_at (slice_get asked i) (get_or listed i d) ≡ false
    → IsSameTo i asked listed → Some (i + 1) ≡ difference 1 asked listed
differs_at asked listed i d h at so_far = step (slice_get asked i) refl at
  where
    step : (o : Option Fact) → slice_get asked i ≡ o → is_fact_at o (get_or listed i d) ≡ false
        → Some (i + 1) ≡ difference 1 asked listed
    step None e k =
        let n : i + 1 ≡ 1 + i = omega arith in
        let next : difference (1 + i) [] (get_or listed i d ∷ drop (i + 1) listed)
        ≡ difference 1 asked listed = rw (nothing_left asked i e, drop_more listed i d h) at so_far.later in
        rw n next
    step (Some f) e k =
        let n : i + 1 ≡ 1 + i = omega arith in
        let next : difference (1 + i) (f ∷ drop (i + 1) asked) (get_or listed i d ∷ drop (i + 1) listed)
        ≡ difference 1 asked listed = rw (left_from asked i f e, drop_more listed i d h) at so_far.later in
        rw n (rw k at next)

-- all are the same, and there are no more
pub same_all : (asked listed : List Fact) (i : ℕ) → i ≡ length listed → EndsWithin asked listed
    → IsSameTo i asked listed → None ≡ difference 1 asked listed
same_all asked listed i end within so_far = step (drop (length listed) asked) refl
  where
    all : IsSameTo (length listed) asked listed
    all = rw end at so_far

    step : (left : List Fact) → drop (length listed) asked ≡ left → None ≡ difference 1 asked listed
    step [] e =
        let none : drop (length listed) listed ≡ [] = drop_all (length listed) listed (omega arith) in
        rw (e, none) at all.later
    step (f ∷ fs) e =
        let whole : listed ++ (f ∷ fs) ≡ asked = rw (take_all (length listed) listed (omega arith), e) at all.same in
        absurd (within.no_more f fs (sym whole))

-- lists with no difference are one
pub no_difference : (place : ℕ) (xs ys : List Fact) → difference place xs ys ≡ None → xs ≡ ys
no_difference place [] [] h = refl
no_difference place [] (y ∷ ys) h = cc
no_difference place (x ∷ xs) [] h = cc
no_difference place (x ∷ xs) (y ∷ ys) h = step (fact_eq x y) refl (no_difference (place + 1) xs ys) h
  where
    step : (t : Bool) → fact_eq x y ≡ t → (difference (place + 1) xs ys ≡ None → xs ≡ ys)
        → (if t then difference (place + 1) xs ys else Some place) ≡ None
        → x ∷ xs ≡ y ∷ ys
    step true e rest k = let one : x ≡ y = one_fact x y e in let others : xs ≡ ys = rest k in cc
    step false e rest k = cc
