-- Facts that are stored with true values.
use Rattle.std.proofs.Common.{◌≡◌, ℕ, suc, ◌+◌, ◌<◌, Bool, true, false, cond, not, refl, List, [], ◌∷◌, ◌++◌, length}
use Rattle.std.proofs.Common.{get_or, ℤ, arith, ap, sym}
use Rattle.std.specs.Prelude.{Option, Some}
use Rattle.std.specs.List.{list_any, position_or_len, position}
use Rattle.book_model.specs.declared.fact.Fact.{Fact}
use Rattle.book_model.specs.calendars.Inquiries.{fact_eq, with_fact}
use Rattle.std.specs.List.{slice_get}
use Rattle.std.proofs.lemmas.Option.{get_or_from_slice_get}
use Rattle.oracle_core.specs.Pairs.{StandsWith, AllStand, facts_of}
use Rattle.oracle_core.proofs.FactLemmas.{one_fact}
use Rattle.oracle_core.proofs.Noting.{found_at, there}

-- the facts of one pair more
pub facts_of_push : (es : List (Fact × ℤ)) (f : Fact) (v : ℤ) → facts_of (es ++ (f, v) ∷ []) ≡ facts_of es ++ f ∷ []
facts_of_push [] f v = refl
facts_of_push (e ∷ es) f v = ap (λ fs. e.0 ∷ fs) (facts_of_push es f v)

-- one true pair more
pub stand_push : (es : List (Fact × ℤ)) (f : Fact) (v : ℤ) → AllStand es → StandsWith f v → AllStand (es ++ (f, v) ∷ [])
stand_push [] f v all here = (here, tt)
stand_push (e ∷ es) f v all here = (all.0, stand_push es f v all.1 here)

-- there are as many facts as pairs
pub as_many : (es : List (Fact × ℤ)) → length (facts_of es) ≡ length es
as_many [] = refl
as_many (e ∷ es) = ap suc (as_many es)

at_place : (es : List (Fact × ℤ)) (f : Fact) (d : Fact × ℤ) → position_or_len (fact_eq f) (facts_of es) < length
    (facts_of es) → AllStand es
    → StandsWith f (get_or es (position_or_len (fact_eq f) (facts_of es)) d).1
at_place [] f d h all = absurd (omega arith)
at_place (e ∷ es) f d h all = step (fact_eq f e.0) refl (at_place es f d) h
  where
    step : (t : Bool) → fact_eq f e.0 ≡ t → (position_or_len (fact_eq f) (facts_of es) < length (facts_of es)
        → AllStand es
        → StandsWith f (get_or es (position_or_len (fact_eq f) (facts_of es)) d).1)
        → cond (not t) (1 + position_or_len (fact_eq f) (facts_of es)) 0 < length (facts_of (e ∷ es))
        → StandsWith f (get_or (e ∷ es) (cond (not t) (1 + position_or_len (fact_eq f) (facts_of es)) 0) d).1
    step true same rest h = let e0 = one_fact f e.0 same in rw e0 all.0
    step false same rest h =
        let next : 1 + position_or_len (fact_eq f) (facts_of es) ≡ suc (position_or_len (fact_eq f) (facts_of es)) =
        omega arith in
        rw next (rest (omega arith) all.1)

-- the value at the place of a fact stands with it
pub kept_value : (es : List (Fact × ℤ)) (f : Fact) (i : ℕ) (d : Fact × ℤ) → Some i ≡ position (fact_eq f) (facts_of es)
    → AllStand es
    → StandsWith f (get_or es i d).1
kept_value es f i d h all =
    let p = found_at (fact_eq f) (facts_of es) i h in
    rw p.same (at_place es f d p.before_end all)

-- pairs to which a true one is added
pub stand_pushed : (es now : List (Fact × ℤ)) (f : Fact) (v : ℤ) → now ≡ es ++ (f, v) ∷ [] → AllStand es
    → StandsWith f v → AllStand now
stand_pushed es now f v pushed all here = rw pushed (stand_push es f v all here)

-- a fact stands among pairs where it stands among their facts
pub place_among_facts : (es : List (Fact × ℤ)) (f : Fact) (place : Option ℕ)
    → place ≡ position (λ pair. fact_eq f pair.0) es
    → place ≡ position (fact_eq f) (facts_of es)
place_among_facts es f place h = rw (as_many es, ← same_place es) h
  where
    same_place : (es : List (Fact × ℤ)) → position_or_len (λ e. fact_eq f e.0) es ≡ position_or_len (fact_eq f)
        (facts_of es)
    same_place [] = refl
    same_place (e ∷ es) = ap (λ n. cond (not (fact_eq f e.0)) (1 + n) 0) (same_place es)

-- the facts of the pairs with one more
pub added_fact : (es now : List (Fact × ℤ)) (f : Fact) (v : ℤ) → list_any (fact_eq f) (facts_of es) ≡ false
    → now ≡ es ++ (f, v) ∷ [] → facts_of now
    ≡ with_fact (facts_of es) f
added_fact es now f v new pushed = rw (pushed, new) (facts_of_push es f v)

-- a fact that has a place isn't added
pub already_there : (fs : List Fact) (f : Fact) (i : ℕ) → Some i ≡ position (fact_eq f) fs → fs ≡ with_fact fs f
already_there fs f i h = rw (there (fact_eq f) fs i h) refl

-- the place of a fact is one of the pairs
pub place_within : (es : List (Fact × ℤ)) (f : Fact) (i : ℕ) → Some i ≡ position (fact_eq f) (facts_of es)
    → i < length es
place_within es f i h =
    let p = found_at (fact_eq f) (facts_of es) i h in
    let n : length (facts_of es) ≡ length es = as_many es in
    omega arith

-- the value of the pair at the place of a fact stands with it
pub kept_item : (es : List (Fact × ℤ)) (f : Fact) (i : ℕ) (e : Fact × ℤ) → Some i ≡ position (fact_eq f) (facts_of es)
    → Some e ≡ slice_get es i → AllStand es
    → StandsWith f e.1
kept_item es f i e h item all =
    let same : get_or es i e ≡ e = get_or_from_slice_get es i e e (sym item) in
    rw same at (kept_value es f i e h all)
