-- What an oracle over an evaluator answers is what the inquiry finds at every depth.
use Rattle.std.proofs.Common.{◌≡◌, ◌∙◌, ℕ, ◌≤◌, Bool, true, false, ◌||◌, refl, List, [], ◌∷◌, ◌++◌, ℤ, ap, sym}
use Rattle.std.specs.List.{list_any}
use Rattle.std.specs.Prelude.{if◌then◌else◌, Result, Ok, Err}
use Rattle.book_model.specs.declared.fact.Fact.{Fact}
use Rattle.book_model.specs.sky.Facts.{run_of}
use Rattle.book_model.specs.calendars.Inquiries.{Inquiry, fact_eq, with_fact, with_entry, found, finding, finding_after}
use Rattle.book_model.specs.calendars.Inquiries.{AsksAt, asks_here, asks_after}
use Rattle.book_model.specs.programs.Programs.{valued, outcome}
use Rattle.oracle_core.specs.declared.oracle.Stop.{Stop}
use Rattle.oracle_core.specs.Inquiring.{State, Tells, endpoints, goes_on, stops, Inquires}
use Rattle.oracle_core.specs.Oracles.{by_evaluator}
use Rattle.oracle_core.specs.Pairs.{StandsWith, AllStand, facts_of, one_truth}
use Rattle.oracle_core.specs.Stops.{MayStopAsking, IsStopAt}
use Rattle.oracle_core.proofs.Keeping.{facts_of_push, stand_push}

-- a fact is among pairs where it is among their facts
among_facts : (f : Fact) (es : List (Fact × ℤ)) → list_any (λ e. fact_eq f e.0) es ≡ list_any (fact_eq f) (facts_of es)
among_facts f [] = refl
among_facts f (e ∷ es) = ap (λ t. fact_eq f e.0 || t) (among_facts f es)

-- the facts of pairs, with one more
facts_with : (es : List (Fact × ℤ)) (f : Fact) (v : ℤ) → facts_of (with_entry es f v) ≡ with_fact (facts_of es) f
facts_with es f v = rw (among_facts f es) (step (list_any (fact_eq f) (facts_of es)))
  where
    step : (t : Bool) → facts_of (if t then es else es ++ (f, v) ∷ []) ≡ (if t then facts_of es else facts_of es
        ++ f ∷ [])
    step true = refl
    step false = facts_of_push es f v

-- pairs that stand, with one more
stand_with : (es : List (Fact × ℤ)) (f : Fact) (v : ℤ) → AllStand es → StandsWith f v → AllStand (with_entry es f v)
stand_with es f v all here = step (list_any (λ e. fact_eq f e.0) es)
  where
    step : (t : Bool) → AllStand (if t then es else es ++ (f, v) ∷ [])
    step true = all
    step false = stand_push es f v all here

-- facts stand with one list of values
one_list : (es ds : List (Fact × ℤ)) → AllStand es → AllStand ds → facts_of es ≡ facts_of ds → es ≡ ds
one_list [] [] s t h = refl
one_list [] (d ∷ ds) s t h = cc
one_list (e ∷ es) [] s t h = cc
one_list ((f, v) ∷ es) ((g, w) ∷ ds) s t h =
    let one : f ≡ g = cc in
    let others : facts_of es ≡ facts_of ds = cc in
    let value : v ≡ w = one_truth g v w (rw one at s.0) t.0 in
    rw (one, value, one_list es ds s.1 t.1 others) refl

-- where all that an inquiry asks has values, its result over them is found
finds_over : {A : Type 0} {k : Unit {0}} {i : Inquiry A} {old new : List Fact} {r : Result A Stop} (n : ℕ)
    (seen es : List (Fact × ℤ)) (a : A) → 40 ≤ n
    → Tells by_evaluator k i old new r → r ≡ Ok a
    → old ≡ facts_of seen → new ≡ facts_of es → AllStand seen → AllStand es → finding_after n seen i ≡ found a es
unfolding finding_after
finds_over n seen es a deep (endpoints {a = b}) e h k s t = let result : b ≡ a = cc in
    rw (result, one_list seen es s t (sym h ∙ k)) refl
finds_over n seen es a deep (goes_on {f = f} {v = v} value rest) e h k s t =
    let here : outcome (run_of n f) ≡ valued v = value.is_true.at_each_depth n deep in
    rw here (finds_over n (with_entry seen f v) es a deep rest e (rw h (sym (facts_with seen f v))) k
    (stand_with seen f v s value) t)
finds_over n seen es a deep (stops fresh stop) e h k s t = cc

-- an answer of the oracle is what is found
pub finds : {A : Type 0} {old new : State (Unit {0})} (n : ℕ) (i : Inquiry A) (es : List (Fact × ℤ)) (a : A) → 40 ≤ n
    → AllStand es → old.asked ≡ [] → new.asked
    ≡ facts_of es → Inquires by_evaluator i old new (Ok a) → finding n i ≡ found a es
finds n i es a deep all none asked h = finds_over n [] es a deep h.tells refl none asked tt all

-- at a depth the inquiry asks a fact at which the oracle may return early
pub record StopsThere {A : Type 0} (n : ℕ) (i : Inquiry A) (s : Stop) : Type 0 where
  pub fact : Fact
  pub asks : AsksAt n i fact
  pub stop : IsStopAt MayStopAsking fact s

stops_at : {A : Type 0} {k : Unit {0}} {i : Inquiry A} {old new : List Fact} {r : Result A Stop} (n : ℕ) (s : Stop)
    → 40 ≤ n → Tells by_evaluator k i old new r
    → r ≡ Err s → StopsThere n i s
stops_at n s deep endpoints e = cc
stops_at n s deep (goes_on value rest) e = let t = stops_at n s deep rest e in record
    { fact = t.fact; asks = asks_after (value.is_true.at_each_depth n deep) t.asks; stop = t.stop }
stops_at n s deep (stops {f = f} {s = z} fresh stop) e = let same : z ≡ s = cc in
    record { fact = f; asks = asks_here; stop = rw same at stop }

-- where the oracle returns early, the inquiry asks that fact
pub stops_there : {A : Type 0} {i : Inquiry A} {old new : State (Unit {0})} {s : Stop} (n : ℕ) → 40 ≤ n
    → Inquires by_evaluator i old new (Err s)
    → StopsThere n i s
stops_there {s = s} n deep h = stops_at n s deep h.tells refl
