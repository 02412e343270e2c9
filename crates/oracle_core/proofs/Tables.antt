-- What comes of an inquiry over tables that agree with an oracle on the facts that were asked.
use Rattle.std.proofs.Common.{◌≡◌, ℤ, List, [], ◌∷◌, ◌++◌, refl, ap}
use Rattle.std.specs.Prelude.{Ok, Err}
use Rattle.book_model.specs.declared.fact.Fact.{Fact}
use Rattle.book_model.specs.calendars.Inquiries.{Inquiry, facts_over, with_kept}
use Rattle.oracle_core.specs.declared.oracle.Stop.{Stop}
use Rattle.oracle_core.specs.Inquiring.{Meaning, State, Tells, endpoints, goes_on, stops, Inquires}
use Rattle.oracle_core.specs.Pairs.{IsPrefix}
use Rattle.oracle_core.specs.Stops.{IsStopAt}
use Rattle.oracle_core.specs.Tables.{AgreesOn, AreValued, ComesTo, AnswersOver, StopsOver}

-- the same between lists of facts
record Answered {Known A : Type 0} (m : Meaning Known) (k : Known) (i : Inquiry A) (old new : List Fact) (a : A) : Type
    0 where
  facts : List Fact
  valued : AreValued m k facts
  asked : new ≡ with_kept (m.kept_as k) old facts
  over : (table : Fact → ℤ) → AgreesOn m k facts table → ComesTo i table facts a

record Stopped {Known A : Type 0} (m : Meaning Known) (k : Known) (i : Inquiry A) (old new : List Fact)
    (s : Stop) : Type 0 where
  before : List Fact
  fact : Fact
  valued : AreValued m k before
  asked : new ≡ with_kept (m.kept_as k) old before
  over : (table : Fact → ℤ) → AgreesOn m k before table → IsPrefix (before ++ fact ∷ []) (facts_over table i)
  stop : IsStopAt (m.may_stop k) (m.kept_as k fact) s

answered : {Known A : Type 0} {m : Meaning Known} {k : Known} {i : Inquiry A} {old new : List Fact} {a : A}
    → Tells m k i old new (Ok a)
    → Answered m k i old new a
answered endpoints =
    record { facts = []; valued = tt; asked = refl; over = λ table agrees. record { asks = refl; result = refl } }
answered (goes_on {f = f} {v = v} value rest) =
    let r = answered rest in
    record {
      facts = f ∷ r.facts;
      valued = ((v, value), r.valued);
      asked = r.asked;
      over = λ table agrees. let o = r.over table agrees.1 in record
          { asks = rw (agrees.0 v value) (ap (λ fs. f ∷ fs) o.asks); result = rw (agrees.0 v value) o.result };
    }

stopped : {Known A : Type 0} {m : Meaning Known} {k : Known} {i : Inquiry A} {old new : List Fact} {s : Stop}
    → Tells m k i old new (Err s)
    → Stopped m k i old new s
stopped (goes_on {f = f} {v = v} value rest) =
    let r = stopped rest in
    record {
      before = f ∷ r.before;
      fact = r.fact;
      valued = ((v, value), r.valued);
      asked = r.asked;
      over = λ table agrees. let o = r.over table agrees.1 in
          record { rest = o.rest; joined = rw (agrees.0 v value) (ap (λ fs. f ∷ fs) o.joined) };
      stop = r.stop;
    }
stopped (stops {f = f} {next = next} fresh stop) = record {
  before = [];
  fact = f;
  valued = tt;
  asked = refl;
  over = λ table agrees.
      record { rest = facts_over table (next (table f)); joined = refl };
  stop = stop;
}

pub answers_over : {Known A : Type 0} {m : Meaning Known} {i : Inquiry A} {old new : State Known} {a : A}
    → Inquires m i old new (Ok a)
    → AnswersOver m i old new a
answers_over h = let r = answered h.tells in
    record { facts = r.facts; valued = r.valued; asked = r.asked; over = r.over }

pub stops_over : {Known A : Type 0} {m : Meaning Known} {i : Inquiry A} {old new : State Known} {s : Stop}
    → Inquires m i old new (Err s)
    → StopsOver m i old new s
stops_over h = let r = stopped h.tells in record {
  before = r.before;
  fact = r.fact;
  valued = r.valued;
  asked = r.asked;
  over = r.over;
  stop = r.stop;
}
