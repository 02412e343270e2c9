-- What comes of an inquiry that is made of an oracle.
use Rattle.std.specs.Prelude.{◌≡◌, false, ℤ, List, Result, Ok, Err}
use Rattle.std.specs.List.{list_any}
use Rattle.book_model.specs.declared.fact.Fact.{Fact}
use Rattle.book_model.specs.calendars.Inquiries.{Inquiry, done, ask, fact_eq, with_fact}
use Rattle.oracle_core.specs.declared.oracle.Stop.{Stop}
use Rattle.oracle_core.specs.Stops.{IsStopAt}

-- What an oracle's knowledge says of facts: which values a fact that is stored has, under which fact a fact is stored,
-- and which early returns may be answered for a fact that is stored.
pub record Meaning (Known : Type 0) : Type 1 where
  pub value_of : Known → Fact → ℤ → Type 0
  pub kept_as : Known → Fact → Fact
  pub may_stop : Known → Fact → Stop → Type 0

-- what an oracle knows, and the facts under which those asked so far are stored, each once, in order of first use
pub record State (Known : Type 0) : Type 0 where
  pub known : Known
  pub asked : List Fact

-- What a result says of an inquiry by this knowledge, where the first list of facts were asked before it and the second
-- ones after it. An inquiry that is done has its result. One that asks a fact goes on with a value that is known of it,
-- and the fact under which it is stored joins the list; or it ends with an early return that may come there, at a fact
-- that isn't in the list.
pub data Tells {Known A : Type 0} (m : Meaning Known) (k : Known) : Inquiry A → List Fact → List Fact → Result A Stop
    → Type 0 where
  endpoints : {a : A} {asked : List Fact} → Tells m k (done a) asked asked (Ok a)
  goes_on : {f : Fact} {v : ℤ} {next : ℤ → Inquiry A} {old new : List Fact} {r : Result A Stop}
      → m.value_of k (m.kept_as k f) v
      → Tells m k (next v) (with_fact old (m.kept_as k f)) new r → Tells m k (ask f next) old new r
  stops : {f : Fact} {s : Stop} {next : ℤ → Inquiry A} {asked : List Fact}
      → list_any (fact_eq (m.kept_as k f)) asked ≡ false
      → IsStopAt (m.may_stop k) (m.kept_as k f) s → Tells m k (ask f next) asked asked (Err s)

-- The result of a call is that of an inquiry, made of an oracle that was in one state before the call and is in another
-- after it. What it knows is the same.
pub record Inquires {Known A : Type 0} (m : Meaning Known) (i : Inquiry A) (old new : State Known)
    (r : Result A Stop) : Type 0 where
  pub same : new.known ≡ old.known
  pub tells : Tells m old.known i old.asked new.asked r

-- the result, with what an answer stands for
abbrev pub map_ok : {A B : Type 0} → (A → B) → Result A Stop → Result B Stop
map_ok shown (Ok a) = Ok (shown a)
map_ok shown (Err s) = Err s
