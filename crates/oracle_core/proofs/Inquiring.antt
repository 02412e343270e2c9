-- Inquiries that are made of an oracle: how the results of calls make that of the whole.
use Rattle.std.proofs.Common.{◌≡◌, ◌∙◌, false, ℤ, List, refl}
use Rattle.std.specs.Prelude.{Result, Ok, Err}
use Rattle.std.specs.List.{list_any}
use Rattle.std.proofs.lemmas.Int.{to_z-of_z}
use Rattle.book_model.specs.declared.fact.Fact.{Fact}
use Rattle.book_model.specs.calendars.Inquiries.{Inquiry, done, ask, ask_once, and_then, fact_eq, with_fact}
use Rattle.oracle_core.specs.declared.oracle.Stop.{Stop}
use Rattle.oracle_core.specs.Inquiring.{Meaning, State, Tells, endpoints, goes_on, stops, Inquires}
use Rattle.oracle_core.specs.Stops.{IsStopAt}

-- ---- one fact
-- a fact is answered by a value that is known of it, and joins the list
pub asked_value : {Known : Type 0} {m : Meaning Known} {v : ℤ} {old new : State Known} (f : Fact)
    → new.known ≡ old.known → new.asked
    ≡ with_fact old.asked (m.kept_as old.known f)
    → m.value_of old.known (m.kept_as old.known f) v → Inquires m (ask_once f) old new (Ok v)
unfolding ask_once
asked_value {m = m} f same added value = record { same = same; tells = rw added (goes_on value endpoints) }

-- a fact that isn't in the list is answered by an early return, and the list stays
pub asked_stop : {Known : Type 0} {m : Meaning Known} {s : Stop} {old new : State Known} (f : Fact)
    → new.known ≡ old.known → new.asked ≡ old.asked
    → list_any (fact_eq (m.kept_as old.known f)) old.asked ≡ false
    → IsStopAt (m.may_stop old.known) (m.kept_as old.known f) s
    → Inquires m (ask_once f) old new (Err s)
unfolding ask_once
asked_stop {m = m} f same left fresh stop = record { same = same; tells = rw left (stops fresh stop) }

-- ---- what follows
tells_then : {Known A B : Type 0} {m : Meaning Known} {k : Known} {i : Inquiry A} {old mid new : List Fact} {a : A}
    {r : Result B Stop} (next : A → Inquiry B)
    → Tells m k i old mid (Ok a) → Tells m k (next a) mid new r → Tells m k (and_then i next) old new r
unfolding and_then
tells_then next endpoints h = h
tells_then next (goes_on value t) h = goes_on value (tells_then next t h)

tells_stop : {Known A B : Type 0} {m : Meaning Known} {k : Known} {i : Inquiry A} {old new : List Fact} {s : Stop}
    (next : A → Inquiry B)
    → Tells m k i old new (Err s) → Tells m k (and_then i next) old new (Err s)
unfolding and_then
tells_stop next (goes_on value t) = goes_on value (tells_stop next t)
tells_stop next (stops fresh stop) = stops fresh stop

-- an inquiry that is done
pub inquires_done : {Known A : Type 0} {m : Meaning Known} {a : A} {s : State Known} → Inquires m (done a) s s (Ok a)
inquires_done = record { same = refl; tells = endpoints }

-- an inquiry has a result, and the one that it leads to has this one
pub inquires_then : {Known A B : Type 0} {m : Meaning Known} {i : Inquiry A} (next : A → Inquiry B)
    {old mid new : State Known} {a : A} {r : Result B Stop}
    → Inquires m i old mid (Ok a) → Inquires m (next a) mid new r → Inquires m (and_then i next) old new r
inquires_then next h k = record { same = k.same ∙ h.same; tells = tells_then next h.tells (rw h.same at k.tells) }

-- an inquiry returns early, and so does one that begins with it
pub inquires_stop : {Known A B : Type 0} {m : Meaning Known} {i : Inquiry A} (next : A → Inquiry B)
    {old new : State Known} {s : Stop}
    → Inquires m i old new (Err s) → Inquires m (and_then i next) old new (Err s)
inquires_stop next h = record { same = h.same; tells = tells_stop next h.tells }

-- the same of one fact
pub inquires_ask : {Known A : Type 0} {m : Meaning Known} {f : Fact} (next : ℤ → Inquiry A) {old mid new : State Known}
    {v : ℤ} {r : Result A Stop}
    → Inquires m (ask_once f) old mid (Ok v) → Inquires m (next v) mid new r → Inquires m (ask f next) old new r
unfolding and_then ask_once
inquires_ask {f = f} next h k = inquires_then {i = ask_once f} next h k

pub inquires_ask_stop : {Known A : Type 0} {m : Meaning Known} {f : Fact} (next : ℤ → Inquiry A) {old new : State Known}
    {s : Stop}
    → Inquires m (ask_once f) old new (Err s) → Inquires m (ask f next) old new (Err s)
unfolding and_then ask_once
inquires_ask_stop {f = f} next h = inquires_stop {i = ask_once f} next h

-- how inquiries go on
pub ruleset asking = (inquires_done, inquires_then, inquires_stop, inquires_ask, inquires_ask_stop, to_z-of_z)
