-- What comes of an inquiry through an oracle that moves facts.
use Rattle.std.proofs.Common.{◌≡◌, sym, ℕ, ℤ, List, refl, ap}
use Rattle.std.specs.Prelude.{Result, Ok}
use Rattle.book_model.specs.declared.fact.Fact.{Fact}
use Rattle.book_model.specs.declared.fact.Place.{Place}
use Rattle.book_model.specs.calendars.Inquiries.{Inquiry, done, ask, ask_once}
use Rattle.book_model.specs.calendars.Moving.{moved_fact, moved, at_place}
use Rattle.oracle_core.specs.declared.oracle.Stop.{Stop}
use Rattle.oracle_core.specs.declared.oracle.Oracle.{Ghosts}
use Rattle.oracle_core.specs.Asking.{Asks}
use Rattle.oracle_core.specs.Inquiring.{Meaning, State, Tells, endpoints, goes_on, stops, Inquires}
use Rattle.moved_oracle.specs.declared.moving.Moved.{Moved}
use Rattle.moved_oracle.specs.Moving.{Through, through, through_state}

-- ---- an inquiry
-- the result of an inquiry through it is that of the moved one
tells_moved : {Known A : Type 0} {m : Meaning Known} {k : Through Known} {i : Inquiry A} {old new : List Fact}
    {r : Result A Stop}
    → Tells (through m) k i old new r → Tells m k.known (at_place k.place i) old new r
unfolding moved
tells_moved endpoints = endpoints
tells_moved (goes_on value t) = goes_on value (tells_moved t)
tells_moved (stops fresh stop) = stops fresh stop

-- the same where the reference that was lent has come back: it is the one of which the name is known
pub asked_moved : {O A : Type 0} (g : Ghosts O) (i : Inquiry A) (old last : O) (place : Place) (name : ℕ) (q : Moved O)
    (r : Result A Stop)
    → Inquires (through g.meaning) i (through_state (g.state old) place name)
    (through_state (g.state q.inner.now) q.place q.inner.ghost_name) r
    → (name ≡ q.inner.ghost_name → last ≡ q.inner.now) → Asks g (at_place place i) old last r
asked_moved g i old last place name q r h back =
    let same : last ≡ q.inner.now = back (sym (ap (λ k. k.name) h.same)) in
    record { same = rw same (ap (λ k. k.known) h.same); tells = rw same (tells_moved h.tells) }

-- ---- one fact
-- an inquiry that is done asks nothing
told_done : {Known : Type 0} {m : Meaning Known} {k : Known} {i : Inquiry ℤ} {old new : List Fact} {r : Result ℤ Stop}
    (a : ℤ)
    → Tells m k i old new r → i ≡ done a → (new ≡ old) × (r ≡ Ok a)
told_done a endpoints e = (refl, cc)
told_done a (goes_on value t) e = absurd (cc)
told_done a (stops fresh stop) e = absurd (cc)

-- the fact that an inquiry asks first, and what it goes on with
first_of : Fact → Inquiry ℤ → Fact
first_of d (done a) = d
first_of d (ask f next) = f

next_of : ℤ → Inquiry ℤ → Inquiry ℤ
next_of v (done a) = done a
next_of v (ask f next) = next v

-- what comes of a moved fact of the oracle beneath comes through it of the fact
one_told : {Known : Type 0} {m : Meaning Known} (k : Through Known) {j : Inquiry ℤ} {old new : List Fact}
    {r : Result ℤ Stop} (f : Fact)
    → Tells m k.known j old new r → j ≡ ask (moved_fact k.place f) done → Tells (through m) k (ask f done) old new r
unfolding first_of next_of
one_told k f endpoints e = absurd (cc)
one_told {m = m} k {old = old} {new = new} f (goes_on {f = g} {v = v} {next = next} value t) e =
    let gf : g ≡ moved_fact k.place f = ap (first_of f) e in
    let d = told_done v t (ap (next_of v) e) in
    let here : (through m).value_of k ((through m).kept_as k f) v = rw gf at value in
    rw (d.0, d.1, gf) (goes_on here endpoints)
one_told k f (stops {f = g} fresh stop) e =
    let gf : g ≡ moved_fact k.place f = ap (first_of f) e in
    stops (rw gf at fresh) (rw gf at stop)

-- a moved fact that is asked of the oracle beneath is asked through it
pub asked_through : {Known : Type 0} {m : Meaning Known} (f : Fact) {old new : State Known} {place : Place} {name : ℕ}
    {r : Result ℤ Stop}
    → Inquires m (ask_once (moved_fact place f)) old new r
    → Inquires (through m) (ask_once f) (through_state old place name) (through_state new place name) r
unfolding ask_once
asked_through f {old = old} {place = place} {name = name} h =
    let here : Through _ = record { known = old.known; place = place; name = name } in
    record {
      same = ap (λ k. record { known = k; place = place; name = name }) h.same;
      tells = one_told here f h.tells
          refl;
    }
