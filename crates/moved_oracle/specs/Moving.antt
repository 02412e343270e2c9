-- What is known through an oracle that moves facts to another place: what the oracle beneath it knows, of the moved
-- facts.
use Rattle.std.specs.Prelude.{◌≡◌, ℕ, Bool, true, false, ℤ}
use Rattle.book_model.specs.declared.fact.Fact.{Fact}
use Rattle.book_model.specs.declared.fact.Place.{Place}
use Rattle.book_model.specs.declared.fact.Place.TheVariants.{Hanoi, Seoul, Tokyo}
use Rattle.book_model.specs.calendars.Moving.{moved_fact}
use Rattle.oracle_core.specs.Inquiring.{Meaning, State}

-- the places to whose sky facts of that of Beijing are moved
abbrev pub is_moved_to : Place → Bool
is_moved_to Hanoi = true
is_moved_to Seoul = true
is_moved_to Tokyo = true
is_moved_to place = false

-- What is known through a reference to an oracle, of the sky of a place. What an oracle knows never changes: so the
-- name of the reference stands here, and whoever lent it knows it again when it comes back.
pub record Through (Known : Type 0) : Type 0 where
  pub known : Known
  pub place : Place
  pub name : ℕ

-- a fact is stored as the oracle beneath stores the moved one; all else is that oracle's
abbrev pub through : {Known : Type 0} → Meaning Known → Meaning (Through Known)
through m = record {
  value_of = λ k. m.value_of k.known;
  kept_as = λ k f. m.kept_as k.known (moved_fact k.place f);
  may_stop = λ k. m.may_stop k.known;
}

-- the facts asked through it are those asked of the oracle beneath
abbrev pub through_state : {Known : Type 0} → State Known → Place → ℕ → State (Through Known)
through_state s place name = record { known = record { known = s.known; place = place; name = name }; asked = s.asked }

-- a fact has at most one value through it, since it has at most one beneath
pub one_through : {Known : Type 0} (m : Meaning Known) → ((k : Known) (f : Fact) (v w : ℤ) → m.value_of k f v
    → m.value_of k f w → v ≡ w)
    → (k : Through Known) (f : Fact) (v w : ℤ) → (through m).value_of k f v → (through m).value_of k f w → v ≡ w
one_through m one k f v w h i = one k.known f v w h i
