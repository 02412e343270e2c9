-- A minute that is found lies in an interval in which it becomes so. The run at depth 40 is taken apart: each halving
-- keeps an interval at whose beginning it isn't so and at whose end it is, twice as short as the one before, and what
-- is so at depth 40 is so at every greater one.
use Rattle.std.proofs.Common.{◌≡◌, ℕ, zero, suc, ◌+◌, ◌-◌, ◌*◌, ◌/◌, ◌^◌, ◌<◌, ◌≤◌, refl, subst, ap, arith, Bool, true}
use Rattle.std.proofs.Common.{false, not, if◌then◌else◌, ℤ, pos, negsuc, ◌≤ℤ◌, ◌*ℤ◌}
use Rattle.std.specs.Prelude.{◌&&◌}
use Rattle.std.proofs.lemmas.Int.{ints}
use Rattle.book_model.proofs.Intervals.{within_refl}
use Rattle.book_model.specs.declared.fact.Place.{Place}
use Rattle.book_model.specs.declared.horizon.Location.{Location}
use Rattle.book_model.specs.programs.Programs.{Program, answer, run, outcome, valued}
use Rattle.book_model.specs.sky.Facts.{at_depth}
use Rattle.book_model.proofs.FactRuns.{parts}
use Rattle.book_model.proofs.Nesting.{runs_nest}
use Rattle.book_model.specs.programs.Crossings.{middle_of, halved_of, minutes_at, minute_in_of, crossing_from}
use Rattle.book_model.specs.programs.Crossings.{crossing_of, opposite_of}
use Rattle.moon_rise.specs.Crossings.{ComesToAlways, HasCrossing}
use Rattle.book_model.specs.sky.Moonrise.{moonrise_of, moonset_of, up_at_of}

-- the answer of a program at depth 40
abbrev Comes : {A : Type 0} → Program A → A → Type 0
Comes p a = outcome (run (at_depth 40) p) ≡ valued a

-- a program that gives an answer at depth 40 does so at every depth from there on
always : {A : Type 0} (p : Program A) (a : A) → Comes p a → ComesToAlways p a
always p a e = record {
  at_each_depth = λ n deep. runs_nest.value_stays (at_depth n) (at_depth 40)
      (record { deeper = deep; inner = λ k. within_refl _ }) p a e;
}

answered_is : {A : Type 0} (a b : A) → Comes (answer a) b → a ≡ b
unfolding run outcome
answered_is a b e = cc

-- it isn't so at the first of two moments and is so at the second
record IsIntervalOfDays (holds : ℕ → Program Bool) (low high : ℕ) : Type 0 where
  before : Comes (holds low) false
  after : Comes (holds high) true

-- a sixteenth of a quarter of an hour of which that holds, within an interval
record IsHalved (holds : ℕ → Program Bool) (first last low : ℕ) : Type 0 where
  interval_of_days : IsIntervalOfDays holds low (suc low)
  above : first ≤ low
  below : low < last

middle_is : (low half : ℕ) → middle_of low (low + 2 * half) ≡ low + half
middle_is low half = omega arith

-- halving
halved : (more : ℕ) (holds : ℕ → Program Bool) (low high i : ℕ) → high ≡ low + 2 ^ more
    → Comes (halved_of more holds low high) i → IsIntervalOfDays holds low high
    → IsHalved holds low high i
unfolding halved_of
halved zero holds low high i e h s =
    let is : low ≡ i = answered_is low i h in
    let one : high ≡ suc low = omega (arith, e) in
    let t : IsIntervalOfDays holds low (suc low) = rw one at s in
    record { interval_of_days = rw is at t; above = omega (arith, is); below = omega (arith, is, one) }
halved (suc more) holds low high i e h s =
    let p = parts (at_depth 40) (holds (middle_of low high)) _ i h in
    let m : middle_of low high ≡ low + 2 ^ more = let d : 2 ^ suc more ≡ 2 * 2 ^ more = omega arith in
    rw (e, d) (middle_is low (2 ^ more)) in
    let f : high ≡ middle_of low high + 2 ^ more = let d : 2 ^ suc more ≡ 2 * 2 ^ more = omega arith in
    omega (arith, e, d, m) in
    by_test p.part (middle_of low high) m f p.first p.then (λ high' t. halved more holds low high' i t)
    (λ low' t. halved more holds low' high i t)
  where
    by_test : (now : Bool) (middle : ℕ) → middle ≡ low + 2 ^ more → high ≡ middle + 2 ^ more → Comes (holds middle) now
        → Comes (if now then halved_of more holds low middle else halved_of more holds middle high) i
        → ((high' : ℕ) → high' ≡ low + 2 ^ more → Comes (halved_of more holds low high') i
        → IsIntervalOfDays holds low high' → IsHalved holds low high' i)
        → ((low' : ℕ) → high ≡ low' + 2 ^ more → Comes (halved_of more holds low' high) i
        → IsIntervalOfDays holds low' high → IsHalved holds low' high i)
        → IsHalved holds low high i
    by_test true middle m f a t first second =
        let r = first middle m t (record { before = s.before; after = a }) in
        record { interval_of_days = r.interval_of_days; above = r.above; below = omega (arith, r.below, f) }
    by_test false middle m f a t first second =
        let r = second middle f t (record { before = a; after = s.after }) in
        record { interval_of_days = r.interval_of_days; above = omega (arith, r.above, m); below = r.below }

from_minute : (k i : ℕ) → 16 * k ≤ i → pos (30 * i) ≤ℤ (pos 32 *ℤ minutes_at k i)
from_minute k i h = let q = (30 * (i - 16 * k) + 31) / 32 in omega (arith, ints, h)

to_minute : (k i : ℕ) → 16 * k ≤ i → (pos 32 *ℤ minutes_at k i) ≤ℤ pos (30 * suc i + 1)
to_minute k i h = let q = (30 * (i - 16 * k) + 31) / 32 in omega (arith, ints, h)

-- the minute in a quarter of an hour in which it becomes so
minute_found : (holds : ℕ → Program Bool) (k : ℕ) (v : ℤ) → k < 96 → Comes (minute_in_of holds k) v
    → IsIntervalOfDays holds (16 * k) (16 * k + 16)
    → HasCrossing holds false v
unfolding minute_in_of
minute_found holds k v d e s =
    let p = parts (at_depth 40) (halved_of 4 holds (16 * k) (16 * k + 16)) _ v e in
    let h = halved 4 holds (16 * k) (16 * k + 16) p.part refl p.first s in
    let is : minutes_at k p.part ≡ v = answered_is _ v p.then in
    record {
      moment = p.part;
      of_day = omega (arith, d, h.below);
      at_first = always (holds p.part) false h.interval_of_days.before;
      at_last = always (holds (suc p.part)) true h.interval_of_days.after;
      from = subst (λ z. pos (30 * p.part) ≤ℤ (pos 32 *ℤ z)) is (from_minute k p.part h.above);
      to = subst (λ z. (pos 32 *ℤ z) ≤ℤ pos (30 * suc p.part + 1)) is (to_minute k p.part h.above);
    }

found_from : (more : ℕ) (holds : ℕ → Program Bool) (k : ℕ) (before : Bool) (v : ℤ) → k + more ≤ 96 → pos 0 ≤ℤ v
    → Comes (holds (16 * k)) before
    → Comes (crossing_from more holds k before) v → HasCrossing holds false v
unfolding crossing_from
found_from zero holds k before v d m b e = let is : negsuc 0 ≡ v = answered_is _ v e in
    absurd (omega (arith, ints, m, is))
found_from (suc more) holds k before v d m b e =
    let p = parts (at_depth 40) (holds (16 * k + 16)) _ v e in
    let next : 16 * suc k ≡ 16 * k + 16 = omega arith in
    by_tests before p.part b p.first p.then (λ after a t. found_from more holds (suc k) after v (omega (arith, d)) m
    (rw next a) t)
  where
    by_tests : (before after : Bool) → Comes (holds (16 * k)) before → Comes (holds (16 * k + 16)) after
        → Comes (if not before && after then minute_in_of holds k else crossing_from more holds (suc k) after) v
        → ((after : Bool) → Comes (holds (16 * k + 16)) after → Comes (crossing_from more holds (suc k) after) v
        → HasCrossing holds false v)
        → HasCrossing holds false v
    by_tests false true b a t rest = minute_found holds k v (omega (arith, d)) t (record { before = b; after = a })
    by_tests false false b a t rest = rest false a t
    by_tests true true b a t rest = rest true a t
    by_tests true false b a t rest = rest false a t

-- a minute of the day that is the answer at depth 40 is one in which it becomes so
pub crossing_found : (holds : ℕ → Program Bool) (v : ℤ) → pos 0 ≤ℤ v → ComesToAlways (crossing_of holds) v
    → HasCrossing holds false v
unfolding crossing_of
crossing_found holds v m h =
    let e = h.at_each_depth 40 (omega arith) in
    let p = parts (at_depth 40) (holds 0) (crossing_from 96 holds 0) v e in
    found_from 96 holds 0 p.part v (omega arith) m p.first p.then

-- ---- the moon
pub rising_found : (place : Place) (location : Location) (day v : ℤ) → pos 0 ≤ℤ v
    → ComesToAlways (moonrise_of place location day) v
    → HasCrossing (up_at_of place location day) false v
unfolding moonrise_of
rising_found place location day v m h = crossing_found (up_at_of place location day) v m h

-- what gives an answer where its opposite gives another
turned : (holds : ℕ → Program Bool) (i : ℕ) (so : Bool) → ComesToAlways (opposite_of holds i) so
    → ComesToAlways (holds i) (not so)
unfolding opposite_of
turned holds i so h =
    let p = parts (at_depth 40) (holds i) _ so (h.at_each_depth 40 (omega arith)) in
    let is : not p.part ≡ so = answered_is _ so p.then in
    always (holds i) (not so) (rw (← back p.part so is) p.first)
  where
    back : (a b : Bool) → not a ≡ b → a ≡ not b
    back true b e = ap not e
    back false b e = ap not e

pub setting_found : (place : Place) (location : Location) (day v : ℤ) → pos 0 ≤ℤ v
    → ComesToAlways (moonset_of place location day) v
    → HasCrossing (up_at_of place location day) true v
unfolding moonset_of
setting_found place location day v m h =
    let up = up_at_of place location day in
    let c = crossing_found (opposite_of up) v m h in
    record {
      moment = c.moment;
      of_day = c.of_day;
      at_first = turned up c.moment false c.at_first;
      at_last = turned up (suc c.moment) true c.at_last;
      from = c.from;
      to = c.to;
    }
