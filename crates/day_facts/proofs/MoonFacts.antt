-- The facts of the new moons: how many tests they make, and from where to where their values lie. The run at depth 40
-- is taken apart into the walk to a new moon, which lies in the years of which ΔT is known, and the day of a moment at
-- a place (PlaceDays).
use Rattle.std.specs.Prelude.{◌≡◌, ℕ, ℤ, pos, ◌+ℤ◌, ◌-ℤ◌, Result, Ok, Err, IfOk, ◌≤◌}
use Rattle.std.proofs.Common.{arith}
use Rattle.std.proofs.lemmas.Int.{ints}
use Rattle.book_model.specs.declared.fact.Place.{Place}
use Rattle.book_model.specs.declared.fail.Fail.{Fail}
use Rattle.book_model.specs.declared.time_tables.TheConstants.{TABLE_START, TABLE_END}
use Rattle.book_model.specs.numbers.Expressions.{Expression, World, value}
use Rattle.book_model.specs.sky.Facts.{IsFactValue, at_depth}
use Rattle.book_model.specs.sky.Kinds.{new_moon_before_of, new_moon_from_of}
use Rattle.book_model.specs.programs.Leading.{Leads, Exact}
use Rattle.book_model.specs.sky.Phases.{number_of_moon, walk_of, moon_preceding_of, moon_before_of, moon_from_of}
use Rattle.book_model.specs.programs.Programs.{run, valued, outcome, AtMost}
use Rattle.book_model.specs.numbers.Ranges.{IsBetween}
use Rattle.book_model.specs.sky.Time.{midnight_of}
use Rattle.book_model.proofs.FactRuns.{parts}
use Rattle.book_model.proofs.Leads.{at_most_bind, at_most_more, leads_value}
use Rattle.day_facts.proofs.PlaceDays.{day_few, day_between}
use Rattle.moon_core.proofs.PhaseRanges.{moon_before_few, moon_from_few, new_moon_between}

-- ---- how many tests
pub new_moon_before_few : (place : Place) (d : ℤ) → AtMost 99999 (new_moon_before_of place d)
unfolding new_moon_before_of
new_moon_before_few place d = at_most_more 1026 99999 (omega arith)
    (at_most_bind 25 1001 (moon_before_few (midnight_of place d)) (day_few place))

pub new_moon_from_few : (place : Place) (d : ℤ) → AtMost 99999 (new_moon_from_of place d)
unfolding new_moon_from_of
new_moon_from_few place d = at_most_more 1026 99999 (omega arith)
    (at_most_bind 25 1001 (moon_from_few (midnight_of place d)) (day_few place))

-- ---- values
moon_before_between : (w : World) (x m : Expression) → outcome (run w (moon_before_of x)) ≡ valued m
    → IsBetween (TABLE_START -ℤ pos 200) (TABLE_END +ℤ pos 200) (value w m)
unfolding moon_before_of moon_preceding_of
moon_before_between w x m e =
    let n = parts w (number_of_moon x) _ m e in
    let k = parts w (walk_of 6 x _) _ m n.then in
    new_moon_between w _ m k.then

moon_from_between : (w : World) (x m : Expression) → outcome (run w (moon_from_of x)) ≡ valued m
    → IsBetween (TABLE_START -ℤ pos 200) (TABLE_END +ℤ pos 200) (value w m)
unfolding moon_from_of
moon_from_between w x m e =
    let n = parts w (number_of_moon x) _ m e in
    let k = parts w (walk_of 6 x _) _ m n.then in
    new_moon_between w _ m k.then

before_value : (w : World) (place : Place) (d v : ℤ) → outcome (run w (new_moon_before_of place d)) ≡ valued v
    → IsFactValue v
unfolding new_moon_before_of
before_value w place d v e =
    let m = parts w (moon_before_of (midnight_of place d)) _ v e in
    let b = day_between w place (TABLE_START -ℤ pos 200) (TABLE_END +ℤ pos 200) v m.part
    (moon_before_between w (midnight_of place d) m.part m.first) m.then in
    (omega (arith, ints, b.0), omega (arith, ints, b.1))

from_value : (w : World) (place : Place) (d v : ℤ) → outcome (run w (new_moon_from_of place d)) ≡ valued v
    → IsFactValue v
unfolding new_moon_from_of
from_value w place d v e =
    let m = parts w (moon_from_of (midnight_of place d)) _ v e in
    let b = day_between w place (TABLE_START -ℤ pos 200) (TABLE_END +ℤ pos 200) v m.part
    (moon_from_between w (midnight_of place d) m.part m.first) m.then in
    (omega (arith, ints, b.0), omega (arith, ints, b.1))

-- the same of the calls that compute them
pub new_moon_before_is_value : (place : Place) (d : ℤ) (r : Result ℤ Fail) (b a : ℕ)
    → ((w : World) → 40 ≤ w.depth → Leads w Exact (new_moon_before_of place d) b a r) → IfOk r IsFactValue
new_moon_before_is_value place d (Ok v) b a h = before_value (at_depth 40) place d v
    (leads_value (h (at_depth 40) (omega arith)))
new_moon_before_is_value place d (Err f) b a h = tt

pub new_moon_from_is_value : (place : Place) (d : ℤ) (r : Result ℤ Fail) (b a : ℕ)
    → ((w : World) → 40 ≤ w.depth → Leads w Exact (new_moon_from_of place d) b a r) → IfOk r IsFactValue
new_moon_from_is_value place d (Ok v) b a h = from_value (at_depth 40) place d v
    (leads_value (h (at_depth 40) (omega arith)))
new_moon_from_is_value place d (Err f) b a h = tt
