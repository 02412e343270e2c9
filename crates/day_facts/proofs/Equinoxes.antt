-- The first day of Nisan: how many tests it makes, where the day of the equinox lies, and which failures are at the
-- year. The counts of the parts are added along the definition; the moment of the equinox lies between the bounds of
-- the bisection (TermDays), and its floor is a day between them; its first three tests come before any other can fail.
use Rattle.std.specs.Prelude.{ℕ, ◌+◌, ◌*◌, ℤ, pos, Result, Ok, Err, IfOk}
use Rattle.std.proofs.Common.{arith}
use Rattle.std.proofs.lemmas.Int.{ints}
use Rattle.book_model.specs.Interval.{Interval}
use Rattle.book_model.specs.declared.fail.Fail.{Fail}
use Rattle.book_model.specs.declared.horizon.Location.{Location}
use Rattle.book_model.specs.declared.site.Site.TheVariants.{DayFloor}
use Rattle.book_model.specs.numbers.Expressions.{Expression, World, integer}
use Rattle.book_model.specs.numbers.Relations.{Within}
use Rattle.book_model.specs.programs.Leading.{Leads, Exact, leaf}
use Rattle.book_model.specs.programs.Programs.{answer, cell, integers, AtMost, answer_at_most, cell_at_most}
use Rattle.book_model.specs.programs.Programs.{compare_at_most}
use Rattle.book_model.specs.sky.Horizon.{sunset_of, dusk_of, depression_of}
use Rattle.book_model.specs.sky.Nisan.{is_before_sunset_of, nisan_by_of, nisan_of, nisan_start}
use Rattle.book_model.specs.sky.Sun.{sun_from_of}
use Rattle.book_model.proofs.Early.{AtLeast, least_first}
use Rattle.book_model.proofs.Estimates.{floor_between}
use Rattle.book_model.proofs.FactRuns.{decides}
use Rattle.book_model.proofs.Leads.{at_most_bind, at_most_more, leads_leaf, leads_value}
use Rattle.book_model.proofs.Values.{value_proper}
use Rattle.crescent.proofs.Crescents.{visibility_from_few}
use Rattle.crescent.proofs.Horizons.{settled_few}
use Rattle.moon_core.proofs.EarlyTests.{short_least}
use Rattle.day_facts.specs.Nisan.{next_equinox_of, IsEquinoxDay}
use Rattle.day_facts.proofs.TermDays.{earliest, latest, from_few, from_between}

-- ---- how many tests
sunset_few : (p : Location) (d : ℤ) → AtMost 132 (sunset_of p d)
unfolding sunset_of dusk_of depression_of
sunset_few p d = at_most_bind 132 0 (settled_few 12 p _ _ _) (λ x. answer_at_most)

before_few : (p : Location) (x : Expression) (d : ℤ) → AtMost 133 (is_before_sunset_of p x d)
unfolding is_before_sunset_of
before_few p x d = at_most_bind 132 1 (sunset_few p d) (λ s. compare_at_most (λ t. answer_at_most))

pub nisan_few : (p : Location) (d : ℤ) → AtMost 99999 (nisan_of p d)
unfolding nisan_of nisan_by_of
nisan_few p d = at_most_more (324 + (1 + (133 + (845 + (151 + 46 * 151))))) 99999 (omega arith)
    (at_most_bind 324 (1 + (133 + (845 + (151 + 46 * 151)))) (from_few _ _)
    (λ x. at_most_bind 1 (133 + (845 + (151 + 46 * 151))) (cell_at_most (λ q. answer_at_most))
    (λ f. at_most_bind 133 (845 + (151 + 46 * 151)) (before_few p x f)
    (λ before. visibility_from_few p (nisan_start f before)))))

-- ---- the day of the equinox
pub equinox_near : {E : Type 0} {shown : E → Interval} (w : World) (d : ℤ) {a b e : ℕ} {y : E} (r : Result ℤ Fail) →
    Leads w (Within shown w) (next_equinox_of d) a b (Ok y)
    → Leads w Exact (cell DayFloor integers (leaf w (next_equinox_of d)) answer) b e r
    → IfOk r IsEquinoxDay
unfolding next_equinox_of
equinox_near w d (Ok q) h f =
    let v = decides w DayFloor integers (leaf w (next_equinox_of d)) (λ z. z) q (leads_value f) in
    let b = from_between w (integer (pos 0)) (integer d) (leaf w (next_equinox_of d)) (leads_leaf h) in
    let n = floor_between earliest latest v.cell_there _ (value_proper w (leaf w (next_equinox_of d))) b v.decided_so in
    let z : IsEquinoxDay v.cell_there = record { from = omega (arith, ints, n.0); to = omega (arith, ints, n.1) } in
    rw v.leads_to at z
equinox_near w d (Err z) h f = tt

-- ---- its first tests
pub equinox_least : (d : ℤ) → AtLeast 3 (next_equinox_of d)
unfolding next_equinox_of sun_from_of
equinox_least d = least_first _ (short_least _ _)
