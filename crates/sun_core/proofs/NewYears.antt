-- The search for the day on which a season has just begun: how many tests it makes, and from where it sets out. The
-- tests of a search are those of a day times the days, by induction; of a day they are those of its moment and a few
-- more (`AtMost`, along the definition). The start lies near the day, since the estimate is a moment of the years of
-- which ΔT is known less at most a turn of the mean sun.
use Rattle.std.specs.Prelude.{◌≡◌, ℕ, zero, suc, ◌*◌, ◌+◌, ◌≤◌, ℤ, pos, ◌+ℤ◌, ◌-ℤ◌, ◌≤ℤ◌, Some, Bool, true, false, cond}
use Rattle.std.proofs.Common.{arith}
use Rattle.std.proofs.lemmas.Int.{ints}
use Rattle.book_model.specs.declared.calendar_tables.TheConstants.{AUTUMN, SPRING}
use Rattle.book_model.specs.declared.season.Season.{Season}
use Rattle.book_model.specs.declared.season.Side.{Side}
use Rattle.book_model.specs.declared.season.Side.TheVariants.{UpTo, Past, From}
use Rattle.book_model.specs.declared.time_tables.TheConstants.{TABLE_START, TABLE_END}
use Rattle.book_model.specs.numbers.Expressions.{Expression, World, value, integer}
use Rattle.book_model.specs.sky.Kinds.{longitude_at_of, is_on_side_of, has_side_at, last_passage_of, search_start_of}
use Rattle.book_model.specs.sky.Kinds.{season_day_of, nowruz_of, french_year_of}
use Rattle.book_model.specs.sky.Noon.{noon_of, paris_midnight_of}
use Rattle.book_model.specs.programs.Programs.{Program, answer, integers, cell_at, run, valued, outcome, AtMost}
use Rattle.book_model.specs.programs.Programs.{answer_at_most, void_at_most, cell_at_most, compare_at_most}
use Rattle.book_model.specs.programs.Searches.{first_of_days, first_day_from}
use Rattle.book_model.specs.sky.Sun.{sun_of, past_of, estimate_of}
use Rattle.book_model.specs.sky.Time.{centuries_of}
use Rattle.book_model.proofs.Estimates.{from_apparent_few, noon_few, estimate_few, estimate_between, floor_between}
use Rattle.book_model.proofs.FactRuns.{sun_few, parts}
use Rattle.book_model.proofs.Leads.{at_most_bind, at_most_more}
use Rattle.time_scales.proofs.Moments.{dated_in_table}
use Rattle.book_model.proofs.Values.{value_proper}

-- a search makes at most the tests of each of its days
pub days_few : (n days : ℕ) (test : ℤ → Program Bool) (day : ℤ) → ((d : ℤ) → AtMost n (test d))
    → AtMost (days * n) (first_of_days days test day)
unfolding first_of_days
days_few n zero test day h = void_at_most
days_few n (suc more) test day h = at_most_more (n + more * n) (suc more * n) (omega arith)
    (at_most_bind n (more * n) (h day) (λ yes. next yes (days_few n more test (day +ℤ pos 1) h)))
  where
    next : (yes : Bool) → AtMost (more * n) (first_of_days more test (day +ℤ pos 1))
        → AtMost (more * n) (cond yes (answer day) (first_of_days more test (day +ℤ pos 1)))
    next true rest = answer_at_most
    next false rest = rest

-- where the formula of a moment makes so many tests, the search for a season makes few
side_few : (side : Side) (s : Expression) → AtMost 1 (is_on_side_of side s)
unfolding is_on_side_of
side_few (UpTo l) s = compare_at_most (λ more. answer_at_most)
side_few (Past l) s = compare_at_most (λ past. answer_at_most)
side_few (From l) s = compare_at_most (λ less. answer_at_most)

pub has_side_few : (n : ℕ) (moment : ℤ → Program Expression) (side : Side) → ((d : ℤ) → AtMost n (moment d)) → (d : ℤ)
    → AtMost (n + 2 + 1) (has_side_at moment side d)
unfolding has_side_at longitude_at_of
has_side_few n moment side h d = at_most_bind (n + 2) 1 (at_most_bind n 2 (h d) sun_few) (side_few side)

start_few : (n : ℕ) (moment : ℤ → Program Expression) (l : ℤ) → ((d : ℤ) → AtMost n (moment d)) → (d : ℤ)
    → AtMost (n + 6 + 1) (search_start_of moment l d)
unfolding search_start_of last_passage_of
start_few n moment l h d = at_most_bind (n + 6) 1 (at_most_bind n 6 (h d) (estimate_few (integer l)))
    (λ s. cell_at_most (λ q. answer_at_most))

pub season_day_few : (n : ℕ) (moment : ℤ → Program Expression) (season : Season) → ((d : ℤ) → AtMost n (moment d))
    → n ≤ 1000 → (d : ℤ)
    → AtMost 99999 (season_day_of moment season d)
unfolding season_day_of first_day_from
season_day_few n moment season h l d =
    at_most_more (n + 6 + 1 + 46 * (n + 2 + 1)) 99999 (omega (arith, l))
    (at_most_bind (n + 6 + 1) (46 * (n + 2 + 1)) (start_few n moment season.longitude h d)
    (λ q. days_few (n + 2 + 1) 46 (has_side_at moment season.side) (q -ℤ pos 1) (has_side_few n moment season.side h)))

pub nowruz_few : (d : ℤ) → AtMost 99999 (nowruz_of d)
nowruz_few d = season_day_few 1 noon_of SPRING noon_few (omega arith) d

paris_midnight_few : (d : ℤ) → AtMost 1 (paris_midnight_of d)
unfolding paris_midnight_of
paris_midnight_few d = at_most_bind 1 0 (from_apparent_few _ _) (λ e. answer_at_most)

pub french_year_few : (d : ℤ) → AtMost 99999 (french_year_of d)
french_year_few d = season_day_few 1 paris_midnight_of AUTUMN paris_midnight_few (omega arith) d

-- ---- where a search begins
-- the moment of a day from which a passage is estimated lies in the years of which ΔT is known, and so the estimate
-- doesn't lie far off
pub record IsEstimate (q : ℤ) : Type 0 where
  pub from : (TABLE_START -ℤ pos 579) ≤ℤ q
  pub to : q ≤ℤ TABLE_END

pub search_start_near : (w : World) (moment : ℤ → Program Expression) (l d q : ℤ) (s : Expression)
    → outcome (run w (last_passage_of moment l d)) ≡ valued s
    → cell_at integers (value w s) ≡ Some q → IsEstimate q
unfolding last_passage_of estimate_of past_of sun_of
search_start_near w moment l d q s h e =
    let m = parts w (moment d) (estimate_of (integer l)) s h in
    let p = parts w (past_of (integer l) m.part) _ s m.then in
    let u = parts w (sun_of m.part) _ p.part p.first in
    let c = parts w (centuries_of m.part) _ u.part u.first in
    let b = estimate_between w (integer l) m.part s TABLE_START TABLE_END (dated_in_table w m.part c.part c.first)
    m.then in
    let f = floor_between _ _ q (value w s) (value_proper w s) b e in
    record { from = omega (arith, ints, f.0); to = omega (arith, ints, f.1) }
