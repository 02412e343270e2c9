-- When the moon was last at a phase: how many tests that makes, and from where to where it lies. The tests are added
-- along the definition. The moment lies between its bounds, which are two days about a moment that the mean phase leads
-- back to, and that lies less than a mean month before a moment of the table.
use Rattle.std.specs.Prelude.{◌≡◌, ℕ, ℤ, pos, ◌≤◌, Result, Ok, Err, IfOk, ◌+ℤ◌, ◌-ℤ◌}
use Rattle.std.proofs.Common.{arith}
use Rattle.std.proofs.lemmas.Int.{ints}
use Rattle.book_model.specs.Fraction.{whole, times, smaller, larger, is_at_most}
use Rattle.book_model.specs.Interval.{between, ◌⊆◌, product, least, greatest}
use Rattle.book_model.specs.declared.fail.Fail.{Fail}
use Rattle.book_model.specs.declared.new_moon_tables.TheConstants.{DEGREE_OF_MONTH}
use Rattle.book_model.specs.declared.site.Site.TheVariants.{DayFloor}
use Rattle.book_model.specs.declared.time_tables.TheConstants.{TABLE_START, TABLE_END}
use Rattle.book_model.specs.programs.Bisection.{invert_of}
use Rattle.book_model.specs.numbers.Expressions.{Expression, World, value, exactly, integer, add, subtract}
use Rattle.book_model.specs.sky.Facts.{at_depth}
use Rattle.book_model.specs.numbers.Fractions.{fraction_of}
use Rattle.book_model.specs.programs.Leading.{Leads, Exact}
use Rattle.book_model.specs.sky.Phases.{phase_of, phase_past_of, phase_back_by, phase_about_of, phase_before_of}
use Rattle.book_model.specs.sky.Phases.{phase_day_of}
use Rattle.book_model.specs.programs.Programs.{integers, run, valued, outcome, AtMost, answer_at_most, cell_at_most}
use Rattle.book_model.specs.numbers.Ranges.{IsBetween}
use Rattle.moon_core.proofs.Bisections.{AreHalved, bisected_few, bisected_between}
use Rattle.book_model.proofs.Estimates.{wider, difference_between, minimum_between, between_of_within, floor_between}
use Rattle.book_model.proofs.Estimates.{reduced_few, reduced_within, sum_between}
use Rattle.book_model.proofs.FactRuns.{parts, decides}
use Rattle.book_model.proofs.Leads.{at_most_bind, at_most_more, leads_value}
use Rattle.moon_core.proofs.PhaseRanges.{phase_few, phase_in_table, scaled_between}
use Rattle.book_model.proofs.Values.{value_proper}
use Rattle.moon_core.specs.PhaseDays.{IsPhaseDay}

-- ---- how many tests
past_few : (f x : Expression) → AtMost 11 (phase_past_of f x)
unfolding phase_past_of
past_few f x = at_most_bind 10 1 (phase_few x) (λ p. reduced_few _)

pub phase_before_few : (f x : Expression) → AtMost 844 (phase_before_of f x)
unfolding phase_before_of phase_about_of invert_of
phase_before_few f x = at_most_bind 11 833 (past_few f x) (λ p. bisected_few 10 phase_of phase_few 64 f _ _)

pub phase_day_few_exactly : (f d : ℤ) → AtMost 845 (phase_day_of f d)
unfolding phase_day_of
phase_day_few_exactly f d = at_most_bind 844 1 (phase_before_few (integer f) (integer d))
    (λ t. cell_at_most (λ q. answer_at_most))

pub phase_day_few : (f d : ℤ) → AtMost 99999 (phase_day_of f d)
phase_day_few f d = at_most_more 845 99999 (omega arith) (phase_day_few_exactly f d)

-- ---- from where to where it lies
-- the days between which the moon is sought at a phase
abbrev sought_from : ℤ
sought_from = TABLE_START -ℤ pos 39

abbrev sought_to : ℤ
sought_to = TABLE_END +ℤ pos 12

-- a moment lies between them, or nothing is said of it
abbrev IsSought : World → Expression → Type 0
IsSought w x = IsBetween sought_from sought_to (value w x)

half_of_sum : AreHalved sought_from sought_to (sought_from +ℤ sought_from) (sought_to +ℤ sought_to)
unfolding product least greatest smaller larger times is_at_most
half_of_sum = record {
  halved = record { endpoints = (record { cross = omega (arith, ints) }, record { cross = omega (arith, ints) }) };
  low = omega (arith, ints);
  high = omega (arith, ints);
}

-- a turn of the phase, as the days of the mean month
days_of_turn : product (between (whole (pos 0)) (whole (pos 360))) (exactly (fraction_of DEGREE_OF_MONTH)) ⊆ between
    (whole (pos 0)) (whole (pos 30))
unfolding product least greatest smaller larger times is_at_most
days_of_turn = record { endpoints = (record { cross = omega (arith, ints) }, record { cross = omega (arith, ints) }) }

past_between : (w : World) (f x p : Expression) → outcome (run w (phase_past_of f x)) ≡ valued p
    → IsBetween (pos 0) (pos 360) (value w p)
unfolding phase_past_of
past_between w f x p e = let s = parts w (phase_of x) _ p e in between_of_within (pos 0) (pos 360) _
    (reduced_within w (subtract s.part f) p s.then)

back_between : (w : World) (p x : Expression) → IsBetween (pos 0) (pos 360) (value w p)
    → IsBetween TABLE_START TABLE_END (value w x)
    → IsBetween (TABLE_START -ℤ pos 30) TABLE_END (value w (phase_back_by p x))
unfolding phase_back_by value
back_between w p x h k =
    let s = scaled_between (pos 0) (pos 360) (pos 0) (pos 30) (fraction_of DEGREE_OF_MONTH) _ days_of_turn
    (value_proper w p) h in
    wider _ _ (TABLE_START -ℤ pos 30) TABLE_END _ (omega (arith, ints)) (omega (arith, ints))
    (difference_between TABLE_START TABLE_END (pos 0) (pos 30) _ _ k s)

about_between : (w : World) (f x t v : Expression) → IsBetween TABLE_START TABLE_END (value w x)
    → IsBetween (TABLE_START -ℤ pos 30) TABLE_END (value w t)
    → outcome (run w (phase_about_of f x t)) ≡ valued v → IsSought w v
unfolding phase_about_of invert_of value
about_between w f x t v h k e =
    let two = two_between w in
    let l : IsSought w (subtract t (integer (pos 2))) = wider _ _ sought_from sought_to _ (omega (arith, ints))
    (omega (arith, ints))
    (difference_between (TABLE_START -ℤ pos 30) TABLE_END (pos 2) (pos 2) _ _ k two) in
    let a : IsSought w (add t (integer (pos 2))) = wider _ _ sought_from sought_to _ (omega (arith, ints))
    (omega (arith, ints))
    (sum_between (TABLE_START -ℤ pos 30) TABLE_END (pos 2) (pos 2) _ _ k two) in
    let b = wider _ _ sought_from sought_to _ (omega (arith, ints)) (omega (arith, ints)) h in
    let u = minimum_between sought_from sought_to sought_to _ _ b a in
    bisected_between w sought_from sought_to (sought_from +ℤ sought_from) (sought_to +ℤ sought_to) half_of_sum phase_of
    64 f _ _ v l u e
  where
    two_between : (w : World) → IsBetween (pos 2) (pos 2) (value w (integer (pos 2)))
    two_between w = (record { cross = omega (arith, ints) }, record { cross = omega (arith, ints) })

-- it lies within the years of which ΔT is known, or little before or after
pub phase_before_between : (w : World) (f x v : Expression) → outcome (run w (phase_before_of f x)) ≡ valued v
    → IsBetween sought_from sought_to (value w v)
unfolding phase_before_of phase_past_of
phase_before_between w f x v e =
    let p = parts w (phase_past_of f x) _ v e in
    let s = parts w (phase_of x) _ p.part p.first in
    let b = phase_in_table w x s.part s.first in
    about_between w f x (phase_back_by p.part x) v b (back_between w p.part x (past_between w f x p.part p.first) b)
    p.then

pub phase_day_near : (w : World) (f d v : ℤ) → outcome (run w (phase_day_of f d)) ≡ valued v → IsPhaseDay v
unfolding phase_day_of
phase_day_near w f d v e =
    let t = parts w (phase_before_of (integer f) (integer d)) _ v e in
    let c = decides w DayFloor integers t.part (λ q. q) v t.then in
    let b = rw c.leads_to at (floor_between sought_from sought_to c.cell_there _ (value_proper w t.part)
    (phase_before_between w (integer f) (integer d) t.part t.first) c.decided_so) in
    record { from = b.0; to = b.1 }

pub phase_day_found : (f d : ℤ) (r : Result ℤ Fail) (b a : ℕ)
    → ((w : World) → 40 ≤ w.depth → Leads w Exact (phase_day_of f d) b a r) → IfOk r IsPhaseDay
phase_day_found f d (Ok v) b a h = phase_day_near (at_depth 40) f d v (leads_value (h (at_depth 40) (omega arith)))
phase_day_found f d (Err z) b a h = tt
