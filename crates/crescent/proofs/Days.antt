-- A day of whose last new moon the day is known lies in the years of which ΔT is known. The phase of the moon at the
-- day is among the parts of the run at depth 40 and has a value in these years alone.
use Rattle.std.specs.Prelude.{◌≡◌, ℕ, ℤ, ◌≤◌, ◌≤ℤ◌, Ok}
use Rattle.std.proofs.Common.{arith}
use Rattle.std.proofs.lemmas.Int.{ints}
use Rattle.book_model.specs.Fraction.{whole, ◌≤F◌}
use Rattle.book_model.specs.numbers.Expressions.{World, value, integer}
use Rattle.book_model.specs.programs.Leading.{Leads, Exact}
use Rattle.book_model.specs.programs.Programs.{run, valued, outcome}
use Rattle.book_model.specs.sky.Facts.{at_depth}
use Rattle.book_model.specs.sky.Phases.{phase_of, phase_past_of, phase_before_of, phase_day_of}
use Rattle.book_model.proofs.FactRuns.{parts}
use Rattle.book_model.proofs.Leads.{leads_value}
use Rattle.moon_core.proofs.PhaseRanges.{phase_in_table}
use Rattle.book_model.specs.declared.time_tables.TheConstants.{TABLE_START, TABLE_END}
use Rattle.crescent.specs.Visibilities.{IsTableDay}

whole_order : (n d : ℤ) → whole n ≤F whole d → n ≤ℤ d
whole_order n d h = let c = h.cross in omega (arith, ints, c)

dated_in : (w : World) (f d v : ℤ) → outcome (run w (phase_day_of f d)) ≡ valued v → IsTableDay d
unfolding phase_day_of phase_before_of phase_past_of value
dated_in w f d v e =
    let t = parts w (phase_before_of (integer f) (integer d)) _ v e in
    let p = parts w (phase_past_of (integer f) (integer d)) _ t.part t.first in
    let s = parts w (phase_of (integer d)) _ p.part p.first in
    let b = phase_in_table w (integer d) s.part s.first in
    (whole_order TABLE_START d b.0, whole_order d TABLE_END b.1)

pub day_dated : (f d v : ℤ) (b a : ℕ) → ((w : World) → 40 ≤ w.depth → Leads w Exact (phase_day_of f d) b a (Ok v))
    → IsTableDay d
day_dated f d v b a h = dated_in (at_depth 40) f d v (leads_value (h (at_depth 40) (omega arith)))
