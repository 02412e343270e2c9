-- What the year of a whole day says of the sun's longitude, and which values facts have. The test of the year of a
-- whole day is decided, since its enclosure is exact to far less than a day; so a failure at the year is none of the
-- first tests. A value is the definition's at depth 40, of which book_model and time_scales say where it lies.
use Rattle.std.specs.Prelude.{◌≡◌, ℕ, ◌≤◌, ℤ, Result, Ok, Err, IfOk}
use Rattle.std.proofs.Common.{arith}
use Rattle.std.proofs.lemmas.Int.{ints}
use Rattle.book_model.specs.Interval.{Interval}
use Rattle.book_model.specs.declared.fail.Fail.{Fail}
use Rattle.book_model.specs.declared.fail.Fail.TheVariants.{Undecided as undecided_at, Void}
use Rattle.book_model.specs.declared.site.Site.TheVariants.{Round, Year}
use Rattle.book_model.specs.numbers.Bounds.{Reach, limits_of}
use Rattle.book_model.specs.calendars.Gregorian.{year_of_day}
use Rattle.book_model.specs.numbers.Expressions.{World, integer}
use Rattle.book_model.specs.sky.Facts.{IsFactValue, IsValueDay, at_depth}
use Rattle.book_model.specs.sky.Kinds.{dt_of, sun_in_thousandths_of}
use Rattle.book_model.specs.programs.Leading.{Exact, Leads}
use Rattle.book_model.specs.numbers.Relations.{Narrow}
use Rattle.time_scales.proofs.CorrectionValues.{dt_value, year_small}
use Rattle.book_model.proofs.FactRuns.{sun_value}
use Rattle.book_model.proofs.Leads.{leads_value}
use Rattle.encl_core.specs.Steps.{IsUndecidedFloor}
use Rattle.moon_core.specs.PhaseDays.{IsPhaseDay}
use Rattle.time_scales.specs.Steps.{IsYearUndecidedFor, IsNotOfYear, IsNoEarlyYear}
use Rattle.time_scales.proofs.WholeDays.{closed_year, year_enclosed}

-- a failure that isn't at the year is none at it by the first tests
none_early : (f : Fail) → IsNotOfYear f → IsNoEarlyYear f
none_early (undecided_at u) h = λ e t. h e
none_early (Void s) h = tt

-- a failure at a whole day, where it is at the year of that alone, is not at the year
pub day_not_of_year : {E : Type 0} (shown : E → Interval) (bits : ℕ) (d : ℤ) (e : E) (f : Fail) → 36 ≤ bits → bits ≤ 56
    → IsValueDay d
    → ((r : Reach) → Narrow shown (limits_of bits) r (integer d) e)
    → IsYearUndecidedFor (shown e) f → IsNoEarlyYear f
day_not_of_year shown bits d e f p q h n o =
    let y = year_small d h in
    none_early f (closed_year (shown e) (year_of_day d) f (year_enclosed shown bits d e p q h (n _))
    (omega (arith, ints, y.0, y.1)) o)

-- nor is an undecided rounding, or a void
pub round_not_of_year : (i : Interval) (f : Fail) → IsUndecidedFloor i Round f → IsNoEarlyYear f
round_not_of_year i (undecided_at u) o = λ e t. let r = o.1 in absurd (cc)
round_not_of_year i (Void s) o = tt

pub void_not_of_year : (f : Fail) → f ≡ Void Year → IsNoEarlyYear f
void_not_of_year f e = rw e tt

-- a value of the sun's longitude is one that an answer may have
pub sun_is_value : (d : ℤ) (r : Result ℤ Fail) (b a : ℕ)
    → ((w : World) → 40 ≤ w.depth → Leads w Exact (sun_in_thousandths_of d) b a r) → IfOk r IsFactValue
sun_is_value d (Ok v) b a h = let z = sun_value (at_depth 40) d v (leads_value (h (at_depth 40) (omega arith))) in
    (omega (arith, ints, z.0), omega (arith, ints, z.1))
sun_is_value d (Err f) b a h = tt

-- so is that of ΔT
pub dt_is_value : (d : ℤ) (r : Result ℤ Fail) (b a : ℕ) → IsValueDay d
    → ((w : World) → 40 ≤ w.depth → Leads w Exact (dt_of d) b a r) → IfOk r IsFactValue
dt_is_value d (Ok v) b a l h = dt_value (at_depth 40) d v l (leads_value (h (at_depth 40) (omega arith)))
dt_is_value d (Err f) b a l h = tt

-- the day of a phase is a value that a fact may have
pub phase_day_is_value : (r : Result ℤ Fail) → IfOk r IsPhaseDay → IfOk r IsFactValue
phase_day_is_value (Ok v) h = (omega (arith, ints, h.from), omega (arith, ints, h.to))
phase_day_is_value (Err f) h = tt
