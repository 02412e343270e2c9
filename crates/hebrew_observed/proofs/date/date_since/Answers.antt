use Rattle.std.proofs.Common.{arith, ◌≡◌, true, refl, ℤ, SFits, w64, pos, ◌-ℤ◌}
use Rattle.std.specs.Prelude.{int_lt}
use Rattle.std.proofs.lemmas.Int.{to_z-of_z, ints}
use Rattle.book_model.specs.calendars.HebrewObserved.{hebrew_since}
use Rattle.hebrew_observed.specs.Years.{hebrew_in_year}
use Rattle.hebrew_observed.proofs.date.date_since.Goals as goal

-- before the first of Nisan the year before is asked
since_earlier : (day first year nisan : ℤ) → int_lt day nisan ≡ true
    → hebrew_since day first year nisan ≡ hebrew_in_year day first (year -ℤ pos 1)
unfolding hebrew_since
since_earlier day first year nisan early = rw early refl

pub returns-then-day-nisan : goal.returns-then-day-nisan
returns-then-day-nisan g c =
    let fd = c.ranges.day in
    let ff = c.ranges.first in
    let fy = c.ranges.year in
    let fb : SFits w64 (c.args.year -ℤ pos 1) = omega (arith, ints, c.requires.year.0, c.requires.year.1) in
    let early : int_lt c.args.day c.args.nisan ≡ true = grind (arith, ints) in
    let since = since_earlier c.args.day c.args.first c.args.year c.args.nisan early in
    record { date = rw since (simp to_z-of_z at c.date_in_year.ensures.date) }
