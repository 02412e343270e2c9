-- What is rounded for ΔT, how close an undecided test of it is, and which sides and seasons are small.
use Rattle.std.specs.Prelude.{ℕ, ◌+◌, ◌-◌, ◌*◌, ◌^◌, ℤ, pos, ◌-ℤ◌, ◌*ℤ◌, ◌≤ℤ◌, IfSome}
use Rattle.book_model.specs.declared.fail.Fail.{Fail}
use Rattle.book_model.specs.declared.fail.Fail.TheVariants.{Undecided, Void}
use Rattle.book_model.specs.declared.season.Season.{Season}
use Rattle.book_model.specs.declared.season.Side.{Side}
use Rattle.book_model.specs.declared.season.Side.TheVariants.{UpTo, Past, From}
use Rattle.book_model.specs.declared.tables.TheConstants.{HALF, MILLISECONDS_OF_DAY}
use Rattle.book_model.specs.numbers.Expressions.{Expression, constant, add, scale}
use Rattle.book_model.specs.numbers.Fractions.{fraction_of}
use Rattle.book_model.specs.programs.Widths.{IsSmall}
use Rattle.time_scales.specs.Corrections.{units_of_year}

-- what is rounded: ΔT in milliseconds, and a half
abbrev pub rounded_expression : Expression → Expression
rounded_expression x = add (scale (fraction_of MILLISECONDS_OF_DAY) x) (constant (fraction_of HALF))

-- what an undecided test of ΔT keeps, at the scale 2^-bits, if the table promises of its year how many units it is
-- apart: its bounds, in units of 2^-56, lie at most 86,400,000 times as many units of the scale apart, and three
abbrev pub AreCloseBy : (bits units : ℕ) → Fail → Type 0
AreCloseBy bits units (Undecided u) = ((u.hi -ℤ u.lo) *ℤ pos 256) ≤ℤ pos ((86400000 * units + 3) * 2 ^ (64 - bits))
AreCloseBy bits units (Void s) = Unit {0}

abbrev pub IsCloseFor : ℕ → ℤ → Fail → Type 0
IsCloseFor bits year f = IfSome (units_of_year year) (λ units. AreCloseBy bits units f)

-- the number of degrees of a side is small, and so is the longitude of a season
abbrev pub IsSmallSide : Side → Type 0
IsSmallSide (UpTo l) = IsSmall l
IsSmallSide (Past l) = IsSmall l
IsSmallSide (From l) = IsSmall l

abbrev pub IsSmallSeason : Season → Type 0
IsSmallSeason season = IsSmall season.longitude × IsSmallSide season.side
