-- The first day of Nisan, by the steps in which it is computed, and where the day of the equinox lies.
use Rattle.std.specs.Prelude.{ℤ, pos, ◌+ℤ◌, ◌-ℤ◌, ◌≤ℤ◌}
use Rattle.book_model.specs.declared.horizon.Location.{Location}
use Rattle.book_model.specs.declared.time_tables.TheConstants.{TABLE_START, TABLE_END}
use Rattle.book_model.specs.numbers.Expressions.{Expression, integer}
use Rattle.book_model.specs.programs.Programs.{Program, bind}
use Rattle.book_model.specs.sky.Nisan.{is_before_sunset_of, nisan_start, visibility_from_of}
use Rattle.book_model.specs.sky.Sun.{sun_from_of}

-- the moment of the spring equinox that is next from a day on
unfoldable pub next_equinox_of : ℤ → Program Expression
next_equinox_of d = sun_from_of (integer (pos 0)) (integer d)

-- the first day of Nisan by the moment of the equinox and its day
unfoldable pub nisan_on_of : Location → ℤ → Expression → Program ℤ
nisan_on_of p f x = bind (is_before_sunset_of p x f) λ before. visibility_from_of p (nisan_start f before)

-- a day of the equinox that is next from a day of the years of which ΔT is known
pub record IsEquinoxDay (f : ℤ) : Type 0 where
  pub from : (TABLE_START -ℤ pos 79) ≤ℤ f
  pub to : f ≤ℤ (TABLE_END +ℤ pos 451)
