-- The first day of Nisan by observation: of the month about the spring equinox, by when the sun sets on the day of the
-- equinox and by the first visibility of the crescent. Moments are in days (R.D.) of universal time. Reingold and
-- Dershowitz, Calendrical Calculations, chapter 18.
use Rattle.std.specs.Prelude.{Bool, if◌then◌else◌, ℤ, pos, ◌+ℤ◌, ◌-ℤ◌, int_le}
use Rattle.book_model.specs.declared.horizon.Location.{Location}
use Rattle.book_model.specs.declared.site.Site.TheVariants.{DayFloor, DayTest}
use Rattle.book_model.specs.numbers.Expressions.{Expression, integer}
use Rattle.book_model.specs.sky.Crescent.{visible_of}
use Rattle.book_model.specs.sky.Horizon.{sunset_of}
use Rattle.book_model.specs.sky.Phases.{phase_day_of}
use Rattle.book_model.specs.programs.Programs.{Program, answer, cell, compare, bind, integers}
use Rattle.book_model.specs.programs.Searches.{first_day_from}
use Rattle.book_model.specs.sky.Sun.{sun_from_of}

-- ---- the first visibility from a day on
-- the day from which it is sought: 29 days after the last new moon where the crescent of that is past the day s, else
-- the day
unfoldable pub sought_from : (s m : ℤ) → Bool → ℤ
sought_from s m seen = if seen then m +ℤ pos 29 else s

-- the crescent of the last new moon is past after four days, or where it is seen on the evening with which the day
-- before s begins
unfoldable pub sought_start_of : Location → (s m : ℤ) → Program ℤ
sought_start_of p s m = if int_le (pos 4) (s -ℤ m) then answer (m +ℤ pos 29)
    else (bind (visible_of p (s -ℤ pos 1)) λ seen. answer (sought_from s m seen))

-- the first day on whose evening before the crescent is seen, from where the day of the last new moon tells
unfoldable pub visibility_by_of : Location → (s m : ℤ) → Program ℤ
visibility_by_of p s m = bind (sought_start_of p s m) (first_day_from (visible_of p))

-- the first day from a day on with whose evening before a month begins
unfoldable pub visibility_from_of : Location → ℤ → Program ℤ
visibility_from_of p s = bind (phase_day_of (pos 0) s) (visibility_by_of p s)

-- ---- the first day of Nisan
-- whether a moment comes before sunset on a day
unfoldable pub is_before_sunset_of : Location → Expression → ℤ → Program Bool
is_before_sunset_of p x d = bind (sunset_of p d) λ s. compare DayTest x s answer

-- the day from which the month is sought, by the day of the equinox and whether that comes before sunset
unfoldable pub nisan_start : ℤ → Bool → ℤ
nisan_start f before = if before then f -ℤ pos 14 else f -ℤ pos 13

-- the first day of Nisan by the moment of the equinox
unfoldable pub nisan_by_of : Location → Expression → Program ℤ
nisan_by_of p x =
    bind (cell DayFloor integers x answer) λ f.
    bind (is_before_sunset_of p x f) λ before.
    visibility_from_of p (nisan_start f before)

-- the first day of the month of Nisan about the spring equinox that is next from a day on
unfoldable pub nisan_of : Location → ℤ → Program ℤ
nisan_of p d = bind (sun_from_of (integer (pos 0)) (integer d)) (nisan_by_of p)
