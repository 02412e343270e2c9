-- The sun's periodic terms and mean longitude by days: as the definitions have them, in centuries, and as they are
-- computed.
use Rattle.std.specs.Prelude.{Bool, ◌-◌, ◌*◌, ◌&&◌, nat_lt, nat_le, cond}
use Rattle.book_model.specs.Fraction.{whole}
use Rattle.book_model.specs.declared.frac.Frac.{Frac}
use Rattle.book_model.specs.declared.polynomial.PeriodicTerm.{PeriodicTerm}
use Rattle.book_model.specs.declared.time_tables.TheConstants.{DAY_IN_CENTURIES}
use Rattle.book_model.specs.numbers.Expressions.{Expression, constant, add, scale, sine}
use Rattle.book_model.specs.numbers.Fractions.{fraction_of, ten_millionths, daily_ten_millionths}
use Rattle.sun_core.specs.declared.daily.TheConstants.{GREATEST_DENOMINATOR}

-- a number of days in centuries
unfoldable pub in_centuries : Expression → Expression
in_centuries x = scale (fraction_of DAY_IN_CENTURIES) x

-- whether the rate a day has a denominator of 64 bits, as the code decides it
unfoldable pub has_daily : Frac → Bool
has_daily f = nat_lt 0 f.den && nat_le f.den GREATEST_DENOMINATOR

-- the days in centuries, and these times the rate
unfoldable pub by_centuries : Frac → Expression → Expression
by_centuries f x = scale (fraction_of f) (in_centuries x)

-- the days times the rate a day
unfoldable pub by_days : Frac → Expression → Expression
by_days f x = cond (has_daily f) (scale (record { num = f.num; below = f.den * 36525 - 1 }) x) (by_centuries f x)

-- the angle of a periodic term, as it is computed
abbrev pub daily_angle_of : PeriodicTerm → Expression → Expression
daily_angle_of v x = add (constant (ten_millionths v.phase)) (scale (daily_ten_millionths v.rate) x)

-- the size of a periodic term times the sine of its angle
unfoldable pub daily_term_of : Expression → PeriodicTerm → Expression
daily_term_of x v = scale (whole v.size) (sine (daily_angle_of v x))
