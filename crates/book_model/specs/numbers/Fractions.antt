-- The fraction that a value of `Frac` stands for.
use Rattle.std.specs.Prelude.{◌-◌, ℤ}
use Rattle.exact_math.specs.Fraction.{Fraction}
use Rattle.book_model.specs.declared.frac.Frac.{Frac}

-- num / den; a denominator of 0, which no value has, is read as 1
abbrev pub fraction_of : Frac → Fraction
fraction_of f = record { num = f.num; below = f.den - 1 }

-- a number that counts ten-millionths
abbrev pub ten_millionths : ℤ → Fraction
ten_millionths n = record { num = n; below = 9999999 }

-- so many ten-millionths a century of 36525 days, a day
abbrev pub daily_ten_millionths : ℤ → Fraction
daily_ten_millionths n = record { num = n; below = 365249999999 }
