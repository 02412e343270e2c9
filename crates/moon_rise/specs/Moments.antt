-- What is known of the moments of a day.
use Rattle.std.specs.Prelude.{◌≡◌, ◌<◌, ◌*◌, ◌^◌, ℤ, pos, ◌≤ℤ◌, Some, FitsSigned}
use Rattle.std.specs.Int.{w64}
use Rattle.book_model.specs.Interval.{Interval}
use Rattle.book_model.specs.declared.frac.Frac.{Frac}
use Rattle.book_model.specs.programs.Programs.{years, cell_at}

-- the hours of a zone: from 0 to 24, over less than 2^20
pub record AreHours (z : Frac) : Type 0 where
  pub some : 0 < z.den
  pub fine : z.den < 2 ^ 20
  pub from : pos 0 ≤ℤ z.num
  pub to : z.num ≤ℤ pos (24 * z.den)

-- an interval lies in one year, whose number has 64 bits
pub record HasOneYear (i : Interval) : Type 0 where
  pub year : ℤ
  pub fits : FitsSigned w64 year
  pub within : cell_at years i ≡ Some year
