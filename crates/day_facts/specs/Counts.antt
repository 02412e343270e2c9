-- How many signs, degrees and lunar days may have passed.
use Rattle.std.specs.Prelude.{ℤ, pos, ◌≤ℤ◌}
use Rattle.book_model.specs.declared.sun_tables.TheConstants.{DEGREE_IN_SIGNS}
use Rattle.book_model.specs.declared.site.Site.TheVariants.{Sidereal}
use Rattle.book_model.specs.numbers.Expressions.{Expression, scale}
use Rattle.book_model.specs.numbers.Fractions.{fraction_of}
use Rattle.book_model.specs.programs.Programs.{Program, answer, cell, integers}

-- the whole signs in a longitude among the stars
unfoldable pub whole_signs_of : Expression → Program ℤ
whole_signs_of s = cell Sidereal integers (scale (fraction_of DEGREE_IN_SIGNS) s) answer

-- the sun has passed at most twelve signs
pub record IsSign (q : ℤ) : Type 0 where
  pub from : pos 0 ≤ℤ q
  pub to : q ≤ℤ pos 12

-- and the whole degrees of a turn
pub record IsDegree (q : ℤ) : Type 0 where
  pub from : pos 0 ≤ℤ q
  pub to : q ≤ℤ pos 360

-- at most thirty lunar days have passed
pub record IsLunarDay (q : ℤ) : Type 0 where
  pub from : pos 0 ≤ℤ q
  pub to : q ≤ℤ pos 30
