-- The longitude of the sun after its first test, and one that is known at a moment.
use Rattle.std.specs.Prelude.{ℕ, Ok}
use Rattle.book_model.specs.Interval.{Interval}
use Rattle.book_model.specs.declared.site.Site.TheVariants.{SunWrap}
use Rattle.book_model.specs.numbers.Expressions.{Expression, World, remainder}
use Rattle.book_model.specs.numbers.Relations.{Within}
use Rattle.book_model.specs.programs.Leading.{Leads, next_turn}
use Rattle.book_model.specs.programs.Programs.{Program, answer, cell, multiples}
use Rattle.book_model.specs.sky.Sun.{longitude_of, sun_of}

-- the longitude at a time in centuries, reduced: what is left of its formula after the year's test
unfoldable pub reduced_sun_of : Expression → Program Expression
reduced_sun_of c = cell SunWrap (multiples 360) (longitude_of c) λ q. answer (remainder 360 (longitude_of c) q)

-- A number is the longitude of the sun at a moment: wherever a run stands, two tests lead to it. So where it is at
-- hand, a formula that begins with it may count these tests and make none.
pub record IsLongitudeOf {E : Type 0} (shown : E → Interval) (w : World) (x : Expression) (s : E) : Type 0 where
  pub again : (k : ℕ) → Leads w (Within shown w) (sun_of x) k (next_turn (next_turn k)) (Ok s)
