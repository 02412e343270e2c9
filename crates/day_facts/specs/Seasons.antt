-- The test of a day by the longitude of the sun at a moment.
use Rattle.std.specs.Prelude.{Bool}
use Rattle.book_model.specs.declared.season.Side.{Side}
use Rattle.book_model.specs.numbers.Expressions.{Expression}
use Rattle.book_model.specs.programs.Programs.{Program, bind}
use Rattle.book_model.specs.sky.Kinds.{is_on_side_of}
use Rattle.book_model.specs.sky.Sun.{sun_of}

-- whether the sun stands on a side at a moment
unfoldable pub stands_on : Side → Expression → Program Bool
stands_on side x = bind (sun_of x) (is_on_side_of side)
