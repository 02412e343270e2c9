use Rattle.std.proofs.Common.{arith}
use Rattle.std.proofs.lemmas.Int.{ints}
use Rattle.book_model.specs.calendars.Dates.{year_number}
use Rattle.line_core.proofs.fields.year_number.Goals as goal

pub loop-index-init : goal.loop-index-init
loop-index-init c = record { so_far = grind (arith, ints); small = grind (arith, ints) }

pub overflow_add-year : goal.overflow_add-year
overflow_add-year c = grind (arith, ints)

pub loop-index-preserved : goal.loop-index-preserved
loop-index-preserved c = record { so_far = grind (arith, ints); small = grind (arith, ints) }

pub returns : goal.returns
unfolding year_number
returns c = record { number = grind (arith, ints) }
