use Rattle.std.proofs.lemmas.Int.{to_z-of_z}
use Rattle.book_model.specs.sky.Correction.{corrections, row_of_year as row_of}
use Rattle.book_model.proofs.correction_rows.row_of_year.Goals as goal

pub returns : goal.returns
unfolding row_of corrections
returns c = let f = c.ranges.year in record { row = simp to_z-of_z at c.first_with_year.ensures.row }
