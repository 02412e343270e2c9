use Rattle.std.proofs.Common.{◌≡◌, length, map}
use Rattle.book_model.specs.sky.Correction.{correction_row, row_in}
use Rattle.book_model.proofs.correction_rows.first_with_year.Given as goal

-- the rows before these haven't the year
abbrev pub invariant-loop-rows : goal.invariant-loop-rows
invariant-loop-rows l =
    row_in (map (λ r. correction_row r.0 r.1 r.2 r.3.now r.4 r.5) l.rows) l.year ≡ row_in
    (map (λ r. correction_row r.0 r.1 r.2 r.3.now r.4 r.5) l.initial.rows) l.year

abbrev pub decreases-loop-rows : goal.decreases-loop-rows
decreases-loop-rows l = length l.rows
