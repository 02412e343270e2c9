use Rattle.std.proofs.Common.{◌≡◌, ◌+◌, length, map}
use Rattle.shelf_core.specs.Rows.{rows_among}
use Rattle.shelf_core.proofs.rows.rows_among.Given as goal

-- the rows so far and those among these are all
abbrev pub invariant-loop-table : goal.invariant-loop-table
invariant-loop-table g l = l.rows + rows_among (map (λ row. row.2.0.now) l.table) ≡ rows_among
    (map (λ row. row.2.0.now) l.initial.table)

abbrev pub decreases-loop-table : goal.decreases-loop-table
decreases-loop-table g l = length l.table
