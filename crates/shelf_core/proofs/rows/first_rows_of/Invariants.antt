use Rattle.std.proofs.Common.{◌≡◌, ◌+◌, ◌++◌, length, map}
use Rattle.shelf_core.specs.Rows.{first_rows, rows_among}
use Rattle.shelf_core.proofs.rows.first_rows_of.Given as goal

-- the first rows so far and those of the rest are all, and the rows before the rest and its own are all
abbrev pub invariant-loop-table : goal.invariant-loop-table
invariant-loop-table g l = record {
  rows : l.rows.items ++ first_rows l.before (map (λ row. row.2.0.now) l.table) ≡ first_rows 0
      (map (λ row. row.2.0.now) l.initial.table);
  before : l.before + rows_among (map (λ row. row.2.0.now) l.table) ≡ rows_among
      (map (λ row. row.2.0.now) l.initial.table);
}

abbrev pub decreases-loop-table : goal.decreases-loop-table
decreases-loop-table g l = length l.table
