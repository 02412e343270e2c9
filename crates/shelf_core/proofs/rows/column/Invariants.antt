use Rattle.std.proofs.Common.{◌≡◌, ◌+◌, length}
use Rattle.shelf_core.specs.Rows.{column_in, column_from}
use Rattle.shelf_core.proofs.rows.column.Given as goal

-- none of the places before these is the place
abbrev pub invariant-loop-places : goal.invariant-loop-places
invariant-loop-places l = (column_from l.column l.places l.place ≡ column_in l.initial.places l.place)
    × (l.column + length l.places ≡ length l.initial.places)

abbrev pub decreases-loop-places : goal.decreases-loop-places
decreases-loop-places l = length l.places
