use Rattle.std.proofs.Common.{◌≡◌, length, map}
use Rattle.book_model.specs.sky.Names.{first_named as first_of}
use Rattle.book_model.proofs.names.first_row_named.Given as goal

-- the rows before these have other names
abbrev pub invariant-loop-rows : goal.invariant-loop-rows
invariant-loop-rows g l = first_of (map (λ row. (row.0, row.1.now)) l.rows) l.word ≡ first_of
    (map (λ row. (row.0, row.1.now)) l.initial.rows) l.word

abbrev pub decreases-loop-rows : goal.decreases-loop-rows
decreases-loop-rows g l = length l.rows
