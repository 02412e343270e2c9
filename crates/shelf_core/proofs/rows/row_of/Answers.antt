use Rattle.std.proofs.Common.{arith}
use Rattle.shelf_core.specs.Rows.{row_of, fact_rows, place_lists}
use Rattle.shelf_core.proofs.RowLemmas.{row_by_first, row_within, few_rows, kinds_have_places}
use Rattle.shelf_core.proofs.rows.row_of.Goals as goal

pub returns-clause-row : goal.returns-clause-row
unfolding row_of
returns-clause-row c =
    let row = row_by_first c.number.result c.args.place 0 c.number.ensures.within in
    rw (c.requires.rows, c.column.ensures.column, c.places.ensures, c.number.ensures.number)
    (rw c.number.ensures.number at row)

pub returns-clause-within : goal.returns-clause-within
unfolding fact_rows
returns-clause-within c =
    let row = row_by_first c.number.result c.args.place 0 c.number.ensures.within in
    let less = row_within place_lists c.number.result c.args.place kinds_have_places c.number.ensures.within in
    rw (c.requires.rows, c.column.ensures.column, c.places.ensures, c.number.ensures.number)
    (rw (c.number.ensures.number) at (rw (← row) at less))

pub overflow_add-result : goal.overflow_add-result
overflow_add-result c =
    let few = rw c.number.ensures.number at (few_rows c.number.result c.args.place 0 c.number.ensures.within) in
    rw (c.requires.rows, c.column.ensures.column, c.places.ensures, c.number.ensures.number) (omega (arith, few))

pub returns-clause-few : goal.returns-clause-few
returns-clause-few c =
    let few = rw c.number.ensures.number at (few_rows c.number.result c.args.place 0 c.number.ensures.within) in
    rw (c.requires.rows, c.column.ensures.column, c.places.ensures, c.number.ensures.number) few
