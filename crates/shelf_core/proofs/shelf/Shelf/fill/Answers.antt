use Rattle.std.proofs.Common.{◌∙◌, rules}
use Rattle.once_cell.specs.Once.{cell_name}
use Rattle.shelf_core.proofs.CellReads.{read_at}
use Rattle.shelf_core.proofs.shelf.Shelf.fill.Goals as goal

pub get_or_try_init_as-requires-clause-cell : goal.get_or_try_init_as-requires-clause-cell
get_or_try_init_as-requires-clause-cell c =
    let read = read_at (λ cell. cell_name cell) _ c.bay_number.result c.index-made.result.now (search rules)
    c.index-made.ensures in
    c.requires.of_shelf.bay ∙ rw c.bay_number.ensures.number at read
