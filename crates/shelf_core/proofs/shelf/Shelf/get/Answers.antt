use Rattle.std.proofs.Common.{◌∙◌, rules}
use Rattle.once_cell.specs.Once.{cell_name}
use Rattle.shelf_core.proofs.CellReads.{read_at}
use Rattle.shelf_core.proofs.shelf.Shelf.get.Goals as goal

pub get_as-requires : goal.get_as-requires
get_as-requires c =
    let read = read_at (λ cell. cell_name cell) _ c.bay_number.result c.index.result.now (search rules) c.index.ensures
    in
    c.requires.of_shelf.bay ∙ rw c.bay_number.ensures.number at read
