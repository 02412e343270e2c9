-- Passes: what one has seen, and whose it is.
use Rattle.std.specs.Prelude.{◌≡◌, ℕ, slice_get, Option, IfSome, IsSomeAnd}
use Rattle.std.specs.Option.{option_map_or, option_and_then}
use Rattle.once_cell.specs.Once.{cell_name}
use Rattle.book_model.specs.declared.fact.Fact.{Fact}
use Rattle.oracle_core.specs.declared.evaluator.Answer.{Answer}
use Rattle.shelf_core.specs.declared.block.Block.{Block}
use Rattle.shelf_core.specs.declared.shelf.Shelf.{Shelf}
use Rattle.shelf_core.specs.declared.shelf.Pass.{Pass}
use Rattle.shelf_core.specs.Slots.{bay_of, block_of, place_of}

-- the name of the cell at a place of a block
abbrev pub cell_in : {T : Type 0} → Block T → ℕ → ℕ
cell_in block place = option_map_or (λ c. cell_name c) (slice_get block.cells.items place) 0

-- the name of a fact's bay
abbrev pub cell_of : Shelf → Fact → ℕ
cell_of shelf fact = option_map_or (λ c. cell_name c) (slice_get shelf.bays.items (bay_of fact)) 0

-- the entry that a pass has seen in its fact's slot, if any
abbrev pub seen : Pass → Option (Fact × Answer)
seen pass = option_and_then (λ n. n.known) pass.entry

-- a pass that has a note of its fact's block has seen the bay, and the note is of the bay's block
abbrev pub IsTiedInBay : Pass → Type 0
IsTiedInBay pass = IfSome pass.block (λ n. IsSomeAnd pass.bay.known (λ b. n.cell ≡ cell_in b (block_of pass.fact)))

-- a pass that has a note of its fact's slot has seen the block, and the note is of the block's slot
abbrev pub IsTied : Pass → Type 0
IsTied pass = IfSome pass.entry (λ n. IsSomeAnd (option_and_then (λ m. m.known) pass.block)
    (λ b. n.cell ≡ cell_in b (place_of pass.fact)))

-- the pass is one of the shelf
pub record IsPassOf (shelf : Shelf) (pass : Pass) : Type 0 where
  pub bay : pass.bay.cell ≡ cell_of shelf pass.fact
  pub block : IsTiedInBay pass
  pub tied : IsTied pass
