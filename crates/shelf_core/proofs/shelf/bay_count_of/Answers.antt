use Rattle.std.proofs.Common.{arith}
use Rattle.shelf_core.specs.Slots.{slot_count, bay_count}
use Rattle.shelf_core.proofs.shelf.bay_count_of.Goals as goal

pub returns : goal.returns
unfolding slot_count bay_count
returns c = record { count = grind arith }
