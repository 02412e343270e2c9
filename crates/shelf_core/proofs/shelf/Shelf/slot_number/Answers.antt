use Rattle.std.proofs.Common.{arith}
use Rattle.std.proofs.lemmas.Int.{ints}
use Rattle.shelf_core.specs.Slots.{slot_of, slot_count}
use Rattle.shelf_core.proofs.shelf.Shelf.slot_number.Goals as goal

pub returns : goal.returns
unfolding slot_of slot_count
returns c = record { number = grind (arith, ints); within = grind (arith, ints) }
