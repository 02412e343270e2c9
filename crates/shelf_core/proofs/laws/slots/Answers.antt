use Rattle.shelf_core.proofs.OwnSlots.{own_slot}
use Rattle.shelf_core.proofs.laws.slots.Goals as goal

pub returns : goal.returns
returns c = record { own = own_slot }
