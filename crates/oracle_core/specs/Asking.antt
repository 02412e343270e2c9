-- What a call says that asks an oracle.
use Rattle.std.specs.Prelude.{Result}
use Rattle.book_model.specs.calendars.Inquiries.{Inquiry}
use Rattle.oracle_core.specs.declared.oracle.Oracle.{Ghosts}
use Rattle.oracle_core.specs.declared.oracle.Stop.{Stop}
use Rattle.oracle_core.specs.Inquiring.{Inquires, map_ok}

-- the call asks the oracle what an inquiry asks, and its result is the inquiry's
abbrev pub Asks : {O A : Type 0} → Ghosts O → Inquiry A → (old new : O) → Result A Stop → Type 0
Asks g i old new r = Inquires g.meaning i (g.state old) (g.state new) r

-- the same, where the call's answer stands for the inquiry's
abbrev pub AsksAs : {O A B : Type 0} → (A → B) → Ghosts O → Inquiry B → (old new : O) → Result A Stop → Type 0
AsksAs shown g i old new r = Asks g i old new (map_ok shown r)
