-- What the evaluator that C holds owns.
use Rattle.std.specs.Prelude.{Bool, true, false}
use base.Fml.{Fml, ftrue}
use denote.RawPtr.{Ptr}
use Rattle.std.specs.Global.{Global}
use Rattle.std.specs.Box.Ownership.{box_owns}
use Rattle.std.specs.contracts.impls.GlobalAllocator.TheImpl.{ghosts}
use Rattle.calendrica_c.specs.contracts.kept.Kept.{the_row}

-- a handle to the C library's heap; which one makes no difference to what it takes back
abbrev pub heap : Global
heap = record { memory = record { seal = tt } }

-- an open one owns the box of what it keeps, whose block the C library's heap takes back
abbrev pub kept_owns : Bool → Ptr → Fml
kept_owns true at = box_owns (ghosts.dealloc_token heap) the_row at tt
kept_owns false at = ftrue
