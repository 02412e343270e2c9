-- Why an oracle has no value for a fact, and when it may say so.
use Rattle.std.specs.Prelude.{◌≡◌, false, List}
use Rattle.std.specs.List.{list_any}
use Rattle.book_model.specs.declared.fact.Fact.{Fact}
use Rattle.book_model.specs.sky.Facts.{IsNear, IsVoidAt}
use Rattle.book_model.specs.calendars.Inquiries.{fact_eq}
use Rattle.oracle_core.specs.declared.oracle.Stop.{Stop}
use Rattle.oracle_core.specs.declared.oracle.Stop.TheVariants.{Undecided, Void, Missing, Memory}

-- the early return names the fact, or says that memory ran out
abbrev pub Names : Fact → Stop → Type 0
Names f (Undecided g u) = g ≡ f
Names f (Void g s) = g ≡ f
Names f (Missing g) = g ≡ f
Names f Memory = Unit {0}

-- the early return says that memory ran out, or it names the fact and is one that may come there
pub record IsStopAt (may_stop : Fact → Stop → Type 0) (f : Fact) (s : Stop) : Type 0 where
  pub names : Names f s
  pub may : may_stop f s

-- an oracle over an evaluator may return early at a fact that is near or void
abbrev pub MayStopAsking : Fact → Stop → Type 0
MayStopAsking f (Undecided g u) = IsNear f u
MayStopAsking f (Void g s) = IsVoidAt f s
MayStopAsking f (Missing g) = ⊥
MayStopAsking f Memory = Unit {0}

-- an oracle over listed facts may return early at a fact that isn't listed
abbrev pub MayStopListed : List Fact → Fact → Stop → Type 0
MayStopListed facts f (Undecided g u) = ⊥
MayStopListed facts f (Void g s) = ⊥
MayStopListed facts f (Missing g) = list_any (fact_eq f) facts ≡ false
MayStopListed facts f Memory = Unit {0}
