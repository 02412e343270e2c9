-- What a step of a formula that fails says of its enclosures.
use Rattle.std.specs.Prelude.{◌≡◌, ℕ, ℤ, None}
use Rattle.book_model.specs.Interval.{Interval}
use Rattle.book_model.specs.declared.site.Site.{Site}
use Rattle.book_model.specs.declared.fail.Fail.{Fail}
use Rattle.book_model.specs.declared.fail.Fail.TheVariants.{Undecided, Void}
use Rattle.book_model.specs.programs.Leading.{AreEndpoints, IsUndecidedCell, IsUndecidedComparison}
use Rattle.book_model.specs.programs.Programs.{integers, multiples, cell_at}

-- a floor at a site is undecided for this enclosure
abbrev pub IsUndecidedFloor : Interval → Site → Fail → Type 0
IsUndecidedFloor i s (Undecided u) = IsUndecidedCell integers i u.lo u.hi × (u.site ≡ s)
IsUndecidedFloor i s (Void t) = ⊥

-- a comparison at a site is undecided for these enclosures
abbrev pub IsUndecidedLess : Interval → Interval → Site → Fail → Type 0
IsUndecidedLess i j s (Undecided u) = IsUndecidedComparison i j u.lo u.hi × (u.site ≡ s)
IsUndecidedLess i j s (Void t) = ⊥

-- A wrap by a modulus is undecided at the endpoints of an enclosure: the enclosure lies in no one period, and these are
-- its endpoints.
pub record IsUndecidedPeriod (m : ℕ) (i : Interval) (lo hi : ℤ) : Type 0 where
  pub open_there : cell_at (multiples m) i ≡ None
  pub endpoints : AreEndpoints lo hi i

-- a wrap by a modulus at a site is undecided for this enclosure
abbrev pub IsUndecidedWrap : ℕ → Interval → Site → Fail → Type 0
IsUndecidedWrap m i s (Undecided u) = IsUndecidedPeriod m i u.lo u.hi × (u.site ≡ s)
IsUndecidedWrap m i s (Void t) = ⊥
