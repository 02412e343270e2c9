-- The bounds of an undecided test, where a whole number is added to what is tested.
use Rattle.std.specs.Prelude.{◌≡◌, ℕ, ◌-◌, ◌^◌, ℤ, pos, negsuc, ◌+ℤ◌, ◌*ℤ◌, ◌≤ℤ◌, FitsSigned}
use Rattle.std.specs.Int.{w64, w128}
use Rattle.book_model.specs.declared.fail.Fail.{Fail}
use Rattle.book_model.specs.declared.fail.Fail.TheVariants.{Undecided, Void}
use Rattle.book_model.specs.declared.site.Site.{Site}
use Rattle.book_model.specs.programs.Leading.{AreNoBounds}
use Rattle.encl_core.specs.parts.TheConstants.{ONE}

-- the bounds lo and hi, in units of 2^-56, after k is added; or those of an unbounded test
pub data AreMoved (k lo hi low high : ℤ) : Type 0 where
  by_whole : low ≡ lo +ℤ k *ℤ ONE → high ≡ hi +ℤ k *ℤ ONE → AreMoved k lo hi low high
  to_no_bounds : AreNoBounds low high → AreMoved k lo hi low high

-- an undecided test, after k is added to its number
abbrev pub IsBeside : ℤ → Fail → Fail → Type 0
IsBeside k (Undecided u) (Undecided v) = (v.turn ≡ u.turn) × (v.site ≡ u.site) × AreMoved k u.lo u.hi v.lo v.hi
IsBeside k (Undecided u) (Void s) = ⊥
IsBeside k (Void s) f = f ≡ Void s

-- a test whose cell is a number outside 64 bits
abbrev pub IsTooFar : Site → ℕ → ℤ → Fail → Type 0
IsTooFar s n q (Undecided u) = (¬ FitsSigned w64 q) × AreNoBounds u.lo u.hi × (u.site ≡ s) × (u.turn ≡ n)
IsTooFar s n q (Void t) = ⊥

-- the bounds of an undecided test are numbers of 128 bits
abbrev pub AreOf128Bits : Fail → Type 0
AreOf128Bits (Undecided u) = (negsuc (2 ^ 127 - 1) ≤ℤ u.lo) × (u.hi ≤ℤ pos (2 ^ 127 - 1))
AreOf128Bits (Void s) = Unit {0}

-- the bounds of an undecided test, if it is one, have 128 bits after k is added
abbrev pub HasRoom : ℤ → Fail → Type 0
HasRoom k (Undecided u) = FitsSigned w128 (u.lo +ℤ k *ℤ ONE) × FitsSigned w128 (u.hi +ℤ k *ℤ ONE)
HasRoom k (Void s) = Unit {0}
