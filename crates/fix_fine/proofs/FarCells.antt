-- A cell outside 64 bits leaves the test undecided: the endpoints' cell is a whole number that doesn't fit, which is
-- one of the cases of the definition of an open cell, with no bounds to tell.
use Rattle.std.proofs.Common.{◌≡◌, sym, ℤ}
use Rattle.std.specs.Prelude.{FitsSigned, Some}
use Rattle.std.specs.Int.{w64}
use Rattle.book_model.specs.Interval.{Interval, everything}
use Rattle.book_model.specs.programs.Leading.{AreEndpoints, AreNoBounds, no_bounds, IsUndecidedCell, too_far}
use Rattle.book_model.specs.programs.Programs.{integers, cell_at}

no_bounds_of : (lo hi : ℤ) → AreEndpoints lo hi everything → AreNoBounds lo hi
no_bounds_of lo hi (no_bounds n) = n

pub far_open : (i : Interval) (lo hi q : ℤ) → Some q ≡ cell_at integers i → (FitsSigned w64 q → ⊥)
    → AreEndpoints lo hi everything → IsUndecidedCell integers i lo hi
far_open i lo hi q e n a = too_far q (sym e) n (no_bounds_of lo hi a)
