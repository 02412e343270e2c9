-- Sizes of fractions.
use Rattle.std.specs.Prelude.{ℕ, suc, ◌*◌, ◌^◌, ◌≤◌, unsigned_abs}
use Rattle.book_model.specs.Fraction.{Fraction}

-- a fraction of at most the size F, whose numerator is one that a scale bears
pub record HasSize (F : ℕ) (f : Fraction) : Type 0 where
  pub size : unsigned_abs f.num ≤ F * suc f.below
  pub numerator : unsigned_abs f.num ≤ 2 ^ 40
