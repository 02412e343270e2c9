-- Endpoints that fit in 64 bits, and quotients of endpoints, over plain numbers.
use Rattle.std.specs.Prelude.{◌≡◌, cond, int_le, ◌⊎◌, ℤ, pos, ◌+ℤ◌, ◌-ℤ◌, ◌*ℤ◌, ◌≤ℤ◌, ◌<ℤ◌, ◌+◌, unsigned_abs}
use Rattle.std.specs.Prelude.{FitsSigned}
use Rattle.book_model.specs.Fraction.{Fraction}
use Rattle.interval_endpoints.specs.Scales.{Scale, coarse, at_scale, unit, word}
use Rattle.book_model.specs.Interval.{Interval, everything, between}
use Rattle.int_division.specs.Rounding.{IsCeiling}

-- a number in units of 2^-36
abbrev pub at_36 : ℤ → Fraction
at_36 n = at_scale coarse n

-- m counts the scale's units in the size of a fraction, rounded up
pub record IsMarginAt (scale : Scale) (f : Fraction) (m : ℤ) : Type 0 where
  pub rounded : IsCeiling m (pos (unsigned_abs f.num) *ℤ unit scale) (pos (f.below + 1))

-- the interval that two endpoints show in the scale's bits: just theirs where both fit, and else everything
pub data ShowsEndpoints (scale : Scale) (lo hi : ℤ) : Interval → Type 0 where
  fitting : ShowsEndpoints scale lo hi (between (at_scale scale lo) (at_scale scale hi))
  too_large : (FitsSigned (word scale) lo → FitsSigned (word scale) hi → ⊥) → ShowsEndpoints scale lo hi everything

-- the same of endpoints in 64 bits
abbrev pub Keeps64 : (lo hi : ℤ) → Interval → Type 0
Keeps64 lo hi i = ShowsEndpoints coarse lo hi i

-- both numbers are above 0, or both below
abbrev pub IsOneSided : ℤ → ℤ → Type 0
IsOneSided c d = ((pos 0 <ℤ c) × (pos 0 <ℤ d)) ⊎ ((c <ℤ pos 0) × (d <ℤ pos 0))

-- the least square of a number from lo to hi
abbrev pub least_square_of : ℤ → ℤ → ℤ
least_square_of lo hi = cond (int_le (pos 0) lo) (lo *ℤ lo) (cond (int_le hi (pos 0)) (hi *ℤ hi) (pos 0))

-- of quotients of a by numbers from c to d, which are above 0, that by p is the least
abbrev pub IsLeastBy : (a c d p : ℤ) → Type 0
IsLeastBy a c d p = ((a <ℤ pos 0) × (p ≡ c)) ⊎ ((pos 0 ≤ℤ a) × (p ≡ d))

-- that by q is the greatest
abbrev pub IsGreatestBy : (b c d q : ℤ) → Type 0
IsGreatestBy b c d q = ((b <ℤ pos 0) × (q ≡ d)) ⊎ ((pos 0 ≤ℤ b) × (q ≡ c))

-- lo and hi are the quotients of the numbers from a to b by those from c to d, which are above 0, at the scale,
-- rounded outwards: hardly further apart than the widths allow
pub record AreQuotientsAt (scale : Scale) (a b c d lo hi : ℤ) : Type 0 where
  pub ordered : lo ≤ℤ hi
  pub under : (e : ℤ) → c ≤ℤ e → e ≤ℤ d → (lo *ℤ e) ≤ℤ (a *ℤ unit scale)
  pub over : (e : ℤ) → c ≤ℤ e → e ≤ℤ d → (b *ℤ unit scale) ≤ℤ (hi *ℤ e)
  pub close : (n e : ℤ) → (pos 0 -ℤ n) ≤ℤ a → b ≤ℤ n → pos 0 ≤ℤ e → e ≤ℤ c → (((hi -ℤ lo) -ℤ pos 2) *ℤ (e *ℤ e))
      ≤ℤ (unit scale *ℤ ((b -ℤ a) *ℤ e) +ℤ unit scale *ℤ (n *ℤ (d -ℤ c)))
  pub least : (z : ℤ) → (z *ℤ c) ≤ℤ (a *ℤ unit scale) → (z *ℤ d) ≤ℤ (a *ℤ unit scale) → z ≤ℤ lo
  pub greatest : (z : ℤ) → (b *ℤ unit scale) ≤ℤ (z *ℤ c) → (b *ℤ unit scale) ≤ℤ (z *ℤ d) → hi ≤ℤ z

abbrev pub AreQuotients : (a b c d lo hi : ℤ) → Type 0
AreQuotients a b c d lo hi = AreQuotientsAt coarse a b c d lo hi
