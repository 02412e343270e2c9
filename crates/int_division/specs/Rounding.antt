-- Rounded quotients, and the lesser and the greater, over whole numbers.
use Rattle.std.specs.Prelude.{ℤ, ◌+ℤ◌, ◌*ℤ◌, ◌≤ℤ◌, ◌<ℤ◌}

-- q is n / d, rounded down
pub record IsFloor (q n d : ℤ) : Type 0 where
  pub not_above : (q *ℤ d) ≤ℤ n
  pub close : n <ℤ (q *ℤ d +ℤ d)

-- q is n / d, rounded up
pub record IsCeiling (q n d : ℤ) : Type 0 where
  pub not_below : n ≤ℤ (q *ℤ d)
  pub close : (q *ℤ d) <ℤ (n +ℤ d)

-- m is the lesser and g the greater of two
pub record AreSorted (m g p q : ℤ) : Type 0 where
  pub low_first : m ≤ℤ p
  pub low_second : m ≤ℤ q
  pub high_first : p ≤ℤ g
  pub high_second : q ≤ℤ g
  pub best_low : (z : ℤ) → z ≤ℤ p → z ≤ℤ q → z ≤ℤ m
  pub best_high : (z : ℤ) → p ≤ℤ z → q ≤ℤ z → g ≤ℤ z

-- z is at most each of four
pub record IsBelowFour (z p q r s : ℤ) : Type 0 where
  pub first : z ≤ℤ p
  pub second : z ≤ℤ q
  pub third : z ≤ℤ r
  pub fourth : z ≤ℤ s

-- z is at least each of four
pub record IsAboveFour (z p q r s : ℤ) : Type 0 where
  pub first : p ≤ℤ z
  pub second : q ≤ℤ z
  pub third : r ≤ℤ z
  pub fourth : s ≤ℤ z

-- z is the greatest number that is at most each of four
abbrev pub IsAboveEachBelow : ℤ → ℤ → ℤ → ℤ → ℤ → Type 0
IsAboveEachBelow z p q r s = (m : ℤ) → m ≤ℤ p → m ≤ℤ q → m ≤ℤ r → m ≤ℤ s → m ≤ℤ z

-- z is the least number that is at least each of four
abbrev pub IsBelowEachAbove : ℤ → ℤ → ℤ → ℤ → ℤ → Type 0
IsBelowEachAbove z p q r s = (m : ℤ) → p ≤ℤ m → q ≤ℤ m → r ≤ℤ m → s ≤ℤ m → z ≤ℤ m
