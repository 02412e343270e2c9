-- What it means that an operation on intervals gives the smallest interval which holds the results of an operation on
-- fractions.
use Rattle.exact_math.specs.Fraction.{Fraction, ◌≤F◌}
use Rattle.exact_math.specs.Interval.{Interval, between, IsMember, ◌⊆◌}

-- it holds the result for each member; and of a bounded interval it lies within each interval that does
pub record IsSmallest (f : Fraction → Fraction) (g : Interval → Interval) : Type 0 where
  pub holds : (i : Interval) (x : Fraction) → IsMember x i → IsMember (f x) (g i)
  pub smallest : (a b : Fraction) (k : Interval) → a ≤F b
      → ((x : Fraction) → IsMember x (between a b) → IsMember (f x) k) → g (between a b) ⊆ k

-- the same of two operands
pub record IsSmallestOfTwo (f : Fraction → Fraction → Fraction) (g : Interval → Interval → Interval) : Type 0 where
  pub holds : (i j : Interval) (x y : Fraction) → IsMember x i → IsMember y j → IsMember (f x y) (g i j)
  pub smallest : (a b c d : Fraction) (k : Interval) → a ≤F b → c ≤F d
      → ((x y : Fraction) → IsMember x (between a b) → IsMember y (between c d) → IsMember (f x y) k)
      → g (between a b) (between c d) ⊆ k

-- the smallest interval that holds two
pub record IsSmallestAround (g : Interval → Interval → Interval) : Type 0 where
  pub first : (i j : Interval) (x : Fraction) → IsMember x i → IsMember x (g i j)
  pub second : (i j : Interval) (x : Fraction) → IsMember x j → IsMember x (g i j)
  pub smallest : (a b c d : Fraction) (k : Interval) → between a b ⊆ k → between c d ⊆ k
      → g (between a b) (between c d) ⊆ k
