-- Where 128 bits have room for products, quotients and roots of endpoints: always for those of endpoints of 64 bits,
-- and for those of endpoints of 128 bits up to a size.
use Rattle.std.specs.Prelude.{ℤ, pos, neg_ℤ, ◌^◌, ◌+ℤ◌, ◌-ℤ◌, ◌*ℤ◌, ◌≤ℤ◌, ◌<ℤ◌, ◌⊎◌, FitsSigned}
use Rattle.std.specs.Int.{w128}
use Rattle.interval_endpoints.specs.Scales.{Scale, coarse, fine}

-- a product of two endpoints
abbrev pub HasProduct : Scale → ℤ → Type 0
HasProduct coarse p = Unit {0}
HasProduct fine p = FitsSigned w128 p

-- all products of the numbers from x to y with those from c to d
pub record HaveProducts (scale : Scale) (x y c d : ℤ) : Type 0 where
  pub first : HasProduct scale (x *ℤ c)
  pub second : HasProduct scale (x *ℤ d)
  pub third : HasProduct scale (y *ℤ c)
  pub fourth : HasProduct scale (y *ℤ d)

-- the greatest size of an endpoint
abbrev pub most_end : Scale → ℤ
most_end coarse = pos (2 ^ 63)
most_end fine = pos (2 ^ 127)

-- a number that is an endpoint, or the opposite of one
pub record IsDividend (scale : Scale) (n : ℤ) : Type 0 where
  pub above : (pos 0 -ℤ most_end scale) ≤ℤ n
  pub below : n ≤ℤ most_end scale

-- two endpoints in order, or the opposites of two
pub record AreDividends (scale : Scale) (a b : ℤ) : Type 0 where
  pub ordered : a ≤ℤ b
  pub first : IsDividend scale a
  pub last : IsDividend scale b

-- the divisor is at most 2^70, and the quotient at most 2^69 in size
pub record HasFineQuotient (n d : ℤ) : Type 0 where
  pub divisor : d ≤ℤ pos (2 ^ 70)
  pub above : neg_ℤ (pos (2 ^ 69) *ℤ d) ≤ℤ n
  pub below : n ≤ℤ (pos (2 ^ 69) *ℤ d)

-- a quotient by a divisor above 0
abbrev pub HasQuotient : Scale → ℤ → ℤ → Type 0
HasQuotient coarse n d = Unit {0}
HasQuotient fine n d = HasFineQuotient n d

-- the same of all numbers from a to b by those from c to d
pub record HaveFineQuotients (a b c d : ℤ) : Type 0 where
  pub divisor : d ≤ℤ pos (2 ^ 70)
  pub above : neg_ℤ (pos (2 ^ 69) *ℤ c) ≤ℤ a
  pub below : b ≤ℤ (pos (2 ^ 69) *ℤ c)

abbrev pub HaveQuotients : Scale → (a b c d : ℤ) → Type 0
HaveQuotients coarse a b c d = Unit {0}
HaveQuotients fine a b c d = HaveFineQuotients a b c d

-- numbers from x to y whose opposites fit in 128 bits
pub record HaveOpposites (x y c d : ℤ) : Type 0 where
  pub first : FitsSigned w128 (pos 0 -ℤ x)
  pub second : FitsSigned w128 (pos 0 -ℤ y)
  pub third : FitsSigned w128 (pos 0 -ℤ c)
  pub fourth : FitsSigned w128 (pos 0 -ℤ d)

-- all quotients by a divisor on one side of 0: those by a divisor below 0 are those of the opposites
abbrev pub HaveQuotientsBy : Scale → (x y c d : ℤ) → Type 0
HaveQuotientsBy scale x y c d =
    ((pos 0 <ℤ c) × HaveQuotients scale x y c d)
    ⊎ ((d <ℤ pos 0) × (HaveOpposites x y c d × HaveQuotients scale (pos 0 -ℤ y) (pos 0 -ℤ x) (pos 0 -ℤ d) (pos 0 -ℤ c)))

-- the whole quotient of n by d and what it leaves, both raised to 2^-56
pub record HasParts (n d whole rest : ℤ) : Type 0 where
  pub least : pos 0 ≤ℤ rest
  pub most : rest <ℤ (d *ℤ pos (2 ^ 56))
  pub from : (whole *ℤ d +ℤ rest) ≤ℤ (n *ℤ pos (2 ^ 56))
  pub to : (n *ℤ pos (2 ^ 56)) ≤ℤ (whole *ℤ d +ℤ rest)

-- a root of an endpoint
abbrev pub HasRoot : Scale → ℤ → Type 0
HasRoot coarse n = Unit {0}
HasRoot fine n = n <ℤ pos (2 ^ 70)
