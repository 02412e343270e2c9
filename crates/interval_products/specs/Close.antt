-- How far apart the endpoints of products, squares, quotients and roots are, in units, and the greatest and the least
-- of products.
use Rattle.std.specs.Prelude.{◌≡◌, ℕ, max, unsigned_abs, ◌<◌, ◌⊎◌, ℤ, pos, ◌+ℤ◌, ◌-ℤ◌, ◌*ℤ◌, ◌≤ℤ◌, ◌<ℤ◌, Option, IfSome}
use Rattle.std.specs.Prelude.{IsSome}
use Rattle.std.specs.Int.{w128}
use Rattle.interval_endpoints.specs.WholeRounding.{IsBelowFour, IsAboveFour, IsAboveEachBelow, IsBelowEachAbove}
use Rattle.interval_endpoints.specs.Scales.{Scale, unit, word}
use Rattle.interval_endpoints.specs.declared.word.MachineWord.{Ghosts}
use Rattle.interval_endpoints.specs.declared.endpoints.Endpoints.{Endpoints}

-- u is the least and g the greatest product of a number from x to y and one from c to d
pub record AreCorners (u g x y c d : ℤ) : Type 0 where
  pub least : IsBelowFour u (x *ℤ c) (x *ℤ d) (y *ℤ c) (y *ℤ d)
  pub greatest : IsAboveFour g (x *ℤ c) (x *ℤ d) (y *ℤ c) (y *ℤ d)
  pub best_least : IsAboveEachBelow u (x *ℤ c) (x *ℤ d) (y *ℤ c) (y *ℤ d)
  pub best_greatest : IsBelowEachAbove g (x *ℤ c) (x *ℤ d) (y *ℤ c) (y *ℤ d)

-- the greatest size of a number from x to y
abbrev pub size_between : ℤ → ℤ → ℕ
size_between x y = max (unsigned_abs x) (unsigned_abs y)

-- of products: each width times the other's size, and two units
abbrev pub IsCloseProduct : Scale → (x y c d lo hi : ℤ) → Type 0
IsCloseProduct scale x y c d lo hi = (((hi -ℤ lo) -ℤ pos 2) *ℤ unit scale) ≤ℤ (pos (size_between c d) *ℤ (y -ℤ x) +ℤ pos
    (size_between x y) *ℤ (d -ℤ c))

-- of squares: twice the width times the size, and two units
abbrev pub IsCloseSquare : Scale → (x y lo hi : ℤ) → Type 0
IsCloseSquare scale x y lo hi = (((hi -ℤ lo) -ℤ pos 2) *ℤ unit scale) ≤ℤ (pos 2 *ℤ (pos (size_between x y) *ℤ (y -ℤ x)))

-- of quotients by a divisor of size m or more: the width over m, and the size times the divisor's width over m squared,
-- and two units
abbrev pub IsCloseQuotient : Scale → (x y c d lo hi : ℤ) → Type 0
IsCloseQuotient scale x y c d lo hi =
    (m : ℕ) → 0 < m → (pos m ≤ℤ c) ⊎ (d ≤ℤ (pos 0 -ℤ pos m))
    → (((hi -ℤ lo) -ℤ pos 2) *ℤ (pos m *ℤ pos m))
    ≤ℤ (unit scale *ℤ ((y -ℤ x) *ℤ pos m) +ℤ unit scale *ℤ (pos (size_between x y) *ℤ (d -ℤ c)))

-- of roots, where the lower endpoint is above 0: the width over twice its root, and two units. Both sides are squared,
-- of what the width is above two units.
abbrev pub IsCloseRoot : Scale → (x y lo hi : ℤ) → Type 0
IsCloseRoot scale x y lo hi =
    pos 0 <ℤ x → (e : ℕ) → hi -ℤ lo ≡ pos 2 +ℤ pos e
    → (pos 4 *ℤ ((pos e *ℤ pos e) *ℤ x)) ≤ℤ (((y -ℤ x) *ℤ (y -ℤ x)) *ℤ unit scale)

-- what holds of the endpoints of a number and of a result, where both have any
abbrev pub OfOne : {I : Type 0} {g : Ghosts I} → ((x y lo hi : ℤ) → Type 0) → Option (Endpoints I g)
    → Option (Endpoints I g) → Type 0
OfOne {g = g} P x r = IfSome x (λ p. IfSome r (λ e. P (g.value p.lo) (g.value p.hi) (g.value e.lo) (g.value e.hi)))

-- the same of two numbers
abbrev pub OfTwo : {I : Type 0} {g : Ghosts I} → ((x y c d lo hi : ℤ) → Type 0) → (x y r : Option (Endpoints I g))
    → Type 0
OfTwo {g = g} P x y r = IfSome x (λ p. IfSome y (λ q. IfSome r
    (λ e. P (g.value p.lo) (g.value p.hi) (g.value q.lo) (g.value q.hi) (g.value e.lo) (g.value e.hi))))

-- the result has endpoints in a word of 128 bits, where this holds of the endpoints of a number
abbrev pub ThereOfOne : {I : Type 0} {g : Ghosts I} → ((x y : ℤ) → Type 0) → Option (Endpoints I g)
    → Option (Endpoints I g) → Type 0
ThereOfOne {g = g} P x r = IfSome x (λ p. word g.scale ≡ w128 → P (g.value p.lo) (g.value p.hi) → IsSome r)

-- the same of two numbers
abbrev pub ThereOfTwo : {I : Type 0} {g : Ghosts I} → ((x y c d : ℤ) → Type 0) → (x y r : Option (Endpoints I g))
    → Type 0
ThereOfTwo {g = g} P x y r =
    IfSome x (λ p. IfSome y (λ q. word g.scale ≡ w128 → P (g.value p.lo) (g.value p.hi) (g.value q.lo) (g.value q.hi)
    → IsSome r))
