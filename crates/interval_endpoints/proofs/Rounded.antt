-- How far apart endpoints are that are rounded outwards: a quotient rounded up is at most 1 more than that rounded
-- down, and each further operation adds its own width. The differences of products are certificates by the factor's
-- sign, the rest is linear.
use Rattle.std.proofs.Common.{◌≡◌, ℕ, suc, ◌+◌, refl, arith, unsigned_abs, ℤ, pos, negsuc, ◌+ℤ◌, ◌*ℤ◌, ◌-ℤ◌, ◌≤ℤ◌, ◌<ℤ◌}
use Rattle.std.proofs.Common.{[], ◌∷◌}
use Rattle.std.proofs.lemmas.Int.{ints, by_lt_z}
use Rattle.book_model.proofs.Ring.{at, lit, ◌⊕◌, ◌⊖◌, ◌⊗◌}
use Rattle.book_model.proofs.Bounds.{◌≼◌, known, ◌⊞◌, ◌⊠◌, times as naturally, le_by, refute}
use Rattle.book_model.specs.Fraction.{Fraction}
use Rattle.int_division.specs.Rounding.{IsFloor, IsCeiling, AreSorted}
use Rattle.interval_endpoints.specs.Scales.{Scale, unit}
use Rattle.interval_endpoints.specs.Rounding.{IsMarginAt}
use Rattle.interval_endpoints.proofs.Scaling.{AreScaled}

-- around a quotient
pub one_apart : (n d lo hi : ℤ) → pos 0 <ℤ d → IsFloor lo n d → IsCeiling hi n d → (hi -ℤ lo) ≤ℤ pos 1
one_apart n d lo hi h f c =
    by_lt_z (lo +ℤ pos 1) hi
    (λ m. absurd
    (refute (n ∷ d ∷ lo ∷ hi ∷ []) ((lit (pos 1) ≼ at 1) ∷ (at 0 ⊕ lit (pos 1) ≼ at 2 ⊗ at 1 ⊕ at 1)
    ∷ (at 3 ⊗ at 1 ⊕ lit (pos 1) ≼ at 0 ⊕ at 1) ∷
    (at 2 ⊕ lit (pos 2) ≼ at 3) ∷ []) (known 1 ⊞ known 2 ⊞ known 3 ⊠ (known 0 ⊞ naturally 1) ⊞ naturally 1) refl (
      omega (arith, ints, h),
      (omega (arith, ints, f.close), (omega (arith, ints, c.close), (omega (arith, ints, m), tt))),
    )))
    (λ m. omega (arith, ints, m))

-- around products with a number
factor_apart : (x y n p q m g : ℤ) (N : ℕ) → x ≤ℤ y → N ≡ unsigned_abs n → p ≡ x *ℤ n → q ≡ y *ℤ n → AreSorted m g p q
    → (g -ℤ m) ≤ℤ ((y -ℤ x) *ℤ pos N)
factor_apart x y (pos n) p q m g N o e ep eq s =
    let l : (x *ℤ pos n) ≤ℤ (y *ℤ pos n) = le_by (x ∷ y ∷ pos n ∷ []) ((at 0 ≼ at 1) ∷ (lit (pos 0) ≼ at 2) ∷ [])
    (at 0 ⊗ at 2) (at 1 ⊗ at 2)
    (known 0 ⊠ known 1) refl (o, (omega (arith, ints), tt)) in
    let a = s.best_low (x *ℤ pos n) (omega (arith, ints, ep)) (omega (arith, ints, eq, l)) in
    let b = s.best_high (y *ℤ pos n) (omega (arith, ints, ep, l)) (omega (arith, ints, eq)) in
    let c : (y *ℤ pos n -ℤ x *ℤ pos n) ≤ℤ ((y -ℤ x) *ℤ pos n) = le_by (x ∷ y ∷ pos n ∷ []) []
    (at 1 ⊗ at 2 ⊖ at 0 ⊗ at 2) ((at 1 ⊖ at 0) ⊗ at 2) (naturally 0) refl tt in
    rw e (omega (arith, ints, a, b, c))
factor_apart x y (negsuc n) p q m g N o e ep eq s =
    let l : (y *ℤ negsuc n) ≤ℤ (x *ℤ negsuc n) = le_by (x ∷ y ∷ negsuc n ∷ [])
    ((at 0 ≼ at 1) ∷ (at 2 ≼ lit (pos 0)) ∷ []) (at 1 ⊗ at 2) (at 0 ⊗ at 2)
    (known 0 ⊠ known 1) refl (o, (omega (arith, ints), tt)) in
    let a = s.best_low (y *ℤ negsuc n) (omega (arith, ints, ep, l)) (omega (arith, ints, eq)) in
    let b = s.best_high (x *ℤ negsuc n) (omega (arith, ints, ep)) (omega (arith, ints, eq, l)) in
    let k : negsuc n ≡ pos 0 -ℤ pos (suc n) = omega (arith, ints) in
    let c : (x *ℤ negsuc n -ℤ y *ℤ negsuc n) ≤ℤ ((y -ℤ x) *ℤ pos (suc n)) = rw k
    (le_by (x ∷ y ∷ pos (suc n) ∷ []) [] (at 0 ⊗ (lit (pos 0) ⊖ at 2) ⊖ at 1 ⊗ (lit (pos 0) ⊖ at 2))
    ((at 1 ⊖ at 0) ⊗ at 2) (naturally 0) refl tt) in
    rw e (omega (arith, ints, a, b, c))

rounded_apart : (m g d lo hi v : ℤ) → (g -ℤ m) ≤ℤ v → IsFloor lo m d → IsCeiling hi g d
    → (((hi -ℤ lo) -ℤ pos 2) *ℤ d) ≤ℤ v
rounded_apart m g d lo hi v h f c =
    le_by (m ∷ g ∷ d ∷ lo ∷ hi ∷ v ∷ []) ((at 1 ⊖ at 0 ≼ at 5) ∷ (at 0 ≼ at 3 ⊗ at 2 ⊕ at 2)
    ∷ (at 4 ⊗ at 2 ≼ at 1 ⊕ at 2) ∷ [])
    (((at 4 ⊖ at 3) ⊖ lit (pos 2)) ⊗ at 2) (at 5) (known 0 ⊞ known 1 ⊞ known 2) refl
    (h, (omega (arith, ints, f.close), (omega (arith, ints, c.close), tt)))

pub scaled_apart : (f : Fraction) (x y n p q m g d lo hi : ℤ) → x ≤ℤ y → AreScaled f x y n p q m g d lo hi
    → (((hi -ℤ lo) -ℤ pos 2) *ℤ pos (f.below + 1))
    ≤ℤ ((y -ℤ x) *ℤ pos (unsigned_abs f.num))
scaled_apart f x y n p q m g d lo hi o s =
    let e = s.numerator in
    let a = factor_apart x y n p q m g (unsigned_abs f.num) o (rw e refl) s.first s.second s.order in
    let b = rounded_apart m g d lo hi _ a s.down s.up in
    let k = s.denominator in
    rw k at b

-- moved outwards
margin_wide : (n d m : ℤ) → IsCeiling m n d → ((pos 2 *ℤ m -ℤ pos 2) *ℤ d) ≤ℤ (pos 2 *ℤ n)
margin_wide n d m c =
    le_by (n ∷ d ∷ m ∷ []) ((at 2 ⊗ at 1 ⊕ lit (pos 1) ≼ at 0 ⊕ at 1) ∷ []) ((lit (pos 2) ⊗ at 2 ⊖ lit (pos 2)) ⊗ at 1)
    (lit (pos 2) ⊗ at 0)
    (naturally 2 ⊠ known 0 ⊞ naturally 2) refl (omega (arith, ints, c.close), tt)

pub margin_apart : (scale : Scale) → (f : Fraction) (x y m lo hi : ℤ) → IsMarginAt scale f m → lo ≡ x -ℤ m → hi ≡ y +ℤ m
    → ((((hi -ℤ lo) -ℤ (y -ℤ x)) -ℤ pos 2) *ℤ pos (f.below + 1)) ≤ℤ (pos 2 *ℤ (pos (unsigned_abs f.num) *ℤ unit scale))
margin_apart scale f x y m lo hi g e h =
    let v : ((hi -ℤ lo) -ℤ (y -ℤ x)) -ℤ pos 2 ≡ pos 2 *ℤ m -ℤ pos 2 = omega (arith, ints, e, h) in
    rw v (margin_wide _ _ m g.rounded)
