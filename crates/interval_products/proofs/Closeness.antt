-- How far apart the endpoints are that are rounded outwards. The greatest and the least of products, squares or
-- quotients are bounded first, by the widths and the sizes of what they are of, and rounding adds a unit at each end. A
-- quotient by a divisor below 0 is one of opposites, and a root is compared by squares. What is not linear is a
-- certificate (`le_by`).
use Rattle.std.proofs.Common.{◌≡◌, ℕ, ◌<◌, arith, refl, int_le, ℤ, pos, negsuc, ◌+ℤ◌, ◌*ℤ◌, ◌-ℤ◌, ◌≤ℤ◌, ◌<ℤ◌, ◌⊎◌, inl}
use Rattle.std.proofs.Common.{inr, [], ◌∷◌}
use Rattle.std.proofs.lemmas.Int.{ints}
use lib.Signed.{≤ℤ_refl}
use Rattle.book_model.proofs.Ring.{at, lit, ◌⊕◌, ◌⊖◌, ◌⊗◌}
use Rattle.book_model.proofs.Bounds.{◌≼◌, known, ◌⊞◌, ◌⊠◌, times as naturally, le_by}
use Rattle.interval_endpoints.specs.WholeRounding.{IsFloor, IsCeiling, IsBelowFour, IsAboveFour, IsAboveEachBelow}
use Rattle.interval_endpoints.specs.WholeRounding.{IsBelowEachAbove}
use Rattle.interval_endpoints.proofs.Quotients.{products_mono}
use Rattle.interval_endpoints.specs.Scales.{Scale, coarse, fine, unit}
use Rattle.interval_endpoints.specs.Rounding.{AreQuotientsAt, least_square_of}
use Rattle.interval_endpoints.proofs.Products.{corners_apart, AreSquares, by_sign}
use Rattle.interval_endpoints.proofs.RootWidths.{AreRoots}
use Rattle.interval_products.specs.Close.{AreCorners, size_between, IsCloseProduct, IsCloseSquare, IsCloseQuotient}
use Rattle.interval_products.specs.Close.{IsCloseRoot}

pub unit_positive : (scale : Scale) → pos 0 <ℤ unit scale
unit_positive coarse = omega (arith, ints)
unit_positive fine = omega (arith, ints)

-- ---- products
-- the least and the greatest of the four
pub four_corners : (x y c d p q r s u g : ℤ) → p ≡ x *ℤ c → q ≡ x *ℤ d → r ≡ y *ℤ c → s ≡ y *ℤ d → IsBelowFour u p q r s
    → IsAboveEachBelow u p q r s
    → IsAboveFour g p q r s → IsBelowEachAbove g p q r s → AreCorners u g x y c d
four_corners x y c d p q r s u g ep eq er es a b e f = record {
  least = rw (ep, eq, er, es) at a;
  greatest = rw (ep, eq, er, es) at e;
  best_least = rw (ep, eq, er, es) at b;
  best_greatest = rw (ep, eq, er, es) at f;
}

-- of numbers that are not below 0 they are those of the lesser and of the greater endpoints
pub natural_corners : (x y c d u g : ℤ) → x ≤ℤ y → c ≤ℤ d → pos 0 ≤ℤ x → pos 0 ≤ℤ c → u ≡ x *ℤ c → g ≡ y *ℤ d
    → AreCorners u g x y c d
natural_corners x y c d u g o q h k e f =
    let i : pos 0 ≤ℤ y = omega (arith, ints, h, o) in
    let j : pos 0 ≤ℤ d = omega (arith, ints, k, q) in
    record {
      least = rw e
          (record {
            first = products_mono _ _ _ _ h k (≤ℤ_refl x) (≤ℤ_refl c);
            second = products_mono _ _ _ _ h k (≤ℤ_refl x) q;
            third = products_mono _ _ _ _ h k o (≤ℤ_refl c);
            fourth = products_mono _ _ _ _ h k o q;
          });
      greatest = rw f
          (record {
            first = products_mono _ _ _ _ h k o q;
            second = products_mono _ _ _ _ h j o (≤ℤ_refl d);
            third = products_mono _ _ _ _ i k (≤ℤ_refl y) q;
            fourth = products_mono _ _ _ _ i j (≤ℤ_refl y) (≤ℤ_refl d);
          });
      best_least = λ m a b s t. rw e a;
      best_greatest = λ m a b s t. rw f t;
    }

corners_close : (x y c d u g : ℤ) → x ≤ℤ y → c ≤ℤ d → AreCorners u g x y c d → g
    ≤ℤ (u +ℤ (pos (size_between x y) *ℤ (d -ℤ c) +ℤ pos (size_between c d) *ℤ (y -ℤ x)))
corners_close x y c d u g o r k =
    corners_apart (pos (size_between x y)) (pos (size_between c d)) x y c d u g o r (omega (arith, ints))
    (omega (arith, ints)) (omega (arith, ints))
    (omega (arith, ints)) k.best_least k.best_greatest

pub product_close : (scale : Scale) (x y c d u g lo hi : ℤ) → x ≤ℤ y → c ≤ℤ d → AreCorners u g x y c d
    → IsFloor lo u (unit scale) → IsCeiling hi g (unit scale)
    → IsCloseProduct scale x y c d lo hi
product_close coarse x y c d u g lo hi o r k f t = let n = corners_close x y c d u g o r k in
    omega (arith, ints, n, f.close, t.close)
product_close fine x y c d u g lo hi o r k f t = let n = corners_close x y c d u g o r k in
    omega (arith, ints, n, f.close, t.close)

-- ---- squares
squares_close : (x y u g : ℤ) → x ≤ℤ y → u ≡ least_square_of x y → ((z : ℤ) → (x *ℤ x) ≤ℤ z → (y *ℤ y) ≤ℤ z → g ≤ℤ z)
    → g
    ≤ℤ (u +ℤ (pos (size_between x y) *ℤ (y -ℤ x) +ℤ pos (size_between x y) *ℤ (y -ℤ x)))
squares_close x y u g o e best =
    let q : AreSquares x y (pos (size_between x y)) u =
    rw e (by_sign x y (pos (size_between x y)) (int_le (pos 0) x) (int_le y (pos 0)) refl refl o
    (omega (arith, ints)) (omega (arith, ints))) in
    best _ q.first q.second

pub square_close : (scale : Scale) (x y u g lo hi : ℤ) → x ≤ℤ y → u ≡ least_square_of x y
    → ((z : ℤ) → (x *ℤ x) ≤ℤ z → (y *ℤ y) ≤ℤ z → g ≤ℤ z)
    → IsFloor lo u (unit scale) → IsCeiling hi g (unit scale) → IsCloseSquare scale x y lo hi
square_close coarse x y u g lo hi o e best f t = let n = squares_close x y u g o e best in
    omega (arith, ints, n, f.close, t.close)
square_close fine x y u g lo hi o e best f t = let n = squares_close x y u g o e best in
    omega (arith, ints, n, f.close, t.close)

-- ---- quotients
-- the least size of a divisor above 0 is at most its lower endpoint
least_above : (m : ℕ) (c d : ℤ) → pos 0 <ℤ c → c ≤ℤ d → 0 < m → (pos m ≤ℤ c) ⊎ (d ≤ℤ (pos 0 -ℤ pos m)) → pos m ≤ℤ c
least_above m c d h o z (inl l) = l
least_above m c d h o z (inr l) = absurd (omega (arith, ints, h, o, z, l))

least_below : (m : ℕ) (c d : ℤ) → d <ℤ pos 0 → c ≤ℤ d → 0 < m → (pos m ≤ℤ c) ⊎ (d ≤ℤ (pos 0 -ℤ pos m))
    → pos m ≤ℤ (pos 0 -ℤ d)
least_below m c d h o z (inl l) = absurd (omega (arith, ints, h, o, z, l))
least_below m c d h o z (inr l) = omega (arith, ints, l)

-- what is said of the endpoints of a quotient is said of how far apart they are
abbrev pub IsCloseBy : Scale → (x y c d apart : ℤ) → Type 0
IsCloseBy scale x y c d apart =
    (m : ℕ) → 0 < m → (pos m ≤ℤ c) ⊎ (d ≤ℤ (pos 0 -ℤ pos m)) → ((apart -ℤ pos 2) *ℤ (pos m *ℤ pos m))
    ≤ℤ (unit scale *ℤ ((y -ℤ x) *ℤ pos m) +ℤ unit scale *ℤ (pos (size_between x y) *ℤ (d -ℤ c)))

pub positive_close : (scale : Scale) (x y c d lo hi : ℤ) → c ≤ℤ d → pos 0 <ℤ c → AreQuotientsAt scale x y c d lo hi
    → IsCloseQuotient scale x y c d lo hi
positive_close scale x y c d lo hi r h q = λ m z l. q.close (pos (size_between x y)) (pos m) (omega (arith, ints))
    (omega (arith, ints)) (omega (arith, ints))
    (least_above m c d h r z l)

-- by a divisor below 0: the quotients of the opposites
turned : (k x y c d w m a : ℤ)
    → (w *ℤ (m *ℤ m)) ≤ℤ (k *ℤ (((pos 0 -ℤ x) -ℤ (pos 0 -ℤ y)) *ℤ m) +ℤ k *ℤ (a *ℤ ((pos 0 -ℤ c) -ℤ (pos 0 -ℤ d))))
    → (w *ℤ (m *ℤ m))
    ≤ℤ (k *ℤ ((y -ℤ x) *ℤ m) +ℤ k *ℤ (a *ℤ (d -ℤ c)))
turned k x y c d w m a h =
    le_by (x ∷ y ∷ c ∷ d ∷ w ∷ m ∷ a ∷ k ∷ [])
    ((at 4 ⊗ (at 5 ⊗ at 5) ≼ at 7 ⊗ (((lit (pos 0) ⊖ at 0) ⊖ (lit (pos 0) ⊖ at 1)) ⊗ at 5) ⊕ at 7
    ⊗ (at 6 ⊗ ((lit (pos 0) ⊖ at 2) ⊖ (lit (pos 0) ⊖ at 3)))) ∷
    [])
    (at 4 ⊗ (at 5 ⊗ at 5)) (at 7 ⊗ ((at 1 ⊖ at 0) ⊗ at 5) ⊕ at 7 ⊗ (at 6 ⊗ (at 3 ⊖ at 2))) (known 0) refl (h, tt)

pub negative_close : (scale : Scale) (x y c d lo hi : ℤ) → c ≤ℤ d → d <ℤ pos 0
    → AreQuotientsAt scale (pos 0 -ℤ y) (pos 0 -ℤ x) (pos 0 -ℤ d) (pos 0 -ℤ c) lo hi
    → IsCloseQuotient scale x y c d lo hi
negative_close scale x y c d lo hi r h q = λ m z l.
    turned (unit scale) x y c d ((hi -ℤ lo) -ℤ pos 2) (pos m) (pos (size_between x y))
    (q.close (pos (size_between x y)) (pos m) (omega (arith, ints)) (omega (arith, ints)) (omega (arith, ints))
    (least_below m c d h r z l))

-- ---- roots
cancelled : (scale : Scale) (p q : ℤ) → (p *ℤ unit scale) ≤ℤ (q *ℤ unit scale) → p ≤ℤ q
cancelled coarse p q h = omega (arith, ints, h)
cancelled fine p q h = omega (arith, ints, h)

-- e is the distance of the roots less two, r the lower one, v and z the width and the lower endpoint of the number
root_wide : (scale : Scale) (e r v z : ℤ) → pos 0 ≤ℤ e → pos 0 ≤ℤ r → pos 0 ≤ℤ v → (z *ℤ unit scale) ≤ℤ (r *ℤ r)
    → (pos 2 *ℤ (e *ℤ r)) ≤ℤ (v *ℤ unit scale)
    → (pos 4 *ℤ ((e *ℤ e) *ℤ z)) ≤ℤ ((v *ℤ v) *ℤ unit scale)
root_wide scale e r v z he hr hv hz hw =
    cancelled scale _ _
    (le_by (e ∷ r ∷ v ∷ z ∷ unit scale ∷ [])
    ((lit (pos 0) ≼ at 0) ∷ (lit (pos 0) ≼ at 1) ∷ (lit (pos 0) ≼ at 2) ∷ (at 3 ⊗ at 4 ≼ at 1 ⊗ at 1)
    ∷ (lit (pos 2) ⊗ (at 0 ⊗ at 1) ≼ at 2 ⊗ at 4) ∷ [])
    ((lit (pos 4) ⊗ ((at 0 ⊗ at 0) ⊗ at 3)) ⊗ at 4) (((at 2 ⊗ at 2) ⊗ at 4) ⊗ at 4)
    (naturally 4 ⊠ known 0 ⊠ known 0 ⊠ known 3 ⊞ known 4 ⊠ (known 4 ⊞ naturally 4 ⊠ known 0 ⊠ known 1)) refl
    (he, (hr, (hv, (hz, (hw, tt))))))

-- the squares' distance
root_gap : (k e lo hi x y : ℤ) → pos 0 ≤ℤ e → pos 0 ≤ℤ lo → hi -ℤ lo ≡ pos 2 +ℤ e
    → (x *ℤ k) <ℤ ((lo +ℤ pos 1) *ℤ (lo +ℤ pos 1))
    → ((hi -ℤ pos 1) *ℤ (hi -ℤ pos 1)) <ℤ (y *ℤ k) → (pos 2 *ℤ (e *ℤ (lo +ℤ pos 1))) ≤ℤ ((y -ℤ x) *ℤ k)
root_gap k e lo hi x y he hl w h l =
    let s : hi ≡ (lo +ℤ pos 1) +ℤ (e +ℤ pos 1) = omega (arith, ints, w) in
    let t : (((lo +ℤ pos 1) +ℤ e) *ℤ ((lo +ℤ pos 1) +ℤ e)) ≤ℤ (y *ℤ k) = same ((lo +ℤ pos 1) +ℤ e) (hi -ℤ pos 1)
    (omega (arith, ints, s))
    (omega (arith, ints, l)) in
    le_by (e ∷ lo ∷ x ∷ y ∷ k ∷ [])
    ((lit (pos 0) ≼ at 0) ∷ (((at 1 ⊕ lit (pos 1)) ⊕ at 0) ⊗ ((at 1 ⊕ lit (pos 1)) ⊕ at 0) ≼ at 3 ⊗ at 4) ∷
    (at 2 ⊗ at 4 ≼ (at 1 ⊕ lit (pos 1)) ⊗ (at 1 ⊕ lit (pos 1))) ∷ [])
    (lit (pos 2) ⊗ (at 0 ⊗ (at 1 ⊕ lit (pos 1)))) ((at 3 ⊖ at 2) ⊗ at 4) (known 1 ⊞ known 2 ⊞ known 0 ⊠ known 0) refl
    (he, (t, (omega (arith, ints, h), tt)))
  where
    same : (p q : ℤ) → p ≡ q → (q *ℤ q) ≤ℤ (y *ℤ k) → (p *ℤ p) ≤ℤ (y *ℤ k)
    same p q g l = rw g l

pub root_close : (scale : Scale) (x y lo hi : ℤ) → x ≤ℤ y → AreRoots scale x y lo hi → IsCloseRoot scale x y lo hi
root_close scale (negsuc x) y lo hi o r = λ h e w. absurd (omega (arith, ints, h))
root_close scale (pos x) (negsuc y) lo hi o r = λ h e w. absurd (omega (arith, ints, o))
root_close scale (pos x) (pos y) lo hi o r = λ h e w.
    let b = r.below (omega (arith, ints, w, r.natural)) in
    let g = root_gap (unit scale) (pos e) lo hi (pos x) (pos y) (omega (arith, ints)) r.natural w r.above b in
    root_wide scale (pos e) (lo +ℤ pos 1) (pos y -ℤ pos x) (pos x) (omega (arith, ints))
    (omega (arith, ints, r.natural)) (omega (arith, ints, o))
    (omega (arith, ints, r.above)) g
