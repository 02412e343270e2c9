-- Endpoints at a scale that keep the bounds of products and squares. In whole numbers: the corners' distance is at most
-- each width times the other's size, what rounding adds is a unit, and the range is that of the corners (`Corners`).
-- Then by cases of the two bounds: nothing is promised without one, or beyond the limit.
use Rattle.interval_endpoints.specs.Scales.{Scale, coarse, fine, at_scale, unit, limits_on, span, grain, slack}
use Rattle.std.proofs.Common.{◌≡◌, ℕ, suc, ◌+◌, ◌*◌, ◌-◌, ◌^◌, ◌≤◌, refl, sym, arith, Bool, true, false, cond, int_le}
use Rattle.std.proofs.Common.{ℤ, pos, ◌+ℤ◌, ◌*ℤ◌, ◌-ℤ◌, ◌≤ℤ◌, [], ◌∷◌}
use Rattle.std.proofs.lemmas.Int.{ints}
use Rattle.std.proofs.lemmas.Bool.{ltb-true}
use lib.Signed.{≤ℤ_refl}
use Rattle.book_model.specs.Interval.{Interval, everything, between}
use Rattle.book_model.proofs.Ring.{at, lit, ◌⊕◌, ◌⊖◌, ◌⊗◌}
use Rattle.book_model.proofs.Bounds.{◌≼◌, known, ◌⊞◌, ◌⊠◌, times as naturally, le_by, pos_nonneg, square_nonneg}
use Rattle.book_model.specs.numbers.Bounds.{Bound, unbounded, bounded, range_size, ceil_div, least_corner}
use Rattle.book_model.specs.numbers.Bounds.{greatest_corner, least_square, floor_of_product, ceil_of_product}
use Rattle.book_model.specs.numbers.Bounds.{product_bound, power_bound, IsNarrow}
use Rattle.int_division.specs.Rounding.{IsFloor, IsCeiling, IsAboveEachBelow, IsBelowEachAbove}
use Rattle.interval_endpoints.specs.Rounding.{ShowsEndpoints, least_square_of}
use Rattle.interval_endpoints.proofs.Keeping.{AreKept, kept_of, limited_narrow, both}
use Rattle.interval_endpoints.proofs.Corners.{LiesIn, corner_below, corner_above, square_below, square_above}

halved : (p q : ℤ) → (pos 2 *ℤ p) ≤ℤ (pos 2 *ℤ q) → p ≤ℤ q
halved p q h = omega (arith, ints, h)

-- a product of two numbers of known sizes
pub record IsBounded (p n : ℤ) : Type 0 where
  pub above : (pos 0 -ℤ n) ≤ℤ p
  pub below : p ≤ℤ n

pub bounded_product : (x y a b : ℤ) → (pos 0 -ℤ a) ≤ℤ x → x ≤ℤ a → (pos 0 -ℤ b) ≤ℤ y → y ≤ℤ b
    → IsBounded (x *ℤ y) (a *ℤ b)
bounded_product x y a b h0 h1 h2 h3 = record {
  above = halved (pos 0 -ℤ a *ℤ b) (x *ℤ y)
      (le_by (x ∷ y ∷ a ∷ b ∷ []) ((lit (pos 0) ⊖ at 2 ≼ at 0) ∷ (at 0 ≼ at 2) ∷ (lit (pos 0) ⊖ at 3 ≼ at 1)
      ∷ (at 1 ≼ at 3) ∷ [])
      (lit (pos 2) ⊗ (lit (pos 0) ⊖ at 2 ⊗ at 3)) (lit (pos 2) ⊗ (at 0 ⊗ at 1))
      (known 0 ⊠ known 2 ⊞ known 1 ⊠ known 3) refl (h0, (h1, (h2, (h3, tt)))));
  below = halved (x *ℤ y) (a *ℤ b)
      (le_by (x ∷ y ∷ a ∷ b ∷ []) ((lit (pos 0) ⊖ at 2 ≼ at 0) ∷ (at 0 ≼ at 2) ∷ (lit (pos 0) ⊖ at 3 ≼ at 1)
      ∷ (at 1 ≼ at 3) ∷ []) (lit (pos 2) ⊗ (at 0 ⊗ at 1))
      (lit (pos 2) ⊗ (at 2 ⊗ at 3))
      (known 0 ⊠ known 3 ⊞ known 1 ⊠ known 2) refl (h0, (h1, (h2, (h3, tt)))));
}

-- two products of numbers from x to y and from c to d are at most this far apart
apart : (p q x y c d a b : ℤ) → x ≤ℤ p → p ≤ℤ y → x ≤ℤ q → q ≤ℤ y → (pos 0 -ℤ b) ≤ℤ c → d ≤ℤ b → c ≤ℤ d
    → (pos 0 -ℤ a) ≤ℤ x → y ≤ℤ a → (u v : ℤ) → c ≤ℤ u → u
    ≤ℤ d → c ≤ℤ v → v ≤ℤ d → (p *ℤ u) ≤ℤ (q *ℤ v +ℤ (a *ℤ (d -ℤ c) +ℤ b *ℤ (y -ℤ x)))
apart p q x y c d a b xp py xq qy bc db cd ax ya u v cu ud cv vd =
    let first : (p *ℤ u) ≤ℤ (q *ℤ u +ℤ b *ℤ (y -ℤ x)) = shift p q u b (y -ℤ x) (omega (arith, ints, xp, py, xq, qy))
    (omega (arith, ints, xp, py, xq, qy))
    (omega (arith, ints, bc, cu)) (omega (arith, ints, db, ud)) in
    let second : (q *ℤ u) ≤ℤ (q *ℤ v +ℤ a *ℤ (d -ℤ c)) = turned_shift u v q a (d -ℤ c)
    (omega (arith, ints, cu, ud, cv, vd))
    (omega (arith, ints, cu, ud, cv, vd)) (omega (arith, ints, ax, xq)) (omega (arith, ints, ya, qy)) in
    omega (arith, ints, first, second)
  where
    shift : (p q u b w : ℤ) → (p -ℤ q) ≤ℤ w → (q -ℤ p) ≤ℤ w → (pos 0 -ℤ b) ≤ℤ u → u ≤ℤ b
        → (p *ℤ u) ≤ℤ (q *ℤ u +ℤ b *ℤ w)
    shift p q u b w h k l m =
        halved (p *ℤ u) (q *ℤ u +ℤ b *ℤ w)
        (le_by (p ∷ q ∷ u ∷ b ∷ w ∷ []) ((at 0 ⊖ at 1 ≼ at 4) ∷ (at 1 ⊖ at 0 ≼ at 4) ∷ (lit (pos 0) ⊖ at 3 ≼ at 2)
        ∷ (at 2 ≼ at 3) ∷ [])
        (lit (pos 2) ⊗ (at 0 ⊗ at 2)) (lit (pos 2) ⊗ (at 1 ⊗ at 2 ⊕ at 3 ⊗ at 4))
        (known 0 ⊠ known 2 ⊞ known 1 ⊠ known 3) refl (h, (k, (l, (m, tt)))))

    turned_shift : (u v q a w : ℤ) → (u -ℤ v) ≤ℤ w → (v -ℤ u) ≤ℤ w → (pos 0 -ℤ a) ≤ℤ q → q ≤ℤ a
        → (q *ℤ u) ≤ℤ (q *ℤ v +ℤ a *ℤ w)
    turned_shift u v q a w h k l m =
        halved (q *ℤ u) (q *ℤ v +ℤ a *ℤ w)
        (le_by (u ∷ v ∷ q ∷ a ∷ w ∷ []) ((at 0 ⊖ at 1 ≼ at 4) ∷ (at 1 ⊖ at 0 ≼ at 4) ∷ (lit (pos 0) ⊖ at 3 ≼ at 2)
        ∷ (at 2 ≼ at 3) ∷ [])
        (lit (pos 2) ⊗ (at 2 ⊗ at 0)) (lit (pos 2) ⊗ (at 2 ⊗ at 1 ⊕ at 3 ⊗ at 4))
        (known 0 ⊠ known 2 ⊞ known 1 ⊠ known 3) refl (h, (k, (l, (m, tt)))))

-- what the widths and sizes of the factors say of the product's width
slopes : (scale : Scale) → (a b s k t m w p q x y : ℤ) → pos 0 ≤ℤ a → pos 0 ≤ℤ b → pos 0 ≤ℤ w
    → (x *ℤ (grain scale)) ≤ℤ (s *ℤ w +ℤ k *ℤ pos (2 ^ 40))
    → (y *ℤ (grain scale)) ≤ℤ (t *ℤ w +ℤ m *ℤ pos (2 ^ 40))
    → (a *ℤ t +ℤ b *ℤ s) ≤ℤ (p *ℤ pos (2 ^ 32)) → (a *ℤ m +ℤ b *ℤ k) ≤ℤ (q *ℤ pos (2 ^ 32))
    → ((grain scale) *ℤ (a *ℤ y +ℤ b *ℤ x))
    ≤ℤ (pos (2 ^ 32) *ℤ (p *ℤ w) +ℤ pos (2 ^ 72) *ℤ q)
slopes coarse a b s k t m w p q x y ha hb hw hx hy hp hq =
    let n = λ (j : ℕ). lit (pos (2 ^ j)) in
    le_by (a ∷ b ∷ s ∷ k ∷ t ∷ m ∷ w ∷ p ∷ q ∷ x ∷ y ∷ [])
    ((lit (pos 0) ≼ at 0) ∷ (lit (pos 0) ≼ at 1) ∷ (lit (pos 0) ≼ at 6) ∷ (at 9 ⊗ n 68 ≼ at 2 ⊗ at 6 ⊕ at 3 ⊗ n 40)
    ∷ (at 10 ⊗ n 68 ≼ at 4 ⊗ at 6 ⊕ at 5 ⊗ n 40)
    ∷ (at 0 ⊗ at 4 ⊕ at 1 ⊗ at 2 ≼ at 7 ⊗ n 32)
    ∷ (at 0 ⊗ at 5 ⊕ at 1 ⊗ at 3 ≼ at 8 ⊗ n 32) ∷ [])
    (n 68 ⊗ (at 0 ⊗ at 10 ⊕ at 1 ⊗ at 9)) (n 32 ⊗ (at 7 ⊗ at 6) ⊕ n 72 ⊗ at 8)
    (known 1 ⊠ known 3 ⊞ known 0 ⊠ known 4 ⊞ known 2 ⊠ known 5 ⊞ naturally (2 ^ 40) ⊠ known 6) refl
    (ha, (hb, (hw, (hx, (hy, (hp, (hq, tt)))))))
slopes fine a b s k t m w p q x y ha hb hw hx hy hp hq =
    let n = λ (j : ℕ). lit (pos (2 ^ j)) in
    le_by (a ∷ b ∷ s ∷ k ∷ t ∷ m ∷ w ∷ p ∷ q ∷ x ∷ y ∷ [])
    ((lit (pos 0) ≼ at 0) ∷ (lit (pos 0) ≼ at 1) ∷ (lit (pos 0) ≼ at 6) ∷ (at 9 ⊗ n 48 ≼ at 2 ⊗ at 6 ⊕ at 3 ⊗ n 40)
    ∷ (at 10 ⊗ n 48 ≼ at 4 ⊗ at 6 ⊕ at 5 ⊗ n 40)
    ∷ (at 0 ⊗ at 4 ⊕ at 1 ⊗ at 2 ≼ at 7 ⊗ n 32)
    ∷ (at 0 ⊗ at 5 ⊕ at 1 ⊗ at 3 ≼ at 8 ⊗ n 32) ∷ [])
    (n 48 ⊗ (at 0 ⊗ at 10 ⊕ at 1 ⊗ at 9)) (n 32 ⊗ (at 7 ⊗ at 6) ⊕ n 72 ⊗ at 8)
    (known 1 ⊠ known 3 ⊞ known 0 ⊠ known 4 ⊞ known 2 ⊠ known 5 ⊞ naturally (2 ^ 40) ⊠ known 6) refl
    (ha, (hb, (hw, (hx, (hy, (hp, (hq, tt)))))))

-- numbers in units of 2^-72, as far apart as the factors allow, rounded outwards
rounded_kept : (scale : Scale) → (low high : ℤ) (A B s k t m w S M : ℕ) (x y u g lo hi : ℤ) → lo ≤ℤ hi
    → IsFloor lo u (unit scale) → IsCeiling hi g (unit scale)
    → (((low *ℤ pos (2 ^ 32)) *ℤ (span scale)) *ℤ (span scale)) ≤ℤ u
    → g ≤ℤ (((high *ℤ pos (2 ^ 32)) *ℤ (span scale)) *ℤ (span scale))
    → g ≤ℤ (u +ℤ (((span scale) *ℤ pos A) *ℤ y +ℤ ((span scale) *ℤ pos B) *ℤ x))
    → (x *ℤ (grain scale)) ≤ℤ pos (s * w + k * 2 ^ 40) → (y *ℤ (grain scale))
    ≤ℤ pos (t * w + m * 2 ^ 40)
    → A * t + B * s ≤ S * 2 ^ 32 → A * m + B * k ≤ M * 2 ^ 32 → AreKept scale low high S (M + 2 * (slack scale)) w lo hi
rounded_kept coarse low high A B s k t m w S M x y u g lo hi o f c l h n wx wy hs hm =
    let r = slopes coarse (pos A) (pos B) (pos s) (pos k) (pos t) (pos m) (pos w) (pos S) (pos M) x y (pos_nonneg A)
    (pos_nonneg B) (pos_nonneg w)
    (omega (arith, ints, wx)) (omega (arith, ints, wy)) (omega (arith, ints, hs)) (omega (arith, ints, hm)) in
    record {
      ordered = o;
      above = omega (arith, ints, f.close, l);
      below = omega (arith, ints, c.close, h);
      close = omega (arith, ints, f.close, c.close, n, r);
    }
rounded_kept fine low high A B s k t m w S M x y u g lo hi o f c l h n wx wy hs hm =
    let r = slopes fine (pos A) (pos B) (pos s) (pos k) (pos t) (pos m) (pos w) (pos S) (pos M) x y (pos_nonneg A)
    (pos_nonneg B) (pos_nonneg w)
    (omega (arith, ints, wx)) (omega (arith, ints, wy)) (omega (arith, ints, hs)) (omega (arith, ints, hm)) in
    record {
      ordered = o;
      above = omega (arith, ints, f.close, l);
      below = omega (arith, ints, c.close, h);
      close = omega (arith, ints, f.close, c.close, n, r);
    }

pub ceil_above : (n d : ℕ) → n ≤ ceil_div n d * suc d
ceil_above n d = omega arith

-- the sizes of endpoints that keep a bound
pub record AreSized (scale : Scale) (A : ℕ) (x y : ℤ) : Type 0 where
  pub above : (pos 0 -ℤ (span scale) *ℤ pos A) ≤ℤ x
  pub below : y ≤ℤ ((span scale) *ℤ pos A)

pub sized : (scale : Scale) → (a b : ℤ) (s k w : ℕ) (x y : ℤ) → AreKept scale a b s k w x y
    → AreSized scale (range_size a b) x y
sized coarse a b s k w x y h = record { above = omega (arith, ints, h.above); below = omega (arith, ints, h.below) }
sized fine a b s k w x y h = record { above = omega (arith, ints, h.above); below = omega (arith, ints, h.below) }

-- the least and the greatest product of numbers of sizes a and b
pub corners_apart : (a b x y c d u g : ℤ) → x ≤ℤ y → c ≤ℤ d → (pos 0 -ℤ a) ≤ℤ x → y ≤ℤ a → (pos 0 -ℤ b) ≤ℤ c → d ≤ℤ b
    → IsAboveEachBelow u (x *ℤ c) (x *ℤ d) (y *ℤ c) (y *ℤ d) → IsBelowEachAbove g (x *ℤ c) (x *ℤ d) (y *ℤ c) (y *ℤ d)
    → g ≤ℤ (u +ℤ (a *ℤ (d -ℤ c) +ℤ b *ℤ (y -ℤ x)))
corners_apart a b x y c d u g o r ax ya bc db bl bg =
    let w = a *ℤ (d -ℤ c) +ℤ b *ℤ (y -ℤ x) in
    let t = λ (p i q j : ℤ) (xp : x ≤ℤ p) (py : p ≤ℤ y) (ci : c ≤ℤ i) (id : i ≤ℤ d) (xq : x ≤ℤ q) (qy : q ≤ℤ y)
    (cj : c ≤ℤ j) (jd : j ≤ℤ d).
    apart p q x y c d a b xp py xq qy bc db r ax ya i j ci id cj jd in
    let under = λ (p i : ℤ) (xp : x ≤ℤ p) (py : p ≤ℤ y) (ci : c ≤ℤ i) (id : i ≤ℤ d).
    over_least p i w (t p i x c xp py ci id (≤ℤ_refl x) o (≤ℤ_refl c) r)
    (t p i x d xp py ci id (≤ℤ_refl x) o r (≤ℤ_refl d))
    (t p i y c xp py ci id o (≤ℤ_refl y) (≤ℤ_refl c) r)
    (t p i y d xp py ci id o (≤ℤ_refl y) r (≤ℤ_refl d)) in
    bg _ (under x c (≤ℤ_refl x) o (≤ℤ_refl c) r) (under x d (≤ℤ_refl x) o r (≤ℤ_refl d))
    (under y c o (≤ℤ_refl y) (≤ℤ_refl c) r)
    (under y d o (≤ℤ_refl y) r (≤ℤ_refl d))
  where
    over_least : (p i w : ℤ) → (p *ℤ i) ≤ℤ (x *ℤ c +ℤ w) → (p *ℤ i) ≤ℤ (x *ℤ d +ℤ w) → (p *ℤ i) ≤ℤ (y *ℤ c +ℤ w)
        → (p *ℤ i) ≤ℤ (y *ℤ d +ℤ w) → (p *ℤ i)
        ≤ℤ (u +ℤ w)
    over_least p i w h0 h1 h2 h3 =
        let l = bl (p *ℤ i -ℤ w) (omega (arith, ints, h0)) (omega (arith, ints, h1)) (omega (arith, ints, h2))
        (omega (arith, ints, h3)) in
        omega (arith, ints, l)

-- each product is at most each other and what the widths allow
corner_apart : (scale : Scale) → (A B : ℕ) (x y c d p q i j : ℤ) → x ≤ℤ y → c ≤ℤ d → AreSized scale A x y
    → AreSized scale B c d → x ≤ℤ p → p ≤ℤ y → x ≤ℤ q → q
    ≤ℤ y → c ≤ℤ i → i ≤ℤ d → c ≤ℤ j → j ≤ℤ d
    → ((p *ℤ i) -ℤ (((span scale) *ℤ pos A) *ℤ (d -ℤ c) +ℤ ((span scale) *ℤ pos B) *ℤ (y -ℤ x))) ≤ℤ (q *ℤ j)
corner_apart coarse A B x y c d p q i j o r a b xp py xq qy ci id cj jd =
    let h = apart p q x y c d (pos 16 *ℤ pos A) (pos 16 *ℤ pos B) xp py xq qy b.above b.below r a.above a.below i j ci
    id cj jd in
    omega (arith, ints, h)
corner_apart fine A B x y c d p q i j o r a b xp py xq qy ci id cj jd =
    let h = apart p q x y c d (pos (2 ^ 24) *ℤ pos A) (pos (2 ^ 24) *ℤ pos B) xp py xq qy b.above b.below r a.above
    a.below i j ci id cj jd in
    omega (arith, ints, h)

corner_under : (scale : Scale) → (A B : ℕ) (x y c d p i u : ℤ) → x ≤ℤ y → c ≤ℤ d → AreSized scale A x y
    → AreSized scale B c d → x ≤ℤ p → p ≤ℤ y → c ≤ℤ i → i
    ≤ℤ d → IsAboveEachBelow u (x *ℤ c) (x *ℤ d) (y *ℤ c) (y *ℤ d)
    → (p *ℤ i) ≤ℤ (u +ℤ (((span scale) *ℤ pos A) *ℤ (d -ℤ c) +ℤ ((span scale) *ℤ pos B) *ℤ (y -ℤ x)))
corner_under coarse A B x y c d p i u o r a b xp py ci id best =
    let t = λ (q j : ℤ) (xq : x ≤ℤ q) (qy : q ≤ℤ y) (cj : c ≤ℤ j) (jd : j ≤ℤ d). corner_apart coarse A B x y c d p q i j
    o r a b xp py xq qy ci id cj jd in
    let h = best _ (t x c (≤ℤ_refl x) o (≤ℤ_refl c) r) (t x d (≤ℤ_refl x) o r (≤ℤ_refl d))
    (t y c o (≤ℤ_refl y) (≤ℤ_refl c) r)
    (t y d o (≤ℤ_refl y) r (≤ℤ_refl d)) in
    omega (arith, ints, h)
corner_under fine A B x y c d p i u o r a b xp py ci id best =
    let t = λ (q j : ℤ) (xq : x ≤ℤ q) (qy : q ≤ℤ y) (cj : c ≤ℤ j) (jd : j ≤ℤ d). corner_apart fine A B x y c d p q i j o
    r a b xp py xq qy ci id cj jd in
    let h = best _ (t x c (≤ℤ_refl x) o (≤ℤ_refl c) r) (t x d (≤ℤ_refl x) o r (≤ℤ_refl d))
    (t y c o (≤ℤ_refl y) (≤ℤ_refl c) r)
    (t y d o (≤ℤ_refl y) r (≤ℤ_refl d)) in
    omega (arith, ints, h)

-- the least and the greatest product
products_apart : (scale : Scale) → (A B : ℕ) (x y c d u g : ℤ) → x ≤ℤ y → c ≤ℤ d → AreSized scale A x y
    → AreSized scale B c d
    → IsAboveEachBelow u (x *ℤ c) (x *ℤ d) (y *ℤ c) (y *ℤ d) → IsBelowEachAbove g (x *ℤ c) (x *ℤ d) (y *ℤ c) (y *ℤ d)
    → g ≤ℤ (u +ℤ (((span scale) *ℤ pos A) *ℤ (d -ℤ c) +ℤ ((span scale) *ℤ pos B) *ℤ (y -ℤ x)))
products_apart scale A B x y c d u g o r a b bl bg =
    let t = λ (p i : ℤ) (xp : x ≤ℤ p) (py : p ≤ℤ y) (ci : c ≤ℤ i) (id : i ≤ℤ d). corner_under scale A B x y c d p i u o
    r a b xp py ci id bl in
    bg _ (t x c (≤ℤ_refl x) o (≤ℤ_refl c) r) (t x d (≤ℤ_refl x) o r (≤ℤ_refl d)) (t y c o (≤ℤ_refl y) (≤ℤ_refl c) r)
    (t y d o (≤ℤ_refl y) r (≤ℤ_refl d))

pub corner_sized : (scale : Scale) → (A B : ℕ) (x y c d p i : ℤ) → x ≤ℤ y → c ≤ℤ d → AreSized scale A x y
    → AreSized scale B c d → x ≤ℤ p → p ≤ℤ y → c ≤ℤ i → i
    ≤ℤ d → IsBounded (p *ℤ i) (((span scale) *ℤ pos A) *ℤ ((span scale) *ℤ pos B))
corner_sized coarse A B x y c d p i o r a b xp py ci id =
    bounded_product p i (pos 16 *ℤ pos A) (pos 16 *ℤ pos B) (omega (arith, ints, a.above, xp))
    (omega (arith, ints, a.below, py))
    (omega (arith, ints, b.above, ci)) (omega (arith, ints, b.below, id))
corner_sized fine A B x y c d p i o r a b xp py ci id =
    bounded_product p i (pos (2 ^ 24) *ℤ pos A) (pos (2 ^ 24) *ℤ pos B) (omega (arith, ints, a.above, xp))
    (omega (arith, ints, a.below, py))
    (omega (arith, ints, b.above, ci)) (omega (arith, ints, b.below, id))

pub span_natural : (scale : Scale) → pos 0 ≤ℤ (span scale)
span_natural coarse = omega (arith, ints)
span_natural fine = omega (arith, ints)

-- both endpoints lie in their range
pub first_in : (scale : Scale) → (a b : ℤ) (s k w : ℕ) (x y : ℤ) → AreKept scale a b s k w x y
    → LiesIn (span scale) a b x
first_in scale a b s k w x y h = record { from = h.above; to = omega (arith, ints, h.ordered, h.below) }

pub last_in : (scale : Scale) → (a b : ℤ) (s k w : ℕ) (x y : ℤ) → AreKept scale a b s k w x y
    → LiesIn (span scale) a b y
last_in scale a b s k w x y h = record { from = omega (arith, ints, h.ordered, h.above); to = h.below }

-- the least and the greatest product lie in the range of the bounds' product
product_low : (scale : Scale) → (a b a' b' : ℤ) (s t s' t' w : ℕ) (x y c d u : ℤ) → AreKept scale a b s t w x y
    → AreKept scale a' b' s' t' w c d
    → IsAboveEachBelow u (x *ℤ c) (x *ℤ d) (y *ℤ c) (y *ℤ d)
    → (((floor_of_product (least_corner a b a' b') *ℤ pos (2 ^ 32)) *ℤ (span scale)) *ℤ (span scale)) ≤ℤ u
product_low scale a b a' b' s t s' t' w x y c d u m n best =
    let f = first_in scale a b s t w x y m in
    let g = last_in scale a b s t w x y m in
    let f' = first_in scale a' b' s' t' w c d n in
    let g' = last_in scale a' b' s' t' w c d n in
    let o = span_natural scale in
    best _ (corner_below (span scale) a b a' b' x c o f f') (corner_below (span scale) a b a' b' x d o f g')
    (corner_below (span scale) a b a' b' y c o g f')
    (corner_below (span scale) a b a' b' y d o g g')

product_high : (scale : Scale) → (a b a' b' : ℤ) (s t s' t' w : ℕ) (x y c d u : ℤ) → AreKept scale a b s t w x y
    → AreKept scale a' b' s' t' w c d
    → IsBelowEachAbove u (x *ℤ c) (x *ℤ d) (y *ℤ c) (y *ℤ d)
    → u ≤ℤ (((ceil_of_product (greatest_corner a b a' b') *ℤ pos (2 ^ 32)) *ℤ (span scale)) *ℤ (span scale))
product_high scale a b a' b' s t s' t' w x y c d u m n best =
    let f = first_in scale a b s t w x y m in
    let g = last_in scale a b s t w x y m in
    let f' = first_in scale a' b' s' t' w c d n in
    let g' = last_in scale a' b' s' t' w c d n in
    let o = span_natural scale in
    best _ (corner_above (span scale) a b a' b' x c o f f') (corner_above (span scale) a b a' b' x d o f g')
    (corner_above (span scale) a b a' b' y c o g f')
    (corner_above (span scale) a b a' b' y d o g g')

pub product_narrow : (scale : Scale) → (w : ℕ) (p q : Bound) (x y c d u g lo hi : ℤ) (i : Interval) → x ≤ℤ y → c ≤ℤ d
    → IsAboveEachBelow u (x *ℤ c) (x *ℤ d) (y *ℤ c) (y *ℤ d) → IsBelowEachAbove g (x *ℤ c) (x *ℤ d) (y *ℤ c) (y *ℤ d)
    → lo ≤ℤ hi → IsFloor lo u (unit scale) → IsCeiling hi g (unit scale) → ShowsEndpoints scale lo hi i
    → IsNarrow w p (between (at_scale scale x) (at_scale scale y))
    → IsNarrow w q (between (at_scale scale c) (at_scale scale d))
    → IsNarrow w (product_bound (limits_on scale) p q) i
unfolding product_bound IsNarrow
product_narrow coarse w unbounded q x y c d u g lo hi i o r bl bg e f j v h k = tt
product_narrow fine w unbounded q x y c d u g lo hi i o r bl bg e f j v h k = tt
product_narrow coarse w (bounded a b s t) unbounded x y c d u g lo hi i o r bl bg e f j v h k = tt
product_narrow fine w (bounded a b s t) unbounded x y c d u g lo hi i o r bl bg e f j v h k = tt
product_narrow coarse w (bounded a b s t) (bounded a' b' s' t') x y c d u g lo hi i o r bl bg e f j v h k =
    let m = kept_of coarse a b s t w x y h in
    let n = kept_of coarse a' b' s' t' w c d k in
    let A = range_size a b in
    let B = range_size a' b' in
    limited_narrow coarse _ _ _ _ _ w lo hi i (λ l. ltb-true _ _ (both _ _ l).0)
    (rounded_kept coarse _ _ A B s t s' t' w _ _ (y -ℤ x) (d -ℤ c) u g lo hi e f j
    (product_low coarse a b a' b' s t s' t' w x y c d u m n bl)
    (product_high coarse a b a' b' s t s' t' w x y c d g m n bg)
    (products_apart coarse A B x y c d u g o r (sized coarse a b s t w x y m) (sized coarse a' b' s' t' w c d n) bl bg)
    m.close n.close
    (ceil_above _ (2 ^ 32 - 1)) (ceil_above _ (2 ^ 32 - 1))) v
product_narrow fine w (bounded a b s t) (bounded a' b' s' t') x y c d u g lo hi i o r bl bg e f j v h k =
    let m = kept_of fine a b s t w x y h in
    let n = kept_of fine a' b' s' t' w c d k in
    let A = range_size a b in
    let B = range_size a' b' in
    limited_narrow fine _ _ _ _ _ w lo hi i (λ l. ltb-true _ _ (both _ _ l).0)
    (rounded_kept fine _ _ A B s t s' t' w _ _ (y -ℤ x) (d -ℤ c) u g lo hi e f j
    (product_low fine a b a' b' s t s' t' w x y c d u m n bl)
    (product_high fine a b a' b' s t s' t' w x y c d g m n bg)
    (products_apart fine A B x y c d u g o r (sized fine a b s t w x y m) (sized fine a' b' s' t' w c d n) bl bg)
    m.close n.close (ceil_above _ (2 ^ 32 - 1))
    (ceil_above _ (2 ^ 32 - 1))) v

pub product_of_all : (scale : Scale) → (w : ℕ) (x y : Bound) (i : Interval) → IsNarrow w x everything
    → IsNarrow w (product_bound (limits_on scale) x y) i
unfolding product_bound IsNarrow
product_of_all scale w unbounded y i h = tt
product_of_all scale w (bounded a b s k) y i h = absurd h

pub product_with_all : (scale : Scale) → (w : ℕ) (x y : Bound) (i : Interval) → IsNarrow w y everything
    → IsNarrow w (product_bound (limits_on scale) x y) i
unfolding product_bound IsNarrow
product_with_all scale w unbounded y i h = tt
product_with_all scale w (bounded a b s k) unbounded i h = tt
product_with_all scale w (bounded a b s k) (bounded c d t m) i h = absurd h

-- ---- squares
rising_square : (x y a : ℤ) → x ≤ℤ y → y ≤ℤ a → (y *ℤ y) ≤ℤ (x *ℤ x +ℤ (a *ℤ (y -ℤ x) +ℤ a *ℤ (y -ℤ x)))
rising_square x y a h k =
    le_by (x ∷ y ∷ a ∷ []) ((at 0 ≼ at 1) ∷ (at 1 ≼ at 2) ∷ []) (at 1 ⊗ at 1)
    (at 0 ⊗ at 0 ⊕ (at 2 ⊗ (at 1 ⊖ at 0) ⊕ at 2 ⊗ (at 1 ⊖ at 0)))
    (known 0 ⊠ (known 1 ⊞ known 1 ⊞ known 0)) refl (h, (k, tt))

falling_square : (x y a : ℤ) → x ≤ℤ y → (pos 0 -ℤ a) ≤ℤ x → (x *ℤ x) ≤ℤ (y *ℤ y +ℤ (a *ℤ (y -ℤ x) +ℤ a *ℤ (y -ℤ x)))
falling_square x y a h k =
    le_by (x ∷ y ∷ a ∷ []) ((at 0 ≼ at 1) ∷ (lit (pos 0) ⊖ at 2 ≼ at 0) ∷ []) (at 0 ⊗ at 0)
    (at 1 ⊗ at 1 ⊕ (at 2 ⊗ (at 1 ⊖ at 0) ⊕ at 2 ⊗ (at 1 ⊖ at 0)))
    (known 0 ⊠ (known 1 ⊞ known 1 ⊞ known 0)) refl (h, (k, tt))

low_square : (x y a : ℤ) → x ≤ℤ pos 0 → pos 0 ≤ℤ y → (pos 0 -ℤ a) ≤ℤ x
    → (x *ℤ x) ≤ℤ (pos 0 +ℤ (a *ℤ (y -ℤ x) +ℤ a *ℤ (y -ℤ x)))
low_square x y a h k l =
    le_by (x ∷ y ∷ a ∷ []) ((at 0 ≼ lit (pos 0)) ∷ (lit (pos 0) ≼ at 1) ∷ (lit (pos 0) ⊖ at 2 ≼ at 0) ∷ [])
    (at 0 ⊗ at 0)
    (lit (pos 0) ⊕ (at 2 ⊗ (at 1 ⊖ at 0) ⊕ at 2 ⊗ (at 1 ⊖ at 0)))
    (naturally 2 ⊠ (known 2 ⊞ known 0) ⊠ known 1 ⊞ known 0 ⊠ known 2 ⊞ known 0 ⊠ (known 2 ⊞ known 0)) refl
    (h, (k, (l, tt)))

high_square : (x y a : ℤ) → x ≤ℤ pos 0 → pos 0 ≤ℤ y → y ≤ℤ a → (y *ℤ y) ≤ℤ (pos 0 +ℤ (a *ℤ (y -ℤ x) +ℤ a *ℤ (y -ℤ x)))
high_square x y a h k l =
    le_by (x ∷ y ∷ a ∷ []) ((at 0 ≼ lit (pos 0)) ∷ (lit (pos 0) ≼ at 1) ∷ (at 1 ≼ at 2) ∷ []) (at 1 ⊗ at 1)
    (lit (pos 0) ⊕ (at 2 ⊗ (at 1 ⊖ at 0) ⊕ at 2 ⊗ (at 1 ⊖ at 0)))
    (known 1 ⊠ known 2 ⊞ known 1 ⊠ (known 2 ⊞ known 1) ⊞ naturally 2 ⊠ (known 2 ⊞ known 1) ⊠ known 0) refl
    (h, (k, (l, tt)))

self_square : (z d : ℤ) → pos 0 ≤ℤ d → z ≤ℤ (z +ℤ d)
self_square z d h = omega (arith, ints, h)

allowed : (a w : ℤ) → pos 0 ≤ℤ a → pos 0 ≤ℤ w → pos 0 ≤ℤ (a *ℤ w +ℤ a *ℤ w)
allowed a w h k = le_by (a ∷ w ∷ []) ((lit (pos 0) ≼ at 0) ∷ (lit (pos 0) ≼ at 1) ∷ []) (lit (pos 0))
    (at 0 ⊗ at 1 ⊕ at 0 ⊗ at 1)
    (naturally 2 ⊠ known 0 ⊠ known 1) refl (h, (k, tt))

-- the least square is not below 0, and the squares of the endpoints are no further above it than the width allows
pub record AreSquares (x y a u : ℤ) : Type 0 where
  pub natural : pos 0 ≤ℤ u
  pub first : (x *ℤ x) ≤ℤ (u +ℤ (a *ℤ (y -ℤ x) +ℤ a *ℤ (y -ℤ x)))
  pub second : (y *ℤ y) ≤ℤ (u +ℤ (a *ℤ (y -ℤ x) +ℤ a *ℤ (y -ℤ x)))

pub by_sign : (x y a : ℤ) (p q : Bool) → p ≡ int_le (pos 0) x → q ≡ int_le y (pos 0) → x ≤ℤ y → (pos 0 -ℤ a) ≤ℤ x
    → y ≤ℤ a
    → AreSquares x y a (cond p (x *ℤ x) (cond q (y *ℤ y) (pos 0)))
by_sign x y a true q e f o l u = record {
  natural = square_nonneg x;
  first = self_square _ _ (allowed a (y -ℤ x) (omega (arith, ints, o, l, u)) (omega (arith, ints, o)));
  second = rising_square x y a o u;
}
by_sign x y a false true e f o l u = record {
  natural = square_nonneg y;
  first = falling_square x y a o l;
  second = self_square _ _ (allowed a (y -ℤ x) (omega (arith, ints, o, l, u)) (omega (arith, ints, o)));
}
by_sign x y a false false e f o l u =
    let m : x ≤ℤ pos 0 = not_below (pos 0) x (sym e) in
    let n : pos 0 ≤ℤ y = not_below y (pos 0) (sym f) in
    record { natural = ≤ℤ_refl (pos 0); first = low_square x y a m n l; second = high_square x y a m n u }
  where
    not_below : (p q : ℤ) → int_le p q ≡ false → q ≤ℤ p
    not_below p q g = omega (arith, ints, g)

-- the least square is at least what each square is at least
least_of_squares : (x y u z : ℤ) (p q : Bool) → p ≡ int_le (pos 0) x → q ≡ int_le y (pos 0) → x ≤ℤ y
    → u ≡ cond p (x *ℤ x) (cond q (y *ℤ y) (pos 0))
    → ((v : ℤ) → x ≤ℤ v → v ≤ℤ y → z ≤ℤ (v *ℤ v)) → z ≤ℤ u
least_of_squares x y u z true q e f o h k = rw h (k x (≤ℤ_refl x) o)
least_of_squares x y u z false true e f o h k = rw h (k y o (≤ℤ_refl y))
least_of_squares x y u z false false e f o h k = rw h (k (pos 0) (omega (arith, ints, e)) (omega (arith, ints, f)))

-- the least and the greatest square lie in the range of the bound's square
square_low : (scale : Scale) → (a b : ℤ) (s t w : ℕ) (x y u : ℤ) → AreKept scale a b s t w x y → u ≡ least_square_of x y
    → (((floor_of_product (least_square a b) *ℤ pos (2 ^ 32)) *ℤ (span scale)) *ℤ (span scale)) ≤ℤ u
square_low scale a b s t w x y u m e =
    least_of_squares x y u _ (int_le (pos 0) x) (int_le y (pos 0)) refl refl m.ordered e
    (λ v l r. square_below (span scale) a b v (span_natural scale)
    (record { from = omega (arith, ints, m.above, l); to = omega (arith, ints, m.below, r) }))

pub square_narrow : (scale : Scale) → (w : ℕ) (p : Bound) (x y u g lo hi : ℤ) (i : Interval) → x ≤ℤ y
    → u ≡ least_square_of x y
    → ((z : ℤ) → (x *ℤ x) ≤ℤ z → (y *ℤ y) ≤ℤ z → g ≤ℤ z)
    → lo ≤ℤ hi → IsFloor lo u (unit scale) → IsCeiling hi g (unit scale) → ShowsEndpoints scale lo hi i
    → IsNarrow w p (between (at_scale scale x) (at_scale scale y)) → IsNarrow w (power_bound (limits_on scale) p 2) i
unfolding power_bound IsNarrow
square_narrow coarse w unbounded x y u g lo hi i o e best r f j v h = tt
square_narrow fine w unbounded x y u g lo hi i o e best r f j v h = tt
square_narrow coarse w (bounded a b s t) x y u g lo hi i o e best r f j v h =
    let m = kept_of coarse a b s t w x y h in
    let A = range_size a b in
    let z = sized coarse a b s t w x y m in
    let q : AreSquares x y (pos 16 *ℤ pos A) u =
    rw e (by_sign x y (pos 16 *ℤ pos A) (int_le (pos 0) x) (int_le y (pos 0)) refl refl o z.above z.below) in
    limited_narrow coarse _ _ _ _ _ w lo hi i (λ l. ltb-true _ _ (both _ _ l).0)
    (rounded_kept coarse _ _ A A s t s t w _ _ (y -ℤ x) (y -ℤ x) u g lo hi r f j (square_low coarse a b s t w x y u m e)
    (best _ (square_above (span coarse) a b x (span_natural coarse) (first_in coarse a b s t w x y m))
    (square_above (span coarse) a b y (span_natural coarse) (last_in coarse a b s t w x y m)))
    (best _ q.first q.second) m.close m.close (ceil_above _ (2 ^ 32 - 1)) (ceil_above _ (2 ^ 32 - 1))) v
square_narrow fine w (bounded a b s t) x y u g lo hi i o e best r f j v h =
    let m = kept_of fine a b s t w x y h in
    let A = range_size a b in
    let z = sized fine a b s t w x y m in
    let q : AreSquares x y (pos (2 ^ 24) *ℤ pos A) u =
    rw e (by_sign x y (pos (2 ^ 24) *ℤ pos A) (int_le (pos 0) x) (int_le y (pos 0)) refl refl o z.above
    z.below) in
    limited_narrow fine _ _ _ _ _ w lo hi i (λ l. ltb-true _ _ (both _ _ l).0)
    (rounded_kept fine _ _ A A s t s t w _ _ (y -ℤ x) (y -ℤ x) u g lo hi r f j (square_low fine a b s t w x y u m e)
    (best _ (square_above (span fine) a b x (span_natural fine) (first_in fine a b s t w x y m))
    (square_above (span fine) a b y (span_natural fine) (last_in fine a b s t w x y m)))
    (best _ q.first q.second) m.close m.close (ceil_above _ (2 ^ 32 - 1)) (ceil_above _ (2 ^ 32 - 1))) v

pub square_of_all : (scale : Scale) → (w : ℕ) (x : Bound) (i : Interval) → IsNarrow w x everything
    → IsNarrow w (power_bound (limits_on scale) x 2) i
unfolding power_bound IsNarrow
square_of_all scale w unbounded i h = tt
square_of_all scale w (bounded a b s k) i h = absurd h
