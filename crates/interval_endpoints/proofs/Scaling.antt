-- Fractions, and products with fractions, at a scale: endpoints rounded outwards hold them and keep a bound. The
-- endpoints are two quotients of whole numbers (`AreScaled` names all that the code computes, `AreProducts` what
-- matters of it). That they hold is multiplying out; that they keep a bound is done in whole numbers: the width by
-- `close_z`, the range by the quotients of the range's own endpoints. Numerators and products that the limits allow fit
-- in 128 bits; beyond them nothing is promised.
use Rattle.interval_endpoints.specs.Scales.{Scale, coarse, fine, at_scale, unit, limits_on, span, spans, grain, slack}
use Rattle.interval_endpoints.specs.Scales.{most_numerator, most_product}
use Rattle.std.proofs.Common.{◌≡◌, ℕ, suc, ◌+◌, ◌*◌, ◌^◌, ◌-◌, ◌≤◌, ◌<◌, refl, sym, arith, Bool, true, false, ◌&&◌, ℤ}
use Rattle.std.proofs.Common.{pos, ◌+ℤ◌, ◌*ℤ◌, ◌-ℤ◌, ◌≤ℤ◌, ◌<ℤ◌, [], ◌∷◌, SFits}
use Rattle.std.specs.Int.{w128}
use lib.IntN.{neg_ℤ}
use Rattle.std.specs.Prelude.{unsigned_abs, nat_lt}
use Rattle.std.specs.Int.{int_min, int_max}
use Rattle.std.proofs.lemmas.Int.{ints, clamps, by_lt_z}
use Rattle.std.proofs.lemmas.Bool.{ltb-true}
use Rattle.std.specs.Int.Signed.{le_z_yes}
use Rattle.book_model.specs.Fraction.{Fraction, ◌≤F◌, times, floor_quotient}
use Rattle.book_model.specs.Interval.{Interval, everything, between, ◌⊆◌, product}
use Rattle.book_model.proofs.Ring.{at, lit, ◌⊕◌, ◌⊖◌, ◌⊗◌, minus}
use Rattle.book_model.proofs.Bounds.{◌≼◌, known, ◌⊞◌, ◌⊠◌, times as naturally, le_by, le_over, refute, pos_nonneg}
use Rattle.book_model.proofs.Fractions.{by_cross, den_product}
use Rattle.book_model.proofs.Intervals.{within_trans, least_is, greatest_is}
use Rattle.book_model.specs.numbers.Bounds.{Bound, unbounded, bounded, range_size, ceil_div, floor_at_32, ceil_at_32}
use Rattle.book_model.specs.numbers.Bounds.{limited, ceil_quotient, scaled_within, scaled_bound, constant_bound}
use Rattle.book_model.specs.numbers.Bounds.{IsNarrow}
use Rattle.int_division.specs.Rounding.{IsFloor, IsCeiling, AreSorted}
use Rattle.interval_endpoints.specs.Rounding.{ShowsEndpoints}
use Rattle.int_division.proofs.Quotients.{next_le, ≤ℤ_trans, outward_order, sorted_order, floor_quotient_floor}
use Rattle.interval_endpoints.proofs.Keeping.{AreKept, kept_of, kept_within, limited_narrow, both}

-- ---- fractions
-- what an unreduced fraction is at the scale
constant_above : (scale : Scale) → (f : Fraction) (m q : ℤ) → m ≡ f.num *ℤ (unit scale) → (q *ℤ pos (suc f.below)) ≤ℤ m
    → at_scale scale q ≤F f
constant_above coarse f m q e h = by_cross (at_scale coarse q) f (pos (2 ^ 36)) (pos (suc f.below)) refl refl
    (rw e at h)
constant_above fine f m q e h = by_cross (at_scale fine q) f (pos (2 ^ 56)) (pos (suc f.below)) refl refl (rw e at h)

-- the same from above
constant_below : (scale : Scale) → (f : Fraction) (m q : ℤ) → m ≡ f.num *ℤ (unit scale) → m ≤ℤ (q *ℤ pos (suc f.below))
    → f ≤F at_scale scale q
constant_below coarse f m q e h = by_cross f (at_scale coarse q) (pos (suc f.below)) (pos (2 ^ 36)) refl refl
    (rw e at h)
constant_below fine f m q e h = by_cross f (at_scale fine q) (pos (suc f.below)) (pos (2 ^ 56)) refl refl (rw e at h)

-- endpoints rounded outwards hold a fraction
pub constant_encloses : (scale : Scale) → (f : Fraction) (m lo hi d : ℤ) (i : Interval) → m ≡ f.num *ℤ (unit scale)
    → d ≡ pos (f.below + 1) → IsFloor lo m d
    → IsCeiling hi m d → ShowsEndpoints scale lo hi i → between f f ⊆ i
constant_encloses coarse f m lo hi d i em ed l u k =
    let e : d ≡ pos (suc f.below) = omega (arith, ints) in
    let a = rw e at l in
    let b = rw e at u in
    within_trans
    (record {
      endpoints = (
        constant_above coarse f m lo em a.not_above,
        constant_below coarse f m hi em
            b.not_below,
      );
    }) (kept_within coarse lo hi i k)
constant_encloses fine f m lo hi d i em ed l u k =
    let e : d ≡ pos (suc f.below) = omega (arith, ints) in
    let a = rw e at l in
    let b = rw e at u in
    within_trans
    (record { endpoints = (constant_above fine f m lo em a.not_above, constant_below fine f m hi em b.not_below) })
    (kept_within fine lo hi i k)

-- a quotient at a coarser scale is not above
finer_z : (scale : Scale) → (n d q r : ℤ) → (q *ℤ d) ≤ℤ (n *ℤ pos (2 ^ 32))
    → ((n *ℤ (unit scale)) +ℤ pos 1) ≤ℤ (r *ℤ d +ℤ d) → pos 0 ≤ℤ d → (r +ℤ pos 1)
    ≤ℤ (q *ℤ (span scale)) → ⊥
finer_z coarse n d q r h0 h1 h2 k =
    let vn = at 0 in
    let vd = at 1 in
    let vq = at 2 in
    let vr = at 3 in
    let t = λ (k : ℕ). lit (pos (2 ^ k)) in
    let one = lit (pos 1) in
    refute (n ∷ d ∷ q ∷ r ∷ []) ((vq ⊗ vd ≼ vn ⊗ t 32) ∷ (vn ⊗ t 36 ⊕ one ≼ vr ⊗ vd ⊕ vd) ∷ (lit (pos 0) ≼ vd)
    ∷ (vr ⊕ one ≼ vq ⊗ t 4) ∷ [])
    (naturally (2 ^ 4) ⊠ known 0 ⊞ known 1 ⊞ known 3 ⊠ known 2) refl (h0, (h1, (h2, (k, tt))))
finer_z fine n d q r h0 h1 h2 k =
    let vn = at 0 in
    let vd = at 1 in
    let vq = at 2 in
    let vr = at 3 in
    let t = λ (k : ℕ). lit (pos (2 ^ k)) in
    let one = lit (pos 1) in
    refute (n ∷ d ∷ q ∷ r ∷ []) ((vq ⊗ vd ≼ vn ⊗ t 32) ∷ (vn ⊗ t 56 ⊕ one ≼ vr ⊗ vd ⊕ vd) ∷ (lit (pos 0) ≼ vd)
    ∷ (vr ⊕ one ≼ vq ⊗ t 24) ∷ [])
    (naturally (2 ^ 24) ⊠ known 0 ⊞ known 1 ⊞ known 3 ⊠ known 2) refl (h0, (h1, (h2, (k, tt))))

-- a quotient at a finer scale is not below
finer : (scale : Scale) → (n d q r : ℤ) → (q *ℤ d) ≤ℤ (n *ℤ pos (2 ^ 32))
    → ((n *ℤ (unit scale)) +ℤ pos 1) ≤ℤ (r *ℤ d +ℤ d) → pos 0 ≤ℤ d → (q *ℤ (span scale))
    ≤ℤ r
finer coarse n d q r h0 h1 h2 = by_lt_z r (q *ℤ pos (2 ^ 4))
    (λ k. absurd (finer_z coarse n d q r h0 h1 h2 (next_le _ _ k))) (λ h. h)
finer fine n d q r h0 h1 h2 = by_lt_z r (q *ℤ pos (2 ^ 24))
    (λ k. absurd (finer_z fine n d q r h0 h1 h2 (next_le _ _ k))) (λ h. h)

-- the quotients rounded down and up are not 2 apart
close_by_one : (n d lo hi : ℤ) → (hi *ℤ d +ℤ pos 1) ≤ℤ (n +ℤ d) → (n +ℤ pos 1) ≤ℤ (lo *ℤ d +ℤ d) → pos 0 ≤ℤ d
    → (lo +ℤ pos 2) ≤ℤ hi → ⊥
close_by_one n d lo hi h0 h1 h2 k =
    refute (n ∷ d ∷ lo ∷ hi ∷ []) ((at 3 ⊗ at 1 ⊕ lit (pos 1) ≼ at 0 ⊕ at 1) ∷ (at 0 ⊕ lit (pos 1) ≼ at 2 ⊗ at 1 ⊕ at 1)
    ∷ (lit (pos 0) ≼ at 1) ∷
    (at 2 ⊕ lit (pos 2) ≼ at 3) ∷ [])
    (known 0 ⊞ known 1 ⊞ known 3 ⊠ known 2 ⊞ naturally 1) refl (h0, (h1, (h2, (k, tt))))

-- a quotient rounded up is the opposite of one rounded down
flip_ceiling : (hi d g : ℤ) → (hi *ℤ d +ℤ pos 1) ≤ℤ (g +ℤ d) → ((pos 0 -ℤ g) +ℤ pos 1) ≤ℤ ((pos 0 -ℤ hi) *ℤ d +ℤ d)
flip_ceiling hi d g h = le_by (hi ∷ d ∷ g ∷ []) ((at 0 ⊗ at 1 ⊕ lit (pos 1) ≼ at 2 ⊕ at 1) ∷ [])
    ((lit (pos 0) ⊖ at 2) ⊕ lit (pos 1))
    ((lit (pos 0) ⊖ at 0) ⊗ at 1 ⊕ at 1) (known 0) refl (h, tt)

-- endpoints rounded outwards keep the bound of a fraction
constant_kept : (scale : Scale) → (f : Fraction) (w : ℕ) (m lo hi : ℤ) → m ≡ f.num *ℤ (unit scale)
    → IsFloor lo m (pos (suc f.below))
    → IsCeiling hi m (pos (suc f.below))
    → AreKept scale (floor_at_32 f) (ceil_at_32 f) 0 ((slack scale)) w lo hi
constant_kept coarse f w m lo hi e l c =
    let one : pos 0 <ℤ pos (suc f.below) = omega (arith, ints) in
    let a = floor_quotient_floor (f.num *ℤ pos (2 ^ 32)) f.below in
    let b = floor_quotient_floor (neg_ℤ (f.num *ℤ pos (2 ^ 32))) f.below in
    let g : (m +ℤ pos 1) ≤ℤ (lo *ℤ pos (suc f.below) +ℤ pos (suc f.below)) = next_le _ _ l.close in
    let u : (hi *ℤ pos (suc f.below) +ℤ pos 1) ≤ℤ (m +ℤ pos (suc f.below)) = next_le _ _ c.close in
    let low = finer coarse f.num (pos (suc f.below)) _ lo a.not_above (rw e at g) (pos_nonneg (suc f.below)) in
    let v = flip_ceiling hi (pos (suc f.below)) m u in
    let high = finer coarse (pos 0 -ℤ f.num) (pos (suc f.below))
    (floor_quotient (neg_ℤ (f.num *ℤ pos (2 ^ 32))) f.below) (pos 0 -ℤ hi)
    (omega (arith, ints, b.not_above)) (omega (arith, ints)) (pos_nonneg (suc f.below)) in
    let near : hi ≤ℤ (lo +ℤ pos 1) = by_lt_z (lo +ℤ pos 1) hi
    (λ k. absurd (close_by_one m (pos (suc f.below)) lo hi u g (pos_nonneg (suc f.below)) (omega (arith, ints))))
    (λ h. h) in
    record {
      ordered = outward_order m m (pos (suc f.below)) lo hi (omega (arith, ints)) l c one;
      above = low;
      below = omega (arith, ints, high);
      close = omega (arith, ints, near);
    }
constant_kept fine f w m lo hi e l c =
    let one : pos 0 <ℤ pos (suc f.below) = omega (arith, ints) in
    let a = floor_quotient_floor (f.num *ℤ pos (2 ^ 32)) f.below in
    let b = floor_quotient_floor (neg_ℤ (f.num *ℤ pos (2 ^ 32))) f.below in
    let g : (m +ℤ pos 1) ≤ℤ (lo *ℤ pos (suc f.below) +ℤ pos (suc f.below)) = next_le _ _ l.close in
    let u : (hi *ℤ pos (suc f.below) +ℤ pos 1) ≤ℤ (m +ℤ pos (suc f.below)) = next_le _ _ c.close in
    let low = finer fine f.num (pos (suc f.below)) _ lo a.not_above (rw e at g) (pos_nonneg (suc f.below)) in
    let v = flip_ceiling hi (pos (suc f.below)) m u in
    let high = finer fine (pos 0 -ℤ f.num) (pos (suc f.below)) (floor_quotient (neg_ℤ (f.num *ℤ pos (2 ^ 32))) f.below)
    (pos 0 -ℤ hi)
    (omega (arith, ints, b.not_above)) (omega (arith, ints)) (pos_nonneg (suc f.below)) in
    let near : hi ≤ℤ (lo +ℤ pos 1) = by_lt_z (lo +ℤ pos 1) hi
    (λ k. absurd (close_by_one m (pos (suc f.below)) lo hi u g (pos_nonneg (suc f.below)) (omega (arith, ints))))
    (λ h. h) in
    record {
      ordered = outward_order m m (pos (suc f.below)) lo hi (omega (arith, ints)) l c one;
      above = low;
      below = omega (arith, ints, high);
      close = omega (arith, ints, near);
    }

-- what 64 bits show of a fraction keeps its bound
pub constant_narrow : (scale : Scale) → (f : Fraction) (w : ℕ) (m lo hi d : ℤ) (i : Interval)
    → m ≡ f.num *ℤ (unit scale) → d ≡ pos (f.below + 1)
    → IsFloor lo m d → IsCeiling hi m d → ShowsEndpoints scale lo hi i
    → IsNarrow w (constant_bound (limits_on scale) f) i
unfolding constant_bound
constant_narrow coarse f w m lo hi d i e ed l u k =
    let ds : d ≡ pos (suc f.below) = omega (arith, ints) in
    limited_narrow coarse _ _ _ _ _ _ lo hi i (λ t. ltb-true _ _ (both _ _ t).1)
    (constant_kept coarse f w m lo hi e (rw ds at l) (rw ds at u)) k
constant_narrow fine f w m lo hi d i e ed l u k =
    let ds : d ≡ pos (suc f.below) = omega (arith, ints) in
    limited_narrow fine _ _ _ _ _ _ lo hi i (λ t. ltb-true _ _ (both _ _ t).1)
    (constant_kept fine f w m lo hi e (rw ds at l) (rw ds at u)) k

-- numerators that the limits allow fit
constant_small : (scale : Scale) → (n : ℤ) → unsigned_abs n < (most_numerator scale) → SFits w128 (n *ℤ (unit scale))
constant_small coarse n h = omega (arith, ints)
constant_small fine n h = omega (arith, ints)

-- where a numerator is too great, no bound is promised
pub constant_overflow : (scale : Scale) → (f : Fraction) (w : ℕ) → (SFits w128 (f.num *ℤ (unit scale)) → ⊥)
    → IsNarrow w (constant_bound (limits_on scale) f) everything
unfolding constant_bound IsNarrow
constant_overflow coarse f w n = by_test _ refl
  where
    by_test : (t : Bool)
        → t ≡ (nat_lt (unsigned_abs f.num) (2 ^ 90) && nat_lt (range_size (floor_at_32 f) (ceil_at_32 f)) (2 ^ 58))
        → IsNarrow w (limited t (bounded (floor_at_32 f) (ceil_at_32 f) 0 (2 ^ 28))) everything
    by_test false e = tt
    by_test true e = absurd (n (constant_small coarse f.num (ltb-true _ _ (both _ _ (sym e)).0)))
constant_overflow fine f w n = by_test _ refl
  where
    by_test : (t : Bool)
        → t ≡ (nat_lt (unsigned_abs f.num) (2 ^ 70) && nat_lt (range_size (floor_at_32 f) (ceil_at_32 f)) (2 ^ 100))
        → IsNarrow w (limited t (bounded (floor_at_32 f) (ceil_at_32 f) 0 (2 ^ 8))) everything
    by_test false e = tt
    by_test true e = absurd (n (constant_small fine f.num (ltb-true _ _ (both _ _ (sym e)).0)))

-- ---- products with fractions
-- |x| ≤ a, |y| ≤ b
pub bounded_z : (x y a b : ℤ) → x ≤ℤ a → (pos 0 -ℤ a) ≤ℤ x → y ≤ℤ b → (pos 0 -ℤ b) ≤ℤ y → ((x *ℤ y) ≤ℤ (a *ℤ b))
    × ((pos 0 -ℤ a *ℤ b) ≤ℤ (x *ℤ y))
bounded_z x y a b h0 h1 h2 h3 =
    let vx = at 0 in
    let vy = at 1 in
    let va = at 2 in
    let vb = at 3 in
    let z = lit (pos 0) in (
      le_over (x ∷ y ∷ a ∷ b ∷ []) ((vx ≼ va) ∷ (z ⊖ va ≼ vx) ∷ (vy ≼ vb) ∷ (z ⊖ vb ≼ vy) ∷ []) (lit (pos 2)) (vx ⊗ vy)
          (va ⊗ vb)
          (known 0 ⊠ known 3 ⊞ known 1 ⊠ known 2) refl (le_z_yes tt) (h0, (h1, (h2, (h3, tt)))),
      le_over (x ∷ y ∷ a ∷ b ∷ []) ((vx ≼ va) ∷ (z ⊖ va ≼ vx) ∷ (vy ≼ vb) ∷ (z ⊖ vb ≼ vy) ∷ []) (lit (pos 2))
          (z ⊖ va ⊗ vb) (vx ⊗ vy)
          (known 0 ⊠ known 2 ⊞ known 1 ⊠ known 3) refl (le_z_yes tt) (h0, (h1, (h2, (h3, tt)))),
    )

-- the same inequality with the scale
frac_z : (q a n d k : ℤ) → pos 0 ≤ℤ k → (q *ℤ d) ≤ℤ (a *ℤ n) → (q *ℤ (k *ℤ d)) ≤ℤ ((a *ℤ n) *ℤ k)
frac_z q a n d k p h = le_by (q ∷ a ∷ n ∷ d ∷ k ∷ []) ((lit (pos 0) ≼ at 4) ∷ (at 0 ⊗ at 3 ≼ at 1 ⊗ at 2) ∷ [])
    (at 0 ⊗ (at 4 ⊗ at 3)) ((at 1 ⊗ at 2) ⊗ at 4)
    (known 1 ⊠ known 0) refl (p, (h, tt))

-- the same inequality with the scale
frac_under_z : (q a n d k : ℤ) → pos 0 ≤ℤ k → (a *ℤ n) ≤ℤ (q *ℤ d) → ((a *ℤ n) *ℤ k) ≤ℤ (q *ℤ (k *ℤ d))
frac_under_z q a n d k p h = le_by (q ∷ a ∷ n ∷ d ∷ k ∷ []) ((lit (pos 0) ≼ at 4) ∷ (at 1 ⊗ at 2 ≼ at 0 ⊗ at 3) ∷ [])
    ((at 1 ⊗ at 2) ⊗ at 4)
    (at 0 ⊗ (at 4 ⊗ at 3)) (known 1 ⊠ known 0) refl (p, (h, tt))

-- a number at the scale that is at most a product
times_above : (scale : Scale) → (q a : ℤ) (f : Fraction) → (q *ℤ pos (suc f.below)) ≤ℤ (a *ℤ f.num)
    → at_scale scale q ≤F times (at_scale scale a) f
unfolding times
times_above coarse q a f h = by_cross (at_scale coarse q) _ (pos (2 ^ 36)) (pos (2 ^ 36) *ℤ pos (suc f.below)) refl
    (den_product (2 ^ 36 - 1) f.below)
    (frac_z q a f.num (pos (suc f.below)) (pos (2 ^ 36)) (pos_nonneg (2 ^ 36)) h)
times_above fine q a f h = by_cross (at_scale fine q) _ (pos (2 ^ 56)) (pos (2 ^ 56) *ℤ pos (suc f.below)) refl
    (den_product (2 ^ 56 - 1) f.below)
    (frac_z q a f.num (pos (suc f.below)) (pos (2 ^ 56)) (pos_nonneg (2 ^ 56)) h)

-- a number at the scale that is at least a product
times_below : (scale : Scale) → (q a : ℤ) (f : Fraction) → (a *ℤ f.num) ≤ℤ (q *ℤ pos (suc f.below))
    → times (at_scale scale a) f ≤F at_scale scale q
unfolding times
times_below coarse q a f h = by_cross _ (at_scale coarse q) (pos (2 ^ 36) *ℤ pos (suc f.below)) (pos (2 ^ 36))
    (den_product (2 ^ 36 - 1) f.below) refl
    (frac_under_z q a f.num (pos (suc f.below)) (pos (2 ^ 36)) (pos_nonneg (2 ^ 36)) h)
times_below fine q a f h = by_cross _ (at_scale fine q) (pos (2 ^ 56) *ℤ pos (suc f.below)) (pos (2 ^ 56))
    (den_product (2 ^ 56 - 1) f.below) refl
    (frac_under_z q a f.num (pos (suc f.below)) (pos (2 ^ 56)) (pos_nonneg (2 ^ 56)) h)

-- endpoints x, y and a fraction of numerator n and denominator d: their products p and q are m and g in order,
-- which are lo and hi when rounded outwards
pub record AreScaled (f : Fraction) (x y n p q m g d lo hi : ℤ) : Type 0 where
  pub numerator : n ≡ f.num
  pub first : p ≡ x *ℤ n
  pub second : q ≡ y *ℤ n
  pub denominator : d ≡ pos (f.below + 1)
  pub order : AreSorted m g p q
  pub down : IsFloor lo m d
  pub up : IsCeiling hi g d

-- the same without the names
pub record AreProducts (f : Fraction) (x y m g lo hi : ℤ) : Type 0 where
  pub order : AreSorted m g (x *ℤ f.num) (y *ℤ f.num)
  pub down : IsFloor lo m (pos (suc f.below))
  pub up : IsCeiling hi g (pos (suc f.below))

-- from the names to the numbers
pub products_of : (f : Fraction) (x y n p q m g d lo hi : ℤ) → AreScaled f x y n p q m g d lo hi
    → AreProducts f x y m g lo hi
products_of f x y n p q m g d lo hi s =
    let en = s.numerator in
    let ep = s.first in
    let eq = s.second in
    let o = s.order in
    let l = s.down in
    let u = s.up in
    let ed : d ≡ pos (suc f.below) = omega (arith, ints, s.denominator) in
    record { order = rw (ep, eq, en) at o; down = rw ed at l; up = rw ed at u }

-- endpoints rounded outwards hold the products with a fraction
pub scale_encloses : (scale : Scale) → (f : Fraction) (x y n p q m g d lo hi : ℤ) (i : Interval)
    → AreScaled f x y n p q m g d lo hi → ShowsEndpoints scale lo hi i
    → product (between (at_scale scale x) (at_scale scale y)) (between f f) ⊆ i
unfolding product
scale_encloses scale f x y n p q m g d lo hi i s k =
    let t = products_of f x y n p q m g d lo hi s in
    let la = times_above scale lo x f (≤ℤ_trans _ _ _ t.down.not_above t.order.low_first) in
    let lb = times_above scale lo y f (≤ℤ_trans _ _ _ t.down.not_above t.order.low_second) in
    let ga = times_below scale hi x f (≤ℤ_trans _ _ _ t.order.high_first t.up.not_below) in
    let gb = times_below scale hi y f (≤ℤ_trans _ _ _ t.order.high_second t.up.not_below) in
    within_trans
    (record {
      endpoints = (
        least_is (at_scale scale lo) _ _ _ _ la la lb lb,
        greatest_is (at_scale scale hi) _ _ _ _
            ga ga gb gb,
      );
    })
    (kept_within scale lo hi i k)

-- the width of a fraction of endpoints
close_z : (scale : Scale) → (N d s k w S M m g lo hi V : ℤ) → g ≤ℤ (m +ℤ N *ℤ V)
    → (V *ℤ (grain scale)) ≤ℤ (s *ℤ w +ℤ k *ℤ pos (2 ^ 40)) → (s *ℤ N) ≤ℤ (S *ℤ d)
    → (k *ℤ N) ≤ℤ (M *ℤ d)
    → (m +ℤ pos 1) ≤ℤ (lo *ℤ d +ℤ d) → (hi *ℤ d +ℤ pos 1) ≤ℤ (g +ℤ d) → pos 0 ≤ℤ N → pos 0 ≤ℤ w → pos 1 ≤ℤ d
    → ((hi -ℤ lo) *ℤ (grain scale))
    ≤ℤ (S *ℤ w +ℤ (M +ℤ (pos (2 * slack scale))) *ℤ pos (2 ^ 40))
close_z coarse N d s k w S M m g lo hi V h0 h1 h2 h3 h4 h5 h6 h7 h8 =
    let vN = at 0 in
    let vd = at 1 in
    let vs = at 2 in
    let vk = at 3 in
    let vw = at 4 in
    let vS = at 5 in
    let vM = at 6 in
    let vm = at 7 in
    let vg = at 8 in
    let vlo = at 9 in
    let vhi = at 10 in
    let vV = at 11 in
    let n = λ (k : ℕ). lit (pos (2 ^ k)) in
    le_over (N ∷ d ∷ s ∷ k ∷ w ∷ S ∷ M ∷ m ∷ g ∷ lo ∷ hi ∷ V ∷ [])
    ((vg ≼ vm ⊕ vN ⊗ vV) ∷ (vV ⊗ n 68 ≼ vs ⊗ vw ⊕ vk ⊗ n 40) ∷ (vs ⊗ vN ≼ vS ⊗ vd) ∷ (vk ⊗ vN ≼ vM ⊗ vd)
    ∷ (vm ⊕ lit (pos 1) ≼ vlo ⊗ vd ⊕ vd) ∷
    (vhi ⊗ vd ⊕ lit (pos 1) ≼ vg ⊕ vd)
    ∷ (lit (pos 0) ≼ vN) ∷ (lit (pos 0) ≼ vw) ∷ [])
    vd ((vhi ⊖ vlo) ⊗ n 68) (vS ⊗ vw ⊕ (vM ⊕ n 29) ⊗ n 40)
    (naturally (2 ^ 68) ⊠ known 0 ⊞ naturally (2 ^ 68) ⊠ known 4 ⊞ naturally (2 ^ 68) ⊠ known 5 ⊞ known 6 ⊠ known 1 ⊞
    known 7 ⊠ known 2 ⊞ naturally (2 ^ 40) ⊠
    known 3 ⊞ naturally (2 ^ 69))
    refl h8 (h0, (h1, (h2, (h3, (h4, (h5, (h6, (h7, tt))))))))
close_z fine N d s k w S M m g lo hi V h0 h1 h2 h3 h4 h5 h6 h7 h8 =
    let vN = at 0 in
    let vd = at 1 in
    let vs = at 2 in
    let vk = at 3 in
    let vw = at 4 in
    let vS = at 5 in
    let vM = at 6 in
    let vm = at 7 in
    let vg = at 8 in
    let vlo = at 9 in
    let vhi = at 10 in
    let vV = at 11 in
    let n = λ (k : ℕ). lit (pos (2 ^ k)) in
    le_over (N ∷ d ∷ s ∷ k ∷ w ∷ S ∷ M ∷ m ∷ g ∷ lo ∷ hi ∷ V ∷ [])
    ((vg ≼ vm ⊕ vN ⊗ vV) ∷ (vV ⊗ n 48 ≼ vs ⊗ vw ⊕ vk ⊗ n 40) ∷ (vs ⊗ vN ≼ vS ⊗ vd) ∷ (vk ⊗ vN ≼ vM ⊗ vd)
    ∷ (vm ⊕ lit (pos 1) ≼ vlo ⊗ vd ⊕ vd) ∷
    (vhi ⊗ vd ⊕ lit (pos 1) ≼ vg ⊕ vd)
    ∷ (lit (pos 0) ≼ vN) ∷ (lit (pos 0) ≼ vw) ∷ [])
    vd ((vhi ⊖ vlo) ⊗ n 48) (vS ⊗ vw ⊕ (vM ⊕ n 9) ⊗ n 40)
    (naturally (2 ^ 48) ⊠ known 0 ⊞ naturally (2 ^ 48) ⊠ known 4 ⊞ naturally (2 ^ 48) ⊠ known 5 ⊞ known 6 ⊠ known 1 ⊞
    known 7 ⊠ known 2 ⊞ naturally (2 ^ 40) ⊠
    known 3 ⊞ naturally (2 ^ 49))
    refl h8 (h0, (h1, (h2, (h3, (h4, (h5, (h6, (h7, tt))))))))

-- a rounded quotient is not far below
above_z : (P Z d m lo : ℤ) → P ≤ℤ (Z *ℤ d) → (pos 0 -ℤ P) ≤ℤ m → (m +ℤ pos 1) ≤ℤ (lo *ℤ d +ℤ d) → pos 0 ≤ℤ d
    → (lo +ℤ pos 1) ≤ℤ (pos 0 -ℤ Z) → ⊥
above_z P Z d m lo h0 h1 h2 h3 n =
    let vP = at 0 in
    let vZ = at 1 in
    let vd = at 2 in
    let vm = at 3 in
    let vlo = at 4 in
    let z = lit (pos 0) in
    let one = lit (pos 1) in
    refute (P ∷ Z ∷ d ∷ m ∷ lo ∷ []) ((vP ≼ vZ ⊗ vd) ∷ (z ⊖ vP ≼ vm) ∷ (vm ⊕ one ≼ vlo ⊗ vd ⊕ vd) ∷ (z ≼ vd)
    ∷ (vlo ⊕ one ≼ z ⊖ vZ) ∷ [])
    (known 0 ⊞ known 1 ⊞ known 2 ⊞ known 4 ⊠ known 3) refl (h0, (h1, (h2, (h3, (n, tt)))))

-- a rounded quotient is not far below
above : (P Z d m lo : ℤ) → P ≤ℤ (Z *ℤ d) → (pos 0 -ℤ P) ≤ℤ m → (m +ℤ pos 1) ≤ℤ (lo *ℤ d +ℤ d) → pos 0 ≤ℤ d
    → (pos 0 -ℤ Z) ≤ℤ lo
above P Z d m lo h0 h1 h2 h3 = by_lt_z lo (pos 0 -ℤ Z) (λ n. absurd (above_z P Z d m lo h0 h1 h2 h3 (next_le _ _ n)))
    (λ h. h)

-- the difference of the products of two endpoints
turn_z : (x y n N : ℤ) → x ≤ℤ y → n ≤ℤ N → (pos 0 -ℤ N) ≤ℤ n → ((x *ℤ n) ≤ℤ (y *ℤ n +ℤ N *ℤ (y -ℤ x)))
    × ((y *ℤ n) ≤ℤ (x *ℤ n +ℤ N *ℤ (y -ℤ x)))
turn_z x y n N h0 h1 h2 = (
  le_by (x ∷ y ∷ n ∷ N ∷ []) ((at 0 ≼ at 1) ∷ (at 2 ≼ at 3) ∷ (lit (pos 0) ⊖ at 3 ≼ at 2) ∷ []) (at 0 ⊗ at 2)
      (at 1 ⊗ at 2 ⊕ at 3 ⊗ (at 1 ⊖ at 0))
      (known 0 ⊠ known 2) refl (h0, (h1, (h2, tt))),
  le_by (x ∷ y ∷ n ∷ N ∷ []) ((at 0 ≼ at 1) ∷ (at 2 ≼ at 3) ∷ (lit (pos 0) ⊖ at 3 ≼ at 2) ∷ []) (at 1 ⊗ at 2)
      (at 0 ⊗ at 2 ⊕ at 3 ⊗ (at 1 ⊖ at 0))
      (known 0 ⊠ known 1) refl (h0, (h1, (h2, tt))),
)

-- the lesser and the greater of two are no further apart than the two
near : (m g p q r : ℤ) → AreSorted m g p q → pos 0 ≤ℤ r → p ≤ℤ (q +ℤ r) → q ≤ℤ (p +ℤ r) → g ≤ℤ (m +ℤ r)
near m g p q r s z h k =
    let a : (p -ℤ r) ≤ℤ m = s.best_low _ (omega (arith, ints)) (omega (arith, ints)) in
    let b : (q -ℤ r) ≤ℤ m = s.best_low _ (omega (arith, ints)) (omega (arith, ints)) in
    s.best_high _ (omega (arith, ints)) (omega (arith, ints))

-- a number lies between its size and the opposite
size_is : (n : ℤ) → (n ≤ℤ pos (unsigned_abs n)) × ((pos 0 -ℤ pos (unsigned_abs n)) ≤ℤ n)
size_is n = (omega (arith, ints), omega (arith, ints))

-- a size times a width isn't negative
nonneg_mul : (N : ℕ) (x y : ℤ) → x ≤ℤ y → pos 0 ≤ℤ (pos N *ℤ (y -ℤ x))
nonneg_mul N x y h = le_by (pos N ∷ x ∷ y ∷ []) ((at 1 ≼ at 2) ∷ (lit (pos 0) ≼ at 0) ∷ []) (lit (pos 0))
    (at 0 ⊗ (at 2 ⊖ at 1)) (known 1 ⊠ known 0) refl
    (h, (pos_nonneg N, tt))

-- n is at most its quotient, rounded up, times the divisor
ceil_above : (n d : ℕ) → n ≤ ceil_div n d * suc d
ceil_above n d = omega arith

-- ---- the range of a product
-- 16 times a quotient of an endpoint of the range, rounded down, is not above a product
corner_low : (scale : Scale) → (z a b n d p q u : ℤ) → (a *ℤ (span scale)) ≤ℤ z → z ≤ℤ (b *ℤ (span scale))
    → (p *ℤ d) ≤ℤ (a *ℤ n) → (q *ℤ d) ≤ℤ (b *ℤ n) → u
    ≤ℤ p → u ≤ℤ q → pos 0 ≤ℤ d → ((u *ℤ (span scale)) *ℤ d) ≤ℤ (z *ℤ n)
corner_low coarse z a b n d p q u hz kz hp hq hu ku hd =
    by_lt_z n (pos 0)
    (λ m. le_by (z ∷ b ∷ n ∷ d ∷ q ∷ u ∷ []) ((at 0 ≼ at 1 ⊗ lit (pos 16)) ∷ (at 4 ⊗ at 3 ≼ at 1 ⊗ at 2) ∷ (at 5 ≼ at 4)
    ∷ (lit (pos 0) ≼ at 3) ∷
    (at 2 ≼ lit (pos 0)) ∷ []) ((at 5 ⊗ lit (pos 16)) ⊗ at 3) (at 0 ⊗ at 2)
    (known 0 ⊠ known 4 ⊞ naturally 16 ⊠ known 1 ⊞ naturally 16 ⊠ known 2 ⊠ known 3) refl
    (kz, (hq, (ku, (hd, (omega (arith, ints, m), tt))))))
    (λ m. le_by (z ∷ a ∷ n ∷ d ∷ p ∷ u ∷ []) ((at 1 ⊗ lit (pos 16) ≼ at 0) ∷ (at 4 ⊗ at 3 ≼ at 1 ⊗ at 2) ∷ (at 5 ≼ at 4)
    ∷ (lit (pos 0) ≼ at 3) ∷
    (lit (pos 0) ≼ at 2) ∷ []) ((at 5 ⊗ lit (pos 16)) ⊗ at 3) (at 0 ⊗ at 2)
    (known 0 ⊠ known 4 ⊞ naturally 16 ⊠ known 1 ⊞ naturally 16 ⊠ known 2 ⊠ known 3) refl
    (hz, (hp, (hu, (hd, (m, tt))))))
corner_low fine z a b n d p q u hz kz hp hq hu ku hd =
    by_lt_z n (pos 0)
    (λ m. le_by (z ∷ b ∷ n ∷ d ∷ q ∷ u ∷ []) ((at 0 ≼ at 1 ⊗ lit (pos (2 ^ 24))) ∷ (at 4 ⊗ at 3 ≼ at 1 ⊗ at 2)
    ∷ (at 5 ≼ at 4) ∷ (lit (pos 0) ≼ at 3) ∷
    (at 2 ≼ lit (pos 0)) ∷ []) ((at 5 ⊗ lit (pos (2 ^ 24))) ⊗ at 3) (at 0 ⊗ at 2)
    (known 0 ⊠ known 4 ⊞ naturally (2 ^ 24) ⊠ known 1 ⊞ naturally (2 ^ 24) ⊠ known 2 ⊠ known 3) refl
    (kz, (hq, (ku, (hd, (omega (arith, ints, m), tt))))))
    (λ m. le_by (z ∷ a ∷ n ∷ d ∷ p ∷ u ∷ []) ((at 1 ⊗ lit (pos (2 ^ 24)) ≼ at 0) ∷ (at 4 ⊗ at 3 ≼ at 1 ⊗ at 2)
    ∷ (at 5 ≼ at 4) ∷ (lit (pos 0) ≼ at 3) ∷
    (lit (pos 0) ≼ at 2) ∷ []) ((at 5 ⊗ lit (pos (2 ^ 24))) ⊗ at 3) (at 0 ⊗ at 2)
    (known 0 ⊠ known 4 ⊞ naturally (2 ^ 24) ⊠ known 1 ⊞ naturally (2 ^ 24) ⊠ known 2 ⊠ known 3) refl
    (hz, (hp, (hu, (hd, (m, tt))))))

-- 16 times one that is rounded up is not below it
corner_high : (scale : Scale) → (z a b n d p q u : ℤ) → (a *ℤ (span scale)) ≤ℤ z → z ≤ℤ (b *ℤ (span scale))
    → (a *ℤ n) ≤ℤ (p *ℤ d) → (b *ℤ n) ≤ℤ (q *ℤ d) → p
    ≤ℤ u → q ≤ℤ u → pos 0 ≤ℤ d → (z *ℤ n) ≤ℤ ((u *ℤ (span scale)) *ℤ d)
corner_high coarse z a b n d p q u hz kz hp hq hu ku hd =
    by_lt_z n (pos 0)
    (λ m. le_by (z ∷ a ∷ n ∷ d ∷ p ∷ u ∷ []) ((at 1 ⊗ lit (pos 16) ≼ at 0) ∷ (at 1 ⊗ at 2 ≼ at 4 ⊗ at 3) ∷ (at 4 ≼ at 5)
    ∷ (lit (pos 0) ≼ at 3) ∷
    (at 2 ≼ lit (pos 0)) ∷ []) (at 0 ⊗ at 2) ((at 5 ⊗ lit (pos 16)) ⊗ at 3)
    (known 0 ⊠ known 4 ⊞ naturally 16 ⊠ known 1 ⊞ naturally 16 ⊠ known 2 ⊠ known 3) refl
    (hz, (hp, (hu, (hd, (omega (arith, ints, m), tt))))))
    (λ m. le_by (z ∷ b ∷ n ∷ d ∷ q ∷ u ∷ []) ((at 0 ≼ at 1 ⊗ lit (pos 16)) ∷ (at 1 ⊗ at 2 ≼ at 4 ⊗ at 3) ∷ (at 4 ≼ at 5)
    ∷ (lit (pos 0) ≼ at 3) ∷
    (lit (pos 0) ≼ at 2) ∷ []) (at 0 ⊗ at 2) ((at 5 ⊗ lit (pos 16)) ⊗ at 3)
    (known 0 ⊠ known 4 ⊞ naturally 16 ⊠ known 1 ⊞ naturally 16 ⊠ known 2 ⊠ known 3) refl
    (kz, (hq, (ku, (hd, (m, tt))))))
corner_high fine z a b n d p q u hz kz hp hq hu ku hd =
    by_lt_z n (pos 0)
    (λ m. le_by (z ∷ a ∷ n ∷ d ∷ p ∷ u ∷ []) ((at 1 ⊗ lit (pos (2 ^ 24)) ≼ at 0) ∷ (at 1 ⊗ at 2 ≼ at 4 ⊗ at 3)
    ∷ (at 4 ≼ at 5) ∷ (lit (pos 0) ≼ at 3) ∷
    (at 2 ≼ lit (pos 0)) ∷ []) (at 0 ⊗ at 2) ((at 5 ⊗ lit (pos (2 ^ 24))) ⊗ at 3)
    (known 0 ⊠ known 4 ⊞ naturally (2 ^ 24) ⊠ known 1 ⊞ naturally (2 ^ 24) ⊠ known 2 ⊠ known 3) refl
    (hz, (hp, (hu, (hd, (omega (arith, ints, m), tt))))))
    (λ m. le_by (z ∷ b ∷ n ∷ d ∷ q ∷ u ∷ []) ((at 0 ≼ at 1 ⊗ lit (pos (2 ^ 24))) ∷ (at 1 ⊗ at 2 ≼ at 4 ⊗ at 3)
    ∷ (at 4 ≼ at 5) ∷ (lit (pos 0) ≼ at 3) ∷
    (lit (pos 0) ≼ at 2) ∷ []) (at 0 ⊗ at 2) ((at 5 ⊗ lit (pos (2 ^ 24))) ⊗ at 3)
    (known 0 ⊠ known 4 ⊞ naturally (2 ^ 24) ⊠ known 1 ⊞ naturally (2 ^ 24) ⊠ known 2 ⊠ known 3) refl
    (kz, (hq, (ku, (hd, (m, tt))))))

-- a whole number whose multiple is at most m is at most m's quotient, rounded down
below_floor : (v d m lo : ℤ) → (v *ℤ d) ≤ℤ m → (m +ℤ pos 1) ≤ℤ (lo *ℤ d +ℤ d) → pos 0 ≤ℤ d → v ≤ℤ lo
below_floor v d m lo h k l =
    by_lt_z lo v
    (λ n. absurd
    (refute (v ∷ d ∷ m ∷ lo ∷ []) ((at 0 ⊗ at 1 ≼ at 2) ∷ (at 2 ⊕ lit (pos 1) ≼ at 3 ⊗ at 1 ⊕ at 1)
    ∷ (lit (pos 0) ≼ at 1) ∷ (at 3 ⊕ lit (pos 1) ≼ at 0) ∷ [])
    (known 0 ⊞ known 1 ⊞ known 3 ⊠ known 2) refl
    (h, (k, (l, (next_le _ _ n, tt))))))
    (λ n. n)

above_ceiling : (v d g hi : ℤ) → g ≤ℤ (v *ℤ d) → (hi *ℤ d +ℤ pos 1) ≤ℤ (g +ℤ d) → pos 0 ≤ℤ d → hi ≤ℤ v
above_ceiling v d g hi h k l =
    by_lt_z v hi
    (λ n. absurd
    (refute (v ∷ d ∷ g ∷ hi ∷ []) ((at 2 ≼ at 0 ⊗ at 1) ∷ (at 3 ⊗ at 1 ⊕ lit (pos 1) ≼ at 2 ⊕ at 1)
    ∷ (lit (pos 0) ≼ at 1) ∷ (at 0 ⊕ lit (pos 1) ≼ at 3) ∷ [])
    (known 0 ⊞ known 1 ⊞ known 3 ⊠ known 2) refl
    (h, (k, (l, (next_le _ _ n, tt))))))
    (λ n. n)

-- quotients of the range's two endpoints by which a product's range is known
record AreScaledEndpoints (n : ℤ) (d : ℕ) (a b u v : ℤ) : Type 0 where
  low_first : u ≤ℤ floor_quotient (a *ℤ n) d
  low_second : u ≤ℤ floor_quotient (b *ℤ n) d
  high_first : ceil_quotient (a *ℤ n) d ≤ℤ v
  high_second : ceil_quotient (b *ℤ n) d ≤ℤ v

quotient_below : (z : ℤ) (d : ℕ) → (floor_quotient z d *ℤ pos (suc d)) ≤ℤ z
quotient_below z d = (floor_quotient_floor z d).not_above

quotient_above : (z : ℤ) (d : ℕ) → z ≤ℤ (ceil_quotient z d *ℤ pos (suc d))
quotient_above z d = turned z (floor_quotient (neg_ℤ z) d) (pos (suc d)) (floor_quotient_floor (neg_ℤ z) d).not_above
  where
    turned : (z q d : ℤ) → (q *ℤ d) ≤ℤ neg_ℤ z → z ≤ℤ (neg_ℤ q *ℤ d)
    turned z q d h = le_by (z ∷ q ∷ d ∷ []) ((at 1 ⊗ at 2 ≼ minus (at 0)) ∷ []) (at 0) (minus (at 1) ⊗ at 2) (known 0)
        refl (h, tt)

-- endpoints rounded outwards keep the bound of a product with a fraction
scaled_kept : (scale : Scale) → (a b u v : ℤ) (N s k w S M : ℕ) (f : Fraction) (x y m g lo hi : ℤ)
    → N ≡ unsigned_abs f.num → x ≤ℤ y → (a *ℤ (span scale)) ≤ℤ x
    → y ≤ℤ (b *ℤ (span scale)) → ((y -ℤ x) *ℤ (grain scale)) ≤ℤ pos (s * w + k * 2 ^ 40)
    → AreProducts f x y m g lo hi → AreScaledEndpoints f.num f.below a b u v → s * N ≤ S * suc f.below
    → k * N ≤ M * suc f.below
    → AreKept scale u v S (M + 2 * (slack scale)) w lo hi
scaled_kept coarse a b u v N s k w S M f x y m g lo hi e o hx hy hv t z hs hk =
    let r = t.order in
    let i = size_is f.num in
    let iN : f.num ≤ℤ pos N = rw e i.0 in
    let jN : (pos 0 -ℤ pos N) ≤ℤ f.num = rw e i.1 in
    let U = turn_z x y f.num (pos N) o iN jN in
    let G = near m g (x *ℤ f.num) (y *ℤ f.num) (pos N *ℤ (y -ℤ x)) r (nonneg_mul N x y o) U.0 U.1 in
    let D = pos (suc f.below) in
    let low = λ (c : ℤ) (ac : (a *ℤ pos 16) ≤ℤ c) (cb : c ≤ℤ (b *ℤ pos 16)).
    corner_low coarse c a b f.num D (floor_quotient (a *ℤ f.num) f.below) (floor_quotient (b *ℤ f.num) f.below) u ac cb
    (quotient_below (a *ℤ f.num) f.below)
    (quotient_below (b *ℤ f.num) f.below) z.low_first z.low_second (pos_nonneg (suc f.below)) in
    let high = λ (c : ℤ) (ac : (a *ℤ pos 16) ≤ℤ c) (cb : c ≤ℤ (b *ℤ pos 16)).
    corner_high coarse c a b f.num D (ceil_quotient (a *ℤ f.num) f.below) (ceil_quotient (b *ℤ f.num) f.below) v ac cb
    (quotient_above (a *ℤ f.num) f.below)
    (quotient_above (b *ℤ f.num) f.below) z.high_first z.high_second (pos_nonneg (suc f.below)) in
    let xb : x ≤ℤ (b *ℤ pos 16) = omega (arith, ints, o, hy) in
    let ay : (a *ℤ pos 16) ≤ℤ y = omega (arith, ints, o, hx) in
    let one : pos 1 ≤ℤ pos (suc f.below) = omega (arith, ints) in
    let fl : (m +ℤ pos 1) ≤ℤ (lo *ℤ pos (suc f.below) +ℤ pos (suc f.below)) = next_le _ _ t.down.close in
    let cl : (hi *ℤ pos (suc f.below) +ℤ pos 1) ≤ℤ (g +ℤ pos (suc f.below)) = next_le _ _ t.up.close in
    record {
      ordered = outward_order m g (pos (suc f.below)) lo hi (sorted_order m g _ _ r) t.down t.up (omega (arith, ints));
      above = below_floor (u *ℤ pos 16) D m lo (r.best_low _ (low x hx xb) (low y ay hy)) fl (pos_nonneg (suc f.below));
      below = above_ceiling (v *ℤ pos 16) D g hi (r.best_high _ (high x hx xb) (high y ay hy)) cl
          (pos_nonneg (suc f.below));
      close = omega (
        arith,
        ints,
        close_z coarse (pos N) (pos (suc f.below)) (pos s) (pos k) (pos w) (pos S) (pos M) m g lo hi (y -ℤ x) G hv
            (omega (arith, ints, hs))
            (omega (arith, ints, hk)) fl cl (pos_nonneg N) (pos_nonneg w) one,
      );
    }
scaled_kept fine a b u v N s k w S M f x y m g lo hi e o hx hy hv t z hs hk =
    let r = t.order in
    let i = size_is f.num in
    let iN : f.num ≤ℤ pos N = rw e i.0 in
    let jN : (pos 0 -ℤ pos N) ≤ℤ f.num = rw e i.1 in
    let U = turn_z x y f.num (pos N) o iN jN in
    let G = near m g (x *ℤ f.num) (y *ℤ f.num) (pos N *ℤ (y -ℤ x)) r (nonneg_mul N x y o) U.0 U.1 in
    let D = pos (suc f.below) in
    let low = λ (c : ℤ) (ac : (a *ℤ pos (2 ^ 24)) ≤ℤ c) (cb : c ≤ℤ (b *ℤ pos (2 ^ 24))).
    corner_low fine c a b f.num D (floor_quotient (a *ℤ f.num) f.below) (floor_quotient (b *ℤ f.num) f.below) u ac cb
    (quotient_below (a *ℤ f.num) f.below)
    (quotient_below (b *ℤ f.num) f.below) z.low_first z.low_second (pos_nonneg (suc f.below)) in
    let high = λ (c : ℤ) (ac : (a *ℤ pos (2 ^ 24)) ≤ℤ c) (cb : c ≤ℤ (b *ℤ pos (2 ^ 24))).
    corner_high fine c a b f.num D (ceil_quotient (a *ℤ f.num) f.below) (ceil_quotient (b *ℤ f.num) f.below) v ac cb
    (quotient_above (a *ℤ f.num) f.below)
    (quotient_above (b *ℤ f.num) f.below) z.high_first z.high_second (pos_nonneg (suc f.below)) in
    let xb : x ≤ℤ (b *ℤ pos (2 ^ 24)) = omega (arith, ints, o, hy) in
    let ay : (a *ℤ pos (2 ^ 24)) ≤ℤ y = omega (arith, ints, o, hx) in
    let one : pos 1 ≤ℤ pos (suc f.below) = omega (arith, ints) in
    let fl : (m +ℤ pos 1) ≤ℤ (lo *ℤ pos (suc f.below) +ℤ pos (suc f.below)) = next_le _ _ t.down.close in
    let cl : (hi *ℤ pos (suc f.below) +ℤ pos 1) ≤ℤ (g +ℤ pos (suc f.below)) = next_le _ _ t.up.close in
    record {
      ordered = outward_order m g (pos (suc f.below)) lo hi (sorted_order m g _ _ r) t.down t.up (omega (arith, ints));
      above = below_floor (u *ℤ pos (2 ^ 24)) D m lo (r.best_low _ (low x hx xb) (low y ay hy)) fl
          (pos_nonneg (suc f.below));
      below = above_ceiling (v *ℤ pos (2 ^ 24)) D g hi (r.best_high _ (high x hx xb) (high y ay hy)) cl
          (pos_nonneg (suc f.below));
      close = omega (
        arith,
        ints,
        close_z fine (pos N) (pos (suc f.below)) (pos s) (pos k) (pos w) (pos S) (pos M) m g lo hi (y -ℤ x) G hv
            (omega (arith, ints, hs))
            (omega (arith, ints, hk)) fl cl (pos_nonneg N) (pos_nonneg w) one,
      );
    }

endpoints_least : (n : ℤ) (d : ℕ) (a b : ℤ)
    → AreScaledEndpoints n d a b (int_min (floor_quotient (a *ℤ n) d) (floor_quotient (b *ℤ n) d))
    (int_max (ceil_quotient (a *ℤ n) d) (ceil_quotient (b *ℤ n) d))
endpoints_least n d a b = record {
  low_first = min_first _ _;
  low_second = min_second _ _;
  high_first = max_first _ _;
  high_second = max_second _ _;
}
  where
    min_first : (p q : ℤ) → int_min p q ≤ℤ p
    min_first p q = omega (arith, ints, clamps)

    min_second : (p q : ℤ) → int_min p q ≤ℤ q
    min_second p q = omega (arith, ints, clamps)

    max_first : (p q : ℤ) → p ≤ℤ int_max p q
    max_first p q = omega (arith, ints, clamps)

    max_second : (p q : ℤ) → q ≤ℤ int_max p q
    max_second p q = omega (arith, ints, clamps)

-- what 64 bits show of a product with a fraction keeps its bound
scaled_limited : (scale : Scale) → (f : Fraction) (a b : ℤ) (s k w : ℕ) (x y m g lo hi : ℤ) (i : Interval)
    → AreKept scale a b s k w x y
    → AreProducts f x y m g lo hi → ShowsEndpoints scale lo hi i
    → IsNarrow w (scaled_within (limits_on scale) f.num f.below a b (range_size a b) (unsigned_abs f.num) s k) i
scaled_limited coarse f a b s k w x y m g lo hi i h t v =
    limited_narrow coarse _ _ _ _ _ _ lo hi i (λ l. ltb-true _ _ (both _ _ l).1)
    (scaled_kept coarse a b _ _ (unsigned_abs f.num) s k w _ _ f x y m g lo hi refl h.ordered
    (omega (arith, ints, h.above)) (omega (arith, ints, h.below))
    h.close t (endpoints_least f.num f.below a b) (ceil_above _ f.below) (ceil_above _ f.below)) v
scaled_limited fine f a b s k w x y m g lo hi i h t v =
    limited_narrow fine _ _ _ _ _ _ lo hi i (λ l. ltb-true _ _ (both _ _ l).1)
    (scaled_kept fine a b _ _ (unsigned_abs f.num) s k w _ _ f x y m g lo hi refl h.ordered
    (omega (arith, ints, h.above)) (omega (arith, ints, h.below))
    h.close t (endpoints_least f.num f.below a b) (ceil_above _ f.below) (ceil_above _ f.below)) v

-- the same, for every bound
pub scaled_narrow : (scale : Scale) → (w : ℕ) (a : Bound) (f : Fraction) (x y n p q m g d lo hi : ℤ) (i : Interval)
    → AreScaled f x y n p q m g d lo hi
    → ShowsEndpoints scale lo hi i → IsNarrow w a (between (at_scale scale x) (at_scale scale y))
    → IsNarrow w (scaled_bound (limits_on scale) f a) i
unfolding scaled_bound IsNarrow
scaled_narrow scale w unbounded f x y n p q m g d lo hi i s v h = tt
scaled_narrow scale w (bounded a b t k) f x y n p q m g d lo hi i s v h = scaled_limited scale f a b t k w x y m g lo hi
    i (kept_of scale _ _ _ _ _ _ _ h)
    (products_of f x y n p q m g d lo hi s) v

-- where the number is everything, so may the product be
pub scaled_first : (scale : Scale) → (w : ℕ) (f : Fraction) (x : Bound) (i : Interval) → IsNarrow w x everything
    → IsNarrow w (scaled_bound (limits_on scale) f x) i
unfolding scaled_bound IsNarrow
scaled_first scale w f unbounded i h = tt
scaled_first scale w f (bounded a b s k) i h = absurd h

-- products that the limits allow fit
small : (scale : Scale) → (A N : ℕ) (x : ℤ) → A * N < (most_product scale) → x ≤ℤ (pos (A * (spans scale)) *ℤ pos N)
    → (pos 0 -ℤ pos (A * (spans scale)) *ℤ pos N) ≤ℤ x → SFits w128 x
small coarse A N x h p q =
    let e : A * 16 * N ≡ A * N * 16 = omega arith in
    let m : pos (A * 16) *ℤ pos N ≡ pos (A * 16 * N) = omega (arith, ints) in
    omega (arith, ints, e, m, h, p, q)
small fine A N x h p q =
    let e : A * 2 ^ 24 * N ≡ A * N * 2 ^ 24 = omega arith in
    let m : pos (A * 2 ^ 24) *ℤ pos N ≡ pos (A * 2 ^ 24 * N) = omega (arith, ints) in
    omega (arith, ints, e, m, h, p, q)

-- where a product is too great, no bound is promised
pub scaled_overflow : (scale : Scale) → (w : ℕ) (p : Bound) (f : Fraction) (x y n : ℤ) → n ≡ f.num
    → (SFits w128 (x *ℤ n) → SFits w128 (y *ℤ n) → ⊥)
    → IsNarrow w p (between (at_scale scale x) (at_scale scale y)) → IsNarrow w (scaled_bound (limits_on scale) f p)
    everything
unfolding scaled_bound IsNarrow
scaled_overflow coarse w unbounded f x y n e j h = tt
scaled_overflow fine w unbounded f x y n e j h = tt
scaled_overflow coarse w (bounded a b s k) f x y n e j h = by_test _ _ _ _ _ _ refl
  where
    fits : range_size a b * unsigned_abs f.num < 2 ^ 122 → (u : ℤ) → u ≤ℤ pos (range_size a b * 2 ^ 4)
        → (pos 0 -ℤ pos (range_size a b * 2 ^ 4)) ≤ℤ u
        → SFits w128 (u *ℤ n)
    fits l u i o =
        let r = bounded_z u f.num (pos (range_size a b * 2 ^ 4)) (pos (unsigned_abs f.num)) i o (size_is f.num).0
        (size_is f.num).1 in
        rw e (small coarse (range_size a b) (unsigned_abs f.num) (u *ℤ f.num) l r.0 r.1)

    by_test : (t r : Bool) (u v : ℤ) (S M : ℕ) → t ≡ (nat_lt (range_size a b * unsigned_abs f.num) (2 ^ 122) && r)
        → IsNarrow w (limited t (bounded u v S M)) everything
    by_test false r u v S M e' = tt
    by_test true r u v S M e' =
        let q = kept_of coarse a b s k w x y h in
        let l = ltb-true _ _ (both _ _ (sym e')).0 in
        absurd (j (fits l x (omega (arith, ints, q.above, q.below, q.ordered))
        (omega (arith, ints, q.above, q.below, q.ordered)))
        (fits l y (omega (arith, ints, q.above, q.below, q.ordered))
        (omega (arith, ints, q.above, q.below, q.ordered))))
scaled_overflow fine w (bounded a b s k) f x y n e j h = by_test _ _ _ _ _ _ refl
  where
    fits : range_size a b * unsigned_abs f.num < 2 ^ 102 → (u : ℤ) → u ≤ℤ pos (range_size a b * 2 ^ 24)
        → (pos 0 -ℤ pos (range_size a b * 2 ^ 24)) ≤ℤ u
        → SFits w128 (u *ℤ n)
    fits l u i o =
        let r = bounded_z u f.num (pos (range_size a b * 2 ^ 24)) (pos (unsigned_abs f.num)) i o (size_is f.num).0
        (size_is f.num).1 in
        rw e (small fine (range_size a b) (unsigned_abs f.num) (u *ℤ f.num) l r.0 r.1)

    by_test : (t r : Bool) (u v : ℤ) (S M : ℕ) → t ≡ (nat_lt (range_size a b * unsigned_abs f.num) (2 ^ 102) && r)
        → IsNarrow w (limited t (bounded u v S M)) everything
    by_test false r u v S M e' = tt
    by_test true r u v S M e' =
        let q = kept_of fine a b s k w x y h in
        let l = ltb-true _ _ (both _ _ (sym e')).0 in
        absurd (j (fits l x (omega (arith, ints, q.above, q.below, q.ordered))
        (omega (arith, ints, q.above, q.below, q.ordered)))
        (fits l y (omega (arith, ints, q.above, q.below, q.ordered))
        (omega (arith, ints, q.above, q.below, q.ordered))))
