-- Quotients of endpoints at a scale by a divisor above 0: two of them enclose all, and they keep a bound. By the sign
-- of the dividend's endpoint it is known by which divisor a quotient is the least (`IsLeastBy`), the greatest likewise;
-- their distance is a certificate over the two widths, and the range that of `Corners`. A bound is promised where the
-- divisor's range lies above 0 alone, so that all other cases of the bounds are immediate.
use Rattle.interval_endpoints.specs.Scales.{Scale, coarse, fine, at_scale, unit, limits_on, span, grain, slack}
use Rattle.std.proofs.Common.{◌≡◌, ℕ, zero, suc, ◌+◌, ◌*◌, ◌-◌, ◌^◌, ◌≤◌, ◌<◌, refl, arith, unsigned_abs, ℤ, pos}
use Rattle.std.proofs.Common.{negsuc, ◌+ℤ◌, ◌*ℤ◌, ◌-ℤ◌, ◌≤ℤ◌, ◌<ℤ◌, [], ◌∷◌, inl, inr}
use Rattle.std.proofs.lemmas.Int.{ints, by_lt_z}
use Rattle.std.proofs.lemmas.Bool.{ltb-true}
use Rattle.std.proofs.Math.Nat.{mul-le-mul_left}
use Rattle.book_model.specs.Interval.{Interval, everything, between}
use Rattle.book_model.proofs.Ring.{at, lit, ◌⊕◌, ◌⊖◌, ◌⊗◌}
use Rattle.book_model.proofs.Bounds.{◌≼◌, known, ◌⊞◌, ◌⊠◌, times as naturally, le_by, le_over, refute, pos_nonneg}
use lib.Signed.{≤ℤ_refl}
use Rattle.book_model.specs.numbers.Bounds.{Bound, unbounded, bounded, range_size, ceil_div, least_quotient}
use Rattle.book_model.specs.numbers.Bounds.{greatest_quotient, quotient_bound, IsNarrow}
use Rattle.int_division.specs.Rounding.{IsFloor, IsCeiling}
use Rattle.interval_endpoints.specs.Rounding.{ShowsEndpoints, IsLeastBy, IsGreatestBy, AreQuotientsAt}
use Rattle.interval_endpoints.proofs.Keeping.{AreKept, kept_of, limited_narrow, both}
use Rattle.interval_endpoints.proofs.Corners.{LiesIn, least_ratio, greatest_ratio, least_quotient_from}
use Rattle.interval_endpoints.proofs.Corners.{greatest_quotient_to}
use Rattle.interval_endpoints.proofs.Products.{AreSized, sized, ceil_above, span_natural, first_in, last_in}

-- ---- the least and the greatest
-- a quotient below 0 by the lesser divisor is the least, and one that isn't by the greater
least_below : (lo c e z : ℤ) → pos 0 <ℤ c → c ≤ℤ e → z <ℤ pos 0 → (lo *ℤ c) ≤ℤ z → (lo *ℤ e) ≤ℤ z
least_below lo c e z h l n k =
    by_lt_z lo (pos 0)
    (λ m. le_by (lo ∷ c ∷ e ∷ z ∷ []) ((at 0 ≼ lit (pos 0)) ∷ (at 1 ≼ at 2) ∷ (at 0 ⊗ at 1 ≼ at 3) ∷ []) (at 0 ⊗ at 2)
    (at 3) (known 0 ⊠ known 1 ⊞ known 2) refl
    (omega (arith, ints, m), (l, (k, tt))))
    (λ m. absurd
    (refute (lo ∷ c ∷ z ∷ []) ((lit (pos 0) ≼ at 0) ∷ (lit (pos 0) ≼ at 1) ∷ (at 0 ⊗ at 1 ≼ at 2)
    ∷ (at 2 ⊕ lit (pos 1) ≼ lit (pos 0)) ∷ [])
    (known 0 ⊠ known 1 ⊞ known 2 ⊞ known 3) refl
    (m, (omega (arith, ints, h), (k, (omega (arith, ints, n), tt))))))

least_above : (lo e d z : ℤ) → pos 0 <ℤ e → e ≤ℤ d → pos 0 ≤ℤ z → (lo *ℤ d) ≤ℤ z → (lo *ℤ e) ≤ℤ z
least_above lo e d z h l n k =
    by_lt_z lo (pos 0)
    (λ m. le_by (lo ∷ e ∷ z ∷ []) ((at 0 ≼ lit (pos 0)) ∷ (lit (pos 0) ≼ at 1) ∷ (lit (pos 0) ≼ at 2) ∷ [])
    (at 0 ⊗ at 1) (at 2) (known 0 ⊠ known 1 ⊞ known 2)
    refl (omega (arith, ints, m), (omega (arith, ints, h), (n, tt))))
    (λ m. le_by (lo ∷ e ∷ d ∷ z ∷ []) ((lit (pos 0) ≼ at 0) ∷ (at 1 ≼ at 2) ∷ (at 0 ⊗ at 2 ≼ at 3) ∷ []) (at 0 ⊗ at 1)
    (at 3) (known 0 ⊠ known 1 ⊞ known 2) refl
    (m, (l, (k, tt))))

-- the same from above
greatest_below : (hi e d z : ℤ) → pos 0 <ℤ e → e ≤ℤ d → z <ℤ pos 0 → z ≤ℤ (hi *ℤ d) → z ≤ℤ (hi *ℤ e)
greatest_below hi e d z h l n k =
    by_lt_z hi (pos 0)
    (λ m. le_by (hi ∷ e ∷ d ∷ z ∷ []) ((at 0 ≼ lit (pos 0)) ∷ (at 1 ≼ at 2) ∷ (at 3 ≼ at 0 ⊗ at 2) ∷ []) (at 3)
    (at 0 ⊗ at 1) (known 0 ⊠ known 1 ⊞ known 2) refl
    (omega (arith, ints, m), (l, (k, tt))))
    (λ m. le_by (hi ∷ e ∷ z ∷ []) ((lit (pos 0) ≼ at 0) ∷ (lit (pos 0) ≼ at 1) ∷ (at 2 ≼ lit (pos 0)) ∷ []) (at 2)
    (at 0 ⊗ at 1) (known 0 ⊠ known 1 ⊞ known 2)
    refl (m, (omega (arith, ints, h), (omega (arith, ints, n), tt))))

greatest_above : (hi c e z : ℤ) → pos 0 <ℤ c → c ≤ℤ e → pos 0 ≤ℤ z → z ≤ℤ (hi *ℤ c) → z ≤ℤ (hi *ℤ e)
greatest_above hi c e z h l n k =
    by_lt_z hi (pos 0)
    (λ m. absurd
    (refute (hi ∷ c ∷ z ∷ []) ((at 0 ⊕ lit (pos 1) ≼ lit (pos 0)) ∷ (lit (pos 1) ≼ at 1) ∷ (at 2 ≼ at 0 ⊗ at 1)
    ∷ (lit (pos 0) ≼ at 2) ∷ [])
    (known 0 ⊠ (known 1 ⊞ naturally 1) ⊞ known 1 ⊞ known 2 ⊞ known 3) refl
    (omega (arith, ints, m), (omega (arith, ints, h), (k, (n, tt))))))
    (λ m. le_by (hi ∷ c ∷ e ∷ z ∷ []) ((lit (pos 0) ≼ at 0) ∷ (at 1 ≼ at 2) ∷ (at 3 ≼ at 0 ⊗ at 1) ∷ []) (at 3)
    (at 0 ⊗ at 2) (known 0 ⊠ known 1 ⊞ known 2) refl
    (m, (l, (k, tt))))

scaled_negative : (scale : Scale) → (a : ℤ) → a <ℤ pos 0 → (a *ℤ (unit scale)) <ℤ pos 0
scaled_negative coarse a h = omega (arith, ints, h)
scaled_negative fine a h = omega (arith, ints, h)

pub under_all : (scale : Scale) → (lo a c d p e : ℤ) → pos 0 <ℤ c → c ≤ℤ e → e ≤ℤ d → IsLeastBy a c d p
    → (lo *ℤ p) ≤ℤ (a *ℤ (unit scale)) → (lo *ℤ e)
    ≤ℤ (a *ℤ (unit scale))
under_all coarse lo a c d p e h l u (inl n) k = least_below lo c e (a *ℤ pos (2 ^ 36)) h l
    (scaled_negative coarse a n.0) (rw n.1 at k)
under_all fine lo a c d p e h l u (inl n) k = least_below lo c e (a *ℤ pos (2 ^ 56)) h l (scaled_negative fine a n.0)
    (rw n.1 at k)
under_all coarse lo a c d p e h l u (inr n) k = least_above lo e d (a *ℤ pos (2 ^ 36)) (omega (arith, ints, h, l)) u
    (omega (arith, ints, n.0)) (rw n.1 at k)
under_all fine lo a c d p e h l u (inr n) k = least_above lo e d (a *ℤ pos (2 ^ 56)) (omega (arith, ints, h, l)) u
    (omega (arith, ints, n.0)) (rw n.1 at k)

pub over_all : (scale : Scale) → (hi b c d q e : ℤ) → pos 0 <ℤ c → c ≤ℤ e → e ≤ℤ d → IsGreatestBy b c d q
    → (b *ℤ (unit scale)) ≤ℤ (hi *ℤ q)
    → (b *ℤ (unit scale)) ≤ℤ (hi *ℤ e)
over_all coarse hi b c d q e h l u (inl n) k = greatest_below hi e d (b *ℤ pos (2 ^ 36)) (omega (arith, ints, h, l)) u
    (scaled_negative coarse b n.0)
    (rw n.1 at k)
over_all fine hi b c d q e h l u (inl n) k = greatest_below hi e d (b *ℤ pos (2 ^ 56)) (omega (arith, ints, h, l)) u
    (scaled_negative fine b n.0) (rw n.1 at k)
over_all coarse hi b c d q e h l u (inr n) k = greatest_above hi c e (b *ℤ pos (2 ^ 36)) h l (omega (arith, ints, n.0))
    (rw n.1 at k)
over_all fine hi b c d q e h l u (inr n) k = greatest_above hi c e (b *ℤ pos (2 ^ 56)) h l (omega (arith, ints, n.0))
    (rw n.1 at k)

-- ---- their width and size
-- a quotient rounded down is at least each number that isn't above the quotient
floor_greatest : (z q n d : ℤ) → pos 0 ≤ℤ d → (z *ℤ d) ≤ℤ n → n <ℤ (q *ℤ d +ℤ d) → z ≤ℤ q
floor_greatest z q n d h k l =
    by_lt_z q z
    (λ m. absurd
    (refute (z ∷ q ∷ n ∷ d ∷ []) ((lit (pos 0) ≼ at 3) ∷ (at 0 ⊗ at 3 ≼ at 2)
    ∷ (at 2 ⊕ lit (pos 1) ≼ at 1 ⊗ at 3 ⊕ at 3) ∷ (at 1 ⊕ lit (pos 1) ≼ at 0) ∷ [])
    (known 1 ⊞ known 2 ⊞ known 0 ⊠ known 3) refl
    (h, (k, (omega (arith, ints, l), (omega (arith, ints, m), tt))))))
    (λ m. m)

-- the same of one rounded up
ceil_least : (z q n d : ℤ) → pos 0 ≤ℤ d → n ≤ℤ (z *ℤ d) → (q *ℤ d) <ℤ (n +ℤ d) → q ≤ℤ z
ceil_least z q n d h k l =
    by_lt_z z q
    (λ m. absurd
    (refute (z ∷ q ∷ n ∷ d ∷ []) ((lit (pos 0) ≼ at 3) ∷ (at 2 ≼ at 0 ⊗ at 3)
    ∷ (at 1 ⊗ at 3 ⊕ lit (pos 1) ≼ at 2 ⊕ at 3) ∷ (at 0 ⊕ lit (pos 1) ≼ at 1) ∷ [])
    (known 1 ⊞ known 2 ⊞ known 0 ⊠ known 3) refl
    (h, (k, (omega (arith, ints, l), (omega (arith, ints, m), tt))))))
    (λ m. m)

-- of what holds of both divisors, it holds of the one that is taken
by_least_divisor : (a c d p z n : ℤ) → IsLeastBy a c d p → (z *ℤ c) ≤ℤ n → (z *ℤ d) ≤ℤ n → (z *ℤ p) ≤ℤ n
by_least_divisor a c d p z n (inl l) h k = rw l.1 h
by_least_divisor a c d p z n (inr l) h k = rw l.1 k

by_greatest_divisor : (b c d q z n : ℤ) → IsGreatestBy b c d q → n ≤ℤ (z *ℤ c) → n ≤ℤ (z *ℤ d) → n ≤ℤ (z *ℤ q)
by_greatest_divisor b c d q z n (inl l) h k = rw l.1 k
by_greatest_divisor b c d q z n (inr l) h k = rw l.1 h

-- the two quotients' difference, times the divisors
divided : (scale : Scale) → (a b p q lo hi w v P : ℤ) → pos 0 ≤ℤ p → pos 0 ≤ℤ q → (a *ℤ (unit scale)) ≤ℤ (lo *ℤ p +ℤ p)
    → (hi *ℤ q) ≤ℤ (b *ℤ (unit scale) +ℤ q)
    → (b -ℤ a) ≤ℤ w → (p -ℤ q) ≤ℤ v → (q -ℤ p) ≤ℤ v → (pos 0 -ℤ P) ≤ℤ a → a ≤ℤ P
    → (pos 2 *ℤ ((((hi -ℤ lo) -ℤ pos 2) *ℤ q -ℤ (unit scale) *ℤ w) *ℤ p)) ≤ℤ (pos 2 *ℤ ((unit scale) *ℤ (P *ℤ v)))
divided coarse a b p q lo hi w v P hp hq hl hh hw hv hu ha hb =
    le_by (a ∷ b ∷ p ∷ q ∷ lo ∷ hi ∷ w ∷ v ∷ P ∷ [])
    ((lit (pos 0) ≼ at 2) ∷ (lit (pos 0) ≼ at 3) ∷ (at 0 ⊗ lit (pos (2 ^ 36)) ≼ at 4 ⊗ at 2 ⊕ at 2)
    ∷ (at 5 ⊗ at 3 ≼ at 1 ⊗ lit (pos (2 ^ 36)) ⊕ at 3) ∷
    (at 1 ⊖ at 0 ≼ at 6) ∷ (at 2 ⊖ at 3 ≼ at 7) ∷ (at 3 ⊖ at 2 ≼ at 7)
    ∷ (lit (pos 0) ⊖ at 8 ≼ at 0) ∷ (at 0 ≼ at 8) ∷ [])
    (lit (pos 2) ⊗ ((((at 5 ⊖ at 4) ⊖ lit (pos 2)) ⊗ at 3 ⊖ lit (pos (2 ^ 36)) ⊗ at 6) ⊗ at 2))
    (lit (pos 2) ⊗ (lit (pos (2 ^ 36)) ⊗ (at 8 ⊗ at 7)))
    (naturally 2 ⊠ known 3 ⊠ known 0 ⊞ naturally 2 ⊠ known 2 ⊠ known 1 ⊞ naturally (2 ^ 37) ⊠ known 4 ⊠ known 0 ⊞
    naturally (2 ^ 36) ⊠
    (known 5 ⊠ known 7 ⊞ known 6 ⊠ known 8)) refl
    (hp, (hq, (hl, (hh, (hw, (hv, (hu, (ha, (hb, tt)))))))))
divided fine a b p q lo hi w v P hp hq hl hh hw hv hu ha hb =
    le_by (a ∷ b ∷ p ∷ q ∷ lo ∷ hi ∷ w ∷ v ∷ P ∷ [])
    ((lit (pos 0) ≼ at 2) ∷ (lit (pos 0) ≼ at 3) ∷ (at 0 ⊗ lit (pos (2 ^ 56)) ≼ at 4 ⊗ at 2 ⊕ at 2)
    ∷ (at 5 ⊗ at 3 ≼ at 1 ⊗ lit (pos (2 ^ 56)) ⊕ at 3) ∷
    (at 1 ⊖ at 0 ≼ at 6) ∷ (at 2 ⊖ at 3 ≼ at 7) ∷ (at 3 ⊖ at 2 ≼ at 7)
    ∷ (lit (pos 0) ⊖ at 8 ≼ at 0) ∷ (at 0 ≼ at 8) ∷ [])
    (lit (pos 2) ⊗ ((((at 5 ⊖ at 4) ⊖ lit (pos 2)) ⊗ at 3 ⊖ lit (pos (2 ^ 56)) ⊗ at 6) ⊗ at 2))
    (lit (pos 2) ⊗ (lit (pos (2 ^ 56)) ⊗ (at 8 ⊗ at 7)))
    (naturally 2 ⊠ known 3 ⊠ known 0 ⊞ naturally 2 ⊠ known 2 ⊠ known 1 ⊞ naturally (2 ^ 57) ⊠ known 4 ⊠ known 0 ⊞
    naturally (2 ^ 56) ⊠
    (known 5 ⊠ known 7 ⊞ known 6 ⊠ known 8)) refl
    (hp, (hq, (hl, (hh, (hw, (hv, (hu, (ha, (hb, tt)))))))))

-- a number that a divisor bounds is bounded by a lesser one
by_lesser : (y p c z : ℤ) → c ≤ℤ p → pos 0 ≤ℤ c → pos 0 ≤ℤ z → (y *ℤ p) ≤ℤ z → (y *ℤ c) ≤ℤ z
by_lesser y p c z h k n l =
    by_lt_z y (pos 0)
    (λ m. le_by (y ∷ c ∷ z ∷ []) ((at 0 ≼ lit (pos 0)) ∷ (lit (pos 0) ≼ at 1) ∷ (lit (pos 0) ≼ at 2) ∷ []) (at 0 ⊗ at 1)
    (at 2) (known 0 ⊠ known 1 ⊞ known 2)
    refl (omega (arith, ints, m), (k, (n, tt))))
    (λ m. le_by (y ∷ p ∷ c ∷ z ∷ []) ((lit (pos 0) ≼ at 0) ∷ (at 2 ≼ at 1) ∷ (at 0 ⊗ at 1 ≼ at 3) ∷ []) (at 0 ⊗ at 2)
    (at 3) (known 0 ⊠ known 1 ⊞ known 2) refl
    (m, (h, (l, tt))))

-- both divisors replaced by the least
by_least : (scale : Scale) → (x q c w z : ℤ) → c ≤ℤ q → pos 0 ≤ℤ c → pos 0 ≤ℤ z → pos 0 ≤ℤ w
    → ((x *ℤ q -ℤ (unit scale) *ℤ w) *ℤ c) ≤ℤ z → (x *ℤ (c *ℤ c))
    ≤ℤ ((unit scale) *ℤ (w *ℤ c) +ℤ z)
by_least coarse x q c w z h k n l m =
    by_lt_z x (pos 0)
    (λ t. le_by (x ∷ c ∷ w ∷ z ∷ []) ((at 0 ≼ lit (pos 0)) ∷ (lit (pos 0) ≼ at 1) ∷ (lit (pos 0) ≼ at 2)
    ∷ (lit (pos 0) ≼ at 3) ∷ []) (at 0 ⊗ (at 1 ⊗ at 1))
    (lit (pos (2 ^ 36)) ⊗ (at 2 ⊗ at 1) ⊕ at 3)
    (known 0 ⊠ (known 1 ⊠ known 1) ⊞ naturally (2 ^ 36) ⊠ known 2 ⊠ known 1 ⊞ known 3) refl
    (omega (arith, ints, t), (k, (l, (n, tt)))))
    (λ t. le_by (x ∷ q ∷ c ∷ w ∷ z ∷ []) ((lit (pos 0) ≼ at 0) ∷ (at 2 ≼ at 1) ∷ (lit (pos 0) ≼ at 2) ∷
    ((at 0 ⊗ at 1 ⊖ lit (pos (2 ^ 36)) ⊗ at 3) ⊗ at 2 ≼ at 4) ∷ []) (at 0 ⊗ (at 2 ⊗ at 2))
    (lit (pos (2 ^ 36)) ⊗ (at 3 ⊗ at 2) ⊕ at 4)
    (known 0 ⊠ known 1 ⊠ known 2 ⊞ known 3) refl (t, (h, (k, (m, tt)))))
by_least fine x q c w z h k n l m =
    by_lt_z x (pos 0)
    (λ t. le_by (x ∷ c ∷ w ∷ z ∷ []) ((at 0 ≼ lit (pos 0)) ∷ (lit (pos 0) ≼ at 1) ∷ (lit (pos 0) ≼ at 2)
    ∷ (lit (pos 0) ≼ at 3) ∷ []) (at 0 ⊗ (at 1 ⊗ at 1))
    (lit (pos (2 ^ 56)) ⊗ (at 2 ⊗ at 1) ⊕ at 3)
    (known 0 ⊠ (known 1 ⊠ known 1) ⊞ naturally (2 ^ 56) ⊠ known 2 ⊠ known 1 ⊞ known 3) refl
    (omega (arith, ints, t), (k, (l, (n, tt)))))
    (λ t. le_by (x ∷ q ∷ c ∷ w ∷ z ∷ []) ((lit (pos 0) ≼ at 0) ∷ (at 2 ≼ at 1) ∷ (lit (pos 0) ≼ at 2) ∷
    ((at 0 ⊗ at 1 ⊖ lit (pos (2 ^ 56)) ⊗ at 3) ⊗ at 2 ≼ at 4) ∷ []) (at 0 ⊗ (at 2 ⊗ at 2))
    (lit (pos (2 ^ 56)) ⊗ (at 3 ⊗ at 2) ⊕ at 4)
    (known 0 ⊠ known 1 ⊠ known 2 ⊞ known 3) refl (t, (h, (k, (m, tt)))))

-- by the bounds of both
by_bounds : (scale : Scale) → (X g A s k t m w S M x y : ℤ) → pos 1 ≤ℤ (g *ℤ g) → pos 0 ≤ℤ g → pos 0 ≤ℤ A → pos 0 ≤ℤ w
    → (x *ℤ (grain scale))
    ≤ℤ (s *ℤ w +ℤ k *ℤ pos (2 ^ 40)) → (y *ℤ (grain scale)) ≤ℤ (t *ℤ w +ℤ m *ℤ pos (2 ^ 40))
    → (X *ℤ (((span scale) *ℤ g) *ℤ ((span scale) *ℤ g)))
    ≤ℤ ((unit scale) *ℤ (x *ℤ ((span scale) *ℤ g)) +ℤ (unit scale) *ℤ (((span scale) *ℤ A) *ℤ y))
    → ((s *ℤ g +ℤ A *ℤ t) *ℤ pos (2 ^ 32)) ≤ℤ (S *ℤ (g *ℤ g)) → ((k *ℤ g +ℤ A *ℤ m) *ℤ pos (2 ^ 32)) ≤ℤ (M *ℤ (g *ℤ g))
    → (X *ℤ (grain scale))
    ≤ℤ (S *ℤ w +ℤ M *ℤ pos (2 ^ 40))
by_bounds coarse X g A s k t m w S M x y one hg hA hw hx hy h hS hM =
    let n = λ (j : ℕ). lit (pos (2 ^ j)) in
    le_over (X ∷ g ∷ A ∷ s ∷ k ∷ t ∷ m ∷ w ∷ S ∷ M ∷ x ∷ y ∷ [])
    ((lit (pos 0) ≼ at 1) ∷ (lit (pos 0) ≼ at 2) ∷ (lit (pos 0) ≼ at 7) ∷ (at 10 ⊗ n 68 ≼ at 3 ⊗ at 7 ⊕ at 4 ⊗ n 40) ∷
    (at 11 ⊗ n 68 ≼ at 5 ⊗ at 7 ⊕ at 6 ⊗ n 40)
    ∷ (at 0 ⊗ ((lit (pos 16) ⊗ at 1) ⊗ (lit (pos 16) ⊗ at 1)) ≼ n 36 ⊗ (at 10 ⊗ (lit (pos 16) ⊗ at 1)) ⊕ n 36
    ⊗ ((lit (pos 16) ⊗ at 2) ⊗ at 11))
    ∷ ((at 3 ⊗ at 1 ⊕ at 2 ⊗ at 5) ⊗ n 32 ≼ at 8 ⊗ (at 1 ⊗ at 1))
    ∷ ((at 4 ⊗ at 1 ⊕ at 2 ⊗ at 6) ⊗ n 32 ≼ at 9 ⊗ (at 1 ⊗ at 1)) ∷ [])
    (at 1 ⊗ at 1) (at 0 ⊗ n 68) (at 8 ⊗ at 7 ⊕ at 9 ⊗ n 40)
    (naturally (2 ^ 60) ⊠ known 5 ⊞ naturally (2 ^ 32) ⊠ known 0 ⊠ known 3 ⊞ naturally (2 ^ 32) ⊠ known 1 ⊠ known 4 ⊞
    known 2 ⊠ known 6 ⊞ naturally (2 ^ 40) ⊠
    known 7) refl
    one (hg, (hA, (hw, (hx, (hy, (h, (hS, (hM, tt))))))))
by_bounds fine X g A s k t m w S M x y one hg hA hw hx hy h hS hM =
    let n = λ (j : ℕ). lit (pos (2 ^ j)) in
    le_over (X ∷ g ∷ A ∷ s ∷ k ∷ t ∷ m ∷ w ∷ S ∷ M ∷ x ∷ y ∷ [])
    ((lit (pos 0) ≼ at 1) ∷ (lit (pos 0) ≼ at 2) ∷ (lit (pos 0) ≼ at 7) ∷ (at 10 ⊗ n 48 ≼ at 3 ⊗ at 7 ⊕ at 4 ⊗ n 40) ∷
    (at 11 ⊗ n 48 ≼ at 5 ⊗ at 7 ⊕ at 6 ⊗ n 40)
    ∷ (at 0 ⊗ ((lit (pos (2 ^ 24)) ⊗ at 1) ⊗ (lit (pos (2 ^ 24)) ⊗ at 1)) ≼ n 56 ⊗ (at 10 ⊗ (lit (pos (2 ^ 24)) ⊗ at 1))
    ⊕ n 56 ⊗
    ((lit (pos (2 ^ 24)) ⊗ at 2) ⊗ at 11))
    ∷ ((at 3 ⊗ at 1 ⊕ at 2 ⊗ at 5) ⊗ n 32 ≼ at 8 ⊗ (at 1 ⊗ at 1))
    ∷ ((at 4 ⊗ at 1 ⊕ at 2 ⊗ at 6) ⊗ n 32 ≼ at 9 ⊗ (at 1 ⊗ at 1)) ∷ [])
    (at 1 ⊗ at 1) (at 0 ⊗ n 48) (at 8 ⊗ at 7 ⊕ at 9 ⊗ n 40)
    (naturally (2 ^ 0) ⊠ known 5 ⊞ naturally (2 ^ 32) ⊠ known 0 ⊠ known 3 ⊞ naturally (2 ^ 32) ⊠ known 1 ⊠ known 4 ⊞
    known 2 ⊠ known 6 ⊞ naturally (2 ^ 40) ⊠
    known 7) refl
    one (hg, (hA, (hw, (hx, (hy, (h, (hS, (hM, tt))))))))

-- ---- the two quotients
divisor_from : (a c d p : ℤ) → c ≤ℤ d → IsLeastBy a c d p → (c ≤ℤ p) × (p ≤ℤ d)
divisor_from a c d p h (inl n) = (omega (arith, ints, n.1), omega (arith, ints, n.1, h))
divisor_from a c d p h (inr n) = (omega (arith, ints, n.1, h), omega (arith, ints, n.1))

divisor_to : (b c d q : ℤ) → c ≤ℤ d → IsGreatestBy b c d q → (c ≤ℤ q) × (q ≤ℤ d)
divisor_to b c d q h (inl n) = (omega (arith, ints, n.1, h), omega (arith, ints, n.1))
divisor_to b c d q h (inr n) = (omega (arith, ints, n.1), omega (arith, ints, n.1, h))

in_order : (lo hi c z y : ℤ) → pos 0 <ℤ c → (lo *ℤ c) ≤ℤ z → z ≤ℤ y → y ≤ℤ (hi *ℤ c) → lo ≤ℤ hi
in_order lo hi c z y h k l m =
    by_lt_z hi lo
    (λ n. absurd
    (refute (lo ∷ hi ∷ c ∷ z ∷ y ∷ []) ((lit (pos 1) ≼ at 2) ∷ (at 0 ⊗ at 2 ≼ at 3) ∷ (at 3 ≼ at 4)
    ∷ (at 4 ≼ at 1 ⊗ at 2) ∷ (at 1 ⊕ lit (pos 1) ≼ at 0) ∷ [])
    (known 1 ⊞ known 2 ⊞ known 3 ⊞ known 4 ⊠ (known 0 ⊞ naturally 1) ⊞ known 0) refl
    (omega (arith, ints, h), (k, (l, (m, (omega (arith, ints, n), tt)))))))
    (λ n. n)

nonneg_product : (scale : Scale) → (n v : ℤ) → pos 0 ≤ℤ n → pos 0 ≤ℤ v → pos 0 ≤ℤ ((unit scale) *ℤ (n *ℤ v))
nonneg_product coarse n v h k = le_by (n ∷ v ∷ []) ((lit (pos 0) ≼ at 0) ∷ (lit (pos 0) ≼ at 1) ∷ []) (lit (pos 0))
    (lit (pos (2 ^ 36)) ⊗ (at 0 ⊗ at 1))
    (naturally (2 ^ 36) ⊠ known 0 ⊠ known 1) refl (h, (k, tt))
nonneg_product fine n v h k = le_by (n ∷ v ∷ []) ((lit (pos 0) ≼ at 0) ∷ (lit (pos 0) ≼ at 1) ∷ []) (lit (pos 0))
    (lit (pos (2 ^ 56)) ⊗ (at 0 ⊗ at 1))
    (naturally (2 ^ 56) ⊠ known 0 ⊠ known 1) refl (h, (k, tt))

halved : (p q : ℤ) → (pos 2 *ℤ p) ≤ℤ (pos 2 *ℤ q) → p ≤ℤ q
halved p q h = omega (arith, ints, h)

pub quotients_are : (scale : Scale) → (a b c d p q lo hi : ℤ) → a ≤ℤ b → pos 0 <ℤ c → c ≤ℤ d → IsLeastBy a c d p
    → IsGreatestBy b c d q
    → IsFloor lo (a *ℤ (unit scale)) p → IsCeiling hi (b *ℤ (unit scale)) q → AreQuotientsAt scale a b c d lo hi
quotients_are coarse a b c d p q lo hi o h k l g f t =
    let i = divisor_from a c d p k l in
    let j = divisor_to b c d q k g in
    let u = under_all coarse lo a c d p c h (≤ℤ_refl c) k l f.not_above in
    let v = over_all coarse hi b c d q c h (≤ℤ_refl c) k g t.not_below in
    record {
      ordered = in_order lo hi c (a *ℤ pos (2 ^ 36)) (b *ℤ pos (2 ^ 36)) h u (omega (arith, ints, o)) v;
      under = λ e from to. under_all coarse lo a c d p e h from to l f.not_above;
      over = λ e from to. over_all coarse hi b c d q e h from to g t.not_below;
      close = λ n e na bn ze ec.
          let s = divided coarse a b p q lo hi (b -ℤ a) (d -ℤ c) n (omega (arith, ints, h, i.0))
          (omega (arith, ints, h, j.0)) (omega (arith, ints, f.close))
          (omega (arith, ints, t.close)) (≤ℤ_refl (b -ℤ a))
          (omega (arith, ints, i.1, j.0)) (omega (arith, ints, i.0, j.1)) na (omega (arith, ints, o, bn)) in
          let z = nonneg_product coarse n (d -ℤ c) (omega (arith, ints, na, bn, o)) (omega (arith, ints, k)) in
          by_least coarse ((hi -ℤ lo) -ℤ pos 2) q e (b -ℤ a) (pos (2 ^ 36) *ℤ (n *ℤ (d -ℤ c)))
          (omega (arith, ints, ec, j.0)) ze z (omega (arith, ints, o))
          (by_lesser (((hi -ℤ lo) -ℤ pos 2) *ℤ q -ℤ pos (2 ^ 36) *ℤ (b -ℤ a)) p e (pos (2 ^ 36) *ℤ (n *ℤ (d -ℤ c)))
          (omega (arith, ints, ec, i.0)) ze z
          (halved _ _ s));
      least = λ z fc fd. floor_greatest z lo (a *ℤ unit coarse) p (omega (arith, ints, h, i.0))
          (by_least_divisor a c d p z _ l fc fd) f.close;
      greatest = λ z fc fd. ceil_least z hi (b *ℤ unit coarse) q (omega (arith, ints, h, j.0))
          (by_greatest_divisor b c d q z _ g fc fd) t.close;
    }
quotients_are fine a b c d p q lo hi o h k l g f t =
    let i = divisor_from a c d p k l in
    let j = divisor_to b c d q k g in
    let u = under_all fine lo a c d p c h (≤ℤ_refl c) k l f.not_above in
    let v = over_all fine hi b c d q c h (≤ℤ_refl c) k g t.not_below in
    record {
      ordered = in_order lo hi c (a *ℤ pos (2 ^ 56)) (b *ℤ pos (2 ^ 56)) h u (omega (arith, ints, o)) v;
      under = λ e from to. under_all fine lo a c d p e h from to l f.not_above;
      over = λ e from to. over_all fine hi b c d q e h from to g t.not_below;
      close = λ n e na bn ze ec.
          let s = divided fine a b p q lo hi (b -ℤ a) (d -ℤ c) n (omega (arith, ints, h, i.0))
          (omega (arith, ints, h, j.0)) (omega (arith, ints, f.close))
          (omega (arith, ints, t.close)) (≤ℤ_refl (b -ℤ a))
          (omega (arith, ints, i.1, j.0)) (omega (arith, ints, i.0, j.1)) na (omega (arith, ints, o, bn)) in
          let z = nonneg_product fine n (d -ℤ c) (omega (arith, ints, na, bn, o)) (omega (arith, ints, k)) in
          by_least fine ((hi -ℤ lo) -ℤ pos 2) q e (b -ℤ a) (pos (2 ^ 56) *ℤ (n *ℤ (d -ℤ c)))
          (omega (arith, ints, ec, j.0)) ze z (omega (arith, ints, o))
          (by_lesser (((hi -ℤ lo) -ℤ pos 2) *ℤ q -ℤ pos (2 ^ 56) *ℤ (b -ℤ a)) p e (pos (2 ^ 56) *ℤ (n *ℤ (d -ℤ c)))
          (omega (arith, ints, ec, i.0)) ze z
          (halved _ _ s));
      least = λ z fc fd. floor_greatest z lo (a *ℤ unit fine) p (omega (arith, ints, h, i.0))
          (by_least_divisor a c d p z _ l fc fd) f.close;
      greatest = λ z fc fd. ceil_least z hi (b *ℤ unit fine) q (omega (arith, ints, h, j.0))
          (by_greatest_divisor b c d q z _ g fc fd) t.close;
    }

-- ---- the bound
square_above_none : (g : ℕ) → suc (suc g * suc g - 1) ≡ suc g * suc g
square_above_none g = omega arith

by_equal : (n q a b : ℕ) → a ≡ b → n ≤ q * a → n ≤ q * b
by_equal n q a b e h = rw e at h

ceil_square : (n g : ℕ) → n ≤ ceil_div n (suc g * suc g - 1) * (suc g * suc g)
ceil_square n g = by_equal n (ceil_div n (suc g * suc g - 1)) (suc (suc g * suc g - 1)) (suc g * suc g)
    (square_above_none g) (ceil_above n (suc g * suc g - 1))

quotient_kept : (scale : Scale) → (low high : ℤ) (A g s k t m w S M : ℕ) (x y c d lo hi : ℤ)
    → AreQuotientsAt scale x y c d lo hi → (low *ℤ (span scale)) ≤ℤ lo
    → hi ≤ℤ (high *ℤ (span scale)) → AreSized scale A x y → ((span scale) *ℤ pos (suc g)) ≤ℤ c
    → ((y -ℤ x) *ℤ (grain scale)) ≤ℤ pos (s * w + k * 2 ^ 40) → ((d -ℤ c) *ℤ (grain scale)) ≤ℤ pos (t * w + m * 2 ^ 40)
    → (s * suc g + A * t) * 2 ^ 32 ≤ S * (suc g * suc g) → (k * suc g + A * m) * 2 ^ 32 ≤ M * (suc g * suc g)
    → AreKept scale low high S (M + 2 * (slack scale)) w lo hi
quotient_kept coarse low high A g s k t m w S M x y c d lo hi q l u z from wx wy hs hm =
    let n = q.close (pos 16 *ℤ pos A) (pos 16 *ℤ pos (suc g)) z.above z.below (omega (arith, ints)) from in
    let one : pos 1 ≤ℤ (pos (suc g) *ℤ pos (suc g)) = omega (arith, ints) in
    let b = by_bounds coarse ((hi -ℤ lo) -ℤ pos 2) (pos (suc g)) (pos A) (pos s) (pos k) (pos t) (pos m) (pos w) (pos S)
    (pos M) (y -ℤ x) (d -ℤ c) one
    (pos_nonneg (suc g)) (pos_nonneg A) (pos_nonneg w) (omega (arith, ints, wx)) (omega (arith, ints, wy)) n
    (omega (arith, ints, hs)) (omega (arith, ints, hm)) in
    record { ordered = q.ordered; above = l; below = u; close = omega (arith, ints, b) }
quotient_kept fine low high A g s k t m w S M x y c d lo hi q l u z from wx wy hs hm =
    let n = q.close (pos (2 ^ 24) *ℤ pos A) (pos (2 ^ 24) *ℤ pos (suc g)) z.above z.below (omega (arith, ints)) from in
    let one : pos 1 ≤ℤ (pos (suc g) *ℤ pos (suc g)) = omega (arith, ints) in
    let b = by_bounds fine ((hi -ℤ lo) -ℤ pos 2) (pos (suc g)) (pos A) (pos s) (pos k) (pos t) (pos m) (pos w) (pos S)
    (pos M) (y -ℤ x) (d -ℤ c) one
    (pos_nonneg (suc g)) (pos_nonneg A) (pos_nonneg w) (omega (arith, ints, wx)) (omega (arith, ints, wy)) n
    (omega (arith, ints, hs)) (omega (arith, ints, hm)) in
    record { ordered = q.ordered; above = l; below = u; close = omega (arith, ints, b) }

-- the divisors lie in their range, whose greater endpoint is above 0
record HasDivisors (scale : Scale) (g e : ℕ) (b' c d : ℤ) : Type 0 where
  last : pos (suc e) ≡ b'
  first_divisor : LiesIn (span scale) (pos (suc g)) (pos (suc e)) c
  second_divisor : LiesIn (span scale) (pos (suc g)) (pos (suc e)) d

divisors_of : (scale : Scale) → (g : ℕ) (b' : ℤ) (s t w : ℕ) (c d : ℤ) → AreKept scale (pos (suc g)) b' s t w c d
    → HasDivisors scale g (unsigned_abs b' - 1) b' c d
divisors_of scale g b' s t w c d n =
    let e : pos (suc (unsigned_abs b' - 1)) ≡ b' = above_none scale n in
    record {
      last = e;
      first_divisor = rw e (first_in scale (pos (suc g)) b' s t w c d n);
      second_divisor = rw e
          (last_in scale (pos (suc g)) b' s t w c d n);
    }
  where
    above_none : (scale : Scale) → AreKept scale (pos (suc g)) b' s t w c d → pos (suc (unsigned_abs b' - 1)) ≡ b'
    above_none coarse n = omega (arith, ints, n.ordered, n.above, n.below)
    above_none fine n = omega (arith, ints, n.ordered, n.above, n.below)

quotient_low : (scale : Scale) → (a b : ℤ) (g e s t w : ℕ) (b' x y c d lo hi : ℤ) → AreKept scale a b s t w x y
    → HasDivisors scale g e b' c d
    → AreQuotientsAt scale x y c d lo hi → (least_quotient a g e *ℤ (span scale)) ≤ℤ lo
quotient_low coarse a b g e s t w b' x y c d lo hi m n r =
    r.least _ (least_ratio (pos 16) a g e c x (span_natural coarse) n.first_divisor m.above)
    (least_ratio (pos 16) a g e d x (span_natural coarse) n.second_divisor m.above)
quotient_low fine a b g e s t w b' x y c d lo hi m n r =
    r.least _ (least_ratio (pos (2 ^ 24)) a g e c x (span_natural fine) n.first_divisor m.above)
    (least_ratio (pos (2 ^ 24)) a g e d x (span_natural fine) n.second_divisor m.above)

quotient_high : (scale : Scale) → (a b : ℤ) (g e s t w : ℕ) (b' x y c d lo hi : ℤ) → AreKept scale a b s t w x y
    → HasDivisors scale g e b' c d
    → AreQuotientsAt scale x y c d lo hi → hi ≤ℤ (greatest_quotient b g e *ℤ (span scale))
quotient_high coarse a b g e s t w b' x y c d lo hi m n r =
    r.greatest _ (greatest_ratio (pos 16) b g e c y (span_natural coarse) n.first_divisor m.below)
    (greatest_ratio (pos 16) b g e d y (span_natural coarse) n.second_divisor m.below)
quotient_high fine a b g e s t w b' x y c d lo hi m n r =
    r.greatest _ (greatest_ratio (pos (2 ^ 24)) b g e c y (span_natural fine) n.first_divisor m.below)
    (greatest_ratio (pos (2 ^ 24)) b g e d y (span_natural fine) n.second_divisor m.below)

-- the size of the range is at most the quotient of the greatest size by the least divisor
ratio_size : (a b : ℤ) (g e z : ℕ) → least_quotient a g e ≤ℤ greatest_quotient b g e → g ≤ e
    → range_size a b * 2 ^ 32 ≤ z * suc g
    → range_size (least_quotient a g e) (greatest_quotient b g e) ≤ z
ratio_size a b g e z o h k =
    let l : z * suc g ≤ z * suc e = mul-le-mul_left z (omega (arith, h)) in
    let i : (pos 0 -ℤ pos z *ℤ pos (suc g)) ≤ℤ (a *ℤ pos (2 ^ 32)) = omega (arith, ints, k) in
    let j : (pos 0 -ℤ pos z *ℤ pos (suc e)) ≤ℤ (a *ℤ pos (2 ^ 32)) = omega (arith, ints, k, l) in
    let p : (b *ℤ pos (2 ^ 32)) ≤ℤ (pos z *ℤ pos (suc g)) = omega (arith, ints, k) in
    let q : (b *ℤ pos (2 ^ 32)) ≤ℤ (pos z *ℤ pos (suc e)) = omega (arith, ints, k, l) in
    within (least_quotient a g e) (greatest_quotient b g e) o (least_quotient_from (pos z) a g e i j)
    (greatest_quotient_to (pos z) b g e p q)
  where
    within : (x y : ℤ) → x ≤ℤ y → (pos 0 -ℤ pos z) ≤ℤ x → y ≤ℤ pos z → range_size x y ≤ z
    within x y o h k = omega (arith, ints, o, h, k)

-- the range is in order
ratio_order : (scale : Scale) → (x y lo hi : ℤ) → lo ≤ℤ hi → (x *ℤ (span scale)) ≤ℤ lo → hi ≤ℤ (y *ℤ (span scale))
    → x ≤ℤ y
ratio_order coarse x y lo hi o h k = omega (arith, ints, o, h, k)
ratio_order fine x y lo hi o h k = omega (arith, ints, o, h, k)

divisor_order : (scale : Scale) → (g e : ℕ) (c : ℤ) → LiesIn (span scale) (pos (suc g)) (pos (suc e)) c → g ≤ e
divisor_order coarse g e c h = omega (arith, ints, h.from, h.to)
divisor_order fine g e c h = omega (arith, ints, h.from, h.to)

size_below : (n z m : ℕ) → n ≤ z → z < m → n < m
size_below n z m h k = omega (arith, h, k)

pub quotient_narrow : (scale : Scale) → (w : ℕ) (p q : Bound) (x y c d lo hi : ℤ) (i : Interval)
    → AreQuotientsAt scale x y c d lo hi → ShowsEndpoints scale lo hi i
    → IsNarrow w p (between (at_scale scale x) (at_scale scale y))
    → IsNarrow w q (between (at_scale scale c) (at_scale scale d))
    → IsNarrow w (quotient_bound (limits_on scale) p q) i
unfolding quotient_bound IsNarrow
quotient_narrow coarse w unbounded q x y c d lo hi i r v h k = tt
quotient_narrow fine w unbounded q x y c d lo hi i r v h k = tt
quotient_narrow coarse w (bounded a b s t) unbounded x y c d lo hi i r v h k = tt
quotient_narrow fine w (bounded a b s t) unbounded x y c d lo hi i r v h k = tt
quotient_narrow coarse w (bounded a b s t) (bounded (pos zero) b' s' t') x y c d lo hi i r v h k = tt
quotient_narrow fine w (bounded a b s t) (bounded (pos zero) b' s' t') x y c d lo hi i r v h k = tt
quotient_narrow coarse w (bounded a b s t) (bounded (negsuc a') b' s' t') x y c d lo hi i r v h k = tt
quotient_narrow fine w (bounded a b s t) (bounded (negsuc a') b' s' t') x y c d lo hi i r v h k = tt
quotient_narrow coarse w (bounded a b s t) (bounded (pos (suc g)) b' s' t') x y c d lo hi i r v h k =
    let m = kept_of coarse a b s t w x y h in
    let n = kept_of coarse (pos (suc g)) b' s' t' w c d k in
    let e = unsigned_abs b' - 1 in
    let f = divisors_of coarse g b' s' t' w c d n in
    let l = quotient_low coarse a b g e s t w b' x y c d lo hi m f r in
    let u = quotient_high coarse a b g e s t w b' x y c d lo hi m f r in
    let z = ratio_size a b g e _ (ratio_order coarse _ _ lo hi r.ordered l u)
    (divisor_order coarse g e c f.first_divisor)
    (ceil_above (range_size a b * 2 ^ 32) g) in
    limited_narrow coarse _ _ _ _ _ w lo hi i (λ l. size_below _ _ _ z (ltb-true _ _ (both _ _ l).0))
    (quotient_kept coarse _ _ (range_size a b) g s t s' t' w _ _ x y c d lo hi r l u (sized coarse a b s t w x y m)
    (omega (arith, ints, n.above)) m.close
    n.close
    (ceil_square ((s * suc g + range_size a b * s') * 2 ^ 32) g)
    (ceil_square ((t * suc g + range_size a b * t') * 2 ^ 32) g)) v
quotient_narrow fine w (bounded a b s t) (bounded (pos (suc g)) b' s' t') x y c d lo hi i r v h k =
    let m = kept_of fine a b s t w x y h in
    let n = kept_of fine (pos (suc g)) b' s' t' w c d k in
    let e = unsigned_abs b' - 1 in
    let f = divisors_of fine g b' s' t' w c d n in
    let l = quotient_low fine a b g e s t w b' x y c d lo hi m f r in
    let u = quotient_high fine a b g e s t w b' x y c d lo hi m f r in
    let z = ratio_size a b g e _ (ratio_order fine _ _ lo hi r.ordered l u) (divisor_order fine g e c f.first_divisor)
    (ceil_above (range_size a b * 2 ^ 32) g) in
    limited_narrow fine _ _ _ _ _ w lo hi i (λ l. size_below _ _ _ z (ltb-true _ _ (both _ _ l).0))
    (quotient_kept fine _ _ (range_size a b) g s t s' t' w _ _ x y c d lo hi r l u (sized fine a b s t w x y m)
    (omega (arith, ints, n.above)) m.close n.close
    (ceil_square ((s * suc g + range_size a b * s') * 2 ^ 32) g)
    (ceil_square ((t * suc g + range_size a b * t') * 2 ^ 32) g)) v

-- by what may be 0 or less no bound is promised
pub quotient_none : (scale : Scale) → (w : ℕ) (p q : Bound) (x c d : ℤ) (i j : Interval) → (pos 0 <ℤ c → ⊥)
    → IsNarrow w p i
    → IsNarrow w q (between (at_scale scale c) (at_scale scale d)) → IsNarrow w (quotient_bound (limits_on scale) p q) j
unfolding quotient_bound IsNarrow
quotient_none coarse w unbounded q x c d i j n h k = tt
quotient_none fine w unbounded q x c d i j n h k = tt
quotient_none coarse w (bounded a b s t) unbounded x c d i j n h k = tt
quotient_none fine w (bounded a b s t) unbounded x c d i j n h k = tt
quotient_none coarse w (bounded a b s t) (bounded (pos zero) b' s' t') x c d i j n h k = tt
quotient_none fine w (bounded a b s t) (bounded (pos zero) b' s' t') x c d i j n h k = tt
quotient_none coarse w (bounded a b s t) (bounded (negsuc a') b' s' t') x c d i j n h k = tt
quotient_none fine w (bounded a b s t) (bounded (negsuc a') b' s' t') x c d i j n h k = tt
quotient_none coarse w (bounded a b s t) (bounded (pos (suc g)) b' s' t') x c d i j n h k = let m =
    kept_of coarse (pos (suc g)) b' s' t' w c d k in absurd
    (n (omega (arith, ints, m.above)))
quotient_none fine w (bounded a b s t) (bounded (pos (suc g)) b' s' t') x c d i j n h k = let m =
    kept_of fine (pos (suc g)) b' s' t' w c d k in absurd
    (n (omega (arith, ints, m.above)))

pub quotient_of_all : (scale : Scale) → (w : ℕ) (x y : Bound) (i : Interval) → IsNarrow w x everything
    → IsNarrow w (quotient_bound (limits_on scale) x y) i
unfolding quotient_bound IsNarrow
quotient_of_all scale w unbounded y i h = tt
quotient_of_all scale w (bounded a b s k) y i h = absurd h

pub quotient_by_all : (scale : Scale) → (w : ℕ) (x y : Bound) (i : Interval) → IsNarrow w y everything
    → IsNarrow w (quotient_bound (limits_on scale) x y) i
unfolding quotient_bound IsNarrow
quotient_by_all scale w unbounded y i h = tt
quotient_by_all scale w (bounded a b s k) unbounded i h = tt
quotient_by_all scale w (bounded a b s k) (bounded c d t m) i h = absurd h

pub divisor_positive : (b c d q : ℤ) → pos 0 <ℤ c → c ≤ℤ d → IsGreatestBy b c d q → pos 0 <ℤ q
divisor_positive b c d q h k g = let j = divisor_to b c d q k g in omega (arith, ints, h, j.0)

pub first_divisor_positive : (a c d p : ℤ) → pos 0 <ℤ c → c ≤ℤ d → IsLeastBy a c d p → pos 0 <ℤ p
first_divisor_positive a c d p h k g = let j = divisor_from a c d p k g in omega (arith, ints, h, j.0)
