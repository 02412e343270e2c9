-- Quotients and squares of endpoints at a scale, rounded outwards. An inequality of whole numbers, as q c <= a k,
-- becomes one of fractions at the scale by multiplying out (`by_cross`), by cases of the scale and of the divisor's
-- sign. Two endpoints that hold the four products with the reciprocals of the divisor's endpoints hold all quotients
-- (`HoldFour`); those by a divisor below 0 are those of the opposites. Squares go by the cases of `least_square_of`.
use Rattle.interval_endpoints.specs.Scales.{Scale, coarse, fine, at_scale, at_square, unit}
use Rattle.std.proofs.Common.{◌≡◌, ℕ, zero, suc, ◌^◌, ◌-◌, refl, sym, ap, subst, arith, Bool, true, false, cond, ℤ, pos}
use Rattle.std.proofs.Common.{negsuc, ◌*ℤ◌, ◌-ℤ◌, ◌≤ℤ◌, ◌<ℤ◌, [], ◌∷◌, inl, inr}
use Rattle.std.proofs.lemmas.Int.{ints}
use lib.IntN.{neg_ℤ}
use lib.Signed.{lt_z, le_z, ≤ℤ_refl}
use Rattle.book_model.specs.Fraction.{Fraction, ◌≤F◌, times, reciprocal, is_at_most, power as fraction_power}
use Rattle.book_model.specs.Interval.{Interval, between, ◌⊆◌, product, quotient, excludes_zero, least_even}
use Rattle.book_model.specs.Interval.{power as interval_power, zero_fraction}
use Rattle.book_model.proofs.Ring.{at, lit, ◌⊖◌, ◌⊗◌, minus}
use Rattle.book_model.proofs.Bounds.{◌≼◌, known, ◌⊠◌, times as naturally, le_by, pos_nonneg, square_nonneg}
use Rattle.book_model.proofs.IntLaws.{mul_one}
use Rattle.book_model.proofs.Fractions.{by_cross, den_product, larger_keeps}
use Rattle.book_model.proofs.Intervals.{least_is, greatest_is, within_trans}
use Rattle.int_division.specs.Rounding.{IsFloor, IsCeiling}
use Rattle.interval_endpoints.specs.Rounding.{IsOneSided, AreQuotientsAt, least_square_of, ShowsEndpoints}
use Rattle.interval_endpoints.proofs.Keeping.{kept_within}

-- a number in units of 2^-72
-- ---- a / c at the scale
over_z : (q a c k : ℤ) → pos 0 ≤ℤ k → (q *ℤ c) ≤ℤ (a *ℤ k) → (q *ℤ (k *ℤ c)) ≤ℤ ((a *ℤ k) *ℤ k)
over_z q a c k p h = le_by (q ∷ a ∷ c ∷ k ∷ []) ((lit (pos 0) ≼ at 3) ∷ (at 0 ⊗ at 2 ≼ at 1 ⊗ at 3) ∷ [])
    (at 0 ⊗ (at 3 ⊗ at 2)) ((at 1 ⊗ at 3) ⊗ at 3)
    (known 1 ⊠ known 0) refl (p, (h, tt))

over_negative_z : (q a c k : ℤ) → pos 0 ≤ℤ k → (q *ℤ c) ≤ℤ (pos 0 -ℤ a *ℤ k) → (q *ℤ (k *ℤ c)) ≤ℤ ((a *ℤ neg_ℤ k) *ℤ k)
over_negative_z q a c k p h =
    le_by (q ∷ a ∷ c ∷ k ∷ []) ((lit (pos 0) ≼ at 3) ∷ (at 0 ⊗ at 2 ≼ lit (pos 0) ⊖ at 1 ⊗ at 3) ∷ [])
    (at 0 ⊗ (at 3 ⊗ at 2)) ((at 1 ⊗ minus (at 3)) ⊗ at 3)
    (known 1 ⊠ known 0) refl (p, (h, tt))

under_z : (q a c k : ℤ) → pos 0 ≤ℤ k → (a *ℤ k) ≤ℤ (q *ℤ c) → ((a *ℤ k) *ℤ k) ≤ℤ (q *ℤ (k *ℤ c))
under_z q a c k p h = le_by (q ∷ a ∷ c ∷ k ∷ []) ((lit (pos 0) ≼ at 3) ∷ (at 1 ⊗ at 3 ≼ at 0 ⊗ at 2) ∷ [])
    ((at 1 ⊗ at 3) ⊗ at 3) (at 0 ⊗ (at 3 ⊗ at 2))
    (known 1 ⊠ known 0) refl (p, (h, tt))

under_negative_z : (q a c k : ℤ) → pos 0 ≤ℤ k → (pos 0 -ℤ a *ℤ k) ≤ℤ (q *ℤ c) → ((a *ℤ neg_ℤ k) *ℤ k) ≤ℤ (q *ℤ (k *ℤ c))
under_negative_z q a c k p h =
    le_by (q ∷ a ∷ c ∷ k ∷ []) ((lit (pos 0) ≼ at 3) ∷ (lit (pos 0) ⊖ at 1 ⊗ at 3 ≼ at 0 ⊗ at 2) ∷ [])
    ((at 1 ⊗ minus (at 3)) ⊗ at 3) (at 0 ⊗ (at 3 ⊗ at 2))
    (known 1 ⊠ known 0) refl (p, (h, tt))

pub floor_ratio_positive : (scale : Scale) → (q a c : ℤ) → pos 0 <ℤ c → (q *ℤ c) ≤ℤ (a *ℤ (unit scale))
    → at_scale scale q ≤F times (at_scale scale a) (reciprocal (at_scale scale c))
unfolding times reciprocal
floor_ratio_positive coarse q a (pos (suc m)) h f = by_cross (at_scale coarse q) _ (unit coarse)
    ((unit coarse) *ℤ pos (suc m)) refl
    (den_product (2 ^ 36 - 1) m) (over_z q a (pos (suc m)) (unit coarse) (pos_nonneg (2 ^ 36)) f)
floor_ratio_positive fine q a (pos (suc m)) h f = by_cross (at_scale fine q) _ (unit fine) ((unit fine) *ℤ pos (suc m))
    refl (den_product (2 ^ 56 - 1) m)
    (over_z q a (pos (suc m)) (unit fine) (pos_nonneg (2 ^ 56)) f)
floor_ratio_positive coarse q a (pos zero) h f = absurd (omega (arith, ints))
floor_ratio_positive fine q a (pos zero) h f = absurd (omega (arith, ints))
floor_ratio_positive coarse q a (negsuc m) h f = absurd (omega (arith, ints))
floor_ratio_positive fine q a (negsuc m) h f = absurd (omega (arith, ints))

negated : (m : ℕ) → pos 0 -ℤ negsuc m ≡ pos (suc m)
negated m = omega (arith, ints)

pub floor_ratio_negative : (scale : Scale) → (q a c : ℤ) → c <ℤ pos 0
    → (q *ℤ (pos 0 -ℤ c)) ≤ℤ (pos 0 -ℤ a *ℤ (unit scale))
    → at_scale scale q ≤F times (at_scale scale a) (reciprocal (at_scale scale c))
unfolding times reciprocal
floor_ratio_negative coarse q a (negsuc m) h f =
    by_cross (at_scale coarse q) _ (unit coarse) ((unit coarse) *ℤ pos (suc m)) refl (den_product (2 ^ 36 - 1) m)
    (over_negative_z q a (pos (suc m)) (unit coarse) (pos_nonneg (2 ^ 36))
    (subst (λ x. (q *ℤ x) ≤ℤ (pos 0 -ℤ a *ℤ (unit coarse))) (negated m) f))
floor_ratio_negative fine q a (negsuc m) h f =
    by_cross (at_scale fine q) _ (unit fine) ((unit fine) *ℤ pos (suc m)) refl (den_product (2 ^ 56 - 1) m)
    (over_negative_z q a (pos (suc m)) (unit fine) (pos_nonneg (2 ^ 56))
    (subst (λ x. (q *ℤ x) ≤ℤ (pos 0 -ℤ a *ℤ (unit fine))) (negated m) f))
floor_ratio_negative coarse q a (pos m) h f = absurd (omega (arith, ints))
floor_ratio_negative fine q a (pos m) h f = absurd (omega (arith, ints))

pub ceil_ratio_positive : (scale : Scale) → (q a c : ℤ) → pos 0 <ℤ c → (a *ℤ (unit scale)) ≤ℤ (q *ℤ c)
    → times (at_scale scale a) (reciprocal (at_scale scale c)) ≤F at_scale scale q
unfolding times reciprocal
ceil_ratio_positive coarse q a (pos (suc m)) h f = by_cross _ (at_scale coarse q) ((unit coarse) *ℤ pos (suc m))
    (unit coarse) (den_product (2 ^ 36 - 1) m) refl
    (under_z q a (pos (suc m)) (unit coarse) (pos_nonneg (2 ^ 36)) f)
ceil_ratio_positive fine q a (pos (suc m)) h f = by_cross _ (at_scale fine q) ((unit fine) *ℤ pos (suc m)) (unit fine)
    (den_product (2 ^ 56 - 1) m) refl
    (under_z q a (pos (suc m)) (unit fine) (pos_nonneg (2 ^ 56)) f)
ceil_ratio_positive coarse q a (pos zero) h f = absurd (omega (arith, ints))
ceil_ratio_positive fine q a (pos zero) h f = absurd (omega (arith, ints))
ceil_ratio_positive coarse q a (negsuc m) h f = absurd (omega (arith, ints))
ceil_ratio_positive fine q a (negsuc m) h f = absurd (omega (arith, ints))

pub ceil_ratio_negative : (scale : Scale) → (q a c : ℤ) → c <ℤ pos 0
    → (pos 0 -ℤ a *ℤ (unit scale)) ≤ℤ (q *ℤ (pos 0 -ℤ c))
    → times (at_scale scale a) (reciprocal (at_scale scale c)) ≤F at_scale scale q
unfolding times reciprocal
ceil_ratio_negative coarse q a (negsuc m) h f =
    by_cross _ (at_scale coarse q) ((unit coarse) *ℤ pos (suc m)) (unit coarse) (den_product (2 ^ 36 - 1) m) refl
    (under_negative_z q a (pos (suc m)) (unit coarse) (pos_nonneg (2 ^ 36))
    (subst (λ x. (pos 0 -ℤ a *ℤ (unit coarse)) ≤ℤ (q *ℤ x)) (negated m) f))
ceil_ratio_negative fine q a (negsuc m) h f =
    by_cross _ (at_scale fine q) ((unit fine) *ℤ pos (suc m)) (unit fine) (den_product (2 ^ 56 - 1) m) refl
    (under_negative_z q a (pos (suc m)) (unit fine) (pos_nonneg (2 ^ 56))
    (subst (λ x. (pos 0 -ℤ a *ℤ (unit fine)) ≤ℤ (q *ℤ x)) (negated m) f))
ceil_ratio_negative coarse q a (pos m) h f = absurd (omega (arith, ints))
ceil_ratio_negative fine q a (pos m) h f = absurd (omega (arith, ints))

-- ---- quotients
-- two endpoints hold the products with the reciprocals of a divisor, where they hold the four of the endpoints
record HoldFour (scale : Scale) (a b : ℤ) (c d : Fraction) (lo hi : ℤ) : Type 0 where
  low_1 : at_scale scale lo ≤F times (at_scale scale a) c
  low_2 : at_scale scale lo ≤F times (at_scale scale a) d
  low_3 : at_scale scale lo ≤F times (at_scale scale b) c
  low_4 : at_scale scale lo ≤F times (at_scale scale b) d
  high_1 : times (at_scale scale a) c ≤F at_scale scale hi
  high_2 : times (at_scale scale a) d ≤F at_scale scale hi
  high_3 : times (at_scale scale b) c ≤F at_scale scale hi
  high_4 : times (at_scale scale b) d ≤F at_scale scale hi

four_enclose : (scale : Scale) → (a b : ℤ) (c d : Fraction) (lo hi : ℤ) → HoldFour scale a b c d lo hi
    → product (between (at_scale scale a) (at_scale scale b)) (between c d) ⊆ between (at_scale scale lo)
    (at_scale scale hi)
unfolding product
four_enclose scale a b c d lo hi h = record {
  endpoints = (
    least_is (at_scale scale lo) _ _ _ _ h.low_1 h.low_2 h.low_3 h.low_4,
    greatest_is (at_scale scale hi) _ _ _ _ h.high_1 h.high_2 h.high_3 h.high_4,
  );
}

excludes_from : (scale : Scale) → (c d : ℤ) → IsOneSided c d → excludes_zero (at_scale scale c) (at_scale scale d)
    ≡ true
excludes_from coarse c d (inl h) = let p : pos 0 <ℤ c = h.0 in let e : true ≡ lt_z (pos 0) c = omega (arith, ints) in
    rw (← e) refl
excludes_from fine c d (inl h) = let p : pos 0 <ℤ c = h.0 in let e : true ≡ lt_z (pos 0) c = omega (arith, ints) in
    rw (← e) refl
excludes_from coarse c d (inr h) = by_test (lt_z (pos 0) c)
  where
    by_test : (t : Bool) → cond t true (lt_z d (pos 0)) ≡ true
    by_test true = refl
    by_test false = let p : d <ℤ pos 0 = h.1 in let e : true ≡ lt_z d (pos 0) = omega (arith, ints) in sym e
excludes_from fine c d (inr h) = by_test (lt_z (pos 0) c)
  where
    by_test : (t : Bool) → cond t true (lt_z d (pos 0)) ≡ true
    by_test true = refl
    by_test false = let p : d <ℤ pos 0 = h.1 in let e : true ≡ lt_z d (pos 0) = omega (arith, ints) in sym e

-- by a divisor on one side of 0
pub quotient_encloses : (scale : Scale) → (a b c d : ℤ) (i : Interval) → IsOneSided c d
    → product (between (at_scale scale a) (at_scale scale b))
    (between (reciprocal (at_scale scale d)) (reciprocal (at_scale scale c))) ⊆ i
    → quotient (between (at_scale scale a) (at_scale scale b)) (between (at_scale scale c) (at_scale scale d)) ⊆ i
unfolding quotient
quotient_encloses coarse a b c d i n h = let t = excludes_from coarse c d n in simp t h
quotient_encloses fine a b c d i n h = let t = excludes_from fine c d n in simp t h

-- the quotients by a divisor above 0
pub positive_enclosed : (scale : Scale) → (a b c d lo hi : ℤ) (i : Interval) → a ≤ℤ b → pos 0 <ℤ c → c ≤ℤ d
    → AreQuotientsAt scale a b c d lo hi
    → ShowsEndpoints scale lo hi i → quotient (between (at_scale scale a) (at_scale scale b))
    (between (at_scale scale c) (at_scale scale d)) ⊆ i
positive_enclosed coarse a b c d lo hi i o h k q v =
    let e : pos 0 <ℤ d = omega (arith, ints, h, k) in
    let uc = q.under c (≤ℤ_refl c) k in
    let ud = q.under d k (≤ℤ_refl d) in
    let vc = q.over c (≤ℤ_refl c) k in
    let vd = q.over d k (≤ℤ_refl d) in
    quotient_encloses coarse a b c d i (inl (h, e))
    (within_trans
    (four_enclose coarse a b (reciprocal (at_scale coarse d)) (reciprocal (at_scale coarse c)) lo hi
    (record {
      low_1 = floor_ratio_positive coarse lo a d e ud;
      low_2 = floor_ratio_positive coarse lo a c h uc;
      low_3 = floor_ratio_positive coarse lo b d e (omega (arith, ints, ud, o));
      low_4 = floor_ratio_positive coarse lo b c h (omega (arith, ints, uc, o));
      high_1 = ceil_ratio_positive coarse hi a d e (omega (arith, ints, vd, o));
      high_2 = ceil_ratio_positive coarse hi a c h (omega (arith, ints, vc, o));
      high_3 = ceil_ratio_positive coarse hi b d e vd;
      high_4 = ceil_ratio_positive coarse hi b c h vc;
    }))
    (kept_within coarse lo hi i v))
positive_enclosed fine a b c d lo hi i o h k q v =
    let e : pos 0 <ℤ d = omega (arith, ints, h, k) in
    let uc = q.under c (≤ℤ_refl c) k in
    let ud = q.under d k (≤ℤ_refl d) in
    let vc = q.over c (≤ℤ_refl c) k in
    let vd = q.over d k (≤ℤ_refl d) in
    quotient_encloses fine a b c d i (inl (h, e))
    (within_trans
    (four_enclose fine a b (reciprocal (at_scale fine d)) (reciprocal (at_scale fine c)) lo hi
    (record {
      low_1 = floor_ratio_positive fine lo a d e ud;
      low_2 = floor_ratio_positive fine lo a c h uc;
      low_3 = floor_ratio_positive fine lo b d e (omega (arith, ints, ud, o));
      low_4 = floor_ratio_positive fine lo b c h (omega (arith, ints, uc, o));
      high_1 = ceil_ratio_positive fine hi a d e (omega (arith, ints, vd, o));
      high_2 = ceil_ratio_positive fine hi a c h (omega (arith, ints, vc, o));
      high_3 = ceil_ratio_positive fine hi b d e vd;
      high_4 = ceil_ratio_positive fine hi b c h vc;
    }))
    (kept_within fine lo hi i v))

-- the quotients by a divisor below 0: those of the opposites
pub negative_enclosed : (scale : Scale) → (a b c d x y z w lo hi : ℤ) (i : Interval) → a ≤ℤ b → d <ℤ pos 0 → c ≤ℤ d
    → x ≡ pos 0 -ℤ b → y ≡ pos 0 -ℤ a → z
    ≡ pos 0 -ℤ d → w ≡ pos 0 -ℤ c → AreQuotientsAt scale x y z w lo hi → ShowsEndpoints scale lo hi i
    → quotient (between (at_scale scale a) (at_scale scale b)) (between (at_scale scale c) (at_scale scale d)) ⊆ i
negative_enclosed coarse a b c d x y z w lo hi i o h k ex ey ez ew q v =
    let e : c <ℤ pos 0 = omega (arith, ints, h, k) in
    let uc : (lo *ℤ (pos 0 -ℤ c)) ≤ℤ (x *ℤ pos (2 ^ 36)) =
    rw ew at (q.under w (omega (arith, ints, ez, ew, k)) (≤ℤ_refl w)) in
    let ud : (lo *ℤ (pos 0 -ℤ d)) ≤ℤ (x *ℤ pos (2 ^ 36)) =
    rw ez at (q.under z (≤ℤ_refl z) (omega (arith, ints, ez, ew, k))) in
    let vc : (y *ℤ pos (2 ^ 36)) ≤ℤ (hi *ℤ (pos 0 -ℤ c)) =
    rw ew at (q.over w (omega (arith, ints, ez, ew, k)) (≤ℤ_refl w)) in
    let vd : (y *ℤ pos (2 ^ 36)) ≤ℤ (hi *ℤ (pos 0 -ℤ d)) =
    rw ez at (q.over z (≤ℤ_refl z) (omega (arith, ints, ez, ew, k))) in
    quotient_encloses coarse a b c d i (inr (e, h))
    (within_trans
    (four_enclose coarse a b (reciprocal (at_scale coarse d)) (reciprocal (at_scale coarse c)) lo hi
    (record {
      low_1 = floor_ratio_negative coarse lo a d h (omega (arith, ints, ud, ex, o));
      low_2 = floor_ratio_negative coarse lo a c e (omega (arith, ints, uc, ex, o));
      low_3 = floor_ratio_negative coarse lo b d h (omega (arith, ints, ud, ex));
      low_4 = floor_ratio_negative coarse lo b c e (omega (arith, ints, uc, ex));
      high_1 = ceil_ratio_negative coarse hi a d h (omega (arith, ints, vd, ey));
      high_2 = ceil_ratio_negative coarse hi a c e (omega (arith, ints, vc, ey));
      high_3 = ceil_ratio_negative coarse hi b d h (omega (arith, ints, vd, ey, o));
      high_4 = ceil_ratio_negative coarse hi b c e (omega (arith, ints, vc, ey, o));
    }))
    (kept_within coarse lo hi i v))
negative_enclosed fine a b c d x y z w lo hi i o h k ex ey ez ew q v =
    let e : c <ℤ pos 0 = omega (arith, ints, h, k) in
    let uc : (lo *ℤ (pos 0 -ℤ c)) ≤ℤ (x *ℤ pos (2 ^ 56)) =
    rw ew at (q.under w (omega (arith, ints, ez, ew, k)) (≤ℤ_refl w)) in
    let ud : (lo *ℤ (pos 0 -ℤ d)) ≤ℤ (x *ℤ pos (2 ^ 56)) =
    rw ez at (q.under z (≤ℤ_refl z) (omega (arith, ints, ez, ew, k))) in
    let vc : (y *ℤ pos (2 ^ 56)) ≤ℤ (hi *ℤ (pos 0 -ℤ c)) =
    rw ew at (q.over w (omega (arith, ints, ez, ew, k)) (≤ℤ_refl w)) in
    let vd : (y *ℤ pos (2 ^ 56)) ≤ℤ (hi *ℤ (pos 0 -ℤ d)) =
    rw ez at (q.over z (≤ℤ_refl z) (omega (arith, ints, ez, ew, k))) in
    quotient_encloses fine a b c d i (inr (e, h))
    (within_trans
    (four_enclose fine a b (reciprocal (at_scale fine d)) (reciprocal (at_scale fine c)) lo hi
    (record {
      low_1 = floor_ratio_negative fine lo a d h (omega (arith, ints, ud, ex, o));
      low_2 = floor_ratio_negative fine lo a c e (omega (arith, ints, uc, ex, o));
      low_3 = floor_ratio_negative fine lo b d h (omega (arith, ints, ud, ex));
      low_4 = floor_ratio_negative fine lo b c e (omega (arith, ints, uc, ex));
      high_1 = ceil_ratio_negative fine hi a d h (omega (arith, ints, vd, ey));
      high_2 = ceil_ratio_negative fine hi a c e (omega (arith, ints, vc, ey));
      high_3 = ceil_ratio_negative fine hi b d h (omega (arith, ints, vd, ey, o));
      high_4 = ceil_ratio_negative fine hi b c e (omega (arith, ints, vc, ey, o));
    }))
    (kept_within fine lo hi i v))

-- ---- squares
square_over : (scale : Scale) → (x n : ℤ) → n ≤ℤ (x *ℤ x) → at_square scale n ≤F fraction_power (at_scale scale x) 2
unfolding fraction_power times
square_over coarse x n h = record {
  cross = le_by (x ∷ n ∷ []) ((at 1 ≼ at 0 ⊗ at 0) ∷ []) (at 1 ⊗ lit (pos (2 ^ 72)))
      ((at 0 ⊗ (at 0 ⊗ lit (pos 1))) ⊗ lit (pos (2 ^ 72))) (known 0 ⊠ naturally (2 ^ 72)) refl (h, tt);
}
square_over fine x n h = record {
  cross = le_by (x ∷ n ∷ []) ((at 1 ≼ at 0 ⊗ at 0) ∷ []) (at 1 ⊗ lit (pos (2 ^ 112)))
      ((at 0 ⊗ (at 0 ⊗ lit (pos 1))) ⊗ lit (pos (2 ^ 112))) (known 0 ⊠ naturally (2 ^ 112)) refl (h, tt);
}

square_under : (scale : Scale) → (x n : ℤ) → (x *ℤ x) ≤ℤ n → fraction_power (at_scale scale x) 2 ≤F at_square scale n
unfolding fraction_power times
square_under coarse x n h = record {
  cross = le_by (x ∷ n ∷ []) ((at 0 ⊗ at 0 ≼ at 1) ∷ []) ((at 0 ⊗ (at 0 ⊗ lit (pos 1))) ⊗ lit (pos (2 ^ 72)))
      (at 1 ⊗ lit (pos (2 ^ 72))) (known 0 ⊠ naturally (2 ^ 72)) refl (h, tt);
}
square_under fine x n h = record {
  cross = le_by (x ∷ n ∷ []) ((at 0 ⊗ at 0 ≼ at 1) ∷ []) ((at 0 ⊗ (at 0 ⊗ lit (pos 1))) ⊗ lit (pos (2 ^ 112)))
      (at 1 ⊗ lit (pos (2 ^ 112))) (known 0 ⊠ naturally (2 ^ 112)) refl (h, tt);
}

square_zero : (scale : Scale) → at_square scale (pos 0) ≤F fraction_power zero_fraction 2
unfolding fraction_power times
square_zero coarse = record { cross = omega (arith, ints) }
square_zero fine = record { cross = omega (arith, ints) }

square_above : (scale : Scale) → (lo hi : ℤ) → at_square scale (least_square_of lo hi) ≤F least_even (at_scale scale lo)
    (at_scale scale hi) 2
unfolding least_even is_at_most
square_above coarse lo hi =
    by_test (le_z (pos 0 *ℤ pos (2 ^ 36)) (lo *ℤ pos 1)) (le_z (pos 0) lo) (ap (λ x. le_z (pos 0) x) (mul_one lo))
    (le_z (hi *ℤ pos 1) (pos 0 *ℤ pos (2 ^ 36)))
    (le_z hi (pos 0))
    (ap (λ x. le_z x (pos 0)) (mul_one hi))
  where
    both : (t u : Bool) → at_square coarse (cond t (lo *ℤ lo) (cond u (hi *ℤ hi) (pos 0))) ≤F cond t
        (fraction_power (at_scale coarse lo) 2)
        (cond u (fraction_power (at_scale coarse hi) 2) (fraction_power zero_fraction 2))
    both true u = square_over coarse lo (lo *ℤ lo) (≤ℤ_refl _)
    both false true = square_over coarse hi (hi *ℤ hi) (≤ℤ_refl _)
    both false false = square_zero coarse

    by_test : (t t' : Bool) → t ≡ t' → (u u' : Bool) → u ≡ u'
        → at_square coarse (cond t' (lo *ℤ lo) (cond u' (hi *ℤ hi) (pos 0))) ≤F cond t
        (fraction_power (at_scale coarse lo) 2)
        (cond u (fraction_power (at_scale coarse hi) 2) (fraction_power zero_fraction 2))
    by_test t t' e u u' f = rw (e, f) (both t' u')
square_above fine lo hi =
    by_test (le_z (pos 0 *ℤ pos (2 ^ 56)) (lo *ℤ pos 1)) (le_z (pos 0) lo) (ap (λ x. le_z (pos 0) x) (mul_one lo))
    (le_z (hi *ℤ pos 1) (pos 0 *ℤ pos (2 ^ 56)))
    (le_z hi (pos 0))
    (ap (λ x. le_z x (pos 0)) (mul_one hi))
  where
    both : (t u : Bool) → at_square fine (cond t (lo *ℤ lo) (cond u (hi *ℤ hi) (pos 0))) ≤F cond t
        (fraction_power (at_scale fine lo) 2)
        (cond u (fraction_power (at_scale fine hi) 2) (fraction_power zero_fraction 2))
    both true u = square_over fine lo (lo *ℤ lo) (≤ℤ_refl _)
    both false true = square_over fine hi (hi *ℤ hi) (≤ℤ_refl _)
    both false false = square_zero fine

    by_test : (t t' : Bool) → t ≡ t' → (u u' : Bool) → u ≡ u'
        → at_square fine (cond t' (lo *ℤ lo) (cond u' (hi *ℤ hi) (pos 0))) ≤F cond t
        (fraction_power (at_scale fine lo) 2)
        (cond u (fraction_power (at_scale fine hi) 2) (fraction_power zero_fraction 2))
    by_test t t' e u u' f = rw (e, f) (both t' u')

rounded_within : (scale : Scale) → (l g lo hi : ℤ) → IsFloor lo l (unit scale) → IsCeiling hi g (unit scale)
    → between (at_square scale l) (at_square scale g) ⊆ between (at_scale scale lo) (at_scale scale hi)
rounded_within coarse l g lo hi f c = record {
  endpoints = (
    record { cross = omega (arith, ints, f.not_above) },
    record { cross = omega (arith, ints, c.not_below) },
  );
}
rounded_within fine l g lo hi f c =
    record {
      endpoints = (
        record { cross = omega (arith, ints, f.not_above) },
        record { cross = omega (arith, ints, c.not_below) },
      );
    }

pub square_encloses : (scale : Scale) → (a b n g lo hi : ℤ) (i : Interval) → n ≡ least_square_of a b → (a *ℤ a) ≤ℤ g
    → (b *ℤ b) ≤ℤ g → IsFloor lo n (unit scale)
    → IsCeiling hi g (unit scale) → ShowsEndpoints scale lo hi i
    → interval_power (between (at_scale scale a) (at_scale scale b)) 2 ⊆ i
unfolding interval_power
square_encloses coarse a b n g lo hi i f h k fl ce kept =
    within_trans
    (record {
      endpoints = (
        square_above coarse a b,
        larger_keeps (λ z. z ≤F at_square coarse g) (fraction_power (at_scale coarse a) 2)
            (fraction_power (at_scale coarse b) 2) (square_under coarse a g h) (square_under coarse b g k),
      );
    })
    (within_trans (rounded_within coarse (least_square_of a b) g lo hi (subst (λ z. IsFloor lo z (pos (2 ^ 36))) f fl)
    ce) (kept_within coarse lo hi i kept))
square_encloses fine a b n g lo hi i f h k fl ce kept =
    within_trans
    (record {
      endpoints = (
        square_above fine a b,
        larger_keeps (λ z. z ≤F at_square fine g) (fraction_power (at_scale fine a) 2)
            (fraction_power (at_scale fine b) 2)
            (square_under fine a g h) (square_under fine b g k),
      );
    })
    (within_trans (rounded_within fine (least_square_of a b) g lo hi (subst (λ z. IsFloor lo z (pos (2 ^ 56))) f fl) ce)
    (kept_within fine lo hi i kept))

-- the least square is at most the greatest
square_z : (x : ℤ) → pos 0 ≤ℤ (x *ℤ x)
square_z x = square_nonneg x

pub squares_order : (a b n g : ℤ) → n ≡ least_square_of a b → (a *ℤ a) ≤ℤ g → (b *ℤ b) ≤ℤ g → n ≤ℤ g
squares_order a b n g e h k = rw e (by_test (le_z (pos 0) a) (le_z b (pos 0)))
  where
    by_test : (t u : Bool) → cond t (a *ℤ a) (cond u (b *ℤ b) (pos 0)) ≤ℤ g
    by_test true u = h
    by_test false true = k
    by_test false false = let z = square_z a in omega (arith, ints)
