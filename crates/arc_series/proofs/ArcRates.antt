-- Arctangents of negative numbers rise the less, the further these are from 0: of numbers up to c, by at most 9/4 times
-- what the numbers do over the square of 1 - c, in radians. In each piece the arctangent is that of another number, a
-- fraction in the first, and moves by no more than that does: that this is below the rate is polynomial, and a
-- certificate. Then in degrees, and of whole numbers.
use Rattle.std.proofs.Common.{◌≡◌, subst, zero, suc, ◌*◌, ◌^◌, ◌-◌, ℕ, refl, arith, ℤ, pos, negsuc, ◌+ℤ◌, ◌-ℤ◌, ◌*ℤ◌}
use Rattle.std.proofs.Common.{◌≤ℤ◌, [], ◌∷◌}
use Rattle.std.proofs.lemmas.Int.{ints}
use Rattle.book_model.proofs.IntLaws.{mul_assoc, mul_add, mul_left_comm}
use lib.IntN.{neg_ℤ}
use Rattle.book_model.specs.Fraction.{Fraction, ◌≤F◌, whole, plus, opposite, times, reciprocal}
use Rattle.book_model.specs.Interval.{Interval, between, ◌⊆◌, one}
use Rattle.book_model.proofs.Ring.{at, lit, ◌⊕◌, ◌⊖◌, ◌⊗◌, minus}
use Rattle.book_model.proofs.Fractions.{le_refl, le_trans, plus_mono, opposite_mono, IsPositive, positive_above}
use Rattle.book_model.proofs.Fractions.{reciprocal_anti_positive}
use Rattle.book_model.proofs.Certificates.{zero_F, ◌≼◌, ◌≗◌, known, multiple, square, ◌⊞◌, ◌⊠◌, natural, le_by, le_over}
use Rattle.book_model.specs.programs.Leading.{units_of_56}
use Rattle.book_model.specs.numbers.Arcs.{half, minus_half, arc_above, arc_beyond, mirrored}
use Rattle.book_model.proofs.ArcPieces.{InPiece, recip_one, recip_nonneg, turned, sum_positive, turned_in}
use Rattle.book_model.proofs.ArcPieces.{three_positive, recip_in, opposite_three}
use Rattle.book_model.proofs.ArcPieces.{opposite_above}
use Rattle.arc_series.specs.declared.pieces.Piece.{Piece}
use Rattle.arc_series.specs.declared.pieces.Piece.TheVariants.{FarBelow, Below, Near, Above, FarAbove}
use Rattle.arc_series.specs.Forms.{piece_of}
use Rattle.arc_series.specs.Widths.{IsRate}
use Rattle.arc_series.proofs.ArcSlopes.{rate, Climbs, climbing, near_climbs, sums_climb, opposites_climb, turned_rises}

-- ---- a rate
-- of numbers up to c, which are at most 0
record IsRated (s c : Fraction) : Type 0 where
  nonneg : zero_F ≤F s
  below : c ≤F zero_F
  enough : whole (pos 9) ≤F times (times (whole (pos 4)) s) (times (plus one (opposite c)) (plus one (opposite c)))

-- 1 / (1 - y)
abbrev over_sum : Fraction → Fraction
over_sum y = reciprocal (plus (opposite y) one)

one_more_positive : (y : Fraction) → y ≤F zero_F → IsPositive (plus (opposite y) one)
one_more_positive y h =
    positive_above one (plus (opposite y) one) (record { above = omega (arith, ints) })
    (le_by (y ∷ []) ((at 0 ≼ lit (pos 0)) ∷ []) (lit (pos 1)) (minus (at 0) ⊕ lit (pos 1)) (known 0) refl (h, tt))

rate_at : (s c y : Fraction) → IsRated s c → y ≤F c → times (whole (pos 9)) (times (over_sum y) (over_sum y)) ≤F times
    (whole (pos 4)) s
rate_at s c y r h =
    let p = one_more_positive y (le_trans y c zero_F h r.below) in
    le_by (y ∷ c ∷ s ∷ over_sum y ∷ [])
    ((at 0 ≼ at 1) ∷ (at 1 ≼ lit (pos 0)) ∷ (lit (pos 0) ≼ at 2) ∷
    (lit (pos 9) ≼ (lit (pos 4) ⊗ at 2) ⊗ ((lit (pos 1) ⊕ minus (at 1)) ⊗ (lit (pos 1) ⊕ minus (at 1))))
    ∷ (lit (pos 0) ≼ at 3) ∷
    ((minus (at 0) ⊕ lit (pos 1)) ⊗ at 3 ≗ lit (pos 1)) ∷ [])
    (lit (pos 9) ⊗ (at 3 ⊗ at 3)) (lit (pos 4) ⊗ at 2)
    (square (at 3) ⊠ known 3 ⊞ natural 4 ⊠ known 2 ⊠ known 0 ⊠ known 4 ⊠ (natural 1 ⊞ (natural 1 ⊞ known 1) ⊠ known 4) ⊞
    multiple 5
    (lit (pos 4) ⊗ at 2 ⊗ (lit (pos 1) ⊕ (lit (pos 1) ⊖ at 1) ⊗ at 3))) refl
    (h, (r.below, (r.nonneg, (r.enough, (recip_nonneg _ p, (recip_one _ p, tt))))))

-- what the numbers do, at a rate
abbrev risen : (s x y : Fraction) → Fraction
risen s x y = times s (plus y (opposite x))

-- ---- up to -3
module _ (s c x y : Fraction) (r : IsRated s c) (h : x ≤F y) (k : y ≤F c) where
  below_none : y ≤F zero_F
  below_none = le_trans y c zero_F k r.below

  third_less : whole (pos 3) ≤F opposite y → times (whole (pos 3)) (reciprocal (opposite y)) ≤F times (whole (pos 4))
      (over_sum y)
  third_less v =
      let p = three_positive (opposite y) v in
      let q = one_more_positive y below_none in
      le_by (y ∷ reciprocal (opposite y) ∷ over_sum y ∷ [])
      ((lit (pos 3) ≼ minus (at 0)) ∷ (lit (pos 0) ≼ at 1) ∷ (lit (pos 0) ≼ at 2) ∷ (minus (at 0) ⊗ at 1 ≗ lit (pos 1))
      ∷
      ((minus (at 0) ⊕ lit (pos 1)) ⊗ at 2 ≗ lit (pos 1)) ∷ [])
      (lit (pos 3) ⊗ at 1) (lit (pos 4) ⊗ at 2)
      (known 1 ⊠ known 2 ⊠ known 0 ⊞ multiple 3 (lit (pos 4) ⊗ at 2) ⊞ multiple 4 (lit (negsuc 2) ⊗ at 1)) refl
      (v, (recip_nonneg _ p, (recip_nonneg _ q, (recip_one _ p, (recip_one _ q, tt)))))

  recips_fall : whole (pos 3) ≤F opposite x → whole (pos 3) ≤F opposite y → reciprocal (opposite x) ≤F reciprocal
      (opposite y)
  recips_fall w v = reciprocal_anti_positive (opposite y) (opposite x) (three_positive (opposite y) v)
      (three_positive (opposite x) w) (opposite_mono x y h)

  recips_rate : whole (pos 3) ≤F opposite x → whole (pos 3) ≤F opposite y
      → times (reciprocal (opposite x)) (reciprocal (opposite y)) ≤F s
  recips_rate w v =
      le_over 63 (s ∷ over_sum y ∷ reciprocal (opposite x) ∷ reciprocal (opposite y) ∷ [])
      ((lit (pos 3) ⊗ at 3 ≼ lit (pos 4) ⊗ at 1) ∷ (lit (pos 0) ≼ at 3) ∷ (at 2 ≼ at 3)
      ∷ (lit (pos 9) ⊗ (at 1 ⊗ at 1) ≼ lit (pos 4) ⊗ at 0) ∷ [])
      (at 2 ⊗ at 3) (at 0)
      (natural 16 ⊠ known 3 ⊞ natural 9 ⊠ known 0 ⊠ (known 0 ⊞ natural 6 ⊠ known 1) ⊞ natural 17 ⊠ square (at 3) ⊞
      natural 64 ⊠ known 1 ⊠ known 2) refl
      (third_less v, (recip_nonneg _ (three_positive (opposite y) v), (recips_fall w v, (rate_at s c y r k, tt))))

  recips_step : whole (pos 3) ≤F opposite x → whole (pos 3) ≤F opposite y
      → reciprocal (opposite y) ≤F plus (reciprocal (opposite x)) (risen s x y)
  recips_step w v =
      le_by (x ∷ y ∷ s ∷ reciprocal (opposite x) ∷ reciprocal (opposite y) ∷ [])
      ((at 0 ≼ at 1) ∷ (at 3 ⊗ at 4 ≼ at 2) ∷ (minus (at 0) ⊗ at 3 ≗ lit (pos 1)) ∷ (minus (at 1) ⊗ at 4 ≗ lit (pos 1))
      ∷ [])
      (at 4) (at 3 ⊕ at 2 ⊗ (at 1 ⊕ minus (at 0)))
      (known 0 ⊠ known 1 ⊞ multiple 3 (at 3) ⊞ multiple 2 (minus (at 4))) refl (
        h,
        (
          recips_rate w v,
          (recip_one _ (three_positive (opposite x) w), (recip_one _ (three_positive (opposite y) v), tt)),
        ),
      )

  far_rated : whole (pos 3) ≤F opposite x → whole (pos 3) ≤F opposite y
      → Climbs (risen s x y) (mirrored arc_beyond 40 x) (mirrored arc_beyond 40 y)
  unfolding arc_beyond
  far_rated w v =
      opposites_climb (risen s x y)
      (sums_climb (whole (pos 90)) (risen s x y)
      (opposites_climb (risen s x y)
      (near_climbs (reciprocal (opposite x)) (reciprocal (opposite y)) (risen s x y) (recip_in (opposite x) w)
      (recip_in (opposite y) v) (recips_fall w v)
      (recips_step w v))))

  -- ---- from -3 to -1/2
  sums_fall : half ≤F opposite x → half ≤F opposite y → reciprocal (plus (opposite x) one) ≤F over_sum y
  sums_fall w v =
      reciprocal_anti_positive _ _ (sum_positive (opposite y) v) (sum_positive (opposite x) w)
      (plus_mono _ _ one one (opposite_mono x y h) (le_refl one))

  sums_rate : half ≤F opposite x → half ≤F opposite y
      → times (whole (pos 2)) (times (reciprocal (plus (opposite x) one)) (over_sum y)) ≤F s
  sums_rate w v =
      le_over 3 (s ∷ reciprocal (plus (opposite x) one) ∷ over_sum y ∷ [])
      ((lit (pos 9) ⊗ (at 2 ⊗ at 2) ≼ lit (pos 4) ⊗ at 0) ∷ (lit (pos 0) ≼ at 2) ∷ (at 1 ≼ at 2) ∷ [])
      (lit (pos 2) ⊗ (at 1 ⊗ at 2)) (at 0)
      (known 0 ⊞ square (at 2) ⊞ natural 8 ⊠ known 1 ⊠ known 2) refl
      (rate_at s c y r k, (recip_nonneg _ (sum_positive (opposite y) v), (sums_fall w v, tt)))

  sums_step : half ≤F opposite x → half ≤F opposite y → turned (opposite x) ≤F plus (turned (opposite y)) (risen s x y)
  sums_step w v =
      le_by (x ∷ y ∷ s ∷ reciprocal (plus (opposite x) one) ∷ over_sum y ∷ [])
      ((at 0 ≼ at 1) ∷ (lit (pos 2) ⊗ (at 3 ⊗ at 4) ≼ at 2) ∷ ((minus (at 0) ⊕ lit (pos 1)) ⊗ at 3 ≗ lit (pos 1)) ∷
      ((minus (at 1) ⊕ lit (pos 1)) ⊗ at 4 ≗ lit (pos 1)) ∷ [])
      ((minus (at 0) ⊕ lit (negsuc 0)) ⊗ at 3) ((minus (at 1) ⊕ lit (negsuc 0)) ⊗ at 4 ⊕ at 2 ⊗ (at 1 ⊕ minus (at 0)))
      (known 0 ⊠ known 1 ⊞ multiple 2 (lit (pos 1) ⊖ lit (pos 2) ⊗ at 4) ⊞ multiple 3
      (lit (pos 2) ⊗ at 3 ⊖ lit (pos 1))) refl
      (h, (sums_rate w v, (recip_one _ (sum_positive (opposite x) w), (recip_one _ (sum_positive (opposite y) v), tt))))

  -- ---- from -1/2 on
  twice_from : minus_half ≤F y → whole (negsuc 0) ≤F times (whole (pos 2)) y
  unfolding times
  twice_from v = record { cross = omega (arith, ints, v.cross) }

  two_less : minus_half ≤F y → whole (pos 2) ≤F times (whole (pos 3)) (over_sum y)
  two_less v =
      let q = one_more_positive y below_none in
      le_by (y ∷ over_sum y ∷ []) ((lit (negsuc 0) ≼ lit (pos 2) ⊗ at 0) ∷ (lit (pos 0) ≼ at 1)
      ∷ ((minus (at 0) ⊕ lit (pos 1)) ⊗ at 1 ≗ lit (pos 1)) ∷ [])
      (lit (pos 2)) (lit (pos 3) ⊗ at 1)
      (known 0 ⊠ known 1 ⊞ multiple 2 (lit (negsuc 1))) refl
      (twice_from v, (recip_nonneg _ q, (recip_one _ q, tt)))

  near_rate : minus_half ≤F y → whole (pos 1) ≤F s
  near_rate v =
      le_over 3 (s ∷ over_sum y ∷ []) ((lit (pos 9) ⊗ (at 1 ⊗ at 1) ≼ lit (pos 4) ⊗ at 0)
      ∷ (lit (pos 2) ≼ lit (pos 3) ⊗ at 1) ∷ []) (lit (pos 1)) (at 0)
      (known 0 ⊞ known 1 ⊠ (known 1 ⊞ natural 4)) refl
      (rate_at s c y r k, (two_less v, tt))

  near_step : minus_half ≤F y → y ≤F plus x (risen s x y)
  near_step v =
      le_by (x ∷ y ∷ s ∷ []) ((at 0 ≼ at 1) ∷ (lit (pos 1) ≼ at 2) ∷ []) (at 1) (at 0 ⊕ at 2 ⊗ (at 1 ⊕ minus (at 0)))
      (known 0 ⊠ known 1) refl
      (h, (near_rate v, tt))

below_rated : (s c x y : Fraction) → IsRated s c → x ≤F y → y ≤F c → whole (negsuc 2) ≤F x → x ≤F minus_half
    → whole (negsuc 2) ≤F y → y ≤F minus_half
    → Climbs (risen s x y) (mirrored arc_above 40 x) (mirrored arc_above 40 y)
unfolding arc_above
below_rated s c x y r h k wf wt vf vt =
    let w = opposite_above x wf wt in
    let v = opposite_above y vf vt in
    opposites_climb (risen s x y)
    (sums_climb (whole (pos 45)) (risen s x y)
    (near_climbs (turned (opposite y)) (turned (opposite x)) (risen s x y) (turned_in (opposite y) v)
    (turned_in (opposite x) w)
    (turned_rises (opposite y) (opposite x) v.from w.from (opposite_mono x y h))
    (sums_step s c x y r h k w.from v.from)))

-- ---- all pieces
half_not : (y c : Fraction) → y ≤F c → c ≤F zero_F → half ≤F y → ⊥
half_not y c h k l = let m = le_trans half c zero_F (le_trans half y c l h) k in absurd (omega (arith, ints, m.cross))

three_not : (y c : Fraction) → y ≤F c → c ≤F zero_F → whole (pos 3) ≤F y → ⊥
three_not y c h k l = let m = le_trans (whole (pos 3)) c zero_F (le_trans (whole (pos 3)) y c l h) k in
    absurd (omega (arith, ints, m.cross))

piece_rated : (p : Piece) (s c x y : Fraction) → InPiece (piece_of p) x → InPiece (piece_of p) y → IsRated s c → x ≤F y
    → y ≤F c
    → Climbs (risen s x y) ((piece_of p).arc 40 x) ((piece_of p).arc 40 y)
piece_rated FarBelow s c x y w v r h k = far_rated s c x y r h k (opposite_three x w.to) (opposite_three y v.to)
piece_rated Below s c x y w v r h k = below_rated s c x y r h k w.from w.to v.from v.to
piece_rated Near s c x y w v r h k =
    near_climbs x y (risen s x y) (record { above = w.from; below = w.to }) (record { above = v.from; below = v.to }) h
    (near_step s c x y r h k v.from)
piece_rated Above s c x y w v r h k = absurd (half_not y c k r.below v.from)
piece_rated FarAbove s c x y w v r h k = absurd (three_not y c k r.below v.from)

-- ---- in whole numbers
abbrev at_60 : ℕ → Fraction
at_60 s = record { num = pos s; below = 2 ^ 60 - 1 }

enough_whole : (s : ℕ) (a : ℤ) → pos (9 * 2 ^ 170) ≤ℤ (pos s *ℤ (a *ℤ a))
    → (pos 9 *ℤ pos (2 ^ 172)) ≤ℤ (((pos 4 *ℤ pos s) *ℤ (a *ℤ a)) *ℤ pos 1)
enough_whole s a h = rw (mul_assoc (pos 4) (pos s) (a *ℤ a)) (by_product (pos s *ℤ (a *ℤ a)) h)
  where
    by_product : (z : ℤ) → pos (9 * 2 ^ 170) ≤ℤ z → (pos 9 *ℤ pos (2 ^ 172)) ≤ℤ ((pos 4 *ℤ z) *ℤ pos 1)
    by_product z h = omega (arith, ints, h)

rated : (s : ℕ) (top : ℤ) → IsRate s top → IsRated (at_60 s) (units_of_56 top)
unfolding plus opposite times
rated s top r = let e : (pos (2 ^ 56) -ℤ top) ≡ (pos 1 *ℤ pos (2 ^ 56) +ℤ neg_ℤ top *ℤ pos 1) = omega (arith, ints) in
    record {
      nonneg = record { cross = omega (arith, ints) };
      below = record { cross = omega (arith, ints, r.below) };
      enough = record { cross = enough_whole s (pos 1 *ℤ pos (2 ^ 56) +ℤ neg_ℤ top *ℤ pos 1) (rw e at r.enough) };
    }

opposite_times : (s : ℕ) (k : ℤ) → (neg_ℤ k *ℤ pos s) ≡ neg_ℤ (k *ℤ pos s)
opposite_times s (pos zero) = omega (arith, ints)
opposite_times s (pos (suc k)) = omega (arith, ints)
opposite_times s (negsuc k) = omega (arith, ints)

product_of : (s : ℕ) (k m : ℤ) → (pos s *ℤ (m *ℤ pos (2 ^ 56) +ℤ neg_ℤ k *ℤ pos (2 ^ 56)))
    ≡ ((m *ℤ pos s -ℤ k *ℤ pos s) *ℤ pos (2 ^ 56))
product_of s k m =
    let a = mul_add (pos s) (m *ℤ pos (2 ^ 56)) (neg_ℤ k *ℤ pos (2 ^ 56)) in
    let b = mul_left_comm (pos s) m (pos (2 ^ 56)) in
    let c = mul_left_comm (pos s) (neg_ℤ k) (pos (2 ^ 56)) in
    let d = mul_assoc m (pos s) (pos (2 ^ 56)) in
    let e = mul_assoc (neg_ℤ k) (pos s) (pos (2 ^ 56)) in
    let f = opposite_times s k in
    omega (arith, ints, a, b, c, d, e, f)

climb_of : (n b c : ℤ) → units_of_56 c ≤F plus (units_of_56 b)
    (times rate (record { num = n *ℤ pos (2 ^ 56); below = 2 ^ 172 - 1 }))
    → (c *ℤ pos (10 * 2 ^ 60)) ≤ℤ (b *ℤ pos (10 * 2 ^ 60) +ℤ n *ℤ pos 573)
unfolding plus times
climb_of n b c h = omega (arith, ints, h.cross)

climb_whole : (s : ℕ) (k m b c : ℤ) → units_of_56 c ≤F plus (units_of_56 b)
    (times rate (risen (at_60 s) (units_of_56 k) (units_of_56 m)))
    → (c *ℤ pos (10 * 2 ^ 60)) ≤ℤ (b *ℤ pos (10 * 2 ^ 60) +ℤ (m *ℤ pos s -ℤ k *ℤ pos s) *ℤ pos 573)
unfolding plus times opposite
climb_whole s k m b c h =
    climb_of (m *ℤ pos s -ℤ k *ℤ pos s) b c
    (subst (λ z. units_of_56 c ≤F plus (units_of_56 b) (times rate (record { num = z; below = 2 ^ 172 - 1 })))
    (product_of s k m) h)

climb_endpoints : (s : ℕ) (k m a b c d : ℤ) {i j : Interval} → Climbs (risen (at_60 s) (units_of_56 k) (units_of_56 m))
    i j
    → i ⊆ between (units_of_56 a) (units_of_56 b)
    → j ⊆ between (units_of_56 c) (units_of_56 d)
    → (c *ℤ pos (10 * 2 ^ 60)) ≤ℤ (b *ℤ pos (10 * 2 ^ 60) +ℤ (m *ℤ pos s -ℤ k *ℤ pos s) *ℤ pos 573)
climb_endpoints s k m a b c d (climbing {b = e} {c = f} h) i j =
    climb_whole s k m b c (le_trans _ f _ j.endpoints.0 (le_trans f _ _ h
    (plus_mono e (units_of_56 b) (times rate (risen (at_60 s) (units_of_56 k) (units_of_56 m))) _ i.endpoints.1
    (le_refl _))))

-- endpoints that hold the arctangents of two numbers of a piece climb at a rate
pub endpoints_rated : (p : Piece) (s : ℕ) (top k m a b c d : ℤ) → InPiece (piece_of p) (units_of_56 k)
    → InPiece (piece_of p) (units_of_56 m) → IsRate s top → k ≤ℤ m
    → m ≤ℤ top
    → (piece_of p).arc 40 (units_of_56 k) ⊆ between (units_of_56 a) (units_of_56 b)
    → (piece_of p).arc 40 (units_of_56 m) ⊆ between (units_of_56 c) (units_of_56 d)
    → (c *ℤ pos (10 * 2 ^ 60)) ≤ℤ (b *ℤ pos (10 * 2 ^ 60) +ℤ (m *ℤ pos s -ℤ k *ℤ pos s) *ℤ pos 573)
endpoints_rated p s top k m a b c d w v r h l i j =
    climb_endpoints s k m a b c d (piece_rated p (at_60 s) (units_of_56 top) (units_of_56 k) (units_of_56 m) w v
    (rated s top r)
    (record { cross = omega (arith, ints, h) }) (record { cross = omega (arith, ints, l) })) i j
