-- Arctangents in degrees rise by at most 57.3 times what their numbers do, in each piece of the line. Near 0 the
-- series' endpoints rise by no more than the number (`Slopes`); the other pieces take the arctangent of another number,
-- which moves by no more than the first, and `Climbs` is kept by sums and opposites.
use Rattle.std.proofs.Common.{◌≡◌, suc, refl, arith, pos, negsuc, Bool, true, false, cond, [], ◌∷◌}
use Rattle.std.proofs.lemmas.Int.{ints}
use Rattle.book_model.specs.Fraction.{Fraction, ◌≤F◌, whole, plus, opposite, times, reciprocal, is_at_most}
use Rattle.book_model.specs.Fraction.{size, power}
use Rattle.book_model.specs.Interval.{Interval, everything, between, IsProper, ◌⊆◌, sum, negative, product, one}
use Rattle.book_model.specs.Interval.{greatest}
use Rattle.book_model.specs.Sums.{alternating, lower, upper}
use Rattle.book_model.proofs.Ring.{at, lit, ◌⊕◌, ◌⊖◌, ◌⊗◌, minus}
use Rattle.book_model.proofs.Fractions.{le_trans, opposite_mono, at_most_true, reciprocal_anti_positive}
use Rattle.book_model.proofs.Intervals.{least_below, greatest_above}
use Rattle.book_model.proofs.Hulls.{true_at_most}
use Rattle.book_model.proofs.Certificates.{zero_F, ◌≼◌, ◌≗◌, known, multiple, ◌⊞◌, ◌⊠◌, natural, le_by, le_over}
use Rattle.book_model.specs.numbers.Series.{arctan_term, arctan_at}
use Rattle.book_model.specs.numbers.Octants.{only}
use Rattle.book_model.specs.numbers.Arcs.{half, arctan_series, radian_at, arc_near, arc_above, arc_beyond}
use Rattle.book_model.proofs.Terms.{IsUpTo}
use Rattle.book_model.proofs.ArcSeries.{InHalf, positive_near, negative_near, degrees_proper}
use Rattle.book_model.proofs.ArcPieces.{InPiece, InAbove, IsArc, recip_one, recip_nonneg, turned, sum_positive}
use Rattle.book_model.proofs.ArcPieces.{turned_in, three_positive, recip_in}
use Rattle.book_model.proofs.ArcPieces.{opposite_three, opposite_above, far_below_arc, below_arc, near_arc, above_arc}
use Rattle.book_model.proofs.ArcPieces.{far_above_arc}
use Rattle.arc_series.specs.declared.pieces.Piece.{Piece}
use Rattle.arc_series.specs.declared.pieces.Piece.TheVariants.{FarBelow, Below, Near, Above, FarAbove}
use Rattle.arc_series.specs.Forms.{piece_of}
use Rattle.arc_series.proofs.ArcValues.{radian, radian_near, at_58, factor}
use Rattle.arc_series.proofs.Slopes.{lower_slow, upper_slow}

-- ---- in radians
-- the lower endpoint of the second interval is at most e above that of the first
data IsSlow (e : Fraction) : Interval → Interval → Type 0 where
  slow : {a b c d : Fraction} → c ≤F plus a e → IsSlow e (between a b) (between c d)

-- the sums at 0
none_low : lower (arctan_term zero_F) 40 ≤F zero_F
unfolding lower alternating size arctan_term power plus times opposite
none_low = record { cross = record { le = tt } }

none_high : upper (arctan_term zero_F) 40 ≤F zero_F
unfolding upper alternating size arctan_term power plus times opposite
none_high = record { cross = record { le = tt } }

none_up_to : IsUpTo 1 2 zero_F
unfolding times
none_up_to = record { nonneg = record { cross = record { le = tt } }; bound = record { cross = record { le = tt } } }

-- a sum is at most its number
lower_small : (x : Fraction) → IsUpTo 1 2 x → lower (arctan_term x) 40 ≤F x
lower_small x w =
    le_by (x ∷ lower (arctan_term x) 40 ∷ lower (arctan_term zero_F) 40 ∷ [])
    ((at 1 ⊕ lit (pos 0) ≼ at 2 ⊕ at 0) ∷ (at 2 ≼ lit (pos 0)) ∷ []) (at 1) (at 0)
    (known 0 ⊞ known 1) refl
    (lower_slow 39 zero_F x none_up_to w w.nonneg, (none_low, tt))

upper_small : (x : Fraction) → IsUpTo 1 2 x → upper (arctan_term x) 40 ≤F x
upper_small x w =
    le_by (x ∷ upper (arctan_term x) 40 ∷ upper (arctan_term zero_F) 40 ∷ [])
    ((at 1 ⊕ lit (pos 0) ≼ at 2 ⊕ at 0) ∷ (at 2 ≼ lit (pos 0)) ∷ []) (at 1) (at 0)
    (known 0 ⊞ known 1) refl
    (upper_slow 39 zero_F x none_up_to w w.nonneg, (none_high, tt))

no_turn : (x y : Fraction) → x ≤F y → is_at_most zero_F x ≡ true → is_at_most zero_F y ≡ false → ⊥
no_turn x y h e f = let g = true_at_most zero_F y (le_trans zero_F x y (at_most_true zero_F x e) h) in cc

abbrev signed : Bool → Fraction → Interval
signed s x = cond s (arctan_at 40 x) (negative (arctan_at 40 (opposite x)))

signed_slow : (x y e : Fraction) (s t : Bool) → InHalf x → InHalf y → x ≤F y → y ≤F plus x e → is_at_most zero_F x ≡ s
    → is_at_most zero_F y ≡ t
    → IsSlow e (signed s x) (signed t y)
unfolding negative
signed_slow x y e true false w v h k p q = absurd (no_turn x y h p q)
signed_slow x y e true true w v h k p q =
    slow
    (le_by (x ∷ y ∷ e ∷ lower (arctan_term x) 40 ∷ lower (arctan_term y) 40 ∷ [])
    ((at 4 ⊕ at 0 ≼ at 3 ⊕ at 1) ∷ (at 1 ≼ at 0 ⊕ at 2) ∷ []) (at 4) (at 3 ⊕ at 2)
    (known 0 ⊞ known 1) refl
    (lower_slow 39 x y (positive_near x w p) (positive_near y v q) h, (k, tt)))
signed_slow x y e false true w v h k p q =
    slow
    (le_by (x ∷ y ∷ e ∷ upper (arctan_term (opposite x)) 40 ∷ lower (arctan_term y) 40 ∷ [])
    ((at 4 ≼ at 1) ∷ (at 3 ≼ minus (at 0)) ∷ (at 1 ≼ at 0 ⊕ at 2) ∷ [])
    (at 4) (minus (at 3) ⊕ at 2)
    (known 0 ⊞ known 1 ⊞ known 2) refl
    (lower_small y (positive_near y v q), (upper_small (opposite x) (negative_near x w p), (k, tt))))
signed_slow x y e false false w v h k p q =
    slow
    (le_by (x ∷ y ∷ e ∷ upper (arctan_term (opposite x)) 40 ∷ upper (arctan_term (opposite y)) 40 ∷ [])
    ((at 3 ⊕ minus (at 1) ≼ at 4 ⊕ minus (at 0)) ∷ (at 1 ≼ at 0 ⊕ at 2) ∷ []) (minus (at 4)) (minus (at 3) ⊕ at 2)
    (known 0 ⊞ known 1) refl (
      upper_slow 39 (opposite y) (opposite x) (negative_near y v q) (negative_near x w p) (opposite_mono x y h),
      (k, tt),
    ))

series_slow : (x y e : Fraction) → InHalf x → InHalf y → x ≤F y → y ≤F plus x e
    → IsSlow e (arctan_series 40 x) (arctan_series 40 y)
unfolding arctan_series
series_slow x y e w v h k = signed_slow x y e (is_at_most zero_F x) (is_at_most zero_F y) w v h k refl refl

-- ---- in degrees
-- 57.3, which is more than the degrees of a radian
abbrev pub rate : Fraction
rate = record { num = pos 573; below = 9 }

-- the lower endpoint of the second interval is at most 57.3 e above the upper endpoint of the first
pub data Climbs (e : Fraction) : Interval → Interval → Type 0 where
  climbing : {a b c d : Fraction} → c ≤F plus b (times rate e) → Climbs e (between a b) (between c d)

radian_low : zero_F ≤F at_58 (pos factor)
radian_low = record { cross = record { le = tt } }

radian_high : at_58 (pos (suc factor)) ≤F rate
radian_high = record { cross = record { le = tt } }

product_climbs : (e : Fraction) (i j d : Interval) → zero_F ≤F e → IsProper d → d ⊆ radian → IsSlow e i j
    → Climbs e (product i d) (product j d)
unfolding product
product_climbs e i j everything n o h s = absurd h.endpoints
product_climbs e i j (between p q) n o h (slow {a = a} {b = b} {c = c} {d = d} k) =
    let p0 = le_trans zero_F _ p radian_low h.endpoints.0 in
    let pr = le_trans p q rate o (le_trans q _ rate h.endpoints.1 radian_high) in
    climbing
    (le_trans _ (times c p) _ ((least_below (times c p) (times c q) (times d p) (times d q)).0)
    (le_by (a ∷ c ∷ e ∷ p ∷ rate ∷ greatest (times a p) (times a q) (times b p) (times b q) ∷ [])
    ((at 1 ≼ at 0 ⊕ at 2) ∷ (lit (pos 0) ≼ at 3) ∷ (at 3 ≼ at 4) ∷ (lit (pos 0) ≼ at 2) ∷ (at 0 ⊗ at 3 ≼ at 5) ∷ [])
    (at 1 ⊗ at 3) (at 5 ⊕ at 4 ⊗ at 2)
    (known 0 ⊠ known 1 ⊞ known 3 ⊠ known 2 ⊞ known 4) refl
    (k, (p0, (pr, (n, ((greatest_above (times a p) (times a q) (times b p) (times b q)).0, tt)))))))

step_nonneg : (x y e : Fraction) → x ≤F y → y ≤F plus x e → zero_F ≤F e
step_nonneg x y e h k = le_by (x ∷ y ∷ e ∷ []) ((at 0 ≼ at 1) ∷ (at 1 ≼ at 0 ⊕ at 2) ∷ []) (lit (pos 0)) (at 2)
    (known 0 ⊞ known 1) refl (h, (k, tt))

pub near_climbs : (x y e : Fraction) → InHalf x → InHalf y → x ≤F y → y ≤F plus x e
    → Climbs e (arc_near 40 x) (arc_near 40 y)
unfolding arc_near
near_climbs x y e w v h k =
    product_climbs e _ _ (radian_at 40) (step_nonneg x y e h k) (degrees_proper 40) (radian_near 40 (omega arith))
    (series_slow x y e w v h k)

-- ---- sums and opposites
pub sums_climb : (k e : Fraction) {i j : Interval} → Climbs e i j → Climbs e (sum (only k) i) (sum (only k) j)
unfolding sum
sums_climb k e (climbing {b = b} {c = c} h) =
    climbing (le_by (k ∷ b ∷ c ∷ times rate e ∷ []) ((at 2 ≼ at 1 ⊕ at 3) ∷ []) (at 0 ⊕ at 2) (at 0 ⊕ at 1 ⊕ at 3)
    (known 0) refl (h, tt))

pub opposites_climb : (e : Fraction) {i j : Interval} → Climbs e i j → Climbs e (negative j) (negative i)
unfolding negative
opposites_climb e (climbing {b = b} {c = c} h) = climbing (le_by (b ∷ c ∷ times rate e ∷ []) ((at 1 ≼ at 0 ⊕ at 2) ∷ [])
    (minus (at 0)) (minus (at 1) ⊕ at 2)
    (known 0) refl (h, tt))

opposite_step : (x y e : Fraction) → y ≤F plus x e → opposite x ≤F plus (opposite y) e
opposite_step x y e h = le_by (x ∷ y ∷ e ∷ []) ((at 1 ≼ at 0 ⊕ at 2) ∷ []) (minus (at 0)) (minus (at 1) ⊕ at 2)
    (known 0) refl (h, tt)

-- ---- from 1/2 to 3
twice_half : (z : Fraction) → half ≤F z → whole (pos 1) ≤F times (whole (pos 2)) z
unfolding times
twice_half z h = record { cross = omega (arith, ints, h.cross) }

two_thirds : (x : Fraction) → half ≤F x → times (whole (pos 3)) (reciprocal (plus x one)) ≤F whole (pos 2)
two_thirds x h =
    let p = sum_positive x h in
    le_by (x ∷ reciprocal (plus x one) ∷ []) ((lit (pos 1) ≼ lit (pos 2) ⊗ at 0) ∷ (lit (pos 0) ≼ at 1)
    ∷ ((at 0 ⊕ lit (pos 1)) ⊗ at 1 ≗ lit (pos 1)) ∷ [])
    (lit (pos 3) ⊗ at 1) (lit (pos 2))
    (known 0 ⊠ known 1 ⊞ multiple 2 (lit (pos 2))) refl (twice_half x h, (recip_nonneg _ p, (recip_one _ p, tt)))

turned_step : (x y e : Fraction) → half ≤F x → half ≤F y → x ≤F y → y ≤F plus x e → turned y ≤F plus (turned x) e
turned_step x y e w v h k =
    let p = sum_positive x w in
    let q = sum_positive y v in
    le_over 8 (x ∷ y ∷ e ∷ reciprocal (plus x one) ∷ reciprocal (plus y one) ∷ [])
    ((at 0 ≼ at 1) ∷ (at 1 ≼ at 0 ⊕ at 2) ∷ (lit (pos 0) ≼ at 3) ∷ (lit (pos 3) ⊗ at 3 ≼ lit (pos 2))
    ∷ (lit (pos 3) ⊗ at 4 ≼ lit (pos 2)) ∷
    ((at 0 ⊕ lit (pos 1)) ⊗ at 3 ≗ lit (pos 1)) ∷ ((at 1 ⊕ lit (pos 1)) ⊗ at 4 ≗ lit (pos 1)) ∷ [])
    ((at 1 ⊕ lit (negsuc 0)) ⊗ at 4) ((at 0 ⊕ lit (negsuc 0)) ⊗ at 3 ⊕ at 2)
    (natural 9 ⊠ known 1 ⊞ known 0 ⊞ natural 4 ⊠ known 0 ⊠ known 3 ⊞ natural 6 ⊠ known 0 ⊠ known 2 ⊠ known 4 ⊞ multiple
    5 (lit (pos 18) ⊗ at 4 ⊖ lit (pos 9)) ⊞
    multiple 6 (lit (pos 9) ⊖ lit (pos 18) ⊗ at 3)) refl
    (h, (k, (recip_nonneg _ p, (two_thirds x w, (two_thirds y v, (recip_one _ p, (recip_one _ q, tt)))))))

pub turned_rises : (x y : Fraction) → half ≤F x → half ≤F y → x ≤F y → turned x ≤F turned y
turned_rises x y w v h =
    let p = sum_positive x w in
    let q = sum_positive y v in
    le_by (x ∷ y ∷ reciprocal (plus x one) ∷ reciprocal (plus y one) ∷ [])
    ((at 0 ≼ at 1) ∷ (lit (pos 0) ≼ at 2) ∷ (lit (pos 0) ≼ at 3) ∷ ((at 0 ⊕ lit (pos 1)) ⊗ at 2 ≗ lit (pos 1))
    ∷ ((at 1 ⊕ lit (pos 1)) ⊗ at 3 ≗ lit (pos 1)) ∷
    [])
    ((at 0 ⊕ lit (negsuc 0)) ⊗ at 2) ((at 1 ⊕ lit (negsuc 0)) ⊗ at 3)
    (natural 2 ⊠ known 0 ⊠ known 1 ⊠ known 2 ⊞ multiple 3 (lit (pos 1) ⊖ lit (pos 2) ⊗ at 3) ⊞ multiple 4
    (lit (pos 2) ⊗ at 2 ⊖ lit (pos 1))) refl
    (h, (recip_nonneg _ p, (recip_nonneg _ q, (recip_one _ p, (recip_one _ q, tt)))))

above_climbs : (x y e : Fraction) → InAbove x → InAbove y → x ≤F y → y ≤F plus x e
    → Climbs e (arc_above 40 x) (arc_above 40 y)
unfolding arc_above
above_climbs x y e w v h k =
    sums_climb (whole (pos 45)) e (near_climbs (turned x) (turned y) e (turned_in x w) (turned_in y v)
    (turned_rises x y w.from v.from h)
    (turned_step x y e w.from v.from h k))

-- ---- from 3 on
one_third : (x : Fraction) → whole (pos 3) ≤F x → times (whole (pos 3)) (reciprocal x) ≤F whole (pos 1)
one_third x h =
    let p = three_positive x h in
    le_by (x ∷ reciprocal x ∷ []) ((lit (pos 3) ≼ at 0) ∷ (lit (pos 0) ≼ at 1) ∷ (at 0 ⊗ at 1 ≗ lit (pos 1)) ∷ [])
    (lit (pos 3) ⊗ at 1) (lit (pos 1))
    (known 0 ⊠ known 1 ⊞ multiple 2 (lit (pos 1))) refl (h, (recip_nonneg x p, (recip_one x p, tt)))

recip_step : (x y e : Fraction) → whole (pos 3) ≤F x → whole (pos 3) ≤F y → x ≤F y → y ≤F plus x e
    → reciprocal x ≤F plus (reciprocal y) e
recip_step x y e w v h k =
    let p = three_positive x w in
    let q = three_positive y v in
    le_over 8 (x ∷ y ∷ e ∷ reciprocal x ∷ reciprocal y ∷ [])
    ((at 0 ≼ at 1) ∷ (at 1 ≼ at 0 ⊕ at 2) ∷ (lit (pos 0) ≼ at 3) ∷ (lit (pos 3) ⊗ at 3 ≼ lit (pos 1))
    ∷ (lit (pos 3) ⊗ at 4 ≼ lit (pos 1)) ∷
    (at 0 ⊗ at 3 ≗ lit (pos 1)) ∷ (at 1 ⊗ at 4 ≗ lit (pos 1)) ∷ [])
    (at 3) (at 4 ⊕ at 2)
    (natural 9 ⊠ known 1 ⊞ natural 8 ⊠ known 0 ⊞ known 0 ⊠ known 3 ⊞ natural 3 ⊠ known 0 ⊠ known 2 ⊠ known 4 ⊞ multiple
    5 (lit (pos 9) ⊗ at 4) ⊞ multiple 6
    (lit (negsuc 8) ⊗ at 3)) refl
    (h, (k, (recip_nonneg _ p, (one_third x w, (one_third y v, (recip_one _ p, (recip_one _ q, tt)))))))

beyond_climbs : (x y e : Fraction) → whole (pos 3) ≤F x → whole (pos 3) ≤F y → x ≤F y → y ≤F plus x e
    → Climbs e (arc_beyond 40 x) (arc_beyond 40 y)
unfolding arc_beyond
beyond_climbs x y e w v h k =
    sums_climb (whole (pos 90)) e
    (opposites_climb e (near_climbs (reciprocal y) (reciprocal x) e (recip_in y v) (recip_in x w)
    (reciprocal_anti_positive x y (three_positive x w) (three_positive y v) h) (recip_step x y e w v h k)))

-- ---- all pieces
pub piece_climbs : (p : Piece) (x y e : Fraction) → InPiece (piece_of p) x → InPiece (piece_of p) y → x ≤F y
    → y ≤F plus x e
    → Climbs e ((piece_of p).arc 40 x) ((piece_of p).arc 40 y)
piece_climbs FarBelow x y e w v h k =
    opposites_climb e (beyond_climbs (opposite y) (opposite x) e (opposite_three y v.to) (opposite_three x w.to)
    (opposite_mono x y h) (opposite_step x y e k))
piece_climbs Below x y e w v h k =
    opposites_climb e (above_climbs (opposite y) (opposite x) e (opposite_above y v.from v.to)
    (opposite_above x w.from w.to) (opposite_mono x y h)
    (opposite_step x y e k))
piece_climbs Near x y e w v h k = near_climbs x y e (record { above = w.from; below = w.to })
    (record { above = v.from; below = v.to }) h k
piece_climbs Above x y e w v h k = above_climbs x y e (record { from = w.from; to = w.to })
    (record { from = v.from; to = v.to }) h k
piece_climbs FarAbove x y e w v h k = beyond_climbs x y e w.from v.from h k

pub piece_arc : (p : Piece) → IsArc (piece_of p)
piece_arc FarBelow = far_below_arc
piece_arc Below = below_arc
piece_arc Near = near_arc
piece_arc Above = above_arc
piece_arc FarAbove = far_above_arc
