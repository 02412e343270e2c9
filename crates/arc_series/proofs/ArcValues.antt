-- The kernel holds the arctangents of the model in degrees, at single numbers from -1/2 to 1/2. Horner's form is the
-- sum of the terms over the first power; the terms that are left out are less than two parts of 2^-64; the square, the
-- sum, the radians and the degrees are products whose high halves are off by a part each. So the degrees lie from 4
-- parts of 2^-58 below the count to 9 above.
use Rattle.std.proofs.Common.{◌≡◌, ℕ, zero, suc, ◌+◌, ◌*◌, ◌/◌, ◌-◌, ◌^◌, ◌≤◌, refl, ◌∙◌, sym, subst, ap, arith, Bool}
use Rattle.std.proofs.Common.{true, false, ℤ, pos, negsuc, ◌+ℤ◌}
use Rattle.std.proofs.Common.{◌-ℤ◌, ◌*ℤ◌, ◌≤ℤ◌, [], ◌∷◌}
use Rattle.std.proofs.lemmas.Int.{ints}
use lib.IntN.{neg_ℤ}
use Rattle.book_model.specs.Fraction.{Fraction, ◌≤F◌, ◌≈◌, whole, plus, opposite, times, size, reciprocal, power}
use Rattle.book_model.specs.Fraction.{is_at_most, smaller, larger}
use Rattle.book_model.specs.Interval.{Interval, between, ◌⊆◌, sum, negative, product, quotient, least, greatest}
use Rattle.book_model.specs.Sums.{one_over, twice, alternating, lower, upper}
use Rattle.book_model.proofs.Ring.{at, lit, ◌⊕◌, ◌⊖◌, ◌⊗◌, minus}
use Rattle.book_model.proofs.Fractions.{le_refl, le_trans, at_most_true}
use Rattle.book_model.proofs.Same.{same_refl, le_of_same, ge_of_same}
use Rattle.book_model.proofs.Hulls.{true_at_most}
use Rattle.book_model.proofs.Intervals.{within_trans, within_refl, negative_within, product_within, quotient_within}
use Rattle.book_model.proofs.Intervals.{least_is, greatest_is}
use Rattle.book_model.proofs.Certificates.{zero_F, ◌≼◌, ◌≗◌, known, multiple, ◌⊞◌, ◌⊠◌, natural, le_by, same_given}
use Rattle.book_model.proofs.Alternating.{size_same}
use Rattle.book_model.specs.programs.Leading.{units_of_56}
use Rattle.book_model.specs.numbers.Octants.{only}
use Rattle.book_model.specs.numbers.Series.{arctan_term, arctan_at, double, scaled, pi_at}
use Rattle.book_model.specs.numbers.Arcs.{half, minus_half, arctan_series, radian_at, arc_near}
use Rattle.book_model.proofs.Terms.{IsUpTo, arctan_halving, arctan_rising}
use Rattle.book_model.proofs.Pi.{pi_at_least, pi_proper}
use Rattle.book_model.proofs.ArcSeries.{InHalf, series_nests, series_proper, degrees_proper}
use Rattle.encl_core.specs.Units.{at_64, IsWithinUnits}
use Rattle.arc_series.specs.Kernel.{IsNumber, IsSquare, nested}
use Rattle.encl_core.proofs.HighHalves.{unit, unit_nonneg, at_more, at_less, IsHigh, high_is, high_small, product_is}
use Rattle.encl_core.proofs.HighHalves.{high_below, high_above}
use Rattle.encl_core.proofs.HighHalves.{count_nonneg}
use Rattle.arc_series.proofs.KernelSteps.{count_whole, square_near, product_above, product_below}

-- ---- Horner's form
-- the sum of the terms is what Horner's form gives, times the first power
alternating_form : (x : Fraction) → (m k : ℕ) (t : ℕ → Fraction) → ((j : ℕ) → t j ≡ arctan_term x (j + k))
    → alternating t m ≈ times (power x (suc (double k))) (nested (times x x) (double k) m)
unfolding alternating nested arctan_term power
alternating_form x zero k t h =
    let e : t 0 ≡ arctan_term x k = h 0 ∙ ap (arctan_term x) (omega arith) in
    subst (λ z. z ≈ times (power x (suc (double k))) (one_over (double k))) (sym e) (same_refl _)
alternating_form x (suc m) k t h =
    let e : t 0 ≡ arctan_term x k = h 0 ∙ ap (arctan_term x) (omega arith) in
    let i = alternating_form x m (suc k) (λ j. t (suc j)) (λ j. h (suc j) ∙ ap (arctan_term x) (omega arith)) in
    subst (λ z. plus z (opposite (alternating (λ j. t (suc j)) m)) ≈ times (power x (suc (double k)))
    (plus (one_over (double k)) (opposite (times (times x x) (nested (times x x) (suc (suc (double k))) m))))) (sym e)
    (same_given
    (x ∷ power x (suc (double k)) ∷ one_over (double k) ∷ alternating (λ j. t (suc j)) m ∷ nested (times x x)
    (suc (suc (double k))) m ∷ [])
    ((at 3 ≗ (at 0 ⊗ (at 0 ⊗ at 1)) ⊗ at 4) ∷ [])
    (at 1 ⊗ at 2 ⊖ at 3) (at 1 ⊗ (at 2 ⊖ (at 0 ⊗ at 0) ⊗ at 4))
    ((0, lit (negsuc 0)) ∷ []) refl (i, tt))

sum_form : (x : Fraction) → alternating (arctan_term x) 28 ≈ times (power x 1) (nested (times x x) 0 28)
sum_form x = alternating_form x 28 0 (arctan_term x) (λ j. ap (arctan_term x) (omega arith))

-- ---- what the terms leave out
half_up_to : IsUpTo 1 2 half
unfolding times
half_up_to = record { nonneg = record { cross = record { le = tt } }; bound = record { cross = record { le = tt } } }

at_half : twice (arctan_term half 29) ≤F times (whole (pos 2)) unit
unfolding arctan_term power times unit
at_half = record { cross = record { le = tt } }

below_half : (x : Fraction) → times (whole (pos 2)) x ≤F whole (pos 1) → x ≤F half
unfolding times
below_half x h = record { cross = omega (arith, ints, h.cross) }

left_out : (x : Fraction) → IsUpTo 1 2 x → twice (size (arctan_term x 29)) ≤F times (whole (pos 2)) unit
left_out x w =
    let r = (arctan_rising x half w half_up_to (below_half x w.bound)).above 29 in
    rw (size_same (arctan_term x 29) ((arctan_halving x w).nonneg 29))
    (le_trans _ _ _ (le_by (arctan_term x 29 ∷ arctan_term half 29 ∷ []) ((at 0 ≼ at 1) ∷ []) (lit (pos 2) ⊗ at 0)
    (lit (pos 2) ⊗ at 1) (natural 2 ⊠ known 0)
    refl (r, tt)) at_half)

-- ---- the series at a number
-- what lies from 4 below s to 6 above it
abbrev around : ℕ → Interval
around s = between (at_64 (pos s -ℤ pos 4)) (at_64 (pos s +ℤ pos 6))

endpoints_near : (q t s : ℕ) (x : Fraction) → IsUpTo 1 2 x → t ≤ 2 ^ 64 → IsHigh s q t → IsNumber q x
    → IsWithinUnits 4 t (nested (times x x) 0 28)
    → arctan_at 28 x ⊆ around s
unfolding lower upper power
endpoints_near q t s x w l p g n =
    let ρ = x ∷ nested (times x x) 0 28 ∷ alternating (arctan_term x) 28 ∷ size (arctan_term x 29) ∷ unit ∷ whole
    (pos s) ∷ [] in
    let c = at 2 ≗ (at 0 ⊗ lit (pos 1)) ⊗ at 1 in
    let d = lit (pos 2) ⊗ at 3 ≼ lit (pos 2) ⊗ at 4 in
    record {
      endpoints = (
        le_trans _ _ _ (le_of_same (at_less (pos s) (pos 4)))
            (le_by ρ (c ∷ ((at 5 ⊖ lit (pos 2)) ⊗ at 4 ≼ at 0 ⊗ at 1) ∷ d ∷ []) ((at 5 ⊖ lit (pos 4)) ⊗ at 4)
            (at 2 ⊖ lit (pos 2) ⊗ at 3)
            (known 1 ⊞ known 2 ⊞ multiple 0 (lit (negsuc 0))) refl
            (sum_form x, (product_above s q t x _ p g n, (left_out x w, tt)))),
        le_trans _ _ _
            (le_by ρ (c ∷ (at 0 ⊗ at 1 ≼ (at 5 ⊕ lit (pos 4)) ⊗ at 4) ∷ d ∷ []) (at 2 ⊕ lit (pos 2) ⊗ at 3)
            ((at 5 ⊕ lit (pos 6)) ⊗ at 4)
            (known 1 ⊞ known 2 ⊞ multiple 0 (lit (pos 1))) refl
            (sum_form x, (product_below s q t x _ l p g n, (left_out x w, tt))))
            (ge_of_same (at_more (pos s) (pos 6))),
      );
    }

-- what the code has of a number: its square w, the sum t, and the radians s
pub record IsComputed (q w t s : ℕ) : Type 0 where
  pub small : q ≤ 2 ^ 63
  pub square : w ≡ q * q / 2 ^ 64
  pub sum : (u : Fraction) → IsSquare w u → IsWithinUnits 4 t (nested u 0 28)
  pub below : t ≤ 18446744073709551615
  pub radians : s ≡ q * t / 2 ^ 64

number_up_to : (q : ℕ) (x : Fraction) → IsNumber q x → IsUpTo 1 2 x
unfolding times
number_up_to q x g =
    record {
      nonneg =
          le_trans zero_F (at_64 (pos q)) x (record { cross = omega (arith, ints) }) g.not_above;
      bound = record { cross = omega (arith, ints, g.small.cross) };
    }

computed_near : (q w t s : ℕ) (x : Fraction) → IsComputed q w t s → IsNumber q x → arctan_at 28 x ⊆ around s
computed_near q w t s x c g =
    endpoints_near q t s x (number_up_to q x g) (omega (arith, c.below)) (high_is s q t c.radians) g
    (c.sum (times x x) (square_near w q x (omega (arith, c.small)) (high_is w q q c.square) g))

above_minus_half : (x : Fraction) → zero_F ≤F x → minus_half ≤F x
above_minus_half x h = record { cross = omega (arith, ints, h.cross) }

number_in : (q : ℕ) (x : Fraction) → IsNumber q x → InHalf x
number_in q x g = record { above = above_minus_half x (number_up_to q x g).nonneg; below = g.small }

series_positive : (x : Fraction) → zero_F ≤F x → arctan_series 28 x ≡ arctan_at 28 x
unfolding arctan_series
series_positive x h = rw (true_at_most zero_F x h) refl

series_held : (n q w t s : ℕ) (x : Fraction) → 40 ≤ n → IsComputed q w t s → IsNumber q x → arctan_series n x ⊆ around s
series_held n q w t s x d c g =
    let i = number_in q x g in
    within_trans ((series_nests x i.above i.below).within 28 n (omega (arith, d)))
    (rw (series_positive x (number_up_to q x g).nonneg) (computed_near q w t s x c g))

-- ---- the same of the opposite
opposite_in : (q : ℕ) (x : Fraction) → IsNumber q (opposite x) → InHalf x
unfolding opposite
opposite_in q x g =
    let p = number_up_to q (opposite x) g in
    record {
      above = record { cross = omega (arith, ints, g.small.cross) };
      below = record { cross = omega (arith, ints, p.nonneg.cross) };
    }

not_nonneg : (q : ℕ) (x : Fraction) → 1 ≤ q → at_64 (pos q) ≤F opposite x → zero_F ≤F x → ⊥
unfolding opposite
not_nonneg q x l h k = let a = h.cross in let b = k.cross in absurd (omega (arith, ints, l, a, b))

below_zero : (q : ℕ) (x : Fraction) → 1 ≤ q → at_64 (pos q) ≤F opposite x → is_at_most zero_F x ≡ false
below_zero q x l h = by_test (is_at_most zero_F x) refl
  where
    by_test : (t : Bool) → is_at_most zero_F x ≡ t → t ≡ false
    by_test true e = absurd (not_nonneg q x l h (at_most_true zero_F x e))
    by_test false e = refl

series_negative : (q : ℕ) (x : Fraction) → 1 ≤ q → at_64 (pos q) ≤F opposite x
    → arctan_series 28 x ≡ negative (arctan_at 28 (opposite x))
unfolding arctan_series
series_negative q x l h = rw (below_zero q x l h) refl

series_mirrored : (n q w t s : ℕ) (x : Fraction) → 40 ≤ n → 1 ≤ q → IsComputed q w t s → IsNumber q (opposite x)
    → arctan_series n x ⊆ negative (around s)
series_mirrored n q w t s x d l c g =
    let i = opposite_in q x g in
    within_trans ((series_nests x i.above i.below).within 28 n (omega (arith, d)))
    (rw (series_negative q x l g.not_above) (negative_within (computed_near q w t s (opposite x) c g)))

-- ---- the degrees of a radian
-- a number in units of 2^-72
abbrev at_72 : ℕ → Fraction
at_72 n = record { num = pos n; below = 2 ^ 72 - 1 }

pi_at_16 : pi_at 16 ⊆ between (at_72 14835751850141947581203) (at_72 14835751850141947581204)
unfolding pi_at sum scaled negative lower upper alternating size arctan_term power plus times opposite
pi_at_16 = record { endpoints = (record { cross = record { le = tt } }, record { cross = record { le = tt } }) }

-- a number in units of 2^-58
abbrev pub at_58 : ℤ → Fraction
at_58 n = record { num = n; below = 2 ^ 58 - 1 }

abbrev pub radian : Interval
radian = between (at_58 (pos 16514384080961256899)) (at_58 (pos 16514384080961256900))

by_pi : quotient (only (whole (pos 180))) (between (at_72 14835751850141947581203) (at_72 14835751850141947581204))
    ⊆ radian
unfolding quotient reciprocal product least greatest smaller larger is_at_most times
by_pi = record { endpoints = (record { cross = record { le = tt } }, record { cross = record { le = tt } }) }

pub radian_near : (n : ℕ) → 40 ≤ n → radian_at n ⊆ radian
unfolding radian_at
radian_near n d =
    within_trans (quotient_within (le_refl (whole (pos 180))) (pi_proper n) (within_refl (only (whole (pos 180))))
    (within_trans (pi_at_least 16 n (omega (arith, d))) pi_at_16)) by_pi

-- ---- the product of both
fine : Fraction
fine = at_58 (pos 1)

fine_nonneg : zero_F ≤F fine
unfolding fine
fine_nonneg = record { cross = omega (arith, ints) }

at_58_is : (k : ℕ) → at_58 (pos k) ≈ times (whole (pos k)) fine
unfolding fine times
at_58_is k = record { cross = omega (arith, ints) }

at_58_more : (k : ℕ) → at_58 (pos (suc k)) ≈ times (plus (whole (pos k)) (whole (pos 1))) fine
unfolding fine times plus
at_58_more k = record { cross = omega (arith, ints) }

low_end : (lo : ℤ) (d : ℕ) → (lo *ℤ pos 4 +ℤ pos 4) ≤ℤ pos d
    → units_of_56 lo ≤F times (plus (whole (pos d)) (opposite (whole (pos 4)))) fine
unfolding fine times plus opposite
low_end lo d h = record { cross = omega (arith, ints, h) }

high_end : (hi : ℤ) (d : ℕ) → (pos d +ℤ pos 9) ≤ℤ (hi *ℤ pos 4) → times (plus (whole (pos d)) (whole (pos 9))) fine ≤F
    units_of_56 hi
unfolding fine times plus
high_end hi d h = record { cross = omega (arith, ints, h) }

abbrev pub factor : ℕ
factor = 16514384080961256899

factor_small : times (plus (whole (pos factor)) (whole (pos 1))) unit ≤F whole (pos 1)
unfolding unit times plus
factor_small = record { cross = record { le = tt } }

-- a number of radians near s, and a number of degrees of a radian
pub record IsCorner (s : ℕ) (S R : Fraction) : Type 0 where
  pub low : at_64 (pos s -ℤ pos 4) ≤F S
  pub high : S ≤F at_64 (pos s +ℤ pos 6)
  pub from : at_58 (pos factor) ≤F R
  pub to : R ≤F at_58 (pos (suc factor))

corner_nonneg : (r : Fraction) → at_58 (pos factor) ≤F r → zero_F ≤F r
corner_nonneg r h = le_trans zero_F _ r (record { cross = record { le = tt } }) h

corner_low : (s d : ℕ) (S R : Fraction) → IsHigh d s factor → IsCorner s S R
    → times (plus (whole (pos d)) (opposite (whole (pos 4)))) fine ≤F times S R
corner_low s d S R p k =
    le_by (S ∷ R ∷ whole (pos s) ∷ whole (pos factor) ∷ whole (pos d) ∷ whole (pos (s * factor)) ∷ unit ∷ fine ∷ [])
    (((at 2 ⊖ lit (pos 4)) ⊗ at 6 ≼ at 0) ∷ (lit (pos 0) ≼ at 2 ⊗ at 6) ∷ (at 3 ⊗ at 7 ≼ at 1)
    ∷ (at 1 ≼ (at 3 ⊕ lit (pos 1)) ⊗ at 7) ∷ (lit (pos 0) ≼ at 1) ∷
    (lit (pos 0) ≼ at 6)
    ∷ (lit (pos 0) ≼ at 7) ∷ (at 4 ≼ at 5 ⊗ at 6) ∷ (at 5 ≗ at 2 ⊗ at 3) ∷ ((at 3 ⊕ lit (pos 1)) ⊗ at 6 ≼ lit (pos 1))
    ∷ [])
    ((at 4 ⊖ lit (pos 4)) ⊗ at 7) (at 0 ⊗ at 1)
    (known 4 ⊠ known 0 ⊞ known 1 ⊠ known 2 ⊞ known 6 ⊠ known 7 ⊞ multiple 8 (at 6 ⊗ at 7) ⊞ natural 4 ⊠ known 5 ⊠ known
    3 ⊞ natural 4 ⊠ known 6 ⊠ known 9) refl (
      le_trans _ _ _ (ge_of_same (at_less (pos s) (pos 4))) k.low,
      (
        count_nonneg s,
        (
          le_trans _ _ _ (ge_of_same (at_58_is factor)) k.from,
          (
            le_trans _ _ _ k.to (le_of_same (at_58_more factor)),
            (
              corner_nonneg R k.from,
              (
                unit_nonneg,
                (fine_nonneg, (high_below d (s * factor) p.not_above, (product_is s factor, (factor_small, tt)))),
              ),
            ),
          ),
        ),
      ),
    )

corner_high : (s d : ℕ) (S R : Fraction) → s ≤ 2 ^ 64 → IsHigh d s factor → IsCorner s S R
    → times S R ≤F times (plus (whole (pos d)) (whole (pos 9))) fine
corner_high s d S R l p k =
    le_by (S ∷ R ∷ whole (pos s) ∷ whole (pos factor) ∷ whole (pos d) ∷ whole (pos (s * factor)) ∷ unit ∷ fine ∷ [])
    ((at 0 ≼ (at 2 ⊕ lit (pos 6)) ⊗ at 6) ∷ (lit (pos 0) ≼ at 2 ⊗ at 6) ∷ (at 1 ≼ (at 3 ⊕ lit (pos 1)) ⊗ at 7)
    ∷ (lit (pos 0) ≼ at 1) ∷ (lit (pos 0) ≼ at 6)
    ∷ (lit (pos 0) ≼ at 7) ∷ (at 5 ⊗ at 6 ≼ at 4 ⊕ lit (pos 1)) ∷ (at 5 ≗ at 2 ⊗ at 3)
    ∷ ((at 3 ⊕ lit (pos 1)) ⊗ at 6 ≼ lit (pos 1)) ∷
    (at 2 ⊗ at 6 ≼ lit (pos 1)) ∷ [])
    (at 0 ⊗ at 1) ((at 4 ⊕ lit (pos 9)) ⊗ at 7)
    (known 3 ⊠ known 0 ⊞ known 1 ⊠ known 2 ⊞ known 5 ⊠ known 6 ⊞ multiple 7 (lit (negsuc 0) ⊗ (at 6 ⊗ at 7)) ⊞ known 5 ⊠
    known 9 ⊞ natural 6 ⊠ known 4 ⊠ known 2
    ⊞ natural 6 ⊠ known 5 ⊠ known 8 ⊞ known 5) refl (
      le_trans _ _ _ k.high (le_of_same (at_more (pos s) (pos 6))),
      (
        count_nonneg s,
        (
          le_trans _ _ _ k.to (le_of_same (at_58_more factor)),
          (
            corner_nonneg R k.from,
            (
              unit_nonneg,
              (
                fine_nonneg,
                (high_above d (s * factor) p.close, (product_is s factor, (factor_small, (count_whole s l, tt)))),
              ),
            ),
          ),
        ),
      ),
    )

-- what the code has of the degrees: their count d, and two endpoints around it
pub record AreDegrees (s d : ℕ) (lo hi : ℤ) : Type 0 where
  pub degrees : d ≡ s * factor / 2 ^ 64
  pub low : (lo *ℤ pos 4 +ℤ pos 4) ≤ℤ pos d
  pub high : (pos d +ℤ pos 9) ≤ℤ (hi *ℤ pos 4)

corner : (s d : ℕ) (lo hi : ℤ) (S R : Fraction) → s ≤ 2 ^ 64 → AreDegrees s d lo hi → IsCorner s S R
    → (units_of_56 lo ≤F times S R)
    × (times S R ≤F units_of_56 hi)
corner s d lo hi S R l a k =
    let p = high_is d s factor a.degrees in (
      le_trans _ _ _ (low_end lo d a.low) (corner_low s d S R p k),
      le_trans _ _ _ (corner_high s d S R l p k) (high_end hi d a.high),
    )

neg_is : (n : ℤ) → units_of_56 (neg_ℤ n) ≈ opposite (units_of_56 n)
unfolding opposite
neg_is n = record { cross = refl }

opposite_corner : (s d : ℕ) (lo hi : ℤ) (S R : Fraction) → s ≤ 2 ^ 64 → AreDegrees s d lo hi → IsCorner s S R
    → (units_of_56 (neg_ℤ hi) ≤F times (opposite S) R) × (times (opposite S) R ≤F units_of_56 (neg_ℤ lo))
opposite_corner s d lo hi S R l a k =
    let b = corner s d lo hi S R l a k in (
      le_trans _ _ _ (le_of_same (neg_is hi)) (le_by (S ∷ R ∷ units_of_56 hi ∷ []) ((at 0 ⊗ at 1 ≼ at 2) ∷ [])
          (minus (at 2)) (minus (at 0) ⊗ at 1) (known 0)
          refl (b.1, tt)),
      le_trans _ _ _ (le_by (S ∷ R ∷ units_of_56 lo ∷ []) ((at 2 ≼ at 0 ⊗ at 1) ∷ []) (minus (at 0) ⊗ at 1)
          (minus (at 2)) (known 0) refl (b.0, tt))
          (ge_of_same (neg_is lo)),
    )

between_mono : (a b : ℤ) → a ≤ℤ b → at_64 a ≤F at_64 b
between_mono a b h = record { cross = omega (arith, ints, h) }

fine_mono : at_58 (pos factor) ≤F at_58 (pos (suc factor))
fine_mono = record { cross = record { le = tt } }

four : (s : ℕ)
    → IsCorner s (at_64 (pos s -ℤ pos 4)) (at_58 (pos factor))
    × (IsCorner s (at_64 (pos s -ℤ pos 4)) (at_58 (pos (suc factor)))
    × (IsCorner s (at_64 (pos s +ℤ pos 6)) (at_58 (pos factor)) × IsCorner s (at_64 (pos s +ℤ pos 6))
    (at_58 (pos (suc factor)))))
four s =
    let m = between_mono (pos s -ℤ pos 4) (pos s +ℤ pos 6) (omega (arith, ints)) in
    let a = le_refl (at_64 (pos s -ℤ pos 4)) in
    let b = le_refl (at_64 (pos s +ℤ pos 6)) in
    let c = le_refl (at_58 (pos factor)) in
    let d = le_refl (at_58 (pos (suc factor))) in (
      record {
        low =
            a;
        high =
            m;
        from =
            c;
        to =
            fine_mono;
      },
      (
        record { low = a; high = m; from = fine_mono; to = d },
        (
          record { low = m; high = b; from = c; to = fine_mono },
          record { low = m; high = b; from = fine_mono; to = d },
        ),
      ),
    )

product_held : (s d : ℕ) (lo hi : ℤ) → s ≤ 2 ^ 64 → AreDegrees s d lo hi
    → product (around s) radian ⊆ between (units_of_56 lo) (units_of_56 hi)
unfolding product
product_held s d lo hi l a =
    let k = four s in
    let c = corner s d lo hi _ _ l a k.0 in
    let e = corner s d lo hi _ _ l a k.1.0 in
    let f = corner s d lo hi _ _ l a k.1.1.0 in
    let g = corner s d lo hi _ _ l a k.1.1.1 in
    record { endpoints = (least_is _ _ _ _ _ c.0 e.0 f.0 g.0, greatest_is _ _ _ _ _ c.1 e.1 f.1 g.1) }

opposite_product_held : (s d : ℕ) (lo hi : ℤ) → s ≤ 2 ^ 64 → AreDegrees s d lo hi
    → product (negative (around s)) radian ⊆ between (units_of_56 (neg_ℤ hi)) (units_of_56 (neg_ℤ lo))
unfolding product negative
opposite_product_held s d lo hi l a =
    let k = four s in
    let c = opposite_corner s d lo hi _ _ l a k.0 in
    let e = opposite_corner s d lo hi _ _ l a k.1.0 in
    let f = opposite_corner s d lo hi _ _ l a k.1.1.0 in
    let g = opposite_corner s d lo hi _ _ l a k.1.1.1 in
    record { endpoints = (least_is _ _ _ _ _ f.0 g.0 c.0 e.0, greatest_is _ _ _ _ _ f.1 g.1 c.1 e.1) }

-- ---- in degrees
radians_small : (q w t s : ℕ) → IsComputed q w t s → s ≤ 2 ^ 64
radians_small q w t s c = omega (arith, high_small s q t (high_is s q t c.radians) (omega (arith, c.small)), c.below)

pub near_held : (n q w t s d : ℕ) (lo hi : ℤ) (x : Fraction) → 40 ≤ n → IsComputed q w t s → AreDegrees s d lo hi
    → IsNumber q x
    → arc_near n x ⊆ between (units_of_56 lo) (units_of_56 hi)
unfolding arc_near
near_held n q w t s d lo hi x l c a g =
    within_trans (product_within (series_proper n x (number_in q x g)) (degrees_proper n)
    (series_held n q w t s x l c g) (radian_near n l))
    (product_held s d lo hi (radians_small q w t s c) a)

pub near_mirrored : (n q w t s d : ℕ) (lo hi : ℤ) (x : Fraction) → 40 ≤ n → 1 ≤ q → IsComputed q w t s
    → AreDegrees s d lo hi → IsNumber q (opposite x)
    → arc_near n x ⊆ between (units_of_56 (neg_ℤ hi)) (units_of_56 (neg_ℤ lo))
unfolding arc_near
near_mirrored n q w t s d lo hi x l m c a g =
    within_trans (product_within (series_proper n x (opposite_in q x g)) (degrees_proper n)
    (series_mirrored n q w t s x l m c g) (radian_near n l))
    (opposite_product_held s d lo hi (radians_small q w t s c) a)
