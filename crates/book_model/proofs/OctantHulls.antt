-- The sine of degrees is narrower for a narrower interval and for a greater depth.
use Rattle.std.proofs.Common.{ℕ, zero, suc, refl, arith, pos, [], ◌∷◌}
use Rattle.std.proofs.lemmas.Int.{ints}
use Rattle.exact_math.specs.Fraction.{Fraction, ◌≤F◌, whole, plus, opposite, times, power, is_at_most, smaller, larger}
use Rattle.exact_math.specs.Fraction.{size}
use Rattle.exact_math.specs.Interval.{Interval, everything, between, IsProper, AreWithin, ◌⊆◌, sum, negative, product}
use Rattle.exact_math.specs.Interval.{hull, least, greatest, one as one_fraction, minus_one}
use Rattle.exact_math.specs.Sums.{one_over, lower, upper, alternating}
use Rattle.exact_math.proofs.Ring.{at, lit, ◌⊖◌, ◌⊗◌}
use Rattle.exact_math.proofs.Fractions.{le_refl, le_trans, times_mono}
use Rattle.exact_math.proofs.Intervals.{within_trans, within_refl, negative_within, product_within, product_proper}
use Rattle.exact_math.proofs.Intervals.{negative_proper, least_is, least_below, greatest_is, greatest_above}
use Rattle.exact_math.proofs.Certificates.{zero_F, ◌≼◌, known, ◌⊠◌, le_by}
use Rattle.exact_math.proofs.Hulls.{hull_swap, negative_hull}
use Rattle.exact_math.proofs.Narrowing.{narrows, at_least}
use Rattle.book_model.specs.numbers.Series.{sine_term, cosine_term, arctan_term, over_factorial, scaled, four_fifths}
use Rattle.book_model.specs.numbers.Series.{sine_series, cosine_series, pi_at}
use Rattle.book_model.specs.numbers.Octants.{only, radians, short_of, sine_into}
use Rattle.book_model.proofs.SeriesNesting.{sines, cosines, Precedes, preceding, sine_between, cosine_between}
use Rattle.book_model.proofs.Pi.{pi_proper, pi_deeper, pi_at_least}

-- ---- radians
degree_proper : (n : ℕ) → IsProper (product (pi_at n) (only (one_over 179)))
degree_proper n = product_proper (pi_at n) (only (one_over 179)) (pi_proper n) (le_refl (one_over 179))

pub radians_proper : (n : ℕ) (r : Fraction) → IsProper (radians n r)
unfolding radians
radians_proper n r = product_proper (only r) (product (pi_at n) (only (one_over 179))) (le_refl r) (degree_proper n)

radians_deeper : (n : ℕ) (r : Fraction) → radians (suc n) r ⊆ radians n r
unfolding radians
radians_deeper n r =
    product_within (le_refl r) (degree_proper (suc n)) (within_refl (only r))
    (product_within (pi_proper (suc n)) (le_refl (one_over 179)) (pi_deeper n) (within_refl (only (one_over 179))))

-- a degree has at least 0 radians
degree_at_1 : product (pi_at 1) (only (one_over 179)) ⊆ between zero_F one_fraction
unfolding product least greatest smaller larger is_at_most pi_at sum negative scaled lower upper alternating size
    arctan_term power plus times opposite
degree_at_1 = record { endpoints = (record { cross = record { le = tt } }, record { cross = record { le = tt } }) }

degree_inside : (n : ℕ) → product (pi_at (suc n)) (only (one_over 179)) ⊆ between zero_F one_fraction
degree_inside n =
    within_trans (product_within (pi_proper (suc n)) (le_refl (one_over 179)) (pi_at_least 1 (suc n) (omega arith))
    (within_refl (only (one_over 179))))
    degree_at_1

-- for degrees of d, at least 0, a greater number of them is a greater angle
angles_rise : (d : Interval) (r s : Fraction) → IsProper d → AreWithin d (between zero_F one_fraction) → zero_F ≤F r
    → r ≤F s
    → Precedes (product (only r) d) (product (only s) d)
unfolding product
angles_rise everything r s p h r0 l = absurd h
angles_rise (between a b) r s p h r0 l =
    let lo = least_below (times r a) (times r b) (times r a) (times r b) in
    let hi = greatest_above (times s a) (times s b) (times s a) (times s b) in
    let b0 = le_trans zero_F a b h.0 p in
    let aa = by_first a h.0 in
    let bb = by_first b b0 in
    let sab = by_second s (le_trans zero_F r s r0 l) in
    let rab = by_second r r0 in
    preceding
    (le_trans _ (times r a) _ lo.0 (least_is (times r a) _ _ _ _ aa (le_trans _ _ _ aa sab) aa (le_trans _ _ _ aa sab)))
    (le_trans _ (times s b) _ (greatest_is (times s b) _ _ _ _ (le_trans _ _ _ rab bb) bb (le_trans _ _ _ rab bb) bb)
    hi.1)
  where
    by_first : (z : Fraction) → zero_F ≤F z → times r z ≤F times s z
    by_first z h = times_mono r s z h l

    by_second : (z : Fraction) → zero_F ≤F z → times z a ≤F times z b
    by_second z h = le_by (z ∷ a ∷ b ∷ []) ((lit (pos 0) ≼ at 0) ∷ (at 1 ≼ at 2) ∷ []) (at 0 ⊗ at 1) (at 0 ⊗ at 2)
        (known 0 ⊠ known 1) refl (h, (p, tt))

radians_rise : (n : ℕ) (r s : Fraction) → zero_F ≤F r → r ≤F s → Precedes (radians (suc n) r) (radians (suc n) s)
unfolding radians
radians_rise n r s h l = angles_rise (product (pi_at (suc n)) (only (one_over 179))) r s (degree_proper (suc n))
    (degree_inside n).endpoints h l

-- ---- the sines at three angles in an octant
pub record InOctant (p q r : Fraction) : Type 0 where
  pub nonneg : zero_F ≤F p
  pub first : p ≤F q
  pub second : q ≤F r
  pub bounded : r ≤F whole (pos 45)

short_order : (p q : Fraction) → p ≤F q → short_of q ≤F short_of p
short_order p q h = le_by (p ∷ q ∷ []) ((at 0 ≼ at 1) ∷ []) (lit (pos 45) ⊖ at 1) (lit (pos 45) ⊖ at 0) (known 0) refl
    (h, tt)

short_nonneg : (p : Fraction) → p ≤F whole (pos 45) → zero_F ≤F short_of p
short_nonneg p h = le_by (p ∷ []) ((at 0 ≼ lit (pos 45)) ∷ []) (lit (pos 0)) (lit (pos 45) ⊖ at 0) (known 0) refl
    (h, tt)

short_bounded : (p : Fraction) → zero_F ≤F p → short_of p ≤F whole (pos 45)
short_bounded p h = le_by (p ∷ []) ((lit (pos 0) ≼ at 0) ∷ []) (lit (pos 45) ⊖ at 0) (lit (pos 45)) (known 0) refl
    (h, tt)

shorts : (p q r : Fraction) → InOctant p q r → InOctant (short_of r) (short_of q) (short_of p)
shorts p q r i = record {
  nonneg = short_nonneg r i.bounded;
  first = short_order q r i.second;
  second = short_order p q i.first;
  bounded = short_bounded p i.nonneg;
}

sine_amid : (n : ℕ) (p q r : Fraction) → InOctant p q r → sine_series (suc n) (radians (suc n) q) ⊆ hull
    (sine_series (suc n) (radians (suc n) p))
    (sine_series (suc n) (radians (suc n) r))
sine_amid n p q r i =
    let q0 = le_trans zero_F p q i.nonneg i.first in
    sine_between (suc n) (radians_proper (suc n) q) (radians_rise n p q i.nonneg i.first)
    (radians_rise n q r q0 i.second)

cosine_amid : (n : ℕ) (p q r : Fraction) → InOctant p q r → cosine_series (suc n) (radians (suc n) q) ⊆ hull
    (cosine_series (suc n) (radians (suc n) p))
    (cosine_series (suc n) (radians (suc n) r))
cosine_amid n p q r i =
    let q0 = le_trans zero_F p q i.nonneg i.first in
    cosine_between n (radians_proper (suc n) q) (radians_rise n p q i.nonneg i.first) (radians_rise n q r q0 i.second)

pub into_amid : (n j : ℕ) (p q r : Fraction) → InOctant p q r → sine_into (suc n) j q ⊆ hull (sine_into (suc n) j p)
    (sine_into (suc n) j r)
unfolding sine_into
into_amid n zero p q r i = sine_amid n p q r i
into_amid n (suc zero) p q r i = within_trans (cosine_amid n _ _ _ (shorts p q r i)) (hull_swap _ _)
into_amid n (suc (suc zero)) p q r i = cosine_amid n p q r i
into_amid n (suc (suc (suc zero))) p q r i = within_trans (sine_amid n _ _ _ (shorts p q r i)) (hull_swap _ _)
into_amid n (suc (suc (suc (suc j)))) p q r i = within_trans (negative_within (into_amid n j p q r i))
    (negative_hull _ _)

pub into_deeper : (n j : ℕ) (r : Fraction) → sine_into (suc (suc n)) j r ⊆ sine_into (suc n) j r
unfolding sine_into
into_deeper n zero r = narrows sine_series sines (suc n) (radians_proper (suc (suc n)) r) (radians_deeper (suc n) r)
into_deeper n (suc zero) r = narrows (λ m. cosine_series (suc m)) cosines n (radians_proper (suc (suc n)) (short_of r))
    (radians_deeper (suc n) (short_of r))
into_deeper n (suc (suc zero)) r = narrows (λ m. cosine_series (suc m)) cosines n (radians_proper (suc (suc n)) r)
    (radians_deeper (suc n) r)
into_deeper n (suc (suc (suc zero))) r = narrows sine_series sines (suc n) (radians_proper (suc (suc n)) (short_of r))
    (radians_deeper (suc n) (short_of r))
into_deeper n (suc (suc (suc (suc j)))) r = negative_within (into_deeper n j r)

pub into_proper : (n j : ℕ) (r : Fraction) → IsProper (sine_into (suc n) j r)
unfolding sine_into
into_proper n zero r = sines.proper (suc n) (radians (suc n) r) (radians_proper (suc n) r)
into_proper n (suc zero) r = cosines.proper n (radians (suc n) (short_of r)) (radians_proper (suc n) (short_of r))
into_proper n (suc (suc zero)) r = cosines.proper n (radians (suc n) r) (radians_proper (suc n) r)
into_proper n (suc (suc (suc zero))) r = sines.proper (suc n) (radians (suc n) (short_of r))
    (radians_proper (suc n) (short_of r))
into_proper n (suc (suc (suc (suc j)))) r = negative_proper (sine_into (suc n) j r) (into_proper n j r)

-- ---- a sine in an octant lies in -1 .. 1
abbrev first_angles : Interval
first_angles = between zero_F four_fifths

abbrev pub all_sines : Interval
all_sines = between minus_one one_fraction

angles_at_1 : product (between zero_F (whole (pos 45))) (product (pi_at 1) (only (one_over 179))) ⊆ first_angles
unfolding product least greatest smaller larger is_at_most pi_at sum negative scaled lower upper alternating size
    arctan_term power plus times opposite
angles_at_1 = record { endpoints = (record { cross = record { le = tt } }, record { cross = record { le = tt } }) }

pub radians_inside : (n : ℕ) (r : Fraction) → zero_F ≤F r → r ≤F whole (pos 45) → radians (suc n) r ⊆ first_angles
unfolding radians
radians_inside n r h k =
    within_trans
    (product_within (le_refl r) (degree_proper (suc n)) (record { endpoints = (h, k) })
    (product_within (pi_proper (suc n)) (le_refl (one_over 179)) (pi_at_least 1 (suc n) (omega arith))
    (within_refl (only (one_over 179)))))
    angles_at_1

first_proper : IsProper first_angles
first_proper = record { cross = omega (arith, ints) }

sines_at_1 : sine_series 1 first_angles ⊆ all_sines
unfolding sine_series is_at_most lower upper alternating size sine_term over_factorial power plus times opposite
sines_at_1 = record { endpoints = (record { cross = record { le = tt } }, record { cross = record { le = tt } }) }

cosines_at_1 : cosine_series 1 first_angles ⊆ all_sines
unfolding cosine_series is_at_most lower upper alternating size cosine_term over_factorial power plus times opposite
cosines_at_1 = record { endpoints = (record { cross = record { le = tt } }, record { cross = record { le = tt } }) }

sine_inside : (n : ℕ) (r : Fraction) → zero_F ≤F r → r ≤F whole (pos 45)
    → sine_series (suc n) (radians (suc n) r) ⊆ all_sines
sine_inside n r h k = within_trans (at_least sine_series sines 1 (suc n) (omega arith) (radians_proper (suc n) r)
    (radians_inside n r h k)) sines_at_1

cosine_inside : (n : ℕ) (r : Fraction) → zero_F ≤F r → r ≤F whole (pos 45) → cosine_series (suc n) (radians (suc n) r)
    ⊆ all_sines
cosine_inside n r h k = within_trans (at_least (λ m. cosine_series (suc m)) cosines 0 n (omega arith)
    (radians_proper (suc n) r) (radians_inside n r h k))
    cosines_at_1

negative_sines : negative all_sines ⊆ all_sines
unfolding negative opposite
negative_sines = record { endpoints = (record { cross = record { le = tt } }, record { cross = record { le = tt } }) }

pub into_inside : (n j : ℕ) (r : Fraction) → zero_F ≤F r → r ≤F whole (pos 45) → sine_into (suc n) j r ⊆ all_sines
unfolding sine_into
into_inside n zero r h k = sine_inside n r h k
into_inside n (suc zero) r h k = cosine_inside n (short_of r) (short_nonneg r k) (short_bounded r h)
into_inside n (suc (suc zero)) r h k = cosine_inside n r h k
into_inside n (suc (suc (suc zero))) r h k = sine_inside n (short_of r) (short_nonneg r k) (short_bounded r h)
into_inside n (suc (suc (suc (suc j)))) r h k = within_trans (negative_within (into_inside n j r h k)) negative_sines
