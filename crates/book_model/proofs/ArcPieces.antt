-- In each piece the arctangent in degrees rises, its enclosures nest, and it lies from -90 to 90.
use Rattle.std.proofs.Common.{ℕ, zero, suc, refl, arith, pos, negsuc, ℤ, ◌≤ℤ◌, [], ◌∷◌, Option, Some, None}
use Rattle.std.proofs.lemmas.Int.{ints}
use Rattle.exact_math.specs.Fraction.{Fraction, ◌≤F◌, ◌≈◌, whole, plus, opposite, times, reciprocal}
use Rattle.exact_math.specs.Interval.{Interval, between, IsProper, ◌⊆◌, sum, negative, one, minus_one}
use Rattle.exact_math.proofs.Ring.{at, lit, ◌⊕◌, ◌⊖◌, ◌⊗◌, minus}
use Rattle.exact_math.proofs.Fractions.{le_refl, opposite_mono, plus_mono, IsPositive, positive_above}
use Rattle.exact_math.proofs.Fractions.{reciprocal_anti_positive}
use Rattle.exact_math.proofs.Intervals.{within_trans, within_refl, negative_within, negative_proper, sum_within}
use Rattle.exact_math.proofs.Intervals.{plus_proper}
use Rattle.exact_math.proofs.Certificates.{zero_F, ◌≼◌, ◌≗◌, known, multiple, ◌⊞◌, ◌⊠◌, natural, le_by, le_over}
use Rattle.book_model.specs.numbers.Octants.{only}
use Rattle.book_model.specs.numbers.Arcs.{half, minus_half, arc_above, arc_beyond, Piece, far_below, below, near, above}
use Rattle.book_model.specs.numbers.Arcs.{far_above}
use Rattle.book_model.proofs.SeriesNesting.{Precedes, preceding}
use Rattle.book_model.proofs.ArcSeries.{InHalf, near_rises, near_deeper, near_proper, near_inside, near_nonneg}

-- ---- 1 / a
one_z : (m p : ℕ) → times (record { num = pos (suc m); below = p }) (record { num = pos (suc p); below = m }) ≈ whole
    (pos 1)
unfolding times
one_z m p = record { cross = omega (arith, ints) }

pub recip_one : (a : Fraction) → IsPositive a → times a (reciprocal a) ≈ whole (pos 1)
unfolding reciprocal
recip_one a h = by_parts a.num a.below h.above
  where
    by_parts : (n : ℤ) (p : ℕ) → pos 1 ≤ℤ n
        → times (record { num = n; below = p }) (reciprocal (record { num = n; below = p })) ≈ whole (pos 1)
    by_parts (pos (suc m)) p h = one_z m p
    by_parts (pos zero) p h = absurd (omega (arith, ints))
    by_parts (negsuc m) p h = absurd (omega (arith, ints))

pub recip_nonneg : (a : Fraction) → IsPositive a → zero_F ≤F reciprocal a
unfolding reciprocal
recip_nonneg a h = by_parts a.num a.below h.above
  where
    by_parts : (n : ℤ) (p : ℕ) → pos 1 ≤ℤ n → zero_F ≤F reciprocal (record { num = n; below = p })
    by_parts (pos (suc m)) p h = record { cross = omega (arith, ints) }
    by_parts (pos zero) p h = absurd (omega (arith, ints))
    by_parts (negsuc m) p h = absurd (omega (arith, ints))

one_positive : IsPositive one
one_positive = record { above = omega (arith, ints) }

-- ---- twice a number
half_by : (z : Fraction) → times (whole (pos 2)) z ≤F whole (pos 1) → z ≤F half
unfolding times
half_by z h = record { cross = omega (arith, ints, h.cross) }

minus_half_by : (z : Fraction) → whole (negsuc 0) ≤F times (whole (pos 2)) z → minus_half ≤F z
unfolding times
minus_half_by z h = record { cross = omega (arith, ints, h.cross) }

twice_half : (z : Fraction) → half ≤F z → whole (pos 1) ≤F times (whole (pos 2)) z
unfolding times
twice_half z h = record { cross = omega (arith, ints, h.cross) }

-- ---- from 1/2 to 3
pub record InAbove (x : Fraction) : Type 0 where
  pub from : half ≤F x
  pub to : x ≤F whole (pos 3)

abbrev pub turned : Fraction → Fraction
turned x = times (plus x minus_one) (reciprocal (plus x one))

pub sum_positive : (x : Fraction) → half ≤F x → IsPositive (plus x one)
sum_positive x h =
    positive_above one (plus x one) one_positive
    (le_over 1 (x ∷ []) ((lit (pos 1) ≼ lit (pos 2) ⊗ at 0) ∷ []) (lit (pos 1)) (at 0 ⊕ lit (pos 1))
    (known 0 ⊞ natural 1) refl (twice_half x h, tt))

pub turned_in : (x : Fraction) → InAbove x → InHalf (turned x)
turned_in x w =
    let p = sum_positive x w.from in
    let u = reciprocal (plus x one) in
    record {
      above = minus_half_by (turned x)
          (le_over 1 (x ∷ u ∷ []) ((lit (pos 1) ≼ lit (pos 2) ⊗ at 0) ∷ (lit (pos 0) ≼ at 1)
          ∷ ((at 0 ⊕ lit (pos 1)) ⊗ at 1 ≗ lit (pos 1)) ∷ [])
          (lit (negsuc 0)) (lit (pos 2) ⊗ ((at 0 ⊕ lit (negsuc 0)) ⊗ at 1))
          (natural 3 ⊠ known 0 ⊠ known 1 ⊞ known 1 ⊞ multiple 2 (lit (pos 2))) refl
          (twice_half x w.from, (recip_nonneg (plus x one) p, (recip_one (plus x one) p, tt))));
      below = half_by (turned x)
          (le_by (x ∷ u ∷ []) ((at 0 ≼ lit (pos 3)) ∷ (lit (pos 0) ≼ at 1) ∷ ((at 0 ⊕ lit (pos 1)) ⊗ at 1 ≗ lit (pos 1))
          ∷ [])
          (lit (pos 2) ⊗ ((at 0 ⊕ lit (negsuc 0)) ⊗ at 1)) (lit (pos 1))
          (known 0 ⊠ known 1 ⊞ multiple 2 (lit (pos 1))) refl
          (w.to, (recip_nonneg (plus x one) p, (recip_one (plus x one) p, tt))));
    }

turned_rises : (x y : Fraction) → half ≤F x → half ≤F y → x ≤F y → turned x ≤F turned y
turned_rises x y w v h =
    let p = sum_positive x w in
    let q = sum_positive y v in
    le_by (x ∷ y ∷ reciprocal (plus x one) ∷ reciprocal (plus y one) ∷ [])
    ((at 0 ≼ at 1) ∷ (lit (pos 0) ≼ at 2) ∷ (lit (pos 0) ≼ at 3) ∷ ((at 0 ⊕ lit (pos 1)) ⊗ at 2 ≗ lit (pos 1))
    ∷ ((at 1 ⊕ lit (pos 1)) ⊗ at 3 ≗ lit (pos 1)) ∷
    [])
    ((at 0 ⊕ lit (negsuc 0)) ⊗ at 2) ((at 1 ⊕ lit (negsuc 0)) ⊗ at 3)
    (natural 2 ⊠ known 0 ⊠ known 1 ⊠ known 2 ⊞ multiple 3 (lit (pos 1) ⊖ lit (pos 2) ⊗ at 3) ⊞ multiple 4
    (lit (pos 2) ⊗ at 2 ⊖ lit (pos 1))) refl
    (h, (recip_nonneg _ p, (recip_nonneg _ q, (recip_one _ p, (recip_one _ q, tt)))))

-- ---- from 3 on
pub three_positive : (x : Fraction) → whole (pos 3) ≤F x → IsPositive x
three_positive x h = positive_above (whole (pos 3)) x (record { above = omega (arith, ints) }) h

pub recip_in : (x : Fraction) → whole (pos 3) ≤F x → InHalf (reciprocal x)
recip_in x h =
    let p = three_positive x h in
    record {
      above = minus_half_by (reciprocal x)
          (le_by (reciprocal x ∷ []) ((lit (pos 0) ≼ at 0) ∷ []) (lit (negsuc 0)) (lit (pos 2) ⊗ at 0)
          (natural 2 ⊠ known 0 ⊞ natural 1) refl
          (recip_nonneg x p, tt));
      below = half_by (reciprocal x)
          (le_by (x ∷ reciprocal x ∷ []) ((lit (pos 3) ≼ at 0) ∷ (lit (pos 0) ≼ at 1) ∷ (at 0 ⊗ at 1 ≗ lit (pos 1))
          ∷ []) (lit (pos 2) ⊗ at 1) (lit (pos 1))
          (known 0 ⊠ known 1 ⊞ known 1 ⊞ multiple 2 (lit (pos 1))) refl (h, (recip_nonneg x p, (recip_one x p, tt))));
    }

-- ---- sums and opposites
sums_rise : (c : Fraction) {i j : Interval} → Precedes i j → Precedes (sum (only c) i) (sum (only c) j)
unfolding sum
sums_rise c (preceding {a = a} {b = b} {c = e} {d = d} ae bd) = preceding (plus_mono c c a e (le_refl c) ae)
    (plus_mono c c b d (le_refl c) bd)

opposites_fall : {i j : Interval} → Precedes i j → Precedes (negative j) (negative i)
unfolding negative
opposites_fall (preceding {a = a} {b = b} {c = c} {d = d} ac bd) = preceding (opposite_mono b d bd)
    (opposite_mono a c ac)

abbrev pub quarters : Interval
quarters = between (whole (negsuc 89)) (whole (pos 90))

opposite_quarters : negative quarters ⊆ quarters
unfolding negative opposite
opposite_quarters =
    record { endpoints = (record { cross = record { le = tt } }, record { cross = record { le = tt } }) }

-- ---- the positive pieces
above_rises : (n : ℕ) (x y : Fraction) → InAbove x → InAbove y → x ≤F y → Precedes (arc_above n x) (arc_above n y)
unfolding arc_above
above_rises n x y w v h = sums_rise (whole (pos 45)) (near_rises n (turned x) (turned y) (turned_in x w) (turned_in y v)
    (turned_rises x y w.from v.from h))

above_deeper : (n : ℕ) (x : Fraction) → InAbove x → arc_above (suc n) x ⊆ arc_above n x
unfolding arc_above
above_deeper n x w = sum_within (within_refl (only (whole (pos 45)))) (near_deeper n (turned x) (turned_in x w))

above_proper : (n : ℕ) (x : Fraction) → InAbove x → IsProper (arc_above n x)
unfolding arc_above
above_proper n x w = plus_proper _ _ (le_refl (whole (pos 45))) (near_proper n (turned x) (turned_in x w))

first_quarter : sum (only (whole (pos 45))) (between (whole (negsuc 44)) (whole (pos 45))) ⊆ quarters
unfolding sum plus
first_quarter = record { endpoints = (record { cross = record { le = tt } }, record { cross = record { le = tt } }) }

above_inside : (n : ℕ) (x : Fraction) → InAbove x → arc_above n x ⊆ quarters
unfolding arc_above
above_inside n x w =
    within_trans (sum_within (within_refl (only (whole (pos 45)))) (near_inside n (turned x) (turned_in x w)))
    first_quarter

beyond_rises : (n : ℕ) (x y : Fraction) → whole (pos 3) ≤F x → whole (pos 3) ≤F y → x ≤F y
    → Precedes (arc_beyond n x) (arc_beyond n y)
unfolding arc_beyond
beyond_rises n x y w v h =
    sums_rise (whole (pos 90)) (opposites_fall (near_rises n (reciprocal y) (reciprocal x) (recip_in y v) (recip_in x w)
    (reciprocal_anti_positive x y (three_positive x w) (three_positive y v) h)))

beyond_deeper : (n : ℕ) (x : Fraction) → whole (pos 3) ≤F x → arc_beyond (suc n) x ⊆ arc_beyond n x
unfolding arc_beyond
beyond_deeper n x w = sum_within (within_refl (only (whole (pos 90))))
    (negative_within (near_deeper n (reciprocal x) (recip_in x w)))

beyond_proper : (n : ℕ) (x : Fraction) → whole (pos 3) ≤F x → IsProper (arc_beyond n x)
unfolding arc_beyond
beyond_proper n x w = plus_proper _ _ (le_refl (whole (pos 90)))
    (negative_proper _ (near_proper n (reciprocal x) (recip_in x w)))

last_eighth : sum (only (whole (pos 90))) (negative (between zero_F (whole (pos 45)))) ⊆ quarters
unfolding sum plus negative opposite
last_eighth = record { endpoints = (record { cross = record { le = tt } }, record { cross = record { le = tt } }) }

beyond_inside : (n : ℕ) (x : Fraction) → whole (pos 3) ≤F x → arc_beyond n x ⊆ quarters
unfolding arc_beyond
beyond_inside n x w =
    within_trans (sum_within (within_refl (only (whole (pos 90))))
    (negative_within (near_nonneg n (reciprocal x) (recip_in x w) (recip_nonneg x (three_positive x w))))) last_eighth

near_quarters : between (whole (negsuc 44)) (whole (pos 45)) ⊆ quarters
near_quarters = record { endpoints = (record { cross = record { le = tt } }, record { cross = record { le = tt } }) }

-- ---- all pieces
abbrev pub IsFrom : Option Fraction → Fraction → Type 0
IsFrom None x = Unit {0}
IsFrom (Some e) x = e ≤F x

abbrev pub IsTo : Option Fraction → Fraction → Type 0
IsTo None x = Unit {0}
IsTo (Some e) x = x ≤F e

pub record InPiece (p : Piece) (x : Fraction) : Type 0 where
  pub from : IsFrom p.begin x
  pub to : IsTo p.end x

-- below -3 the opposite is from 3 on
pub opposite_three : (x : Fraction) → x ≤F whole (negsuc 2) → whole (pos 3) ≤F opposite x
opposite_three x h = le_by (x ∷ []) ((at 0 ≼ lit (negsuc 2)) ∷ []) (lit (pos 3)) (minus (at 0)) (known 0) refl (h, tt)

pub opposite_above : (x : Fraction) → whole (negsuc 2) ≤F x → x ≤F minus_half → InAbove (opposite x)
unfolding opposite
opposite_above x h k = record {
  from = record { cross = omega (arith, ints, k.cross) };
  to = record { cross = omega (arith, ints, h.cross) };
}

abbrev pub AreInOrder : Option Fraction → Option Fraction → Type 0
AreInOrder None t = Unit {0}
AreInOrder (Some e) None = Unit {0}
AreInOrder (Some e) (Some f) = e ≤F f

-- in a piece the arctangent rises, its enclosures nest, and it lies from -90 to 90
pub record IsArc (p : Piece) : Type 0 where
  pub order : AreInOrder p.begin p.end
  pub rises : (n : ℕ) (x y : Fraction) → InPiece p x → InPiece p y → x ≤F y → Precedes (p.arc n x) (p.arc n y)
  pub deeper : (n : ℕ) (x : Fraction) → InPiece p x → p.arc (suc n) x ⊆ p.arc n x
  pub proper : (n : ℕ) (x : Fraction) → InPiece p x → IsProper (p.arc n x)
  pub inside : (n : ℕ) (x : Fraction) → InPiece p x → p.arc n x ⊆ quarters

pub far_below_arc : IsArc far_below
far_below_arc = record {
  order = tt;
  rises = λ n x y w v h. opposites_fall (beyond_rises n (opposite y) (opposite x) (opposite_three y v.to)
      (opposite_three x w.to) (opposite_mono x y h));
  deeper = λ n x w. negative_within (beyond_deeper n (opposite x) (opposite_three x w.to));
  proper = λ n x w. negative_proper _ (beyond_proper n (opposite x) (opposite_three x w.to));
  inside = λ n x w. within_trans (negative_within (beyond_inside n (opposite x) (opposite_three x w.to)))
      opposite_quarters;
}

pub below_arc : IsArc below
below_arc = record {
  order = record { cross = record { le = tt } };
  rises = λ n x y w v h. opposites_fall (above_rises n (opposite y) (opposite x) (opposite_above y v.from v.to)
      (opposite_above x w.from w.to)
      (opposite_mono x y h));
  deeper = λ n x w. negative_within (above_deeper n (opposite x) (opposite_above x w.from w.to));
  proper = λ n x w. negative_proper _ (above_proper n (opposite x) (opposite_above x w.from w.to));
  inside = λ n x w. within_trans (negative_within (above_inside n (opposite x) (opposite_above x w.from w.to)))
      opposite_quarters;
}

pub near_arc : IsArc near
near_arc = record {
  order = record { cross = record { le = tt } };
  rises = λ n x y w v h. near_rises n x y (record { above = w.from; below = w.to })
      (record { above = v.from; below = v.to }) h;
  deeper = λ n x w. near_deeper n x (record { above = w.from; below = w.to });
  proper = λ n x w. near_proper n x (record { above = w.from; below = w.to });
  inside = λ n x w. within_trans (near_inside n x (record { above = w.from; below = w.to })) near_quarters;
}

pub above_arc : IsArc above
above_arc = record {
  order = record { cross = record { le = tt } };
  rises = λ n x y w v h. above_rises n x y (record { from = w.from; to = w.to }) (record { from = v.from; to = v.to })
      h;
  deeper = λ n x w. above_deeper n x (record { from = w.from; to = w.to });
  proper = λ n x w. above_proper n x (record { from = w.from; to = w.to });
  inside = λ n x w. above_inside n x (record { from = w.from; to = w.to });
}

pub far_above_arc : IsArc far_above
far_above_arc = record {
  order = tt;
  rises = λ n x y w v h. beyond_rises n x y w.from v.from h;
  deeper = λ n x w. beyond_deeper n x w.from;
  proper = λ n x w. beyond_proper n x w.from;
  inside = λ n x w. beyond_inside n x w.from;
}
