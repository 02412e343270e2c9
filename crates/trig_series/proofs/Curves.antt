-- The sine lies between two chords of the first octant, and the cosine above 1 less half its angle's square. From the
-- first two terms of the alternating series, whose sums bound it: the inequalities are polynomial in the angle and are
-- certificates, with the radians of a degree between two known fractions.
use Rattle.std.proofs.Common.{ℕ, suc, ◌^◌, ◌*◌, ◌≤◌, refl, arith, ℤ, pos, negsuc, ◌-ℤ◌, ◌*ℤ◌, ◌≤ℤ◌, [], ◌∷◌}
use Rattle.std.proofs.lemmas.Int.{ints}
use Rattle.book_model.specs.Fraction.{Fraction, ◌≤F◌, ◌≈◌, whole, plus, times, power}
use Rattle.book_model.specs.Sums.{lower, upper, one_over}
use Rattle.book_model.proofs.Ring.{at, lit, ◌⊕◌, ◌⊖◌, ◌⊗◌}
use Rattle.book_model.proofs.FractionRing.{same_by}
use Rattle.book_model.proofs.Fractions.{le_trans}
use Rattle.book_model.proofs.Same.{same_trans, same_sym}
use Rattle.book_model.proofs.Certificates.{zero_F, ◌≼◌, ◌≗◌, known, multiple, ◌⊞◌, ◌⊠◌, natural, le_by, le_over}
use Rattle.book_model.proofs.Alternating.{beneath, atop, beneath_step, tails, lower_is_beneath, sum_endpoints_in_order}
use Rattle.book_model.specs.programs.Leading.{units_of_56}
use Rattle.book_model.specs.numbers.Series.{sine_term, cosine_term, over_factorial}
use Rattle.book_model.proofs.Terms.{IsUpTo, sine_halving, sine_rising, sine_first, cosine_halving, cosine_falling}
use Rattle.book_model.proofs.Terms.{cosine_one}
use Rattle.encl_core.specs.Units.{at_64}
use Rattle.encl_core.specs.parts.TheConstants.{ONE, OCTANT}
use Rattle.trig_series.specs.Kernel.{in_radians}
use Rattle.trig_series.proofs.PointLemmas.{sine_zero, cosine_zero, none_in_radians}
use Rattle.trig_series.proofs.Slopes.{atop_slow, beneath_slow, half, half_twice, cosine_second}

pub in_order : (d e : ℕ) → d ≤ e → in_radians d ≤F in_radians e
unfolding times
in_order d e h = record { cross = omega (arith, ints, h) }

pub in_fifths : (d : ℕ) → d ≤ OCTANT → IsUpTo 4 5 (in_radians d)
unfolding times
in_fifths d h = record {
  nonneg = record { cross = omega (arith, ints) };
  bound = record { cross = omega (arith, ints, h) };
}

-- ---- the cosine
full_part : whole (pos 1) ≤F units_of_56 ONE
full_part = record { cross = omega (arith, ints) }

cosine_lower_above : (d : ℕ) → d ≤ OCTANT → whole (pos 1) ≤F plus (lower (cosine_term (in_radians d)) 9)
    (times half (times (in_radians d) (in_radians d)))
cosine_lower_above d u =
    let x = in_radians d in
    let o = in_radians 0 in
    let v = in_fifths 0 (omega arith) in
    let w = in_fifths d u in
    let step = beneath_slow 7 _ _ (same_trans (cosine_one o) (same_sym (cosine_one x)))
    (cosine_falling o x v w (in_order 0 d (omega arith))).rest in
    let moved : plus (lower (cosine_term o) 9) (cosine_term o 1) ≤F plus (lower (cosine_term x) 9) (cosine_term x 1) =
    rw (
      lower_is_beneath (cosine_term o) 9 ((cosine_halving o v).nonneg 9),
      lower_is_beneath (cosine_term x) 9
          ((cosine_halving x w).nonneg 9),
    ) step in
    le_by (lower (cosine_term o) 9 ∷ lower (cosine_term x) 9 ∷ cosine_term o 1 ∷ cosine_term x 1 ∷ o ∷ x ∷ half ∷ [])
    ((at 0 ⊕ at 2 ≼ at 1 ⊕ at 3) ∷ (lit (pos 1) ≼ at 0) ∷ (at 2 ≗ at 6 ⊗ (at 4 ⊗ at 4)) ∷ (at 4 ≗ lit (pos 0))
    ∷ (at 3 ≗ at 6 ⊗ (at 5 ⊗ at 5)) ∷ [])
    (lit (pos 1)) (at 1 ⊕ at 6 ⊗ (at 5 ⊗ at 5))
    (known 0 ⊞ known 1 ⊞ multiple 2 (lit (negsuc 0)) ⊞ multiple 3 (lit (pos 0) ⊖ at 6 ⊗ at 4) ⊞ multiple 4
    (lit (pos 1))) refl (
      moved,
      (
        le_trans _ _ _ full_part (cosine_zero o none_in_radians).0,
        (cosine_second o, (none_in_radians, (cosine_second x, tt))),
      ),
    )

-- a degree is less than 100 / 5729 of a radian
few_radians : (d : ℕ) → times (whole (pos 5729)) (in_radians d) ≤F times (whole (pos 100)) (units_of_56 (pos d))
unfolding times
few_radians d = record { cross = omega (arith, ints) }

no_radians_less : (d : ℕ) → zero_F ≤F in_radians d
unfolding times
no_radians_less d = record { cross = omega (arith, ints) }

cosine_by_degrees : (d : ℕ) (a : Fraction) → whole (pos 1) ≤F plus a (times half (times (in_radians d) (in_radians d)))
    → whole (pos 6561) ≤F plus (times (whole (pos 6561)) a) (times (units_of_56 (pos d)) (units_of_56 (pos d)))
cosine_by_degrees d a h =
    le_over 19999 (a ∷ in_radians d ∷ units_of_56 (pos d) ∷ half ∷ [])
    ((lit (pos 1) ≼ at 0 ⊕ at 3 ⊗ (at 1 ⊗ at 1)) ∷ (lit (pos 0) ≼ at 1) ∷ (lit (pos 5729) ⊗ at 1 ≼ lit (pos 100) ⊗ at 2)
    ∷ (lit (pos 2) ⊗ at 3 ≗ lit (pos 1)) ∷
    [])
    (lit (pos 6561)) (lit (pos 6561) ⊗ at 0 ⊕ at 2 ⊗ at 2)
    (natural 131220000 ⊠ known 0 ⊞ natural 2 ⊠ known 2 ⊠ (known 2 ⊞ natural 11458 ⊠ known 1) ⊞ natural 32882 ⊠ known 1 ⊠
    known 1 ⊞ multiple 3
    (lit (pos 65610000) ⊗ (at 1 ⊗ at 1))) refl
    (h, (no_radians_less d, (few_radians d, (half_twice, tt))))

crest_parts : (d : ℕ) (a : ℤ) → whole (pos 6561) ≤F plus (times (whole (pos 6561)) (at_64 a))
    (times (units_of_56 (pos d)) (units_of_56 (pos d)))
    → ((pos (2 ^ 64) -ℤ a) *ℤ pos (6561 * 2 ^ 48)) ≤ℤ (pos d *ℤ pos d)
unfolding plus times
crest_parts d a h = omega (arith, ints, h.cross)

plus_first : (a b c : Fraction) → a ≤F b → plus a c ≤F plus b c
plus_first a b c h = le_by (a ∷ b ∷ c ∷ []) ((at 0 ≼ at 1) ∷ []) (at 0 ⊕ at 2) (at 1 ⊕ at 2) (known 0) refl (h, tt)

-- what is at least the cosine of d degrees is at least 1 less the square of their 81st
pub cosine_above : (d : ℕ) (a : ℤ) → d ≤ OCTANT → upper (cosine_term (in_radians d)) 9 ≤F at_64 a
    → ((pos (2 ^ 64) -ℤ a) *ℤ pos (6561 * 2 ^ 48)) ≤ℤ (pos d *ℤ pos d)
cosine_above d a u h =
    let x = in_radians d in
    let there = sum_endpoints_in_order 9 (cosine_term x) ((cosine_halving x (in_fifths d u)).nonneg 9) in
    crest_parts d a
    (cosine_by_degrees d (at_64 a)
    (le_trans _ _ _ (cosine_lower_above d u) (plus_first _ _ _ (le_trans _ _ _ there h))))

-- ---- the sine
abbrev sixth : Fraction
sixth = times half (one_over 2)

sixth_six : times (whole (pos 6)) sixth ≈ whole (pos 1)
unfolding times
sixth_six = record { cross = omega (arith, ints) }

sine_second : (x : Fraction) → sine_term x 1 ≈ times sixth (times x (times x x))
unfolding sine_term power over_factorial
sine_second x =
    same_by (x ∷ half ∷ one_over 2 ∷ [])
    ((at 0 ⊗ (at 0 ⊗ (at 0 ⊗ lit (pos 1)))) ⊗ (((lit (pos 1) ⊗ lit (pos 1)) ⊗ at 1) ⊗ at 2))
    ((at 1 ⊗ at 2) ⊗ (at 0 ⊗ (at 0 ⊗ at 0))) refl

sine_lower_above : (d : ℕ) → d ≤ OCTANT
    → in_radians d ≤F plus (lower (sine_term (in_radians d)) 8)
    (times sixth (times (in_radians d) (times (in_radians d) (in_radians d))))
sine_lower_above d u =
    let x = in_radians d in
    let o = in_radians 0 in
    let v = in_fifths 0 (omega arith) in
    let w = in_fifths d u in
    let p = sine_term o in
    let q = sine_term x in
    let step = atop_slow 6 (λ k. p (suc k)) (λ k. q (suc k))
    (tails p q (sine_rising o x v w (in_order 0 d (omega arith)))) in
    let none : zero_F ≤F beneath p 8 = rw (lower_is_beneath p 8 ((sine_halving o v).nonneg 9)) at
    (le_trans _ _ _ no_part (sine_zero o none_in_radians).0) in
    rw (lower_is_beneath q 8 ((sine_halving x w).nonneg 9))
    (le_by (beneath p 8 ∷ beneath q 8 ∷ atop (λ k. p (suc k)) 7 ∷ atop (λ k. q (suc k)) 7 ∷ p 0 ∷ p 1 ∷ q 0 ∷ q 1 ∷ o
    ∷ x ∷ sixth ∷ [])
    ((at 0 ≗ at 4 ⊖ at 2) ∷ (at 1 ≗ at 6 ⊖ at 3) ∷ (at 3 ⊕ at 5 ≼ at 2 ⊕ at 7) ∷ (lit (pos 0) ≼ at 0) ∷ (at 4 ≗ at 8)
    ∷ (at 8 ≗ lit (pos 0)) ∷ (at 6 ≗ at 9) ∷
    (at 7 ≗ at 10 ⊗ (at 9 ⊗ (at 9 ⊗ at 9))) ∷ (at 5 ≗ at 10 ⊗ (at 8 ⊗ (at 8 ⊗ at 8))) ∷ [])
    (at 9) (at 1 ⊕ at 10 ⊗ (at 9 ⊗ (at 9 ⊗ at 9)))
    (multiple 1 (lit (negsuc 0)) ⊞ multiple 6 (lit (negsuc 0)) ⊞ multiple 7 (lit (pos 1)) ⊞ known 2 ⊞ known 3 ⊞ multiple
    0 (lit (pos 1)) ⊞ multiple 8
    (lit (negsuc 0)) ⊞ multiple 4 (lit (pos 1)) ⊞ multiple 5 (lit (pos 1) ⊖ at 10 ⊗ (at 8 ⊗ at 8))) refl (
      beneath_step p 7,
      (
        beneath_step q 7,
        (step, (none, (sine_first o, (none_in_radians, (sine_first x, (sine_second x, (sine_second o, tt))))))),
      ),
    ))
  where
    no_part : zero_F ≤F units_of_56 (pos 0)
    no_part = record { cross = omega (arith, ints) }

-- an octant is less than 79 hundredths of a radian
short_octant : (d : ℕ) → d ≤ OCTANT → times (whole (pos 100)) (in_radians d) ≤F whole (pos 79)
unfolding times
short_octant d u = record { cross = omega (arith, ints, u) }

sine_by_radians : (d : ℕ) (a : Fraction) → d ≤ OCTANT
    → in_radians d ≤F plus a (times sixth (times (in_radians d) (times (in_radians d) (in_radians d))))
    → times (whole (pos 53759)) (in_radians d) ≤F times (whole (pos 60000)) a
sine_by_radians d a u h =
    le_by (a ∷ in_radians d ∷ sixth ∷ [])
    ((at 1 ≼ at 0 ⊕ at 2 ⊗ (at 1 ⊗ (at 1 ⊗ at 1))) ∷ (lit (pos 0) ≼ at 1) ∷ (lit (pos 100) ⊗ at 1 ≼ lit (pos 79))
    ∷ (lit (pos 6) ⊗ at 2 ≗ lit (pos 1)) ∷ [])
    (lit (pos 53759) ⊗ at 1) (lit (pos 60000) ⊗ at 0)
    (natural 60000 ⊠ known 0 ⊞ known 1 ⊠ known 2 ⊠ known 2 ⊞ natural 200 ⊠ known 1 ⊠ known 1 ⊠ known 2 ⊞ multiple 3
    (lit (pos 10000) ⊗ (at 1 ⊗ (at 1 ⊗ at 1))))
    refl
    (h, (no_radians_less d, (short_octant d u, (sixth_six, tt))))

rising_parts : (d : ℕ) (a : ℤ) → times (whole (pos 53759)) (in_radians d) ≤F times (whole (pos 60000)) (at_64 a)
    → (pos d *ℤ pos 5120) ≤ℤ (pos 1279 *ℤ a)
unfolding times
rising_parts d a h = omega (arith, ints, h.cross)

-- what is at least the sine of d degrees of an octant is at least 20 parts in 1279 of them
pub sine_above : (d : ℕ) (a : ℤ) → d ≤ OCTANT → upper (sine_term (in_radians d)) 8 ≤F at_64 a
    → (pos d *ℤ pos 5120) ≤ℤ (pos 1279 *ℤ a)
sine_above d a u h =
    let x = in_radians d in
    let there = sum_endpoints_in_order 8 (sine_term x) ((sine_halving x (in_fifths d u)).nonneg 9) in
    rising_parts d a
    (sine_by_radians d (at_64 a) u
    (le_trans _ _ _ (sine_lower_above d u) (plus_first _ _ _ (le_trans _ _ _ there h))))
