-- Roots of endpoints at a scale, and endpoints that are cut to -1..1. Roots are compared by their squares: of two whole
-- numbers the one with the lesser square is not the greater. A unit of the scale is itself a square, so that a root in
-- units stands on the grid on which the definition takes its roots. What is cut is the lesser and the greater of
-- numbers.
use Rattle.interval_endpoints.specs.Scales.{Scale, coarse, fine, at_scale, unit, half_bits}
use Rattle.std.proofs.Common.{◌≡◌, ℕ, zero, suc, ◌≤◌, ◌^◌, ◌*◌, arith, ℤ, pos, negsuc, ◌+ℤ◌, ◌*ℤ◌, ◌≤ℤ◌, ◌⊎◌, inl, inr}
use lib.IntN.{neg_ℤ}
use Rattle.std.specs.Int.{int_min, int_max}
use Rattle.std.proofs.Math.Nat.{mul-le-mul_left}
use Rattle.std.proofs.lemmas.Int.{ints, clamps}
use Rattle.book_model.specs.Fraction.{◌≤F◌, times, smaller, larger}
use Rattle.book_model.specs.Interval.{Interval, everything, between, ◌⊆◌, clamp, one, minus_one}
use Rattle.book_model.proofs.Fractions.{le_trans, smaller_keeps, larger_keeps, smaller_first, smaller_second}
use Rattle.book_model.proofs.Fractions.{larger_first, larger_second}
use Rattle.book_model.proofs.Intervals.{within_trans, within_refl, clamp_within}
use Rattle.book_model.proofs.Narrowing.{at_least}
use Rattle.book_model.specs.numbers.Expressions.{Expression, World, value, root, clamp as clamp_of}
use Rattle.book_model.specs.numbers.Roots.{natural_part, on_grid, root_low, root_high, root_of}
use Rattle.book_model.specs.numbers.Relations.{Within, Lies}
use Rattle.book_model.proofs.Roots.{roots, low_is, high_is}
use Rattle.book_model.proofs.Values.{value_proper}
use Rattle.interval_endpoints.specs.Rounding.{ShowsEndpoints}
use Rattle.interval_endpoints.proofs.Keeping.{kept_within}

-- ---- squares of whole numbers
no_greater : (r s : ℕ) → r * r ≤ s * s → r ≤ s
no_greater r s h = by_split (split r s)
  where
    split : (j k : ℕ) → (j ≤ k) ⊎ (suc k ≤ j)
    split j k = grind arith

    by_split : (r ≤ s) ⊎ (suc s ≤ r) → r ≤ s
    by_split (inl l) = l
    by_split (inr l) = let a = mul-le-mul_left r l in let b = mul-le-mul_left (suc s) l in
        absurd (omega (arith, a, b, h))

natural_mono : (a b : ℤ) → a ≤ℤ b → natural_part a ≤ natural_part b
natural_mono (pos a) (pos b) h = omega (arith, ints)
natural_mono (pos zero) (negsuc b) h = omega arith
natural_mono (pos (suc a)) (negsuc b) h = absurd (omega (arith, ints))
natural_mono (negsuc a) b h = omega arith

pub roots_order : (scale : Scale) → (a b r s : ℤ) → a ≤ℤ b → pos 0 ≤ℤ r → pos 0 ≤ℤ s
    → (r *ℤ r) ≤ℤ (pos (natural_part a) *ℤ (unit scale))
    → (pos (natural_part b) *ℤ (unit scale)) ≤ℤ (s *ℤ s) → r ≤ℤ s
roots_order coarse a b (pos r) (pos s) h p q k l = let m = natural_mono a b h in
    let n = no_greater r s (omega (arith, ints, k, l, m)) in omega (arith, ints, n)
roots_order fine a b (pos r) (pos s) h p q k l = let m = natural_mono a b h in
    let n = no_greater r s (omega (arith, ints, k, l, m)) in omega (arith, ints, n)
roots_order coarse a b (negsuc r) s h p q k l = absurd (omega (arith, ints))
roots_order fine a b (negsuc r) s h p q k l = absurd (omega (arith, ints))
roots_order coarse a b (pos r) (negsuc s) h p q k l = absurd (omega (arith, ints))
roots_order fine a b (pos r) (negsuc s) h p q k l = absurd (omega (arith, ints))

-- ---- the root
squares_below : (scale : Scale) → (r m : ℕ) → (pos r *ℤ pos r) ≤ℤ (pos m *ℤ (unit scale))
    → times (on_grid (half_bits scale) r) (on_grid (half_bits scale) r) ≤F at_scale scale (pos m)
unfolding times
squares_below coarse r m h = record { cross = omega (arith, ints, h) }
squares_below fine r m h = record { cross = omega (arith, ints, h) }

squares_above : (scale : Scale) → (r m : ℕ) → (pos m *ℤ (unit scale)) ≤ℤ (pos r *ℤ pos r)
    → at_scale scale (pos m) ≤F times (on_grid (half_bits scale) r) (on_grid (half_bits scale) r)
unfolding times
squares_above coarse r m h = record { cross = omega (arith, ints, h) }
squares_above fine r m h = record { cross = omega (arith, ints, h) }

low_holds : (scale : Scale) → (a r : ℤ) → pos 0 ≤ℤ r → (r *ℤ r) ≤ℤ (pos (natural_part a) *ℤ (unit scale))
    → at_scale scale r ≤F root_low (half_bits scale) (at_scale scale a)
low_holds coarse a (negsuc r) p h = absurd (omega (arith, ints))
low_holds fine a (negsuc r) p h = absurd (omega (arith, ints))
low_holds coarse a (pos r) p h = (low_is 18 (at_scale coarse a)).greatest r (squares_below coarse r (natural_part a) h)
low_holds fine a (pos r) p h = (low_is 28 (at_scale fine a)).greatest r (squares_below fine r (natural_part a) h)

high_holds : (scale : Scale) → (b s : ℤ) → pos 0 ≤ℤ s → (pos (natural_part b) *ℤ (unit scale)) ≤ℤ (s *ℤ s)
    → root_high (half_bits scale) (at_scale scale b) ≤F at_scale scale s
high_holds coarse b (negsuc s) p h = absurd (omega (arith, ints))
high_holds fine b (negsuc s) p h = absurd (omega (arith, ints))
high_holds coarse b (pos s) p h = (high_is 18 (at_scale coarse b)).least s (squares_above coarse s (natural_part b) h)
high_holds fine b (pos s) p h = (high_is 28 (at_scale fine b)).least s (squares_above fine s (natural_part b) h)

at_18 : (scale : Scale) → (a b r s : ℤ) → pos 0 ≤ℤ r → pos 0 ≤ℤ s → (r *ℤ r) ≤ℤ (pos (natural_part a) *ℤ (unit scale))
    → (pos (natural_part b) *ℤ (unit scale))
    ≤ℤ (s *ℤ s) → root_of (half_bits scale) (between (at_scale scale a) (at_scale scale b)) ⊆ between (at_scale scale r)
    (at_scale scale s)
unfolding root_of
at_18 scale a b r s p q h k = record { endpoints = (low_holds scale a r p h, high_holds scale b s q k) }

pub root_holds : (scale : Scale) → (n : ℕ) (a b r s : ℤ) (i : Interval) → 40 ≤ n → a ≤ℤ b → pos 0 ≤ℤ r → pos 0 ≤ℤ s
    → (r *ℤ r)
    ≤ℤ (pos (natural_part a) *ℤ (unit scale)) → (pos (natural_part b) *ℤ (unit scale)) ≤ℤ (s *ℤ s)
    → ShowsEndpoints scale r s i → root_of n (between (at_scale scale a) (at_scale scale b)) ⊆ i
root_holds coarse n a b r s i d o p q h k l =
    within_trans (at_least root_of roots 18 n (omega (arith, d)) (record { cross = omega (arith, ints, o) })
    (within_refl (between (at_scale coarse a) (at_scale coarse b))))
    (within_trans (at_18 coarse a b r s p q h k) (kept_within coarse r s i l))
root_holds fine n a b r s i d o p q h k l =
    within_trans (at_least root_of roots 28 n (omega (arith, d)) (record { cross = omega (arith, ints, o) })
    (within_refl (between (at_scale fine a) (at_scale fine b))))
    (within_trans (at_18 fine a b r s p q h k) (kept_within fine r s i l))

-- ---- cut to -1..1
abbrev pub cut_of : (scale : Scale) → ℤ → ℤ
cut_of scale a = int_max (int_min a (unit scale)) (neg_ℤ (unit scale))

cut_low : (scale : Scale) → (a c : ℤ) → c ≡ cut_of scale a
    → at_scale scale c ≤F larger minus_one (smaller (at_scale scale a) one)
cut_low coarse a c e = smaller_keeps (λ z. at_scale coarse c ≤F larger minus_one z) (at_scale coarse a) one
    (by_split (split c (neg_ℤ (pos (2 ^ 36)))))
    (le_trans _ _ _ below_one (larger_second minus_one one))
  where
    split : (j k : ℤ) → (j ≤ℤ k) ⊎ ((k +ℤ pos 1) ≤ℤ j)
    split j k = grind (arith, ints)

    below_one : at_scale coarse c ≤F one
    below_one = record { cross = omega (arith, ints, clamps, e) }

    by_split : (c ≤ℤ neg_ℤ (pos (2 ^ 36))) ⊎ ((neg_ℤ (pos (2 ^ 36)) +ℤ pos 1) ≤ℤ c)
        → at_scale coarse c ≤F larger minus_one (at_scale coarse a)
    by_split (inl l) = le_trans _ minus_one _ (record { cross = omega (arith, ints, l) })
        (larger_first minus_one (at_scale coarse a))
    by_split (inr l) = le_trans _ (at_scale coarse a) _ (record { cross = omega (arith, ints, clamps, e, l) })
        (larger_second minus_one (at_scale coarse a))
cut_low fine a c e = smaller_keeps (λ z. at_scale fine c ≤F larger minus_one z) (at_scale fine a) one
    (by_split (split c (neg_ℤ (pos (2 ^ 56)))))
    (le_trans _ _ _ below_one (larger_second minus_one one))
  where
    split : (j k : ℤ) → (j ≤ℤ k) ⊎ ((k +ℤ pos 1) ≤ℤ j)
    split j k = grind (arith, ints)

    below_one : at_scale fine c ≤F one
    below_one = record { cross = omega (arith, ints, clamps, e) }

    by_split : (c ≤ℤ neg_ℤ (pos (2 ^ 56))) ⊎ ((neg_ℤ (pos (2 ^ 56)) +ℤ pos 1) ≤ℤ c)
        → at_scale fine c ≤F larger minus_one (at_scale fine a)
    by_split (inl l) = le_trans _ minus_one _ (record { cross = omega (arith, ints, l) })
        (larger_first minus_one (at_scale fine a))
    by_split (inr l) = le_trans _ (at_scale fine a) _ (record { cross = omega (arith, ints, clamps, e, l) })
        (larger_second minus_one (at_scale fine a))

cut_high : (scale : Scale) → (a c : ℤ) → c ≡ cut_of scale a → larger minus_one (smaller (at_scale scale a) one) ≤F
    at_scale scale c
cut_high coarse a c e = larger_keeps (λ z. z ≤F at_scale coarse c) minus_one (smaller (at_scale coarse a) one)
    (record { cross = omega (arith, ints, clamps, e) }) (by_split (split (pos (2 ^ 36)) c))
  where
    split : (j k : ℤ) → (j ≤ℤ k) ⊎ ((k +ℤ pos 1) ≤ℤ j)
    split j k = grind (arith, ints)

    by_split : (pos (2 ^ 36) ≤ℤ c) ⊎ ((c +ℤ pos 1) ≤ℤ pos (2 ^ 36))
        → smaller (at_scale coarse a) one ≤F at_scale coarse c
    by_split (inl l) = le_trans _ one _ (smaller_second (at_scale coarse a) one)
        (record { cross = omega (arith, ints, l) })
    by_split (inr l) = le_trans _ (at_scale coarse a) _ (smaller_first (at_scale coarse a) one)
        (record { cross = omega (arith, ints, clamps, e, l) })
cut_high fine a c e = larger_keeps (λ z. z ≤F at_scale fine c) minus_one (smaller (at_scale fine a) one)
    (record { cross = omega (arith, ints, clamps, e) })
    (by_split (split (pos (2 ^ 56)) c))
  where
    split : (j k : ℤ) → (j ≤ℤ k) ⊎ ((k +ℤ pos 1) ≤ℤ j)
    split j k = grind (arith, ints)

    by_split : (pos (2 ^ 56) ≤ℤ c) ⊎ ((c +ℤ pos 1) ≤ℤ pos (2 ^ 56)) → smaller (at_scale fine a) one ≤F at_scale fine c
    by_split (inl l) = le_trans _ one _ (smaller_second (at_scale fine a) one)
        (record { cross = omega (arith, ints, l) })
    by_split (inr l) = le_trans _ (at_scale fine a) _ (smaller_first (at_scale fine a) one)
        (record { cross = omega (arith, ints, clamps, e, l) })

pub cut_holds : (scale : Scale) → (a b c d : ℤ) → c ≡ cut_of scale a → d ≡ cut_of scale b
    → clamp (between (at_scale scale a) (at_scale scale b)) ⊆ between (at_scale scale c) (at_scale scale d)
unfolding clamp
cut_holds scale a b c d e f = record { endpoints = (cut_low scale a c e, cut_high scale b d f) }

pub cut_all : (scale : Scale) → clamp everything ⊆ between (at_scale scale (neg_ℤ (unit scale)))
    (at_scale scale (unit scale))
unfolding clamp
cut_all coarse = record { endpoints = (record { cross = record { le = tt } }, record { cross = record { le = tt } }) }
cut_all fine = record { endpoints = (record { cross = record { le = tt } }, record { cross = record { le = tt } }) }

-- ---- as expressions
pub within_root : {E : Type 0} (shown : E → Interval) (w : World) (x : Expression) (i k : E)
    → ((n : ℕ) → 40 ≤ n → root_of n (shown i) ⊆ shown k)
    → Within shown w x i → Within shown w (root x) k
unfolding Lies value
within_root shown w x i k h p = let a : value w x ⊆ shown i = p.inside in record
    { deep = p.deep; inside = within_trans (roots.within w.depth (value_proper w x) a) (h w.depth p.deep) }

pub within_clamp : {E : Type 0} (shown : E → Interval) (w : World) (x : Expression) (i k : E)
    → clamp (shown i) ⊆ shown k → Within shown w x i
    → Within shown w (clamp_of x) k
unfolding Lies value
within_clamp shown w x i k h p = let a : value w x ⊆ shown i = p.inside in
    record { deep = p.deep; inside = within_trans (clamp_within a) h }
