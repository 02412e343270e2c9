-- The cosine's endpoints at an angle, as a chain of steps. The code's numbers, one for each step of Horner's form, are
-- a record (`Chain`); each step keeps what is near (`next`, of SineChain), from the innermost coefficient outwards, and
-- what the chain gives is the endpoint of the series at depth 9, which deeper ones lie within.
use Rattle.std.proofs.Common.{◌≡◌, ℕ, zero, suc, ◌+◌, ◌-◌, ◌≤◌, refl, arith, pos, negsuc, [], ◌∷◌}
use Rattle.book_model.specs.Fraction.{Fraction, ◌≤F◌, ◌≈◌, whole, opposite, times}
use Rattle.book_model.specs.Sums.{lower, upper, inner}
use Rattle.book_model.proofs.Ring.{at, lit, ◌⊗◌}
use Rattle.book_model.proofs.Fractions.{le_trans}
use Rattle.book_model.proofs.Same.{same_trans, le_of_same, ge_of_same, times_cong}
use Rattle.book_model.proofs.FractionRing.{same_by}
use Rattle.book_model.proofs.Certificates.{zero_F}
use Rattle.book_model.proofs.Alternating.{lower_is_beneath, upper_is_atop, later_sums_nested}
use Rattle.book_model.proofs.Horner.{beneath_is, atop_is}
use Rattle.book_model.specs.numbers.Series.{cosine_term, double}
use Rattle.book_model.proofs.Terms.{IsUpTo, square_nonneg, falling, cosine_step_from_first, cosine_one, cosine_halving}
use Rattle.encl_core.proofs.HighHalves.{IsHigh}
use Rattle.trig_series.proofs.KernelSteps.{step_near, square_near, angle_fifths}
use Rattle.trig_series.proofs.SineChain.{Keeps, Steps, next, near_same, step_at, nested, flipped, inner_nested}
use Rattle.encl_core.specs.Units.{IsWithinUnits}
use Rattle.trig_series.specs.Kernel.{IsCut, IsAngle, IsSquare, AreCosineEndpoints}
use Rattle.trig_series.specs.declared.waves.Coefficients.{Coefficients}
use Rattle.trig_series.specs.declared.waves.TheConstants.{COSINE}

abbrev ratio : ℕ → Fraction
ratio k = falling (double k)

coefficient : ℕ → Fraction
coefficient zero = whole (pos 1)
coefficient (suc k) = times (coefficient k) (ratio k)

cut_0 : IsCut 18446744073709551615 (coefficient 0)
unfolding coefficient
cut_0 = record { not_above = record { cross = record { le = tt } }; close = record { cross = record { le = tt } } }

cut_1 : IsCut 9223372036854775808 (coefficient 1)
unfolding coefficient times
cut_1 = record { not_above = record { cross = record { le = tt } }; close = record { cross = record { le = tt } } }

cut_2 : IsCut 768614336404564650 (coefficient 2)
unfolding coefficient times
cut_2 = record { not_above = record { cross = record { le = tt } }; close = record { cross = record { le = tt } } }

cut_3 : IsCut 25620477880152155 (coefficient 3)
unfolding coefficient times
cut_3 = record { not_above = record { cross = record { le = tt } }; close = record { cross = record { le = tt } } }

cut_4 : IsCut 457508533574145 (coefficient 4)
unfolding coefficient times
cut_4 = record { not_above = record { cross = record { le = tt } }; close = record { cross = record { le = tt } } }

cut_5 : IsCut 5083428150823 (coefficient 5)
unfolding coefficient times
cut_5 = record { not_above = record { cross = record { le = tt } }; close = record { cross = record { le = tt } } }

cut_6 : IsCut 38510819324 (coefficient 6)
unfolding coefficient times
cut_6 = record { not_above = record { cross = record { le = tt } }; close = record { cross = record { le = tt } } }

cut_7 : IsCut 211597908 (coefficient 7)
unfolding coefficient times
cut_7 = record { not_above = record { cross = record { le = tt } }; close = record { cross = record { le = tt } } }

cut_8 : IsCut 881657 (coefficient 8)
unfolding coefficient times
cut_8 = record { not_above = record { cross = record { le = tt } }; close = record { cross = record { le = tt } } }

cut_9 : IsCut 2881 (coefficient 9)
unfolding coefficient times
cut_9 = record { not_above = record { cross = record { le = tt } }; close = record { cross = record { le = tt } } }

abbrev eleventh : Fraction → Fraction
eleventh s = times (times (coefficient 9) (ratio 9)) s

start_low : IsWithinUnits 320 0 (eleventh (flipped (whole (negsuc 1)) 9))
unfolding coefficient times flipped opposite
start_low = record { above = record { cross = record { le = tt } }; below = record { cross = record { le = tt } } }

start_high : IsWithinUnits 320 0 (eleventh (flipped (whole (pos 2)) 9))
unfolding coefficient times flipped opposite
start_high = record { above = record { cross = record { le = tt } }; below = record { cross = record { le = tt } } }

pub innermost : (w : ℕ) → Keeps 2881 w 0 2881
innermost w C u v z i s n = step_near 2881 w 0 0 C u v (record { not_above = omega arith; close = omega arith })
    (omega arith) (omega arith) z i s n

nested_is : (u s : Fraction)
    → step_at (ratio 0) u (step_at (ratio 1) u (step_at (ratio 2) u
    (step_at (ratio 3) u (step_at (ratio 4) u (step_at (ratio 5) u
    (step_at (ratio 6) u (step_at (ratio 7) u (step_at (ratio 8) u (step_at (ratio 9) u s))))))))) ≡ nested u ratio s 9
unfolding nested
nested_is u s = refl

one_times : (x : Fraction) → times (coefficient 0) x ≈ x
unfolding coefficient
one_times x = same_by (x ∷ []) (lit (pos 1) ⊗ at 0) (at 0) refl

-- what the chain's steps keep
pub record Chain (w j i h g f e d c b a : ℕ) : Type 0 where
  pub k9 : Keeps 2881 w 0 j
  pub k8 : Keeps 881657 w j i
  pub k7 : Keeps 211597908 w i h
  pub k6 : Keeps 38510819324 w h g
  pub k5 : Keeps 5083428150823 w g f
  pub k4 : Keeps 457508533574145 w f e
  pub k3 : Keeps 25620477880152155 w e d
  pub k2 : Keeps 768614336404564650 w d c
  pub k1 : Keeps 9223372036854775808 w c b
  pub k0 : Keeps 18446744073709551615 w b a

pub cosine_chain : (r : Coefficients) (w i h g f e d c b a : ℕ) → r ≡ COSINE → Steps r w i h g f e d c b a
    → Chain w 2881 i h g f e d c b a
cosine_chain r w i h g f e d c b a q s =
    let t = rw q at s in
    record {
      k9 = innermost w;
      k8 = t.eighth;
      k7 = t.seventh;
      k6 = t.sixth;
      k5 = t.fifth;
      k4 = t.fourth;
      k3 = t.third;
      k2 = t.second;
      k1 = t.first;
      k0 = t.constant;
    }

coefficient_next : (k : ℕ) (N : Fraction) → times (coefficient (suc k)) N ≡ times (times (coefficient k) (ratio k)) N
unfolding coefficient
coefficient_next k N = refl

on : (k c w t z : ℕ) (u N : Fraction) → Keeps c w t z → zero_F ≤F u → IsCut c (coefficient k) → IsSquare w u
    → IsWithinUnits 320 t (times (coefficient (suc k)) N)
    → IsWithinUnits 320 z (times (coefficient k) (step_at (ratio k) u N))
on k c w t z u N f p i s n = next c w t z (coefficient k) (ratio k) u N f p i s (rw (coefficient_next k N) at n)

chained : (w j i h g f e d c b a : ℕ) (u s : Fraction) → Chain w j i h g f e d c b a → zero_F ≤F u → IsSquare w u
    → IsWithinUnits 320 0 (eleventh s)
    → IsWithinUnits 320 a (nested u ratio s 9)
chained w j i h g f e d c b a u s k z q n =
    let n9 = next 2881 w 0 j (coefficient 9) (ratio 9) u s k.k9 z cut_9 q n in
    let n8 = on 8 881657 w j i u _ k.k8 z cut_8 q n9 in
    let n7 = on 7 211597908 w i h u _ k.k7 z cut_7 q n8 in
    let n6 = on 6 38510819324 w h g u _ k.k6 z cut_6 q n7 in
    let n5 = on 5 5083428150823 w g f u _ k.k5 z cut_5 q n6 in
    let n4 = on 4 457508533574145 w f e u _ k.k4 z cut_4 q n5 in
    let n3 = on 3 25620477880152155 w e d u _ k.k3 z cut_3 q n4 in
    let n2 = on 2 768614336404564650 w d c u _ k.k2 z cut_2 q n3 in
    let n1 = on 1 9223372036854775808 w c b u _ k.k1 z cut_1 q n2 in
    let n0 = on 0 18446744073709551615 w b a u _ k.k0 z cut_0 q n1 in
    rw (← nested_is u s) (near_same 320 a _ _ (one_times _) n0)

cosine_endpoints : (e x : Fraction) → times (cosine_term x 0) (inner e (times x x) ratio 9) ≈ nested (times x x) ratio
    (flipped e 9) 9
cosine_endpoints e x =
    same_trans (times_cong (cosine_one x) (inner_nested 9 e (times x x) ratio))
    (same_by (nested (times x x) ratio (flipped e 9) 9 ∷ []) (lit (pos 1) ⊗ at 0) (at 0) refl)

pub low_is : (x : Fraction) → IsUpTo 4 5 x → nested (times x x) ratio (flipped (whole (negsuc 1)) 9) 9 ≤F lower
    (cosine_term x) 9
low_is x h =
    rw (lower_is_beneath (cosine_term x) 9 ((cosine_halving x h).nonneg 9))
    (ge_of_same (same_trans (beneath_is 9 (cosine_term x) (times x x) ratio (cosine_step_from_first x))
    (cosine_endpoints (whole (negsuc 1)) x)))

pub high_is : (x : Fraction) → IsUpTo 4 5 x → upper (cosine_term x) 9 ≤F nested (times x x) ratio
    (flipped (whole (pos 2)) 9) 9
high_is x h =
    rw (upper_is_atop (cosine_term x) 9 ((cosine_halving x h).nonneg 9))
    (le_of_same (same_trans (atop_is 9 (cosine_term x) (times x x) ratio (cosine_step_from_first x))
    (cosine_endpoints (whole (pos 2)) x)))

deeper : (k : ℕ) (x : Fraction) (s : ℕ) → IsUpTo 4 5 x → AreCosineEndpoints x s 9 → AreCosineEndpoints x s (k + 9)
deeper zero x s h a = a
deeper (suc k) x s h a =
    let b = deeper k x s h a in
    let n = later_sums_nested (k + 8) (cosine_term x) (cosine_halving x h) in
    let e : suc k + 9 ≡ suc (suc (k + 8)) = omega arith in
    let f : k + 9 ≡ suc (k + 8) = omega arith in
    let g = rw f at b in
    rw e (record {
      low = le_trans _ (lower (cosine_term x) (suc (k + 8))) _ g.low n.0;
      high = le_trans _
          (upper (cosine_term x) (suc (k + 8))) _ n.1 g.high;
    })

pub cosine_near : (n angle w j i h g f e d c b a : ℕ) (x : Fraction) → 9 ≤ n → angle ≤ 14757395258967641292
    → IsHigh w angle angle → IsAngle angle x
    → Chain w j i h g f e d c b a → AreCosineEndpoints x a n
cosine_near n angle w j i h g f e d c b a x l small p t k =
    let u = angle_fifths angle x t in
    let z = square_nonneg x u in
    let y = square_near w angle x small p t in
    let q : n ≡ (n - 9) + 9 = omega (arith, l) in
    let v = λ (r : Fraction) (m : IsWithinUnits 320 0 (eleventh r)). chained w j i h g f e d c b a (times x x) r k z y m
    in
    rw q (deeper (n - 9) x a u
    (record {
      low = le_trans _ _ _ (v (flipped (whole (negsuc 1)) 9) start_low).above (low_is x u);
      high = le_trans _ _ _ (high_is x u) (v (flipped (whole (pos 2)) 9) start_high).below;
    }))
