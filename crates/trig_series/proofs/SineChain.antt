-- The endpoints of the series at an angle, as chains of steps. An endpoint at depth 8 is the angle times a nested form,
-- from the outside in as the definition has it, from the inside out as the code does. The code's numbers are a record
-- (`Chain`); each coefficient is 2^64 times its fraction, rounded down (`cut_..`), and each step keeps what is near
-- (`next`).
use Rattle.std.proofs.Common.{◌≡◌, ℕ, zero, suc, ◌+◌, ◌-◌, ◌^◌, ◌≤◌, refl, arith, pos, negsuc, [], ◌∷◌}
use Rattle.book_model.specs.Fraction.{Fraction, ◌≤F◌, ◌≈◌, whole, plus, opposite, times}
use Rattle.book_model.specs.Sums.{lower, upper, inner}
use Rattle.book_model.proofs.Ring.{at, lit, ◌⊕◌, ◌⊖◌, ◌⊗◌, minus}
use Rattle.book_model.proofs.Fractions.{le_trans}
use Rattle.book_model.proofs.Same.{same_refl, same_trans, le_of_same, ge_of_same, plus_cong, times_cong, opposite_cong}
use Rattle.book_model.proofs.FractionRing.{same_by}
use Rattle.book_model.proofs.Certificates.{zero_F}
use Rattle.book_model.proofs.Alternating.{lower_is_beneath, upper_is_atop, sums_nested}
use Rattle.book_model.proofs.Horner.{beneath_is, atop_is}
use Rattle.book_model.specs.numbers.Series.{sine_term}
use Rattle.book_model.proofs.Terms.{IsUpTo, square_nonneg, falling, sine_index, sine_step, sine_first, sine_halving}
use Rattle.encl_core.proofs.HighHalves.{IsHigh}
use Rattle.trig_series.proofs.KernelSteps.{step_near, square_near, product_above, product_below, angle_fifths}
use Rattle.encl_core.specs.Units.{IsWithinUnits}
use Rattle.trig_series.specs.Kernel.{IsCut, IsAngle, IsSquare, AreSineEndpoints}
use Rattle.trig_series.specs.declared.waves.Coefficients.{Coefficients}
use Rattle.trig_series.specs.declared.waves.TheConstants.{SINE}

-- 1 - u r s
abbrev pub step_at : Fraction → Fraction → Fraction → Fraction
step_at r u s = plus (whole (pos 1)) (opposite (times (times u r) s))

-- what one step multiplies out to
stepped : (C r U N : Fraction) → plus C (opposite (times U (times (times C r) N))) ≈ times C (step_at r U N)
stepped C r U N = same_by (C ∷ r ∷ U ∷ N ∷ []) (at 0 ⊖ at 2 ⊗ ((at 0 ⊗ at 1) ⊗ at 3))
    (at 0 ⊗ (lit (pos 1) ⊖ (at 2 ⊗ at 1) ⊗ at 3)) refl

pub near_same : (e t : ℕ) (x y : Fraction) → x ≈ y → IsWithinUnits e t x → IsWithinUnits e t y
near_same e t x y s n = record {
  above = le_trans _ x y n.above (le_of_same s);
  below = le_trans y x _ (ge_of_same s)
      n.below;
}

-- what the code's step keeps
abbrev pub Keeps : (coefficient square inner result : ℕ) → Type 0
Keeps c w t k = (C u v : Fraction) → zero_F ≤F u → IsCut c C → IsSquare w u → IsWithinUnits 320 t v
    → IsWithinUnits 320 k (plus C (opposite (times u v)))

pub next : (c w t k : ℕ) (C r u N : Fraction) → Keeps c w t k → zero_F ≤F u → IsCut c C → IsSquare w u
    → IsWithinUnits 320 t (times (times C r) N)
    → IsWithinUnits 320 k (times C (step_at r u N))
next c w t k C r u N f z i s n = near_same 320 k _ _ (stepped C r u N) (f C u (times (times C r) N) z i s n)

-- ---- the coefficients
pub coefficient : ℕ → Fraction
coefficient zero = whole (pos 1)
coefficient (suc k) = times (coefficient k) (falling (sine_index k))

-- ---- from the outside in
unfoldable pub nested : Fraction → (ℕ → Fraction) → Fraction → ℕ → Fraction
nested u r s zero = step_at (r 0) u s
nested u r s (suc n) = step_at (r 0) u (nested u (λ k. r (suc k)) s n)

unfoldable pub flipped : Fraction → ℕ → Fraction
flipped e zero = opposite e
flipped e (suc n) = flipped (opposite e) n

pub inner_nested : (n : ℕ) (e u : Fraction) (r : ℕ → Fraction) → inner e u r n ≈ nested u r (flipped e n) n
unfolding inner nested flipped
inner_nested zero e u r = same_by (e ∷ u ∷ r 0 ∷ []) (lit (pos 1) ⊕ at 0 ⊗ (at 1 ⊗ at 2))
    (lit (pos 1) ⊖ (at 1 ⊗ at 2) ⊗ minus (at 0)) refl
inner_nested (suc n) e u r =
    plus_cong (same_refl (whole (pos 1)))
    (opposite_cong (times_cong (same_refl (times u (r 0))) (inner_nested n (opposite e) u (λ k. r (suc k)))))

-- the sine's endpoints at depth 8 are the angle times what the chain gives
pub sine_endpoints : (e x : Fraction)
    → times (sine_term x 0) (inner e (times x x) (λ k. falling (sine_index k)) 8) ≈ times x
    (nested (times x x) (λ k. falling (sine_index k)) (flipped e 8) 8)
sine_endpoints e x = times_cong (sine_first x) (inner_nested 8 e (times x x) (λ k. falling (sine_index k)))

-- ---- the sine's coefficients in 64 bits
abbrev ratio : ℕ → Fraction
ratio k = falling (sine_index k)

cut_0 : IsCut 18446744073709551615 (coefficient 0)
unfolding coefficient
cut_0 = record { not_above = record { cross = record { le = tt } }; close = record { cross = record { le = tt } } }

cut_1 : IsCut 3074457345618258602 (coefficient 1)
unfolding coefficient times
cut_1 = record { not_above = record { cross = record { le = tt } }; close = record { cross = record { le = tt } } }

cut_2 : IsCut 153722867280912930 (coefficient 2)
unfolding coefficient times
cut_2 = record { not_above = record { cross = record { le = tt } }; close = record { cross = record { le = tt } } }

cut_3 : IsCut 3660068268593165 (coefficient 3)
unfolding coefficient times
cut_3 = record { not_above = record { cross = record { le = tt } }; close = record { cross = record { le = tt } } }

cut_4 : IsCut 50834281508238 (coefficient 4)
unfolding coefficient times
cut_4 = record { not_above = record { cross = record { le = tt } }; close = record { cross = record { le = tt } } }

cut_5 : IsCut 462129831893 (coefficient 5)
unfolding coefficient times
cut_5 = record { not_above = record { cross = record { le = tt } }; close = record { cross = record { le = tt } } }

cut_6 : IsCut 2962370717 (coefficient 6)
unfolding coefficient times
cut_6 = record { not_above = record { cross = record { le = tt } }; close = record { cross = record { le = tt } } }

cut_7 : IsCut 14106527 (coefficient 7)
unfolding coefficient times
cut_7 = record { not_above = record { cross = record { le = tt } }; close = record { cross = record { le = tt } } }

cut_8 : IsCut 51862 (coefficient 8)
unfolding coefficient times
cut_8 = record { not_above = record { cross = record { le = tt } }; close = record { cross = record { le = tt } } }

-- what stands innermost is near 0: once or minus twice the tenth coefficient
abbrev IsStart : Fraction → Type 0
IsStart s = IsWithinUnits 320 0 (times (times (coefficient 8) (ratio 8)) s)

start_low : IsStart (flipped (whole (negsuc 1)) 8)
unfolding coefficient times flipped opposite
start_low = record { above = record { cross = record { le = tt } }; below = record { cross = record { le = tt } } }

start_high : IsStart (flipped (whole (pos 2)) 8)
unfolding coefficient times flipped opposite
start_high = record { above = record { cross = record { le = tt } }; below = record { cross = record { le = tt } } }

-- ---- the chain
pub innermost : (w : ℕ) → Keeps 51862 w 0 51862
innermost w C u v z i s n = step_near 51862 w 0 0 C u v (record { not_above = omega arith; close = omega arith })
    (omega arith) (omega arith) z i s n

nested_is : (u s : Fraction)
    → step_at (ratio 0) u (step_at (ratio 1) u (step_at (ratio 2) u
    (step_at (ratio 3) u
    (step_at (ratio 4) u (step_at (ratio 5) u (step_at (ratio 6) u (step_at (ratio 7) u (step_at (ratio 8) u s))))))))
    ≡ nested u ratio s 8
unfolding nested
nested_is u s = refl

one_times : (x : Fraction) → times (coefficient 0) x ≈ x
unfolding coefficient
one_times x = same_by (x ∷ []) (lit (pos 1) ⊗ at 0) (at 0) refl

-- what the chain's steps keep
pub record Chain (w i h g f e d c b a : ℕ) : Type 0 where
  pub k8 : Keeps 51862 w 0 i
  pub k7 : Keeps 14106527 w i h
  pub k6 : Keeps 2962370717 w h g
  pub k5 : Keeps 462129831893 w g f
  pub k4 : Keeps 50834281508238 w f e
  pub k3 : Keeps 3660068268593165 w e d
  pub k2 : Keeps 153722867280912930 w d c
  pub k1 : Keeps 3074457345618258602 w c b
  pub k0 : Keeps 18446744073709551615 w b a

-- what the code's steps keep, by the row of their coefficients
pub record Steps (r : Coefficients) (w i h g f e d c b a : ℕ) : Type 0 where
  pub eighth : Keeps r.eighth w r.ninth i
  pub seventh : Keeps r.seventh w i h
  pub sixth : Keeps r.sixth w h g
  pub fifth : Keeps r.fifth w g f
  pub fourth : Keeps r.fourth w f e
  pub third : Keeps r.third w e d
  pub second : Keeps r.second w d c
  pub first : Keeps r.first w c b
  pub constant : Keeps r.constant w b a

pub sine_chain : (r : Coefficients) (w i h g f e d c b a : ℕ) → r ≡ SINE → Steps r w i h g f e d c b a
    → Chain w i h g f e d c b a
sine_chain r w i h g f e d c b a q s =
    let t = rw q at s in
    record {
      k8 = t.eighth;
      k7 = t.seventh;
      k6 = t.sixth;
      k5 = t.fifth;
      k4 = t.fourth;
      k3 = t.third;
      k2 = t.second;
      k1 = t.first;
      k0 = t.constant;
    }

pub sine_constant : (r : Coefficients) (a : ℕ) → r ≡ SINE → a ≤ r.constant → a ≤ 2 ^ 64
sine_constant r a q l = let m : a ≤ 18446744073709551615 = rw q at l in omega (arith, m)

abbrev tenth : Fraction → Fraction
tenth s = times (times (coefficient 8) (ratio 8)) s

coefficient_next : (k : ℕ) (N : Fraction) → times (coefficient (suc k)) N ≡ times (times (coefficient k) (ratio k)) N
unfolding coefficient
coefficient_next k N = refl

on : (k c w t z : ℕ) (u N : Fraction) → Keeps c w t z → zero_F ≤F u → IsCut c (coefficient k) → IsSquare w u
    → IsWithinUnits 320 t (times (coefficient (suc k)) N)
    → IsWithinUnits 320 z (times (coefficient k) (step_at (ratio k) u N))
on k c w t z u N f p i s n = next c w t z (coefficient k) (ratio k) u N f p i s (rw (coefficient_next k N) at n)

pub chained : (w i h g f e d c b a : ℕ) (u s : Fraction) → Chain w i h g f e d c b a → zero_F ≤F u → IsSquare w u
    → IsWithinUnits 320 0 (tenth s)
    → IsWithinUnits 320 a (nested u ratio s 8)
chained w i h g f e d c b a u s k z q n =
    let n8 = next 51862 w 0 i (coefficient 8) (ratio 8) u s k.k8 z cut_8 q n in
    let n7 = on 7 14106527 w i h u _ k.k7 z cut_7 q n8 in
    let n6 = on 6 2962370717 w h g u _ k.k6 z cut_6 q n7 in
    let n5 = on 5 462129831893 w g f u _ k.k5 z cut_5 q n6 in
    let n4 = on 4 50834281508238 w f e u _ k.k4 z cut_4 q n5 in
    let n3 = on 3 3660068268593165 w e d u _ k.k3 z cut_3 q n4 in
    let n2 = on 2 153722867280912930 w d c u _ k.k2 z cut_2 q n3 in
    let n1 = on 1 3074457345618258602 w c b u _ k.k1 z cut_1 q n2 in
    let n0 = on 0 18446744073709551615 w b a u _ k.k0 z cut_0 q n1 in
    rw (← nested_is u s) (near_same 320 a _ _ (one_times _) n0)

-- ---- the endpoints of the sum, at depth 8 and deeper
pub low_is : (x : Fraction) → IsUpTo 4 5 x → times x (nested (times x x) ratio (flipped (whole (negsuc 1)) 8) 8) ≤F
    lower (sine_term x) 8
low_is x h =
    rw (lower_is_beneath (sine_term x) 8 ((sine_halving x h).nonneg 9))
    (ge_of_same (same_trans (beneath_is 8 (sine_term x) (times x x) ratio (sine_step x))
    (sine_endpoints (whole (negsuc 1)) x)))

pub high_is : (x : Fraction) → IsUpTo 4 5 x
    → upper (sine_term x) 8 ≤F times x (nested (times x x) ratio (flipped (whole (pos 2)) 8) 8)
high_is x h =
    rw (upper_is_atop (sine_term x) 8 ((sine_halving x h).nonneg 9))
    (le_of_same (same_trans (atop_is 8 (sine_term x) (times x x) ratio (sine_step x))
    (sine_endpoints (whole (pos 2)) x)))

deeper : (k : ℕ) (x : Fraction) (s : ℕ) → IsUpTo 4 5 x → AreSineEndpoints x s 8 → AreSineEndpoints x s (k + 8)
deeper zero x s h a = a
deeper (suc k) x s h a =
    let b = deeper k x s h a in
    let n = sums_nested (k + 8) (sine_term x) (sine_halving x h) in
    let e : suc k + 8 ≡ suc (k + 8) = omega arith in
    rw e (record {
      low = le_trans _ (lower (sine_term x) (k + 8)) _ b.low n.0;
      high = le_trans _
          (upper (sine_term x) (k + 8)) _ n.1 b.high;
    })

pub endpoints_from : (n : ℕ) (x : Fraction) (s : ℕ) → 8 ≤ n → IsUpTo 4 5 x → AreSineEndpoints x s 8
    → AreSineEndpoints x s n
endpoints_from n x s l h a = let e : n ≡ (n - 8) + 8 = omega (arith, l) in rw e (deeper (n - 8) x s h a)

pub sine_near : (n angle w i h g f e d c b a s : ℕ) (x : Fraction) → 8 ≤ n → angle ≤ 14757395258967641292 → a ≤ 2 ^ 64
    → IsHigh w angle angle
    → IsHigh s angle a → IsAngle angle x
    → Chain w i h g f e d c b a → AreSineEndpoints x s n
sine_near n angle w i h g f e d c b a s x l small top p q t k =
    let u = angle_fifths angle x t in
    let z = square_nonneg x u in
    let y = square_near w angle x small p t in
    let v = λ (r : Fraction) (m : IsWithinUnits 320 0 (tenth r)). chained w i h g f e d c b a (times x x) r k z y m in
    endpoints_from n x s l u
    (record {
      low = le_trans _ _ _ (product_above s angle a x _ q t (v (flipped (whole (negsuc 1)) 8) start_low)) (low_is x u);
      high = le_trans _ _ _ (high_is x u)
          (product_below s angle a x _ top q t (v (flipped (whole (pos 2)) 8) start_high));
    })
