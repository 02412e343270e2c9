-- Pi's enclosures are nested.
use Rattle.std.proofs.Common.{◌≡◌, ℕ, zero, suc, ◌+◌, ◌-◌, ◌^◌, ◌≤◌, refl, sym, ◌∙◌, subst, arith, pos, [], ◌∷◌}
use Rattle.std.proofs.lemmas.Int.{ints}
use Rattle.exact_math.specs.Fraction.{Fraction, ◌≤F◌, whole, times, plus, opposite, power, size}
use Rattle.exact_math.specs.Interval.{Interval, everything, between, IsProper, AreWithin, ◌⊆◌, negative, sum}
use Rattle.exact_math.specs.Sums.{one_over, lower, upper, alternating}
use Rattle.exact_math.proofs.Ring.{at, lit, ◌⊗◌}
use Rattle.exact_math.proofs.Intervals.{within_trans, within_refl, sum_within, negative_within, plus_proper}
use Rattle.exact_math.proofs.Intervals.{negative_proper}
use Rattle.exact_math.proofs.Certificates.{◌≼◌, known, ◌⊠◌, le_by}
use Rattle.exact_math.proofs.Alternating.{sums_nested, sum_endpoints_in_order}
use Rattle.book_model.specs.numbers.Series.{arctan_term, arctan_at, scaled, pi_at}
use Rattle.book_model.proofs.Terms.{IsUpTo, arctan_halving, one_over_nonneg, one_over_small}

interval_endpoints : (k : ℕ) (i j : Interval) → AreWithin i j → AreWithin (scaled k i) (scaled k j)
unfolding scaled
interval_endpoints k i everything h = tt
interval_endpoints k everything (between c d) h = absurd h
interval_endpoints k (between a b) (between c d) h = (by_natural c a h.0, by_natural b d h.1)
  where
    by_natural : (x y : Fraction) → x ≤F y → times (whole (pos k)) x ≤F times (whole (pos k)) y
    by_natural x y h = le_by (whole (pos k) ∷ x ∷ y ∷ []) ((lit (pos 0) ≼ at 0) ∷ (at 1 ≼ at 2) ∷ []) (at 0 ⊗ at 1)
        (at 0 ⊗ at 2) (known 0 ⊠ known 1) refl
        (record { cross = omega (arith, ints) }, (h, tt))

pub scaled_within : (k : ℕ) {i j : Interval} → i ⊆ j → scaled k i ⊆ scaled k j
scaled_within k {i} {j} h = record { endpoints = interval_endpoints k i j h.endpoints }

pub small_one_over : (n : ℕ) → 1 ≤ n → IsUpTo 1 2 (one_over n)
small_one_over n h = record { nonneg = one_over_nonneg n; bound = one_over_small 1 n h }

arctan_deeper : (n : ℕ) (x : Fraction) → IsUpTo 1 2 x → arctan_at (suc n) x ⊆ arctan_at n x
arctan_deeper n x w = let h = sums_nested n (arctan_term x) (arctan_halving x w) in record { endpoints = (h.0, h.1) }

pub pi_deeper : (n : ℕ) → pi_at (suc n) ⊆ pi_at n
unfolding pi_at
pi_deeper n =
    sum_within (scaled_within 16 (arctan_deeper n (one_over 4) (small_one_over 4 (omega arith))))
    (negative_within (scaled_within 4 (arctan_deeper n (one_over 238) (small_one_over 238 (omega arith)))))

pub pi_by : (k n m : ℕ) → m ≡ k + n → pi_at m ⊆ pi_at n
pi_by zero n m e = subst (λ x. pi_at x ⊆ pi_at n) (sym (e ∙ omega arith)) (within_refl (pi_at n))
pi_by (suc k) n m e = subst (λ x. pi_at x ⊆ pi_at n) (sym (e ∙ omega arith))
    (within_trans (pi_deeper (k + n)) (pi_by k n (k + n) refl))

pub pi_at_least : (n m : ℕ) → n ≤ m → pi_at m ⊆ pi_at n
pi_at_least n m h = pi_by (m - n) n m (omega arith)

-- ---- they are proper
pub scaled_proper : (k : ℕ) (i : Interval) → IsProper i → IsProper (scaled k i)
unfolding scaled
scaled_proper k everything p = tt
scaled_proper k (between a b) p = le_by (whole (pos k) ∷ a ∷ b ∷ []) ((lit (pos 0) ≼ at 0) ∷ (at 1 ≼ at 2) ∷ [])
    (at 0 ⊗ at 1) (at 0 ⊗ at 2) (known 0 ⊠ known 1)
    refl (record { cross = omega (arith, ints) }, (p, tt))

arctan_proper : (n m : ℕ) → 1 ≤ m → IsProper (arctan_at n (one_over m))
arctan_proper n m h = sum_endpoints_in_order n (arctan_term (one_over m))
    ((arctan_halving (one_over m) (small_one_over m h)).nonneg (suc n))

pub pi_proper : (n : ℕ) → IsProper (pi_at n)
unfolding pi_at
pi_proper n =
    plus_proper (scaled 16 (arctan_at n (one_over 4))) (negative (scaled 4 (arctan_at n (one_over 238))))
    (scaled_proper 16 (arctan_at n (one_over 4)) (arctan_proper n 4 (omega arith)))
    (negative_proper (scaled 4 (arctan_at n (one_over 238)))
    (scaled_proper 4 (arctan_at n (one_over 238)) (arctan_proper n 238 (omega arith))))

-- ---- its number, by computation
abbrev pub binary : ℕ → Fraction
binary n = record { num = pos n; below = 2 ^ 56 - 1 }

pi_at_12 : pi_at 12 ⊆ between (binary 226375608064910088) (binary 226375608064910089)
unfolding pi_at sum scaled negative lower upper alternating size arctan_term power plus times opposite
pi_at_12 = record { endpoints = (record { cross = record { le = tt } }, record { cross = record { le = tt } }) }

pub pi_number : (n : ℕ) → 12 ≤ n → pi_at n ⊆ between (binary 226375608064910088) (binary 226375608064910089)
pi_number n h = within_trans (pi_at_least 12 n h) pi_at_12

-- ---- the arctangents nest by themselves
arctan_by : (k n m : ℕ) (x : Fraction) → IsUpTo 1 2 x → m ≡ k + n → arctan_at m x ⊆ arctan_at n x
arctan_by zero n m x w e = subst (λ z. arctan_at z x ⊆ arctan_at n x) (sym (e ∙ omega arith))
    (within_refl (arctan_at n x))
arctan_by (suc k) n m x w e = subst (λ z. arctan_at z x ⊆ arctan_at n x) (sym (e ∙ omega arith))
    (within_trans (arctan_deeper (k + n) x w) (arctan_by k n (k + n) x w refl))

pub arctan_at_least : (k n m : ℕ) → 1 ≤ k → n ≤ m → arctan_at m (one_over k) ⊆ arctan_at n (one_over k)
arctan_at_least k n m h l = arctan_by (m - n) n m (one_over k) (small_one_over k h) (omega arith)
