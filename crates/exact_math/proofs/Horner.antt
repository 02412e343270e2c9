-- The endpoints of a series in Horner's form over its terms, from the inside out.
use Rattle.std.proofs.Common.{ℕ, zero, suc, refl, pos, negsuc, [], ◌∷◌}
use Rattle.exact_math.proofs.Ring.{Poly, at, lit, ◌⊕◌, ◌⊖◌, ◌⊗◌, minus}
use Rattle.exact_math.specs.Fraction.{Fraction, ◌≈◌, whole, plus, opposite, times}
use Rattle.exact_math.specs.Sums.{alternating, inner}
use Rattle.exact_math.proofs.Same.{same_trans}
use Rattle.exact_math.proofs.FractionRing.{same_by}
use Rattle.exact_math.proofs.Certificates.{◌≗◌, same_given}
use Rattle.exact_math.proofs.Alternating.{beneath, atop}

abbrev one : Poly
one = lit (pos 1)

abbrev pub Steps : (ℕ → Fraction) → Fraction → (ℕ → Fraction) → Type 0
Steps t u r = (k : ℕ) → t (suc k) ≈ times (t k) (times u (r k))

edge_is : (n : ℕ) (e : Fraction) (t : ℕ → Fraction) (u : Fraction) (r : ℕ → Fraction) → Steps t u r
    → plus (alternating t n) (times e (t (suc n))) ≈ times (t 0) (inner e u r n)
unfolding alternating inner
edge_is zero e t u r h =
    same_given (t 0 ∷ t 1 ∷ e ∷ u ∷ r 0 ∷ []) ((at 1 ≗ at 0 ⊗ (at 3 ⊗ at 4)) ∷ []) (at 0 ⊕ at 2 ⊗ at 1)
    (at 0 ⊗ (one ⊕ at 2 ⊗ (at 3 ⊗ at 4))) ((0, at 2) ∷ [])
    refl (h 0, tt)
edge_is (suc n) e t u r h =
    same_given
    (t 0 ∷ t 1 ∷ e ∷ u ∷ r 0 ∷ alternating (λ k. t (suc k)) n ∷ t (suc (suc n)) ∷ inner (opposite e) u (λ k. r (suc k))
    n ∷ [])
    ((at 1 ≗ at 0 ⊗ (at 3 ⊗ at 4)) ∷ (at 5 ⊕ minus (at 2) ⊗ at 6 ≗ at 1 ⊗ at 7) ∷ [])
    ((at 0 ⊖ at 5) ⊕ at 2 ⊗ at 6) (at 0 ⊗ (one ⊖ (at 3 ⊗ at 4) ⊗ at 7)) ((0, minus (at 7)) ∷ (1, lit (negsuc 0)) ∷ [])
    refl
    (h 0, (edge_is n (opposite e) (λ k. t (suc k)) u (λ k. r (suc k)) (λ k. h (suc k)), tt))

pub beneath_is : (n : ℕ) (t : ℕ → Fraction) (u : Fraction) (r : ℕ → Fraction) → Steps t u r
    → beneath t n ≈ times (t 0) (inner (whole (negsuc 1)) u r n)
unfolding beneath
beneath_is n t u r h = same_trans (same_by (alternating t n ∷ t (suc n) ∷ []) (at 0 ⊖ lit (pos 2) ⊗ at 1)
    (at 0 ⊕ lit (negsuc 1) ⊗ at 1) refl)
    (edge_is n (whole (negsuc 1)) t u r h)

pub atop_is : (n : ℕ) (t : ℕ → Fraction) (u : Fraction) (r : ℕ → Fraction) → Steps t u r
    → atop t n ≈ times (t 0) (inner (whole (pos 2)) u r n)
unfolding atop
atop_is n t u r h = edge_is n (whole (pos 2)) t u r h
