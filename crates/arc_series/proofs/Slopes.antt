-- The sum of the arctangent's series and its endpoints rise by no more than the number does, from 0 to 1/2: an
-- alternating sum whose terms rise, each by less than the one before, rises by no more than its first term.
use Rattle.std.proofs.Common.{ℕ, suc, refl, pos, negsuc, [], ◌∷◌}
use Rattle.book_model.specs.Fraction.{Fraction, ◌≤F◌, ◌≈◌, plus, power, size}
use Rattle.book_model.specs.Sums.{alternating, lower, upper}
use Rattle.book_model.proofs.Ring.{at, lit, ◌⊕◌, ◌⊖◌, ◌⊗◌}
use Rattle.book_model.proofs.FractionRing.{same_by}
use Rattle.book_model.proofs.Certificates.{◌≼◌, ◌≗◌, known, multiple, ◌⊞◌, le_by, le_over}
use Rattle.book_model.proofs.Alternating.{beneath, atop, beneath_step, atop_step, tails, beneath_rises, atop_rises}
use Rattle.book_model.proofs.Alternating.{lower_is_beneath, upper_is_atop}
use Rattle.book_model.specs.numbers.Series.{arctan_term}
use Rattle.book_model.proofs.Terms.{IsUpTo, arctan_halving, arctan_rising}

first_term : (x : Fraction) → arctan_term x 0 ≈ x
unfolding arctan_term power
first_term x = same_by (x ∷ []) ((at 0 ⊗ lit (pos 1)) ⊗ lit (pos 1)) (at 0) refl

-- the lower endpoint at y is at most that at x, and y - x: what the first term lacks rises
pub lower_slow : (n : ℕ) (x y : Fraction) → IsUpTo 1 2 x → IsUpTo 1 2 y → x ≤F y
    → plus (lower (arctan_term y) (suc n)) x ≤F plus (lower (arctan_term x) (suc n)) y
lower_slow n x y w v h =
    let p = arctan_term x in
    let q = arctan_term y in
    rw (
      lower_is_beneath p (suc n) ((arctan_halving x w).nonneg (suc (suc n))),
      lower_is_beneath q (suc n)
          ((arctan_halving y v).nonneg (suc (suc n))),
    )
    (le_by (x ∷ y ∷ p 0 ∷ q 0 ∷ beneath p (suc n) ∷ beneath q (suc n) ∷ atop (λ k. p (suc k)) n ∷ atop (λ k. q (suc k))
    n ∷ [])
    ((at 2 ≗ at 0) ∷ (at 3 ≗ at 1) ∷ (at 4 ≗ at 2 ⊖ at 6) ∷ (at 5 ≗ at 3 ⊖ at 7) ∷ (at 6 ≼ at 7) ∷ []) (at 5 ⊕ at 0)
    (at 4 ⊕ at 1)
    (known 4 ⊞ multiple 0 (lit (negsuc 0)) ⊞ multiple 1 (lit (pos 1)) ⊞ multiple 2 (lit (negsuc 0)) ⊞ multiple 3
    (lit (pos 1))) refl (
      first_term x,
      (
        first_term y,
        (beneath_step p n, (beneath_step q n, (atop_rises n _ _ (tails p q (arctan_rising x y w v h)), tt))),
      ),
    ))

-- and so is the upper endpoint
pub upper_slow : (n : ℕ) (x y : Fraction) → IsUpTo 1 2 x → IsUpTo 1 2 y → x ≤F y
    → plus (upper (arctan_term y) (suc n)) x ≤F plus (upper (arctan_term x) (suc n)) y
upper_slow n x y w v h =
    let p = arctan_term x in
    let q = arctan_term y in
    rw (
      upper_is_atop p (suc n) ((arctan_halving x w).nonneg (suc (suc n))),
      upper_is_atop q (suc n)
          ((arctan_halving y v).nonneg (suc (suc n))),
    )
    (le_by (x ∷ y ∷ p 0 ∷ q 0 ∷ atop p (suc n) ∷ atop q (suc n) ∷ beneath (λ k. p (suc k)) n ∷ beneath (λ k. q (suc k))
    n ∷ [])
    ((at 2 ≗ at 0) ∷ (at 3 ≗ at 1) ∷ (at 4 ≗ at 2 ⊖ at 6) ∷ (at 5 ≗ at 3 ⊖ at 7) ∷ (at 6 ≼ at 7) ∷ []) (at 5 ⊕ at 0)
    (at 4 ⊕ at 1)
    (known 4 ⊞ multiple 0 (lit (negsuc 0)) ⊞ multiple 1 (lit (pos 1)) ⊞ multiple 2 (lit (negsuc 0)) ⊞ multiple 3
    (lit (pos 1))) refl (
      first_term x,
      (
        first_term y,
        (atop_step p n, (atop_step q n, (beneath_rises n _ _ (tails p q (arctan_rising x y w v h)), tt))),
      ),
    ))

-- the sum, which lies in the middle of its endpoints
pub sum_slow : (n : ℕ) (x y : Fraction) → IsUpTo 1 2 x → IsUpTo 1 2 y → x ≤F y
    → plus (alternating (arctan_term y) (suc n)) x ≤F plus (alternating (arctan_term x) (suc n)) y
unfolding lower upper
sum_slow n x y w v h =
    le_over 1 (x ∷ y ∷ alternating (arctan_term x) (suc n) ∷ alternating (arctan_term y) (suc n)
    ∷ size (arctan_term x (suc (suc n))) ∷ size
    (arctan_term y (suc (suc n))) ∷ [])
    ((at 3 ⊖ lit (pos 2) ⊗ at 5 ⊕ at 0 ≼ at 2 ⊖ lit (pos 2) ⊗ at 4 ⊕ at 1)
    ∷ (at 3 ⊕ lit (pos 2) ⊗ at 5 ⊕ at 0 ≼ at 2 ⊕ lit (pos 2) ⊗ at 4 ⊕ at 1) ∷ [])
    (at 3 ⊕ at 0) (at 2 ⊕ at 1) (known 0 ⊞ known 1) refl
    (lower_slow n x y w v h, (upper_slow n x y w v h, tt))
