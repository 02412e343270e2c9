-- Quotients in two steps of 64 bits, and what they are together. The quotient of the upper part and that of what it
-- leaves make the whole, by one certificate each way (`steps_floor`); that each step fits its word is linear, given the
-- bounds that `IsFloor` names. A quotient rounded up is one rounded down, of the number before.
use Rattle.std.proofs.Common.{◌≡◌, ℕ, zero, suc, ◌/◌, ◌-◌, ◌^◌, ◌<◌, arith, ℤ, pos, negsuc, ◌+ℤ◌, ◌-ℤ◌, ◌*ℤ◌, ◌≤ℤ◌}
use Rattle.std.proofs.Common.{◌<ℤ◌, ◌∙◌, refl, SFits, Fits, unsigned_abs, int_div, [], ◌∷◌}
use lib.Dec.{T}
use lib.Signed.{non_neg}
use Rattle.std.specs.Int.{w64, w128, int_div_euclid}
use Rattle.std.proofs.lemmas.Int.{ints, by_lt_z}
use Rattle.exact_math.specs.Fraction.{floor_quotient}
use Rattle.exact_math.proofs.Ring.{at, lit, ◌⊕◌, ◌⊖◌, ◌⊗◌}
use Rattle.exact_math.proofs.Bounds.{◌≼◌, known, ◌⊞◌, ◌⊠◌, le_by}
use Rattle.exact_math.proofs.Floors.{IsFloorQuotient, floor_quotient_is}
use Rattle.int_division.specs.Rounding.{IsFloor, IsCeiling}
use Rattle.int_division.proofs.Quotients.{next_le, quotient_up}
use Rattle.int_division.proofs.Quotients.{euclid_is}

from_next : (p q : ℤ) → (p +ℤ pos 1) ≤ℤ q → p <ℤ q
from_next p q h = omega (arith, ints, h)

quotient_floor : (n q : ℤ) (m : ℕ) → q ≡ floor_quotient n m → IsFloorQuotient (floor_quotient n m) n m
    → IsFloor q n (pos (suc m))
quotient_floor n q m e h = let f = rw (← e) at h in record { not_above = f.not_above; close = f.close }

pub euclid_floor : (n d q : ℤ) → pos 0 <ℤ d → q ≡ int_div_euclid n d → IsFloor q n d
euclid_floor n (pos zero) q h e = absurd (omega (arith, ints, h))
euclid_floor n (negsuc m) q h e = absurd (omega (arith, ints, h))
euclid_floor n (pos (suc m)) q h e = let p : suc m - 1 ≡ m = omega arith in
    quotient_floor n q m (rw p at (e ∙ euclid_is n (suc m) (omega arith)))
    (floor_quotient_is n m)

-- the quotient of a number below 0, by that of one as far above
pub floor_below : (n d q : ℤ) → IsFloor q (negsuc 0 -ℤ n) d → IsFloor (negsuc 0 -ℤ q) n d
floor_below n d q f =
    let b = next_le _ _ f.close in
    let less = lit (negsuc 0) in
    record {
      not_above = le_by (n ∷ d ∷ q ∷ []) (((less ⊖ at 0) ⊕ lit (pos 1) ≼ at 2 ⊗ at 1 ⊕ at 1) ∷ [])
          ((less ⊖ at 2) ⊗ at 1) (at 0) (known 0) refl (b, tt);
      close = from_next _ _ (le_by (n ∷ d ∷ q ∷ []) ((at 2 ⊗ at 1 ≼ less ⊖ at 0) ∷ []) (at 0 ⊕ lit (pos 1))
          ((less ⊖ at 2) ⊗ at 1 ⊕ at 1) (known 0) refl
          (f.not_above, tt));
    }

pub natural_floor : (m d q : ℕ) → 0 < d → q ≡ m / d → IsFloor (pos q) (pos m) (pos d)
natural_floor m zero q h e = absurd (omega (arith, h))
natural_floor m (suc d) q h e = rw e (record { not_above = omega (arith, ints); close = omega (arith, ints) })

-- the upper part's quotient and that of what is left make the whole
pub steps_floor : (n p d q s r l : ℤ) → IsFloor p n (pos (2 ^ 29)) → r ≡ p -ℤ q *ℤ d → l ≡ n -ℤ p *ℤ pos (2 ^ 29)
    → IsFloor s (r *ℤ pos (2 ^ 29) +ℤ l) d
    → IsFloor (q *ℤ pos (2 ^ 29) +ℤ s) n d
steps_floor n p d q s r l f e g h =
    let a = rw (e, g) at h.not_above in
    let b = rw (e, g) at (next_le _ _ h.close) in
    record {
      not_above = le_by (n ∷ p ∷ d ∷ q ∷ s ∷ [])
          ((at 4 ⊗ at 2 ≼ (at 1 ⊖ at 3 ⊗ at 2) ⊗ lit (pos (2 ^ 29)) ⊕ (at 0 ⊖ at 1 ⊗ lit (pos (2 ^ 29)))) ∷ [])
          ((at 3 ⊗ lit (pos (2 ^ 29)) ⊕ at 4) ⊗ at 2) (at 0) (known 0) refl (a, tt);
      close = from_next _ _
          (le_by (n ∷ p ∷ d ∷ q ∷ s ∷ [])
          (((at 1 ⊖ at 3 ⊗ at 2) ⊗ lit (pos (2 ^ 29)) ⊕ (at 0 ⊖ at 1 ⊗ lit (pos (2 ^ 29))) ⊕ lit (pos 1) ≼ at 4 ⊗ at 2
          ⊕ at 2) ∷
          []) (at 0 ⊕ lit (pos 1)) ((at 3 ⊗ lit (pos (2 ^ 29)) ⊕ at 4) ⊗ at 2 ⊕ at 2) (known 0) refl (b, tt));
    }

pub floor_by_one : (n d : ℤ) → d ≡ pos 1 → IsFloor n n d
floor_by_one n d e = rw e (record { not_above = omega (arith, ints); close = omega (arith, ints) })

-- a quotient rounded up is that of the number before, rounded down, and 1
pub next_ceiling : (n d q : ℤ) → IsFloor q (n -ℤ pos 1) d → IsCeiling (q +ℤ pos 1) n d
next_ceiling n d q f =
    let b = next_le _ _ f.close in
    record {
      not_below = le_by (n ∷ d ∷ q ∷ []) (((at 0 ⊖ lit (pos 1)) ⊕ lit (pos 1) ≼ at 2 ⊗ at 1 ⊕ at 1) ∷ []) (at 0)
          ((at 2 ⊕ lit (pos 1)) ⊗ at 1) (known 0) refl
          (b, tt);
      close = from_next _ _ (le_by (n ∷ d ∷ q ∷ []) ((at 2 ⊗ at 1 ≼ at 0 ⊖ lit (pos 1)) ∷ [])
          ((at 2 ⊕ lit (pos 1)) ⊗ at 1 ⊕ lit (pos 1)) (at 0 ⊕ at 1)
          (known 0) refl (f.not_above, tt));
    }

-- numbers of 128 bits
pub rest_in : (h d q : ℤ) → SFits w64 h → d <ℤ pos (2 ^ 35) → IsFloor q h d → (SFits w128 (q *ℤ d))
    × (SFits w128 (h -ℤ q *ℤ d)) × (pos 0 ≤ℤ (h -ℤ q *ℤ d))
    × ((h -ℤ q *ℤ d) <ℤ d)
rest_in h d q k s f = (
  omega (arith, ints, k, s, f.not_above, f.close),
  omega (arith, ints, k, s, f.not_above, f.close),
  omega (arith, ints, f.not_above),
  omega (arith, ints, f.close),
)

pub cast_fits : (x : ℤ) → pos 0 ≤ℤ x → x <ℤ pos (2 ^ 35) → T (non_neg x) × Fits w64 (unsigned_abs x)
cast_fits (pos n) h k = (tt, omega (arith, ints, k))
cast_fits (negsuc n) h k = absurd (omega (arith, ints, h))

pub cast_is : (x : ℤ) → pos 0 ≤ℤ x → pos (unsigned_abs x) ≡ x
cast_is x h = omega (arith, ints, h)

pub low_in : (n p : ℤ) → SFits w128 n → IsFloor p n (pos (2 ^ 29)) → (SFits w128 (p *ℤ pos (2 ^ 29)))
    × (SFits w128 (n -ℤ p *ℤ pos (2 ^ 29)))
    × (pos 0 ≤ℤ (n -ℤ p *ℤ pos (2 ^ 29))) × ((n -ℤ p *ℤ pos (2 ^ 29)) <ℤ pos (2 ^ 29))
low_in n p k f = (
  omega (arith, ints, k, f.not_above, f.close),
  omega (arith, ints, k, f.not_above, f.close),
  omega (arith, ints, f.not_above),
  omega (arith, ints, f.close),
)

pub least_ceiling : (n d : ℤ) → pos 0 <ℤ d → n ≤ℤ pos 0 → IsCeiling (int_div n d) n d
least_ceiling n d h k = quotient_up n d k h

pub unsigned_divisor : (q n d : ℤ) → pos 0 <ℤ d → IsFloor q n (pos (unsigned_abs d)) → IsFloor q n d
unsigned_divisor q n d h f = let e : pos (unsigned_abs d) ≡ d = omega (arith, ints, h) in rw e at f

pub two_steps_fit : (q : ℤ) (s : ℕ) → SFits w64 q → s < 2 ^ 64 → (SFits w128 (q *ℤ pos (2 ^ 29)))
    × (SFits w128 (q *ℤ pos (2 ^ 29) +ℤ pos s))
two_steps_fit q s f h = (omega (arith, ints, f), omega (arith, ints, f, h))

-- a quotient of a number above 0 is at most the number
at_most : (q n d : ℤ) → pos 0 ≤ℤ q → pos 0 <ℤ d → (q *ℤ d) ≤ℤ n → q ≤ℤ n
at_most q n d h k l = le_by (q ∷ n ∷ d ∷ []) ((lit (pos 0) ≼ at 0) ∷ (lit (pos 1) ≼ at 2) ∷ (at 0 ⊗ at 2 ≼ at 1) ∷ [])
    (at 0) (at 1)
    (known 0 ⊠ known 1 ⊞ known 2) refl (h, (omega (arith, ints, k), (l, tt)))

pub next_fits : (q n d : ℤ) → SFits w128 n → SFits w128 q → pos 0 <ℤ d → IsFloor q (n -ℤ pos 1) d
    → SFits w128 (q +ℤ pos 1)
next_fits q n d f g h k =
    by_lt_z q (pos 0)
    (λ l. omega (arith, ints, g, l))
    (λ l. let m = at_most q (n -ℤ pos 1) d l h k.not_above in omega (arith, ints, f, l, m))
