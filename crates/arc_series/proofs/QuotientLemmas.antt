-- Quotients in 64 bits, and the numbers of which a piece takes the arctangent. A quotient rounded down names its
-- fraction to one part of 2^-64, by multiplying out; that it is at most a half, and that numerator and denominator fit,
-- is linear in the piece's edges.
use Rattle.std.proofs.Common.{◌≡◌, ℕ, zero, suc, ◌+◌, ◌*◌, ◌/◌, ◌%◌, ◌-◌, ◌^◌, ◌≤◌, refl, arith, pos, negsuc, ◌≤ℤ◌, []}
use Rattle.std.proofs.Common.{◌∷◌}
use Rattle.std.proofs.lemmas.Int.{ints}
use Rattle.std.proofs.lemmas.Nat.{div-add-mod', mod_below, div_below, le-div}
use Rattle.book_model.specs.Fraction.{Fraction, ◌≤F◌, ◌≈◌, whole, plus, opposite, times, reciprocal}
use Rattle.book_model.specs.Interval.{one}
use Rattle.book_model.proofs.Ring.{at, lit, ◌⊕◌, ◌⊖◌, ◌⊗◌, minus}
use Rattle.book_model.proofs.Fractions.{le_trans}
use Rattle.book_model.proofs.Same.{le_of_same, ge_of_same}
use Rattle.book_model.proofs.Certificates.{◌≼◌, ◌≗◌, known, multiple, ◌⊞◌, le_by, from_sub, over_natural, same_given}
use Rattle.book_model.specs.programs.Leading.{units_of_56}
use Rattle.book_model.specs.numbers.Arcs.{half}
use Rattle.book_model.proofs.ArcPieces.{recip_one, turned, sum_positive, three_positive}
use Rattle.arc_series.specs.Kernel.{IsNumber}
use Rattle.encl_core.proofs.HighHalves.{unit, product_is, at_is, at_more}

-- ---- a quotient
-- n over d, rounded down
pub record IsQuotient (q n d : ℕ) : Type 0 where
  pub not_above : q * d ≤ n * 2 ^ 64
  pub close : n * 2 ^ 64 ≤ q * d + d

pub quotient_is : (q n d : ℕ) → 1 ≤ d → q ≡ n * 2 ^ 64 / d → IsQuotient q n d
quotient_is q n d l e =
    let f = div-add-mod' (n * 2 ^ 64) d in
    let g = mod_below (n * 2 ^ 64) d (omega (arith, l)) in
    let h : q * d + (n * 2 ^ 64) % d ≡ n * 2 ^ 64 = rw e f in
    record { not_above = omega (arith, h); close = omega (arith, h, g) }

pub quotient_small : (q n d : ℕ) → 1 ≤ d → 2 * n ≤ d → q ≡ n * 2 ^ 64 / d → q ≤ 2 ^ 63
quotient_small q n d l h e = let b = div_below (n * 2 ^ 64) d (2 ^ 63 + 1) (omega (arith, l)) (omega (arith, l, h)) in
    omega (arith, b, e)

pub quotient_some : (q n d : ℕ) → 1 ≤ d → d ≤ n * 2 ^ 64 → q ≡ n * 2 ^ 64 / d → 1 ≤ q
quotient_some q n d l h e = let b = le-div 1 (n * 2 ^ 64) d (omega (arith, l)) (omega (arith, h)) in omega (arith, b, e)

-- what holds of multiples holds of the numbers
le_over_count : (m : ℕ) (a b : Fraction) → times (whole (pos (suc m))) a ≤F times (whole (pos (suc m))) b → a ≤F b
le_over_count m a b h =
    from_sub a b (over_natural m (plus b (opposite a))
    (le_by (a ∷ b ∷ whole (pos (suc m)) ∷ []) ((at 2 ⊗ at 0 ≼ at 2 ⊗ at 1) ∷ []) (lit (pos 0)) (at 2 ⊗ (at 1 ⊖ at 0))
    (known 0) refl (h, tt)))

below_by : (p n : ℕ) → p ≤ n * 2 ^ 64 → times (whole (pos p)) unit ≤F whole (pos n)
unfolding unit times
below_by p n h = record { cross = omega (arith, ints, h) }

above_by : (p n d : ℕ) → n * 2 ^ 64 ≤ p + d → whole (pos n) ≤F times (plus (whole (pos p)) (whole (pos d))) unit
unfolding unit times plus
above_by p n d h = record { cross = omega (arith, ints, h) }

at_most_half : (n d : ℕ) → 2 * n ≤ d → times (whole (pos 2)) (whole (pos n)) ≤F whole (pos d)
unfolding times
at_most_half n d h = record { cross = omega (arith, ints, h) }

below_half : (x : Fraction) → times (whole (pos 2)) x ≤F whole (pos 1) → x ≤F half
unfolding times
below_half x h = record { cross = omega (arith, ints, h.cross) }

number_by : (q n m : ℕ) (x : Fraction) → IsQuotient q n (suc m) → 2 * n ≤ suc m → times x (whole (pos (suc m))) ≈ whole
    (pos n) → IsNumber q x
number_by q n m x k l e =
    let ρ = x ∷ whole (pos (suc m)) ∷ whole (pos n) ∷ whole (pos q) ∷ unit ∷ whole (pos (q * suc m)) ∷ [] in
    record {
      not_above = le_trans _ _ _ (le_of_same (at_is (pos q)))
          (le_over_count m (times (whole (pos q)) unit) x
          (le_by ρ ((at 0 ⊗ at 1 ≗ at 2) ∷ (at 5 ⊗ at 4 ≼ at 2) ∷ (at 5 ≗ at 3 ⊗ at 1) ∷ []) (at 1 ⊗ (at 3 ⊗ at 4))
          (at 1 ⊗ at 0)
          (known 1 ⊞ multiple 0 (lit (negsuc 0)) ⊞ multiple 2 (lit (negsuc 0) ⊗ at 4)) refl
          (e, (below_by (q * suc m) n k.not_above, (product_is q (suc m), tt)))));
      close = le_trans _ _ _
          (le_over_count m x (times (plus (whole (pos q)) (whole (pos 1))) unit)
          (le_by ρ ((at 0 ⊗ at 1 ≗ at 2) ∷ (at 2 ≼ (at 5 ⊕ at 1) ⊗ at 4) ∷ (at 5 ≗ at 3 ⊗ at 1) ∷ []) (at 1 ⊗ at 0)
          (at 1 ⊗ ((at 3 ⊕ lit (pos 1)) ⊗ at 4))
          (known 1 ⊞ multiple 0 (lit (pos 1)) ⊞ multiple 2 (at 4)) refl
          (e, (above_by (q * suc m) n (suc m) k.close, (product_is q (suc m), tt)))))
          (ge_of_same (at_more (pos q) (pos 1)));
      small = below_half x
          (le_over_count m (times (whole (pos 2)) x) (whole (pos 1))
          (le_by ρ ((at 0 ⊗ at 1 ≗ at 2) ∷ (lit (pos 2) ⊗ at 2 ≼ at 1) ∷ []) (at 1 ⊗ (lit (pos 2) ⊗ at 0))
          (at 1 ⊗ lit (pos 1))
          (known 1 ⊞ multiple 0 (lit (pos 2))) refl
          (e, (at_most_half n (suc m) l, tt))));
    }

pub number_from : (q n d : ℕ) (x : Fraction) → 1 ≤ d → IsQuotient q n d → 2 * n ≤ d
    → times x (whole (pos d)) ≈ whole (pos n) → IsNumber q x
number_from q n zero x l k h e = absurd (omega (arith, l))
number_from q n (suc m) x l k h e = number_by q n m x k h e

-- ---- a number in units of 2^-56
pub near_number : (k : ℕ) (x : Fraction) → pos k ≤ℤ pos (2 ^ 55) → x ≈ units_of_56 (pos k) → IsNumber (k * 256) x
near_number k x h e = record {
  not_above = le_trans _ (units_of_56 (pos k)) x (record { cross = omega (arith, ints) }) (ge_of_same e);
  close = le_trans x (units_of_56 (pos k)) _ (le_of_same e) (record { cross = omega (arith, ints) });
  small = le_trans x (units_of_56 (pos k)) _ (le_of_same e) (record { cross = omega (arith, ints, h) });
}

abbrev pub steps : ℕ
steps = 2 ^ 56

counted : (k : ℕ) (x : Fraction) → x ≈ units_of_56 (pos k) → times x (whole (pos steps)) ≈ whole (pos k)
unfolding times
counted k x e = let f = e.cross in record { cross = omega (arith, ints, f) }

more_is : (k : ℕ) → whole (pos (steps + k)) ≈ plus (whole (pos steps)) (whole (pos k))
unfolding plus
more_is k = record { cross = omega (arith, ints) }

rest_is : (c h : ℕ) → h ≤ c → whole (pos (c - h)) ≈ plus (whole (pos c)) (opposite (whole (pos h)))
unfolding plus opposite
rest_is c h e = record { cross = omega (arith, ints, e) }

from_half : (k : ℕ) (x : Fraction) → pos (2 ^ 55) ≤ℤ pos k → x ≈ units_of_56 (pos k) → half ≤F x
from_half k x h e = le_trans half (units_of_56 (pos k)) x (record { cross = omega (arith, ints, h) }) (ge_of_same e)

from_three : (k : ℕ) (x : Fraction) → pos (3 * 2 ^ 56) ≤ℤ pos k → x ≈ units_of_56 (pos k) → whole (pos 3) ≤F x
from_three k x h e = le_trans (whole (pos 3)) (units_of_56 (pos k)) x (record { cross = omega (arith, ints, h) })
    (ge_of_same e)

-- (x - 1) / (x + 1) and its opposite
pub turned_above : (k : ℕ) (x : Fraction) → pos (2 ^ 55) ≤ℤ pos k → steps ≤ k → x ≈ units_of_56 (pos k)
    → times (turned x) (whole (pos (steps + k))) ≈ whole (pos (k - steps))
turned_above k x h l e =
    let w = (at 0 ⊖ lit (pos 1)) ⊗ at 1 in
    same_given (x ∷ reciprocal (plus x one) ∷ whole (pos k) ∷ whole (pos (steps + k)) ∷ whole (pos (k - steps)) ∷ whole
    (pos steps) ∷ [])
    (((at 0 ⊕ lit (pos 1)) ⊗ at 1 ≗ lit (pos 1)) ∷ (at 0 ⊗ at 5 ≗ at 2) ∷ (at 3 ≗ at 5 ⊕ at 2) ∷ (at 4 ≗ at 2 ⊖ at 5)
    ∷ [])
    (((at 0 ⊕ lit (negsuc 0)) ⊗ at 1) ⊗ at 3) (at 4)
    ((0, (at 0 ⊖ lit (pos 1)) ⊗ at 5) ∷ (1, lit (pos 1) ⊖ w) ∷ (2, w) ∷ (3, lit (negsuc 0)) ∷ []) refl
    (recip_one (plus x one) (sum_positive x (from_half k x h e)), (counted k x e, (more_is k, (rest_is k steps l, tt))))

pub turned_below : (k : ℕ) (x : Fraction) → pos (2 ^ 55) ≤ℤ pos k → k ≤ steps → x ≈ units_of_56 (pos k)
    → times (opposite (turned x)) (whole (pos (steps + k))) ≈ whole (pos (steps - k))
turned_below k x h l e =
    let w = (at 0 ⊖ lit (pos 1)) ⊗ at 1 in
    same_given (x ∷ reciprocal (plus x one) ∷ whole (pos k) ∷ whole (pos (steps + k)) ∷ whole (pos (steps - k)) ∷ whole
    (pos steps) ∷ [])
    (((at 0 ⊕ lit (pos 1)) ⊗ at 1 ≗ lit (pos 1)) ∷ (at 0 ⊗ at 5 ≗ at 2) ∷ (at 3 ≗ at 5 ⊕ at 2) ∷ (at 4 ≗ at 5 ⊖ at 2)
    ∷ [])
    (minus ((at 0 ⊕ lit (negsuc 0)) ⊗ at 1) ⊗ at 3) (at 4)
    ((0, (lit (pos 1) ⊖ at 0) ⊗ at 5) ∷ (1, w ⊖ lit (pos 1)) ∷ (2, minus w) ∷ (3, lit (negsuc 0)) ∷ []) refl
    (recip_one (plus x one) (sum_positive x (from_half k x h e)), (counted k x e, (more_is k, (rest_is steps k l, tt))))

-- 1 / x
pub over_one : (k : ℕ) (x : Fraction) → pos (3 * 2 ^ 56) ≤ℤ pos k → x ≈ units_of_56 (pos k)
    → times (reciprocal x) (whole (pos k)) ≈ whole (pos steps)
over_one k x h e =
    same_given (x ∷ reciprocal x ∷ whole (pos k) ∷ whole (pos steps) ∷ [])
    ((at 0 ⊗ at 1 ≗ lit (pos 1)) ∷ (at 0 ⊗ at 3 ≗ at 2) ∷ [])
    (at 1 ⊗ at 2) (at 3)
    ((0, at 3) ∷ (1, minus (at 1)) ∷ []) refl
    (recip_one x (three_positive x (from_three k x h e)), (counted k x e, tt))
