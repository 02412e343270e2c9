-- Products, as the code has them: how large they are at most, so that no product of 128 bits overflows, by `bounded_z`
-- from the bounds of both factors; and equations that lead from the code's order of factors and summands to the
-- definition's. They stand apart from the rows' lemmas, so that these speak of numbers that fit.
use Rattle.std.proofs.Common.{[], ◌∷◌, refl, ap, ◌∙◌, ◌≡◌, ℕ, ◌*◌, ◌^◌, ◌≤◌, ◌<◌, arith, unsigned_abs, neg_ℤ, ℤ, pos}
use Rattle.std.proofs.Common.{◌+ℤ◌, ◌-ℤ◌, ◌*ℤ◌, ◌≤ℤ◌, SFits}
use Rattle.std.specs.Int.{w128}
use Rattle.std.proofs.lemmas.Int.{ints}
use Rattle.book_model.proofs.Ring.{at, lit, ◌⊗◌, ring}
use Rattle.encl_core.proofs.Scaling.{bounded_z}
use Rattle.periodic_terms.specs.Turning.{whole_turns}

pub times_bounds : (m : ℤ) (t : ℕ) → unsigned_abs m ≤ 8 → t < 2 ^ 64 → (neg_ℤ (pos (2 ^ 67)) ≤ℤ (m *ℤ pos t))
    × ((m *ℤ pos t) ≤ℤ pos (2 ^ 67))
times_bounds m t h k =
    let b = bounded_z m (pos t) (pos 8) (pos (2 ^ 64)) (omega (arith, ints, h)) (omega (arith, ints, h))
    (omega (arith, ints, k)) (omega (arith, ints)) in
    (omega (arith, ints, b.1), omega (arith, ints, b.0))

pub factored_bounds : (f : ℕ) (s : ℤ) → f ≤ 5 * 2 ^ 54 → neg_ℤ (pos (2 ^ 56)) ≤ℤ s → s ≤ℤ pos (2 ^ 56)
    → (neg_ℤ (pos (5 * 2 ^ 110)) ≤ℤ (pos f *ℤ s)) × ((pos f *ℤ s) ≤ℤ pos (5 * 2 ^ 110))
factored_bounds f s h l u =
    let b = bounded_z (pos f) s (pos (5 * 2 ^ 54)) (pos (2 ^ 56)) (omega (arith, ints, h)) (omega (arith, ints)) u
    (omega (arith, ints, l)) in
    (omega (arith, ints, b.1), omega (arith, ints, b.0))

pub sized_bounds : (z s : ℤ) → unsigned_abs z ≤ 2 ^ 25 → neg_ℤ (pos (5 * 2 ^ 54)) ≤ℤ s → s ≤ℤ pos (5 * 2 ^ 54)
    → (neg_ℤ (pos (5 * 2 ^ 79)) ≤ℤ (z *ℤ s)) × ((z *ℤ s) ≤ℤ pos (5 * 2 ^ 79))
sized_bounds z s h l u =
    let b = bounded_z z s (pos (2 ^ 25)) (pos (5 * 2 ^ 54)) (omega (arith, ints, h)) (omega (arith, ints, h)) u
    (omega (arith, ints, l)) in
    (omega (arith, ints, b.1), omega (arith, ints, b.0))

pub fits_128 : (x : ℤ) → neg_ℤ (pos (2 ^ 119)) ≤ℤ x → x ≤ℤ pos (2 ^ 119) → SFits w128 x
fits_128 x l u = omega (arith, ints, l, u)

pub sum_of_four : (a b c d p q r s : ℤ) → a ≡ p → b ≡ q → c ≡ r → d ≡ s → a +ℤ b +ℤ c +ℤ d ≡ p +ℤ q +ℤ r +ℤ s
sum_of_four a b c d p q r s e f g h = rw (e, f, g, h) refl

pub product_is : (y z q : ℤ) → y ≡ z *ℤ q → y *ℤ pos (2 ^ 37) ≡ z *ℤ (pos (2 ^ 37) *ℤ q)
product_is y z q e = ap (λ v. v *ℤ pos (2 ^ 37)) e ∙ ring (z ∷ q ∷ []) ((at 0 ⊗ at 1) ⊗ lit (pos (2 ^ 37)))
    (at 0 ⊗ (lit (pos (2 ^ 37)) ⊗ at 1)) refl

pub low_is : (n : ℕ) (a b p q : ℤ) → a ≡ p → b ≡ q → pos n ≡ (a +ℤ b) -ℤ whole_turns (a +ℤ b) *ℤ pos (2 ^ 64)
    → pos n ≡ (p +ℤ q) -ℤ whole_turns (p +ℤ q) *ℤ pos (2 ^ 64)
low_is n a b p q e f h = rw (e, f) at h
