-- The margin of a fraction is the least that covers its size: one that is greater than another number which covers it
-- isn't rounded up, which a certificate refutes, at each of the two scales.
use Rattle.interval_endpoints.specs.Scales.{Scale, coarse, fine, unit}
use Rattle.std.proofs.Common.{◌≡◌, suc, ◌+◌, ◌^◌, refl, subst, arith, ℤ, pos, ◌+ℤ◌, ◌*ℤ◌, ◌≤ℤ◌, ◌<ℤ◌, [], ◌∷◌}
use Rattle.std.specs.Prelude.{unsigned_abs}
use Rattle.std.proofs.lemmas.Int.{ints, by_lt_z}
use Rattle.book_model.specs.Fraction.{Fraction}
use Rattle.book_model.proofs.Ring.{at, lit, ◌⊕◌, ◌⊗◌}
use Rattle.book_model.proofs.Bounds.{◌≼◌, known, ◌⊞◌, ◌⊠◌, refute}
use Rattle.interval_endpoints.specs.Rounding.{IsMarginAt}
use Rattle.int_division.proofs.Quotients.{next_le}

-- a margin that is 1 more than a number which covers isn't rounded up
margin_z : (s m n d k : ℤ) → pos 1 ≤ℤ d → (n *ℤ k) ≤ℤ (s *ℤ d) → (m *ℤ d +ℤ pos 1) ≤ℤ (n *ℤ k +ℤ d) → (s +ℤ pos 1) ≤ℤ m
    → ⊥
margin_z s m n d k h0 h1 h2 h3 =
    refute (s ∷ m ∷ n ∷ d ∷ k ∷ []) ((lit (pos 1) ≼ at 3) ∷ (at 2 ⊗ at 4 ≼ at 0 ⊗ at 3)
    ∷ (at 1 ⊗ at 3 ⊕ lit (pos 1) ≼ at 2 ⊗ at 4 ⊕ at 3) ∷
    (at 0 ⊕ lit (pos 1) ≼ at 1) ∷ [])
    (known 1 ⊞ known 2 ⊞ known 3 ⊠ known 0 ⊞ known 3) refl (h0, (h1, (h2, (h3, tt))))

-- a margin is at most what covers the size of the fraction
pub margin_least : (scale : Scale) → (f : Fraction) (m s : ℤ) → IsMarginAt scale f m
    → (pos (unsigned_abs f.num) *ℤ (unit scale)) ≤ℤ (s *ℤ pos (suc f.below))
    → m ≤ℤ s
margin_least coarse f m s h k =
    let r = h.rounded.close in
    let e : pos (f.below + 1) ≡ pos (suc f.below) = omega (arith, ints) in
    let c : (m *ℤ pos (suc f.below) +ℤ pos 1) ≤ℤ (pos (unsigned_abs f.num) *ℤ pos (2 ^ 36) +ℤ pos (suc f.below)) =
    next_le _ _
    (subst (λ x. (m *ℤ x) <ℤ (pos (unsigned_abs f.num) *ℤ pos (2 ^ 36) +ℤ x)) e r) in
    by_lt_z s m (λ l. absurd (margin_z s m (pos (unsigned_abs f.num)) (pos (suc f.below)) (pos (2 ^ 36))
    (omega (arith, ints)) k c (next_le _ _ l))) (λ l. l)
margin_least fine f m s h k =
    let r = h.rounded.close in
    let e : pos (f.below + 1) ≡ pos (suc f.below) = omega (arith, ints) in
    let c : (m *ℤ pos (suc f.below) +ℤ pos 1) ≤ℤ (pos (unsigned_abs f.num) *ℤ pos (2 ^ 56) +ℤ pos (suc f.below)) =
    next_le _ _
    (subst (λ x. (m *ℤ x) <ℤ (pos (unsigned_abs f.num) *ℤ pos (2 ^ 56) +ℤ x)) e r) in
    by_lt_z s m (λ l. absurd (margin_z s m (pos (unsigned_abs f.num)) (pos (suc f.below)) (pos (2 ^ 56))
    (omega (arith, ints)) k c (next_le _ _ l))) (λ l. l)
