-- Inequalities over ℤ by computation: a certificate says how the difference of the two sides is made of sums and
-- products of the differences of known inequalities, of squares and of naturals. Its check is a ring identity.
use Rattle.std.proofs.Common.{◌≡◌, ℕ, zero, suc, ◌*◌, sym, subst, arith, ℤ, pos, negsuc, ◌+ℤ◌, ◌*ℤ◌, ◌-ℤ◌, ◌≤ℤ◌, List}
use Rattle.std.proofs.Common.{[], ◌∷◌}
use Rattle.std.proofs.lemmas.Int.{ints}
use Rattle.exact_math.proofs.Ring.{Poly, lit, ◌⊕◌, ◌⊖◌, ◌⊗◌, ring, value, normal}

pub sub_nonneg : (a b : ℤ) → a ≤ℤ b → pos 0 ≤ℤ (b -ℤ a)
sub_nonneg a b h = omega (arith, ints)

pub from_sub : (a b : ℤ) → pos 0 ≤ℤ (b -ℤ a) → a ≤ℤ b
from_sub a b h = omega (arith, ints)

pub add_nonneg : (a b : ℤ) → pos 0 ≤ℤ a → pos 0 ≤ℤ b → pos 0 ≤ℤ (a +ℤ b)
add_nonneg a b h k = omega (arith, ints)

pub pos_nonneg : (n : ℕ) → pos 0 ≤ℤ pos n
pos_nonneg n = omega (arith, ints)

negative : (n : ℕ) → pos 0 ≤ℤ negsuc n → ⊥
negative n h = omega (arith, ints)

pub mul_nonneg : (a b : ℤ) → pos 0 ≤ℤ a → pos 0 ≤ℤ b → pos 0 ≤ℤ (a *ℤ b)
mul_nonneg (pos a) (pos b) h k = pos_nonneg (a * b)
mul_nonneg (pos a) (negsuc b) h k = absurd (negative b k)
mul_nonneg (negsuc a) b h k = absurd (negative a h)

pub square_nonneg : (a : ℤ) → pos 0 ≤ℤ (a *ℤ a)
square_nonneg (pos a) = pos_nonneg (a * a)
square_nonneg (negsuc a) = pos_nonneg (suc a * suc a)

pub over : (s x : ℤ) → pos 1 ≤ℤ s → pos 0 ≤ℤ (s *ℤ x) → pos 0 ≤ℤ x
over s (pos n) h k = pos_nonneg n
over (pos (suc m)) (negsuc n) h k = absurd (omega (arith, ints))
over (pos zero) (negsuc n) h k = absurd (omega (arith, ints))
over (negsuc m) (negsuc n) h k = absurd (omega (arith, ints))

infix 50 ◌≼◌
pub data Claim : Type 0 where
  ◌≼◌ : Poly → Poly → Claim

abbrev pub Holds : List ℤ → List Claim → Type 0
Holds ρ [] = Unit {0}
Holds ρ ((p ≼ q) ∷ cs) = (value ρ p ≤ℤ value ρ q) × Holds ρ cs

infixl 60 ◌⊞◌
infixl 70 ◌⊠◌
pub data Cert : Type 0 where
  known : ℕ → Cert
  ◌⊞◌ : Cert → Cert → Cert
  ◌⊠◌ : Cert → Cert → Cert
  square : Poly → Cert
  times : ℕ → Cert

abbrev pub gap : List Claim → ℕ → Poly
gap [] i = lit (pos 0)
gap ((p ≼ q) ∷ cs) zero = q ⊖ p
gap ((p ≼ q) ∷ cs) (suc i) = gap cs i

abbrev pub reached : List Claim → Cert → Poly
reached cs (known i) = gap cs i
reached cs (c ⊞ d) = reached cs c ⊕ reached cs d
reached cs (c ⊠ d) = reached cs c ⊗ reached cs d
reached cs (square p) = p ⊗ p
reached cs (times n) = lit (pos n)

gap_nonneg : (ρ : List ℤ) (cs : List Claim) (i : ℕ) → Holds ρ cs → pos 0 ≤ℤ value ρ (gap cs i)
gap_nonneg ρ [] i h = pos_nonneg 0
gap_nonneg ρ ((p ≼ q) ∷ cs) zero h = sub_nonneg (value ρ p) (value ρ q) h.0
gap_nonneg ρ ((p ≼ q) ∷ cs) (suc i) h = gap_nonneg ρ cs i h.1

reached_nonneg : (ρ : List ℤ) (cs : List Claim) (c : Cert) → Holds ρ cs → pos 0 ≤ℤ value ρ (reached cs c)
reached_nonneg ρ cs (known i) h = gap_nonneg ρ cs i h
reached_nonneg ρ cs (c ⊞ d) h = add_nonneg (value ρ (reached cs c)) (value ρ (reached cs d)) (reached_nonneg ρ cs c h)
    (reached_nonneg ρ cs d h)
reached_nonneg ρ cs (c ⊠ d) h = mul_nonneg (value ρ (reached cs c)) (value ρ (reached cs d)) (reached_nonneg ρ cs c h)
    (reached_nonneg ρ cs d h)
reached_nonneg ρ cs (square p) h = square_nonneg (value ρ p)
reached_nonneg ρ cs (times n) h = pos_nonneg n

-- p ≤ q, where q - p is what the certificate shows not to be negative
pub le_by : (ρ : List ℤ) (cs : List Claim) (p q : Poly) (c : Cert) → normal (q ⊖ p) ≡ normal (reached cs c) → Holds ρ cs
    → value ρ p ≤ℤ value ρ q
le_by ρ cs p q c e h = from_sub (value ρ p) (value ρ q) (subst (λ x. pos 0 ≤ℤ x) (sym (ring ρ (q ⊖ p) (reached cs c) e))
    (reached_nonneg ρ cs c h))

-- the same, where a positive s times q - p is shown
pub le_over : (ρ : List ℤ) (cs : List Claim) (s p q : Poly) (c : Cert) → normal (s ⊗ (q ⊖ p)) ≡ normal (reached cs c)
    → pos 1 ≤ℤ value ρ s → Holds ρ cs
    → value ρ p ≤ℤ value ρ q
le_over ρ cs s p q c e k h =
    from_sub (value ρ p) (value ρ q) (over (value ρ s) (value ρ (q ⊖ p)) k
    (subst (λ x. pos 0 ≤ℤ x) (sym (ring ρ (s ⊗ (q ⊖ p)) (reached cs c) e)) (reached_nonneg ρ cs c h)))

-- the claims cannot all hold, where -1 is shown not to be negative
pub refute : (ρ : List ℤ) (cs : List Claim) (c : Cert) → normal (lit (negsuc 0)) ≡ normal (reached cs c) → Holds ρ cs
    → ⊥
refute ρ cs c e h = negative 0 (subst (λ x. pos 0 ≤ℤ x) (sym (ring ρ (lit (negsuc 0)) (reached cs c) e))
    (reached_nonneg ρ cs c h))
