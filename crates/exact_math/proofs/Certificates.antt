-- Inequalities over fractions by computation. A certificate says how the difference of the two sides is made of sums
-- and products of the differences of known inequalities, of squares, of naturals and of multiples of known equations;
-- its check is a ring identity.
use Rattle.std.proofs.Common.{◌≡◌, ℕ, zero, suc, refl, arith, ℤ, pos, negsuc, ◌*ℤ◌, ◌≤ℤ◌, List, [], ◌∷◌, inl, inr}
use Rattle.std.proofs.lemmas.Int.{ints}
use Rattle.exact_math.proofs.Ring.{Poly, at, lit, ◌⊕◌, ◌⊖◌, ◌⊗◌, normal}
use Rattle.exact_math.specs.Fraction.{Fraction, ◌≈◌, whole, den, ◌≤F◌, plus, opposite, times}
use Rattle.exact_math.proofs.Fractions.{le_refl, le_trans, le_total, plus_mono, times_mono, times_anti}
use Rattle.exact_math.proofs.Same.{same_refl, same_sym, same_trans, le_of_same, ge_of_same, plus_cong, times_cong}
use Rattle.exact_math.proofs.FractionRing.{value, same_by}

abbrev pub zero_F : Fraction
zero_F = whole (pos 0)

-- ---- signs
pub sub_nonneg : (a b : Fraction) → a ≤F b → zero_F ≤F plus b (opposite a)
sub_nonneg a b h =
    le_trans zero_F (plus a (opposite a)) (plus b (opposite a))
    (ge_of_same (same_by (a ∷ []) (at 0 ⊖ at 0) (lit (pos 0)) refl))
    (plus_mono a b (opposite a) (opposite a) h (le_refl (opposite a)))

pub from_sub : (a b : Fraction) → zero_F ≤F plus b (opposite a) → a ≤F b
from_sub a b h =
    le_trans a (plus zero_F a) b
    (ge_of_same (same_by (a ∷ []) (lit (pos 0) ⊕ at 0) (at 0) refl))
    (le_trans (plus zero_F a) (plus (plus b (opposite a)) a) b
    (plus_mono zero_F (plus b (opposite a)) a a h (le_refl a))
    (le_of_same (same_by (a ∷ b ∷ []) (at 1 ⊖ at 0 ⊕ at 0) (at 1) refl)))

pub add_nonneg : (a b : Fraction) → zero_F ≤F a → zero_F ≤F b → zero_F ≤F plus a b
add_nonneg a b h k =
    le_trans zero_F (plus zero_F zero_F) (plus a b)
    (ge_of_same (same_by [] (lit (pos 0) ⊕ lit (pos 0)) (lit (pos 0)) refl)) (plus_mono zero_F a zero_F b h k)

pub mul_nonneg : (a b : Fraction) → zero_F ≤F a → zero_F ≤F b → zero_F ≤F times a b
mul_nonneg a b h k =
    le_trans zero_F (times zero_F b) (times a b)
    (ge_of_same (same_by (b ∷ []) (lit (pos 0) ⊗ at 0) (lit (pos 0)) refl)) (times_mono zero_F a b k h)

pub square_nonneg : (a : Fraction) → zero_F ≤F times a a
square_nonneg a =
    elim (le_total zero_F a) [
      | inl h ↦ mul_nonneg a a h h
      | inr h ↦ le_trans zero_F (times zero_F a) (times a a)
          (ge_of_same (same_by (a ∷ []) (lit (pos 0) ⊗ at 0) (lit (pos 0)) refl)) (times_anti a zero_F a h h)
    ]

pub natural_nonneg : (n : ℕ) → zero_F ≤F whole (pos n)
natural_nonneg n = record { cross = omega (arith, ints) }

pub sub_same : (a b : Fraction) → a ≈ b → plus b (opposite a) ≈ zero_F
sub_same a b e = same_trans (plus_cong (same_sym e) (same_refl (opposite a)))
    (same_by (a ∷ []) (at 0 ⊖ at 0) (lit (pos 0)) refl)

-- a positive natural times a is at least 0, and so is a
over_z : (m : ℕ) (n d e : ℤ) → (pos 0 *ℤ e) ≤ℤ ((pos (suc m) *ℤ n) *ℤ pos 1) → (pos 0 *ℤ d) ≤ℤ (n *ℤ pos 1)
over_z m (pos n) d e h = omega (arith, ints)
over_z m (negsuc n) d e h = absurd (omega (arith, ints))

pub over_natural : (m : ℕ) (a : Fraction) → zero_F ≤F times (whole (pos (suc m))) a → zero_F ≤F a
unfolding times
over_natural m a h = record { cross = over_z m a.num (den a) (den (times (whole (pos (suc m))) a)) h.cross }

-- ---- certificates
infix 50 ◌≼◌ ◌≗◌
pub data Claim : Type 0 where
  ◌≼◌ : Poly → Poly → Claim
  ◌≗◌ : Poly → Poly → Claim

abbrev pub Holds : List Fraction → List Claim → Type 0
Holds ρ [] = Unit {0}
Holds ρ ((p ≼ q) ∷ cs) = (value ρ p ≤F value ρ q) × Holds ρ cs
Holds ρ ((p ≗ q) ∷ cs) = (value ρ p ≈ value ρ q) × Holds ρ cs

infixl 60 ◌⊞◌
infixl 70 ◌⊠◌
pub data Cert : Type 0 where
  known : ℕ → Cert
  multiple : ℕ → Poly → Cert
  ◌⊞◌ : Cert → Cert → Cert
  ◌⊠◌ : Cert → Cert → Cert
  square : Poly → Cert
  natural : ℕ → Cert

-- the difference of claim i, where that is an inequality
abbrev pub gap : List Claim → ℕ → Poly
gap [] i = lit (pos 0)
gap ((p ≼ q) ∷ cs) zero = q ⊖ p
gap ((p ≗ q) ∷ cs) zero = lit (pos 0)
gap (c ∷ cs) (suc i) = gap cs i

-- the difference of claim i, where that is an equation
abbrev pub null : List Claim → ℕ → Poly
null [] i = lit (pos 0)
null ((p ≼ q) ∷ cs) zero = lit (pos 0)
null ((p ≗ q) ∷ cs) zero = q ⊖ p
null (c ∷ cs) (suc i) = null cs i

abbrev pub reached : List Claim → Cert → Poly
reached cs (known i) = gap cs i
reached cs (multiple i p) = null cs i ⊗ p
reached cs (c ⊞ d) = reached cs c ⊕ reached cs d
reached cs (c ⊠ d) = reached cs c ⊗ reached cs d
reached cs (square p) = p ⊗ p
reached cs (natural n) = lit (pos n)

gap_nonneg : (ρ : List Fraction) (cs : List Claim) (i : ℕ) → Holds ρ cs → zero_F ≤F value ρ (gap cs i)
gap_nonneg ρ [] i h = natural_nonneg 0
gap_nonneg ρ ((p ≼ q) ∷ cs) zero h = sub_nonneg (value ρ p) (value ρ q) h.0
gap_nonneg ρ ((p ≗ q) ∷ cs) zero h = natural_nonneg 0
gap_nonneg ρ ((p ≼ q) ∷ cs) (suc i) h = gap_nonneg ρ cs i h.1
gap_nonneg ρ ((p ≗ q) ∷ cs) (suc i) h = gap_nonneg ρ cs i h.1

null_zero : (ρ : List Fraction) (cs : List Claim) (i : ℕ) → Holds ρ cs → value ρ (null cs i) ≈ zero_F
null_zero ρ [] i h = same_refl zero_F
null_zero ρ ((p ≼ q) ∷ cs) zero h = same_refl zero_F
null_zero ρ ((p ≗ q) ∷ cs) zero h = sub_same (value ρ p) (value ρ q) h.0
null_zero ρ ((p ≼ q) ∷ cs) (suc i) h = null_zero ρ cs i h.1
null_zero ρ ((p ≗ q) ∷ cs) (suc i) h = null_zero ρ cs i h.1

zero_factor : (a b : Fraction) → a ≈ zero_F → zero_F ≤F times a b
zero_factor a b e =
    ge_of_same (same_trans (times_cong e (same_refl b)) (same_by (b ∷ []) (lit (pos 0) ⊗ at 0) (lit (pos 0)) refl))

reached_nonneg : (ρ : List Fraction) (cs : List Claim) (c : Cert) → Holds ρ cs → zero_F ≤F value ρ (reached cs c)
reached_nonneg ρ cs (known i) h = gap_nonneg ρ cs i h
reached_nonneg ρ cs (multiple i p) h = zero_factor (value ρ (null cs i)) (value ρ p) (null_zero ρ cs i h)
reached_nonneg ρ cs (c ⊞ d) h = add_nonneg (value ρ (reached cs c)) (value ρ (reached cs d)) (reached_nonneg ρ cs c h)
    (reached_nonneg ρ cs d h)
reached_nonneg ρ cs (c ⊠ d) h = mul_nonneg (value ρ (reached cs c)) (value ρ (reached cs d)) (reached_nonneg ρ cs c h)
    (reached_nonneg ρ cs d h)
reached_nonneg ρ cs (square p) h = square_nonneg (value ρ p)
reached_nonneg ρ cs (natural n) h = natural_nonneg n

-- p ≤ q, where q - p, or s + 1 times that, is what the certificate shows not to be negative
pub le_by : (ρ : List Fraction) (cs : List Claim) (p q : Poly) (c : Cert) → normal (q ⊖ p) ≡ normal (reached cs c)
    → Holds ρ cs → value ρ p ≤F value ρ q
le_by ρ cs p q c e h =
    from_sub (value ρ p) (value ρ q)
    (le_trans zero_F (value ρ (reached cs c)) (value ρ (q ⊖ p)) (reached_nonneg ρ cs c h)
    (ge_of_same (same_by ρ (q ⊖ p) (reached cs c) e)))

pub le_over : (s : ℕ) (ρ : List Fraction) (cs : List Claim) (p q : Poly) (c : Cert)
    → normal (lit (pos (suc s)) ⊗ (q ⊖ p)) ≡ normal (reached cs c) → Holds ρ cs
    → value ρ p ≤F value ρ q
le_over s ρ cs p q c e h =
    from_sub (value ρ p) (value ρ q)
    (over_natural s (value ρ (q ⊖ p))
    (le_trans zero_F (value ρ (reached cs c)) (value ρ (lit (pos (suc s)) ⊗ (q ⊖ p))) (reached_nonneg ρ cs c h)
    (ge_of_same (same_by ρ (lit (pos (suc s)) ⊗ (q ⊖ p)) (reached cs c) e))))

-- ---- further forms
pub record IsPositive (a : Fraction) : Type 0 where
  pub above : pos 1 ≤ℤ a.num

not_negative : (n : ℕ) → zero_F ≤F whole (negsuc n) → ⊥
not_negative n h = omega (arith, ints, h.cross)

-- claims that show a negative number not to be negative
pub refute : (n : ℕ) (ρ : List Fraction) (cs : List Claim) (c : Cert) → normal (lit (negsuc n)) ≡ normal (reached cs c)
    → Holds ρ cs → ⊥
refute n ρ cs c e h = not_negative n (le_trans zero_F (value ρ (reached cs c)) (whole (negsuc n))
    (reached_nonneg ρ cs c h)
    (ge_of_same (same_by ρ (lit (negsuc n)) (reached cs c) e)))

-- p and q are of one value: q - p is the sum of these multiples of known equations
abbrev pub combined : List Claim → List (ℕ × Poly) → Poly
combined cs [] = lit (pos 0)
combined cs (m ∷ ms) = null cs m.0 ⊗ m.1 ⊕ combined cs ms

combined_zero : (ρ : List Fraction) (cs : List Claim) (ms : List (ℕ × Poly)) → Holds ρ cs
    → value ρ (combined cs ms) ≈ zero_F
combined_zero ρ cs [] h = same_refl zero_F
combined_zero ρ cs (m ∷ ms) h =
    same_trans (plus_cong (times_cong (null_zero ρ cs m.0 h) (same_refl (value ρ m.1))) (combined_zero ρ cs ms h))
    (same_by (value ρ m.1 ∷ []) (lit (pos 0) ⊗ at 0 ⊕ lit (pos 0)) (lit (pos 0)) refl)

pub same_given : (ρ : List Fraction) (cs : List Claim) (p q : Poly) (ms : List (ℕ × Poly))
    → normal (q ⊖ p) ≡ normal (combined cs ms) → Holds ρ cs
    → value ρ p ≈ value ρ q
same_given ρ cs p q ms e h =
    same_trans (same_by (value ρ p ∷ []) (at 0) (at 0 ⊕ lit (pos 0)) refl)
    (same_trans (plus_cong (same_refl (value ρ p))
    (same_sym (same_trans (same_by ρ (q ⊖ p) (combined cs ms) e) (combined_zero ρ cs ms h))))
    (same_by (value ρ p ∷ value ρ q ∷ []) (at 0 ⊕ (at 1 ⊖ at 0)) (at 1) refl))
