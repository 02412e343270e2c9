-- Two fractions of one value, and the laws of a commutative ring up to that.
use Rattle.std.proofs.Common.{◌≡◌, zero, suc, refl, sym, ap, ◌∙◌, arith, ℤ, pos, negsuc, ◌+ℤ◌, ◌*ℤ◌, List, [], ◌∷◌}
use lib.IntN.{neg_ℤ}
use Rattle.std.proofs.lemmas.Int.{ints}
use Rattle.exact_math.proofs.Ring.{Poly, at, lit, ◌⊕◌, ◌⊖◌, ◌⊗◌, minus, ring, value, normal}
use Rattle.exact_math.specs.Fraction.{Fraction, den, ◌≤F◌, ◌≈◌, whole, plus, opposite, times}
use Rattle.exact_math.proofs.Fractions.{den_product, le_trans, plus_mono, opposite_mono}

pub le_of_same : {a b : Fraction} → a ≈ b → a ≤F b
le_of_same {a} {b} e = record { cross = omega (arith, ints, e.cross) }

pub ge_of_same : {a b : Fraction} → a ≈ b → b ≤F a
ge_of_same {a} {b} e = record { cross = omega (arith, ints, e.cross) }

pub same_of_le : {a b : Fraction} → a ≤F b → b ≤F a → a ≈ b
same_of_le {a} {b} h k = record { cross = omega (arith, ints, h.cross, k.cross) }

pub same_refl : (a : Fraction) → a ≈ a
same_refl a = record { cross = refl }

pub same_sym : {a b : Fraction} → a ≈ b → b ≈ a
same_sym e = record { cross = sym e.cross }

pub same_trans : {a b c : Fraction} → a ≈ b → b ≈ c → a ≈ c
same_trans {a} {b} {c} e f =
    same_of_le (le_trans a b c (le_of_same e) (le_of_same f)) (le_trans c b a (ge_of_same f) (ge_of_same e))

pub plus_cong : {a b c d : Fraction} → a ≈ b → c ≈ d → plus a c ≈ plus b d
plus_cong {a} {b} {c} {d} e f =
    same_of_le (plus_mono a b c d (le_of_same e) (le_of_same f)) (plus_mono b a d c (ge_of_same e) (ge_of_same f))

pub opposite_cong : {a b : Fraction} → a ≈ b → opposite a ≈ opposite b
opposite_cong {a} {b} e = same_of_le (opposite_mono b a (ge_of_same e)) (opposite_mono a b (le_of_same e))

-- to compare by other names of the denominators
by_dens : (a b : Fraction) (p q : ℤ) → den a ≡ p → den b ≡ q → a.num *ℤ q ≡ b.num *ℤ p → a ≈ b
by_dens a b p q e f h = record { cross = ap (λ x. a.num *ℤ x) f ∙ h ∙ ap (λ x. b.num *ℤ x) (sym e) }

times_cong_z : (a b c d p q r s : ℤ) → a *ℤ q ≡ b *ℤ p → c *ℤ s ≡ d *ℤ r → (a *ℤ c) *ℤ (q *ℤ s) ≡ (b *ℤ d) *ℤ (p *ℤ r)
times_cong_z a b c d p q r s e f =
    ring (a ∷ c ∷ q ∷ s ∷ []) ((at 0 ⊗ at 1) ⊗ (at 2 ⊗ at 3)) ((at 0 ⊗ at 2) ⊗ (at 1 ⊗ at 3)) refl
    ∙ (λ i. e i *ℤ f i)
    ∙ ring (b ∷ d ∷ p ∷ r ∷ []) ((at 0 ⊗ at 2) ⊗ (at 1 ⊗ at 3)) ((at 0 ⊗ at 1) ⊗ (at 2 ⊗ at 3)) refl

pub times_cong : {a b c d : Fraction} → a ≈ b → c ≈ d → times a c ≈ times b d
unfolding times
times_cong {a} {b} {c} {d} e f =
    by_dens (times a c) (times b d) (den a *ℤ den c) (den b *ℤ den d) (den_product a.below c.below)
    (den_product b.below d.below)
    (times_cong_z a.num b.num c.num d.num (den a) (den b) (den c) (den d) e.cross f.cross)

-- ---- laws in three variables, by the ring of whole numbers
abbrev pub of_three : Fraction → Fraction → Fraction → Poly → Fraction
of_three a b c (at zero) = a
of_three a b c (at (suc zero)) = b
of_three a b c (at (suc (suc i))) = c
of_three a b c (lit n) = whole n
of_three a b c (p ⊕ q) = plus (of_three a b c p) (of_three a b c q)
of_three a b c (p ⊖ q) = plus (of_three a b c p) (opposite (of_three a b c q))
of_three a b c (p ⊗ q) = times (of_three a b c p) (of_three a b c q)
of_three a b c (minus p) = opposite (of_three a b c p)

abbrev bottom : Poly → Poly
bottom (at zero) = at 1
bottom (at (suc zero)) = at 3
bottom (at (suc (suc i))) = at 5
bottom (lit n) = lit (pos 1)
bottom (p ⊕ q) = bottom p ⊗ bottom q
bottom (p ⊖ q) = bottom p ⊗ bottom q
bottom (p ⊗ q) = bottom p ⊗ bottom q
bottom (minus p) = bottom p

abbrev top : Poly → Poly
top (at zero) = at 0
top (at (suc zero)) = at 2
top (at (suc (suc i))) = at 4
top (lit n) = lit n
top (p ⊕ q) = top p ⊗ bottom q ⊕ top q ⊗ bottom p
top (p ⊖ q) = top p ⊗ bottom q ⊕ minus (top q) ⊗ bottom p
top (p ⊗ q) = top p ⊗ top q
top (minus p) = minus (top p)

abbrev flat : Fraction → Fraction → Fraction → List ℤ
flat a b c = a.num ∷ den a ∷ b.num ∷ den b ∷ c.num ∷ den c ∷ []

bottom_is : (a b c : Fraction) (p : Poly) → den (of_three a b c p) ≡ value (flat a b c) (bottom p)
unfolding plus times opposite
bottom_is a b c (at zero) = refl
bottom_is a b c (at (suc zero)) = refl
bottom_is a b c (at (suc (suc i))) = refl
bottom_is a b c (lit n) = refl
bottom_is a b c (p ⊕ q) = den_product (of_three a b c p).below (of_three a b c q).below
    ∙ (λ i. bottom_is a b c p i *ℤ bottom_is a b c q i)
bottom_is a b c (p ⊖ q) = den_product (of_three a b c p).below (of_three a b c q).below
    ∙ (λ i. bottom_is a b c p i *ℤ bottom_is a b c q i)
bottom_is a b c (p ⊗ q) = den_product (of_three a b c p).below (of_three a b c q).below
    ∙ (λ i. bottom_is a b c p i *ℤ bottom_is a b c q i)
bottom_is a b c (minus p) = bottom_is a b c p

top_is : (a b c : Fraction) (p : Poly) → (of_three a b c p).num ≡ value (flat a b c) (top p)
unfolding plus times opposite
top_is a b c (at zero) = refl
top_is a b c (at (suc zero)) = refl
top_is a b c (at (suc (suc i))) = refl
top_is a b c (lit n) = refl
top_is a b c (p ⊕ q) = λ i. top_is a b c p i *ℤ bottom_is a b c q i +ℤ top_is a b c q i *ℤ bottom_is a b c p i
top_is a b c (p ⊖ q) = λ i. top_is a b c p i *ℤ bottom_is a b c q i +ℤ neg_ℤ (top_is a b c q i) *ℤ bottom_is a b c p i
top_is a b c (p ⊗ q) = λ i. top_is a b c p i *ℤ top_is a b c q i
top_is a b c (minus p) = ap neg_ℤ (top_is a b c p)

pub law : (a b c : Fraction) (p q : Poly) → normal (top p ⊗ bottom q) ≡ normal (top q ⊗ bottom p)
    → of_three a b c p ≈ of_three a b c q
law a b c p q e = record {
  cross = (λ i. top_is a b c p i *ℤ bottom_is a b c q i) ∙ ring (flat a b c) (top p ⊗ bottom q) (top q ⊗ bottom p) e ∙
      (λ i. sym (top_is a b c q) i *ℤ sym (bottom_is a b c p) i);
}

pub plus_assoc : (a b c : Fraction) → plus (plus a b) c ≈ plus a (plus b c)
plus_assoc a b c = law a b c (at 0 ⊕ at 1 ⊕ at 2) (at 0 ⊕ (at 1 ⊕ at 2)) refl

pub plus_left_comm : (a b c : Fraction) → plus a (plus b c) ≈ plus b (plus a c)
plus_left_comm a b c = law a b c (at 0 ⊕ (at 1 ⊕ at 2)) (at 1 ⊕ (at 0 ⊕ at 2)) refl

pub zero_plus : (a : Fraction) → plus (whole (pos 0)) a ≈ a
zero_plus a = law a a a (lit (pos 0) ⊕ at 0) (at 0) refl

pub plus_zero : (a : Fraction) → plus a (whole (pos 0)) ≈ a
plus_zero a = law a a a (at 0 ⊕ lit (pos 0)) (at 0) refl

pub times_assoc : (a b c : Fraction) → times (times a b) c ≈ times a (times b c)
times_assoc a b c = law a b c (at 0 ⊗ at 1 ⊗ at 2) (at 0 ⊗ (at 1 ⊗ at 2)) refl

pub times_left_comm : (a b c : Fraction) → times a (times b c) ≈ times b (times a c)
times_left_comm a b c = law a b c (at 0 ⊗ (at 1 ⊗ at 2)) (at 1 ⊗ (at 0 ⊗ at 2)) refl

pub one_times : (a : Fraction) → times (whole (pos 1)) a ≈ a
one_times a = law a a a (lit (pos 1) ⊗ at 0) (at 0) refl

pub times_one : (a : Fraction) → times a (whole (pos 1)) ≈ a
times_one a = law a a a (at 0 ⊗ lit (pos 1)) (at 0) refl

pub zero_times : (a : Fraction) → times (whole (pos 0)) a ≈ whole (pos 0)
zero_times a = law a a a (lit (pos 0) ⊗ at 0) (lit (pos 0)) refl

pub times_to_zero : (a : Fraction) → times a (whole (pos 0)) ≈ whole (pos 0)
times_to_zero a = law a a a (at 0 ⊗ lit (pos 0)) (lit (pos 0)) refl

pub times_plus : (a b c : Fraction) → times a (plus b c) ≈ plus (times a b) (times a c)
times_plus a b c = law a b c (at 0 ⊗ (at 1 ⊕ at 2)) (at 0 ⊗ at 1 ⊕ at 0 ⊗ at 2) refl

pub plus_times : (a b c : Fraction) → times (plus a b) c ≈ plus (times a c) (times b c)
plus_times a b c = law a b c ((at 0 ⊕ at 1) ⊗ at 2) (at 0 ⊗ at 2 ⊕ at 1 ⊗ at 2) refl

pub opposite-as_times : (a : Fraction) → times (whole (negsuc 0)) a ≈ opposite a
opposite-as_times a = law a a a (lit (negsuc 0) ⊗ at 0) (minus (at 0)) refl

pub whole-plus : (c d : ℤ) → whole (c +ℤ d) ≈ plus (whole c) (whole d)
unfolding plus
whole-plus c d = record { cross = omega (arith, ints) }

pub whole-times : (c d : ℤ) → whole (c *ℤ d) ≈ times (whole c) (whole d)
unfolding times
whole-times c d = record { cross = refl }
