-- The order of fractions, and how the operations go with it.
use Rattle.std.proofs.Common.{◌≡◌, ℕ, zero, suc, refl, sym, ap, subst, arith, Bool, true, false, not, cond, ℤ, pos}
use Rattle.std.proofs.Common.{negsuc, ◌+ℤ◌, ◌*ℤ◌, ◌≤ℤ◌, [], ◌∷◌, ◌⊎◌, inl, inr}
use lib.IntN.{neg_ℤ}
use lib.Signed.{le_z}
use Rattle.std.proofs.lemmas.Int.{ints, by_lt_z}
use Rattle.exact_math.proofs.Ring.{at, lit, ◌⊕◌, ◌⊗◌, minus}
use Rattle.exact_math.proofs.Bounds.{◌≼◌, known, ◌⊞◌, ◌⊠◌, times as naturally, le_by, le_over, refute}
use Rattle.exact_math.specs.Fraction.{Fraction, den, ◌≤F◌, ◌<F◌, below_product, plus, opposite, times, is_at_most}
use Rattle.exact_math.specs.Fraction.{smaller, larger, reciprocal, power, is_even}
use Rattle.exact_math.specs.Interval.{zero_fraction}

pub den_product : (m n : ℕ) → pos (suc (below_product m n)) ≡ pos (suc m) *ℤ pos (suc n)
den_product m n = ap pos (omega arith)

pub positive : (n : ℕ) → pos 1 ≤ℤ pos (suc n)
positive n = omega (arith, ints)

pub le_refl : (a : Fraction) → a ≤F a
le_refl a = record { cross = omega (arith, ints) }

-- over integers: the order of a / p, b / q, c / r
trans_z : (a b c p q r : ℤ) → pos 1 ≤ℤ p → pos 1 ≤ℤ q → pos 1 ≤ℤ r → (a *ℤ q) ≤ℤ (b *ℤ p) → (b *ℤ r) ≤ℤ (c *ℤ q)
    → (a *ℤ r) ≤ℤ (c *ℤ p)
trans_z a b c p q r hp hq hr h k =
    let va = at 0 in
    let vb = at 1 in
    let vc = at 2 in
    let vp = at 3 in
    let vq = at 4 in
    let vr = at 5 in
    let one = lit (pos 1) in
    le_over (a ∷ b ∷ c ∷ p ∷ q ∷ r ∷ []) ((one ≼ vp) ∷ (one ≼ vq) ∷ (one ≼ vr) ∷ (va ⊗ vq ≼ vb ⊗ vp)
    ∷ (vb ⊗ vr ≼ vc ⊗ vq) ∷ []) vq (va ⊗ vr) (vc ⊗ vp)
    (known 3 ⊠ (known 2 ⊞ naturally 1) ⊞ known 4 ⊠ (known 0 ⊞ naturally 1)) refl hq (hp, (hq, (hr, (h, (k, tt)))))

pub le_trans : (a b c : Fraction) → a ≤F b → b ≤F c → a ≤F c
le_trans a b c h k = record {
  cross = trans_z a.num b.num c.num (den a) (den b) (den c) (positive a.below) (positive b.below) (positive c.below)
      h.cross k.cross;
}

-- a strict step makes the whole strict
strict_z : (a b c p q r : ℤ) → pos 1 ≤ℤ p → pos 1 ≤ℤ q → pos 1 ≤ℤ r → (a *ℤ q +ℤ pos 1) ≤ℤ (b *ℤ p)
    → (b *ℤ r) ≤ℤ (c *ℤ q) → (c *ℤ p) ≤ℤ (a *ℤ r) → ⊥
strict_z a b c p q r hp hq hr h k l =
    let one = lit (pos 1) in
    refute (a ∷ b ∷ c ∷ p ∷ q ∷ r ∷ []) ((one ≼ at 3) ∷ (one ≼ at 4) ∷ (one ≼ at 5) ∷ (at 0 ⊗ at 4 ⊕ one ≼ at 1 ⊗ at 3)
    ∷ (at 1 ⊗ at 5 ≼ at 2 ⊗ at 4) ∷
    (at 2 ⊗ at 3 ≼ at 0 ⊗ at 5) ∷ [])
    (known 4 ⊠ (known 0 ⊞ naturally 1) ⊞ known 3 ⊠ (known 2 ⊞ naturally 1) ⊞ known 5 ⊠ (known 1 ⊞ naturally 1) ⊞
    known 2) refl
    (hp, (hq, (hr, (h, (k, (l, tt))))))

strict_second_z : (a b c p q r : ℤ) → pos 1 ≤ℤ p → pos 1 ≤ℤ q → pos 1 ≤ℤ r → (a *ℤ q) ≤ℤ (b *ℤ p)
    → (b *ℤ r +ℤ pos 1) ≤ℤ (c *ℤ q) → (c *ℤ p) ≤ℤ (a *ℤ r) → ⊥
strict_second_z a b c p q r hp hq hr h k l =
    let one = lit (pos 1) in
    refute (a ∷ b ∷ c ∷ p ∷ q ∷ r ∷ []) ((one ≼ at 3) ∷ (one ≼ at 4) ∷ (one ≼ at 5) ∷ (at 0 ⊗ at 4 ≼ at 1 ⊗ at 3)
    ∷ (at 1 ⊗ at 5 ⊕ one ≼ at 2 ⊗ at 4) ∷
    (at 2 ⊗ at 3 ≼ at 0 ⊗ at 5) ∷ [])
    (known 4 ⊠ (known 0 ⊞ naturally 1) ⊞ known 3 ⊠ (known 2 ⊞ naturally 1) ⊞ known 5 ⊠ (known 1 ⊞ naturally 1) ⊞
    known 0) refl
    (hp, (hq, (hr, (h, (k, (l, tt))))))

pub lt_le_trans : (a b c : Fraction) → a <F b → b ≤F c → a <F c
lt_le_trans a b c h k = record {
  strict = by_lt_z (a.num *ℤ den c) (c.num *ℤ den a) (λ l. l)
      (λ l. let g : (a.num *ℤ den b +ℤ pos 1) ≤ℤ (b.num *ℤ den a) = omega (arith, ints, h.strict) in absurd
      (strict_z a.num b.num c.num (den a) (den b) (den c) (positive a.below) (positive b.below) (positive c.below) g
      k.cross l));
}

pub le_lt_trans : (a b c : Fraction) → a ≤F b → b <F c → a <F c
le_lt_trans a b c h k = record {
  strict = by_lt_z (a.num *ℤ den c) (c.num *ℤ den a) (λ l. l)
      (λ l. let g : (b.num *ℤ den c +ℤ pos 1) ≤ℤ (c.num *ℤ den b) = omega (arith, ints, k.strict) in absurd
      (strict_second_z a.num b.num c.num (den a) (den b) (den c) (positive a.below) (positive b.below)
      (positive c.below) h.cross g l));
}

pub le_total : (a b : Fraction) → (a ≤F b) ⊎ (b ≤F a)
le_total a b = by_test (le_z (a.num *ℤ den b) (b.num *ℤ den a)) refl
  where
    by_test : (t : Bool) → le_z (a.num *ℤ den b) (b.num *ℤ den a) ≡ t → (a ≤F b) ⊎ (b ≤F a)
    by_test true e = inl (record { cross = omega (arith, ints) })
    by_test false e = inr (record { cross = omega (arith, ints) })

-- to compare by other names of the denominators
pub by_cross : (a b : Fraction) (p q : ℤ) → den a ≡ p → den b ≡ q → (a.num *ℤ q) ≤ℤ (b.num *ℤ p) → a ≤F b
by_cross a b p q e f h = record {
  cross = subst (λ x. (a.num *ℤ x) ≤ℤ (b.num *ℤ den a)) (sym f)
      (subst (λ x. (a.num *ℤ q) ≤ℤ (b.num *ℤ x)) (sym e) h);
}

plus_z : (a b c d p q r s : ℤ) → pos 1 ≤ℤ p → pos 1 ≤ℤ q → pos 1 ≤ℤ r → pos 1 ≤ℤ s → (a *ℤ q) ≤ℤ (b *ℤ p)
    → (c *ℤ s) ≤ℤ (d *ℤ r)
    → ((a *ℤ r +ℤ c *ℤ p) *ℤ (q *ℤ s)) ≤ℤ ((b *ℤ s +ℤ d *ℤ q) *ℤ (p *ℤ r))
plus_z a b c d p q r s hp hq hr hs h k =
    let va = at 0 in
    let vb = at 1 in
    let vc = at 2 in
    let vd = at 3 in
    let vp = at 4 in
    let vq = at 5 in
    let vr = at 6 in
    let vs = at 7 in
    let one = lit (pos 1) in
    let up_one = λ (i : ℕ). known i ⊞ naturally 1 in
    le_by (a ∷ b ∷ c ∷ d ∷ p ∷ q ∷ r ∷ s ∷ []) ((one ≼ vp) ∷ (one ≼ vq) ∷ (one ≼ vr) ∷ (one ≼ vs) ∷ (va ⊗ vq ≼ vb ⊗ vp)
    ∷ (vc ⊗ vs ≼ vd ⊗ vr) ∷ [])
    ((va ⊗ vr ⊕ vc ⊗ vp) ⊗ (vq ⊗ vs)) ((vb ⊗ vs ⊕ vd ⊗ vq) ⊗ (vp ⊗ vr))
    (known 4 ⊠ up_one 2 ⊠ up_one 3 ⊞ known 5 ⊠ up_one 0 ⊠ up_one 1) refl (hp, (hq, (hr, (hs, (h, (k, tt))))))

pub plus_mono : (a b c d : Fraction) → a ≤F b → c ≤F d → plus a c ≤F plus b d
unfolding plus
plus_mono a b c d h k =
    by_cross (plus a c) (plus b d) (den a *ℤ den c) (den b *ℤ den d) (den_product a.below c.below)
    (den_product b.below d.below)
    (plus_z a.num b.num c.num d.num (den a) (den b) (den c) (den d) (positive a.below) (positive b.below)
    (positive c.below) (positive d.below) h.cross k.cross)

opposite_z : (a b p q : ℤ) → (a *ℤ q) ≤ℤ (b *ℤ p) → (neg_ℤ b *ℤ p) ≤ℤ (neg_ℤ a *ℤ q)
opposite_z a b p q h =
    let va = at 0 in
    let vb = at 1 in
    let vp = at 2 in
    let vq = at 3 in
    le_by (a ∷ b ∷ p ∷ q ∷ []) ((va ⊗ vq ≼ vb ⊗ vp) ∷ []) (minus vb ⊗ vp) (minus va ⊗ vq) (known 0) refl (h, tt)

pub opposite_mono : (a b : Fraction) → a ≤F b → opposite b ≤F opposite a
unfolding opposite
opposite_mono a b h = record { cross = opposite_z a.num b.num (den a) (den b) h.cross }

-- a / p ≤ b / q, 0 ≤ y / r
times_z : (a b y p q r : ℤ) → pos 1 ≤ℤ r → pos 0 ≤ℤ y → (a *ℤ q) ≤ℤ (b *ℤ p)
    → ((a *ℤ y) *ℤ (q *ℤ r)) ≤ℤ ((b *ℤ y) *ℤ (p *ℤ r))
times_z a b y p q r hr hy h =
    let va = at 0 in
    let vb = at 1 in
    let vy = at 2 in
    let vp = at 3 in
    let vq = at 4 in
    let vr = at 5 in
    le_by (a ∷ b ∷ y ∷ p ∷ q ∷ r ∷ []) ((lit (pos 1) ≼ vr) ∷ (lit (pos 0) ≼ vy) ∷ (va ⊗ vq ≼ vb ⊗ vp) ∷ [])
    ((va ⊗ vy) ⊗ (vq ⊗ vr)) ((vb ⊗ vy) ⊗ (vp ⊗ vr))
    (known 2 ⊠ known 1 ⊠ (known 0 ⊞ naturally 1)) refl (hr, (hy, (h, tt)))

sign_out : (y : Fraction) → zero_fraction ≤F y → pos 0 ≤ℤ y.num
sign_out y h = omega (arith, ints, h.cross)

sign_below : (y : Fraction) → y ≤F zero_fraction → y.num ≤ℤ pos 0
sign_below y h = omega (arith, ints, h.cross)

pub times_mono : (a b y : Fraction) → zero_fraction ≤F y → a ≤F b → times a y ≤F times b y
unfolding times
times_mono a b y s h =
    by_cross (times a y) (times b y) (den a *ℤ den y) (den b *ℤ den y) (den_product a.below y.below)
    (den_product b.below y.below)
    (times_z a.num b.num y.num (den a) (den b) (den y) (positive y.below) (sign_out y s) h.cross)

times_anti_z : (a b y p q r : ℤ) → pos 1 ≤ℤ r → y ≤ℤ pos 0 → (a *ℤ q) ≤ℤ (b *ℤ p)
    → ((b *ℤ y) *ℤ (p *ℤ r)) ≤ℤ ((a *ℤ y) *ℤ (q *ℤ r))
times_anti_z a b y p q r hr hy h =
    let va = at 0 in
    let vb = at 1 in
    let vy = at 2 in
    let vp = at 3 in
    let vq = at 4 in
    let vr = at 5 in
    le_by (a ∷ b ∷ y ∷ p ∷ q ∷ r ∷ []) ((lit (pos 1) ≼ vr) ∷ (vy ≼ lit (pos 0)) ∷ (va ⊗ vq ≼ vb ⊗ vp) ∷ [])
    ((vb ⊗ vy) ⊗ (vp ⊗ vr)) ((va ⊗ vy) ⊗ (vq ⊗ vr))
    (known 2 ⊠ known 1 ⊠ (known 0 ⊞ naturally 1)) refl (hr, (hy, (h, tt)))

pub times_anti : (a b y : Fraction) → y ≤F zero_fraction → a ≤F b → times b y ≤F times a y
unfolding times
times_anti a b y s h =
    by_cross (times b y) (times a y) (den b *ℤ den y) (den a *ℤ den y) (den_product b.below y.below)
    (den_product a.below y.below)
    (times_anti_z a.num b.num y.num (den a) (den b) (den y) (positive y.below) (sign_below y s) h.cross)

times_comm_z : (a b p q : ℤ) → ((a *ℤ b) *ℤ (q *ℤ p)) ≤ℤ ((b *ℤ a) *ℤ (p *ℤ q))
times_comm_z a b p q = le_by (a ∷ b ∷ p ∷ q ∷ []) [] ((at 0 ⊗ at 1) ⊗ (at 3 ⊗ at 2)) ((at 1 ⊗ at 0) ⊗ (at 2 ⊗ at 3))
    (naturally 0) refl tt

pub times_comm : (a b : Fraction) → times a b ≤F times b a
unfolding times
times_comm a b =
    by_cross (times a b) (times b a) (den a *ℤ den b) (den b *ℤ den a) (den_product a.below b.below)
    (den_product b.below a.below)
    (times_comm_z a.num b.num (den a) (den b))

-- ---- the smaller and the larger
pub record First (a b : Fraction) : Type 0 where
  pub is_smaller : smaller a b ≡ a
  pub is_larger : larger a b ≡ b
  pub in_order : a ≤F b

pub record Second (a b : Fraction) : Type 0 where
  pub is_smaller : smaller a b ≡ b
  pub is_larger : larger a b ≡ a
  pub in_order : b ≤F a

by_test : (a b : Fraction) (t : Bool) → le_z (a.num *ℤ den b) (b.num *ℤ den a) ≡ t → First a b ⊎ Second a b
unfolding smaller larger is_at_most
by_test a b true e = inl (record {
  is_smaller = ap (λ (t : Bool). cond t a b) e;
  is_larger = ap (λ (t : Bool). cond t b a) e;
  in_order = record { cross = omega (arith, ints) };
})
by_test a b false e = inr (record {
  is_smaller = ap (λ (t : Bool). cond t a b) e;
  is_larger = ap (λ (t : Bool). cond t b a) e;
  in_order = record { cross = omega (arith, ints) };
})

pub one_of : (a b : Fraction) → First a b ⊎ Second a b
one_of a b = by_test a b (le_z (a.num *ℤ den b) (b.num *ℤ den a)) refl

-- what holds of both holds of the smaller and of the larger
pub smaller_keeps : (P : Fraction → Type 0) (a b : Fraction) → P a → P b → P (smaller a b)
smaller_keeps P a b h k = elim (one_of a b) [
  | inl w ↦ subst P (sym w.is_smaller) h
  | inr w ↦ subst P (sym w.is_smaller)
      k
]

pub larger_keeps : (P : Fraction → Type 0) (a b : Fraction) → P a → P b → P (larger a b)
larger_keeps P a b h k = elim (one_of a b) [ inl w ↦ subst P (sym w.is_larger) k | inr w ↦ subst P (sym w.is_larger) h ]

pub smaller_first : (a b : Fraction) → smaller a b ≤F a
smaller_first a b = elim (one_of a b) [ inl w ↦ rw w.is_smaller (le_refl a) | inr w ↦ rw w.is_smaller w.in_order ]

pub smaller_second : (a b : Fraction) → smaller a b ≤F b
smaller_second a b = elim (one_of a b) [ inl w ↦ rw w.is_smaller w.in_order | inr w ↦ rw w.is_smaller (le_refl b) ]

pub larger_first : (a b : Fraction) → a ≤F larger a b
larger_first a b = elim (one_of a b) [ inl w ↦ rw w.is_larger w.in_order | inr w ↦ rw w.is_larger (le_refl a) ]

pub larger_second : (a b : Fraction) → b ≤F larger a b
larger_second a b = elim (one_of a b) [ inl w ↦ rw w.is_larger (le_refl b) | inr w ↦ rw w.is_larger w.in_order ]

-- ---- a product lies between those of the endpoints
-- where lo ≤ a ≤ hi and a bound z is at most both products of the endpoints with y, it is at most a's
pub product_above : (z lo a hi y : Fraction) → lo ≤F a → a ≤F hi → z ≤F times lo y → z ≤F times hi y → z ≤F times a y
product_above z lo a hi y h k p q =
    elim (le_total zero_fraction y) [
      | inl s ↦ le_trans z (times lo y) (times a y) p (times_mono lo a y s h)
      | inr s ↦ le_trans z (times hi y) (times a y) q (times_anti a hi y s k)
    ]

pub product_below : (z lo a hi y : Fraction) → lo ≤F a → a ≤F hi → times lo y ≤F z → times hi y ≤F z → times a y ≤F z
product_below z lo a hi y h k p q =
    elim (le_total zero_fraction y) [
      | inl s ↦ le_trans (times a y) (times hi y) z (times_mono a hi y s k) q
      | inr s ↦ le_trans (times a y) (times lo y) z (times_anti lo a y s h) p
    ]

pub turned_above : (z a b : Fraction) → z ≤F times a b → z ≤F times b a
turned_above z a b h = le_trans z (times a b) (times b a) h (times_comm a b)

pub turned_below : (z a b : Fraction) → times a b ≤F z → times b a ≤F z
turned_below z a b h = le_trans (times b a) (times a b) z (times_comm b a) h

-- z is at most the four products of the endpoints, and so at most each product of members
pub four_above : (z a b c d x y : Fraction) → a ≤F x → x ≤F b → c ≤F y → y ≤F d → z ≤F times a c → z ≤F times a d
    → z ≤F times b c → z ≤F times b d
    → z ≤F times x y
four_above z a b c d x y ax xb cy yd ac ad bc bd =
    product_above z a x b y ax xb
    (turned_above z y a (product_above z c y d a cy yd (turned_above z a c ac) (turned_above z a d ad)))
    (turned_above z y b (product_above z c y d b cy yd (turned_above z b c bc) (turned_above z b d bd)))

pub four_below : (z a b c d x y : Fraction) → a ≤F x → x ≤F b → c ≤F y → y ≤F d → times a c ≤F z → times a d ≤F z
    → times b c ≤F z → times b d ≤F z
    → times x y ≤F z
four_below z a b c d x y ax xb cy yd ac ad bc bd =
    product_below z a x b y ax xb
    (turned_below z y a (product_below z c y d a cy yd (turned_below z a c ac) (turned_below z a d ad)))
    (turned_below z y b (product_below z c y d b cy yd (turned_below z b c bc) (turned_below z b d bd)))

-- ---- 1 / a
recip_z : (m n p q : ℤ) → (m *ℤ q) ≤ℤ (n *ℤ p) → (q *ℤ m) ≤ℤ (p *ℤ n)
recip_z m n p q h = le_by (m ∷ n ∷ p ∷ q ∷ []) ((at 0 ⊗ at 3 ≼ at 1 ⊗ at 2) ∷ []) (at 3 ⊗ at 0) (at 2 ⊗ at 1) (known 0)
    refl (h, tt)

recip_negative_z : (m n p q : ℤ) → (neg_ℤ m *ℤ q) ≤ℤ (neg_ℤ n *ℤ p) → (neg_ℤ q *ℤ m) ≤ℤ (neg_ℤ p *ℤ n)
recip_negative_z m n p q h = le_by (m ∷ n ∷ p ∷ q ∷ []) ((minus (at 0) ⊗ at 3 ≼ minus (at 1) ⊗ at 2) ∷ [])
    (minus (at 3) ⊗ at 0) (minus (at 2) ⊗ at 1) (known 0)
    refl (h, tt)

pub record IsPositive (a : Fraction) : Type 0 where
  pub above : pos 1 ≤ℤ a.num

pub record IsNegative (a : Fraction) : Type 0 where
  pub under : a.num ≤ℤ negsuc 0

pub reciprocal_anti_positive : (a b : Fraction) → IsPositive a → IsPositive b → a ≤F b → reciprocal b ≤F reciprocal a
unfolding reciprocal
reciprocal_anti_positive a b h k l = by_parts a.num b.num a.below b.below h.above k.above l.cross
  where
    by_parts : (m n : ℤ) (p q : ℕ) → pos 1 ≤ℤ m → pos 1 ≤ℤ n → (m *ℤ pos (suc q)) ≤ℤ (n *ℤ pos (suc p))
        → reciprocal (record { num = n; below = q }) ≤F reciprocal (record { num = m; below = p })
    by_parts (pos (suc m)) (pos (suc n)) p q h k l = record {
      cross = recip_z (pos (suc m)) (pos (suc n)) (pos (suc p))
          (pos (suc q)) l;
    }
    by_parts (pos zero) n p q h k l = absurd (omega (arith, ints))
    by_parts (negsuc m) n p q h k l = absurd (omega (arith, ints))
    by_parts (pos (suc m)) (pos zero) p q h k l = absurd (omega (arith, ints))
    by_parts (pos (suc m)) (negsuc n) p q h k l = absurd (omega (arith, ints))

pub reciprocal_anti_negative : (a b : Fraction) → IsNegative a → IsNegative b → a ≤F b → reciprocal b ≤F reciprocal a
unfolding reciprocal
reciprocal_anti_negative a b h k l = by_parts a.num b.num a.below b.below h.under k.under l.cross
  where
    by_parts : (m n : ℤ) (p q : ℕ) → m ≤ℤ negsuc 0 → n ≤ℤ negsuc 0 → (m *ℤ pos (suc q)) ≤ℤ (n *ℤ pos (suc p))
        → reciprocal (record { num = n; below = q }) ≤F reciprocal (record { num = m; below = p })
    by_parts (negsuc m) (negsuc n) p q h k l =
        record { cross = recip_negative_z (pos (suc m)) (pos (suc n)) (pos (suc p)) (pos (suc q)) l }
    by_parts (pos m) n p q h k l = absurd (omega (arith, ints))
    by_parts (negsuc m) (pos n) p q h k l = absurd (omega (arith, ints))

positive_z : (m n p q : ℤ) → pos 1 ≤ℤ p → pos 1 ≤ℤ q → pos 1 ≤ℤ m → (m *ℤ q) ≤ℤ (n *ℤ p) → n ≤ℤ pos 0 → ⊥
positive_z m n p q hp hq h l k =
    let one = lit (pos 1) in
    refute (m ∷ n ∷ p ∷ q ∷ []) ((one ≼ at 2) ∷ (one ≼ at 3) ∷ (one ≼ at 0) ∷ (at 0 ⊗ at 3 ≼ at 1 ⊗ at 2)
    ∷ (at 1 ≼ lit (pos 0)) ∷ [])
    (known 3 ⊞ known 4 ⊠ (known 0 ⊞ naturally 1) ⊞ known 2 ⊠ known 1 ⊞ known 2 ⊞ known 1) refl
    (hp, (hq, (h, (l, (k, tt)))))

above_zero : (n : ℤ) → (n ≤ℤ pos 0 → ⊥) → pos 1 ≤ℤ n
above_zero (pos (suc n)) h = omega (arith, ints)
above_zero (pos zero) h = absurd (h (omega (arith, ints)))
above_zero (negsuc n) h = absurd (h (omega (arith, ints)))

pub positive_above : (a b : Fraction) → IsPositive a → a ≤F b → IsPositive b
positive_above a b h l =
    record {
      above = above_zero b.num (positive_z a.num b.num (den a) (den b) (positive a.below) (positive b.below)
          h.above l.cross);
    }

negative_z : (m n p q : ℤ) → pos 1 ≤ℤ p → pos 1 ≤ℤ q → n ≤ℤ negsuc 0 → (m *ℤ q) ≤ℤ (n *ℤ p) → pos 0 ≤ℤ m → ⊥
negative_z m n p q hp hq h l k =
    let one = lit (pos 1) in
    refute (m ∷ n ∷ p ∷ q ∷ []) ((one ≼ at 2) ∷ (one ≼ at 3) ∷ (at 1 ≼ lit (negsuc 0)) ∷ (at 0 ⊗ at 3 ≼ at 1 ⊗ at 2)
    ∷ (lit (pos 0) ≼ at 0) ∷ [])
    (known 3 ⊞ known 4 ⊠ (known 1 ⊞ naturally 1) ⊞ known 2 ⊠ (known 0 ⊞ naturally 1) ⊞ known 0) refl
    (hp, (hq, (h, (l, (k, tt)))))

under_zero : (n : ℤ) → (pos 0 ≤ℤ n → ⊥) → n ≤ℤ negsuc 0
under_zero (pos n) h = absurd (h (omega (arith, ints)))
under_zero (negsuc n) h = omega (arith, ints)

pub negative_below : (a b : Fraction) → IsNegative b → a ≤F b → IsNegative a
negative_below a b h l =
    record {
      under = under_zero a.num (negative_z a.num b.num (den a) (den b) (positive a.below) (positive b.below)
          h.under l.cross);
    }

-- ---- powers
pub times_mono_right : (y a b : Fraction) → zero_fraction ≤F y → a ≤F b → times y a ≤F times y b
times_mono_right y a b s h = le_trans _ _ _ (times_comm y a) (le_trans _ _ _ (times_mono a b y s h) (times_comm b y))

pub times_anti_right : (y a b : Fraction) → y ≤F zero_fraction → a ≤F b → times y b ≤F times y a
times_anti_right y a b s h = le_trans _ _ _ (times_comm y b) (le_trans _ _ _ (times_anti a b y s h) (times_comm a y))

pub times_zero : (a : Fraction) → (times a zero_fraction ≤F zero_fraction) × (zero_fraction ≤F times a zero_fraction)
unfolding times
times_zero a = (record { cross = omega (arith, ints) }, record { cross = omega (arith, ints) })

-- y ≥ 0, a ≥ 0
pub times_nonneg : (y a : Fraction) → zero_fraction ≤F y → zero_fraction ≤F a → zero_fraction ≤F times y a
times_nonneg y a h k = le_trans _ _ _ (times_zero y).1 (times_mono_right y zero_fraction a h k)

pub times_nonpos : (y a : Fraction) → y ≤F zero_fraction → zero_fraction ≤F a → times y a ≤F zero_fraction
times_nonpos y a h k = le_trans _ _ _ (times_anti_right y zero_fraction a h k) (times_zero y).0

pub times_both_nonpos : (y a : Fraction) → y ≤F zero_fraction → a ≤F zero_fraction → zero_fraction ≤F times y a
times_both_nonpos y a h k = le_trans _ _ _ (times_zero y).1 (times_anti_right y a zero_fraction h k)

pub power_nonneg : (k : ℕ) (x : Fraction) → zero_fraction ≤F x → zero_fraction ≤F power x k
unfolding power
power_nonneg zero x h = record { cross = omega (arith, ints) }
power_nonneg (suc k) x h = times_nonneg x (power x k) h (power_nonneg k x h)

pub power_mono : (k : ℕ) (x y : Fraction) → zero_fraction ≤F x → x ≤F y → power x k ≤F power y k
unfolding power
power_mono zero x y h l = le_refl _
power_mono (suc k) x y h l =
    le_trans _ _ _ (times_mono_right x (power x k) (power y k) h (power_mono k x y h l))
    (times_mono x y (power y k) (power_nonneg k y (le_trans _ _ _ h l)) l)

-- x ≤ y ≤ 0
abbrev pub Falling : Bool → Fraction → Fraction → ℕ → Type 0
Falling true x y k = (zero_fraction ≤F power y k) × (power y k ≤F power x k)
Falling false x y k = (power x k ≤F power y k) × (power y k ≤F zero_fraction)

falling_step : (t : Bool) (k : ℕ) (x y : Fraction) → x ≤F y → y ≤F zero_fraction → Falling t x y k
    → Falling (not t) x y (suc k)
unfolding power
falling_step true k x y l h f = (
  le_trans _ _ _ (times_mono x y (power x k) (le_trans _ _ _ f.0 f.1) l)
      (times_anti_right y (power y k) (power x k) h f.1),
  times_nonpos y (power y k) h f.0,
)
falling_step false k x y l h f = (
  times_both_nonpos y (power y k) h f.1,
  le_trans _ _ _ (times_anti x y (power y k) f.1 l) (times_anti_right x (power x k) (power y k) (le_trans _ _ _ l h)
      f.0),
)

pub power_falling : (k : ℕ) (x y : Fraction) → x ≤F y → y ≤F zero_fraction → Falling (is_even k) x y k
unfolding power
power_falling zero x y l h = (record { cross = omega (arith, ints) }, le_refl _)
power_falling (suc k) x y l h = falling_step (is_even k) k x y l h (power_falling k x y l h)

pub power_odd_mono : (k : ℕ) (x y : Fraction) → is_even k ≡ false → x ≤F y → power x k ≤F power y k
power_odd_mono k x y e l =
    elim (le_total zero_fraction x) [
      | inl h ↦ power_mono k x y h l
      | inr h ↦ elim (le_total zero_fraction y) [
        | inl g ↦
            le_trans _ _ _
            (subst (λ t. Falling t x zero_fraction k) e (power_falling k x zero_fraction h (le_refl zero_fraction))).0
            (power_mono k zero_fraction y (le_refl zero_fraction) g)
        | inr g ↦ (subst (λ t. Falling t x y k) e (power_falling k x y l g)).0
      ]
    ]

pub power_even_falling : (k : ℕ) (x y : Fraction) → is_even k ≡ true → x ≤F y → y ≤F zero_fraction
    → (zero_fraction ≤F power y k) × (power y k ≤F power x k)
power_even_falling k x y e l h = subst (λ t. Falling t x y k) e (power_falling k x y l h)

pub at_most_true : (a b : Fraction) → is_at_most a b ≡ true → a ≤F b
unfolding is_at_most
at_most_true a b e = record { cross = omega (arith, ints) }

pub at_most_false : (a b : Fraction) → is_at_most a b ≡ false → b ≤F a
unfolding is_at_most
at_most_false a b e = record { cross = omega (arith, ints) }

-- an even power grows from 0 both ways
pub power_even_least : (k : ℕ) (x : Fraction) → is_even k ≡ true → power zero_fraction k ≤F power x k
power_even_least k x e =
    elim (le_total zero_fraction x) [
      | inl h ↦ power_mono k zero_fraction x (le_refl zero_fraction) h
      | inr h ↦ (power_even_falling k x zero_fraction e h (le_refl zero_fraction)).1
    ]
