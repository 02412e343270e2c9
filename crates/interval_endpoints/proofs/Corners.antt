-- Products and quotients of numbers within ranges lie between those of the ranges' endpoints. A product moves one way
-- with each factor, so that what bounds it at both endpoints of a factor bounds it in between: twice for two factors.
-- First of whole numbers, then of ranges in parts of s units, where rounding to a part moves the corners outwards. Each
-- step is a certificate (`le_by`) over the inequalities that are known.
use Rattle.std.proofs.Common.{◌≡◌, ℕ, suc, ◌-◌, ◌^◌, refl, arith, Bool, true, false, cond, int_le, neg_ℤ, ℤ, pos, ◌+ℤ◌}
use Rattle.std.proofs.Common.{◌*ℤ◌, ◌-ℤ◌, ◌≤ℤ◌, ◌<ℤ◌, [], ◌∷◌}
use Rattle.std.proofs.lemmas.Int.{ints, clamps, by_lt_z}
use Rattle.book_model.specs.Fraction.{floor_quotient}
use Rattle.book_model.proofs.Ring.{at, lit, ◌⊕◌, ◌⊖◌, ◌⊗◌}
use Rattle.book_model.proofs.Bounds.{◌≼◌, known, ◌⊞◌, ◌⊠◌, times as naturally, square, le_by, refute}
use Rattle.book_model.specs.numbers.Bounds.{least_corner, greatest_corner, floor_of_product, ceil_of_product}
use Rattle.book_model.specs.numbers.Bounds.{least_square, greatest_square, ceil_quotient, least_quotient}
use Rattle.book_model.specs.numbers.Bounds.{greatest_quotient}
use Rattle.int_division.specs.Rounding.{IsBelowFour, IsAboveFour}
use Rattle.int_division.proofs.Quotients.{floor_quotient_floor}

-- ---- a product moves one way with each factor
rising : (p i j : ℤ) → pos 0 ≤ℤ p → i ≤ℤ j → (p *ℤ i) ≤ℤ (p *ℤ j)
rising p i j h k = le_by (p ∷ i ∷ j ∷ []) ((lit (pos 0) ≼ at 0) ∷ (at 1 ≼ at 2) ∷ []) (at 0 ⊗ at 1) (at 0 ⊗ at 2)
    (known 0 ⊠ known 1) refl (h, (k, tt))

falling : (p i j : ℤ) → p ≤ℤ pos 0 → i ≤ℤ j → (p *ℤ j) ≤ℤ (p *ℤ i)
falling p i j h k = le_by (p ∷ i ∷ j ∷ []) ((at 0 ≼ lit (pos 0)) ∷ (at 1 ≼ at 2) ∷ []) (at 0 ⊗ at 2) (at 0 ⊗ at 1)
    (known 0 ⊠ known 1) refl (h, (k, tt))

pub rising_first : (p q i : ℤ) → pos 0 ≤ℤ i → p ≤ℤ q → (p *ℤ i) ≤ℤ (q *ℤ i)
rising_first p q i h k = le_by (p ∷ q ∷ i ∷ []) ((lit (pos 0) ≼ at 2) ∷ (at 0 ≼ at 1) ∷ []) (at 0 ⊗ at 2) (at 1 ⊗ at 2)
    (known 0 ⊠ known 1) refl (h, (k, tt))

falling_first : (p q i : ℤ) → i ≤ℤ pos 0 → p ≤ℤ q → (q *ℤ i) ≤ℤ (p *ℤ i)
falling_first p q i h k = le_by (p ∷ q ∷ i ∷ []) ((at 2 ≼ lit (pos 0)) ∷ (at 0 ≼ at 1) ∷ []) (at 1 ⊗ at 2) (at 0 ⊗ at 2)
    (known 0 ⊠ known 1) refl (h, (k, tt))

under_both : (a b p j z : ℤ) → a ≤ℤ p → p ≤ℤ b → z ≤ℤ (a *ℤ j) → z ≤ℤ (b *ℤ j) → z ≤ℤ (p *ℤ j)
under_both a b p j z h k l m =
    by_lt_z j (pos 0) (λ n. let f = falling_first p b j (omega (arith, ints, n)) k in omega (arith, ints, f, m))
    (λ n. let f = rising_first a p j n h in omega (arith, ints, f, l))

over_both : (a b p j z : ℤ) → a ≤ℤ p → p ≤ℤ b → (a *ℤ j) ≤ℤ z → (b *ℤ j) ≤ℤ z → (p *ℤ j) ≤ℤ z
over_both a b p j z h k l m =
    by_lt_z j (pos 0) (λ n. let f = falling_first a p j (omega (arith, ints, n)) h in omega (arith, ints, f, l))
    (λ n. let f = rising_first p b j n k in omega (arith, ints, f, m))

-- what is at most each product of endpoints is at most each product
under_product : (a b c d p i z : ℤ) → a ≤ℤ p → p ≤ℤ b → c ≤ℤ i → i ≤ℤ d → IsBelowFour z (a *ℤ c) (a *ℤ d) (b *ℤ c)
    (b *ℤ d) → z ≤ℤ (p *ℤ i)
under_product a b c d p i z h k l m f =
    let r = under_both a b p c z h k f.first f.third in
    let s = under_both a b p d z h k f.second f.fourth in
    by_lt_z p (pos 0) (λ n. let t = falling p i d (omega (arith, ints, n)) m in omega (arith, ints, s, t))
    (λ n. let t = rising p c i n l in omega (arith, ints, r, t))

over_product : (a b c d p i z : ℤ) → a ≤ℤ p → p ≤ℤ b → c ≤ℤ i → i ≤ℤ d → IsAboveFour z (a *ℤ c) (a *ℤ d) (b *ℤ c)
    (b *ℤ d) → (p *ℤ i) ≤ℤ z
over_product a b c d p i z h k l m f =
    let r = over_both a b p c z h k f.first f.third in
    let s = over_both a b p d z h k f.second f.fourth in
    by_lt_z p (pos 0) (λ n. let t = falling p c i (omega (arith, ints, n)) l in omega (arith, ints, r, t))
    (λ n. let t = rising p i d n m in omega (arith, ints, s, t))

-- ---- the same of ranges in parts, each of s units
scaled_under : (s z a c : ℤ) → pos 0 ≤ℤ s → z ≤ℤ (a *ℤ c) → ((z *ℤ s) *ℤ s) ≤ℤ ((a *ℤ s) *ℤ (c *ℤ s))
scaled_under s z a c h k = le_by (s ∷ z ∷ a ∷ c ∷ []) ((lit (pos 0) ≼ at 0) ∷ (at 1 ≼ at 2 ⊗ at 3) ∷ [])
    ((at 1 ⊗ at 0) ⊗ at 0) ((at 2 ⊗ at 0) ⊗ (at 3 ⊗ at 0))
    (known 0 ⊠ known 0 ⊠ known 1) refl (h, (k, tt))

scaled_over : (s z a c : ℤ) → pos 0 ≤ℤ s → (a *ℤ c) ≤ℤ z → ((a *ℤ s) *ℤ (c *ℤ s)) ≤ℤ ((z *ℤ s) *ℤ s)
scaled_over s z a c h k = le_by (s ∷ z ∷ a ∷ c ∷ []) ((lit (pos 0) ≼ at 0) ∷ (at 2 ⊗ at 3 ≼ at 1) ∷ [])
    ((at 2 ⊗ at 0) ⊗ (at 3 ⊗ at 0)) ((at 1 ⊗ at 0) ⊗ at 0)
    (known 0 ⊠ known 0 ⊠ known 1) refl (h, (k, tt))

-- p lies from a to b parts of s units
pub record LiesIn (s a b p : ℤ) : Type 0 where
  pub from : (a *ℤ s) ≤ℤ p
  pub to : p ≤ℤ (b *ℤ s)

least_below : (a b c d : ℤ) → IsBelowFour (floor_of_product (least_corner a b c d) *ℤ pos (2 ^ 32)) (a *ℤ c) (a *ℤ d)
    (b *ℤ c) (b *ℤ d)
least_below a b c d =
    let f = (floor_quotient_floor (least_corner a b c d) (2 ^ 32 - 1)).not_above in
    record {
      first = omega (arith, ints, clamps, f);
      second = omega (arith, ints, clamps, f);
      third = omega (arith, ints, clamps, f);
      fourth = omega (arith, ints, clamps, f);
    }

greatest_above : (a b c d : ℤ) → IsAboveFour (ceil_of_product (greatest_corner a b c d) *ℤ pos (2 ^ 32)) (a *ℤ c)
    (a *ℤ d) (b *ℤ c) (b *ℤ d)
greatest_above a b c d =
    let f = (floor_quotient_floor (neg_ℤ (greatest_corner a b c d)) (2 ^ 32 - 1)).not_above in
    record {
      first = omega (arith, ints, clamps, f);
      second = omega (arith, ints, clamps, f);
      third = omega (arith, ints, clamps, f);
      fourth = omega (arith, ints, clamps, f);
    }

-- a product of what lies in two ranges lies above the least of their corners, and below the greatest
pub corner_below : (s a b c d p i : ℤ) → pos 0 ≤ℤ s → LiesIn s a b p → LiesIn s c d i
    → (((floor_of_product (least_corner a b c d) *ℤ pos (2 ^ 32)) *ℤ s) *ℤ s)
    ≤ℤ (p *ℤ i)
corner_below s a b c d p i n h k =
    let z = floor_of_product (least_corner a b c d) *ℤ pos (2 ^ 32) in
    let f = least_below a b c d in
    under_product (a *ℤ s) (b *ℤ s) (c *ℤ s) (d *ℤ s) p i ((z *ℤ s) *ℤ s) h.from h.to k.from k.to
    (record {
      first = scaled_under s z a c n f.first;
      second = scaled_under s z a d n f.second;
      third = scaled_under s z b c n f.third;
      fourth = scaled_under s z b d n f.fourth;
    })

pub corner_above : (s a b c d p i : ℤ) → pos 0 ≤ℤ s → LiesIn s a b p → LiesIn s c d i → (p *ℤ i)
    ≤ℤ (((ceil_of_product (greatest_corner a b c d) *ℤ pos (2 ^ 32)) *ℤ s) *ℤ s)
corner_above s a b c d p i n h k =
    let z = ceil_of_product (greatest_corner a b c d) *ℤ pos (2 ^ 32) in
    let f = greatest_above a b c d in
    over_product (a *ℤ s) (b *ℤ s) (c *ℤ s) (d *ℤ s) p i ((z *ℤ s) *ℤ s) h.from h.to k.from k.to
    (record {
      first = scaled_over s z a c n f.first;
      second = scaled_over s z a d n f.second;
      third = scaled_over s z b c n f.third;
      fourth = scaled_over s z b d n f.fourth;
    })

-- ---- squares
under_square : (s a b p z : ℤ) (t u : Bool) → t ≡ int_le (pos 0) a → u ≡ int_le b (pos 0) → pos 0 ≤ℤ s → LiesIn s a b p
    → z
    ≤ℤ cond t (a *ℤ a) (cond u (b *ℤ b) (pos 0)) → ((z *ℤ s) *ℤ s) ≤ℤ (p *ℤ p)
under_square s a b p z true u e f n h k =
    le_by (s ∷ a ∷ p ∷ z ∷ []) ((at 3 ≼ at 1 ⊗ at 1) ∷ (lit (pos 0) ≼ at 0) ∷ (at 1 ⊗ at 0 ≼ at 2)
    ∷ (lit (pos 0) ≼ at 1) ∷ []) ((at 3 ⊗ at 0) ⊗ at 0)
    (at 2 ⊗ at 2)
    (known 2 ⊠ (known 2 ⊞ naturally 2 ⊠ known 3 ⊠ known 1) ⊞ known 1 ⊠ known 1 ⊠ known 0) refl
    (k, (n, (h.from, (omega (arith, ints, e), tt))))
under_square s a b p z false true e f n h k =
    le_by (s ∷ b ∷ p ∷ z ∷ []) ((at 3 ≼ at 1 ⊗ at 1) ∷ (lit (pos 0) ≼ at 0) ∷ (at 2 ≼ at 1 ⊗ at 0)
    ∷ (at 1 ≼ lit (pos 0)) ∷ []) ((at 3 ⊗ at 0) ⊗ at 0)
    (at 2 ⊗ at 2)
    (known 2 ⊠ (known 2 ⊞ naturally 2 ⊠ known 3 ⊠ known 1) ⊞ known 1 ⊠ known 1 ⊠ known 0) refl
    (k, (n, (h.to, (omega (arith, ints, f), tt))))
under_square s a b p z false false e f n h k =
    le_by (s ∷ p ∷ z ∷ []) ((at 2 ≼ lit (pos 0)) ∷ (lit (pos 0) ≼ at 0) ∷ []) ((at 2 ⊗ at 0) ⊗ at 0) (at 1 ⊗ at 1)
    (square (at 1) ⊞ known 0 ⊠ known 1 ⊠ known 1)
    refl (k, (n, tt))

over_square : (s a b p z : ℤ) → pos 0 ≤ℤ s → LiesIn s a b p → (a *ℤ a) ≤ℤ z → (b *ℤ b) ≤ℤ z
    → (p *ℤ p) ≤ℤ ((z *ℤ s) *ℤ s)
over_square s a b p z n h k l =
    by_lt_z p (pos 0)
    (λ m. le_by (s ∷ a ∷ p ∷ z ∷ []) ((at 1 ⊗ at 1 ≼ at 3) ∷ (lit (pos 0) ≼ at 0) ∷ (at 1 ⊗ at 0 ≼ at 2)
    ∷ (at 2 ≼ lit (pos 0)) ∷ []) (at 2 ⊗ at 2)
    ((at 3 ⊗ at 0) ⊗ at 0)
    (known 2 ⊠ (known 2 ⊞ naturally 2 ⊠ known 3) ⊞ known 1 ⊠ known 1 ⊠ known 0) refl
    (k, (n, (h.from, (omega (arith, ints, m), tt)))))
    (λ m. le_by (s ∷ b ∷ p ∷ z ∷ []) ((at 1 ⊗ at 1 ≼ at 3) ∷ (lit (pos 0) ≼ at 0) ∷ (at 2 ≼ at 1 ⊗ at 0)
    ∷ (lit (pos 0) ≼ at 2) ∷ []) (at 2 ⊗ at 2)
    ((at 3 ⊗ at 0) ⊗ at 0)
    (known 2 ⊠ (known 2 ⊞ naturally 2 ⊠ known 3) ⊞ known 1 ⊠ known 1 ⊠ known 0) refl (l, (n, (h.to, (m, tt)))))

-- a square of what lies in a range lies above the least of the range's squares, and below the greatest
pub square_below : (s a b p : ℤ) → pos 0 ≤ℤ s → LiesIn s a b p
    → (((floor_of_product (least_square a b) *ℤ pos (2 ^ 32)) *ℤ s) *ℤ s) ≤ℤ (p *ℤ p)
square_below s a b p n h = under_square s a b p _ (int_le (pos 0) a) (int_le b (pos 0)) refl refl n h
    (floor_quotient_floor (least_square a b) (2 ^ 32 - 1)).not_above

pub square_above : (s a b p : ℤ) → pos 0 ≤ℤ s → LiesIn s a b p
    → (p *ℤ p) ≤ℤ (((ceil_of_product (greatest_square a b) *ℤ pos (2 ^ 32)) *ℤ s) *ℤ s)
square_above s a b p n h =
    let f = (floor_quotient_floor (neg_ℤ (greatest_square a b)) (2 ^ 32 - 1)).not_above in
    over_square s a b p (ceil_of_product (greatest_square a b) *ℤ pos (2 ^ 32)) n h (omega (arith, ints, clamps, f))
    (omega (arith, ints, clamps, f))

-- ---- quotients by numbers from g to d parts, which are above 0
under_ratio : (s l a g d e x : ℤ) → pos 0 ≤ℤ s → (l *ℤ g) ≤ℤ (a *ℤ pos (2 ^ 32)) → (l *ℤ d) ≤ℤ (a *ℤ pos (2 ^ 32))
    → LiesIn s g d e → (a *ℤ s) ≤ℤ x
    → ((l *ℤ s) *ℤ e) ≤ℤ (x *ℤ (s *ℤ pos (2 ^ 32)))
under_ratio s l a g d e x n h k f o =
    by_lt_z l (pos 0)
    (λ m. le_by (s ∷ l ∷ a ∷ g ∷ e ∷ x ∷ []) ((lit (pos 0) ≼ at 0) ∷ (at 1 ≼ lit (pos 0))
    ∷ (at 1 ⊗ at 3 ≼ at 2 ⊗ lit (pos (2 ^ 32))) ∷ (at 3 ⊗ at 0 ≼ at 4) ∷
    (at 2 ⊗ at 0 ≼ at 5) ∷ [])
    ((at 1 ⊗ at 0) ⊗ at 4) (at 5 ⊗ (at 0 ⊗ lit (pos (2 ^ 32))))
    (naturally (2 ^ 32) ⊠ known 0 ⊠ known 4 ⊞ known 0 ⊠ known 0 ⊠ known 2 ⊞ known 0 ⊠ known 1 ⊠ known 3) refl
    (n, (omega (arith, ints, m), (h, (f.from, (o, tt))))))
    (λ m. le_by (s ∷ l ∷ a ∷ d ∷ e ∷ x ∷ []) ((lit (pos 0) ≼ at 0) ∷ (lit (pos 0) ≼ at 1)
    ∷ (at 1 ⊗ at 3 ≼ at 2 ⊗ lit (pos (2 ^ 32))) ∷ (at 4 ≼ at 3 ⊗ at 0) ∷
    (at 2 ⊗ at 0 ≼ at 5) ∷ [])
    ((at 1 ⊗ at 0) ⊗ at 4) (at 5 ⊗ (at 0 ⊗ lit (pos (2 ^ 32))))
    (naturally (2 ^ 32) ⊠ known 0 ⊠ known 4 ⊞ known 0 ⊠ known 0 ⊠ known 2 ⊞ known 0 ⊠ known 1 ⊠ known 3) refl
    (n, (m, (k, (f.to, (o, tt))))))

over_ratio : (s h b g d e y : ℤ) → pos 0 ≤ℤ s → (b *ℤ pos (2 ^ 32)) ≤ℤ (h *ℤ g) → (b *ℤ pos (2 ^ 32)) ≤ℤ (h *ℤ d)
    → LiesIn s g d e → y ≤ℤ (b *ℤ s)
    → (y *ℤ (s *ℤ pos (2 ^ 32))) ≤ℤ ((h *ℤ s) *ℤ e)
over_ratio s l a g d e x n h k f o =
    by_lt_z l (pos 0)
    (λ m. le_by (s ∷ l ∷ a ∷ d ∷ e ∷ x ∷ []) ((lit (pos 0) ≼ at 0) ∷ (at 1 ≼ lit (pos 0))
    ∷ (at 2 ⊗ lit (pos (2 ^ 32)) ≼ at 1 ⊗ at 3) ∷ (at 4 ≼ at 3 ⊗ at 0) ∷
    (at 5 ≼ at 2 ⊗ at 0) ∷ [])
    (at 5 ⊗ (at 0 ⊗ lit (pos (2 ^ 32)))) ((at 1 ⊗ at 0) ⊗ at 4)
    (naturally (2 ^ 32) ⊠ known 0 ⊠ known 4 ⊞ known 0 ⊠ known 0 ⊠ known 2 ⊞ known 0 ⊠ known 1 ⊠ known 3) refl
    (n, (omega (arith, ints, m), (k, (f.to, (o, tt))))))
    (λ m. le_by (s ∷ l ∷ a ∷ g ∷ e ∷ x ∷ []) ((lit (pos 0) ≼ at 0) ∷ (lit (pos 0) ≼ at 1)
    ∷ (at 2 ⊗ lit (pos (2 ^ 32)) ≼ at 1 ⊗ at 3) ∷ (at 3 ⊗ at 0 ≼ at 4) ∷
    (at 5 ≼ at 2 ⊗ at 0) ∷ [])
    (at 5 ⊗ (at 0 ⊗ lit (pos (2 ^ 32)))) ((at 1 ⊗ at 0) ⊗ at 4)
    (naturally (2 ^ 32) ⊠ known 0 ⊠ known 4 ⊞ known 0 ⊠ known 0 ⊠ known 2 ⊞ known 0 ⊠ known 1 ⊠ known 3) refl
    (n, (m, (h, (f.from, (o, tt))))))

pub least_ratio : (s a : ℤ) (c d : ℕ) (e x : ℤ) → pos 0 ≤ℤ s → LiesIn s (pos (suc c)) (pos (suc d)) e → (a *ℤ s) ≤ℤ x
    → ((least_quotient a c d *ℤ s) *ℤ e)
    ≤ℤ (x *ℤ (s *ℤ pos (2 ^ 32)))
least_ratio s a c d e x n f o =
    let l = least_quotient a c d in
    let i = (floor_quotient_floor (a *ℤ pos (2 ^ 32)) c).not_above in
    let j = (floor_quotient_floor (a *ℤ pos (2 ^ 32)) d).not_above in
    let p = rising_first l (floor_quotient (a *ℤ pos (2 ^ 32)) c) (pos (suc c)) (omega (arith, ints))
    (omega (arith, ints, clamps)) in
    let q = rising_first l (floor_quotient (a *ℤ pos (2 ^ 32)) d) (pos (suc d)) (omega (arith, ints))
    (omega (arith, ints, clamps)) in
    under_ratio s l a (pos (suc c)) (pos (suc d)) e x n (omega (arith, ints, p, i)) (omega (arith, ints, q, j)) f o

flipped : (n q m d : ℤ) → (pos 0 -ℤ q) ≤ℤ m → pos 0 ≤ℤ d → (q *ℤ d) ≤ℤ (pos 0 -ℤ n) → n ≤ℤ (m *ℤ d)
flipped n q m d e k h =
    le_by (n ∷ q ∷ m ∷ d ∷ []) ((lit (pos 0) ⊖ at 1 ≼ at 2) ∷ (lit (pos 0) ≼ at 3) ∷ (at 1 ⊗ at 3 ≼ lit (pos 0) ⊖ at 0)
    ∷ []) (at 0) (at 2 ⊗ at 3)
    (known 0 ⊠ known 1 ⊞ known 2) refl (e, (k, (h, tt)))

ceil_over : (n : ℤ) (d : ℕ) → n ≤ℤ (ceil_quotient n d *ℤ pos (suc d))
ceil_over n d =
    let f = (floor_quotient_floor (neg_ℤ n) d).not_above in
    flipped n (floor_quotient (neg_ℤ n) d) (ceil_quotient n d) (pos (suc d)) (omega (arith, ints)) (omega (arith, ints))
    (omega (arith, ints, f))

pub greatest_ratio : (s b : ℤ) (c d : ℕ) (e y : ℤ) → pos 0 ≤ℤ s → LiesIn s (pos (suc c)) (pos (suc d)) e → y ≤ℤ (b *ℤ s)
    → (y *ℤ (s *ℤ pos (2 ^ 32)))
    ≤ℤ ((greatest_quotient b c d *ℤ s) *ℤ e)
greatest_ratio s b c d e y n f o =
    let h = greatest_quotient b c d in
    let i = ceil_over (b *ℤ pos (2 ^ 32)) c in
    let j = ceil_over (b *ℤ pos (2 ^ 32)) d in
    let p = rising_first (ceil_quotient (b *ℤ pos (2 ^ 32)) c) h (pos (suc c)) (omega (arith, ints))
    (omega (arith, ints, clamps)) in
    let q = rising_first (ceil_quotient (b *ℤ pos (2 ^ 32)) d) h (pos (suc d)) (omega (arith, ints))
    (omega (arith, ints, clamps)) in
    over_ratio s h b (pos (suc c)) (pos (suc d)) e y n (omega (arith, ints, p, i)) (omega (arith, ints, q, j)) f o

-- a quotient rounded down is at least -z, where what is divided is at least -z times the divisor
floor_from : (z k n q : ℤ) → pos 0 ≤ℤ k → (pos 0 -ℤ z *ℤ k) ≤ℤ n → n <ℤ (q *ℤ k +ℤ k) → (pos 0 -ℤ z) ≤ℤ q
floor_from z k n q h l m =
    by_lt_z q (pos 0 -ℤ z)
    (λ o. absurd
    (refute (z ∷ k ∷ n ∷ q ∷ []) ((lit (pos 0) ≼ at 1) ∷ (lit (pos 0) ⊖ at 0 ⊗ at 1 ≼ at 2)
    ∷ (at 2 ⊕ lit (pos 1) ≼ at 3 ⊗ at 1 ⊕ at 1) ∷
    (at 3 ⊕ lit (pos 1) ≼ lit (pos 0) ⊖ at 0) ∷ [])
    (known 1 ⊞ known 2 ⊞ known 0 ⊠ known 3) refl (h, (l, (omega (arith, ints, m), (omega (arith, ints, o), tt))))))
    (λ o. o)

-- the least quotient is at least -z, and the greatest at most z
pub least_quotient_from : (z a : ℤ) (c d : ℕ) → (pos 0 -ℤ z *ℤ pos (suc c)) ≤ℤ (a *ℤ pos (2 ^ 32))
    → (pos 0 -ℤ z *ℤ pos (suc d)) ≤ℤ (a *ℤ pos (2 ^ 32))
    → (pos 0 -ℤ z) ≤ℤ least_quotient a c d
least_quotient_from z a c d h k =
    let p = floor_from z (pos (suc c)) (a *ℤ pos (2 ^ 32)) _ (omega (arith, ints)) h
    (floor_quotient_floor (a *ℤ pos (2 ^ 32)) c).close in
    let q = floor_from z (pos (suc d)) (a *ℤ pos (2 ^ 32)) _ (omega (arith, ints)) k
    (floor_quotient_floor (a *ℤ pos (2 ^ 32)) d).close in
    omega (arith, ints, clamps, p, q)

pub greatest_quotient_to : (z b : ℤ) (c d : ℕ) → (b *ℤ pos (2 ^ 32)) ≤ℤ (z *ℤ pos (suc c))
    → (b *ℤ pos (2 ^ 32)) ≤ℤ (z *ℤ pos (suc d)) → greatest_quotient b c d
    ≤ℤ z
greatest_quotient_to z b c d h k =
    let n = neg_ℤ (b *ℤ pos (2 ^ 32)) in
    let p = floor_from z (pos (suc c)) n _ (omega (arith, ints)) (omega (arith, ints, h))
    (floor_quotient_floor n c).close in
    let q = floor_from z (pos (suc d)) n _ (omega (arith, ints)) (omega (arith, ints, k))
    (floor_quotient_floor n d).close in
    omega (arith, ints, clamps, p, q)
