-- The sine over an octant that two endpoints meet, and over all of these. The part of an octant is cut out by the
-- greater and the lesser of whole numbers, which are the definition's larger and smaller fractions. Quotients by 45
-- degrees number the octants, by the bounds of a floor; and the hull over all of them is the definition's recursion,
-- one octant more at a time.
use Rattle.std.proofs.Common.{◌≡◌, ℕ, zero, suc, ◌≤◌, ◌/◌, ◌∙◌, refl, arith, neg_ℤ, ℤ, pos, ◌+ℤ◌, ◌-ℤ◌, ◌*ℤ◌, ◌≤ℤ◌}
use Rattle.std.proofs.Common.{◌<ℤ◌}
use Rattle.std.specs.Int.{int_div_euclid, int_max, int_min}
use Rattle.std.proofs.lemmas.Int.{ints, clamps, by_lt_z}
use Rattle.book_model.specs.Fraction.{Fraction, ◌≤F◌, ◌≈◌, opposite, times, smaller, larger}
use Rattle.book_model.specs.Interval.{Interval, between, ◌⊆◌, negative, hull as interval_hull}
use Rattle.book_model.proofs.Fractions.{le_trans, smaller_keeps, smaller_first, smaller_second, larger_keeps}
use Rattle.book_model.proofs.Fractions.{larger_first, larger_second}
use Rattle.book_model.proofs.Intervals.{within_trans, hull_within, negative_within}
use Rattle.book_model.proofs.Hulls.{hull_holds_first, hull_holds_second}
use Rattle.book_model.proofs.Same.{same_of_le, le_of_same, ge_of_same}
use Rattle.book_model.proofs.Floors.{IsFloorQuotient, floor_quotient_is}
use Rattle.book_model.specs.programs.Leading.{units_of_56}
use Rattle.book_model.specs.numbers.Octants.{octant_edge, sine_at, sine_in, first_octant, last_octant, sine_of_degrees}
use Rattle.book_model.proofs.DegreeSines.{over_least}
use Rattle.encl_core.specs.parts.TheConstants.{OCTANT}
use Rattle.encl_core.proofs.Quotients.{euclid_is}

-- ---- the part of two endpoints in an octant
pub order_at : (p q : ℤ) → p ≤ℤ q → units_of_56 p ≤F units_of_56 q
order_at p q h = record { cross = omega (arith, ints) }

pub by_max : (p d m : ℤ) (P : ℤ → Type 0) → m ≡ int_max p d → P p → P d → P m
by_max p d m P e x y =
    by_lt_z p d (λ l. let f : m ≡ d = omega (arith, ints, clamps) in rw f y)
    (λ l. let f : m ≡ p = omega (arith, ints, clamps) in rw f x)

pub by_min : (p d m : ℤ) (P : ℤ → Type 0) → m ≡ int_min p d → P p → P d → P m
by_min p d m P e x y =
    by_lt_z p d (λ l. let f : m ≡ p = omega (arith, ints, clamps) in rw f x)
    (λ l. let f : m ≡ d = omega (arith, ints, clamps) in rw f y)

larger_at : (a : Fraction) (p d m : ℤ) → a ≈ units_of_56 p → m ≡ int_max p d → larger a (units_of_56 d) ≈ units_of_56 m
larger_at a p d m s e =
    let first : p ≤ℤ m = omega (arith, ints, clamps) in
    let second : d ≤ℤ m = omega (arith, ints, clamps) in
    same_of_le
    (larger_keeps (λ z. z ≤F units_of_56 m) a (units_of_56 d) (le_trans a (units_of_56 p) (units_of_56 m) (le_of_same s)
    (order_at p m first))
    (order_at d m second))
    (by_max p d m (λ z. units_of_56 z ≤F larger a (units_of_56 d)) e
    (le_trans (units_of_56 p) a _ (ge_of_same s) (larger_first a (units_of_56 d)))
    (larger_second a (units_of_56 d)))

smaller_at : (a : Fraction) (p d m : ℤ) → a ≈ units_of_56 p → m ≡ int_min p d
    → smaller a (units_of_56 d) ≈ units_of_56 m
smaller_at a p d m s e =
    let first : m ≤ℤ p = omega (arith, ints, clamps) in
    let second : m ≤ℤ d = omega (arith, ints, clamps) in
    same_of_le
    (by_min p d m (λ z. smaller a (units_of_56 d) ≤F units_of_56 z) e
    (le_trans _ a (units_of_56 p) (smaller_first a (units_of_56 d)) (le_of_same s))
    (smaller_second a (units_of_56 d)))
    (smaller_keeps (λ z. units_of_56 m ≤F z) a (units_of_56 d)
    (le_trans (units_of_56 m) (units_of_56 p) a (order_at m p first) (ge_of_same s))
    (order_at m d second))

edge_at : (k : ℤ) → octant_edge k ≈ units_of_56 (k *ℤ pos OCTANT)
unfolding times
edge_at k = record { cross = omega (arith, ints) }

next_edge_at : (k : ℤ) → octant_edge (k +ℤ pos 1) ≈ units_of_56 (k *ℤ pos OCTANT +ℤ pos OCTANT)
unfolding times
next_edge_at k = record { cross = omega (arith, ints) }

-- ---- the hull of the sines at its two endpoints
hull_span : (a b c d lo hi : ℤ) → lo ≤ℤ a → lo ≤ℤ c → b ≤ℤ hi → d ≤ℤ hi
    → interval_hull (between (units_of_56 a) (units_of_56 b)) (between (units_of_56 c) (units_of_56 d)) ⊆ between
    (units_of_56 lo) (units_of_56 hi)
unfolding interval_hull
hull_span a b c d lo hi p q r s = record {
  endpoints = (
    smaller_keeps (λ z. units_of_56 lo ≤F z) _ _ (order_at lo a p) (order_at lo c q),
    larger_keeps (λ z. z ≤F units_of_56 hi) _ _ (order_at b hi r) (order_at d hi s),
  );
}

-- the hull of what lies within two spans lies within theirs
pub spans_hull : (i j : Interval) (a b c d lo hi : ℤ) → lo ≡ int_min a c → hi ≡ int_max b d
    → i ⊆ between (units_of_56 a) (units_of_56 b)
    → j ⊆ between (units_of_56 c) (units_of_56 d) → interval_hull i j ⊆ between (units_of_56 lo) (units_of_56 hi)
spans_hull i j a b c d lo hi e f h k =
    within_trans (hull_within h k) (hull_span a b c d lo hi (omega (arith, ints, clamps, e))
    (omega (arith, ints, clamps, e)) (omega (arith, ints, clamps, f))
    (omega (arith, ints, clamps, f)))

opposite_span : (a b : ℤ) → negative (between (units_of_56 a) (units_of_56 b)) ⊆ between (units_of_56 (neg_ℤ b))
    (units_of_56 (neg_ℤ a))
unfolding negative opposite
opposite_span a b =
    record { endpoints = (record { cross = omega (arith, ints) }, record { cross = omega (arith, ints) }) }

-- the opposite of what lies within a span lies within its opposite
pub span_opposite : (i : Interval) (a b lo hi : ℤ) → lo ≡ neg_ℤ b → hi ≡ neg_ℤ a
    → i ⊆ between (units_of_56 a) (units_of_56 b)
    → negative i ⊆ between (units_of_56 lo) (units_of_56 hi)
span_opposite i a b lo hi e f h = rw (e, f) (within_trans (negative_within h) (opposite_span a b))

pub in_holds : (n : ℕ) (k lo hi p q a b c d x y : ℤ) → p ≡ int_max (k *ℤ pos OCTANT) lo
    → q ≡ int_min (k *ℤ pos OCTANT +ℤ pos OCTANT) hi
    → ((z : Fraction) → z ≈ units_of_56 p → sine_at n k z ⊆ between (units_of_56 a) (units_of_56 b))
    → ((z : Fraction) → z ≈ units_of_56 q → sine_at n k z ⊆ between (units_of_56 c) (units_of_56 d))
    → x ≡ int_min a c → y ≡ int_max b d → sine_in n (units_of_56 lo) (units_of_56 hi) k ⊆ between (units_of_56 x)
    (units_of_56 y)
unfolding sine_in
in_holds n k lo hi p q a b c d x y e f low high g h =
    spans_hull _ _ a b c d x y g h
    (low _ (larger_at (octant_edge k) (k *ℤ pos OCTANT) lo p (edge_at k) e))
    (high _ (smaller_at (octant_edge (k +ℤ pos 1)) (k *ℤ pos OCTANT +ℤ pos OCTANT) hi q (next_edge_at k) f))

-- ---- the octants that two endpoints meet
pub division_is : (d q : ℤ) → q ≡ int_div_euclid d (pos OCTANT) → IsFloorQuotient q d 3242591731706757119
division_is d q e = let f = e ∙ euclid_is d OCTANT (omega arith) in rw f (floor_quotient_is d 3242591731706757119)

pub last_is : (d q : ℤ) → q ≡ int_div_euclid d (pos OCTANT) → q ≡ last_octant (units_of_56 d)
unfolding last_octant times
last_is d q e =
    let one : d *ℤ pos 1 ≡ d = omega (arith, ints) in
    rw one (e ∙ euclid_is d OCTANT (omega arith))

pub first_is : (d q : ℤ) → q ≡ int_div_euclid (pos 0 -ℤ d) (pos OCTANT)
    → (pos 0 -ℤ q) -ℤ pos 1 ≡ first_octant (units_of_56 d)
unfolding first_octant opposite
first_is d q e =
    let n : pos 0 -ℤ d ≡ neg_ℤ d = omega (arith, ints) in
    let l = last_is (neg_ℤ d) q (rw n at e) in
    rw (← l) (omega (arith, ints))

-- the octants on either side of degrees
pub first_bounds : (lo : ℤ) → ((first_octant (units_of_56 lo) *ℤ pos OCTANT) <ℤ lo)
    × (lo ≤ℤ (first_octant (units_of_56 lo) *ℤ pos OCTANT +ℤ pos OCTANT))
first_bounds lo =
    let q = int_div_euclid (pos 0 -ℤ lo) (pos OCTANT) in
    let f = division_is (pos 0 -ℤ lo) q refl in
    rw (← first_is lo q refl) (omega (arith, ints, f.close), omega (arith, ints, f.not_above))

pub last_bounds : (hi : ℤ) → ((last_octant (units_of_56 hi) *ℤ pos OCTANT) ≤ℤ hi)
    × (hi <ℤ (last_octant (units_of_56 hi) *ℤ pos OCTANT +ℤ pos OCTANT))
last_bounds hi =
    let q = int_div_euclid hi (pos OCTANT) in
    let f = division_is hi q refl in
    rw (← last_is hi q refl) (omega (arith, ints, f.not_above), omega (arith, ints, f.close))

-- the only octant that endpoints meet which lie inside of it
pub first_alone_is : (k lo : ℤ) → (k *ℤ pos OCTANT) <ℤ lo → lo <ℤ (k *ℤ pos OCTANT +ℤ pos OCTANT)
    → k ≡ first_octant (units_of_56 lo)
first_alone_is k lo l u = let b = first_bounds lo in omega (arith, ints, l, u, b.0, b.1)

pub last_alone_is : (k hi : ℤ) → (k *ℤ pos OCTANT) <ℤ hi → hi <ℤ (k *ℤ pos OCTANT +ℤ pos OCTANT)
    → k ≡ last_octant (units_of_56 hi)
last_alone_is k hi l u = let b = last_bounds hi in omega (arith, ints, l, u, b.0, b.1)

-- endpoints of which one lies on an octant's edge, or beyond, meet several
pub edge_below : (k lo hi : ℤ) → (k *ℤ pos OCTANT) ≤ℤ lo → lo ≤ℤ (k *ℤ pos OCTANT) → lo ≤ℤ hi
    → first_octant (units_of_56 lo) <ℤ last_octant (units_of_56 hi)
edge_below k lo hi l u o = let b = first_bounds lo in let c = last_bounds hi in
    omega (arith, ints, l, u, o, b.0, b.1, c.0, c.1)

pub edge_above : (k lo hi : ℤ) → lo <ℤ (k *ℤ pos OCTANT +ℤ pos OCTANT) → (k *ℤ pos OCTANT +ℤ pos OCTANT) ≤ℤ hi
    → first_octant (units_of_56 lo) <ℤ last_octant (units_of_56 hi)
edge_above k lo hi l u = let b = first_bounds lo in let c = last_bounds hi in
    omega (arith, ints, l, u, b.0, b.1, c.0, c.1)

-- how often 45 goes into a number
pub raised_45 : (n : ℤ) (m : ℕ) (r : ℤ) → pos m ≡ n +ℤ pos 6039797760 → r ≡ pos (m / 45) -ℤ pos 134217728
    → r ≡ int_div_euclid n (pos 45)
raised_45 n m r e f =
    let q = floor_quotient_is n 44 in
    rw (euclid_is n 45 (omega arith)) (omega (arith, ints, e, f, q.not_above, q.close))

-- ---- the hull over them
pub first_alone : (f : ℤ → Interval) (i : Interval) (first : ℤ) → f first ⊆ i → (k : ℤ) → first ≤ℤ k
    → k <ℤ (first +ℤ pos 1) → f k ⊆ i
first_alone f i first h k from to = let e : k ≡ first = omega (arith, ints) in rw e h

pub next_holds : (n : ℕ) (x y : Fraction) (first octant a b c d lo hi : ℤ) → first <ℤ octant
    → ((k : ℤ) → first ≤ℤ k → k <ℤ octant → sine_in n x y k ⊆ between (units_of_56 a) (units_of_56 b))
    → sine_in n x y octant ⊆ between (units_of_56 c) (units_of_56 d)
    → lo ≡ int_min a c → hi ≡ int_max b d
    → (k : ℤ) → first ≤ℤ k → k <ℤ (octant +ℤ pos 1) → sine_in n x y k ⊆ between (units_of_56 lo) (units_of_56 hi)
next_holds n x y first octant a b c d lo hi l f g e m k from to =
    by_lt_z k octant
    (λ u. within_trans (hull_holds_first (sine_in n x y k) (sine_in n x y octant))
    (spans_hull _ _ a b c d lo hi e m (f k from u) g))
    (λ u. let v : k ≡ octant = omega (arith, ints) in
    rw v (within_trans (hull_holds_second (sine_in n x y first) (sine_in n x y octant))
    (spans_hull _ _ a b c d lo hi e m (f first (omega (arith, ints)) l) g)))

pub over_holds : (n : ℕ) (lo hi first last a b : ℤ) → 40 ≤ n → lo ≤ℤ hi → first ≡ first_octant (units_of_56 lo)
    → last ≡ last_octant (units_of_56 hi)
    → ((k : ℤ) → first ≤ℤ k → k ≤ℤ last → sine_in n (units_of_56 lo) (units_of_56 hi) k ⊆ between (units_of_56 a)
    (units_of_56 b))
    → sine_of_degrees n (between (units_of_56 lo) (units_of_56 hi)) ⊆ between (units_of_56 a) (units_of_56 b)
unfolding sine_of_degrees
over_holds zero lo hi first last a b h l e f g = absurd (omega (arith, h))
over_holds (suc n) lo hi first last a b h l e f g =
    over_least (sine_in (suc n) (units_of_56 lo) (units_of_56 hi)) (units_of_56 lo) (units_of_56 hi)
    (between (units_of_56 a) (units_of_56 b))
    (order_at lo hi l) (λ k m. g k (rw e m.from) (rw f m.to))
