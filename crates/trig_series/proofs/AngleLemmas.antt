-- Angles, and the octants of a turn, as the code reads them. Degrees are a whole number over 180 times pi: products of
-- fractions and intervals are regrouped, by what holds for both endpoints, until the code's count stands in them. Which
-- octant of its turn an angle is in, and whether sine or cosine is taken there, goes by cases as the definition does.
use Rattle.std.proofs.Common.{◌≡◌, ℕ, zero, suc, ◌≤◌, refl, ap, arith, unsigned_abs, ℤ, pos, negsuc, ◌-ℤ◌, ◌*ℤ◌, ◌≤ℤ◌}
use Rattle.std.proofs.Common.{◌*◌, ◌-◌, ◌^◌, [], ◌∷◌}
use Rattle.std.proofs.lemmas.Int.{ints}
use Rattle.book_model.specs.Fraction.{Fraction, ◌≈◌, whole, plus, opposite, times, floor_quotient}
use Rattle.book_model.specs.Interval.{Interval, everything, between, IsMember, IsProper, ◌⊆◌, negative, product, least}
use Rattle.book_model.specs.Interval.{greatest}
use Rattle.book_model.proofs.Fractions.{le_refl, le_trans, smaller_keeps, larger_keeps}
use Rattle.book_model.proofs.FractionRing.{same_by}
use Rattle.book_model.proofs.Ring.{at, ◌⊗◌}
use Rattle.book_model.proofs.Intervals.{within_everything, product_holds, least_is, greatest_is}
use Rattle.book_model.proofs.Same.{le_of_same, ge_of_same, same_refl, same_sym, same_trans, plus_cong, times_cong}
use Rattle.book_model.proofs.Same.{opposite_cong}
use Rattle.book_model.specs.Sums.{one_over}
use Rattle.book_model.proofs.Floors.{IsFloorQuotient}
use Rattle.book_model.specs.programs.Leading.{units_of_56}
use Rattle.book_model.specs.numbers.Series.{sine_series, cosine_series, pi_at}
use Rattle.book_model.specs.numbers.Octants.{only, radians, short_of, sine_into, octant_of_turn, sine_at, octant_edge}
use Rattle.book_model.proofs.Pi.{pi_proper}
use Rattle.encl_core.specs.parts.TheConstants.{OCTANT}
use Rattle.book_model.proofs.SeriesNesting.{cosines}

member_same : (i : Interval) (a b : Fraction) → a ≈ b → IsMember a i → IsMember b i
member_same everything a b e m = tt
member_same (between c d) a b e m = (le_trans c a b m.0 (le_of_same e), le_trans b a d (ge_of_same e) m.1)

-- n degrees in units of 2^-56, as a part of 180
abbrev of_half_turn : ℤ → Fraction
of_half_turn n = record { num = n; below = 180 * 2 ^ 56 - 1 }

-- ---- products of three, where two are fractions
-- a fraction times an interval lies in what holds its products with the two endpoints
endpoints_product : (r lo hi : Fraction) (j : Interval) → IsMember (times r lo) j → IsMember (times r hi) j
    → product (only r) (between lo hi) ⊆ j
unfolding product
endpoints_product r lo hi everything m n = within_everything _
endpoints_product r lo hi (between c d) m n =
    record { endpoints = (least_is c _ _ _ _ m.0 n.0 m.0 n.0, greatest_is d _ _ _ _ m.1 n.1 m.1 n.1) }

regrouped : (r c s p : Fraction) → times r c ≈ s → times s p ≈ times r (times p c)
regrouped r c s p e = same_trans (times_cong (same_sym e) (same_refl p))
    (same_by (r ∷ c ∷ p ∷ []) ((at 0 ⊗ at 1) ⊗ at 2) (at 0 ⊗ (at 2 ⊗ at 1)) refl)

-- r (p c) is in s p, where s is r c and p is a member
joined_member : (r c s p : Fraction) (i : Interval) → times r c ≈ s → IsMember p i
    → IsMember (times r (times p c)) (product (only s) i)
joined_member r c s p i e m =
    member_same (product (only s) i) (times s p) (times r (times p c)) (regrouped r c s p e)
    (product_holds (only s) i s p (le_refl s, le_refl s) m)

-- and the other way round
parted_member : (r c s p : Fraction) (i : Interval) → times r c ≈ s → IsMember p i
    → IsMember (times s p) (product (only r) (product i (only c)))
parted_member r c s p i e m =
    member_same (product (only r) (product i (only c))) (times r (times p c)) (times s p)
    (same_sym (regrouped r c s p e))
    (product_holds (only r) (product i (only c)) r (times p c) (le_refl r, le_refl r)
    (product_holds i (only c) p c m (le_refl c, le_refl c)))

-- what holds for both endpoints' products with c holds for the endpoints of the product
endpoints_keep : (P : Fraction → Type 0) (a b c : Fraction) → P (times a c) → P (times b c)
    → P (least (times a c) (times a c) (times b c) (times b c))
    × P (greatest (times a c) (times a c) (times b c) (times b c))
unfolding least greatest
endpoints_keep P a b c x y = (
  smaller_keeps P _ _ (smaller_keeps P _ _ x x) (smaller_keeps P _ _ y y),
  larger_keeps P _ _
      (larger_keeps P _ _ x x) (larger_keeps P _ _ y y),
)

product_endpoints : (a b c : Fraction)
    → product (between a b) (only c) ≡ between (least (times a c) (times a c) (times b c) (times b c))
    (greatest (times a c) (times a c) (times b c) (times b c))
unfolding product
product_endpoints a b c = refl

all_products : (r : Fraction) (i : Interval) → i ⊆ product (only r) everything
unfolding product
all_products r i = within_everything i

all_triples : (r c : Fraction) (i : Interval) → i ⊆ product (only r) (product everything (only c))
unfolding product
all_triples r c i = within_everything i

fractions_joined : (r c s : Fraction) (i : Interval) → IsProper i → times r c ≈ s
    → product (only r) (product i (only c)) ⊆ product (only s) i
fractions_joined r c s everything p e = all_products s (product (only r) (product everything (only c)))
fractions_joined r c s (between a b) p e =
    let m =
    endpoints_keep (λ z. IsMember (times r z) (product (only s) (between a b))) a b c
    (joined_member r c s a (between a b) e (le_refl a, p))
    (joined_member r c s b (between a b) e (p, le_refl b)) in
    rw (product_endpoints a b c) (endpoints_product r _ _ _ m.0 m.1)

fractions_parted : (r c s : Fraction) (i : Interval) → IsProper i → times r c ≈ s
    → product (only s) i ⊆ product (only r) (product i (only c))
fractions_parted r c s everything p e = all_triples r c (product (only s) everything)
fractions_parted r c s (between a b) p e = endpoints_product s a b _
    (parted_member r c s a (between a b) e (le_refl a, p))
    (parted_member r c s b (between a b) e (p, le_refl b))

-- ---- angles
half_turn : (d : ℤ) → times (units_of_56 d) (one_over 179) ≈ of_half_turn d
unfolding times
half_turn d = record { cross = omega (arith, ints) }

pub radians_in_angle : (n : ℕ) (d : ℤ) (y : Fraction) → y ≈ units_of_56 d
    → radians n y ⊆ product (only (of_half_turn d)) (pi_at n)
unfolding radians
radians_in_angle n d y e =
    fractions_joined y (one_over 179) (of_half_turn d) (pi_at n) (pi_proper n)
    (same_trans (times_cong e (same_refl (one_over 179))) (half_turn d))

pub angle_in_radians : (n : ℕ) (d : ℤ) → product (only (of_half_turn d)) (pi_at n) ⊆ radians n (units_of_56 d)
unfolding radians
angle_in_radians n d = fractions_parted (units_of_56 d) (one_over 179) (of_half_turn d) (pi_at n) (pi_proper n)
    (half_turn d)

pub cosine_within : (n : ℕ) {i j : Interval} → 1 ≤ n → IsProper i → i ⊆ j → cosine_series n i ⊆ cosine_series n j
cosine_within zero h p g = absurd (omega arith)
cosine_within (suc n) h p g = cosines.within n p g

-- ---- the octants of a turn
pub short_same : (d : ℤ) (y : Fraction) → y ≈ units_of_56 d → short_of y ≈ units_of_56 (pos OCTANT -ℤ d)
unfolding plus opposite
short_same d y e = same_trans (plus_cong (same_refl (whole (pos 45))) (opposite_cong e))
    (record { cross = omega (arith, ints) })

pub into_0 : (n : ℕ) (o : ℤ) (y : Fraction) (i : Interval) → o ≡ pos 0 → sine_series n (radians n y) ⊆ i
    → sine_into n (unsigned_abs o) y ⊆ i
unfolding sine_into
into_0 n o y i e h = rw e h

pub into_1 : (n : ℕ) (o : ℤ) (y : Fraction) (i : Interval) → o ≡ pos 1 → cosine_series n (radians n (short_of y)) ⊆ i
    → sine_into n (unsigned_abs o) y ⊆ i
unfolding sine_into
into_1 n o y i e h = rw e h

pub into_2 : (n : ℕ) (o : ℤ) (y : Fraction) (i : Interval) → o ≡ pos 2 → cosine_series n (radians n y) ⊆ i
    → sine_into n (unsigned_abs o) y ⊆ i
unfolding sine_into
into_2 n o y i e h = rw e h

pub into_3 : (n : ℕ) (o : ℤ) (y : Fraction) (i : Interval) → o ≡ pos 3 → sine_series n (radians n (short_of y)) ⊆ i
    → sine_into n (unsigned_abs o) y ⊆ i
unfolding sine_into
into_3 n o y i e h = rw e h

-- four octants later the sign is the other
pub into_later : (n : ℕ) (o : ℤ) (y : Fraction) (i : Interval) → pos 4 ≤ℤ o
    → negative (sine_into n (unsigned_abs (o -ℤ pos 4)) y) ⊆ i
    → sine_into n (unsigned_abs o) y ⊆ i
unfolding sine_into
into_later n (negsuc m) y i h k = absurd (omega (arith, ints))
into_later n (pos zero) y i h k = absurd (omega (arith, ints))
into_later n (pos (suc zero)) y i h k = absurd (omega (arith, ints))
into_later n (pos (suc (suc zero))) y i h k = absurd (omega (arith, ints))
into_later n (pos (suc (suc (suc zero)))) y i h k = absurd (omega (arith, ints))
into_later n (pos (suc (suc (suc (suc j))))) y i h k = let e : pos (suc (suc (suc (suc j)))) -ℤ pos 4 ≡ pos j =
    omega (arith, ints) in rw e at k

-- ---- octants of all turns
turn_z : (k q : ℤ) → q ≡ floor_quotient k 7 → IsFloorQuotient q k 7 → (k -ℤ q *ℤ pos 8 ≡ pos (octant_of_turn k))
    × ((k -ℤ q *ℤ pos 8) ≤ℤ pos 7)
turn_z k q e f = rw (← e) (
  by_size (k -ℤ q *ℤ pos 8) (k -ℤ (pos 8 *ℤ q)) (omega (arith, ints))
      (omega (arith, ints, f.not_above)),
  omega (arith, ints, f.close),
)
  where
    by_size : (a b : ℤ) → a ≡ b → pos 0 ≤ℤ a → a ≡ pos (unsigned_abs b)
    by_size a (pos m) e h = e
    by_size a (negsuc m) e h = absurd (omega (arith, ints))

edge_count : (k d : ℤ) → plus (units_of_56 d) (opposite (octant_edge k)) ≈ units_of_56 (d -ℤ k *ℤ pos OCTANT)
unfolding plus opposite times
edge_count k d = record { cross = omega (arith, ints) }

pub at_in_turn : (n : ℕ) (k o d : ℤ) (y : Fraction) (i : Interval) → o ≡ pos (octant_of_turn k) → y ≈ units_of_56 d →
    ((z : Fraction) → z ≈ units_of_56 (d -ℤ k *ℤ pos OCTANT) → sine_into n (unsigned_abs o) z ⊆ i) → sine_at n k y ⊆ i
unfolding sine_at
at_in_turn n k o d y i e same h =
    let u : unsigned_abs o ≡ octant_of_turn k = ap unsigned_abs e in
    rw (← u) (h (plus y (opposite (octant_edge k))) (same_trans (plus_cong same (same_refl (opposite (octant_edge k))))
    (edge_count k d)))
