-- The octants of a turn, where the code finds spans. By cases of the octant, as the definition: sine or cosine, of the
-- angle or of what is left to 45 degrees, and four octants later the opposite. Where an octant ends the next begins
-- with the same value, and so widths over several octants add up by induction on their number.
use Rattle.std.proofs.Common.{◌≡◌, ℕ, zero, suc, ◌-◌, ◌≤◌, refl, ap, arith, neg_ℤ, unsigned_abs, ℤ, pos, negsuc, ◌+ℤ◌}
use Rattle.std.proofs.Common.{◌-ℤ◌, ◌*ℤ◌, ◌≤ℤ◌, ◌⊎◌, inl, inr}
use Rattle.std.specs.Int.{int_min, int_max}
use Rattle.std.proofs.lemmas.Int.{ints, clamps, by_lt_z}
use Rattle.book_model.specs.Fraction.{Fraction, ◌≈◌, floor_quotient}
use Rattle.book_model.proofs.Floors.{IsFloorQuotient, floor_quotient_is}
use Rattle.book_model.specs.programs.Leading.{units_of_56}
use Rattle.book_model.specs.numbers.Octants.{short_of, octant_of_turn}
use Rattle.encl_core.specs.parts.TheConstants.{OCTANT}
use Rattle.trig_series.specs.Points.{IsNearSine, IsNearCosine, IsPoint, edge_of, IsAt}
use Rattle.trig_series.proofs.AngleLemmas.{short_same}

-- ---- the first half turn
pub short_count : (d : ℕ) (y : Fraction) → d ≤ OCTANT → y ≈ units_of_56 (pos d)
    → short_of y ≈ units_of_56 (pos (OCTANT - d))
short_count d y l e = let s : pos (OCTANT - d) ≡ pos OCTANT -ℤ pos d = omega (arith, ints, l) in
    rw s (short_same (pos d) y e)

pub point_0 : (o : ℤ) (d : ℕ) (lo hi : ℤ) → o ≡ pos 0 → IsNearSine d lo hi → IsPoint (unsigned_abs o) d lo hi
unfolding IsPoint
point_0 o d lo hi e h = rw e h

pub point_1 : (o : ℤ) (d : ℕ) (lo hi : ℤ) → o ≡ pos 1 → IsNearCosine (OCTANT - d) lo hi
    → IsPoint (unsigned_abs o) d lo hi
unfolding IsPoint
point_1 o d lo hi e h = rw e h

pub point_2 : (o : ℤ) (d : ℕ) (lo hi : ℤ) → o ≡ pos 2 → IsNearCosine d lo hi → IsPoint (unsigned_abs o) d lo hi
unfolding IsPoint
point_2 o d lo hi e h = rw e h

pub point_3 : (o : ℤ) (d : ℕ) (lo hi : ℤ) → o ≡ pos 3 → IsNearSine (OCTANT - d) lo hi → IsPoint (unsigned_abs o) d lo hi
unfolding IsPoint
point_3 o d lo hi e h = rw e h

-- ---- four octants later the sign is the other
twice_opposite : (a b : ℤ) → a ≡ neg_ℤ b → neg_ℤ a ≡ b
twice_opposite a b e = omega (arith, ints, e)

pub later_point : (o : ℤ) (d : ℕ) (a b lo hi : ℤ) → pos 4 ≤ℤ o → lo ≡ neg_ℤ b → hi ≡ neg_ℤ a
    → IsPoint (unsigned_abs (o -ℤ pos 4)) d a b
    → IsPoint (unsigned_abs o) d lo hi
unfolding IsPoint
later_point (negsuc m) d a b lo hi h e f p = absurd (omega (arith, ints))
later_point (pos zero) d a b lo hi h e f p = absurd (omega (arith, ints))
later_point (pos (suc zero)) d a b lo hi h e f p = absurd (omega (arith, ints))
later_point (pos (suc (suc zero))) d a b lo hi h e f p = absurd (omega (arith, ints))
later_point (pos (suc (suc (suc zero)))) d a b lo hi h e f p = absurd (omega (arith, ints))
later_point (pos (suc (suc (suc (suc j))))) d a b lo hi h e f p =
    let q : pos (suc (suc (suc (suc j)))) -ℤ pos 4 ≡ pos j = omega (arith, ints) in
    let r = rw q at p in
    rw (twice_opposite hi a f, twice_opposite lo b e) r

opposite_at : (e a b lo hi : ℤ) → lo ≡ neg_ℤ b → hi ≡ neg_ℤ a → IsAt e a b → IsAt (neg_ℤ e) lo hi
opposite_at e a b lo hi p q h =
    record { above = omega (arith, ints, p, h.below); below = omega (arith, ints, q, h.above) }

pub later_begins : (o a b lo hi : ℤ) → pos 4 ≤ℤ o → lo ≡ neg_ℤ b → hi ≡ neg_ℤ a
    → IsAt (edge_of (unsigned_abs (o -ℤ pos 4))) a b
    → IsAt (edge_of (unsigned_abs o)) lo hi
later_begins (negsuc m) a b lo hi h e f p = absurd (omega (arith, ints))
later_begins (pos zero) a b lo hi h e f p = absurd (omega (arith, ints))
later_begins (pos (suc zero)) a b lo hi h e f p = absurd (omega (arith, ints))
later_begins (pos (suc (suc zero))) a b lo hi h e f p = absurd (omega (arith, ints))
later_begins (pos (suc (suc (suc zero)))) a b lo hi h e f p = absurd (omega (arith, ints))
later_begins (pos (suc (suc (suc (suc j))))) a b lo hi h e f p =
    let q : pos (suc (suc (suc (suc j)))) -ℤ pos 4 ≡ pos j = omega (arith, ints) in
    opposite_at (edge_of j) a b lo hi e f (rw q at p)

pub later_endpoints : (o a b lo hi : ℤ) → pos 4 ≤ℤ o → lo ≡ neg_ℤ b → hi ≡ neg_ℤ a
    → IsAt (edge_of (suc (unsigned_abs (o -ℤ pos 4)))) a b
    → IsAt (edge_of (suc (unsigned_abs o))) lo hi
later_endpoints (negsuc m) a b lo hi h e f p = absurd (omega (arith, ints))
later_endpoints (pos zero) a b lo hi h e f p = absurd (omega (arith, ints))
later_endpoints (pos (suc zero)) a b lo hi h e f p = absurd (omega (arith, ints))
later_endpoints (pos (suc (suc zero))) a b lo hi h e f p = absurd (omega (arith, ints))
later_endpoints (pos (suc (suc (suc zero)))) a b lo hi h e f p = absurd (omega (arith, ints))
later_endpoints (pos (suc (suc (suc (suc j))))) a b lo hi h e f p =
    let q : pos (suc (suc (suc (suc j)))) -ℤ pos 4 ≡ pos j = omega (arith, ints) in
    opposite_at (edge_of (suc j)) a b lo hi e f (rw q at p)

-- ---- octants of all turns
pub count_of : (x : ℤ) → pos 0 ≤ℤ x → pos (unsigned_abs x) ≡ x
count_of x h = omega (arith, ints, h)

pub turned_point : (k o : ℤ) (d : ℕ) (lo hi : ℤ) → o ≡ pos (octant_of_turn k) → IsPoint (unsigned_abs o) d lo hi
    → IsPoint (octant_of_turn k) d lo hi
turned_point k o d lo hi e h = rw e at h

pub turned_edge : (k o lo hi : ℤ) → o ≡ pos (octant_of_turn k) → IsAt (edge_of (unsigned_abs o)) lo hi
    → IsAt (edge_of (octant_of_turn k)) lo hi
turned_edge k o lo hi e h = rw e at h

pub next_edge : (k o lo hi : ℤ) → o ≡ pos (octant_of_turn k) → IsAt (edge_of (suc (unsigned_abs o))) lo hi
    → IsAt (edge_of (suc (octant_of_turn k))) lo hi
next_edge k o lo hi e h = rw e at h

-- where an octant ends the next begins
pub next_turn : (k q r : ℤ) → q ≡ floor_quotient k 7 → r ≡ floor_quotient (k +ℤ pos 1) 7 → IsFloorQuotient q k 7
    → IsFloorQuotient r (k +ℤ pos 1) 7
    → (suc (octant_of_turn k) ≡ octant_of_turn (k +ℤ pos 1))
    ⊎ ((octant_of_turn k ≡ 7) × (octant_of_turn (k +ℤ pos 1) ≡ 0))
next_turn k q r e f g h =
    rw (← e, ← f)
    (by_lt_z q r
    (λ l. inr (
      omega (arith, ints, g.not_above, g.close, h.not_above, h.close, l),
      omega (arith, ints, g.not_above, g.close, h.not_above, h.close, l),
    ))
    (λ l. inl (omega (arith, ints, g.not_above, g.close, h.not_above, h.close, l))))

same_edge : (i j : ℕ) → (suc i ≡ j) ⊎ ((i ≡ 7) × (j ≡ 0)) → edge_of (suc i) ≡ edge_of j
same_edge i j (inl e) = ap edge_of e
same_edge i j (inr e) = rw (e.0, e.1) refl

pub edges_meet : (k lo hi : ℤ) → IsAt (edge_of (suc (octant_of_turn k))) lo hi
    → IsAt (edge_of (octant_of_turn (k +ℤ pos 1))) lo hi
edges_meet k lo hi h =
    let e = same_edge (octant_of_turn k) (octant_of_turn (k +ℤ pos 1))
    (next_turn k _ _ refl refl (floor_quotient_is k 7) (floor_quotient_is (k +ℤ pos 1) 7)) in
    rw e at h

-- ---- from octant to octant
pub first_narrow : (first lo hi p q x y : ℤ) → p ≡ int_max (first *ℤ pos OCTANT) lo
    → q ≡ int_min (first *ℤ pos OCTANT +ℤ pos OCTANT) hi
    → (first *ℤ pos OCTANT) ≤ℤ lo
    → (pos 57 *ℤ (y -ℤ x)) ≤ℤ ((q -ℤ p) +ℤ pos 513) → (pos 57 *ℤ (y -ℤ x))
    ≤ℤ ((int_min ((first +ℤ pos 1) *ℤ pos OCTANT) hi -ℤ lo) +ℤ pos 513 *ℤ ((first +ℤ pos 1) -ℤ first))
first_narrow first lo hi p q x y e f b h = omega (arith, ints, clamps, e, f, b, h)

pub next_narrow : (m first lo hi edge a b c d x y : ℤ) → lo ≤ℤ (m *ℤ pos OCTANT) → (m *ℤ pos OCTANT) ≤ℤ hi
    → IsAt edge a b → IsAt edge c d → x ≡ int_min a c
    → y ≡ int_max b d
    → (pos 57 *ℤ (b -ℤ a)) ≤ℤ ((int_min (m *ℤ pos OCTANT) hi -ℤ lo) +ℤ pos 513 *ℤ (m -ℤ first))
    → (pos 57 *ℤ (d -ℤ c)) ≤ℤ ((int_min (m *ℤ pos OCTANT +ℤ pos OCTANT) hi -ℤ int_max (m *ℤ pos OCTANT) lo) +ℤ pos 513)
    → (pos 57 *ℤ (y -ℤ x)) ≤ℤ ((int_min ((m +ℤ pos 1) *ℤ pos OCTANT) hi -ℤ lo) +ℤ pos 513 *ℤ ((m +ℤ pos 1) -ℤ first))
next_narrow m first lo hi edge a b c d x y l r s t e f g h =
    let u : (pos 57 *ℤ (y -ℤ x)) ≤ℤ (pos 57 *ℤ (b -ℤ a) +ℤ pos 57 *ℤ (d -ℤ c)) =
    omega (arith, ints, clamps, e, f, s.above, s.below, t.above, t.below) in
    omega (arith, ints, clamps, l, r, u, g, h)

pub last_narrow : (first last next lo hi x y : ℤ) → next ≡ last +ℤ pos 1
    → (pos 57 *ℤ (y -ℤ x)) ≤ℤ ((int_min (next *ℤ pos OCTANT) hi -ℤ lo) +ℤ pos 513 *ℤ (next -ℤ first))
    → (pos 57 *ℤ (y -ℤ x)) ≤ℤ ((hi -ℤ lo) +ℤ pos 513 *ℤ ((last -ℤ first) +ℤ pos 1))
last_narrow first last next lo hi x y e h = omega (arith, ints, clamps, e, h)

-- over several octants: few, or many
pub few_or_many : (first last lo hi x y : ℤ) → lo ≤ℤ (first *ℤ pos OCTANT +ℤ pos OCTANT) → (last *ℤ pos OCTANT) ≤ℤ hi
    → (pos 57 *ℤ (y -ℤ x)) ≤ℤ ((hi -ℤ lo) +ℤ pos 513 *ℤ ((last -ℤ first) +ℤ pos 1))
    → (pos 9727775195120271360 ≤ℤ (hi -ℤ lo)) ⊎ ((pos 57 *ℤ (y -ℤ x)) ≤ℤ ((hi -ℤ lo) +ℤ pos 2052))
few_or_many first last lo hi x y l r h =
    by_lt_z (last -ℤ first) (pos 4)
    (λ m. inr (omega (arith, ints, m, h)))
    (λ m. inl (omega (arith, ints, m, l, r)))

pub one_narrow : (lo hi x y : ℤ) → (pos 57 *ℤ (y -ℤ x)) ≤ℤ ((hi -ℤ lo) +ℤ pos 513)
    → (pos 9727775195120271360 ≤ℤ (hi -ℤ lo)) ⊎ ((pos 57 *ℤ (y -ℤ x)) ≤ℤ ((hi -ℤ lo) +ℤ pos 2052))
one_narrow lo hi x y h = inr (omega (arith, ints, h))
