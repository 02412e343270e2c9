-- Spans at two angles of an octant are hardly further apart than a 57th of what the angles are. At each of the two the
-- span is near the series' endpoints, which move no more than the angle (`Slopes`); in whole numbers that is linear.
-- From an edge where the sine is known the same holds of one angle alone; then it is carried to the octants of a turn
-- and to hulls.
use Rattle.std.proofs.Common.{◌≡◌, ℕ, zero, suc, ◌-◌, ◌≤◌, refl, arith, neg_ℤ, unsigned_abs, ◌<ℤ◌, ℤ, pos, negsuc, ◌+ℤ◌}
use Rattle.std.proofs.Common.{◌-ℤ◌, ◌*ℤ◌, ◌≤ℤ◌, [], ◌∷◌}
use Rattle.std.specs.Int.{int_max, int_min}
use Rattle.std.proofs.lemmas.Int.{ints, clamps, by_lt_z}
use Rattle.book_model.specs.Fraction.{◌≤F◌, plus, times}
use Rattle.book_model.proofs.Ring.{at, lit, ◌⊗◌}
use Rattle.book_model.proofs.Bounds.{◌≼◌, known as certain, ◌⊞◌, ◌⊠◌, times as twice, le_by as le_between}
use Rattle.book_model.proofs.Fractions.{le_refl, le_trans, plus_mono}
use Rattle.book_model.proofs.Alternating.{sum_endpoints_in_order}
use Rattle.book_model.specs.numbers.Octants.{octant_of_turn}
use Rattle.book_model.specs.numbers.Series.{sine_term, cosine_term}
use Rattle.book_model.proofs.Terms.{sine_halving, cosine_halving}
use Rattle.book_model.proofs.SeriesNesting.{sine_lowers, cosine_uppers}
use Rattle.encl_core.specs.Units.{at_64}
use Rattle.encl_core.specs.parts.TheConstants.{OCTANT, QUARTER}
use Rattle.trig_series.specs.Kernel.{in_radians}
use Rattle.trig_series.specs.Points.{IsNearSine, IsNearCosine, IsPoint, IsAt, AreSteady, IsAround, IsCrest}
use Rattle.trig_series.proofs.Slopes.{sine_slow, cosine_slow}
use Rattle.trig_series.proofs.Curves.{in_order, in_fifths, cosine_above}
use Rattle.trig_series.proofs.PointLemmas.{near_none}

-- from fractions to whole numbers
by_angles : (d e : ℕ) (a b : ℤ) → plus (at_64 (a *ℤ pos 256 -ℤ pos 1152)) (in_radians d) ≤F plus
    (at_64 (b *ℤ pos 256 +ℤ pos 1152)) (in_radians e) → d ≤ e
    → (pos 57 *ℤ (a -ℤ b)) ≤ℤ ((pos e -ℤ pos d) +ℤ pos 513)
unfolding plus times
by_angles d e a b h l = omega (arith, ints, h.cross, l)

by_order : (a b : ℤ) → at_64 (a *ℤ pos 256 -ℤ pos 1152) ≤F at_64 (b *ℤ pos 256 +ℤ pos 1152)
    → (pos 57 *ℤ (a -ℤ b)) ≤ℤ pos 513
by_order a b h = omega (arith, ints, h.cross)

more : (z w v : ℤ) → z ≤ℤ pos 513 → pos 0 ≤ℤ w → v ≡ w +ℤ pos 513 → z ≤ℤ v
more z w v h p e = omega (arith, ints, h, p, e)

-- the sine rises
sine_steady : (d e : ℕ) (a b a' b' : ℤ) → d ≤ e → e ≤ OCTANT → IsNearSine d a b → IsNearSine e a' b'
    → AreSteady (pos e -ℤ pos d) a b a' b'
sine_steady d e a b a' b' l u p q =
    let x = in_fifths d (omega (arith, l, u)) in
    let y = in_fifths e u in
    let o = in_order d e l in
    let there = sum_endpoints_in_order 8 (sine_term (in_radians e)) ((sine_halving (in_radians e) y).nonneg 9) in
    record {
      up =
          by_angles d e b' a (le_trans _ _ _ (plus_mono _ _ _ _ (le_trans _ _ _ q.high there) (le_refl (in_radians d)))
          (le_trans _ _ _ (sine_slow 7 _ _ x y o) (plus_mono _ _ _ _ p.low (le_refl (in_radians e))))) l;
      down =
          more _ (pos e -ℤ pos d) _
          (by_order b a'
          (le_trans _ _ _ p.high (le_trans _ _ _ (sine_lowers 8 _ _ x y o) (le_trans _ _ _ there q.low))))
          (omega (arith, ints, l)) refl;
    }

-- the cosine falls
cosine_steady : (d e : ℕ) (a b a' b' : ℤ) → d ≤ e → e ≤ OCTANT → IsNearCosine d a b → IsNearCosine e a' b'
    → AreSteady (pos e -ℤ pos d) a b a' b'
cosine_steady d e a b a' b' l u p q =
    let x = in_fifths d (omega (arith, l, u)) in
    let y = in_fifths e u in
    let o = in_order d e l in
    let there = sum_endpoints_in_order 9 (cosine_term (in_radians e)) ((cosine_halving (in_radians e) y).nonneg 9) in
    record {
      up =
          more _ (pos e -ℤ pos d) _
          (by_order b' a
          (le_trans _ _ _ q.high (le_trans _ _ _ there (le_trans _ _ _ (cosine_uppers 8 _ _ x y o) p.low))))
          (omega (arith, ints, l)) refl;
      down =
          by_angles d e b a' (le_trans _ _ _ (plus_mono _ _ _ _ p.high (le_refl (in_radians d)))
          (le_trans _ _ _ (cosine_slow 7 _ _ x y o) (plus_mono _ _ _ _ (le_trans _ _ _ there q.low)
          (le_refl (in_radians e))))) l;
    }

turned : (w a b a' b' : ℤ) → AreSteady w a b a' b' → AreSteady w a' b' a b
turned w a b a' b' h = record { up = h.down; down = h.up }

same_width : (v w a b a' b' : ℤ) → v ≡ w → AreSteady v a b a' b' → AreSteady w a b a' b'
same_width v w a b a' b' e h = rw e at h

opposite_steady : (w a b a' b' : ℤ) → AreSteady w (neg_ℤ b) (neg_ℤ a) (neg_ℤ b') (neg_ℤ a') → AreSteady w a b a' b'
opposite_steady w a b a' b' h = record { up = omega (arith, ints, h.down); down = omega (arith, ints, h.up) }

-- in every octant of a turn
pub steady : (j d e : ℕ) (a b a' b' : ℤ) → d ≤ e → e ≤ OCTANT → IsPoint j d a b → IsPoint j e a' b'
    → AreSteady (pos e -ℤ pos d) a b a' b'
unfolding IsPoint
steady zero d e a b a' b' l u p q = sine_steady d e a b a' b' l u p q
steady (suc zero) d e a b a' b' l u p q =
    same_width (pos (OCTANT - d) -ℤ pos (OCTANT - e)) _ a b a' b' (omega (arith, ints, l, u))
    (turned _ a' b' a b (cosine_steady (OCTANT - e) (OCTANT - d) a' b' a b (omega (arith, l)) (omega arith) q p))
steady (suc (suc zero)) d e a b a' b' l u p q = cosine_steady d e a b a' b' l u p q
steady (suc (suc (suc zero))) d e a b a' b' l u p q =
    same_width (pos (OCTANT - d) -ℤ pos (OCTANT - e)) _ a b a' b' (omega (arith, ints, l, u))
    (turned _ a' b' a b (sine_steady (OCTANT - e) (OCTANT - d) a' b' a b (omega (arith, l)) (omega arith) q p))
steady (suc (suc (suc (suc j)))) d e a b a' b' l u p q = opposite_steady _ a b a' b' (steady j d e _ _ _ _ l u p q)

-- ---- from an edge where the sine is known
at_start : (j d : ℕ) (e w a b : ℤ) → IsPoint j 0 e e → IsPoint j d a b → d ≤ OCTANT → pos d ≤ℤ w → IsAround e w a b
at_start j d e w a b s p l h =
    let t = steady j 0 d e e a b (omega arith) l s p in
    record { up = omega (arith, ints, t.up, h); down = omega (arith, ints, t.down, h) }

at_end : (j d : ℕ) (e w a b : ℤ) → IsPoint j OCTANT e e → IsPoint j d a b → d ≤ OCTANT → (pos OCTANT -ℤ pos d) ≤ℤ w
    → IsAround e w a b
at_end j d e w a b s p l h =
    let t = steady j d OCTANT a b e e l (omega arith) p s in
    record { up = omega (arith, ints, t.down, h); down = omega (arith, ints, t.up, h) }

none_0 : IsPoint 0 0 (pos 0) (pos 0)
unfolding IsPoint
none_0 = near_none

none_7 : IsPoint 7 OCTANT (pos 0) (pos 0)
unfolding IsPoint
none_7 = near_none

-- a point of octant k
pub record LiesIn (k p a b : ℤ) : Type 0 where
  pub point : IsPoint (octant_of_turn k) (unsigned_abs (p -ℤ k *ℤ pos OCTANT)) a b
  pub from : (k *ℤ pos OCTANT) ≤ℤ p
  pub to : p ≤ℤ (k *ℤ pos OCTANT +ℤ pos OCTANT)

by_octant : (k m p a b : ℤ) → k ≡ m → LiesIn k p a b → LiesIn m p a b
by_octant k m p a b e h = rw e at h

-- near 0 degrees the sine is near 0
small_point : (w k p a b : ℤ) → neg_ℤ w ≤ℤ p → p ≤ℤ w → w <ℤ pos OCTANT → LiesIn k p a b → IsAround (pos 0) w a b
small_point w k p a b l u s h =
    by_lt_z k (pos 0)
    (λ m. let g = by_octant k (negsuc 0) p a b (omega (arith, ints, m, l, s, h.to)) h in
    at_end 7 _ (pos 0) w a b none_7 g.point (omega (arith, ints, g.from, g.to)) (omega (arith, ints, l, g.from, g.to)))
    (λ m. let g = by_octant k (pos 0) p a b (omega (arith, ints, m, u, s, h.from)) h in
    at_start 0 _ (pos 0) w a b none_0 g.point (omega (arith, ints, g.from, g.to))
    (omega (arith, ints, u, g.from, g.to)))

-- near 90 degrees it is near 1
square_more : (v w : ℤ) → pos 0 ≤ℤ v → v ≤ℤ w → (v *ℤ v) ≤ℤ (w *ℤ w)
square_more v w h k =
    le_between (v ∷ w ∷ []) ((lit (pos 0) ≼ at 0) ∷ (at 0 ≼ at 1) ∷ []) (at 0 ⊗ at 0) (at 1 ⊗ at 1)
    (certain 1 ⊠ (certain 1 ⊞ twice 2 ⊠ certain 0)) refl
    (h, (k, tt))

pub more_crest : (v w a : ℤ) → pos 0 ≤ℤ v → v ≤ℤ w → IsCrest v a → IsCrest w a
more_crest v w a h k c = let l = square_more v w h k in record { down = omega (arith, ints, l, c.down) }

cosine_crest : (d : ℕ) (w a b : ℤ) → d ≤ OCTANT → pos d ≤ℤ w → IsNearCosine d a b → IsCrest w a
cosine_crest d w a b l k p =
    let h = cosine_above d (a *ℤ pos 256 +ℤ pos 1152) l p.low in
    let q : IsCrest (pos d) a = record { down = omega (arith, ints, h) } in
    more_crest (pos d) w a (omega (arith, ints)) k q

first_crest : (d : ℕ) (w a b : ℤ) → pos (OCTANT - d) ≤ℤ w → IsPoint 1 d a b → IsCrest w a
unfolding IsPoint
first_crest d w a b k p = cosine_crest (OCTANT - d) w a b (omega arith) k p

second_crest : (d : ℕ) (w a b : ℤ) → d ≤ OCTANT → pos d ≤ℤ w → IsPoint 2 d a b → IsCrest w a
unfolding IsPoint
second_crest d w a b l k p = cosine_crest d w a b l k p

crest_point : (w k p a b : ℤ) → (QUARTER -ℤ w) ≤ℤ p → p ≤ℤ (QUARTER +ℤ w) → w <ℤ pos OCTANT → LiesIn k p a b
    → IsCrest w a
crest_point w k p a b l u s h =
    by_lt_z k (pos 2)
    (λ m. let g = by_octant k (pos 1) p a b (omega (arith, ints, m, l, s, h.to)) h in
    first_crest _ w a b (omega (arith, ints, l, g.from, g.to)) g.point)
    (λ m. let g =
    by_octant k (pos 2) p a b (omega (arith, ints, m, u, s, h.from)) h in
    second_crest _ w a b (omega (arith, ints, g.from, g.to))
    (omega (arith, ints, u, g.from, g.to)) g.point)

-- ---- hulls
pub hull_around : (e w a b c d lo hi : ℤ) → lo ≡ int_min a c → hi ≡ int_max b d → IsAround e w a b → IsAround e w c d
    → IsAround e w lo hi
hull_around e w a b c d lo hi p q h k = record {
  up = omega (arith, ints, clamps, q, h.up, k.up);
  down = omega (arith, ints, clamps, p, h.down, k.down);
}

pub hull_crest : (w a c lo : ℤ) → lo ≡ int_min a c → IsCrest w a → IsCrest w c → IsCrest w lo
hull_crest w a c lo p h k = record { down = omega (arith, ints, clamps, p, h.down, k.down) }

pub hull_at_first : (e a b c d lo hi : ℤ) → lo ≡ int_min a c → hi ≡ int_max b d → IsAt e a b → IsAt e lo hi
hull_at_first e a b c d lo hi p q h = record {
  above = omega (arith, ints, clamps, p, h.above);
  below = omega (arith, ints, clamps, q, h.below);
}

pub hull_at_second : (e a b c d lo hi : ℤ) → lo ≡ int_min a c → hi ≡ int_max b d → IsAt e c d → IsAt e lo hi
hull_at_second e a b c d lo hi p q h = record {
  above = omega (arith, ints, clamps, p, h.above);
  below = omega (arith, ints, clamps, q, h.below);
}

-- what the two points of an octant say of their hull
pub in_narrow : (k p q a b c d lo hi : ℤ) → p ≤ℤ q → LiesIn k p a b → LiesIn k q c d → lo ≡ int_min a c
    → hi ≡ int_max b d
    → (pos 57 *ℤ (hi -ℤ lo)) ≤ℤ ((q -ℤ p) +ℤ pos 513)
in_narrow k p q a b c d lo hi l g h e f =
    let dp = unsigned_abs (p -ℤ k *ℤ pos OCTANT) in
    let dq = unsigned_abs (q -ℤ k *ℤ pos OCTANT) in
    let bp : dp ≤ OCTANT = omega (arith, ints, g.from, g.to) in
    let bq : dq ≤ OCTANT = omega (arith, ints, h.from, h.to) in
    let t = steady (octant_of_turn k) dp dq a b c d (omega (arith, ints, g.from, l)) bq g.point h.point in
    let u = steady (octant_of_turn k) dp dp a b a b (omega arith) bp g.point g.point in
    let v = steady (octant_of_turn k) dq dq c d c d (omega arith) bq h.point h.point in
    let w : pos dq -ℤ pos dp ≡ q -ℤ p = omega (arith, ints, g.from, h.from) in
    last_step (q -ℤ p) (pos dq -ℤ pos dp) a b c d lo hi w (omega (arith, ints, l)) t (omega (arith, ints, u.up))
    (omega (arith, ints, v.up)) e f
  where
    last_step : (w z a b c d lo hi : ℤ) → z ≡ w → pos 0 ≤ℤ w → AreSteady z a b c d → (pos 57 *ℤ (b -ℤ a)) ≤ℤ pos 513
        → (pos 57 *ℤ (d -ℤ c)) ≤ℤ pos 513
        → lo ≡ int_min a c → hi ≡ int_max b d → (pos 57 *ℤ (hi -ℤ lo)) ≤ℤ (w +ℤ pos 513)
    last_step w z a b c d lo hi r s t u v e f = omega (arith, ints, clamps, r, s, t.up, t.down, u, v, e, f)

pub in_small : (k lo hi p q a b c d x y : ℤ) → lo ≤ℤ p → p ≤ℤ q → q ≤ℤ hi → LiesIn k p a b → LiesIn k q c d
    → x ≡ int_min a c → y ≡ int_max b d
    → (w : ℤ) → neg_ℤ w ≤ℤ lo → hi ≤ℤ w → w <ℤ pos OCTANT → IsAround (pos 0) w x y
in_small k lo hi p q a b c d x y l m n g h e f w r s t =
    hull_around (pos 0) w a b c d x y e f
    (small_point w k p a b (omega (arith, ints, r, l)) (omega (arith, ints, s, m, n)) t g)
    (small_point w k q c d (omega (arith, ints, r, l, m)) (omega (arith, ints, s, n)) t h)

pub in_crest : (k lo hi p q a b c d x : ℤ) → lo ≤ℤ p → p ≤ℤ q → q ≤ℤ hi → LiesIn k p a b → LiesIn k q c d
    → x ≡ int_min a c
    → (w : ℤ) → (QUARTER -ℤ w) ≤ℤ lo → hi ≤ℤ (QUARTER +ℤ w) → w <ℤ pos OCTANT → IsCrest w x
in_crest k lo hi p q a b c d x l m n g h e w r s t =
    hull_crest w a c x e
    (crest_point w k p a b (omega (arith, ints, r, l)) (omega (arith, ints, s, m, n)) t g)
    (crest_point w k q c d (omega (arith, ints, r, l, m)) (omega (arith, ints, s, n)) t h)
