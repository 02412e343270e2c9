-- How wide the span of a part in one piece is, and that of parts side by side. The arctangents at both ends of a part
-- lie in narrow spans and are no further apart than a rate times the numbers are, and so is their hull. At an edge,
-- where the arctangent is known, one part ends as the next begins, so that the rates of parts side by side add up: by
-- cases of which pieces two endpoints meet.
use Rattle.std.proofs.Common.{◌≡◌, ◌+◌, ◌-◌, ◌*◌, ◌^◌, ◌≤◌, arith, ℕ, ℤ, pos, negsuc, ◌+ℤ◌, ◌-ℤ◌, ◌*ℤ◌, ◌≤ℤ◌, ◌<ℤ◌, ◌⊎◌}
use Rattle.std.proofs.Common.{inl, inr, Option, Some, None}
use Rattle.std.specs.Int.{int_min, int_max}
use Rattle.std.proofs.lemmas.Int.{ints, clamps}
use Rattle.std.proofs.Math.Nat.{mul-le-mul_right}
use lib.IntN.{neg_ℤ}
use Rattle.book_model.specs.Fraction.{Fraction, ◌≈◌, whole, plus}
use Rattle.book_model.specs.Interval.{between, ◌⊆◌}
use Rattle.book_model.proofs.Same.{same_refl}
use Rattle.book_model.specs.programs.Leading.{units_of_56}
use Rattle.book_model.specs.numbers.Arcs.{half, minus_half}
use Rattle.book_model.proofs.ArcPieces.{InPiece}
use Rattle.encl_core.specs.declared.span.Span.{Span}
use Rattle.arc_series.specs.declared.pieces.Piece.{Piece}
use Rattle.arc_series.specs.declared.pieces.Piece.TheVariants.{FarBelow, Below, Near, Above, FarAbove}
use Rattle.arc_series.specs.Forms.{piece_of, begin_56, end_56}
use Rattle.arc_series.specs.Widths.{IsThin, IsRate, Edge, first_edge, last_edge, IsFrom, IsUpTo, IsReach, Reaches}
use Rattle.arc_series.specs.Widths.{AreOver, no_begin, no_end}
use Rattle.arc_series.proofs.HeldArcs.{Holds_arcs}
use Rattle.arc_series.proofs.ArcSlopes.{piece_arc}
use Rattle.arc_series.proofs.ArcAnchors.{near_half, near_minus_half, above_half, above_three, beyond_three, below_half}
use Rattle.arc_series.proofs.ArcAnchors.{below_three, far_below_three}
use Rattle.arc_series.proofs.ArcAnchors.{AreApart, apart, AreMeeting, meeting}
use Rattle.arc_series.proofs.ArcRates.{endpoints_rated}
use Rattle.arc_series.proofs.ArcRanges.{in_piece, ranged, from_lower, from_lesser, up_to_greater}

-- ---- the endpoints of a part
-- two numbers of a piece in order, and endpoints that hold their arctangents, each at most 4 apart
pub record IsPart (p : Piece) (k m a b c d : ℤ) : Type 0 where
  pub from : begin_56 p ≤ℤ k
  pub order : k ≤ℤ m
  pub to : m ≤ℤ end_56 p
  pub low_thin : IsThin a b
  pub high_thin : IsThin c d
  pub low_held : Holds_arcs p k (between (units_of_56 a) (units_of_56 b))
  pub high_held : Holds_arcs p m (between (units_of_56 c) (units_of_56 d))

part_apart : (p : Piece) (k m a b c d : ℤ) → IsPart p k m a b c d → AreApart (m -ℤ k) a b c d
unfolding plus
part_apart p k m a b c d h =
    apart p (units_of_56 k) (units_of_56 m) (m -ℤ k) a b c d (in_piece p k h.from (omega (arith, ints, h.order, h.to)))
    (in_piece p m (omega (arith, ints, h.order, h.from)) h.to) (record { cross = omega (arith, ints, h.order) })
    (record { cross = omega (arith, ints) })
    (h.low_held 40 (units_of_56 k) (omega arith) (same_refl (units_of_56 k)))
    (h.high_held 40 (units_of_56 m) (omega arith) (same_refl (units_of_56 m)))

-- the hull of both
pub record IsHull (a b c d lo hi : ℤ) : Type 0 where
  pub low : lo ≡ int_min a c
  pub high : hi ≡ int_max b d

part_narrow : (k m a b c d lo hi : ℤ) → k ≤ℤ m → IsThin a b → IsThin c d → AreApart (m -ℤ k) a b c d
    → IsHull a b c d lo hi
    → ((hi -ℤ lo) *ℤ pos 10) ≤ℤ ((m -ℤ k) *ℤ pos 573 +ℤ pos 80)
part_narrow k m a b c d lo hi o t u n h = omega (arith, ints, clamps, o, t.thin, u.thin, n.climb, n.rise, h.low, h.high)

-- at a rate: the numbers times it are in order
part_slow : (km ms a b c d lo hi : ℤ) → km ≤ℤ ms → IsThin a b → IsThin c d → a ≤ℤ d
    → (c *ℤ pos (10 * 2 ^ 60)) ≤ℤ (b *ℤ pos (10 * 2 ^ 60) +ℤ (ms -ℤ km) *ℤ pos 573) → IsHull a b c d lo hi
    → ((hi -ℤ lo) *ℤ pos (10 * 2 ^ 60)) ≤ℤ ((ms -ℤ km) *ℤ pos 573 +ℤ pos (80 * 2 ^ 60))
part_slow km ms a b c d lo hi o t u l n h = omega (arith, ints, clamps, o, t.thin, u.thin, l, n, h.low, h.high)

in_order : (k m : ℤ) (s : ℕ) → k ≤ℤ m → (k *ℤ pos s) ≤ℤ (m *ℤ pos s)
in_order (pos k) (pos m) s h = let g : k ≤ m = omega (arith, ints) in omega (arith, ints, mul-le-mul_right s g)
in_order (pos k) (negsuc m) s h = absurd (omega (arith, ints))
in_order (negsuc k) (pos m) s h = omega (arith, ints)
in_order (negsuc k) (negsuc m) s h = let g : m ≤ k = omega (arith, ints) in omega (arith, ints, mul-le-mul_right s g)

part_rated : (p : Piece) (s : ℕ) (top k m a b c d lo hi : ℤ) → IsRate s top → m ≤ℤ top → IsPart p k m a b c d
    → IsHull a b c d lo hi
    → ((hi -ℤ lo) *ℤ pos (10 * 2 ^ 60)) ≤ℤ ((m *ℤ pos s -ℤ k *ℤ pos s) *ℤ pos 573 +ℤ pos (80 * 2 ^ 60))
part_rated p s top k m a b c d lo hi r l h g =
    part_slow (k *ℤ pos s) (m *ℤ pos s) a b c d lo hi (in_order k m s h.order) h.low_thin h.high_thin
    (part_apart p k m a b c d h).rise
    (endpoints_rated p s top k m a b c d (in_piece p k h.from (omega (arith, ints, h.order, h.to)))
    (in_piece p m (omega (arith, ints, h.order, h.from)) h.to) r
    h.order l
    (h.low_held 40 (units_of_56 k) (omega arith) (same_refl (units_of_56 k)))
    (h.high_held 40 (units_of_56 m) (omega arith) (same_refl (units_of_56 m)))) g

part_above : (p : Piece) (k m a b c d j lo hi : ℤ) → j ≤ℤ k → IsPart p k m a b c d → IsHull a b c d lo hi → IsFrom j lo
part_above p k m a b c d j lo hi l h g =
    let f = ranged p k a b h.from (omega (arith, ints, h.order, h.to)) h.low_thin
    (h.low_held 40 (units_of_56 k) (omega arith) (same_refl (units_of_56 k))) in
    let e = ranged p m c d (omega (arith, ints, h.order, h.from)) h.to h.high_thin
    (h.high_held 40 (units_of_56 m) (omega arith) (same_refl (units_of_56 m))) in
    from_lesser j a c lo g.low (from_lower j k a l f.above) (from_lower j m c (omega (arith, ints, l, h.order)) e.above)

part_below : (p : Piece) (k m a b c d j lo hi : ℤ) → m ≤ℤ j → IsPart p k m a b c d → IsHull a b c d lo hi → IsUpTo j hi
part_below p k m a b c d j lo hi l h g =
    let f = ranged p k a b h.from (omega (arith, ints, h.order, h.to)) h.low_thin
    (h.low_held 40 (units_of_56 k) (omega arith) (same_refl (units_of_56 k))) in
    let e = ranged p m c d (omega (arith, ints, h.order, h.from)) h.to h.high_thin
    (h.high_held 40 (units_of_56 m) (omega arith) (same_refl (units_of_56 m))) in
    up_to_greater j b d hi g.high (from_lower (neg_ℤ j) (neg_ℤ k) (neg_ℤ b) (omega (arith, ints, l, h.order)) f.below)
    (from_lower (neg_ℤ j) (neg_ℤ m) (neg_ℤ d) (omega (arith, ints, l)) e.below)

-- ---- at an edge
-- where the arctangent of x in a piece is known
record IsKnown (p : Piece) (x : Fraction) (low high : ℤ) : Type 0 where
  inside : InPiece (piece_of p) x
  known : (piece_of p).arc 40 x ⊆ between (units_of_56 low) (units_of_56 high)

at_edge : (p : Piece) (x : Fraction) (k low high a b : ℤ) → x ≈ units_of_56 k → IsKnown p x low high
    → Holds_arcs p k (between (units_of_56 a) (units_of_56 b))
    → AreMeeting low high a b
at_edge p x k low high a b e f h = meeting _ low high a b ((piece_arc p).proper 40 x f.inside) f.known
    (h 40 x (omega arith) e)

half_above : IsKnown Above half (pos 1914213673314665422) (pos 1914213673314665425)
half_above =
    record {
      inside = record {
        from = record { cross = record { le = tt } };
        to = record { cross = record { le = tt } };
      };
      known = above_half;
    }

three_above : IsKnown Above (whole (pos 3)) (pos 5156805405021422542) (pos 5156805405021422545)
three_above =
    record {
      inside = record {
        from = record { cross = record { le = tt } };
        to = record { cross = record { le = tt } };
      };
      known = above_three;
    }

three_beyond : IsKnown FarAbove (whole (pos 3)) (pos 5156805405021422542) (pos 5156805405021422545)
three_beyond = record {
  inside = record { from = record { cross = record { le = tt } }; to = tt };
  known = beyond_three;
}

half_near : IsKnown Near half (pos 1914213673314665422) (pos 1914213673314665425)
half_near = record {
  inside = record {
    from = record { cross = record { le = tt } };
    to = record { cross = record { le = tt } };
  };
  known = near_half;
}

minus_half_near : IsKnown Near minus_half (neg_ℤ (pos 1914213673314665425)) (neg_ℤ (pos 1914213673314665422))
minus_half_near =
    record {
      inside = record {
        from = record { cross = record { le = tt } };
        to = record { cross = record { le = tt } };
      };
      known = near_minus_half;
    }

minus_half_below : IsKnown Below minus_half (neg_ℤ (pos 1914213673314665425)) (neg_ℤ (pos 1914213673314665422))
minus_half_below =
    record {
      inside = record {
        from = record { cross = record { le = tt } };
        to = record { cross = record { le = tt } };
      };
      known = below_half;
    }

minus_three_below : IsKnown Below (whole (negsuc 2)) (neg_ℤ (pos 5156805405021422545)) (neg_ℤ (pos 5156805405021422542))
minus_three_below =
    record {
      inside = record {
        from = record { cross = record { le = tt } };
        to = record { cross = record { le = tt } };
      };
      known = below_three;
    }

minus_three_beyond : IsKnown FarBelow (whole (negsuc 2)) (neg_ℤ (pos 5156805405021422545))
    (neg_ℤ (pos 5156805405021422542))
minus_three_beyond = record {
  inside = record { from = tt; to = record { cross = record { le = tt } } };
  known = far_below_three;
}

-- the arctangent at the first edge of a piece, and at the last
at_first_edge : (p : Piece) (k a b : ℤ) → k ≡ (first_edge p).place → negsuc (2 ^ 127 - 1) ≤ℤ k
    → Holds_arcs p k (between (units_of_56 a) (units_of_56 b))
    → (a ≤ℤ ((first_edge p).arc +ℤ pos 2)) × ((first_edge p).arc ≤ℤ (b +ℤ pos 2))
at_first_edge FarBelow k a b e l h = absurd (omega (arith, ints, e, l))
at_first_edge Below k a b e l h =
    let m = at_edge Below (whole (negsuc 2)) k _ _ a b (record { cross = omega (arith, ints, e) }) minus_three_below h
    in
    (omega (arith, ints, m.second), omega (arith, ints, m.first))
at_first_edge Near k a b e l h =
    let m = at_edge Near minus_half k _ _ a b (record { cross = omega (arith, ints, e) }) minus_half_near h in
    (omega (arith, ints, m.second), omega (arith, ints, m.first))
at_first_edge Above k a b e l h =
    let m = at_edge Above half k _ _ a b (record { cross = omega (arith, ints, e) }) half_above h in
    (omega (arith, ints, m.second), omega (arith, ints, m.first))
at_first_edge FarAbove k a b e l h =
    let m = at_edge FarAbove (whole (pos 3)) k _ _ a b (record { cross = omega (arith, ints, e) }) three_beyond h in
    (omega (arith, ints, m.second), omega (arith, ints, m.first))

at_last_edge : (p : Piece) (k a b : ℤ) → k ≡ (last_edge p).place → k ≤ℤ pos (2 ^ 127 - 1)
    → Holds_arcs p k (between (units_of_56 a) (units_of_56 b))
    → (a ≤ℤ ((last_edge p).arc +ℤ pos 2)) × ((last_edge p).arc ≤ℤ (b +ℤ pos 2))
at_last_edge FarBelow k a b e l h =
    let m = at_edge FarBelow (whole (negsuc 2)) k _ _ a b (record { cross = omega (arith, ints, e) }) minus_three_beyond
    h in
    (omega (arith, ints, m.second), omega (arith, ints, m.first))
at_last_edge Below k a b e l h =
    let m = at_edge Below minus_half k _ _ a b (record { cross = omega (arith, ints, e) }) minus_half_below h in
    (omega (arith, ints, m.second), omega (arith, ints, m.first))
at_last_edge Near k a b e l h =
    let m = at_edge Near half k _ _ a b (record { cross = omega (arith, ints, e) }) half_near h in
    (omega (arith, ints, m.second), omega (arith, ints, m.first))
at_last_edge Above k a b e l h =
    let m = at_edge Above (whole (pos 3)) k _ _ a b (record { cross = omega (arith, ints, e) }) three_above h in
    (omega (arith, ints, m.second), omega (arith, ints, m.first))
at_last_edge FarAbove k a b e l h = absurd (omega (arith, ints, e, l))

-- ---- where two endpoints meet a piece
pub part_order : (p : Piece) (lo hi k m : ℤ) → lo ≤ℤ hi → k ≡ int_max (begin_56 p) lo → m ≡ int_min (end_56 p) hi
    → begin_56 p ≤ℤ hi → lo ≤ℤ end_56 p → k ≤ℤ m
part_order FarBelow lo hi k m o e f h l = omega (arith, ints, clamps, o, e, f, h, l)
part_order Below lo hi k m o e f h l = omega (arith, ints, clamps, o, e, f, h, l)
part_order Near lo hi k m o e f h l = omega (arith, ints, clamps, o, e, f, h, l)
part_order Above lo hi k m o e f h l = omega (arith, ints, clamps, o, e, f, h, l)
part_order FarAbove lo hi k m o e f h l = omega (arith, ints, clamps, o, e, f, h, l)

-- where the part begins and ends
record IsPlaced (p : Piece) (lo hi k m : ℤ) : Type 0 where
  from : (first_edge p).place ≤ℤ hi
  to : lo ≤ℤ (last_edge p).place
  begin : int_max (first_edge p).place lo ≡ k
  end : int_min (last_edge p).place hi ≡ m
  begins : lo ≤ℤ (first_edge p).place → k ≡ (first_edge p).place
  endpoints : (last_edge p).place ≤ℤ hi → m ≡ (last_edge p).place

-- two endpoints that meet a piece, and the part that they have in common with it
pub record AreCommon (p : Piece) (lo hi k m : ℤ) : Type 0 where
  pub order : lo ≤ℤ hi
  pub least : negsuc (2 ^ 127 - 1) ≤ℤ lo
  pub most : hi ≤ℤ pos (2 ^ 127 - 1)
  pub begun : begin_56 p ≤ℤ hi
  pub ended : lo ≤ℤ end_56 p
  pub begin : k ≡ int_max (begin_56 p) lo
  pub end : m ≡ int_min (end_56 p) hi

placed : (p : Piece) (lo hi k m : ℤ) → AreCommon p lo hi k m → IsPlaced p lo hi k m
placed FarBelow lo hi k m c = record {
  from = omega (arith, ints, c.order, c.least);
  to = c.ended;
  begin = omega (arith, ints, clamps, c.least, c.begin);
  end = omega (arith, ints, clamps, c.end);
  begins = λ h. absurd (omega (arith, ints, c.least, h));
  endpoints = λ h. omega (arith, ints, clamps, c.end, h);
}
placed Below lo hi k m c = record {
  from = c.begun;
  to = c.ended;
  begin = omega (arith, ints, clamps, c.begin);
  end = omega (arith, ints, clamps, c.end);
  begins = λ h. omega (arith, ints, clamps, c.begin, h);
  endpoints = λ h. omega (arith, ints, clamps, c.end, h);
}
placed Near lo hi k m c = record {
  from = c.begun;
  to = c.ended;
  begin = omega (arith, ints, clamps, c.begin);
  end = omega (arith, ints, clamps, c.end);
  begins = λ h. omega (arith, ints, clamps, c.begin, h);
  endpoints = λ h. omega (arith, ints, clamps, c.end, h);
}
placed Above lo hi k m c = record {
  from = c.begun;
  to = c.ended;
  begin = omega (arith, ints, clamps, c.begin);
  end = omega (arith, ints, clamps, c.end);
  begins = λ h. omega (arith, ints, clamps, c.begin, h);
  endpoints = λ h. omega (arith, ints, clamps, c.end, h);
}
placed FarAbove lo hi k m c = record {
  from = c.begun;
  to = omega (arith, ints, c.order, c.most);
  begin = omega (arith, ints, clamps, c.begin);
  end = omega (arith, ints, clamps, c.most, c.end);
  begins = λ h. omega (arith, ints, clamps, c.begin, h);
  endpoints = λ h. absurd (omega (arith, ints, c.most, h));
}

common_from : (p : Piece) (lo hi k m : ℤ) → AreCommon p lo hi k m → lo ≤ℤ k
common_from p lo hi k m c = omega (arith, ints, clamps, c.begin)

common_to : (p : Piece) (lo hi k m : ℤ) → AreCommon p lo hi k m → m ≤ℤ hi
common_to p lo hi k m c = omega (arith, ints, clamps, c.end)

joined_low : (v a c lo : ℤ) → lo ≡ int_min a c → a ≤ℤ (v +ℤ pos 2) → lo ≤ℤ (v +ℤ pos 2)
joined_low v a c lo e h = omega (arith, ints, clamps, e, h)

joined_low_second : (v a c lo : ℤ) → lo ≡ int_min a c → c ≤ℤ (v +ℤ pos 2) → lo ≤ℤ (v +ℤ pos 2)
joined_low_second v a c lo e h = omega (arith, ints, clamps, e, h)

joined_high : (v b d hi : ℤ) → hi ≡ int_max b d → v ≤ℤ (b +ℤ pos 2) → v ≤ℤ (hi +ℤ pos 2)
joined_high v b d hi e h = omega (arith, ints, clamps, e, h)

joined_high_second : (v b d hi : ℤ) → hi ≡ int_max b d → v ≤ℤ (d +ℤ pos 2) → v ≤ℤ (hi +ℤ pos 2)
joined_high_second v b d hi e h = omega (arith, ints, clamps, e, h)

pub part_reaches : (p : Piece) (lo hi k m a b c d : ℤ) (r : Span) → AreCommon p lo hi k m → IsPart p k m a b c d
    → IsHull a b c d r.lo r.hi
    → IsReach (first_edge p) (last_edge p) 80 lo hi r
part_reaches p lo hi k m a b c d r s h g =
    let w = placed p lo hi k m s in
    let l = common_from p lo hi k m s in
    let u = common_to p lo hi k m s in
    record {
      from = w.from;
      to = w.to;
      narrow = rw (w.begin, w.end) (part_narrow k m a b c d r.lo r.hi h.order h.low_thin h.high_thin
          (part_apart p k m a b c d h) g);
      slow = λ z q. rw (w.begin, w.end) (part_rated p z hi k m a b c d r.lo r.hi q u h g);
      at_first = λ e.
          let f = at_first_edge p k a b (w.begins e) (omega (arith, ints, l, s.least)) h.low_held in
          record {
            low = joined_low (first_edge p).arc a c r.lo g.low f.0;
            high = joined_high (first_edge p).arc b d
                r.hi g.high f.1;
          };
      at_last = λ e.
          let f = at_last_edge p m c d (w.endpoints e) (omega (arith, ints, u, s.most)) h.high_held in
          record {
            low = joined_low_second (last_edge p).arc a c r.lo g.low f.0;
            high = joined_high_second
                (last_edge p).arc b d r.hi g.high f.1;
          };
      above = part_above p k m a b c d lo r.lo r.hi l h g;
      below = part_below p k m a b c d hi r.lo r.hi u h g;
    }

-- ---- side by side
-- what the hull of two spans is
join_narrow : (f e l v lo hi a b c d low high : ℤ) (j k : ℕ) → lo ≤ℤ e → e ≤ℤ hi → a ≤ℤ b → c ≤ℤ d → f ≤ℤ e → e ≤ℤ l
    → a ≤ℤ (v +ℤ pos 2) → v ≤ℤ (b +ℤ pos 2)
    → c ≤ℤ (v +ℤ pos 2) → v ≤ℤ (d +ℤ pos 2)
    → ((b -ℤ a) *ℤ pos 10) ≤ℤ ((int_min e hi -ℤ int_max f lo) *ℤ pos 573 +ℤ pos j) → ((d -ℤ c) *ℤ pos 10)
    ≤ℤ ((int_min l hi -ℤ int_max e lo) *ℤ pos 573 +ℤ pos k) → IsHull a b c d low high
    → ((high -ℤ low) *ℤ pos 10) ≤ℤ ((int_min l hi -ℤ int_max f lo) *ℤ pos 573 +ℤ pos (j + k + 40))
join_narrow f e l v lo hi a b c d low high j k p q x y fe el al vb cl vd m n h =
    let s : int_min e hi ≡ e = omega (arith, ints, clamps, q) in
    let t : int_max e lo ≡ e = omega (arith, ints, clamps, p) in
    by_endpoints (int_max f lo) (int_min l hi) (rw s at m) (rw t at n)
  where
    by_endpoints : (from to : ℤ) → ((b -ℤ a) *ℤ pos 10) ≤ℤ ((e -ℤ from) *ℤ pos 573 +ℤ pos j)
        → ((d -ℤ c) *ℤ pos 10) ≤ℤ ((to -ℤ e) *ℤ pos 573 +ℤ pos k)
        → ((high -ℤ low) *ℤ pos 10) ≤ℤ ((to -ℤ from) *ℤ pos 573 +ℤ pos (j + k + 40))
    by_endpoints from to m n = omega (arith, ints, clamps, x, y, al, vb, cl, vd, m, n, h.low, h.high)

join_slow : (e v lo hi a b c d low high fs ls : ℤ) (s j k : ℕ) → lo ≤ℤ e → e ≤ℤ hi → a ≤ℤ b → c ≤ℤ d → a ≤ℤ (v +ℤ pos 2)
    → v ≤ℤ (b +ℤ pos 2)
    → c ≤ℤ (v +ℤ pos 2) → v ≤ℤ (d +ℤ pos 2)
    → ((b -ℤ a) *ℤ pos (10 * 2 ^ 60)) ≤ℤ ((int_min e hi *ℤ pos s -ℤ fs) *ℤ pos 573 +ℤ pos (j * 2 ^ 60))
    → ((d -ℤ c) *ℤ pos (10 * 2 ^ 60))
    ≤ℤ ((ls -ℤ int_max e lo *ℤ pos s) *ℤ pos 573 +ℤ pos (k * 2 ^ 60)) → IsHull a b c d low high
    → ((high -ℤ low) *ℤ pos (10 * 2 ^ 60)) ≤ℤ ((ls -ℤ fs) *ℤ pos 573 +ℤ pos ((j + k + 40) * 2 ^ 60))
join_slow e v lo hi a b c d low high fs ls s j k p q x y al vb cl vd m n h =
    let g : int_min e hi ≡ e = omega (arith, ints, clamps, q) in
    let t : int_max e lo ≡ e = omega (arith, ints, clamps, p) in
    by_endpoints (e *ℤ pos s) (rw g at m) (rw t at n)
  where
    by_endpoints : (es : ℤ) → ((b -ℤ a) *ℤ pos (10 * 2 ^ 60)) ≤ℤ ((es -ℤ fs) *ℤ pos 573 +ℤ pos (j * 2 ^ 60))
        → ((d -ℤ c) *ℤ pos (10 * 2 ^ 60)) ≤ℤ ((ls -ℤ es) *ℤ pos 573 +ℤ pos (k * 2 ^ 60))
        → ((high -ℤ low) *ℤ pos (10 * 2 ^ 60)) ≤ℤ ((ls -ℤ fs) *ℤ pos 573 +ℤ pos ((j + k + 40) * 2 ^ 60))
    by_endpoints es m n = omega (arith, ints, clamps, x, y, al, vb, cl, vd, m, n, h.low, h.high)

pub both_reach : (f e l : Edge) (j k : ℕ) (lo hi : ℤ) (x y r : Span) → f.place ≤ℤ e.place → e.place ≤ℤ l.place
    → IsReach f e j lo hi x
    → IsReach e l k lo hi y → IsHull x.lo x.hi y.lo y.hi r.lo r.hi → IsReach f l (j + k + 40) lo hi r
both_reach f e l j k lo hi x y r fe el p q h =
    let u = p.at_last q.from in
    let v = q.at_first p.to in
    record {
      from = p.from;
      to = q.to;
      narrow =
          join_narrow f.place e.place l.place e.arc lo hi x.lo x.hi y.lo y.hi r.lo r.hi j k p.to q.from x.ordered
          y.ordered fe el u.low u.high v.low v.high
          p.narrow q.narrow h;
      slow =
          λ z i. join_slow e.place e.arc lo hi x.lo x.hi y.lo y.hi r.lo r.hi (int_max f.place lo *ℤ pos z)
          (int_min l.place hi *ℤ pos z) z j k p.to q.from
          x.ordered y.ordered u.low u.high v.low v.high (p.slow z i) (q.slow z i) h;
      at_first =
          λ s. let t = p.at_first s in
          record {
            low = joined_low f.arc x.lo y.lo r.lo h.low t.low;
            high = joined_high f.arc x.hi y.hi r.hi h.high
                t.high;
          };
      at_last =
          λ s. let t =
          q.at_last s in record {
            low = joined_low_second l.arc x.lo y.lo r.lo h.low t.low;
            high = joined_high_second
                l.arc x.hi y.hi r.hi h.high t.high;
          };
      above = from_lesser lo x.lo y.lo r.lo h.low p.above q.above;
      below = up_to_greater hi x.hi y.hi r.hi h.high p.below q.below;
    }

wider : (n lo : ℤ) (j k : ℕ) → n ≤ℤ (lo +ℤ pos j) → n ≤ℤ (lo +ℤ pos (j + k + 40))
wider n lo j k h = omega (arith, ints, h)

wider_second : (n lo : ℤ) (j k : ℕ) → n ≤ℤ (lo +ℤ pos k) → n ≤ℤ (lo +ℤ pos (j + k + 40))
wider_second n lo j k h = omega (arith, ints, h)

wider_slow : (n lo : ℤ) (j k : ℕ) → n ≤ℤ (lo +ℤ pos (j * 2 ^ 60)) → n ≤ℤ (lo +ℤ pos ((j + k + 40) * 2 ^ 60))
wider_slow n lo j k h = omega (arith, ints, h)

wider_slow_second : (n lo : ℤ) (j k : ℕ) → n ≤ℤ (lo +ℤ pos (k * 2 ^ 60)) → n ≤ℤ (lo +ℤ pos ((j + k + 40) * 2 ^ 60))
wider_slow_second n lo j k h = omega (arith, ints, h)

pub first_reaches : (f e l : Edge) (j k : ℕ) (lo hi : ℤ) (x : Span) → lo ≤ℤ hi → f.place ≤ℤ e.place → e.place ≤ℤ l.place
    → IsReach f e j lo hi x
    → Reaches e l k lo hi None → IsReach f l (j + k + 40) lo hi x
first_reaches f e l j k lo hi x o fe el p (inr q) = absurd (omega (arith, ints, p.to, el, q))
first_reaches f e l j k lo hi x o fe el p (inl q) =
    let s : int_min e.place hi ≡ hi = omega (arith, ints, clamps, q) in
    let t : int_min l.place hi ≡ hi = omega (arith, ints, clamps, q, el) in
    record {
      from = p.from;
      to = omega (arith, ints, p.to, el);
      narrow = rw t (wider _ _ j k (rw s at p.narrow));
      slow = λ z i. rw t (wider_slow _ _ j k (rw s at (p.slow z i)));
      at_first = p.at_first;
      at_last = λ h. absurd (omega (arith, ints, q, el, h));
      above = p.above;
      below = p.below;
    }

pub second_reaches : (f e l : Edge) (j k : ℕ) (lo hi : ℤ) (y : Span) → lo ≤ℤ hi → f.place ≤ℤ e.place
    → e.place ≤ℤ l.place → Reaches f e j lo hi None
    → IsReach e l k lo hi y → IsReach f l (j + k + 40) lo hi y
second_reaches f e l j k lo hi y o fe el (inl p) q = absurd (omega (arith, ints, p, fe, q.from))
second_reaches f e l j k lo hi y o fe el (inr p) q =
    let s : int_max e.place lo ≡ lo = omega (arith, ints, clamps, p) in
    let t : int_max f.place lo ≡ lo = omega (arith, ints, clamps, p, fe) in
    record {
      from = omega (arith, ints, q.from, fe);
      to = q.to;
      narrow = rw t (wider_second _ _ j k (rw s at q.narrow));
      slow = λ z i. rw t (wider_slow_second _ _ j k (rw s at (q.slow z i)));
      at_first = λ h. absurd (omega (arith, ints, p, fe, h));
      at_last = q.at_last;
      above = q.above;
      below = q.below;
    }

pub none_reaches : (f e l : Edge) (j k : ℕ) (lo hi : ℤ) → lo ≤ℤ hi → f.place ≤ℤ e.place → e.place ≤ℤ l.place
    → Reaches f e j lo hi None
    → Reaches e l k lo hi None → (hi <ℤ f.place) ⊎ (l.place <ℤ lo)
none_reaches f e l j k lo hi o fe el (inl p) q = inl p
none_reaches f e l j k lo hi o fe el (inr p) (inl q) = absurd (omega (arith, ints, o, p, q))
none_reaches f e l j k lo hi o fe el (inr p) (inr q) = inr q

pub second_reach : (f e l : Edge) (j k : ℕ) (lo hi : ℤ) (y : Option Span) → lo ≤ℤ hi → f.place ≤ℤ e.place
    → e.place ≤ℤ l.place → Reaches f e j lo hi None
    → Reaches e l k lo hi y → Reaches f l (j + k + 40) lo hi y
second_reach f e l j k lo hi None o fe el p q = none_reaches f e l j k lo hi o fe el p q
second_reach f e l j k lo hi (Some y) o fe el p q = second_reaches f e l j k lo hi y o fe el p q

-- ---- all pieces
-- two endpoints that don't meet a piece
pub unbegun : (p : Piece) (hi : ℤ) → negsuc (2 ^ 127 - 1) ≤ℤ hi → hi <ℤ begin_56 p → hi <ℤ (first_edge p).place
unbegun FarBelow hi l h = absurd (omega (arith, ints, l, h))
unbegun Below hi l h = h
unbegun Near hi l h = h
unbegun Above hi l h = h
unbegun FarAbove hi l h = h

pub ended : (p : Piece) (lo : ℤ) → lo ≤ℤ pos (2 ^ 127 - 1) → end_56 p <ℤ lo → (last_edge p).place <ℤ lo
ended FarBelow lo l h = h
ended Below lo l h = h
ended Near lo l h = h
ended Above lo l h = h
ended FarAbove lo l h = absurd (omega (arith, ints, l, h))

pub all_over : (lo hi : ℤ) (y : Option Span) → lo ≤ℤ hi → negsuc (2 ^ 127 - 1) ≤ℤ lo → hi ≤ℤ pos (2 ^ 127 - 1)
    → Reaches no_begin no_end 560 lo hi y
    → AreOver lo hi y
all_over lo hi None o l u (inl h) = absurd (omega (arith, ints, o, l, h))
all_over lo hi None o l u (inr h) = absurd (omega (arith, ints, o, u, h))
all_over lo hi (Some r) o l u h =
    let s : int_max no_begin.place lo ≡ lo = omega (arith, ints, clamps, l) in
    let t : int_min no_end.place hi ≡ hi = omega (arith, ints, clamps, u) in
    record { narrow = rw (s, t) at h.narrow; slow = λ z i. rw (s, t) at (h.slow z i); above = h.above; below = h.below }
