-- Where the arctangents of a part of a piece lie and how far apart they are, and the same of parts side by side. An
-- arctangent is off those at the edges, which are known (`ArcAnchors`), by at most the slope times the distance; that
-- gives its range, of a number from each side, and opposites give that of the negative pieces.
use Rattle.std.proofs.Common.{◌≡◌, ◌*◌, ◌^◌, subst, arith, ℤ, pos, negsuc, ◌+ℤ◌, ◌-ℤ◌, ◌*ℤ◌, ◌≤ℤ◌, ◌⊎◌, inl, inr}
use Rattle.std.specs.Int.{int_min, int_max}
use Rattle.std.proofs.lemmas.Int.{ints, clamps}
use lib.IntN.{neg_ℤ}
use Rattle.book_model.specs.Fraction.{whole, plus}
use Rattle.book_model.specs.Interval.{between, ◌⊆◌, one, minus_one}
use Rattle.book_model.proofs.Certificates.{zero_F}
use Rattle.book_model.specs.programs.Leading.{units_of_56}
use Rattle.book_model.specs.numbers.Arcs.{half, minus_half}
use Rattle.book_model.proofs.ArcPieces.{InPiece}
use Rattle.arc_series.specs.declared.pieces.Piece.{Piece}
use Rattle.arc_series.specs.declared.pieces.Piece.TheVariants.{FarBelow, Below, Near, Above, FarAbove}
use Rattle.arc_series.specs.Forms.{piece_of, begin_56, end_56}
use Rattle.arc_series.specs.Widths.{IsThin, IsFrom, IsUpTo}
use Rattle.arc_series.proofs.ArcAnchors.{near_half, near_minus_half, near_none, above_half, above_one, above_three}
use Rattle.arc_series.proofs.ArcAnchors.{beyond_three, below_half, below_one}
use Rattle.arc_series.proofs.ArcAnchors.{below_three, far_below_three, AreApart, apart, in_quarters}

split : (j k : ℤ) → (j ≤ℤ k) ⊎ ((k +ℤ pos 1) ≤ℤ j)
split j k = grind (arith, ints)

-- ---- numbers of pieces
pub in_piece : (p : Piece) (k : ℤ) → begin_56 p ≤ℤ k → k ≤ℤ end_56 p → InPiece (piece_of p) (units_of_56 k)
in_piece FarBelow k h l = record { from = tt; to = record { cross = omega (arith, ints, l) } }
in_piece Below k h l = record {
  from = record { cross = omega (arith, ints, h) };
  to = record { cross = omega (arith, ints, l) };
}
in_piece Near k h l = record {
  from = record { cross = omega (arith, ints, h) };
  to = record { cross = omega (arith, ints, l) };
}
in_piece Above k h l = record {
  from = record { cross = omega (arith, ints, h) };
  to = record { cross = omega (arith, ints, l) };
}
in_piece FarAbove k h l = record { from = record { cross = omega (arith, ints, h) }; to = tt }

-- ---- what an arctangent is off those at the edges, and at -1, 0 and 1
-- endpoints that hold the arctangent of k in a piece
abbrev pub Holds : Piece → (k lo hi : ℤ) → Type 0
Holds p k lo hi = (piece_of p).arc 40 (units_of_56 k) ⊆ between (units_of_56 lo) (units_of_56 hi)

near_from_none : (k lo hi : ℤ) → InPiece (piece_of Near) (units_of_56 k) → pos 0 ≤ℤ k → Holds Near k lo hi
    → AreApart (k -ℤ (pos 0)) (pos 0) (pos 0) lo hi
unfolding plus
near_from_none k lo hi w h i =
    apart Near zero_F (units_of_56 k) _ _ _ lo hi
    (record { from = record { cross = record { le = tt } }; to = record { cross = record { le = tt } } }) w
    (record { cross = omega (arith, ints, h) }) (record { cross = omega (arith, ints) }) near_none i

near_from_half : (k lo hi : ℤ) → InPiece (piece_of Near) (units_of_56 k) → neg_ℤ (pos (2 ^ 55)) ≤ℤ k
    → Holds Near k lo hi
    → AreApart (k -ℤ (neg_ℤ (pos (2 ^ 55)))) (neg_ℤ (pos 1914213673314665425)) (neg_ℤ (pos 1914213673314665422)) lo hi
unfolding plus
near_from_half k lo hi w h i =
    apart Near minus_half (units_of_56 k) _ _ _ lo hi
    (record { from = record { cross = record { le = tt } }; to = record { cross = record { le = tt } } }) w
    (record { cross = omega (arith, ints, h) }) (record { cross = omega (arith, ints) }) near_minus_half i

near_to_half : (k lo hi : ℤ) → InPiece (piece_of Near) (units_of_56 k) → k ≤ℤ (pos (2 ^ 55)) → Holds Near k lo hi
    → AreApart ((pos (2 ^ 55)) -ℤ k) lo hi (pos 1914213673314665422) (pos 1914213673314665425)
unfolding plus
near_to_half k lo hi w h i =
    apart Near (units_of_56 k) half _ lo hi _ _ w
    (record { from = record { cross = record { le = tt } }; to = record { cross = record { le = tt } } })
    (record { cross = omega (arith, ints, h) }) (record { cross = omega (arith, ints) }) i near_half

near_to_none : (k lo hi : ℤ) → InPiece (piece_of Near) (units_of_56 k) → k ≤ℤ (pos 0) → Holds Near k lo hi
    → AreApart ((pos 0) -ℤ k) lo hi (pos 0) (pos 0)
unfolding plus
near_to_none k lo hi w h i =
    apart Near (units_of_56 k) zero_F _ lo hi _ _ w
    (record { from = record { cross = record { le = tt } }; to = record { cross = record { le = tt } } })
    (record { cross = omega (arith, ints, h) }) (record { cross = omega (arith, ints) }) i near_none

above_from_half : (k lo hi : ℤ) → InPiece (piece_of Above) (units_of_56 k) → pos (2 ^ 55) ≤ℤ k → Holds Above k lo hi
    → AreApart (k -ℤ (pos (2 ^ 55))) (pos 1914213673314665422) (pos 1914213673314665425) lo hi
unfolding plus
above_from_half k lo hi w h i =
    apart Above half (units_of_56 k) _ _ _ lo hi
    (record { from = record { cross = record { le = tt } }; to = record { cross = record { le = tt } } }) w
    (record { cross = omega (arith, ints, h) }) (record { cross = omega (arith, ints) }) above_half i

above_from_one : (k lo hi : ℤ) → InPiece (piece_of Above) (units_of_56 k) → pos (2 ^ 56) ≤ℤ k → Holds Above k lo hi
    → AreApart (k -ℤ (pos (2 ^ 56))) (pos (45 * 2 ^ 56)) (pos (45 * 2 ^ 56)) lo hi
unfolding plus
above_from_one k lo hi w h i =
    apart Above one (units_of_56 k) _ _ _ lo hi
    (record { from = record { cross = record { le = tt } }; to = record { cross = record { le = tt } } }) w
    (record { cross = omega (arith, ints, h) }) (record { cross = omega (arith, ints) }) above_one i

above_to_one : (k lo hi : ℤ) → InPiece (piece_of Above) (units_of_56 k) → k ≤ℤ (pos (2 ^ 56)) → Holds Above k lo hi
    → AreApart ((pos (2 ^ 56)) -ℤ k) lo hi (pos (45 * 2 ^ 56)) (pos (45 * 2 ^ 56))
unfolding plus
above_to_one k lo hi w h i =
    apart Above (units_of_56 k) one _ lo hi _ _ w
    (record { from = record { cross = record { le = tt } }; to = record { cross = record { le = tt } } })
    (record { cross = omega (arith, ints, h) }) (record { cross = omega (arith, ints) }) i above_one

above_to_three : (k lo hi : ℤ) → InPiece (piece_of Above) (units_of_56 k) → k ≤ℤ (pos (3 * 2 ^ 56))
    → Holds Above k lo hi
    → AreApart ((pos (3 * 2 ^ 56)) -ℤ k) lo hi (pos 5156805405021422542) (pos 5156805405021422545)
unfolding plus
above_to_three k lo hi w h i =
    apart Above (units_of_56 k) (whole (pos 3)) _ lo hi _ _ w
    (record { from = record { cross = record { le = tt } }; to = record { cross = record { le = tt } } })
    (record { cross = omega (arith, ints, h) })
    (record { cross = omega (arith, ints) }) i above_three

beyond_from_three : (k lo hi : ℤ) → InPiece (piece_of FarAbove) (units_of_56 k) → pos (3 * 2 ^ 56) ≤ℤ k
    → Holds FarAbove k lo hi
    → AreApart (k -ℤ (pos (3 * 2 ^ 56))) (pos 5156805405021422542) (pos 5156805405021422545) lo hi
unfolding plus
beyond_from_three k lo hi w h i =
    apart FarAbove (whole (pos 3)) (units_of_56 k) _ _ _ lo hi
    (record { from = record { cross = record { le = tt } }; to = tt }) w
    (record { cross = omega (arith, ints, h) }) (record { cross = omega (arith, ints) }) beyond_three i

below_to_half : (k lo hi : ℤ) → InPiece (piece_of Below) (units_of_56 k) → k ≤ℤ (neg_ℤ (pos (2 ^ 55)))
    → Holds Below k lo hi
    → AreApart ((neg_ℤ (pos (2 ^ 55))) -ℤ k) lo hi (neg_ℤ (pos 1914213673314665425)) (neg_ℤ (pos 1914213673314665422))
unfolding plus
below_to_half k lo hi w h i =
    apart Below (units_of_56 k) minus_half _ lo hi _ _ w
    (record { from = record { cross = record { le = tt } }; to = record { cross = record { le = tt } } })
    (record { cross = omega (arith, ints, h) }) (record { cross = omega (arith, ints) }) i below_half

below_to_one : (k lo hi : ℤ) → InPiece (piece_of Below) (units_of_56 k) → k ≤ℤ (neg_ℤ (pos (2 ^ 56)))
    → Holds Below k lo hi
    → AreApart ((neg_ℤ (pos (2 ^ 56))) -ℤ k) lo hi (neg_ℤ (pos (45 * 2 ^ 56))) (neg_ℤ (pos (45 * 2 ^ 56)))
unfolding plus
below_to_one k lo hi w h i =
    apart Below (units_of_56 k) minus_one _ lo hi _ _ w
    (record { from = record { cross = record { le = tt } }; to = record { cross = record { le = tt } } })
    (record { cross = omega (arith, ints, h) }) (record { cross = omega (arith, ints) }) i below_one

below_from_one : (k lo hi : ℤ) → InPiece (piece_of Below) (units_of_56 k) → neg_ℤ (pos (2 ^ 56)) ≤ℤ k
    → Holds Below k lo hi
    → AreApart (k -ℤ (neg_ℤ (pos (2 ^ 56)))) (neg_ℤ (pos (45 * 2 ^ 56))) (neg_ℤ (pos (45 * 2 ^ 56))) lo hi
unfolding plus
below_from_one k lo hi w h i =
    apart Below minus_one (units_of_56 k) _ _ _ lo hi
    (record { from = record { cross = record { le = tt } }; to = record { cross = record { le = tt } } }) w
    (record { cross = omega (arith, ints, h) }) (record { cross = omega (arith, ints) }) below_one i

below_from_three : (k lo hi : ℤ) → InPiece (piece_of Below) (units_of_56 k) → neg_ℤ (pos (3 * 2 ^ 56)) ≤ℤ k
    → Holds Below k lo hi
    → AreApart (k -ℤ (neg_ℤ (pos (3 * 2 ^ 56)))) (neg_ℤ (pos 5156805405021422545)) (neg_ℤ (pos 5156805405021422542)) lo
    hi
unfolding plus
below_from_three k lo hi w h i =
    apart Below (whole (negsuc 2)) (units_of_56 k) _ _ _ lo hi
    (record { from = record { cross = record { le = tt } }; to = record { cross = record { le = tt } } }) w
    (record { cross = omega (arith, ints, h) })
    (record { cross = omega (arith, ints) }) below_three i

far_to_three : (k lo hi : ℤ) → InPiece (piece_of FarBelow) (units_of_56 k) → k ≤ℤ (neg_ℤ (pos (3 * 2 ^ 56)))
    → Holds FarBelow k lo hi
    → AreApart ((neg_ℤ (pos (3 * 2 ^ 56))) -ℤ k) lo hi (neg_ℤ (pos 5156805405021422545))
    (neg_ℤ (pos 5156805405021422542))
unfolding plus
far_to_three k lo hi w h i =
    apart FarBelow (units_of_56 k) (whole (negsuc 2)) _ lo hi _ _ w
    (record { from = tt; to = record { cross = record { le = tt } } })
    (record { cross = omega (arith, ints, h) }) (record { cross = omega (arith, ints) }) i far_below_three

-- ---- where the arctangent of a number in a piece lies
pub record IsRanged (k lo hi : ℤ) : Type 0 where
  pub above : IsFrom k lo
  pub below : IsUpTo k hi

near_ranged : (k lo hi : ℤ) → begin_56 Near ≤ℤ k → k ≤ℤ end_56 Near → IsThin lo hi → Holds Near k lo hi
    → IsRanged k lo hi
near_ranged k lo hi g l t h = by_sign (split (pos 0) k)
  where
    w : InPiece (piece_of Near) (units_of_56 k)
    w = in_piece Near k g l

    by_endpoints : AreApart (k -ℤ neg_ℤ (pos (2 ^ 55))) (neg_ℤ (pos 1914213673314665425))
        (neg_ℤ (pos 1914213673314665422)) lo hi
        → AreApart (pos (2 ^ 55) -ℤ k) lo hi (pos 1914213673314665422) (pos 1914213673314665425)
        → int_min (pos 0) (k *ℤ pos 573) ≤ℤ ((lo +ℤ pos 10) *ℤ pos 10)
        → int_min (pos 0) (neg_ℤ k *ℤ pos 573) ≤ℤ ((neg_ℤ hi +ℤ pos 10) *ℤ pos 10)
        → IsRanged k lo hi
    by_endpoints a b m n = record {
      above = record {
        quarter = omega (arith, ints, a.rise, t.thin);
        minus_one = omega (arith, ints, clamps, a.rise, t.thin);
        none = m;
        one = omega (arith, ints, clamps, b.climb, t.thin);
      };
      below = record {
        quarter = omega (arith, ints, b.rise, t.thin);
        minus_one = omega (arith, ints, clamps, b.rise, t.thin);
        none = n;
        one = omega (arith, ints, clamps, a.climb, t.thin);
      };
    }

    by_sign : (pos 0 ≤ℤ k) ⊎ ((k +ℤ pos 1) ≤ℤ pos 0) → IsRanged k lo hi
    by_sign (inl s) =
        let o = near_from_none k lo hi w s h in
        by_endpoints (near_from_half k lo hi w g h) (near_to_half k lo hi w l h)
        (omega (arith, ints, clamps, o.rise, s, t.thin))
        (omega (arith, ints, clamps, o.climb, s, t.thin))
    by_sign (inr s) =
        let o = near_to_none k lo hi w (omega (arith, ints, s)) h in
        by_endpoints (near_from_half k lo hi w g h) (near_to_half k lo hi w l h)
        (omega (arith, ints, clamps, o.climb, s, t.thin))
        (omega (arith, ints, clamps, o.rise, s, t.thin))

-- what is known of the arctangent of a number from 1/2 to 3
record IsAbove (k lo hi : ℤ) : Type 0 where
  thin : hi ≤ℤ (lo +ℤ pos 4)
  from : pos (2 ^ 55) ≤ℤ k
  least : pos 1914213673314665422 ≤ℤ hi
  most : (lo *ℤ pos 10) ≤ℤ (pos 1914213673314665425 *ℤ pos 10 +ℤ (k -ℤ pos (2 ^ 55)) *ℤ pos 573)
  last : lo ≤ℤ pos 5156805405021422545
  one_below : int_min (pos 0) ((k -ℤ pos (2 ^ 56)) *ℤ pos 573) ≤ℤ ((lo -ℤ pos (45 * 2 ^ 56) +ℤ pos 10) *ℤ pos 10)
  one_above : int_min (pos 0) ((neg_ℤ k +ℤ pos (2 ^ 56)) *ℤ pos 573)
      ≤ℤ ((neg_ℤ hi +ℤ pos (45 * 2 ^ 56) +ℤ pos 10) *ℤ pos 10)

above_from : (k lo hi : ℤ) → IsAbove k lo hi → IsFrom k lo
above_from k lo hi a = record {
  quarter = omega (arith, ints, a.least, a.thin);
  minus_one = omega (arith, ints, clamps, a.least, a.thin);
  none = omega (arith, ints, clamps, a.least, a.thin);
  one = a.one_below;
}

above_to : (k lo hi : ℤ) → IsAbove k lo hi → IsUpTo k hi
above_to k lo hi a = record {
  quarter = omega (arith, ints, a.last, a.thin);
  minus_one = a.one_above;
  none = omega (arith, ints, clamps, a.most, a.thin, a.from);
  one = omega (arith, ints, clamps, a.most, a.thin, a.from);
}

above_known : (k lo hi : ℤ) → begin_56 Above ≤ℤ k → k ≤ℤ end_56 Above → IsThin lo hi → Holds Above k lo hi
    → IsAbove k lo hi
above_known k lo hi g l t h = by_side (split (pos (2 ^ 56)) k)
  where
    w : InPiece (piece_of Above) (units_of_56 k)
    w = in_piece Above k g l

    by_one : int_min (pos 0) ((k -ℤ pos (2 ^ 56)) *ℤ pos 573) ≤ℤ ((lo -ℤ pos (45 * 2 ^ 56) +ℤ pos 10) *ℤ pos 10)
        → int_min (pos 0) ((neg_ℤ k +ℤ pos (2 ^ 56)) *ℤ pos 573) ≤ℤ ((neg_ℤ hi +ℤ pos (45 * 2 ^ 56) +ℤ pos 10) *ℤ pos
        10) → IsAbove k lo hi
    by_one m n =
        let a = above_from_half k lo hi w g h in
        record {
          thin = t.thin;
          from = g;
          least = a.rise;
          most = a.climb;
          last = (above_to_three k lo hi w l h).rise;
          one_below = m;
          one_above = n;
        }

    by_side : (pos (2 ^ 56) ≤ℤ k) ⊎ ((k +ℤ pos 1) ≤ℤ pos (2 ^ 56)) → IsAbove k lo hi
    by_side (inl s) = let o = above_from_one k lo hi w s h in by_one (omega (arith, ints, clamps, o.rise, s, t.thin))
        (omega (arith, ints, clamps, o.climb, s, t.thin))
    by_side (inr s) = let o = above_to_one k lo hi w (omega (arith, ints, s)) h in
        by_one (omega (arith, ints, clamps, o.climb, s, t.thin))
        (omega (arith, ints, clamps, o.rise, s, t.thin))

below_known : (k lo hi : ℤ) → begin_56 Below ≤ℤ k → k ≤ℤ end_56 Below → IsThin lo hi → Holds Below k lo hi
    → IsAbove (neg_ℤ k) (neg_ℤ hi) (neg_ℤ lo)
below_known k lo hi g l t h = by_side (split k (neg_ℤ (pos (2 ^ 56))))
  where
    w : InPiece (piece_of Below) (units_of_56 k)
    w = in_piece Below k g l

    by_one : int_min (pos 0) ((neg_ℤ k -ℤ pos (2 ^ 56)) *ℤ pos 573)
        ≤ℤ ((neg_ℤ hi -ℤ pos (45 * 2 ^ 56) +ℤ pos 10) *ℤ pos 10)
        → int_min (pos 0) ((neg_ℤ (neg_ℤ k) +ℤ pos (2 ^ 56)) *ℤ pos 573)
        ≤ℤ ((neg_ℤ (neg_ℤ lo) +ℤ pos (45 * 2 ^ 56) +ℤ pos 10) *ℤ pos 10)
        → IsAbove (neg_ℤ k) (neg_ℤ hi) (neg_ℤ lo)
    by_one m n =
        let a = below_to_half k lo hi w l h in
        let b = below_from_three k lo hi w g h in
        record {
          thin = omega (arith, ints, t.thin);
          from = omega (arith, ints, l);
          least = omega (arith, ints, a.rise);
          most = omega (arith, ints, a.climb);
          last = omega (arith, ints, b.rise);
          one_below = m;
          one_above = n;
        }

    by_side : (k ≤ℤ neg_ℤ (pos (2 ^ 56))) ⊎ ((neg_ℤ (pos (2 ^ 56)) +ℤ pos 1) ≤ℤ k)
        → IsAbove (neg_ℤ k) (neg_ℤ hi) (neg_ℤ lo)
    by_side (inl s) = let o = below_to_one k lo hi w s h in by_one (omega (arith, ints, clamps, o.rise, s, t.thin))
        (omega (arith, ints, clamps, o.climb, s, t.thin))
    by_side (inr s) = let o = below_from_one k lo hi w (omega (arith, ints, s)) h in
        by_one (omega (arith, ints, clamps, o.climb, s, t.thin))
        (omega (arith, ints, clamps, o.rise, s, t.thin))

-- and of that of one from 3 on
record IsBeyond (k lo hi : ℤ) : Type 0 where
  thin : hi ≤ℤ (lo +ℤ pos 4)
  from : pos (3 * 2 ^ 56) ≤ℤ k
  least : pos 5156805405021422542 ≤ℤ hi
  last : lo ≤ℤ pos (90 * 2 ^ 56)

beyond_from : (k lo hi : ℤ) → IsBeyond k lo hi → IsFrom k lo
beyond_from k lo hi a = record {
  quarter = omega (arith, ints, a.least, a.thin);
  minus_one = omega (arith, ints, clamps, a.least, a.thin);
  none = omega (arith, ints, clamps, a.least, a.thin);
  one = omega (arith, ints, clamps, a.least, a.thin);
}

beyond_to : (k lo hi : ℤ) → IsBeyond k lo hi → IsUpTo k hi
beyond_to k lo hi a = record {
  quarter = omega (arith, ints, a.last, a.thin);
  minus_one = omega (arith, ints, clamps, a.last, a.thin, a.from);
  none = omega (arith, ints, clamps, a.last, a.thin, a.from);
  one = omega (arith, ints, clamps, a.last, a.thin, a.from);
}

beyond_known : (k lo hi : ℤ) → begin_56 FarAbove ≤ℤ k → k ≤ℤ end_56 FarAbove → IsThin lo hi → Holds FarAbove k lo hi
    → IsBeyond k lo hi
beyond_known k lo hi g l t h =
    let w = in_piece FarAbove k g l in record {
      thin = t.thin;
      from = g;
      least = (beyond_from_three k lo hi w g h).rise;
      last = (in_quarters FarAbove (units_of_56 k) lo hi w h).first;
    }

far_known : (k lo hi : ℤ) → begin_56 FarBelow ≤ℤ k → k ≤ℤ end_56 FarBelow → IsThin lo hi → Holds FarBelow k lo hi
    → IsBeyond (neg_ℤ k) (neg_ℤ hi) (neg_ℤ lo)
far_known k lo hi g l t h =
    let w = in_piece FarBelow k g l in
    let a = far_to_three k lo hi w l h in
    let b = in_quarters FarBelow (units_of_56 k) lo hi w h in
    record {
      thin = omega (arith, ints, t.thin);
      from = omega (arith, ints, l);
      least = omega (arith, ints, a.rise);
      last = omega (arith, ints, b.second);
    }

twice : (k : ℤ) → neg_ℤ (neg_ℤ k) ≡ k
twice k = omega (arith, ints)

-- what is above for an opposite is below for a number
turned_from : (k z : ℤ) → IsUpTo (neg_ℤ k) (neg_ℤ z) → IsFrom k z
turned_from k z h = subst (λ y. IsFrom y z) (twice k) (subst (λ y. IsFrom (neg_ℤ (neg_ℤ k)) y) (twice z) h)

pub ranged : (p : Piece) (k lo hi : ℤ) → begin_56 p ≤ℤ k → k ≤ℤ end_56 p → IsThin lo hi → Holds p k lo hi
    → IsRanged k lo hi
ranged FarBelow k lo hi g l t h = let a = far_known k lo hi g l t h in
    record { above = turned_from k lo (beyond_to _ _ _ a); below = beyond_from _ _ _ a }
ranged Below k lo hi g l t h = let a = below_known k lo hi g l t h in
    record { above = turned_from k lo (above_to _ _ _ a); below = above_from _ _ _ a }
ranged Near k lo hi g l t h = near_ranged k lo hi g l t h
ranged Above k lo hi g l t h = let a = above_known k lo hi g l t h in
    record { above = above_from k lo hi a; below = above_to k lo hi a }
ranged FarAbove k lo hi g l t h = let a = beyond_known k lo hi g l t h in
    record { above = beyond_from k lo hi a; below = beyond_to k lo hi a }

-- ---- from fewer numbers on, and of the lesser of two
pub from_lower : (j k z : ℤ) → j ≤ℤ k → IsFrom k z → IsFrom j z
from_lower j k z h f = record {
  quarter = f.quarter;
  minus_one = omega (arith, ints, clamps, h, f.minus_one);
  none = omega (arith, ints, clamps, h, f.none);
  one = omega (arith, ints, clamps, h, f.one);
}

pub from_lesser : (k y z m : ℤ) → m ≡ int_min y z → IsFrom k y → IsFrom k z → IsFrom k m
from_lesser k y z m e f g = by_split (split y z)
  where
    by_split : (y ≤ℤ z) ⊎ ((z +ℤ pos 1) ≤ℤ y) → IsFrom k m
    by_split (inl l) = let d : y ≡ m = omega (arith, ints, clamps, e, l) in subst (λ x. IsFrom k x) d f
    by_split (inr l) = let d : z ≡ m = omega (arith, ints, clamps, e, l) in subst (λ x. IsFrom k x) d g

pub up_to_greater : (k y z m : ℤ) → m ≡ int_max y z → IsUpTo k y → IsUpTo k z → IsUpTo k m
up_to_greater k y z m e f g = from_lesser (neg_ℤ k) (neg_ℤ y) (neg_ℤ z) (neg_ℤ m) (omega (arith, ints, clamps, e)) f g
