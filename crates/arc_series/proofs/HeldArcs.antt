-- From spans at single numbers to those of what two endpoints have in common with the pieces. An arctangent grows with
-- its number, so that the hull of the spans at both ends of a part holds all between; what an interval has in common
-- with the pieces, one after the other, is all of it.
use Rattle.std.proofs.Common.{◌≡◌, ℕ, ◌≤◌, ◌-◌, ◌^◌, refl, arith, Bool, true, false, cond, ℤ, pos, negsuc, ◌+ℤ◌, ◌≤ℤ◌}
use Rattle.std.proofs.Common.{◌<ℤ◌, ◌⊎◌, inl, inr, Option, Some}
use Rattle.std.proofs.Common.{None, List, [], ◌∷◌, ◌++◌, map}
use Rattle.std.specs.Prelude.{IfSome}
use Rattle.std.specs.List.{filter}
use Rattle.std.specs.Int.{int_min, int_max}
use Rattle.std.proofs.lemmas.Int.{ints, clamps}
use Rattle.book_model.specs.Fraction.{Fraction, ◌≤F◌, ◌≈◌, whole, smaller, larger}
use Rattle.book_model.specs.Interval.{Interval, between, ◌⊆◌}
use Rattle.book_model.proofs.Same.{same_of_le}
use Rattle.book_model.proofs.Fractions.{le_trans, smaller_keeps, larger_keeps, smaller_first, smaller_second}
use Rattle.book_model.proofs.Fractions.{larger_first, larger_second}
use Rattle.book_model.proofs.Intervals.{within_trans}
use Rattle.book_model.proofs.Hulls.{hull_least}
use Rattle.book_model.specs.programs.Leading.{units_of_56}
use Rattle.book_model.specs.numbers.Octants.{only}
use Rattle.book_model.specs.numbers.Arcs.{half, minus_half, Piece as ArcPiece, pieces, meets, arc_of_part, arcs_over}
use Rattle.book_model.specs.numbers.Arcs.{arctangent_of}
use Rattle.book_model.proofs.ArcPieces.{IsFrom, IsTo}
use Rattle.book_model.proofs.Arcs.{met_out, low_of, high_of, Each, all_least, arcs_there}
use Rattle.arc_series.specs.declared.pieces.Piece.{Piece}
use Rattle.arc_series.specs.declared.pieces.Piece.TheVariants.{FarBelow, Below, Near, Above, FarAbove}
use Rattle.arc_series.specs.Forms.{piece_of, AreHeld, begin_56, end_56}

-- ---- one number and two
only_same : (x y : Fraction) → only x ⊆ only y → x ≈ y
only_same x y h = same_of_le h.endpoints.1 h.endpoints.0

pub hull_first : (a b c d lo hi : ℤ) → lo ≡ int_min a c → hi ≡ int_max b d → (i : Interval)
    → i ⊆ between (units_of_56 a) (units_of_56 b)
    → i ⊆ between (units_of_56 lo) (units_of_56 hi)
hull_first a b c d lo hi e f i h =
    within_trans h
    (record {
      endpoints = (
        record { cross = omega (arith, ints, clamps, e) },
        record { cross = omega (arith, ints, clamps, f) },
      );
    })

pub hull_second : (a b c d lo hi : ℤ) → lo ≡ int_min a c → hi ≡ int_max b d → (i : Interval)
    → i ⊆ between (units_of_56 c) (units_of_56 d)
    → i ⊆ between (units_of_56 lo) (units_of_56 hi)
hull_second a b c d lo hi e f i h =
    within_trans h
    (record {
      endpoints = (
        record { cross = omega (arith, ints, clamps, e) },
        record { cross = omega (arith, ints, clamps, f) },
      );
    })

-- ---- the endpoints of parts
split : (j k : ℤ) → (j ≤ℤ k) ⊎ ((k +ℤ pos 1) ≤ℤ j)
split j k = grind (arith, ints)

-- where f is b at scale 2^-56
larger_at : (f : Fraction) (b x : ℤ) → f ≤F units_of_56 b → units_of_56 b ≤F f → only (larger f (units_of_56 x)) ⊆ only
    (units_of_56 (int_max b x))
larger_at f b x h k = record {
  endpoints = (
    by_split (split x b),
    larger_keeps (λ z. z ≤F units_of_56 (int_max b x)) f (units_of_56 x)
        (le_trans _ (units_of_56 b) _ h (record { cross = omega (arith, ints, clamps) }))
        (record { cross = omega (arith, ints, clamps) }),
  );
}
  where
    by_split : (x ≤ℤ b) ⊎ ((b +ℤ pos 1) ≤ℤ x) → units_of_56 (int_max b x) ≤F larger f (units_of_56 x)
    by_split (inl l) = le_trans _ (units_of_56 b) _ (record { cross = omega (arith, ints, clamps, l) })
        (le_trans _ f _ k (larger_first f (units_of_56 x)))
    by_split (inr l) = le_trans _ (units_of_56 x) _ (record { cross = omega (arith, ints, clamps, l) })
        (larger_second f (units_of_56 x))

smaller_at : (f : Fraction) (b x : ℤ) → f ≤F units_of_56 b → units_of_56 b ≤F f
    → only (smaller f (units_of_56 x)) ⊆ only (units_of_56 (int_min b x))
smaller_at f b x h k = record {
  endpoints = (
    smaller_keeps (λ z. units_of_56 (int_min b x) ≤F z) f (units_of_56 x)
        (le_trans _ (units_of_56 b) _ (record { cross = omega (arith, ints, clamps) }) k)
        (record { cross = omega (arith, ints, clamps) }),
    by_split (split b x),
  );
}
  where
    by_split : (b ≤ℤ x) ⊎ ((x +ℤ pos 1) ≤ℤ b) → smaller f (units_of_56 x) ≤F units_of_56 (int_min b x)
    by_split (inl l) = le_trans _ f _ (smaller_first f (units_of_56 x))
        (le_trans _ (units_of_56 b) _ h (record { cross = omega (arith, ints, clamps, l) }))
    by_split (inr l) = le_trans _ (units_of_56 x) _ (smaller_second f (units_of_56 x))
        (record { cross = omega (arith, ints, clamps, l) })

low_only : (p : Piece) (x : ℤ) → negsuc (2 ^ 127 - 1) ≤ℤ x → only (low_of (piece_of p) (units_of_56 x)) ⊆ only
    (units_of_56 (int_max (begin_56 p) x))
low_only FarBelow x h =
    record {
      endpoints = (
        record { cross = omega (arith, ints, clamps, h) },
        record { cross = omega (arith, ints, clamps, h) },
      );
    }
low_only Below x h = larger_at (whole (negsuc 2)) (begin_56 Below) x (record { cross = omega (arith, ints) })
    (record { cross = omega (arith, ints) })
low_only Near x h = larger_at minus_half (begin_56 Near) x (record { cross = omega (arith, ints) })
    (record { cross = omega (arith, ints) })
low_only Above x h = larger_at half (begin_56 Above) x (record { cross = omega (arith, ints) })
    (record { cross = omega (arith, ints) })
low_only FarAbove x h = larger_at (whole (pos 3)) (begin_56 FarAbove) x (record { cross = omega (arith, ints) })
    (record { cross = omega (arith, ints) })

high_only : (p : Piece) (x : ℤ) → x ≤ℤ pos (2 ^ 127 - 1) → only (high_of (piece_of p) (units_of_56 x)) ⊆ only
    (units_of_56 (int_min (end_56 p) x))
high_only FarBelow x h = smaller_at (whole (negsuc 2)) (end_56 FarBelow) x (record { cross = omega (arith, ints) })
    (record { cross = omega (arith, ints) })
high_only Below x h = smaller_at minus_half (end_56 Below) x (record { cross = omega (arith, ints) })
    (record { cross = omega (arith, ints) })
high_only Near x h = smaller_at half (end_56 Near) x (record { cross = omega (arith, ints) })
    (record { cross = omega (arith, ints) })
high_only Above x h = smaller_at (whole (pos 3)) (end_56 Above) x (record { cross = omega (arith, ints) })
    (record { cross = omega (arith, ints) })
high_only FarAbove x h =
    record {
      endpoints = (
        record { cross = omega (arith, ints, clamps, h) },
        record { cross = omega (arith, ints, clamps, h) },
      );
    }

begun_says : (p : Piece) (x : ℤ) → negsuc (2 ^ 127 - 1) ≤ℤ x → IsFrom ((piece_of p).begin) (units_of_56 x)
    → begin_56 p ≤ℤ x
begun_says FarBelow x h f = h
begun_says Below x h f = omega (arith, ints, f.cross)
begun_says Near x h f = omega (arith, ints, f.cross)
begun_says Above x h f = omega (arith, ints, f.cross)
begun_says FarAbove x h f = omega (arith, ints, f.cross)

ended_says : (p : Piece) (x : ℤ) → x ≤ℤ pos (2 ^ 127 - 1) → IsTo ((piece_of p).end) (units_of_56 x) → x ≤ℤ end_56 p
ended_says FarBelow x h f = omega (arith, ints, f.cross)
ended_says Below x h f = omega (arith, ints, f.cross)
ended_says Near x h f = omega (arith, ints, f.cross)
ended_says Above x h f = omega (arith, ints, f.cross)
ended_says FarAbove x h f = h

-- ---- the part in a piece
none_by : {E : Type 0} (shown : E → Interval) (g : ArcPiece → Interval) (p : ArcPiece) (t : Bool) (y : Option E)
    → (t ≡ true → ⊥)
    → AreHeld shown (map g (cond t (p ∷ []) [])) y
none_by shown g p true y h = absurd (h refl)
none_by shown g p false y h = tt

some_by : {E : Type 0} (shown : E → Interval) (g : ArcPiece → Interval) (p : ArcPiece) (t : Bool) (r : E)
    → (t ≡ true → g p ⊆ shown r)
    → AreHeld shown (map g (cond t (p ∷ []) [])) (Some r)
some_by shown g p true r h = (h refl, tt)
some_by shown g p false r h = tt

pub unbegun_held : {E : Type 0} (shown : E → Interval) (n : ℕ) (p : Piece) (lo hi : ℤ) (y : Option E)
    → negsuc (2 ^ 127 - 1) ≤ℤ hi → hi <ℤ begin_56 p
    → AreHeld shown (arcs_over n (units_of_56 lo) (units_of_56 hi) (piece_of p ∷ [])) y
unbegun_held shown n p lo hi y h k =
    none_by shown (arc_of_part n (units_of_56 lo) (units_of_56 hi)) (piece_of p)
    (meets (units_of_56 lo) (units_of_56 hi) (piece_of p)) y λ t.
    let m = met_out (piece_of p) (units_of_56 lo) (units_of_56 hi) t in
    let l = begun_says p hi h m.begun in
    omega (arith, ints, l, k)

pub ended_held : {E : Type 0} (shown : E → Interval) (n : ℕ) (p : Piece) (lo hi : ℤ) (y : Option E)
    → lo ≤ℤ pos (2 ^ 127 - 1) → end_56 p <ℤ lo
    → AreHeld shown (arcs_over n (units_of_56 lo) (units_of_56 hi) (piece_of p ∷ [])) y
ended_held shown n p lo hi y h k =
    none_by shown (arc_of_part n (units_of_56 lo) (units_of_56 hi)) (piece_of p)
    (meets (units_of_56 lo) (units_of_56 hi) (piece_of p)) y λ t.
    let m = met_out (piece_of p) (units_of_56 lo) (units_of_56 hi) t in
    let l = ended_says p lo h m.ended in
    omega (arith, ints, l, k)

-- an interval holds the arctangents of a number in a piece
abbrev pub Holds_arcs : Piece → ℤ → Interval → Type 0
Holds_arcs p k i = (n : ℕ) (x : Fraction) → 40 ≤ n → x ≈ units_of_56 k → (piece_of p).arc n x ⊆ i

pub over_held : {E : Type 0} (shown : E → Interval) (n : ℕ) (p : Piece) (lo hi k m : ℤ) (low high : Interval) (r : E)
    → 40 ≤ n → negsuc (2 ^ 127 - 1) ≤ℤ lo
    → hi ≤ℤ pos (2 ^ 127 - 1)
    → k ≡ int_max (begin_56 p) lo → m ≡ int_min (end_56 p) hi → Holds_arcs p k low → Holds_arcs p m high
    → ((i : Interval) → i ⊆ low → i ⊆ shown r)
    → ((i : Interval) → i ⊆ high → i ⊆ shown r)
    → AreHeld shown (arcs_over n (units_of_56 lo) (units_of_56 hi) (piece_of p ∷ [])) (Some r)
unfolding arc_of_part
over_held shown n p lo hi k m low high r d hl hh ek em fl fh gl gh =
    some_by shown (arc_of_part n (units_of_56 lo) (units_of_56 hi)) (piece_of p)
    (meets (units_of_56 lo) (units_of_56 hi) (piece_of p)) r λ t.
    let a = only_same (low_of (piece_of p) (units_of_56 lo)) (units_of_56 k) (rw ek (low_only p lo hl)) in
    let b = only_same (high_of (piece_of p) (units_of_56 hi)) (units_of_56 m) (rw em (high_only p hi hh)) in
    hull_least (gl _ (fl n _ d a)) (gh _ (fh n _ d b))

-- a part begins and ends in its piece
pub part_from : (p : Piece) (lo hi k : ℤ) → k ≡ int_max (begin_56 p) lo → lo ≤ℤ end_56 p → (begin_56 p ≤ℤ k)
    × (k ≤ℤ end_56 p)
part_from FarBelow lo hi k e h = (omega (arith, ints, clamps, e), omega (arith, ints, clamps, e, h))
part_from Below lo hi k e h = (omega (arith, ints, clamps, e), omega (arith, ints, clamps, e, h))
part_from Near lo hi k e h = (omega (arith, ints, clamps, e), omega (arith, ints, clamps, e, h))
part_from Above lo hi k e h = (omega (arith, ints, clamps, e), omega (arith, ints, clamps, e, h))
part_from FarAbove lo hi k e h = (omega (arith, ints, clamps, e), omega (arith, ints, clamps, e, h))

pub part_to : (p : Piece) (lo hi k : ℤ) → k ≡ int_min (end_56 p) hi → begin_56 p ≤ℤ hi → (begin_56 p ≤ℤ k)
    × (k ≤ℤ end_56 p)
part_to FarBelow lo hi k e h = (omega (arith, ints, clamps, e, h), omega (arith, ints, clamps, e))
part_to Below lo hi k e h = (omega (arith, ints, clamps, e, h), omega (arith, ints, clamps, e))
part_to Near lo hi k e h = (omega (arith, ints, clamps, e, h), omega (arith, ints, clamps, e))
part_to Above lo hi k e h = (omega (arith, ints, clamps, e, h), omega (arith, ints, clamps, e))
part_to FarAbove lo hi k e h = (omega (arith, ints, clamps, e, h), omega (arith, ints, clamps, e))

-- ---- what there is of two
both_held : {E : Type 0} (shown : E → Interval) (is js : List Interval) (x y r : E)
    → ((i : Interval) → i ⊆ shown x → i ⊆ shown r)
    → ((j : Interval) → j ⊆ shown y → j ⊆ shown r)
    → AreHeld shown is (Some x) → AreHeld shown js (Some y) → AreHeld shown (is ++ js) (Some r)
both_held shown [] [] x y r f g h k = tt
both_held shown [] (j ∷ js) x y r f g h k = (g j k.0, both_held shown [] js x y r f g h k.1)
both_held shown (i ∷ is) js x y r f g h k = (f i h.0, both_held shown is js x y r f g h.1 k)

pub join_both : {E : Type 0} (shown : E → Interval) (is js : List Interval) (x y r : E) → AreHeld shown is (Some x)
    → AreHeld shown js (Some y)
    → ((i : Interval) → i ⊆ shown x → i ⊆ shown r) → ((j : Interval) → j ⊆ shown y → j ⊆ shown r)
    → AreHeld shown (is ++ js) (Some r)
join_both shown is js x y r h k f g = both_held shown is js x y r f g h k

pub join_first : {E : Type 0} (shown : E → Interval) (is js : List Interval) (x : E) → AreHeld shown is (Some x)
    → AreHeld shown js None
    → AreHeld shown (is ++ js) (Some x)
join_first shown [] [] x h k = tt
join_first shown [] (j ∷ js) x h k = absurd k
join_first shown (i ∷ is) js x h k = (h.0, join_first shown is js x h.1 k)

pub join_second : {E : Type 0} (shown : E → Interval) (is js : List Interval) (y : Option E) → AreHeld shown is None
    → AreHeld shown js y
    → AreHeld shown (is ++ js) y
join_second shown [] js y h k = k
join_second shown (i ∷ is) js y h k = absurd h

-- ---- all pieces
more_by : {E : Type 0} (shown : E → Interval) (g : ArcPiece → Interval) (p : ArcPiece) (ps : List ArcPiece) (t : Bool)
    (y : Option E)
    → AreHeld shown (map g (cond t (p ∷ []) []) ++ map g ps) y → AreHeld shown (map g (cond t (p ∷ ps) ps)) y
more_by shown g p ps true y h = h
more_by shown g p ps false y h = h

-- one piece more
pub more_held : {E : Type 0} (shown : E → Interval) (n : ℕ) (a b : Fraction) (p : ArcPiece) (ps : List ArcPiece)
    (y : Option E)
    → AreHeld shown (arcs_over n a b (p ∷ []) ++ arcs_over n a b ps) y → AreHeld shown (arcs_over n a b (p ∷ ps)) y
more_held shown n a b p ps y h = more_by shown (arc_of_part n a b) p (filter (meets a b) ps) (meets a b p) y h

each_held : {E : Type 0} (shown : E → Interval) (is : List Interval) (e : E) → AreHeld shown is (Some e)
    → Each (λ i. i ⊆ shown e) is
each_held shown [] e h = tt
each_held shown (i ∷ is) e h = (h.0, each_held shown is e h.1)

pub all_held : {E : Type 0} (shown : E → Interval) (n : ℕ) (lo hi : ℤ) (e : E) → lo ≤ℤ hi
    → AreHeld shown (arcs_over n (units_of_56 lo) (units_of_56 hi) pieces) (Some e)
    → arctangent_of n (between (units_of_56 lo) (units_of_56 hi)) ⊆ shown e
unfolding arctangent_of
all_held shown n lo hi e o h =
    all_least (arcs_over n (units_of_56 lo) (units_of_56 hi) pieces) (shown e)
    (arcs_there n (units_of_56 lo) (units_of_56 hi) (record { cross = omega (arith, ints, o) })) (each_held shown _ e h)

pub some_held : {E : Type 0} (shown : E → Interval) (lo hi : ℤ) (y : Option E) → lo ≤ℤ hi
    → ((n : ℕ) → 40 ≤ n → AreHeld shown (arcs_over n (units_of_56 lo) (units_of_56 hi) pieces) y)
    → IfSome y (λ e. (n : ℕ) → 40 ≤ n → arctangent_of n (between (units_of_56 lo) (units_of_56 hi)) ⊆ shown e)
some_held shown lo hi None o h = tt
some_held shown lo hi (Some e) o h = λ n d. all_held shown n lo hi e o (h n d)
