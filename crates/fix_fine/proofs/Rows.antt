-- The table of widths, from the endpoints that the operations give. A row speaks of the widths and sizes of enclosures;
-- of one with endpoints these are their distance and the greater of their sizes, in whole numbers, and of one without
-- there is nothing to show. Then a row is the `close` and `some` clauses of its operation, with room for 128 bits from
-- the sizes; the lesser, the greater and the hull go by the bounds that just their arguments' endpoints keep.
use Rattle.std.proofs.Common.{◌≡◌, ℕ, suc, ◌*◌, ◌^◌, ◌≤◌, ◌<◌, ◌+◌, arith, refl, Bool, true, max, unsigned_abs, ℤ, pos}
use Rattle.std.proofs.Common.{◌+ℤ◌, ◌*ℤ◌, ◌-ℤ◌, ◌≤ℤ◌, ◌⊎◌, inl, inr, SFits, [], ◌∷◌, Option, Some, None}
use Rattle.std.specs.Prelude.{neg_ℤ, nat_lt, IfSome, IsSome, ◌-◌, ◌/◌, ◌&&◌}
use Rattle.std.specs.Int.{w64, w128, int_min, int_max}
use Rattle.std.proofs.Math.Nat.{mul-le-mul_left}
use Rattle.std.proofs.lemmas.Int.{ints, clamps, by_lt_z}
use Rattle.book_model.specs.Fraction.{Fraction}
use Rattle.book_model.specs.Interval.{Interval, everything, between}
use Rattle.book_model.proofs.Ring.{at, lit, ◌⊕◌, ◌⊖◌, ◌⊗◌}
use Rattle.book_model.proofs.Bounds.{◌≼◌, known, ◌⊞◌, ◌⊠◌, times as naturally, refute}
use Rattle.interval_endpoints.specs.Scales.{fine, at_scale}
use Rattle.interval_endpoints.specs.Rounding.{ShowsEndpoints, fitting, too_large}
use Rattle.interval_endpoints.proofs.Products.{bounded_product}
use Rattle.std.proofs.lemmas.Bool.{lt-ltb}
use Rattle.book_model.specs.Fraction.{◌≤F◌, smaller, larger, floor_quotient}
use Rattle.book_model.specs.Interval.{◌⊆◌, hull}
use Rattle.book_model.proofs.Fractions.{le_trans, smaller_keeps, larger_keeps, smaller_first, smaller_second}
use Rattle.book_model.proofs.Fractions.{larger_first, larger_second}
use Rattle.book_model.specs.numbers.Bounds.{Bound, bounded, limited, minimum_bound, maximum_bound, clamp_bound}
use Rattle.book_model.specs.numbers.Bounds.{remainder_bound, integer_bound, IsNarrow, constant_bound, widen_bound}
use Rattle.book_model.specs.numbers.Bounds.{floor_at_32, ceil_at_32, margin_32, range_size}
use Rattle.encl_core.proofs.Quotients.{floor_quotient_floor}
use Rattle.interval_endpoints.specs.Scales.{limits_on}
use Rattle.interval_endpoints.specs.Shown.{shown_endpoints, shown_of, HasEndpoints}
use Rattle.interval_endpoints.specs.declared.endpoints.Endpoints.{Endpoints}
use Rattle.interval_endpoints.specs.contracts.word.I128MachineWord.TheImpl.{ghosts}
use Rattle.interval_endpoints.proofs.Keeping.{kept_of, spans_of}
use Rattle.interval_endpoints.proofs.OnEndpoints.{shows}
use Rattle.interval_products.specs.Room.{HaveProducts, HaveFineQuotients, HaveQuotientsBy, HasRoot}
use Rattle.interval_products.specs.Close.{IsCloseProduct, IsCloseSquare, IsCloseQuotient, IsCloseRoot, OfOne, OfTwo}
use Rattle.interval_products.specs.Close.{ThereOfOne, ThereOfTwo}
use Rattle.fix_fine.specs.Table.{IsKnown, width_of, size_of, IsIntegerRow, IsFractionRow, IsSumRow, IsMovedRow}
use Rattle.fix_fine.specs.Table.{IsCutRow, IsChoiceRow, IsHullRow, IsProductRow, IsFactorRow, IsSquareRow, IsLeastSize}
use Rattle.fix_fine.specs.Table.{IsQuotientRow, IsRootRow, IsWidenedRow}

-- the interval of two endpoints
abbrev pub endpoints : ℤ → ℤ → Interval
endpoints x y = between (at_scale fine x) (at_scale fine y)

-- endpoints that fit are known
shown_known : (lo hi : ℤ) (i : Interval) → ShowsEndpoints fine lo hi i → SFits w128 lo → SFits w128 hi → IsKnown i
shown_known lo hi (between a b) h f g = tt
shown_known lo hi everything (too_large n) f g = absurd (n f g)

-- what holds of the endpoints' distance holds of the width
shown_wide : (lo hi : ℤ) (i : Interval) → ShowsEndpoints fine lo hi i → IsKnown i → width_of i ≡ hi -ℤ lo
shown_wide lo hi (between a b) fitting k = refl
shown_wide lo hi everything h k = absurd k

-- ---- whole numbers and fractions
pub integer_row : (n : ℤ) (i : Interval) → SFits w128 n → ShowsEndpoints fine n n i → IsIntegerRow i
integer_row n i f h = let k = shown_known n n i h f f in
    record { known = k; wide = rw (shown_wide n n i h k) (omega (arith, ints)) }

-- ---- sums
pub sum_row : (x y x' y' lo hi : ℤ) (i : Interval) → lo ≡ x +ℤ x' → hi ≡ y +ℤ y' → ShowsEndpoints fine lo hi i
    → IsSumRow (endpoints x y) (endpoints x' y') i
sum_row x y x' y' lo hi i e f h = record {
  known = λ p q s t. shown_known lo hi i h (omega (arith, ints, e, s, t)) (omega (arith, ints, f, s, t));
  wide = λ p q k. rw (shown_wide lo hi i h k) (omega (arith, ints, e, f));
}

pub difference_row : (x y x' y' lo hi : ℤ) (i : Interval) → lo ≡ x -ℤ y' → hi ≡ y -ℤ x' → ShowsEndpoints fine lo hi i
    → IsSumRow (endpoints x y) (endpoints x' y') i
difference_row x y x' y' lo hi i e f h = record {
  known = λ p q s t. shown_known lo hi i h (omega (arith, ints, e, s, t)) (omega (arith, ints, f, s, t));
  wide = λ p q k. rw (shown_wide lo hi i h k) (omega (arith, ints, e, f));
}

pub sum_row_first : (y i : Interval) → IsSumRow everything y i
sum_row_first y i = record { known = λ p q s t. absurd p; wide = λ p q k. absurd p }

pub sum_row_second : (x i : Interval) → IsSumRow x everything i
sum_row_second x i = record { known = λ p q s t. absurd q; wide = λ p q k. absurd q }

-- ---- what is moved
pub moved_row : (x y lo hi : ℤ) (i : Interval) → (max (unsigned_abs x) (unsigned_abs y) < 2 ^ 124 → SFits w128 lo
    × SFits w128 hi) → hi -ℤ lo ≡ y -ℤ x
    → ShowsEndpoints fine lo hi i → IsMovedRow (endpoints x y) i
moved_row x y lo hi i f e h = record {
  known = λ p s. let g = f s in shown_known lo hi i h g.0 g.1;
  wide = λ p k. rw (shown_wide lo hi i h k) (omega (arith, ints, e));
}

pub opposite_row : (x y lo hi : ℤ) (i : Interval) → lo ≡ pos 0 -ℤ y → hi ≡ pos 0 -ℤ x → ShowsEndpoints fine lo hi i
    → IsMovedRow (endpoints x y) i
opposite_row x y lo hi i e f h = moved_row x y lo hi i (λ s. (omega (arith, ints, e, s), omega (arith, ints, f, s)))
    (omega (arith, ints, e, f)) h

pub moved_row_all : (i : Interval) → IsMovedRow everything i
moved_row_all i = record { known = λ p s. absurd p; wide = λ p k. absurd p }

-- ---- the lesser and the greater
pub lesser_row : (x y x' y' : ℤ) → x ≤ℤ y → x' ≤ℤ y' → IsChoiceRow (endpoints x y) (endpoints x' y')
    (endpoints (int_min x x') (int_min y y'))
lesser_row x y x' y' o p = record { known = λ a b. tt; wide = λ a b. omega (arith, ints, clamps, o, p) }

pub greater_row : (x y x' y' : ℤ) → x ≤ℤ y → x' ≤ℤ y' → IsChoiceRow (endpoints x y) (endpoints x' y')
    (endpoints (int_max x x') (int_max y y'))
greater_row x y x' y' o p = record { known = λ a b. tt; wide = λ a b. omega (arith, ints, clamps, o, p) }

pub choice_row_first : (y i : Interval) → IsChoiceRow everything y i
choice_row_first y i = record { known = λ p q. absurd p; wide = λ p q. absurd p }

pub choice_row_second : (x i : Interval) → IsChoiceRow x everything i
choice_row_second x i = record { known = λ p q. absurd q; wide = λ p q. absurd q }

-- ---- products
-- products of numbers of sizes whose product is below 2^126 have room
roomy_by : (x y : ℤ) (a b : ℕ) → (pos 0 -ℤ pos a) ≤ℤ x → x ≤ℤ pos a → (pos 0 -ℤ pos b) ≤ℤ y → y ≤ℤ pos b
    → a * b < 2 ^ 126 → SFits w128 (x *ℤ y)
roomy_by x y a b h0 h1 h2 h3 l = let p = bounded_product x y (pos a) (pos b) h0 h1 h2 h3 in
    omega (arith, ints, p.above, p.below, l)

roomy_sizes : (x y c d : ℤ) → size_of (endpoints x y) * size_of (endpoints c d) < 2 ^ 126 → HaveProducts fine x y c d
roomy_sizes x y c d l =
    let a = max (unsigned_abs x) (unsigned_abs y) in
    let b = max (unsigned_abs c) (unsigned_abs d) in
    record {
      first = roomy_by x c a b (omega (arith, ints)) (omega (arith, ints)) (omega (arith, ints)) (omega (arith, ints))
          l;
      second = roomy_by x d a b (omega (arith, ints)) (omega (arith, ints)) (omega (arith, ints)) (omega (arith, ints))
          l;
      third = roomy_by y c a b (omega (arith, ints)) (omega (arith, ints)) (omega (arith, ints)) (omega (arith, ints))
          l;
      fourth = roomy_by y d a b (omega (arith, ints)) (omega (arith, ints)) (omega (arith, ints)) (omega (arith, ints))
          l;
    }

below_square : (a : ℕ) → a < 2 ^ 63 → a * a < 2 ^ 126
below_square a l = let m = mul-le-mul_left a l in omega (arith, l, m)

-- ---- quotients
-- quotients of numbers of size A by divisors of size B from m on have room
fine_by : (A B m : ℕ) (a b c d : ℤ) → a ≤ℤ b → c ≤ℤ d → (pos 0 -ℤ pos A) ≤ℤ a → b ≤ℤ pos A → d ≤ℤ pos B → pos m ≤ℤ c
    → B < 2 ^ 70 → A < 2 ^ 50 * m
    → HaveFineQuotients a b c d
fine_by A B m a b c d o r la lb ld lm hb ha = record {
  divisor = omega (arith, ints, ld, hb);
  above = omega (arith, ints, la, lm, ha);
  below = omega (arith, ints, lb, lm, ha);
}

-- a divisor from m on, and one of the opposites
quotients_fit : (x y c d : ℤ) (m : ℕ) → x ≤ℤ y → c ≤ℤ d → 0 < m → IsLeastSize (pos m) (endpoints c d)
    → size_of (endpoints c d) < 2 ^ 70 → size_of (endpoints x y) < 2 ^ 50 * m
    → HaveQuotientsBy fine x y c d
quotients_fit x y c d m o r z (inl l) s t =
    inl (
      omega (arith, ints, z, l),
      fine_by (max (unsigned_abs x) (unsigned_abs y)) (max (unsigned_abs c) (unsigned_abs d)) m x y c d o r
          (omega (arith, ints))
          (omega (arith, ints)) (omega (arith, ints)) l s t,
    )
quotients_fit x y c d m o r z (inr l) s t =
    inr (
      omega (arith, ints, z, l),
      (
        record {
          first = omega (arith, ints, s, t, l);
          second = omega (arith, ints, s, t, l);
          third = omega (arith, ints, s);
          fourth = omega (arith, ints, s);
        },
        fine_by (max (unsigned_abs x) (unsigned_abs y)) (max (unsigned_abs c) (unsigned_abs d)) m (pos 0 -ℤ y)
            (pos 0 -ℤ x) (pos 0 -ℤ d) (pos 0 -ℤ c)
            (omega (arith, ints, o)) (omega (arith, ints, r)) (omega (arith, ints)) (omega (arith, ints))
            (omega (arith, ints)) (omega (arith, ints, l)) s t,
      ),
    )

-- ---- as endpoints of 128 bits
abbrev pub FineEndpoints : Type 0
FineEndpoints = Endpoints ℤ ghosts

pub sum_of_endpoints : (x y r : Option FineEndpoints)
    → IfSome x (λ p. IfSome y (λ q. HasEndpoints (p.lo +ℤ q.lo) (p.hi +ℤ q.hi) r))
    → IsSumRow (shown_endpoints x) (shown_endpoints y) (shown_endpoints r)
sum_of_endpoints None y r h = sum_row_first (shown_endpoints y) (shown_endpoints r)
sum_of_endpoints (Some p) None r h = sum_row_second (shown_endpoints (Some p)) (shown_endpoints r)
sum_of_endpoints (Some p) (Some q) r h = sum_row p.lo p.hi q.lo q.hi _ _ (shown_endpoints r) refl refl (shows _ _ r h)

pub difference_of_endpoints : (x y r : Option FineEndpoints)
    → IfSome x (λ p. IfSome y (λ q. HasEndpoints (p.lo -ℤ q.hi) (p.hi -ℤ q.lo) r))
    → IsSumRow (shown_endpoints x) (shown_endpoints y) (shown_endpoints r)
difference_of_endpoints None y r h = sum_row_first (shown_endpoints y) (shown_endpoints r)
difference_of_endpoints (Some p) None r h = sum_row_second (shown_endpoints (Some p)) (shown_endpoints r)
difference_of_endpoints (Some p) (Some q) r h = difference_row p.lo p.hi q.lo q.hi _ _ (shown_endpoints r) refl refl
    (shows _ _ r h)

pub opposite_of_endpoints : (x r : Option FineEndpoints)
    → IfSome x (λ p. HasEndpoints (pos 0 -ℤ p.hi) (pos 0 -ℤ p.lo) r)
    → IsMovedRow (shown_endpoints x) (shown_endpoints r)
opposite_of_endpoints None r h = moved_row_all (shown_endpoints r)
opposite_of_endpoints (Some p) r h = opposite_row p.lo p.hi _ _ (shown_endpoints r) refl refl (shows _ _ r h)

-- ---- products, squares, quotients and roots, by what their operations say of the endpoints
pub product_of_endpoints : (x y r : Option FineEndpoints) → OfTwo (IsCloseProduct fine) x y r
    → ThereOfTwo (HaveProducts fine) x y r
    → IsProductRow (shown_endpoints x) (shown_endpoints y) (shown_endpoints r)
product_of_endpoints None y r c s = record { known = λ p q l. absurd p; wide = λ p q k. absurd p }
product_of_endpoints (Some p) None r c s = record { known = λ a b l. absurd b; wide = λ a b k. absurd b }
product_of_endpoints (Some p) (Some q) (Some e) c s = record { known = λ a b l. tt; wide = λ a b k. c }
product_of_endpoints (Some p) (Some q) None c s = record {
  known = λ a b l. let z = s refl (roomy_sizes p.lo p.hi q.lo q.hi l) in absurd (cc);
  wide = λ a b k.
      absurd k;
}

pub square_of_endpoints : (x r : Option FineEndpoints) → OfOne (IsCloseSquare fine) x r
    → ThereOfOne (λ lo hi. HaveProducts fine lo hi lo hi) x r
    → IsSquareRow (shown_endpoints x) (shown_endpoints r)
square_of_endpoints None r c s = record { known = λ p l. absurd p; wide = λ p k. absurd p }
square_of_endpoints (Some p) (Some e) c s = record { known = λ a l. tt; wide = λ a k. c }
square_of_endpoints (Some p) None c s = record {
  known = λ a l. let z =
      s refl (roomy_sizes p.lo p.hi p.lo p.hi (below_square (max (unsigned_abs p.lo) (unsigned_abs p.hi)) l)) in
      absurd (cc);
  wide = λ a k. absurd k;
}

pub quotient_of_endpoints : (x y r : Option FineEndpoints) → OfTwo (IsCloseQuotient fine) x y r
    → ThereOfTwo (HaveQuotientsBy fine) x y r
    → IsQuotientRow (shown_endpoints x) (shown_endpoints y) (shown_endpoints r)
quotient_of_endpoints None y r c s = record { known = λ p q m z l a b. absurd p; wide = λ p q k. absurd p }
quotient_of_endpoints (Some p) None r c s = record { known = λ a b m z l t u. absurd b; wide = λ a b k. absurd b }
quotient_of_endpoints (Some p) (Some q) (Some e) c s =
    record { known = λ a b m z l t u. tt; wide = λ a b k m z l. c m z l }
quotient_of_endpoints (Some p) (Some q) None c s = record {
  known = λ a b m z l t u. let v = s refl (quotients_fit p.lo p.hi q.lo q.hi m p.ordered q.ordered z l t u) in
      absurd (cc);
  wide = λ a b k. absurd k;
}

pub root_of_endpoints : (x r : Option FineEndpoints) → OfOne (IsCloseRoot fine) x r
    → ThereOfOne (λ lo hi. HasRoot fine hi) x r → IsRootRow (shown_endpoints x) (shown_endpoints r)
root_of_endpoints None r c s = record { known = λ p l. absurd p; wide = λ p k. absurd p }
root_of_endpoints (Some p) (Some e) c s = record { known = λ a l. tt; wide = λ a k. c }
root_of_endpoints (Some p) None c s = record {
  known = λ a l. let z = s refl (omega (arith, ints, l)) in
      absurd (cc);
  wide = λ a k. absurd k;
}

-- ---- by the bounds that just these endpoints keep
abbrev bound_of_endpoints : ℤ → ℤ → Bound
bound_of_endpoints x y = bounded (floor_quotient x (2 ^ 24 - 1)) (neg_ℤ (floor_quotient (neg_ℤ y) (2 ^ 24 - 1))) 0
    (unsigned_abs (y -ℤ x) * 2 ^ 8)

endpoints_narrow : (x y : ℤ) → x ≤ℤ y → IsNarrow 0 (bound_of_endpoints x y) (endpoints x y)
unfolding IsNarrow
endpoints_narrow x y o =
    let f = (floor_quotient_floor x (2 ^ 24 - 1)).not_above in
    let g = (floor_quotient_floor (neg_ℤ y) (2 ^ 24 - 1)).not_above in
    spans_of fine _ _ _ _ 0 x y (record {
      ordered = o;
      above = omega (arith, ints, f);
      below = omega (arith, ints, g);
      close = omega (arith, ints, o);
    })

pub lesser_of_endpoints : (x y r : Option FineEndpoints) → ((w : ℕ) (a b : Bound) → IsNarrow w a (shown_endpoints x)
    → IsNarrow w b (shown_endpoints y)
    → IsNarrow w (minimum_bound a b) (shown_endpoints r)) → IsChoiceRow (shown_endpoints x) (shown_endpoints y)
    (shown_endpoints r)
unfolding minimum_bound IsNarrow
lesser_of_endpoints None y r h = choice_row_first (shown_endpoints y) (shown_endpoints r)
lesser_of_endpoints (Some p) None r h = choice_row_second (shown_endpoints (Some p)) (shown_endpoints r)
lesser_of_endpoints (Some p) (Some q) None h = absurd (h 0 (bound_of_endpoints p.lo p.hi) (bound_of_endpoints q.lo q.hi)
    (endpoints_narrow p.lo p.hi p.ordered)
    (endpoints_narrow q.lo q.hi q.ordered))
lesser_of_endpoints (Some p) (Some q) (Some e) h =
    let k = kept_of fine _ _ _ _ 0 e.lo e.hi (h 0 (bound_of_endpoints p.lo p.hi) (bound_of_endpoints q.lo q.hi)
    (endpoints_narrow p.lo p.hi p.ordered)
    (endpoints_narrow q.lo q.hi q.ordered)) in
    record { known = λ a b. tt; wide = λ a b. omega (arith, ints, clamps, k.close, p.ordered, q.ordered) }

pub greater_of_endpoints : (x y r : Option FineEndpoints) → ((w : ℕ) (a b : Bound) → IsNarrow w a (shown_endpoints x)
    → IsNarrow w b (shown_endpoints y)
    → IsNarrow w (maximum_bound a b) (shown_endpoints r)) → IsChoiceRow (shown_endpoints x) (shown_endpoints y)
    (shown_endpoints r)
unfolding maximum_bound IsNarrow
greater_of_endpoints None y r h = choice_row_first (shown_endpoints y) (shown_endpoints r)
greater_of_endpoints (Some p) None r h = choice_row_second (shown_endpoints (Some p)) (shown_endpoints r)
greater_of_endpoints (Some p) (Some q) None h =
    absurd (h 0 (bound_of_endpoints p.lo p.hi) (bound_of_endpoints q.lo q.hi) (endpoints_narrow p.lo p.hi p.ordered)
    (endpoints_narrow q.lo q.hi q.ordered))
greater_of_endpoints (Some p) (Some q) (Some e) h =
    let k = kept_of fine _ _ _ _ 0 e.lo e.hi (h 0 (bound_of_endpoints p.lo p.hi) (bound_of_endpoints q.lo q.hi)
    (endpoints_narrow p.lo p.hi p.ordered)
    (endpoints_narrow q.lo q.hi q.ordered)) in
    record { known = λ a b. tt; wide = λ a b. omega (arith, ints, clamps, k.close, p.ordered, q.ordered) }

-- ---- the hull
lesser_is : (a c e : ℤ) → smaller (at_scale fine a) (at_scale fine c) ≤F at_scale fine e
    → at_scale fine e ≤F smaller (at_scale fine a) (at_scale fine c) → e
    ≡ int_min a c
lesser_is a c e h k =
    let l : int_min a c ≤ℤ e = smaller_keeps (λ z. z ≤F at_scale fine e → int_min a c ≤ℤ e) (at_scale fine a)
    (at_scale fine c)
    (λ m. omega (arith, ints, clamps, m.cross)) (λ m. omega (arith, ints, clamps, m.cross)) h in
    let u = le_trans _ _ _ k (smaller_first (at_scale fine a) (at_scale fine c)) in
    let v = le_trans _ _ _ k (smaller_second (at_scale fine a) (at_scale fine c)) in
    omega (arith, ints, clamps, l, u.cross, v.cross)

greater_is : (b d e : ℤ) → at_scale fine e ≤F larger (at_scale fine b) (at_scale fine d)
    → larger (at_scale fine b) (at_scale fine d) ≤F at_scale fine e → e
    ≡ int_max b d
greater_is b d e h k =
    let l : e ≤ℤ int_max b d = larger_keeps (λ z. at_scale fine e ≤F z → e ≤ℤ int_max b d) (at_scale fine b)
    (at_scale fine d)
    (λ m. omega (arith, ints, clamps, m.cross)) (λ m. omega (arith, ints, clamps, m.cross)) h in
    let u = le_trans _ _ _ (larger_first (at_scale fine b) (at_scale fine d)) k in
    let v = le_trans _ _ _ (larger_second (at_scale fine b) (at_scale fine d)) k in
    omega (arith, ints, clamps, l, u.cross, v.cross)

pub hull_of_endpoints : (x y r : Option FineEndpoints) → hull (shown_endpoints x) (shown_endpoints y) ⊆ shown_endpoints
    r → shown_endpoints r ⊆ hull (shown_endpoints x) (shown_endpoints y)
    → IsHullRow (shown_endpoints x) (shown_endpoints y) (shown_endpoints r)
unfolding hull
hull_of_endpoints None y r h k = record { known = λ p q. absurd p; low = λ p q. absurd p; high = λ p q. absurd p }
hull_of_endpoints (Some p) None r h k = record {
  known = λ a b. absurd b;
  low = λ a b. absurd b;
  high = λ a b. absurd b;
}
hull_of_endpoints (Some p) (Some q) None h k = absurd k.endpoints
hull_of_endpoints (Some p) (Some q) (Some e) h k = record {
  known = λ a b. tt;
  low = λ a b. lesser_is p.lo q.lo e.lo k.endpoints.0 h.endpoints.0;
  high = λ a b. greater_is p.hi q.hi e.hi k.endpoints.1 h.endpoints.1;
}

-- ---- what is cut to -1..1
pub cut_of_endpoints : (x : Option FineEndpoints) (e : FineEndpoints)
    → ((w : ℕ) (a : Bound) → IsNarrow w a (shown_endpoints x) → IsNarrow w (clamp_bound a) (shown_of e))
    → IsCutRow (shown_endpoints x) (shown_of e)
unfolding clamp_bound IsNarrow
cut_of_endpoints None e h = record { known = tt; wide = λ p. absurd p }
cut_of_endpoints (Some p) e h =
    let k = kept_of fine _ _ _ _ 0 e.lo e.hi (h 0 (bound_of_endpoints p.lo p.hi) (endpoints_narrow p.lo p.hi p.ordered))
    in
    record { known = tt; wide = λ a. omega (arith, ints, k.close, p.ordered) }

-- ---- a remainder
limited_holds : (t : Bool) (w : ℕ) (b : Bound) (i : Interval) → t ≡ true → IsNarrow w (limited t b) i → IsNarrow w b i
limited_holds t w b i e h = rw e at h

pub remainder_of_endpoints : (x r : Option FineEndpoints) (m : ℕ) → m < 2 ^ 32
    → ((w : ℕ) (b : Bound) → IsNarrow w b (shown_endpoints x) → IsNarrow w (remainder_bound (limits_on fine) m b)
    (shown_endpoints r))
    → IsMovedRow (shown_endpoints x) (shown_endpoints r)
unfolding remainder_bound IsNarrow
remainder_of_endpoints None r m l h = moved_row_all (shown_endpoints r)
remainder_of_endpoints (Some p) None m l h =
    absurd (limited_holds (nat_lt (m * 2 ^ 32) (2 ^ 100)) 0
    (bounded (pos 0) (pos (m * 2 ^ 32)) 0 (unsigned_abs (p.hi -ℤ p.lo) * 2 ^ 8)) everything
    (lt-ltb _ _ (omega (arith, l))) (h 0 (bound_of_endpoints p.lo p.hi) (endpoints_narrow p.lo p.hi p.ordered)))
remainder_of_endpoints (Some p) (Some e) m l h =
    let k = kept_of fine _ _ _ _ 0 e.lo e.hi (limited_holds (nat_lt (m * 2 ^ 32) (2 ^ 100)) 0
    (bounded (pos 0) (pos (m * 2 ^ 32)) 0 (unsigned_abs (p.hi -ℤ p.lo) * 2 ^ 8)) (shown_endpoints (Some e))
    (lt-ltb _ _ (omega (arith, l)))
    (h 0 (bound_of_endpoints p.lo p.hi) (endpoints_narrow p.lo p.hi p.ordered))) in
    record { known = λ a s. tt; wide = λ a b. omega (arith, ints, k.close, p.ordered) }

-- ---- a whole number
pub integer_of_endpoints : (n : ℤ) (r : Option FineEndpoints) → SFits w64 n
    → ((w : ℕ) → IsNarrow w (integer_bound (limits_on fine) n) (shown_endpoints r))
    → IsIntegerRow (shown_endpoints r)
unfolding integer_bound IsNarrow
integer_of_endpoints n None f h = absurd (limited_holds (nat_lt (unsigned_abs n * 2 ^ 32) (2 ^ 100)) 0
    (bounded (n *ℤ pos (2 ^ 32)) (n *ℤ pos (2 ^ 32)) 0 0)
    everything (lt-ltb _ _ (omega (arith, ints, f))) (h 0))
integer_of_endpoints n (Some e) f h =
    let k = kept_of fine _ _ _ _ 0 e.lo e.hi (limited_holds (nat_lt (unsigned_abs n * 2 ^ 32) (2 ^ 100)) 0
    (bounded (n *ℤ pos (2 ^ 32)) (n *ℤ pos (2 ^ 32)) 0 0)
    (shown_endpoints (Some e)) (lt-ltb _ _ (omega (arith, ints, f))) (h 0)) in
    record { known = tt; wide = omega (arith, ints, k.close, k.ordered) }

-- ---- fractions
pub fraction_of_endpoints : (f : Fraction) (r : Option FineEndpoints)
    → ((w : ℕ) → IsNarrow w (constant_bound (limits_on fine) f) (shown_endpoints r))
    → IfSome r (λ e. (e.hi -ℤ e.lo) ≤ℤ pos 1) → IsFractionRow f (shown_endpoints r)
unfolding constant_bound IsNarrow
fraction_of_endpoints f (Some e) n c = record { known = λ s t. tt; wide = λ k. c }
fraction_of_endpoints f None n c = record {
  known = λ s t. absurd (limited_holds _ 0 (bounded (floor_at_32 f) (ceil_at_32 f) 0 (2 ^ 8)) everything
      (both_hold _ _ (lt-ltb _ _ t) (lt-ltb _ _ (size_32 f s))) (n 0));
  wide = λ k. absurd k;
}
  where
    both_hold : (p q : Bool) → p ≡ true → q ≡ true → (p && q) ≡ true
    both_hold p q e h = rw (e, h) refl

    size_32 : (f : Fraction) → unsigned_abs f.num < 2 ^ 50 * (f.below + 1) → range_size (floor_at_32 f) (ceil_at_32 f)
        < 2 ^ 100
    size_32 f s =
        let i = floor_quotient_floor (f.num *ℤ pos (2 ^ 32)) f.below in
        let j = floor_quotient_floor (neg_ℤ (f.num *ℤ pos (2 ^ 32))) f.below in
        let h : pos (unsigned_abs f.num) ≤ℤ (pos (2 ^ 50) *ℤ pos (suc f.below)) = omega (arith, ints, s) in
        let l = floor_low (f.num *ℤ pos (2 ^ 32)) (pos (suc f.below)) (floor_quotient (f.num *ℤ pos (2 ^ 32)) f.below)
        (omega (arith, ints))
        (omega (arith, ints, h)) (omega (arith, ints, i.close)) in
        let k = floor_low (neg_ℤ (f.num *ℤ pos (2 ^ 32))) (pos (suc f.below))
        (floor_quotient (neg_ℤ (f.num *ℤ pos (2 ^ 32))) f.below) (omega (arith, ints))
        (omega (arith, ints, h)) (omega (arith, ints, j.close)) in
        let u = floor_high (f.num *ℤ pos (2 ^ 32)) (pos (suc f.below)) (floor_quotient (f.num *ℤ pos (2 ^ 32)) f.below)
        (omega (arith, ints))
        (omega (arith, ints, h)) i.not_above in
        let v = floor_high (neg_ℤ (f.num *ℤ pos (2 ^ 32))) (pos (suc f.below))
        (floor_quotient (neg_ℤ (f.num *ℤ pos (2 ^ 32))) f.below) (omega (arith, ints))
        (omega (arith, ints, h)) j.not_above in
        omega (arith, ints, l, k, u, v)
      where
        floor_low : (n d q : ℤ) → pos 1 ≤ℤ d → (pos 0 -ℤ pos (2 ^ 82) *ℤ d) ≤ℤ n → (n +ℤ pos 1) ≤ℤ (q *ℤ d +ℤ d)
            → (pos 0 -ℤ pos (2 ^ 82)) ≤ℤ q
        floor_low n d q h l f =
            by_lt_z q (pos 0 -ℤ pos (2 ^ 82))
            (λ m. absurd
            (refute (n ∷ d ∷ q ∷ []) ((lit (pos 0) ≼ at 1) ∷ (lit (pos 0) ⊖ lit (pos (2 ^ 82)) ⊗ at 1 ≼ at 0)
            ∷ (at 0 ⊕ lit (pos 1) ≼ at 2 ⊗ at 1 ⊕ at 1) ∷
            (at 2 ⊕ lit (pos 1) ≼ lit (pos 0) ⊖ lit (pos (2 ^ 82))) ∷ []) (known 1 ⊞ known 2 ⊞ known 0 ⊠ known 3) refl
            (omega (arith, ints, h), (l, (f, (omega (arith, ints, m), tt))))))
            (λ m. m)

        floor_high : (n d q : ℤ) → pos 1 ≤ℤ d → n ≤ℤ (pos (2 ^ 82) *ℤ d) → (q *ℤ d) ≤ℤ n → q ≤ℤ pos (2 ^ 82)
        floor_high n d q h l f =
            by_lt_z (pos (2 ^ 82)) q
            (λ m. absurd
            (refute (n ∷ d ∷ q ∷ []) ((lit (pos 1) ≼ at 1) ∷ (at 0 ≼ lit (pos (2 ^ 82)) ⊗ at 1) ∷ (at 2 ⊗ at 1 ≼ at 0) ∷
            (lit (pos (2 ^ 82)) ⊕ lit (pos 1) ≼ at 2) ∷ [])
            (known 1 ⊞ known 2 ⊞ known 3 ⊠ (known 0 ⊞ naturally 1) ⊞ known 0) refl
            (h, (l, (f, (omega (arith, ints, m), tt))))))
            (λ m. m)

-- ---- products with a fraction
factor_roomy : (n x : ℤ) (a : ℕ) → (pos 0 -ℤ pos a) ≤ℤ x → x ≤ℤ pos a → unsigned_abs n * a < 2 ^ 126
    → SFits w128 (x *ℤ n)
factor_roomy n x a h k l =
    let p = bounded_product x n (pos a) (pos (unsigned_abs n)) h k (omega (arith, ints)) (omega (arith, ints)) in
    let c : a * unsigned_abs n ≡ unsigned_abs n * a = omega arith in
    omega (arith, ints, p.above, p.below, l, c)

pub factor_of_endpoints : (f : Fraction) (x r : Option FineEndpoints) → IfSome x
    (λ p. IfSome r (λ e. (((e.hi -ℤ e.lo) -ℤ pos 2) *ℤ pos (f.below + 1))
    ≤ℤ ((p.hi -ℤ p.lo) *ℤ pos (unsigned_abs f.num))))
    → IfSome x (λ p. w128 ≡ w128 → SFits w128 (p.lo *ℤ f.num) → SFits w128 (p.hi *ℤ f.num) → IsSome r)
    → IsFactorRow f (shown_endpoints x) (shown_endpoints r)
factor_of_endpoints f None r c s = record { known = λ p l. absurd p; wide = λ p k. absurd p }
factor_of_endpoints f (Some p) (Some e) c s = record { known = λ a l. tt; wide = λ a k. c }
factor_of_endpoints f (Some p) None c s = record {
  known = λ a l.
      let z = s refl (factor_roomy f.num p.lo (max (unsigned_abs p.lo) (unsigned_abs p.hi)) (omega (arith, ints))
      (omega (arith, ints)) l)
      (factor_roomy f.num p.hi (max (unsigned_abs p.lo) (unsigned_abs p.hi)) (omega (arith, ints)) (omega (arith, ints))
      l) in
      absurd (cc);
  wide = λ a k. absurd k;
}

-- ---- what is moved outwards
pub widened_of_endpoints : (f : Fraction) (x r : Option FineEndpoints) →
    ((w : ℕ) (a : Bound) → IsNarrow w a (shown_endpoints x) → IsNarrow w (widen_bound (limits_on fine) f a)
    (shown_endpoints r))
    → IfSome x (λ p. IfSome r (λ e. ((((e.hi -ℤ e.lo) -ℤ (p.hi -ℤ p.lo)) -ℤ pos 2) *ℤ pos (f.below + 1))
    ≤ℤ (pos 2 *ℤ (pos (unsigned_abs f.num) *ℤ pos (2 ^ 56))))) → IsWidenedRow f (shown_endpoints x) (shown_endpoints r)
unfolding widen_bound IsNarrow
widened_of_endpoints f None r n c = record { known = λ p s a b. absurd p; wide = λ p k. absurd p }
widened_of_endpoints f (Some p) (Some e) n c = record { known = λ a s t u. tt; wide = λ a k. omega (arith, ints, c) }
widened_of_endpoints f (Some p) None n c = record {
  known = λ a s t u.
      absurd (limited_holds _ 0 _ everything (both_hold _ _ (lt-ltb _ _ u) (lt-ltb _ _ (size_32 s (margin_size t))))
      (n 0 (bound_of_endpoints p.lo p.hi) (endpoints_narrow p.lo p.hi p.ordered)));
  wide = λ a k. absurd k;
}
  where
    both_hold : (p q : Bool) → p ≡ true → q ≡ true → (p && q) ≡ true
    both_hold p q e h = rw (e, h) refl

    margin_size : unsigned_abs f.num < 2 ^ 50 * (f.below + 1) → margin_32 f ≤ 2 ^ 82
    margin_size t = by_quotient (unsigned_abs f.num * 2 ^ 32 + f.below) f.below (omega (arith, t))
      where
        by_quotient : (n d : ℕ) → n < (2 ^ 82 + 1) * suc d → n / suc d ≤ 2 ^ 82
        by_quotient n d h = by_split (split (n / suc d) (2 ^ 82))
          where
            split : (j k : ℕ) → (j ≤ k) ⊎ (suc k ≤ j)
            split j k = grind arith

            by_split : (n / suc d ≤ 2 ^ 82) ⊎ (suc (2 ^ 82) ≤ n / suc d) → n / suc d ≤ 2 ^ 82
            by_split (inl l) = l
            by_split (inr l) =
                let m : suc d * suc (2 ^ 82) ≤ suc d * (n / suc d) = mul-le-mul_left (suc d) l in
                let q : suc d * (n / suc d) ≤ n = omega arith in
                absurd (omega (arith, h, m, q))

    size_32 : max (unsigned_abs p.lo) (unsigned_abs p.hi) < 2 ^ 106 → margin_32 f ≤ 2 ^ 82
        → range_size (floor_quotient p.lo (2 ^ 24 - 1) -ℤ pos (margin_32 f))
        (neg_ℤ (floor_quotient (neg_ℤ p.hi) (2 ^ 24 - 1)) +ℤ pos (margin_32 f)) < 2 ^ 100
    size_32 s m =
        let i = floor_quotient_floor p.lo (2 ^ 24 - 1) in
        let j = floor_quotient_floor (neg_ℤ p.hi) (2 ^ 24 - 1) in
        omega (arith, ints, s, m, i.not_above, i.close, j.not_above, j.close)
