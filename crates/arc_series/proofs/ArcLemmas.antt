-- From spans and forms to the arcs of expressions. What a span holds of one number's arctangent is the value of the
-- expression; the arcsine and the arccosine are those of other expressions, by the definition. The angle of a direction
-- goes by cases of the divisor's sign, as the code's tests do; an endpoint beyond -180..180 is moved to the end of it,
-- which whatever lies there allows.
use Rattle.std.proofs.Common.{◌≡◌, ℕ, ◌≤◌, ◌+◌, ◌-◌, ◌*◌, ◌^◌, refl, sym, subst, arith, ℤ, pos, negsuc, ◌+ℤ◌, ◌≤ℤ◌}
use Rattle.std.proofs.Common.{◌<ℤ◌, Bool, true, false, cond, ◌⊎◌, inl}
use Rattle.std.proofs.Common.{inr}
use Rattle.std.specs.Prelude.{IsTrue, nat_lt, nat_le}
use Rattle.std.specs.Int.{int_min, int_max}
use Rattle.std.proofs.lemmas.Int.{ints, clamps}
use lib.IntN.{neg_ℤ}
use lib.Signed.{lt_z}
use Rattle.book_model.specs.programs.Leading.{units_of_56}
use Rattle.book_model.specs.Fraction.{Fraction, whole, plus, ◌≤F◌}
use Rattle.book_model.specs.Interval.{Interval, everything, between, IsProper, AreWithin, ◌⊆◌, sum, difference}
use Rattle.book_model.specs.Interval.{negative, quotient}
use Rattle.book_model.proofs.Fractions.{le_trans, positive_above, negative_below}
use Rattle.std.specs.Prelude.{◌||◌}
use Rattle.book_model.proofs.Intervals.{within_trans, within_everything}
use Rattle.book_model.specs.numbers.Bounds.{Limits, Reach}
use Rattle.book_model.specs.numbers.Expressions.{Expression, World, value, integer, subtract, divide, scale, arctangent}
use Rattle.book_model.specs.numbers.Expressions.{arcsine, arccosine, arctangent_of_two}
use Rattle.book_model.specs.numbers.Relations.{Within, Narrow, Lies, Keeps}
use Rattle.book_model.specs.numbers.Arcs.{arctangent_of, arcsine_of, arccosine_of, arctangent_of_two as two_arctangent}
use Rattle.book_model.specs.numbers.Arcs.{all_around}
use Rattle.book_model.specs.numbers.Octants.{only}
use Rattle.book_model.specs.numbers.Bounds.{limited, bound_of, IsNarrow, Bound, bounded, spanned_bound, arcsine_bound}
use Rattle.book_model.specs.numbers.Bounds.{half_tangent_bound, arccosine_bound}
use Rattle.book_model.specs.numbers.Bounds.{limits_of, limits_at, no_limits, is_scale}
use Rattle.book_model.proofs.Values.{value_proper}
use Rattle.book_model.proofs.Arcs.{arctangents, two_inside, not_positive}
use Rattle.encl_core.specs.parts.TheConstants.{HALF_TURN}
use Rattle.arc_series.specs.Forms.{half_tangent_of, has_sign}

-- ---- the arctangent
pub arctangent_held : {E : Type 0} (shown : E → Interval) (w : World) (a : Expression) (x r : E) (i : Interval)
    → shown x ⊆ i
    → ((n : ℕ) → 40 ≤ n → arctangent_of n i ⊆ shown r) → Within shown w a x → Within shown w (arctangent a) r
unfolding Lies value
arctangent_held shown w a x r i h f p =
    let k : value w a ⊆ shown x = p.inside in record {
      deep = p.deep;
      inside = within_trans (arctangents.within w.depth (value_proper w a) (within_trans k h)) (f w.depth p.deep);
    }

pub arctangent_all : {E : Type 0} (shown : E → Interval) (w : World) (a : Expression) (x r : E) → shown r ≡ everything
    → Within shown w a x
    → Within shown w (arctangent a) r
unfolding Lies
arctangent_all shown w a x r e p = record { deep = p.deep; inside = rw e (within_everything _) }

-- ---- arcsine and arccosine
pub as_arcsine : {E : Type 0} (shown : E → Interval) (w : World) (a : Expression) (r : E)
    → Within shown w (scale (whole (pos 2)) (arctangent (half_tangent_of a))) r → Within shown w (arcsine a) r
unfolding Lies value half_tangent_of arcsine_of
as_arcsine shown w a r p = record { deep = p.deep; inside = p.inside }

pub as_arccosine : {E : Type 0} (shown : E → Interval) (w : World) (a : Expression) (r : E)
    → Within shown w (subtract (integer (pos 90)) (arcsine a)) r
    → Within shown w (arccosine a) r
unfolding Lies value arccosine_of
as_arccosine shown w a r p = record { deep = p.deep; inside = p.inside }

-- ---- their bounds
pub narrow_arcsine : {E : Type 0} (shown : E → Interval) (l : Limits) (r : Reach) (a : Expression) (e : E)
    → Narrow shown l r (scale (whole (pos 2)) (arctangent (half_tangent_of a))) e → Narrow shown l r (arcsine a) e
unfolding Keeps bound_of half_tangent_of arcsine_bound half_tangent_bound
narrow_arcsine shown l r a e k = record { kept = k.kept }

pub narrow_arccosine : {E : Type 0} (shown : E → Interval) (l : Limits) (r : Reach) (a : Expression) (e : E)
    → Narrow shown l r (subtract (integer (pos 90)) (arcsine a)) e → Narrow shown l r (arccosine a) e
unfolding Keeps bound_of arccosine_bound
narrow_arccosine shown l r a e k = record { kept = k.kept }

-- no width is promised of the arctangent of two
pub narrow_two : {E : Type 0} (shown : E → Interval) (l : Limits) (r : Reach) (a b : Expression) (e : E)
    → Narrow shown l r (arctangent_of_two a b) e
unfolding Keeps bound_of IsNarrow
narrow_two shown l r a b e = record { kept = tt }

-- ---- from -180 to 180
abbrev pub half_turn : ℤ
half_turn = HALF_TURN

pub around_held : {E : Type 0} (shown : E → Interval) (r : E) → between (units_of_56 (neg_ℤ half_turn))
    (units_of_56 half_turn) ⊆ shown r → all_around ⊆ shown r
around_held shown r h =
    within_trans (record { endpoints = (record { cross = record { le = tt } }, record { cross = record { le = tt } }) })
    h

abbrev turn : Bound
turn = bounded (neg_ℤ (pos (180 * 2 ^ 32))) (pos (180 * 2 ^ 32)) 0 (360 * 2 ^ 64)

turn_narrow : (lo hi : ℤ) → neg_ℤ half_turn ≤ℤ lo → lo ≤ℤ hi → hi ≤ℤ half_turn
    → IsNarrow 0 turn (between (units_of_56 lo) (units_of_56 hi))
unfolding IsNarrow plus
turn_narrow lo hi h o k = record {
  ordered = record { cross = omega (arith, ints, o) };
  above = record { cross = omega (arith, ints, h) };
  below = record { cross = omega (arith, ints, k) };
  close = record { cross = omega (arith, ints, h, k) };
}

-- what is promised of a turn at a scale
abbrev turn_at : ℕ → Bound
turn_at bits = bounded (neg_ℤ (pos (180 * 2 ^ 32))) (pos (180 * 2 ^ 32)) 0 (360 * 2 ^ 64 + 2 * 2 ^ (64 - bits))

spanned_turn : (bits : ℕ) → IsTrue (is_scale bits) → spanned_bound (limits_of bits) turn ≡ turn_at bits
unfolding spanned_bound limits_of
spanned_turn bits s = by_scale (is_scale bits) s
  where
    by_size : (t : Bool) → limited (nat_lt (180 * 2 ^ 32) (cond t (2 ^ 58) (2 ^ 100))) (turn_at bits) ≡ turn_at bits
    by_size true = refl
    by_size false = refl

    by_scale : (t : Bool) → IsTrue t → spanned_bound (cond t (limits_at bits) no_limits) turn ≡ turn_at bits
    by_scale true s = by_size (nat_le bits 36)
    by_scale false s = absurd (cc)

from_spans : (k s : ℕ) (i : Interval) → IsNarrow 0 (bounded (neg_ℤ (pos (180 * 2 ^ 32))) (pos (180 * 2 ^ 32)) s k) i
    → i ⊆ all_around
unfolding IsNarrow
from_spans k s everything h = absurd h
from_spans k s (between a b) h = record {
  endpoints = (
    record { cross = omega (arith, ints, h.above.cross) },
    record { cross = omega (arith, ints, h.below.cross) },
  );
}

-- endpoints within -180..180 stay there at every scale of which something is promised
pub span_inside : {E : Type 0} (shown : E → Interval) (bits : ℕ) (lo hi : ℤ) (r : E) → neg_ℤ half_turn ≤ℤ lo → lo ≤ℤ hi
    → hi ≤ℤ half_turn
    → ((w : ℕ) (b : Bound) → IsNarrow w b (between (units_of_56 lo) (units_of_56 hi))
    → IsNarrow w (spanned_bound (limits_of bits) b) (shown r))
    → IsTrue (is_scale bits) → shown r ⊆ all_around
span_inside shown bits lo hi r h o k f s =
    from_spans _ _ (shown r) (subst (λ b. IsNarrow 0 b (shown r)) (spanned_turn bits s)
    (f 0 turn (turn_narrow lo hi h o k)))

pub around_inside : {E : Type 0} (shown : E → Interval) (bits : ℕ) (r : E)
    → ((w : ℕ) (b : Bound) → IsNarrow w b (between (units_of_56 (neg_ℤ half_turn)) (units_of_56 half_turn))
    → IsNarrow w (spanned_bound (limits_of bits) b) (shown r))
    → IsTrue (is_scale bits) → shown r ⊆ all_around
around_inside shown bits r f s = span_inside shown bits (neg_ℤ half_turn) half_turn r (omega (arith, ints))
    (omega (arith, ints)) (omega (arith, ints)) f s

-- endpoints that are moved there
abbrev pub moved : ℤ → ℤ
moved x = int_max (int_min x half_turn) (neg_ℤ half_turn)

pub moved_inside : {E : Type 0} (shown : E → Interval) (bits : ℕ) (lo hi low high : ℤ) (r : E) → lo ≤ℤ hi
    → low ≡ moved lo → high ≡ moved hi
    → ((w : ℕ) (b : Bound) → IsNarrow w b (between (units_of_56 low) (units_of_56 high))
    → IsNarrow w (spanned_bound (limits_of bits) b) (shown r))
    → IsTrue (is_scale bits) → shown r ⊆ all_around
moved_inside shown bits lo hi low high r o e f g s =
    span_inside shown bits low high r (omega (arith, ints, clamps, e)) (omega (arith, ints, clamps, e, f, o))
    (omega (arith, ints, clamps, f)) g s

pub moved_order : (lo hi low high : ℤ) → lo ≤ℤ hi → low ≡ moved lo → high ≡ moved hi → low ≤ℤ high
moved_order lo hi low high o e f = omega (arith, ints, clamps, e, f, o)

split : (j k : ℤ) → (j ≤ℤ k) ⊎ ((k +ℤ pos 1) ≤ℤ j)
split j k = grind (arith, ints)

low_moved : (lo low : ℤ) (a : Fraction) → low ≡ moved lo → units_of_56 lo ≤F a → whole (negsuc 179) ≤F a
    → units_of_56 low ≤F a
low_moved lo low a e h k = by_split (split low lo)
  where
    by_split : (low ≤ℤ lo) ⊎ ((lo +ℤ pos 1) ≤ℤ low) → units_of_56 low ≤F a
    by_split (inl l) = le_trans _ (units_of_56 lo) a (record { cross = omega (arith, ints, l) }) h
    by_split (inr l) = le_trans _ (whole (negsuc 179)) a (record { cross = omega (arith, ints, clamps, e, l) }) k

high_moved : (hi high : ℤ) (b : Fraction) → high ≡ moved hi → b ≤F units_of_56 hi → b ≤F whole (pos 180)
    → b ≤F units_of_56 high
high_moved hi high b e h k = by_split (split hi high)
  where
    by_split : (hi ≤ℤ high) ⊎ ((high +ℤ pos 1) ≤ℤ hi) → b ≤F units_of_56 high
    by_split (inl l) = le_trans b (units_of_56 hi) _ h (record { cross = omega (arith, ints, l) })
    by_split (inr l) = le_trans b (whole (pos 180)) _ k (record { cross = omega (arith, ints, clamps, e, l) })

moved_endpoints : (lo hi low high : ℤ) (i : Interval) → low ≡ moved lo → high ≡ moved hi
    → AreWithin i (between (units_of_56 lo) (units_of_56 hi))
    → AreWithin i all_around
    → i ⊆ between (units_of_56 low) (units_of_56 high)
moved_endpoints lo hi low high everything e f h k = absurd h
moved_endpoints lo hi low high (between a b) e f h k =
    record { endpoints = (low_moved lo low a e h.0 k.0, high_moved hi high b f h.1 k.1) }

pub moved_held : {E : Type 0} (shown : E → Interval) (lo hi low high : ℤ) (x r : E) → low ≡ moved lo → high ≡ moved hi
    → shown x ⊆ between (units_of_56 lo) (units_of_56 hi) → between (units_of_56 low) (units_of_56 high) ⊆ shown r
    → (i : Interval) → i ⊆ shown x → i ⊆ all_around → i ⊆ shown r
moved_held shown lo hi low high x r e f h g i p q = let k = within_trans p h in
    within_trans (moved_endpoints lo hi low high i e f k.endpoints q.endpoints) g

pub not_all : (lo hi : ℤ) (i j : Interval) → everything ⊆ i → i ⊆ between (units_of_56 lo) (units_of_56 hi)
    → all_around ⊆ j
not_all lo hi i j h k = let m = within_trans h k in absurd m.endpoints

-- ---- the arctangent of two numbers
abbrev less_arctangent : ℕ → Fraction → Interval → Interval → Interval
less_arctangent n e y x = difference (only e) (arctangent_of n (quotient x y))

-- what a call that keeps to -180..180 does with the difference
pub record Keeps_around {E : Type 0} (shown : E → Interval) (x r : E) : Type 0 where
  pub holds : (i : Interval) → i ⊆ shown x → i ⊆ all_around → i ⊆ shown r
  pub all : everything ⊆ shown x → all_around ⊆ shown r

all_less : (n : ℕ) (e : Fraction) (y : Interval) → less_arctangent n e y everything ≡ everything
unfolding sum negative quotient arctangent_of
all_less n e y = refl

positive_two : (n : ℕ) (a b c d : Fraction) → lt_z (pos 0) a.num ≡ true
    → two_arctangent n (between a b) (between c d) ≡ less_arctangent n (whole (pos 90)) (between a b) (between c d)
unfolding two_arctangent
positive_two n a b c d e = rw e refl

negative_two : (n : ℕ) (a b c d : Fraction) → lt_z (pos 0) a.num ≡ false → lt_z b.num (pos 0) ≡ true
    → two_arctangent n (between a b) (between c d) ≡ less_arctangent n (whole (negsuc 89)) (between a b) (between c d)
unfolding two_arctangent
negative_two n a b c d e f = rw (e, f) refl

positive_end : (lo : ℤ) (a : Fraction) → pos 0 <ℤ lo → units_of_56 lo ≤F a → lt_z (pos 0) a.num ≡ true
positive_end lo a h k =
    let p = positive_above (units_of_56 lo) a (record { above = omega (arith, ints, h) }) k in
    let q = p.above in
    let t : true ≡ lt_z (pos 0) a.num = omega (arith, ints, q) in sym t

negative_end : (hi : ℤ) (b : Fraction) → hi <ℤ pos 0 → b ≤F units_of_56 hi → lt_z b.num (pos 0) ≡ true
negative_end hi b h k =
    let p = negative_below b (units_of_56 hi) (record { under = omega (arith, ints, h) }) k in
    let q = p.under in
    let t : true ≡ lt_z b.num (pos 0) = omega (arith, ints, q) in sym t

upper_by : {E : Type 0} (shown : E → Interval) (n : ℕ) (y x : Interval) (lo hi : ℤ) (e r : E) → IsProper y → IsProper x
    → pos 0 <ℤ lo
    → AreWithin y (between (units_of_56 lo) (units_of_56 hi)) → less_arctangent n (whole (pos 90)) y x ⊆ shown e
    → Keeps_around shown e r
    → two_arctangent n y x ⊆ shown r
upper_by shown n everything x lo hi e r p q s h k f = absurd h
upper_by shown n (between a b) everything lo hi e r p q s h k f =
    within_trans (two_inside n (between a b) everything p q)
    (f.all (subst (λ z. z ⊆ shown e) (all_less n (whole (pos 90)) (between a b)) k))
upper_by shown n (between a b) (between c d) lo hi e r p q s h k f =
    let t = positive_two n a b c d (positive_end lo a s h.0) in
    f.holds _ (subst (λ z. z ⊆ shown e) (sym t) k) (two_inside n (between a b) (between c d) p q)

lower_by : {E : Type 0} (shown : E → Interval) (n : ℕ) (y x : Interval) (lo hi : ℤ) (e r : E) → IsProper y → IsProper x
    → hi <ℤ pos 0
    → AreWithin y (between (units_of_56 lo) (units_of_56 hi)) → less_arctangent n (whole (negsuc 89)) y x ⊆ shown e
    → Keeps_around shown e r
    → two_arctangent n y x ⊆ shown r
lower_by shown n everything x lo hi e r p q s h k f = absurd h
lower_by shown n (between a b) everything lo hi e r p q s h k f =
    within_trans (two_inside n (between a b) everything p q)
    (f.all (subst (λ z. z ⊆ shown e) (all_less n (whole (negsuc 89)) (between a b)) k))
lower_by shown n (between a b) (between c d) lo hi e r p q s h k f =
    let g = negative_end hi b s h.1 in
    let t = negative_two n a b c d (not_positive a b p g) g in
    f.holds _ (subst (λ z. z ⊆ shown e) (sym t) k) (two_inside n (between a b) (between c d) p q)

pub upper_held : {E : Type 0} (shown : E → Interval) (w : World) (a b : Expression) (y e r : E) (lo hi : ℤ)
    → pos 0 <ℤ lo
    → shown y ⊆ between (units_of_56 lo) (units_of_56 hi) → Within shown w a y
    → Within shown w (subtract (integer (pos 90)) (arctangent (divide b a))) e
    → Keeps_around shown e r
    → Within shown w (arctangent_of_two a b) r
unfolding Lies value
upper_held shown w a b y e r lo hi s h p k f =
    let i : value w a ⊆ shown y = p.inside in
    record {
      deep =
          p.deep;
      inside = upper_by shown w.depth (value w a) (value w b) lo hi e r (value_proper w a) (value_proper w b) s
          (within_trans i h).endpoints k.inside f;
    }

pub lower_held : {E : Type 0} (shown : E → Interval) (w : World) (a b : Expression) (y e r : E) (lo hi : ℤ)
    → hi <ℤ pos 0
    → shown y ⊆ between (units_of_56 lo) (units_of_56 hi) → Within shown w a y
    → Within shown w (subtract (integer (negsuc 89)) (arctangent (divide b a))) e
    → Keeps_around shown e r
    → Within shown w (arctangent_of_two a b) r
unfolding Lies value
lower_held shown w a b y e r lo hi s h p k f =
    let i : value w a ⊆ shown y = p.inside in
    record {
      deep =
          p.deep;
      inside = lower_by shown w.depth (value w a) (value w b) lo hi e r (value_proper w a) (value_proper w b) s
          (within_trans i h).endpoints k.inside f;
    }

pub somewhere_held : {E : Type 0} (shown : E → Interval) (w : World) (a b : Expression) (y r : E) → all_around ⊆ shown r
    → Within shown w a y
    → Within shown w (arctangent_of_two a b) r
unfolding Lies value
somewhere_held shown w a b y r h p =
    record {
      deep = p.deep;
      inside = within_trans (two_inside w.depth (value w a) (value w b) (value_proper w a)
          (value_proper w b)) h;
    }

-- an enclosure above or below 0 has a sign
sign_above : (i : Interval) (lo hi : ℤ) → AreWithin i (between (units_of_56 lo) (units_of_56 hi)) → pos 0 <ℤ lo
    → has_sign i ≡ true
sign_above everything lo hi h s = absurd h
sign_above (between a b) lo hi h s = rw (positive_end lo a s h.0) refl

either : (s t : Bool) → t ≡ true → (s || t) ≡ true
either true t e = refl
either false t e = e

sign_below : (i : Interval) (lo hi : ℤ) → AreWithin i (between (units_of_56 lo) (units_of_56 hi)) → hi <ℤ pos 0
    → has_sign i ≡ true
sign_below everything lo hi h s = absurd h
sign_below (between a b) lo hi h s = either _ _ (negative_end hi b s h.1)

pub sure_above : (i j : Interval) (lo hi : ℤ) → i ⊆ between (units_of_56 lo) (units_of_56 hi) → pos 0 <ℤ lo
    → has_sign i ≡ false → all_around ⊆ j
sure_above i j lo hi h s e = let t = sign_above i lo hi h.endpoints s in absurd (cc)

pub sure_below : (i j : Interval) (lo hi : ℤ) → i ⊆ between (units_of_56 lo) (units_of_56 hi) → hi <ℤ pos 0
    → has_sign i ≡ false → all_around ⊆ j
sure_below i j lo hi h s e = let t = sign_below i lo hi h.endpoints s in absurd (cc)
