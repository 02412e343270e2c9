-- Arctangents of intervals nest, and so do arcsines, arccosines and the arctangents of two numbers.
use Rattle.std.proofs.Common.{◌≡◌, ℕ, suc, ◌≤◌, refl, sym, arith, Bool, true, false, cond, pos, negsuc, Option, Some}
use Rattle.std.proofs.Common.{None, List, [], ◌∷◌, map, inl, inr}
use Rattle.std.specs.Prelude.{◌&&◌}
use Rattle.std.specs.List.{filter}
use Rattle.std.proofs.lemmas.Int.{ints}
use lib.Signed.{lt_z}
use Rattle.exact_math.specs.Fraction.{Fraction, ◌≤F◌, whole, plus, opposite, smaller}
use Rattle.exact_math.specs.Interval.{Interval, everything, between, IsProper, AreWithin, ◌⊆◌, hull, sum, difference}
use Rattle.exact_math.specs.Interval.{negative, product, quotient, power, clamp, one, excludes_zero}
use Rattle.exact_math.proofs.Fractions.{le_refl, le_trans, le_total, at_most_true, positive_above, negative_below}
use Rattle.exact_math.proofs.Fractions.{larger_keeps, smaller_keeps, larger_first, smaller_first}
use Rattle.exact_math.proofs.Intervals.{within_trans, within_refl, smaller_mono, larger_mono, difference_within}
use Rattle.exact_math.proofs.Intervals.{difference_proper, hull_within, hull_proper, clamp_within, clamp_proper}
use Rattle.exact_math.proofs.Intervals.{power_within, power_proper, quotient_within, quotient_proper}
use Rattle.exact_math.proofs.Hulls.{true_at_most, hull_holds_first, hull_holds_second, hull_least}
use Rattle.exact_math.proofs.Narrowing.{Narrowing, at_least, compose, argument, steady, sums, products, quotients}
use Rattle.book_model.specs.numbers.Octants.{only}
use Rattle.book_model.specs.numbers.Arcs.{half, minus_half, Piece, far_below, below, near, above, far_above, pieces}
use Rattle.book_model.specs.numbers.Arcs.{begins_by, endpoints_from, low_from, high_to, meets, arc_of_part, arcs_over}
use Rattle.book_model.specs.numbers.Arcs.{hull_with, hull_of_all, arctangent_of, all_around, arctangent_of_two}
use Rattle.book_model.specs.numbers.Arcs.{other_side, arcsine_of, arccosine_of}
use Rattle.book_model.specs.numbers.Roots.{root_of}
use Rattle.book_model.specs.programs.Nesting.{IsNested, IsNestedOfTwo}
use Rattle.book_model.proofs.Roots.{roots}
use Rattle.book_model.proofs.DegreeSines.{nested_by}
use Rattle.book_model.proofs.ArcSeries.{amid}
use Rattle.book_model.proofs.ArcPieces.{quarters, IsFrom, IsTo, InPiece, AreInOrder, IsArc, far_below_arc, below_arc}
use Rattle.book_model.proofs.ArcPieces.{near_arc, above_arc, far_above_arc}

-- ---- the hull of several intervals
abbrev pub Each : {A : Type 0} → (A → Type 0) → List A → Type 0
Each P [] = Unit {0}
Each P (x ∷ xs) = P x × Each P xs

each_by : {A : Type 0} (P Q R : A → Type 0) (xs : List A) → ((x : A) → P x → Q x → R x) → Each P xs → Each Q xs
    → Each R xs
each_by P Q R [] f h k = tt
each_by P Q R (x ∷ xs) f h k = (f x h.0 k.0, each_by P Q R xs f h.1 k.1)

each : {A : Type 0} (P Q : A → Type 0) (xs : List A) → ((x : A) → P x → Q x) → Each P xs → Each Q xs
each P Q xs f h = each_by P P Q xs (λ x p q. f x p) h h

abbrev pub AreSome : {A : Type 0} → List A → Type 0
AreSome [] = ⊥
AreSome (x ∷ xs) = Unit {0}

with_least : (i k : Interval) (is : List Interval) → i ⊆ k → Each (λ j. j ⊆ k) is → hull_with i is ⊆ k
unfolding hull_with
with_least i k [] h g = h
with_least i k (j ∷ is) h g = hull_least h (with_least j k is g.0 g.1)

-- what holds each of some intervals holds their hull
pub all_least : (is : List Interval) (k : Interval) → AreSome is → Each (λ i. i ⊆ k) is → hull_of_all is ⊆ k
unfolding hull_of_all
all_least [] k s h = absurd s
all_least (i ∷ is) k s h = with_least i k is h.0 h.1

with_holds : (i : Interval) (is : List Interval) → Each (λ j. j ⊆ hull_with i is) (i ∷ is)
unfolding hull_with
with_holds i [] = (within_refl i, tt)
with_holds i (j ∷ is) = (
  hull_holds_first i (hull_with j is),
  each (λ k. k ⊆ hull_with j is) (λ k. k ⊆ hull i (hull_with j is)) (j ∷ is)
      (λ k h. within_trans h (hull_holds_second i (hull_with j is))) (with_holds j is),
)

all_hold : (is : List Interval) → Each (λ i. i ⊆ hull_of_all is) is
unfolding hull_of_all
all_hold [] = tt
all_hold (i ∷ is) = with_holds i is

with_proper : (i : Interval) (is : List Interval) → IsProper i → Each IsProper is → IsProper (hull_with i is)
unfolding hull_with
with_proper i [] p q = p
with_proper i (j ∷ is) p q = hull_proper i (hull_with j is) p (with_proper j is q.0 q.1)

all_proper : (is : List Interval) → Each IsProper is → IsProper (hull_of_all is)
unfolding hull_of_all
all_proper [] q = tt
all_proper (i ∷ is) q = with_proper i is q.0 q.1

-- ---- what pieces that pass a test give
into_if : (g : Piece → Interval) (Q : Interval → Type 0) (p : Piece) (ps : List Piece) (t : Bool) → (t ≡ true → Q (g p))
    → Each Q (map g ps)
    → Each Q (map g (cond t (p ∷ ps) ps))
into_if g Q p ps true h r = (h refl, r)
into_if g Q p ps false h r = r

into_each : (m : Piece → Bool) (g : Piece → Interval) (Q : Interval → Type 0) (ps : List Piece)
    → Each (λ p. m p ≡ true → Q (g p)) ps
    → Each Q (map g (filter m ps))
into_each m g Q [] h = tt
into_each m g Q (p ∷ ps) h = into_if g Q p (filter m ps) (m p) h.0 (into_each m g Q ps h.1)

out_if : (g : Piece → Interval) (Q : Interval → Type 0) (p : Piece) (ps : List Piece) (t : Bool)
    → Each Q (map g (cond t (p ∷ ps) ps)) → (t ≡ true → Q (g p))
    × Each Q (map g ps)
out_if g Q p ps true h = (λ e. h.0, h.1)
out_if g Q p ps false h = (λ e. absurd (cc), h)

out_each : (m : Piece → Bool) (g : Piece → Interval) (Q : Interval → Type 0) (ps : List Piece)
    → Each Q (map g (filter m ps))
    → Each (λ p. m p ≡ true → Q (g p)) ps
out_each m g Q [] h = tt
out_each m g Q (p ∷ ps) h = let o = out_if g Q p (filter m ps) (m p) h in (o.0, out_each m g Q ps o.1)

some_if : (g : Piece → Interval) (p : Piece) (ps : List Piece) (t : Bool) → t ≡ true
    → AreSome (map g (cond t (p ∷ ps) ps))
some_if g p ps true e = tt
some_if g p ps false e = absurd (cc)

still_some : (g : Piece → Interval) (p : Piece) (ps : List Piece) (t : Bool) → AreSome (map g ps)
    → AreSome (map g (cond t (p ∷ ps) ps))
still_some g p ps true h = tt
still_some g p ps false h = h

some_first : (m : Piece → Bool) (g : Piece → Interval) (p : Piece) (ps : List Piece) → m p ≡ true
    → AreSome (map g (filter m (p ∷ ps)))
some_first m g p ps e = some_if g p (filter m ps) (m p) e

some_later : (m : Piece → Bool) (g : Piece → Interval) (p : Piece) (ps : List Piece) → AreSome (map g (filter m ps))
    → AreSome (map g (filter m (p ∷ ps)))
some_later m g p ps h = still_some g p (filter m ps) (m p) h

-- ---- the part of an interval in a piece
begins_out : (o : Option Fraction) (b : Fraction) → begins_by o b ≡ true → IsFrom o b
begins_out None b e = tt
begins_out (Some x) b e = at_most_true x b e

begins_in : (o : Option Fraction) (b : Fraction) → IsFrom o b → begins_by o b ≡ true
begins_in None b h = refl
begins_in (Some x) b h = true_at_most x b h

endpoints_out : (o : Option Fraction) (a : Fraction) → endpoints_from o a ≡ true → IsTo o a
endpoints_out None a e = tt
endpoints_out (Some x) a e = at_most_true a x e

endpoints_in : (o : Option Fraction) (a : Fraction) → IsTo o a → endpoints_from o a ≡ true
endpoints_in None a h = refl
endpoints_in (Some x) a h = true_at_most a x h

from_above : (o : Option Fraction) (x y : Fraction) → x ≤F y → IsFrom o x → IsFrom o y
from_above None x y h f = tt
from_above (Some e) x y h f = le_trans e x y f h

to_below : (o : Option Fraction) (x y : Fraction) → x ≤F y → IsTo o y → IsTo o x
to_below None x y h f = tt
to_below (Some e) x y h f = le_trans x y e h f

-- an interval meets a piece
pub record AreMet (p : Piece) (a b : Fraction) : Type 0 where
  pub begun : IsFrom p.begin b
  pub ended : IsTo p.end a

low_begun : (o : Option Fraction) (a : Fraction) → IsFrom o (low_from o a)
low_begun None a = tt
low_begun (Some e) a = larger_first e a

high_ended : (t : Option Fraction) (b : Fraction) → IsTo t (high_to t b)
high_ended None b = tt
high_ended (Some f) b = smaller_first f b

low_ended : (o t : Option Fraction) (a : Fraction) → AreInOrder o t → IsTo t a → IsTo t (low_from o a)
low_ended o None a q h = tt
low_ended None (Some f) a q h = h
low_ended (Some e) (Some f) a q h = larger_keeps (λ z. z ≤F f) e a q h

high_begun : (o t : Option Fraction) (b : Fraction) → AreInOrder o t → IsFrom o b → IsFrom o (high_to t b)
high_begun None t b q h = tt
high_begun (Some e) None b q h = h
high_begun (Some e) (Some f) b q h = smaller_keeps (λ z. e ≤F z) f b q h

low_high : (o t : Option Fraction) (a b : Fraction) → AreInOrder o t → a ≤F b → IsFrom o b → IsTo t a
    → low_from o a ≤F high_to t b
low_high None None a b q l h k = l
low_high None (Some f) a b q l h k = smaller_keeps (λ z. a ≤F z) f b k l
low_high (Some e) None a b q l h k = larger_keeps (λ z. z ≤F b) e a h l
low_high (Some e) (Some f) a b q l h k = larger_keeps (λ z. z ≤F smaller f b) e a (smaller_keeps (λ z. e ≤F z) f b q h)
    (smaller_keeps (λ z. a ≤F z) f b k l)

low_mono : (o : Option Fraction) (c a : Fraction) → c ≤F a → low_from o c ≤F low_from o a
low_mono None c a h = h
low_mono (Some e) c a h = larger_mono e e c a (le_refl e) h

high_mono : (t : Option Fraction) (b d : Fraction) → b ≤F d → high_to t b ≤F high_to t d
high_mono None b d h = h
high_mono (Some f) b d h = smaller_mono f f b d (le_refl f) h

abbrev pub low_of : Piece → Fraction → Fraction
low_of p a = low_from p.begin a

abbrev pub high_of : Piece → Fraction → Fraction
high_of p b = high_to p.end b

pub low_in : (p : Piece) (a b : Fraction) → AreInOrder p.begin p.end → AreMet p a b → InPiece p (low_of p a)
low_in p a b q m = record { from = low_begun p.begin a; to = low_ended p.begin p.end a q m.ended }

pub high_in : (p : Piece) (a b : Fraction) → AreInOrder p.begin p.end → AreMet p a b → InPiece p (high_of p b)
high_in p a b q m = record { from = high_begun p.begin p.end b q m.begun; to = high_ended p.end b }

both_out : (s t : Bool) → (s && t) ≡ true → (s ≡ true) × (t ≡ true)
both_out true true e = (refl, refl)
both_out true false e = absurd (cc)
both_out false t e = absurd (cc)

both_in : (s t : Bool) → s ≡ true → t ≡ true → (s && t) ≡ true
both_in true true e f = refl
both_in true false e f = f
both_in false t e f = e

pub met_out : (p : Piece) (a b : Fraction) → meets a b p ≡ true → AreMet p a b
met_out p a b e = let s = both_out _ _ e in
    record { begun = begins_out p.begin b s.0; ended = endpoints_out p.end a s.1 }

met_in : (p : Piece) (a b : Fraction) → AreMet p a b → meets a b p ≡ true
met_in p a b m = both_in _ _ (begins_in p.begin b m.begun) (endpoints_in p.end a m.ended)

met_outside : (p : Piece) (a b c d : Fraction) → c ≤F a → b ≤F d → AreMet p a b → AreMet p c d
met_outside p a b c d h k m = record { begun = from_above p.begin b d k m.begun; ended = to_below p.end c a h m.ended }

part_within : (n : ℕ) (p : Piece) (a b c d : Fraction) → IsArc p → a ≤F b → c ≤F a → b ≤F d → AreMet p a b
    → arc_of_part n a b p ⊆ arc_of_part n c d p
unfolding arc_of_part
part_within n p a b c d r o h k m =
    let w = met_outside p a b c d h k m in
    let lo = low_mono p.begin c a h in
    let hi = high_mono p.end b d k in
    let mid = low_high p.begin p.end a b r.order o m.begun m.ended in
    let x = low_in p a b r.order m in
    let y = high_in p a b r.order m in
    let u = low_in p c d r.order w in
    let v = high_in p c d r.order w in
    hull_least
    (amid (r.rises n (low_of p c) (low_of p a) u x lo)
    (r.rises n (low_of p a) (high_of p d) x v (le_trans _ _ _ mid hi)))
    (amid (r.rises n (low_of p c) (high_of p b) u y (le_trans _ _ _ lo mid))
    (r.rises n (high_of p b) (high_of p d) y v hi))

part_deeper : (n : ℕ) (p : Piece) (a b : Fraction) → IsArc p → AreMet p a b
    → arc_of_part (suc n) a b p ⊆ arc_of_part n a b p
unfolding arc_of_part
part_deeper n p a b r m = hull_within (r.deeper n (low_of p a) (low_in p a b r.order m))
    (r.deeper n (high_of p b) (high_in p a b r.order m))

part_proper : (n : ℕ) (p : Piece) (a b : Fraction) → IsArc p → AreMet p a b → IsProper (arc_of_part n a b p)
unfolding arc_of_part
part_proper n p a b r m = hull_proper _ _ (r.proper n (low_of p a) (low_in p a b r.order m))
    (r.proper n (high_of p b) (high_in p a b r.order m))

part_inside : (n : ℕ) (p : Piece) (a b : Fraction) → IsArc p → AreMet p a b → arc_of_part n a b p ⊆ quarters
unfolding arc_of_part
part_inside n p a b r m = hull_least (r.inside n (low_of p a) (low_in p a b r.order m))
    (r.inside n (high_of p b) (high_in p a b r.order m))

-- ---- all pieces
all_arcs : Each IsArc pieces
all_arcs = (far_below_arc, (below_arc, (near_arc, (above_arc, (far_above_arc, tt)))))

-- what holds of the arctangents of the part in each piece that is met
arcs_each : (n : ℕ) (a b : Fraction) (Q : Interval → Type 0)
    → ((p : Piece) → IsArc p → AreMet p a b → Q (arc_of_part n a b p))
    → Each Q (arcs_over n a b pieces)
arcs_each n a b Q f =
    into_each (meets a b) (arc_of_part n a b) Q pieces
    (each IsArc (λ p. meets a b p ≡ true → Q (arc_of_part n a b p)) pieces (λ p r t. f p r (met_out p a b t)) all_arcs)

-- some piece is met
pub arcs_there : (n : ℕ) (a b : Fraction) → a ≤F b → AreSome (arcs_over n a b pieces)
arcs_there n a b o =
    let m = meets a b in
    let g = arc_of_part n a b in
    elim (le_total a (whole (negsuc 2))) [
      | inl h ↦ some_first m g far_below (below ∷ near ∷ above ∷ far_above ∷ [])
          (met_in far_below a b (record { begun = tt; ended = h }))
      | inr h ↦ some_later m g far_below (below ∷ near ∷ above ∷ far_above ∷ []) (elim (le_total a minus_half) [
        | inl k ↦ some_first m g below (near ∷ above ∷ far_above ∷ [])
            (met_in below a b (record { begun = le_trans _ a b h o; ended = k }))
        | inr k ↦ some_later m g below (near ∷ above ∷ far_above ∷ []) (elim (le_total a half) [
          | inl f ↦ some_first m g near (above ∷ far_above ∷ [])
              (met_in near a b (record { begun = le_trans _ a b k o; ended = f }))
          | inr f ↦ some_later m g near (above ∷ far_above ∷ []) (elim (le_total a (whole (pos 3))) [
            | inl e ↦ some_first m g above (far_above ∷ [])
                (met_in above a b (record { begun = le_trans _ a b f o; ended = e }))
            | inr e ↦ some_later m g above (far_above ∷ []) (some_first m g far_above []
                (met_in far_above a b (record { begun = le_trans _ a b e o; ended = tt })))
          ])
        ])
      ])
    ]

-- the hull over a .. b lies within that over c .. d, where in each piece that it meets it does
arcs_within : (n m : ℕ) (a b c d : Fraction) → a ≤F b
    → ((p : Piece) → IsArc p → AreMet p a b → AreMet p c d × (arc_of_part m a b p ⊆ arc_of_part n c d p))
    → hull_of_all (arcs_over m a b pieces) ⊆ hull_of_all (arcs_over n c d pieces)
arcs_within n m a b c d o f =
    let k = hull_of_all (arcs_over n c d pieces) in
    let held = out_each (meets c d) (arc_of_part n c d) (λ i. i ⊆ k) pieces (all_hold (arcs_over n c d pieces)) in
    all_least (arcs_over m a b pieces) k (arcs_there m a b o)
    (into_each (meets a b) (arc_of_part m a b) (λ i. i ⊆ k) pieces
    (each_by IsArc (λ p. meets c d p ≡ true → arc_of_part n c d p ⊆ k) (λ p. meets a b p ≡ true
    → arc_of_part m a b p ⊆ k) pieces
    (λ p r h t. let s = f p r (met_out p a b t) in within_trans s.1 (h (met_in p c d s.0))) all_arcs held))

-- ---- the arctangent
arctangent_proper : (n : ℕ) (i : Interval) → IsProper i → IsProper (arctangent_of n i)
unfolding arctangent_of
arctangent_proper n everything p = tt
arctangent_proper n (between a b) p = all_proper (arcs_over n a b pieces)
    (arcs_each n a b IsProper (λ q r m. part_proper n q a b r m))

pub arctangent_endpoints : (n : ℕ) (i j : Interval) → IsProper i → AreWithin i j → arctangent_of n i ⊆ arctangent_of n j
unfolding arctangent_of
arctangent_endpoints n i everything p h = record { endpoints = tt }
arctangent_endpoints n everything (between c d) p h = absurd h
arctangent_endpoints n (between a b) (between c d) p h = arcs_within n n a b c d p
    (λ q r m. (met_outside q a b c d h.0 h.1 m, part_within n q a b c d r p h.0 h.1 m))

arctangent_deeper : (n : ℕ) (i : Interval) → IsProper i → arctangent_of (suc n) i ⊆ arctangent_of n i
unfolding arctangent_of
arctangent_deeper n everything p = record { endpoints = tt }
arctangent_deeper n (between a b) p = arcs_within n (suc n) a b a b p (λ q r m. (m, part_deeper n q a b r m))

pub arctangents : Narrowing arctangent_of
arctangents = record {
  proper = arctangent_proper;
  within = λ n {i} {j} p h. arctangent_endpoints n i j p h.endpoints;
  deeper = arctangent_deeper;
}

pub arctangent_inside : (n : ℕ) (a b : Fraction) → a ≤F b → arctangent_of n (between a b) ⊆ quarters
unfolding arctangent_of
arctangent_inside n a b p = all_least (arcs_over n a b pieces) quarters (arcs_there n a b p)
    (arcs_each n a b (λ i. i ⊆ quarters) (λ q r m. part_inside n q a b r m))

-- ---- the arcsine
pub clamps : Narrowing (λ n i. clamp i)
clamps = record {
  proper = λ n i p. clamp_proper i p;
  within = λ n {i} {j} p h. clamp_within h;
  deeper = λ n i p. within_refl (clamp i);
}

squares : Narrowing (λ n i. power i 2)
squares = record {
  proper = λ n i p. power_proper 2 i p;
  within = λ n {i} {j} p h. power_within 2 p h;
  deeper = λ n i p. within_refl (power i 2);
}

differences_from : (c : Fraction) (f : ℕ → Interval → Interval) → Narrowing f
    → Narrowing (λ n i. difference (only c) (f n i))
differences_from c f d = record {
  proper = λ n i p. difference_proper (only c) (f n i) (le_refl c) (d.proper n i p);
  within = λ n {i} {j} p h. difference_within (within_refl (only c)) (d.within n p h);
  deeper = λ n i p. difference_within (within_refl (only c)) (d.deeper n i p);
}

other_sides : Narrowing other_side
other_sides = compose root_of (λ n i. difference (only one) (power i 2)) roots
    (differences_from one (λ n i. power i 2) squares)

abbrev tangents : ℕ → Interval → Interval
tangents n i = quotient i (sum (only one) (other_side n i))

half_tangents : Narrowing tangents
half_tangents = quotients (λ n i. i) (λ n i. sum (only one) (other_side n i)) argument
    (sums (λ n i. only one) other_side (steady (only one) (le_refl one)) other_sides)

pub arcsines : Narrowing arcsine_of
unfolding arcsine_of
arcsines =
    products (λ n i. arctangent_of n (tangents n (clamp i))) (λ n i. only (whole (pos 2)))
    (compose arctangent_of (λ n i. tangents n (clamp i)) arctangents
    (compose tangents (λ n i. clamp i) half_tangents clamps))
    (steady (only (whole (pos 2))) (le_refl (whole (pos 2))))

pub arccosines : Narrowing arccosine_of
unfolding arccosine_of
arccosines = differences_from (whole (pos 90)) arcsine_of arcsines

-- ---- the arctangent of two numbers
abbrev IsBounded : Interval → Type 0
IsBounded everything = ⊥
IsBounded (between a b) = Unit {0}

quotient_bounded : (c d a b : Fraction) → excludes_zero a b ≡ true → IsBounded (quotient (between c d) (between a b))
unfolding quotient product
quotient_bounded c d a b e = rw e tt

bounded_inside : (n : ℕ) (i : Interval) → IsProper i → IsBounded i → arctangent_of n i ⊆ quarters
bounded_inside n everything p h = absurd h
bounded_inside n (between a b) p h = arctangent_inside n a b p

-- 90 or -90 degrees less a quarter turn
upper_half : difference (only (whole (pos 90))) quarters ⊆ all_around
unfolding sum negative plus opposite
upper_half = record { endpoints = (record { cross = record { le = tt } }, record { cross = record { le = tt } }) }

lower_half : difference (only (whole (negsuc 89))) quarters ⊆ all_around
unfolding sum negative plus opposite
lower_half = record { endpoints = (record { cross = record { le = tt } }, record { cross = record { le = tt } }) }

abbrev less_arctangent : ℕ → Fraction → (c d a b : Fraction) → Interval
less_arctangent n e c d a b = difference (only e) (arctangent_of n (quotient (between c d) (between a b)))

pub less_inside : (n : ℕ) (e c d a b : Fraction) → difference (only e) quarters ⊆ all_around → a ≤F b → c ≤F d
    → excludes_zero a b ≡ true
    → less_arctangent n e c d a b ⊆ all_around
less_inside n e c d a b q o p h =
    within_trans
    (difference_within (within_refl (only e)) (bounded_inside n _ (quotient_proper (between c d) (between a b) p o)
    (quotient_bounded c d a b h)))
    q

less_nested : (n m : ℕ) (e c d a b c' d' a' b' : Fraction) → n ≤ m → a ≤F b → c ≤F d → between c d ⊆ between c' d'
    → between a b ⊆ between a' b'
    → less_arctangent m e c d a b ⊆ less_arctangent n e c' d' a' b'
less_nested n m e c d a b c' d' a' b' l o p h k =
    difference_within (within_refl (only e))
    (at_least arctangent_of arctangents n m l (quotient_proper (between c d) (between a b) p o)
    (quotient_within p o h k))

abbrev chosen : Bool → Bool → Interval → Interval → Interval
chosen s t i j = cond s i (cond t j all_around)

chosen_inside : (s t : Bool) (i j : Interval) → (s ≡ true → i ⊆ all_around) → (t ≡ true → j ⊆ all_around)
    → chosen s t i j ⊆ all_around
chosen_inside true t i j h k = h refl
chosen_inside false true i j h k = k refl
chosen_inside false false i j h k = within_refl all_around

first_excludes : (a b : Fraction) → lt_z (pos 0) a.num ≡ true → excludes_zero a b ≡ true
first_excludes a b e = rw e refl

second_excludes : (a b : Fraction) → lt_z b.num (pos 0) ≡ true → excludes_zero a b ≡ true
second_excludes a b e = by_test (lt_z (pos 0) a.num)
  where
    by_test : (t : Bool) → cond t true (lt_z b.num (pos 0)) ≡ true
    by_test true = refl
    by_test false = e

bounded_two_inside : (n : ℕ) (a b c d : Fraction) → a ≤F b → c ≤F d → arctangent_of_two n (between a b) (between c d)
    ⊆ all_around
unfolding arctangent_of_two
bounded_two_inside n a b c d o p =
    chosen_inside (lt_z (pos 0) a.num) (lt_z b.num (pos 0)) _ _
    (λ e. less_inside n (whole (pos 90)) c d a b upper_half o p (first_excludes a b e))
    (λ e. less_inside n (whole (negsuc 89)) c d a b lower_half o p (second_excludes a b e))

pub two_inside : (n : ℕ) (i j : Interval) → IsProper i → IsProper j → arctangent_of_two n i j ⊆ all_around
unfolding arctangent_of_two
two_inside n everything j o p = within_refl all_around
two_inside n (between a b) everything o p = within_refl all_around
two_inside n (between a b) (between c d) o p = bounded_two_inside n a b c d o p

positive_stays : (a' a : Fraction) → a' ≤F a → lt_z (pos 0) a'.num ≡ true → lt_z (pos 0) a.num ≡ true
positive_stays a' a h e = let p = (positive_above a' a (record { above = omega (arith, ints, e) }) h).above in
    let t : true
    ≡ lt_z (pos 0) a.num = omega (arith, ints, p) in sym t

negative_stays : (b b' : Fraction) → b ≤F b' → lt_z b'.num (pos 0) ≡ true → lt_z b.num (pos 0) ≡ true
negative_stays b b' h e = let p = (negative_below b b' (record { under = omega (arith, ints, e) }) h).under in
    let t : true
    ≡ lt_z b.num (pos 0) = omega (arith, ints, p) in sym t

pub not_positive : (a b : Fraction) → a ≤F b → lt_z b.num (pos 0) ≡ true → lt_z (pos 0) a.num ≡ false
not_positive a b h e = let p = (negative_below a b (record { under = omega (arith, ints, e) }) h).under in let t : false
    ≡ lt_z (pos 0) a.num = omega (arith, ints, p) in sym t

pub bounded_two_nested : (n m : ℕ) (a b a' b' c d c' d' : Fraction) → n ≤ m → a ≤F b → c ≤F d
    → AreWithin (between a b) (between a' b')
    → AreWithin (between c d) (between c' d')
    → arctangent_of_two m (between a b) (between c d) ⊆ arctangent_of_two n (between a' b') (between c' d')
unfolding arctangent_of_two
bounded_two_nested n m a b a' b' c d c' d' l o p h k = by_test (lt_z (pos 0) a'.num) (lt_z b'.num (pos 0)) refl refl
  where
    by_test : (s t : Bool) → lt_z (pos 0) a'.num ≡ s → lt_z b'.num (pos 0) ≡ t
        → chosen (lt_z (pos 0) a.num) (lt_z b.num (pos 0)) (less_arctangent m (whole (pos 90)) c d a b)
        (less_arctangent m (whole (negsuc 89)) c d a b) ⊆ chosen
        s t (less_arctangent n (whole (pos 90)) c' d' a' b') (less_arctangent n (whole (negsuc 89)) c' d' a' b')
    by_test true t e f = rw (positive_stays a' a h.0 e) (less_nested n m (whole (pos 90)) c d a b c' d' a' b' l o p
        (record { endpoints = k }) (record { endpoints = h }))
    by_test false true e f =
        let g = negative_stays b b' h.1 f in
        rw (not_positive a b o g, g) (less_nested n m (whole (negsuc 89)) c d a b c' d' a' b' l o p
        (record { endpoints = k }) (record { endpoints = h }))
    by_test false false e f = bounded_two_inside m a b c d o p

two_endpoints : (n m : ℕ) (i i' j j' : Interval) → n ≤ m → IsProper i → IsProper j → AreWithin i i' → AreWithin j j'
    → arctangent_of_two m i j ⊆ arctangent_of_two n i' j'
unfolding arctangent_of_two
two_endpoints n m i everything j j' l o p h k = two_inside m i j o p
two_endpoints n m everything (between a' b') j j' l o p h k = absurd h
two_endpoints n m (between a b) (between a' b') j everything l o p h k = two_inside m (between a b) j o p
two_endpoints n m (between a b) (between a' b') everything (between c' d') l o p h k = absurd k
two_endpoints n m (between a b) (between a' b') (between c d) (between c' d') l o p h k = bounded_two_nested n m a b a'
    b' c d c' d' l o p h k

pub two_nested : (n m : ℕ) {i i' j j' : Interval} → n ≤ m → IsProper i → IsProper j → i ⊆ i' → j ⊆ j'
    → arctangent_of_two m i j ⊆ arctangent_of_two n i' j'
two_nested n m {i} {i'} {j} {j'} l o p h k = two_endpoints n m i i' j j' l o p h.endpoints k.endpoints

all_around_proper : IsProper all_around
all_around_proper = record { cross = record { le = tt } }

chosen_proper : (s t : Bool) (i j : Interval) → IsProper i → IsProper j → IsProper (chosen s t i j)
chosen_proper true t i j p q = p
chosen_proper false true i j p q = q
chosen_proper false false i j p q = all_around_proper

less_proper : (n : ℕ) (e c d a b : Fraction) → a ≤F b → c ≤F d → IsProper (less_arctangent n e c d a b)
less_proper n e c d a b o p = difference_proper (only e) _ (le_refl e)
    (arctangents.proper n _ (quotient_proper (between c d) (between a b) p o))

pub two_proper : (n : ℕ) (i j : Interval) → IsProper i → IsProper j → IsProper (arctangent_of_two n i j)
unfolding arctangent_of_two
two_proper n everything j o p = all_around_proper
two_proper n (between a b) everything o p = all_around_proper
two_proper n (between a b) (between c d) o p = chosen_proper _ _ _ _ (less_proper n (whole (pos 90)) c d a b o p)
    (less_proper n (whole (negsuc 89)) c d a b o p)

-- ---- as laws
pub roots_nest : IsNested root_of
roots_nest = nested_by root_of roots

pub arctangents_nest : IsNested arctangent_of
arctangents_nest = nested_by arctangent_of arctangents

pub arcsines_nest : IsNested arcsine_of
arcsines_nest = nested_by arcsine_of arcsines

pub arccosines_nest : IsNested arccosine_of
arccosines_nest = nested_by arccosine_of arccosines

pub arctangents_of_two_nest : IsNestedOfTwo arctangent_of_two
arctangents_of_two_nest = record { within = λ n m i i' j j' l o p h k. two_nested n m l o p h k; inside = two_inside }
