-- Sine, cosine and tangent of an interval of degrees are narrower for a narrower interval and for a greater depth.
use Rattle.std.proofs.Common.{◌≡◌, ℕ, zero, suc, refl, arith, unsigned_abs, neg_ℤ, ℤ, pos, negsuc, ◌+ℤ◌, ◌-ℤ◌, ◌≤ℤ◌}
use Rattle.std.proofs.Common.{◌<ℤ◌, [], ◌∷◌, ◌≤◌}
use Rattle.std.proofs.lemmas.Int.{ints, by_lt_z}
use Rattle.exact_math.specs.Fraction.{Fraction, ◌≤F◌, ◌<F◌, whole, plus, opposite, times, smaller, larger}
use Rattle.exact_math.specs.Interval.{Interval, everything, between, IsProper, AreWithin, ◌⊆◌, sum, hull}
use Rattle.exact_math.specs.Sums.{one_over}
use Rattle.exact_math.proofs.Ring.{at, lit, ◌⊕◌, ◌⊖◌, ◌⊗◌, minus}
use Rattle.exact_math.proofs.Fractions.{le_refl, le_trans, le_lt_trans, times_mono, opposite_mono, smaller_keeps}
use Rattle.exact_math.proofs.Fractions.{smaller_first, larger_keeps, larger_first}
use Rattle.exact_math.proofs.Intervals.{within_trans, within_refl, smaller_mono, larger_mono, hull_within, hull_proper}
use Rattle.exact_math.proofs.Same.{whole-plus}
use Rattle.exact_math.proofs.Certificates.{zero_F, ◌≼◌, ◌≗◌, known, multiple, ◌⊞◌, ◌⊠◌, natural, le_by}
use Rattle.exact_math.proofs.Floors.{floor_mono, floor_below, floor_close}
use Rattle.exact_math.proofs.Hulls.{hull_holds_first, hull_holds_second, hull_least}
use Rattle.exact_math.proofs.Narrowing.{Narrowing, at_least, compose, argument, steady, sums, quotients}
use Rattle.book_model.specs.numbers.Octants.{only, octant_edge, octant_of_turn, sine_at, sine_in, hull_from}
use Rattle.book_model.specs.numbers.Octants.{last_octant, first_octant, sine_of_degrees, cosine_of_degrees}
use Rattle.book_model.specs.numbers.Octants.{tangent_of_degrees}
use Rattle.book_model.specs.programs.Nesting.{IsNested, IsNestedByDepth, AreOctantsMet}
use Rattle.book_model.specs.numbers.Series.{pi_at, sine_series, cosine_series, arctan_at}
use Rattle.book_model.proofs.SeriesNesting.{sines, cosines}
use Rattle.book_model.proofs.Pi.{pi_at_least, arctan_at_least}
use Rattle.book_model.proofs.Terms.{one_over_nonneg, one_over-whole}
use Rattle.book_model.proofs.OctantHulls.{all_sines, into_amid, into_deeper, into_proper, into_inside}

-- ---- the octants that an interval meets
whole_mono : (j k : ℤ) → j ≤ℤ k → whole j ≤F whole k
whole_mono j k h = record { cross = omega (arith, ints) }

pub edges_rise : (j k : ℤ) → j ≤ℤ k → octant_edge j ≤F octant_edge k
edges_rise j k h = le_by (whole j ∷ whole k ∷ []) ((at 0 ≼ at 1) ∷ []) (lit (pos 45) ⊗ at 0) (lit (pos 45) ⊗ at 1)
    (natural 45 ⊠ known 0) refl
    (whole_mono j k h, tt)

last_mono : (a b : Fraction) → a ≤F b → last_octant a ≤ℤ last_octant b
unfolding last_octant
last_mono a b h = floor_mono (times a (one_over 44)) (times b (one_over 44))
    (times_mono a b (one_over 44) (one_over_nonneg 44) h)

first_mono : (a b : Fraction) → a ≤F b → first_octant a ≤ℤ first_octant b
unfolding first_octant
first_mono a b h = let l = last_mono (opposite b) (opposite a) (opposite_mono a b h) in omega (arith, ints)

-- the last octant begins at or below the end
last_begins : (b : Fraction) → octant_edge (last_octant b) ≤F b
unfolding last_octant
last_begins b =
    le_by (b ∷ one_over 44 ∷ whole (last_octant b) ∷ []) ((at 2 ≼ at 0 ⊗ at 1) ∷ (lit (pos 45) ⊗ at 1 ≗ lit (pos 1))
    ∷ []) (lit (pos 45) ⊗ at 2) (at 0)
    (natural 45 ⊠ known 0 ⊞ multiple 1 (at 0)) refl (floor_below (times b (one_over 44)), (one_over-whole 44, tt))

next_first : (l : ℤ) → (neg_ℤ l -ℤ pos 1) +ℤ pos 1 ≡ neg_ℤ l
next_first l = omega (arith, ints)

edge_opposite : (a : Fraction) (l : ℤ) → octant_edge l ≤F opposite a → a ≤F octant_edge (neg_ℤ l)
unfolding opposite
edge_opposite a l h = le_by (a ∷ whole l ∷ []) ((lit (pos 45) ⊗ at 1 ≼ minus (at 0)) ∷ []) (at 0)
    (lit (pos 45) ⊗ minus (at 1)) (known 0) refl (h, tt)

-- the first octant ends at or above the beginning
first_endpoints : (a : Fraction) → a ≤F octant_edge (first_octant a +ℤ pos 1)
unfolding first_octant
first_endpoints a = rw (next_first (last_octant (opposite a)))
    (edge_opposite a (last_octant (opposite a)) (last_begins (opposite a)))

strict_weak : (a b : Fraction) → a <F b → a ≤F b
strict_weak a b h = record { cross = omega (arith, ints, h.strict) }

turned : (a : Fraction) (m : ℤ) → times (opposite a) (one_over 44) ≤F whole m → whole (neg_ℤ m) ≤F times a (one_over 44)
unfolding opposite
turned a m h = le_by (a ∷ one_over 44 ∷ whole m ∷ []) ((minus (at 0) ⊗ at 1 ≼ at 2) ∷ []) (minus (at 2)) (at 0 ⊗ at 1)
    (known 0) refl (h, tt)

whole_strict : (j k : ℤ) → whole j <F whole k → j <ℤ k
whole_strict j k h = omega (arith, ints, h.strict)

-- an interval meets an octant
pub first_before_last : (a b : Fraction) → a ≤F b → first_octant a ≤ℤ last_octant b
unfolding first_octant last_octant
first_before_last a b h =
    let low = turned a (last_octant (opposite a) +ℤ pos 1)
    (strict_weak _ _ (floor_close (times (opposite a) (one_over 44)))) in
    let mid = times_mono a b (one_over 44) (one_over_nonneg 44) h in
    let s = whole_strict (neg_ℤ (last_octant (opposite a) +ℤ pos 1)) (last_octant b +ℤ pos 1)
    (le_lt_trans _ _ _ low (le_lt_trans _ _ _ mid (floor_close (times b (one_over 44))))) in
    omega (arith, ints, s)

-- octants that an interval meets
pub record AreMet (a b : Fraction) (k : ℤ) : Type 0 where
  pub from : first_octant a ≤ℤ k
  pub to : k ≤ℤ last_octant b

pub begins_below : (a b : Fraction) (k : ℤ) → AreMet a b k → octant_edge k ≤F b
begins_below a b k m = le_trans _ (octant_edge (last_octant b)) _ (edges_rise k (last_octant b) m.to) (last_begins b)

pub endpoints_above : (a b : Fraction) (k : ℤ) → AreMet a b k → a ≤F octant_edge (k +ℤ pos 1)
endpoints_above a b k m =
    let f = m.from in
    le_trans _ (octant_edge (first_octant a +ℤ pos 1)) _ (first_endpoints a)
    (edges_rise (first_octant a +ℤ pos 1) (k +ℤ pos 1) (omega (arith, ints)))

-- an octant that begins at or below b is at most the last
begun_at_most : (b : Fraction) (k : ℤ) → octant_edge k ≤F b → k ≤ℤ last_octant b
unfolding last_octant
begun_at_most b k h =
    let low = le_by (b ∷ one_over 44 ∷ whole k ∷ []) ((lit (pos 45) ⊗ at 2 ≼ at 0) ∷ (lit (pos 45) ⊗ at 1 ≗ lit (pos 1))
    ∷ (lit (pos 0) ≼ at 1) ∷ []) (at 2)
    (at 0 ⊗ at 1)
    (known 0 ⊠ known 2 ⊞ multiple 1 (minus (at 2))) refl (h, (one_over-whole 44, (one_over_nonneg 44, tt))) in
    let s = whole_strict k (last_octant b +ℤ pos 1) (le_lt_trans _ _ _ low (floor_close (times b (one_over 44)))) in
    omega (arith, ints, s)

opposite_edge : (a : Fraction) (k : ℤ) → a ≤F octant_edge k → octant_edge (neg_ℤ k) ≤F opposite a
unfolding opposite
opposite_edge a k h = le_by (a ∷ whole k ∷ []) ((at 0 ≼ lit (pos 45) ⊗ at 1) ∷ []) (lit (pos 45) ⊗ minus (at 1))
    (minus (at 0)) (known 0) refl (h, tt)

-- an octant that ends at or above a is at least the first
ended_at_least : (a : Fraction) (k : ℤ) → a ≤F octant_edge (k +ℤ pos 1) → first_octant a ≤ℤ k
unfolding first_octant
ended_at_least a k h = let l = begun_at_most (opposite a) (neg_ℤ (k +ℤ pos 1)) (opposite_edge a (k +ℤ pos 1) h) in
    omega (arith, ints)

pub octants_met : AreOctantsMet
octants_met = record {
  met = λ a b k. (
    λ m. (
      endpoints_above a b k (record { from = m.0; to = m.1 }),
      begins_below a b k
          (record { from = m.0; to = m.1 }),
    ),
    λ m. (ended_at_least a k m.0, begun_at_most b k m.1),
  );
  some = first_before_last;
}

-- ---- the hull of a row
next_or_here : (k j : ℤ) (P : Type 0) → k ≤ℤ j → (j ≡ k → P) → ((k +ℤ pos 1) ≤ℤ j → P) → P
next_or_here k j P h here next = by_lt_z k j (λ l. next (omega (arith, ints))) (λ l. here (omega (arith, ints)))

pub hull_from_holds : (m : ℕ) (f : ℤ → Interval) (k j : ℤ) → k ≤ℤ j → j ≤ℤ (k +ℤ pos m) → f j ⊆ hull_from f k m
unfolding hull_from
hull_from_holds zero f k j h g = let e : j ≡ k = omega (arith, ints) in rw e (within_refl (f k))
hull_from_holds (suc m) f k j h g =
    next_or_here k j (f j ⊆ hull (f k) (hull_from f (k +ℤ pos 1) m)) h
    (λ e. rw e (hull_holds_first (f k) (hull_from f (k +ℤ pos 1) m)))
    (λ l. within_trans (hull_from_holds m f (k +ℤ pos 1) j l (omega (arith, ints)))
    (hull_holds_second (f k) (hull_from f (k +ℤ pos 1) m)))

pub hull_from_least : (m : ℕ) (f : ℤ → Interval) (k : ℤ) (x : Interval)
    → ((j : ℤ) → k ≤ℤ j → j ≤ℤ (k +ℤ pos m) → f j ⊆ x) → hull_from f k m ⊆ x
unfolding hull_from
hull_from_least zero f k x h = h k (omega (arith, ints)) (omega (arith, ints))
hull_from_least (suc m) f k x h =
    hull_least (h k (omega (arith, ints)) (omega (arith, ints)))
    (hull_from_least m f (k +ℤ pos 1) x (λ j l g. h j (omega (arith, ints)) (omega (arith, ints))))

pub hull_from_proper : (m : ℕ) (f : ℤ → Interval) (k : ℤ) → ((j : ℤ) → IsProper (f j)) → IsProper (hull_from f k m)
unfolding hull_from
hull_from_proper zero f k h = h k
hull_from_proper (suc m) f k h = hull_proper (f k) (hull_from f (k +ℤ pos 1) m) (h k)
    (hull_from_proper m f (k +ℤ pos 1) h)

own_size : (z : ℤ) → pos 0 ≤ℤ z → pos (unsigned_abs z) ≡ z
own_size (pos n) h = refl
own_size (negsuc n) h = absurd (omega (arith, ints))

reaches : (f l : ℤ) → f ≤ℤ l → f +ℤ pos (unsigned_abs (l -ℤ f)) ≡ l
reaches f l h = let e = own_size (l -ℤ f) (omega (arith, ints)) in rw e (omega (arith, ints))

-- the hull over the octants that an interval meets
abbrev pub over : (ℤ → Interval) → Fraction → Fraction → Interval
over f a b = hull_from f (first_octant a) (unsigned_abs (last_octant b -ℤ first_octant a))

over_holds : (f : ℤ → Interval) (a b : Fraction) (k : ℤ) → a ≤F b → AreMet a b k → f k ⊆ over f a b
over_holds f a b k p m =
    let e = reaches (first_octant a) (last_octant b) (first_before_last a b p) in
    hull_from_holds (unsigned_abs (last_octant b -ℤ first_octant a)) f (first_octant a) k m.from (rw e m.to)

pub over_least : (f : ℤ → Interval) (a b : Fraction) (x : Interval) → a ≤F b → ((k : ℤ) → AreMet a b k → f k ⊆ x)
    → over f a b ⊆ x
over_least f a b x p h =
    let e = reaches (first_octant a) (last_octant b) (first_before_last a b p) in
    hull_from_least (unsigned_abs (last_octant b -ℤ first_octant a)) f (first_octant a) x
    (λ k l g. h k (record { from = l; to = rw e at g }))

-- ---- the sines in one octant
pub record AreInOctant (k : ℤ) (x y z : Fraction) : Type 0 where
  pub begun : octant_edge k ≤F x
  pub first : x ≤F y
  pub second : y ≤F z
  pub ended : z ≤F octant_edge (k +ℤ pos 1)

beyond_nonneg : (k : ℤ) (x : Fraction) → octant_edge k ≤F x → zero_F ≤F plus x (opposite (octant_edge k))
beyond_nonneg k x h = le_by (x ∷ octant_edge k ∷ []) ((at 1 ≼ at 0) ∷ []) (lit (pos 0)) (at 0 ⊖ at 1) (known 0) refl
    (h, tt)

beyond_bounded : (k : ℤ) (x : Fraction) → x ≤F octant_edge (k +ℤ pos 1)
    → plus x (opposite (octant_edge k)) ≤F whole (pos 45)
beyond_bounded k x h =
    le_by (x ∷ whole k ∷ whole (k +ℤ pos 1) ∷ []) ((at 0 ≼ lit (pos 45) ⊗ at 2) ∷ (at 2 ≗ at 1 ⊕ lit (pos 1)) ∷ [])
    (at 0 ⊖ lit (pos 45) ⊗ at 1) (lit (pos 45))
    (known 0 ⊞ multiple 1 (lit (pos 45))) refl (h, (whole-plus k (pos 1), tt))

beyond_order : (k : ℤ) (x y : Fraction) → x ≤F y → plus x (opposite (octant_edge k)) ≤F plus y
    (opposite (octant_edge k))
beyond_order k x y h = le_by (x ∷ y ∷ octant_edge k ∷ []) ((at 0 ≼ at 1) ∷ []) (at 0 ⊖ at 2) (at 1 ⊖ at 2) (known 0)
    refl (h, tt)

pub at_amid : (n : ℕ) (k : ℤ) (x y z : Fraction) → AreInOctant k x y z
    → sine_at (suc n) k y ⊆ hull (sine_at (suc n) k x) (sine_at (suc n) k z)
unfolding sine_at
at_amid n k x y z i =
    into_amid n (octant_of_turn k) _ _ _
    (record {
      nonneg = beyond_nonneg k x i.begun;
      first = beyond_order k x y i.first;
      second = beyond_order k y z i.second;
      bounded = beyond_bounded k z i.ended;
    })

at_inside : (n : ℕ) (k : ℤ) (x : Fraction) → octant_edge k ≤F x → x ≤F octant_edge (k +ℤ pos 1)
    → sine_at (suc n) k x ⊆ all_sines
unfolding sine_at
at_inside n k x h g = into_inside n (octant_of_turn k) _ (beyond_nonneg k x h) (beyond_bounded k x g)

-- the part of a .. b in an octant that it meets
record IsPart (k : ℤ) (a b : Fraction) : Type 0 where
  begun : octant_edge k ≤F larger (octant_edge k) a
  ordered : larger (octant_edge k) a ≤F smaller (octant_edge (k +ℤ pos 1)) b
  ended : smaller (octant_edge (k +ℤ pos 1)) b ≤F octant_edge (k +ℤ pos 1)

part : (a b : Fraction) (k : ℤ) → a ≤F b → AreMet a b k → IsPart k a b
part a b k p m = record {
  begun = larger_first (octant_edge k) a;
  ordered = larger_keeps (λ z. z ≤F smaller (octant_edge (k +ℤ pos 1)) b) (octant_edge k) a
      (smaller_keeps (λ z. octant_edge k ≤F z) (octant_edge (k +ℤ pos 1)) b
      (edges_rise k (k +ℤ pos 1) (omega (arith, ints))) (begins_below a b k m))
      (smaller_keeps (λ z. a ≤F z) (octant_edge (k +ℤ pos 1)) b (endpoints_above a b k m) p);
  ended = smaller_first (octant_edge (k +ℤ pos 1)) b;
}

met_outside : (a b c d : Fraction) (k : ℤ) → c ≤F a → b ≤F d → AreMet a b k → AreMet c d k
met_outside a b c d k h g m =
    let x = first_mono c a h in
    let y = last_mono b d g in
    let f = m.from in
    let t = m.to in
    record { from = omega (arith, ints); to = omega (arith, ints) }

in_within : (n : ℕ) (a b c d : Fraction) (k : ℤ) → a ≤F b → c ≤F a → b ≤F d → AreMet a b k
    → sine_in (suc n) a b k ⊆ sine_in (suc n) c d k
unfolding sine_in
in_within n a b c d k p h g m =
    let i = part a b k p m in
    let low = larger_mono (octant_edge k) (octant_edge k) c a (le_refl (octant_edge k)) h in
    let high = smaller_mono (octant_edge (k +ℤ pos 1)) (octant_edge (k +ℤ pos 1)) b d
    (le_refl (octant_edge (k +ℤ pos 1))) g in
    let begun = larger_first (octant_edge k) c in
    let ended = smaller_first (octant_edge (k +ℤ pos 1)) d in
    hull_least
    (at_amid n k _ _ _ (record { begun = begun; first = low; second = le_trans _ _ _ i.ordered high; ended = ended }))
    (at_amid n k _ _ _ (record { begun = begun; first = le_trans _ _ _ low i.ordered; second = high; ended = ended }))

in_deeper : (n : ℕ) (a b : Fraction) (k : ℤ) → sine_in (suc (suc n)) a b k ⊆ sine_in (suc n) a b k
unfolding sine_in sine_at
in_deeper n a b k = hull_within (into_deeper n (octant_of_turn k) _) (into_deeper n (octant_of_turn k) _)

in_proper : (n : ℕ) (a b : Fraction) (k : ℤ) → IsProper (sine_in (suc n) a b k)
unfolding sine_in sine_at
in_proper n a b k = hull_proper _ _ (into_proper n (octant_of_turn k) _) (into_proper n (octant_of_turn k) _)

in_inside : (n : ℕ) (a b : Fraction) (k : ℤ) → a ≤F b → AreMet a b k → sine_in (suc n) a b k ⊆ all_sines
unfolding sine_in
in_inside n a b k p m =
    let i = part a b k p m in
    hull_least (at_inside n k _ i.begun (le_trans _ _ _ i.ordered i.ended))
    (at_inside n k _ (le_trans _ _ _ i.begun i.ordered) i.ended)

-- ---- the sine
sines_proper : IsProper all_sines
sines_proper = record { cross = omega (arith, ints) }

sine_proper : (n : ℕ) (i : Interval) → IsProper i → IsProper (sine_of_degrees n i)
unfolding sine_of_degrees
sine_proper zero i p = sines_proper
sine_proper (suc n) everything p = sines_proper
sine_proper (suc n) (between a b) p = hull_from_proper _ (sine_in (suc n) a b) (first_octant a) (in_proper n a b)

pub sine_inside : (n : ℕ) (i : Interval) → IsProper i → sine_of_degrees n i ⊆ all_sines
unfolding sine_of_degrees
sine_inside zero i p = within_refl all_sines
sine_inside (suc n) everything p = within_refl all_sines
sine_inside (suc n) (between a b) p = over_least (sine_in (suc n) a b) a b all_sines p (λ k m. in_inside n a b k p m)

sine_endpoints : (n : ℕ) (i j : Interval) → IsProper i → AreWithin i j → sine_of_degrees n i ⊆ sine_of_degrees n j
unfolding sine_of_degrees
sine_endpoints zero i j p h = within_refl all_sines
sine_endpoints (suc n) i everything p h = sine_inside (suc n) i p
sine_endpoints (suc n) everything (between c d) p h = absurd h
sine_endpoints (suc n) (between a b) (between c d) p h =
    let q = le_trans c a d h.0 (le_trans a b d p h.1) in
    over_least (sine_in (suc n) a b) a b _ p
    (λ k m. within_trans (in_within n a b c d k p h.0 h.1 m)
    (over_holds (sine_in (suc n) c d) c d k q (met_outside a b c d k h.0 h.1 m)))

sine_deeper : (n : ℕ) (i : Interval) → IsProper i → sine_of_degrees (suc n) i ⊆ sine_of_degrees n i
unfolding sine_of_degrees
sine_deeper zero i p = sine_inside 1 i p
sine_deeper (suc n) everything p = within_refl all_sines
sine_deeper (suc n) (between a b) p =
    over_least (sine_in (suc (suc n)) a b) a b _ p
    (λ k m. within_trans (in_deeper n a b k) (over_holds (sine_in (suc n) a b) a b k p m))

pub degree_sines : Narrowing sine_of_degrees
degree_sines = record {
  proper = sine_proper;
  within = λ n {i} {j} p h. sine_endpoints n i j p h.endpoints;
  deeper = sine_deeper;
}

pub degree_cosines : Narrowing cosine_of_degrees
unfolding cosine_of_degrees
degree_cosines =
    compose sine_of_degrees (λ n i. sum i (only (whole (pos 90)))) degree_sines
    (sums (λ n i. i) (λ n i. only (whole (pos 90))) argument
    (steady (only (whole (pos 90))) (le_refl (whole (pos 90)))))

pub degree_tangents : Narrowing tangent_of_degrees
unfolding tangent_of_degrees
degree_tangents = quotients sine_of_degrees cosine_of_degrees degree_sines degree_cosines

pub nested_by : (f : ℕ → Interval → Interval) → Narrowing f → IsNested f
nested_by f c = record { within = λ n m i j l p h. at_least f c n m l p h }

pub sine_nests : IsNested sine_of_degrees
sine_nests = nested_by sine_of_degrees degree_sines

pub cosine_nests : IsNested cosine_of_degrees
cosine_nests = nested_by cosine_of_degrees degree_cosines

pub tangent_nests : IsNested tangent_of_degrees
tangent_nests = nested_by tangent_of_degrees degree_tangents

pub pi_nests : IsNestedByDepth pi_at
pi_nests = record { within = pi_at_least }

-- the series themselves
pub sine_series_nests : IsNested sine_series
sine_series_nests = nested_by sine_series sines

pub cosine_series_nests : IsNested (λ n. cosine_series (suc n))
cosine_series_nests = nested_by (λ n. cosine_series (suc n)) cosines

pub arctan_nests : (k : ℕ) → 1 ≤ k → IsNestedByDepth (λ n. arctan_at n (one_over k))
arctan_nests k h = record { within = λ n m l. arctan_at_least k n m h l }
