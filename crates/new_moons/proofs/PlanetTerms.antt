-- The planets' terms are periodic terms by months in turns, and their sum in days is a millionth of the sum of
-- these. A term's angle is that of its periodic term, as a fraction; its size in days is a millionth of the
-- periodic term's, so the sums are too, member by member.
use Rattle.std.proofs.Common.{◌≡◌, ℕ, zero, suc, refl, arith, ℤ, pos, ◌+ℤ◌, ◌*ℤ◌, List, [], ◌∷◌, slice_index_or}
use Rattle.std.proofs.lemmas.Int.{ints}
use Rattle.book_model.specs.Fraction.{Fraction, ◌≈◌, ◌≤F◌, whole, plus, times}
use Rattle.book_model.specs.Interval.{Interval, everything, between, zero_fraction, IsProper, IsMember, ◌⊆◌, sum}
use Rattle.book_model.specs.Interval.{product, least, greatest}
use Rattle.book_model.proofs.FractionRing.{same_by}
use Rattle.book_model.proofs.Fractions.{le_refl, le_trans, plus_mono, times_mono}
use Rattle.book_model.proofs.Intervals.{within_trans, within_refl, within_everything, product_within, product_holds}
use Rattle.book_model.proofs.Intervals.{sum_within, least_is, greatest_is, least_below, greatest_above}
use Rattle.book_model.proofs.Ring.{at, lit, ◌⊕◌, ◌⊗◌, ring}
use Rattle.book_model.proofs.Same.{same_trans, same_refl, times_cong, plus_times, le_of_same, ge_of_same}
use Rattle.book_model.specs.declared.polynomial.PeriodicTerm.{PeriodicTerm}
use Rattle.book_model.specs.declared.moon_terms.PlanetTerm.{PlanetTerm}
use Rattle.book_model.specs.declared.new_moon_tables.TheConstants.{PLANET_TERMS}
use Rattle.book_model.specs.numbers.Expressions.{World, value, exactly, add, scale, integer, constant, sine}
use Rattle.book_model.specs.numbers.Fractions.{ten_millionths, daily_ten_millionths}
use Rattle.book_model.specs.numbers.Polynomials.{no_periodic_term}
use Rattle.book_model.specs.numbers.Relations.{Within, Lies}
use Rattle.book_model.specs.numbers.Terms.{terms_to, terms_of}
use Rattle.book_model.specs.sky.NewMoons.{millionths, planet_angle, planet_term_of, planet_terms_of, no_planet_term}
use Rattle.book_model.proofs.DegreeSines.{degree_sines}
use Rattle.book_model.proofs.Exactly.{product_exactly, sum_exactly}
use Rattle.book_model.proofs.Values.{value_proper}
use Rattle.periodic_terms.specs.Turning.{AreTurning, HasReach, turning_term_of, reach_to, sizes_to}
use Rattle.periodic_terms.proofs.TableMatches.{tables_match}
use Rattle.new_moons.specs.declared.planets.TheConstants.{PLANET_TURNS, PLANET_SLOPE, PLANET_SIZES}
use Rattle.new_moons.proofs.MonthPolynomials.{exactly_within}

-- ---- a planet's term as a periodic term by months: 10^-2 degrees are 10^5 of 10^-7, and 10^-6 degrees a month are
-- 365250 of
-- 10^-7 degrees for 36525
abbrev term_of_planet : PlanetTerm → PeriodicTerm
term_of_planet t = record { size = t.size; phase = pos 100000 *ℤ t.phase; rate = pos 365250 *ℤ t.rate }

abbrev pub planet_periodic_terms : List PlanetTerm → List PeriodicTerm
planet_periodic_terms [] = []
planet_periodic_terms (t ∷ ts) = term_of_planet t ∷ planet_periodic_terms ts

term_at : (ts : List PlanetTerm) (i : ℕ) → slice_index_or (planet_periodic_terms ts) i no_periodic_term ≡ term_of_planet
    (slice_index_or ts i no_planet_term)
term_at [] i = refl
term_at (t ∷ ts) zero = refl
term_at (t ∷ ts) (suc i) = term_at ts i

-- ---- the two tables match
pub planet_turns : AreTurning (planet_periodic_terms PLANET_TERMS) PLANET_TURNS
planet_turns = tables_match (planet_periodic_terms PLANET_TERMS) PLANET_TURNS refl

reach_is : reach_to (planet_periodic_terms PLANET_TERMS) 13 ≡ 6595169770341750
unfolding reach_to
reach_is = refl

sizes_are : sizes_to (planet_periodic_terms PLANET_TERMS) 13 ≡ 967
unfolding sizes_to
sizes_are = refl

pub planet_reach : HasReach (planet_periodic_terms PLANET_TERMS) PLANET_SLOPE PLANET_SIZES
planet_reach = record { reach = rw reach_is (omega (arith, ints)); total = rw sizes_are (omega (arith, ints)) }

-- ---- products with a number
-- a number of the value of a member is a member
same_member : (i : Interval) (x y : Fraction) → x ≈ y → IsMember x i → IsMember y i
same_member everything x y e h = tt
same_member (between a b) x y e h = (le_trans _ _ _ h.0 (le_of_same e), le_trans _ _ _ (ge_of_same e) h.1)

-- the product of a member with one number, and then with the other
twice_member : (i : Interval) (a b f x : Fraction) → times a b ≈ f → IsMember x i
    → IsMember (times x f) (product (product i (exactly a)) (exactly b))
twice_member i a b f x e m =
    let first = product_holds i (exactly a) x a m (le_refl a, le_refl a) in
    let second = product_holds (product i (exactly a)) (exactly b) (times x a) b first (le_refl b, le_refl b) in
    let same : times (times x a) b ≈ times x f = same_trans (same_by (x ∷ a ∷ b ∷ []) ((at 0 ⊗ at 1) ⊗ at 2)
    (at 0 ⊗ (at 1 ⊗ at 2)) refl)
    (times_cong (same_refl x) e) in
    same_member (product (product i (exactly a)) (exactly b)) (times (times x a) b) (times x f) same second

-- an interval that holds the product of each member with a number holds the product with that number
product_in : (i j : Interval) (f : Fraction) → IsProper i → ((x : Fraction) → IsMember x i → IsMember (times x f) j)
    → (i ≡ everything → j ≡ everything)
    → product i (exactly f) ⊆ j
unfolding product
product_in everything j f p h e = rw (e refl) (within_everything everything)
product_in (between a b) everything f p h e = within_everything _
product_in (between a b) (between c d) f p h e =
    let l = h a (le_refl a, p) in
    let u = h b (p, le_refl b) in
    record { endpoints = (least_is c _ _ _ _ l.0 l.0 u.0 u.0, greatest_is d _ _ _ _ l.1 l.1 u.1 u.1) }

whole_twice : (i : Interval) (a b : Fraction) → i ≡ everything → product (product i (exactly a)) (exactly b)
    ≡ everything
unfolding product
whole_twice i a b e = rw e refl

-- a product with the product of two numbers lies within that with one and then the other
twice_within : (i : Interval) (a b f : Fraction) → IsProper i → times a b ≈ f
    → product i (exactly f) ⊆ product (product i (exactly a)) (exactly b)
twice_within i a b f p e = product_in i (product (product i (exactly a)) (exactly b)) f p
    (λ x m. twice_member i a b f x e m) (whole_twice i a b)

-- the endpoints of the sum of two products with a number that isn't negative
module _ (a b c d f : Fraction) (z : zero_fraction ≤F f) (p : a ≤F b) (q : c ≤F d) where
  low_sum : least (times (plus a c) f) (times (plus a c) f) (times (plus b d) f) (times (plus b d) f)
      ≤F plus (least (times a f) (times a f) (times b f) (times b f))
      (least (times c f) (times c f) (times d f) (times d f))
  low_sum =
      let m = times_mono a b f z p in
      let n = times_mono c d f z q in
      le_trans _ _ _ (least_below (times (plus a c) f) (times (plus a c) f) (times (plus b d) f) (times (plus b d) f)).0
      (le_trans _ _ _ (le_of_same (plus_times a c f))
      (plus_mono _ _ _ _ (least_is (times a f) _ _ _ _ (le_refl _) (le_refl _) m m)
      (least_is (times c f) _ _ _ _ (le_refl _) (le_refl _) n n)))

  high_sum : plus (greatest (times a f) (times a f) (times b f) (times b f))
      (greatest (times c f) (times c f) (times d f) (times d f))
      ≤F greatest (times (plus a c) f) (times (plus a c) f) (times (plus b d) f) (times (plus b d) f)
  high_sum =
      let m = times_mono a b f z p in
      let n = times_mono c d f z q in
      le_trans _ _ _
      (plus_mono _ _ _ _ (greatest_is (times b f) _ _ _ _ m m (le_refl _) (le_refl _))
      (greatest_is (times d f) _ _ _ _ n n (le_refl _) (le_refl _)))
      (le_trans _ _ _ (ge_of_same (plus_times b d f))
      (greatest_above (times (plus a c) f) (times (plus a c) f) (times (plus b d) f) (times (plus b d) f)).2)

-- the sum of two products with a number that isn't negative lies within the product of the sum
scaled_sum : (i j : Interval) (f : Fraction) → zero_fraction ≤F f → IsProper i → IsProper j
    → sum (product i (exactly f)) (product j (exactly f)) ⊆ product (sum i j) (exactly f)
unfolding sum product
scaled_sum everything j f z p q = within_everything _
scaled_sum (between a b) everything f z p q = within_everything _
scaled_sum (between a b) (between c d) f z p q =
    record { endpoints = (low_sum a b c d f z p q, high_sum a b c d f z p q) }

-- ---- a term
-- its angle is that of the periodic term at the number
angle_same : (k phase rate : ℤ) → millionths (pos 10000 *ℤ phase +ℤ rate *ℤ k)
    ≈ plus (ten_millionths (pos 100000 *ℤ phase)) (times (whole k) (daily_ten_millionths (pos 365250 *ℤ rate)))
unfolding plus times
angle_same k phase rate = record {
  cross =
      ring (k ∷ phase ∷ rate ∷ []) ((lit (pos 10000) ⊗ at 1 ⊕ at 2 ⊗ at 0) ⊗ lit (pos 3652500000000000000))
      (((lit (pos 100000) ⊗ at 1) ⊗ lit (pos 365250000000) ⊕ (at 0 ⊗ (lit (pos 365250) ⊗ at 2)) ⊗ lit (pos 10000000)) ⊗
      lit (pos 1000000)) refl;
}

angle_within : (w : World) (k : ℤ) (t : PlanetTerm) → value w (constant (millionths (planet_angle k t)))
    ⊆ value w (add (constant (ten_millionths (pos 100000 *ℤ t.phase)))
    (scale (daily_ten_millionths (pos 365250 *ℤ t.rate)) (integer k)))
unfolding value
angle_within w k t =
    rw (
      product_exactly (whole k) (daily_ten_millionths (pos 365250 *ℤ t.rate)),
      sum_exactly (ten_millionths (pos 100000 *ℤ t.phase)) (times (whole k)
          (daily_ten_millionths (pos 365250 *ℤ t.rate))),
    )
    (exactly_within _ _ (angle_same k t.phase t.rate))

size_same : (n : ℤ) → times (whole n) (millionths (pos 1)) ≈ millionths n
unfolding times
size_same n = record { cross = omega (arith, ints) }

term_within : (w : World) (k : ℤ) (t : PlanetTerm)
    → value w (planet_term_of k t) ⊆ value w (scale (millionths (pos 1))
    (turning_term_of (integer k) (term_of_planet t)))
unfolding value planet_term_of turning_term_of
term_within w k t =
    let a = constant (millionths (planet_angle k t)) in
    let b = add (constant (ten_millionths (pos 100000 *ℤ t.phase)))
    (scale (daily_ten_millionths (pos 365250 *ℤ t.rate)) (integer k)) in
    within_trans
    (product_within (value_proper w (sine a)) (le_refl (millionths t.size))
    (degree_sines.within w.depth (value_proper w a) (angle_within w k t))
    (within_refl (exactly (millionths t.size))))
    (twice_within (value w (sine b)) (whole t.size) (millionths (pos 1)) (millionths t.size) (value_proper w (sine b))
    (size_same t.size))

-- ---- the sum
no_sum : times (whole (pos 0)) (millionths (pos 1)) ≈ whole (pos 0)
unfolding times
no_sum = record { cross = refl }

millionth_positive : zero_fraction ≤F millionths (pos 1)
millionth_positive = record { cross = omega (arith, ints) }

sums_within : (w : World) (k : ℤ) (ts : List PlanetTerm) (n : ℕ)
    → value w (terms_to (planet_term_of k) no_planet_term ts n)
    ⊆ value w (scale (millionths (pos 1)) (terms_to (turning_term_of (integer k)) no_periodic_term
    (planet_periodic_terms ts) n))
unfolding value terms_to
sums_within w k ts zero =
    rw (product_exactly (whole (pos 0)) (millionths (pos 1)))
    (record { endpoints = (le_of_same no_sum, ge_of_same no_sum) })
sums_within w k ts (suc n) =
    let x = integer k in
    let v = slice_index_or (planet_periodic_terms ts) n no_periodic_term in
    let t : value w (planet_term_of k (slice_index_or ts n no_planet_term))
    ⊆ value w (scale (millionths (pos 1)) (turning_term_of x v)) = rw (term_at ts n)
    (term_within w k (slice_index_or ts n no_planet_term)) in
    within_trans (sum_within (sums_within w k ts n) t)
    (scaled_sum (value w (terms_to (turning_term_of x) no_periodic_term (planet_periodic_terms ts) n))
    (value w (turning_term_of x v))
    (millionths (pos 1)) millionth_positive
    (value_proper w (terms_to (turning_term_of x) no_periodic_term (planet_periodic_terms ts) n))
    (value_proper w (turning_term_of x v)))

-- what holds a millionth of the periodic terms' sum at a number holds what the planets add
pub planets_hold : {E : Type 0} (shown : E → Interval) (w : World) (k : ℤ) (e : E)
    → Within shown w (scale (millionths (pos 1)) (terms_of (turning_term_of (integer k)) no_periodic_term
    (planet_periodic_terms PLANET_TERMS))) e
    → Within shown w (planet_terms_of k) e
unfolding Lies terms_of planet_terms_of
planets_hold shown w k e h = record {
  deep = h.deep;
  inside = within_trans (sums_within w k PLANET_TERMS 13) h.inside;
}
