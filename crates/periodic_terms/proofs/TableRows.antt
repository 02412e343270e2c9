-- The rows of the moon's tables: they are small and have these totals, which is computed of the tables, and they are
-- the terms of the definitions, for which the angle of a row is the sum of its multiples, one after another.
use Rattle.std.specs.Prelude.{◌&&◌}
use Rattle.std.specs.Int.Signed.{le_z, le_z_yes}
use Rattle.std.proofs.Common.{◌≡◌, ℕ, zero, suc, ◌+◌, ◌*◌, ◌^◌, ◌≤◌, refl, arith, Bool, true, false, unsigned_abs, ℤ}
use Rattle.std.proofs.Common.{pos, ◌+ℤ◌, ◌*ℤ◌, ◌≤ℤ◌, List}
use Rattle.std.proofs.Common.{[], ◌∷◌, ◌<◌, length, slice_index_or}
use Rattle.std.proofs.lemmas.Float.{T_from_true}
use Rattle.std.proofs.lemmas.Int.{ints}
use Rattle.book_model.specs.Fraction.{whole}
use Rattle.book_model.proofs.Ring.{at, lit, ◌⊕◌, ◌⊗◌, ring}
use Rattle.book_model.specs.declared.moon_tables.TheConstants.{LATITUDE_TERMS, MOON_TERMS}
use Rattle.book_model.specs.declared.moon_terms.LatitudeTerm.{LatitudeTerm}
use Rattle.book_model.specs.declared.moon_terms.MoonTerm.{MoonTerm}
use Rattle.book_model.specs.declared.moon_terms.NewMoonTerm.{NewMoonTerm}
use Rattle.book_model.specs.declared.new_moon_tables.TheConstants.{NEW_MOON_TERMS}
use Rattle.book_model.specs.numbers.Expressions.{Expression, World, value, scale}
use Rattle.book_model.specs.sky.Distance.{distance_part_of, distance_term_of}
use Rattle.book_model.specs.sky.Latitude.{latitude_term_of, no_latitude_term}
use Rattle.book_model.specs.sky.Moon.{LunarAngles, lunar_angle_of, lunar_term_of, longitude_term_of, no_term}
use Rattle.book_model.specs.sky.NewMoons.{NewMoonAngles, angle_of_new_moon_term, new_moon_term_of, no_new_moon_term}
use Rattle.book_model.proofs.Values.{value_proper}
use Rattle.periodic_terms.specs.Angles.{IsKnown, IsNearTurn}
use Rattle.periodic_terms.specs.MeanAngles.{with_elongation}
use Rattle.periodic_terms.specs.Multiples.{AreFew, AreKnown, AreSmall, AreTerms, AreTurns, AreTwoTurns, HasSums}
use Rattle.periodic_terms.specs.Multiples.{IsSmallRow, IsTerm, count_of, half_of, multiples_of, sums_to}
use Rattle.periodic_terms.specs.Tables.{distance_row_of, greatest_rows, longitude_row_of, latitude_row_of}
use Rattle.periodic_terms.specs.Tables.{new_moon_row_of, other_rows}
use Rattle.periodic_terms.specs.declared.mean.MeanTurns.{MeanTurns}
use Rattle.periodic_terms.specs.declared.term_rows.Multiples.{Multiples}
use Rattle.periodic_terms.specs.declared.tables.TheConstants.{DISTANCE_SUMS, GREATEST_SUMS, LATITUDE_SUMS}
use Rattle.periodic_terms.specs.declared.tables.TheConstants.{LONGITUDE_SUMS, NEW_MOON_SUMS, OTHER_SUMS}
use Rattle.periodic_terms.proofs.NearTurns.{multiple_near, none_near, sum_near}

-- ---- small rows
abbrev is_small : Multiples → Bool
is_small r =
    le_z (pos (count_of r)) (pos 8) && (le_z (pos r.quarters) (pos 1) &&
    (le_z (pos r.power) (pos 2) && le_z (pos (unsigned_abs r.size)) (pos (2 ^ 25))))

abbrev all_small : {T : Type 0} → (T → Multiples) → List T → Bool
all_small row_of [] = true
all_small row_of (x ∷ xs) = is_small (row_of x) && all_small row_of xs

first : (p q : Bool) → (p && q) ≡ true → p ≡ true
first true q h = refl
first false q h = absurd (cc)

second : (p q : Bool) → (p && q) ≡ true → q ≡ true
second true q h = h
second false q h = absurd (cc)

at_most : (a b : ℕ) → le_z (pos a) (pos b) ≡ true → a ≤ b
at_most a b e = let h : pos a ≤ℤ pos b = le_z_yes (T_from_true _ e) in omega (arith, ints, h)

small_is : (r : Multiples) → is_small r ≡ true → IsSmallRow r
small_is r h =
    let p = second _ _ h in
    let q = second _ _ p in
    record {
      few = at_most (count_of r) 8 (first _ _ h);
      quarters = at_most r.quarters 1 (first _ _ p);
      power = at_most r.power 2 (first _ _ q);
      size = at_most (unsigned_abs r.size) (2 ^ 25) (second _ _ q);
    }

small_rows : {T : Type 0} (row_of : T → Multiples) (rows : List T) → all_small row_of rows ≡ true → AreSmall row_of rows
small_rows row_of [] h i l none = absurd (omega (arith, l))
small_rows row_of (x ∷ xs) h zero l none = small_is (row_of x) (first _ _ h)
small_rows row_of (x ∷ xs) h (suc i) l none = small_rows row_of xs (second _ _ h) i (omega (arith, l)) none

pub longitude_small : AreSmall longitude_row_of MOON_TERMS
longitude_small = small_rows longitude_row_of MOON_TERMS refl

pub greatest_small : AreSmall longitude_row_of greatest_rows
greatest_small = small_rows longitude_row_of greatest_rows refl

pub other_small : AreSmall longitude_row_of other_rows
other_small = small_rows longitude_row_of other_rows refl

pub distance_small : AreSmall distance_row_of MOON_TERMS
distance_small = small_rows distance_row_of MOON_TERMS refl

pub latitude_small : AreSmall latitude_row_of LATITUDE_TERMS
latitude_small = small_rows latitude_row_of LATITUDE_TERMS refl

pub new_moon_small : AreSmall new_moon_row_of NEW_MOON_TERMS
new_moon_small = small_rows new_moon_row_of NEW_MOON_TERMS refl

-- ---- their totals
pub longitude_sums : (none : MoonTerm) → HasSums longitude_row_of MOON_TERMS none LONGITUDE_SUMS
unfolding sums_to
longitude_sums none = refl

pub greatest_sums : (none : MoonTerm) → HasSums longitude_row_of greatest_rows none GREATEST_SUMS
unfolding sums_to
greatest_sums none = refl

pub other_sums : (none : MoonTerm) → HasSums longitude_row_of other_rows none OTHER_SUMS
unfolding sums_to
other_sums none = refl

pub distance_sums : (none : MoonTerm) → HasSums distance_row_of MOON_TERMS none DISTANCE_SUMS
unfolding sums_to
distance_sums none = refl

pub latitude_sums : (none : LatitudeTerm) → HasSums latitude_row_of LATITUDE_TERMS none LATITUDE_SUMS
unfolding sums_to
latitude_sums none = refl

pub new_moon_sums : (none : NewMoonTerm) → HasSums new_moon_row_of NEW_MOON_TERMS none NEW_MOON_SUMS
unfolding sums_to
new_moon_sums none = refl

pub few_rows : (n m : ℕ) → n ≡ m → m ≤ 64 → n ≤ 2 ^ 6
few_rows n m e h = omega (arith, e, h)

pub longitude_few : AreFew LONGITUDE_SUMS
longitude_few =
    record {
      elongation = omega arith;
      sun_anomaly = omega arith;
      moon_anomaly = omega arith;
      latitude_argument = omega arith;
      sizes = omega arith;
      powered = omega arith;
    }

pub greatest_few : AreFew GREATEST_SUMS
greatest_few =
    record {
      elongation = omega arith;
      sun_anomaly = omega arith;
      moon_anomaly = omega arith;
      latitude_argument = omega arith;
      sizes = omega arith;
      powered = omega arith;
    }

pub other_few : AreFew OTHER_SUMS
other_few =
    record {
      elongation = omega arith;
      sun_anomaly = omega arith;
      moon_anomaly = omega arith;
      latitude_argument = omega arith;
      sizes = omega arith;
      powered = omega arith;
    }

pub distance_few : AreFew DISTANCE_SUMS
distance_few =
    record {
      elongation = omega arith;
      sun_anomaly = omega arith;
      moon_anomaly = omega arith;
      latitude_argument = omega arith;
      sizes = omega arith;
      powered = omega arith;
    }

pub latitude_few : AreFew LATITUDE_SUMS
latitude_few =
    record {
      elongation = omega arith;
      sun_anomaly = omega arith;
      moon_anomaly = omega arith;
      latitude_argument = omega arith;
      sizes = omega arith;
      powered = omega arith;
    }

pub new_moon_few : AreFew NEW_MOON_SUMS
new_moon_few =
    record {
      elongation = omega arith;
      sun_anomaly = omega arith;
      moon_anomaly = omega arith;
      latitude_argument = omega arith;
      sizes = omega arith;
      powered = omega arith;
    }

-- ---- the angle of a row
three_counted : (e a b c : ℕ) → (a + b) + c ≡ ((0 * e + a) + b) + c
three_counted e a b c = omega arith

without_first : (e p q r : ℤ) → (p +ℤ q) +ℤ r ≡ ((pos 0 *ℤ e +ℤ p) +ℤ q) +ℤ r
without_first e p q r = ring (e ∷ p ∷ q ∷ r ∷ []) ((at 1 ⊕ at 2) ⊕ at 3) (((lit (pos 0) ⊗ at 0 ⊕ at 1) ⊕ at 2) ⊕ at 3)
    refl

part_near : (w : World) (x : Expression) (m t : ℤ) (h : ℕ) → IsNearTurn t h (value w x)
    → IsNearTurn (m *ℤ t) (unsigned_abs m * h) (value w (scale (whole m) x))
unfolding value
part_near w x m t h k = multiple_near m t h (value w x) (value_proper w x) k

lunar_near : (w : World) (a : LunarAngles) (t : MeanTurns) (r : Multiples)
    → AreTurns w a t → AreKnown t
    → IsNearTurn (multiples_of t r) (half_of t r) (value w (lunar_angle_of a r.elongation r.sun_anomaly r.moon_anomaly
    r.latitude_argument))
unfolding value lunar_angle_of
lunar_near w a t r k h =
    let d = part_near w a.elongation r.elongation (pos t.elongation.turn.0) t.elongation.half.count
    (k.elongation h.elongation)
    in
    let m = part_near w a.sun_anomaly r.sun_anomaly (pos t.sun_anomaly.turn.0) t.sun_anomaly.half.count
    (k.sun_anomaly h.sun_anomaly) in
    let n = part_near w a.moon_anomaly r.moon_anomaly (pos t.moon_anomaly.turn.0) t.moon_anomaly.half.count
    (k.moon_anomaly h.moon_anomaly) in
    let f = part_near w a.latitude_argument r.latitude_argument (pos t.latitude_argument.turn.0)
    t.latitude_argument.half.count
    (k.latitude_argument h.latitude_argument) in
    sum_near _ _ _ _ _ _ (sum_near _ _ _ _ _ _ (sum_near _ _ _ _ _ _ d m) n) f

-- of a row that takes neither the sun's anomaly nor the argument of latitude
none_of : (w : World) (x : Expression) (t : ℤ) (h : ℕ) → IsKnown (value w x)
    → IsNearTurn (pos 0 *ℤ t) (0 * h) (value w (scale (whole (pos 0)) x))
unfolding value
none_of w x t h k = none_near t h (value w x) (value_proper w x) k

two_near : (w : World) (a : LunarAngles) (t : MeanTurns) (p q : ℤ) → AreTwoTurns w a t
    → AreKnown t
    → IsNearTurn
    (((p *ℤ pos t.elongation.turn.0 +ℤ pos 0 *ℤ pos t.sun_anomaly.turn.0) +ℤ q *ℤ pos t.moon_anomaly.turn.0)
    +ℤ pos 0 *ℤ pos t.latitude_argument.turn.0)
    (((unsigned_abs p * t.elongation.half.count + 0 * t.sun_anomaly.half.count) + unsigned_abs
    q * t.moon_anomaly.half.count)
    + 0 * t.latitude_argument.half.count)
    (value w (lunar_angle_of a p (pos 0) q (pos 0)))
unfolding value lunar_angle_of
two_near w a t p q k h =
    let d = part_near w a.elongation p (pos t.elongation.turn.0) t.elongation.half.count (k.elongation h.elongation) in
    let m = none_of w a.sun_anomaly (pos t.sun_anomaly.turn.0) t.sun_anomaly.half.count (k.sun_anomaly h.sun_anomaly) in
    let n = part_near w a.moon_anomaly q (pos t.moon_anomaly.turn.0) t.moon_anomaly.half.count
    (k.moon_anomaly h.moon_anomaly)
    in
    let f = none_of w a.latitude_argument (pos t.latitude_argument.turn.0) t.latitude_argument.half.count
    (k.latitude_argument h.latitude_argument) in
    sum_near _ _ _ _ _ _ (sum_near _ _ _ _ _ _ (sum_near _ _ _ _ _ _ d m) n) f

new_moon_near : (w : World) (e : Expression) (a : NewMoonAngles) (t : MeanTurns) (r : NewMoonTerm)
    → AreTurns w (with_elongation e a) t → AreKnown t
    → IsNearTurn (multiples_of t (new_moon_row_of r)) (half_of t (new_moon_row_of r))
    (value w (angle_of_new_moon_term a r))
unfolding value angle_of_new_moon_term
new_moon_near w e a t r k h =
    let m = part_near w a.sun_anomaly r.sun_anomaly (pos t.sun_anomaly.turn.0) t.sun_anomaly.half.count
    (k.sun_anomaly h.sun_anomaly) in
    let n = part_near w a.moon_anomaly r.moon_anomaly (pos t.moon_anomaly.turn.0) t.moon_anomaly.half.count
    (k.moon_anomaly h.moon_anomaly) in
    let f = part_near w a.latitude_argument r.latitude_argument (pos t.latitude_argument.turn.0)
    t.latitude_argument.half.count
    (k.latitude_argument h.latitude_argument) in
    let s = sum_near _ _ _ _ _ _ (sum_near _ _ _ _ _ _ m n) f in
    rw (
      three_counted t.elongation.half.count (unsigned_abs r.sun_anomaly * t.sun_anomaly.half.count)
          (unsigned_abs r.moon_anomaly * t.moon_anomaly.half.count)
          (unsigned_abs r.latitude_argument * t.latitude_argument.half.count),
      without_first (pos t.elongation.turn.0)
          (r.sun_anomaly *ℤ pos t.sun_anomaly.turn.0) (r.moon_anomaly *ℤ pos t.moon_anomaly.turn.0)
          (r.latitude_argument *ℤ pos t.latitude_argument.turn.0),
    ) at s

-- ---- the terms
pub longitude_terms : (w : World) (a : LunarAngles) (t : MeanTurns) (rows : List MoonTerm)
    → AreTurns w a t → AreTerms w 0 t longitude_row_of (longitude_term_of a) rows no_term
unfolding longitude_term_of lunar_term_of
longitude_terms w a t rows k i l =
    let r = longitude_row_of (slice_index_or rows i no_term) in
    record {
      factor = a.eccentricity;
      angle = lunar_angle_of a r.elongation r.sun_anomaly r.moon_anomaly r.latitude_argument;
      is = refl;
      near = lunar_near w a t r k;
      first = λ e. k.first;
      second = λ e. k.second;
    }

-- a row that takes the elongation and the moon's anomaly alone
abbrev row_of_two : (p q z d : ℤ) → MoonTerm
row_of_two p q z d = record {
  elongation = p;
  sun_anomaly = pos 0;
  moon_anomaly = q;
  latitude_argument = pos 0;
  longitude = z;
  distance = d;
}

greatest_term : (w : World) (a : LunarAngles) (t : MeanTurns) (p q z d : ℤ) → AreTwoTurns w a t
    → IsTerm w 0 t (longitude_row_of (row_of_two p q z d)) (longitude_term_of a (row_of_two p q z d))
unfolding longitude_term_of lunar_term_of
greatest_term w a t p q z d k = record {
  factor = a.eccentricity;
  angle = lunar_angle_of a p (pos 0) q (pos 0);
  is = refl;
  near = two_near w a t p q k;
  first = λ e. absurd (omega (arith, ints, e));
  second = λ e. absurd (omega (arith, ints, e));
}

past_four : (n i : ℕ) → n ≡ 4 → suc (suc (suc (suc i))) < n → ⊥
past_four n i e l = omega (arith, e, l)

pub greatest_terms : (w : World) (a : LunarAngles) (t : MeanTurns) → AreTwoTurns w a t
    → AreTerms w 0 t longitude_row_of (longitude_term_of a) greatest_rows no_term
greatest_terms w a t k zero l = greatest_term w a t _ _ _ _ k
greatest_terms w a t k (suc zero) l = greatest_term w a t _ _ _ _ k
greatest_terms w a t k (suc (suc zero)) l = greatest_term w a t _ _ _ _ k
greatest_terms w a t k (suc (suc (suc zero))) l = greatest_term w a t _ _ _ _ k
greatest_terms w a t k (suc (suc (suc (suc i)))) l = absurd (past_four (length greatest_rows) i refl l)

pub distance_terms : (w : World) (a : LunarAngles) (t : MeanTurns) → AreTurns w a t
    → AreTerms w 0 t distance_row_of (distance_term_of a) MOON_TERMS no_term
unfolding distance_term_of distance_part_of
distance_terms w a t k i l =
    let r = distance_row_of (slice_index_or MOON_TERMS i no_term) in
    record {
      factor = a.eccentricity;
      angle = lunar_angle_of a r.elongation r.sun_anomaly r.moon_anomaly r.latitude_argument;
      is = refl;
      near = lunar_near w a t r k;
      first = λ e. k.first;
      second = λ e. k.second;
    }

pub latitude_terms : (w : World) (a : LunarAngles) (t : MeanTurns) → AreTurns w a t
    → AreTerms w 0 t latitude_row_of (latitude_term_of a) LATITUDE_TERMS no_latitude_term
unfolding latitude_term_of lunar_term_of
latitude_terms w a t k i l =
    let r = latitude_row_of (slice_index_or LATITUDE_TERMS i no_latitude_term) in
    record {
      factor = a.eccentricity;
      angle = lunar_angle_of a r.elongation r.sun_anomaly r.moon_anomaly r.latitude_argument;
      is = refl;
      near = lunar_near w a t r k;
      first = λ e. k.first;
      second = λ e. k.second;
    }

pub new_moon_terms : (w : World) (e : Expression) (a : NewMoonAngles) (t : MeanTurns)
    → AreTurns w (with_elongation e a) t
    → AreTerms w 99999 t new_moon_row_of (new_moon_term_of a) NEW_MOON_TERMS no_new_moon_term
unfolding new_moon_term_of
new_moon_terms w e a t k i l =
    let r = slice_index_or NEW_MOON_TERMS i no_new_moon_term in
    record {
      factor = a.eccentricity;
      angle = angle_of_new_moon_term a r;
      is = refl;
      near = new_moon_near w e a t r k;
      first = λ p. k.first;
      second = λ p. k.second;
    }
