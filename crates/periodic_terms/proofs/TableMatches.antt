-- Two tables match, row by row: the periodic terms of the one are those of the other, as they are summed. Of two tables
-- that are written out it is computed.
use Rattle.std.specs.Prelude.{◌&&◌}
use Rattle.std.specs.Int.Signed.{le_z, le_z_yes}
use Rattle.std.proofs.Common.{◌≡◌, ℕ, zero, suc, ◌^◌, ◌<◌, refl, arith, Bool, true, false, ℤ, pos, ◌+ℤ◌, ◌*ℤ◌, ◌≤ℤ◌}
use Rattle.std.proofs.Common.{List, [], ◌∷◌, length, slice_index_or}
use Rattle.std.proofs.lemmas.Float.{T_from_true}
use Rattle.std.proofs.lemmas.Int.{ints}
use Rattle.book_model.specs.declared.polynomial.PeriodicTerm.{PeriodicTerm}
use Rattle.book_model.specs.numbers.Polynomials.{no_periodic_term}
use Rattle.periodic_terms.specs.Turning.{IsTurning, AreTurning}
use Rattle.periodic_terms.specs.declared.rows_by_time.TurningTerm.{TurningTerm}

-- ---- the tests
abbrev pub is_turning : PeriodicTerm → TurningTerm → Bool
is_turning v t =
    le_z t.size v.size && le_z v.size t.size && le_z (pos t.phase.0 *ℤ pos 3600000000) (v.phase *ℤ pos (2 ^ 64)) && le_z
    (v.phase *ℤ pos (2 ^ 64))
    (pos t.phase.0 *ℤ pos 3600000000 +ℤ pos 3600000000)
    && le_z (t.rate.0 *ℤ pos 16436250000000) (v.rate *ℤ pos (2 ^ 77)) && le_z (v.rate *ℤ pos (2 ^ 77))
    (t.rate.0 *ℤ pos 16436250000000 +ℤ pos 16436250000000)

abbrev pub all_turning : List PeriodicTerm → List TurningTerm → Bool
all_turning [] [] = true
all_turning [] (t ∷ ts) = false
all_turning (v ∷ vs) [] = false
all_turning (v ∷ vs) (t ∷ ts) = is_turning v t && all_turning vs ts

-- ---- what they say
first : (p q : Bool) → (p && q) ≡ true → p ≡ true
first true q h = refl
first false q h = absurd (cc)

second : (p q : Bool) → (p && q) ≡ true → q ≡ true
second true q h = h
second false q h = absurd (cc)

le_true : (a b : ℤ) → le_z a b ≡ true → a ≤ℤ b
le_true a b e = le_z_yes (T_from_true _ e)

module _ (a b c d e f : Bool) (h : (a && b && c && d && e && f) ≡ true) where
  all_six : (a ≡ true) × (b ≡ true) × (c ≡ true) × (d ≡ true) × (e ≡ true) × (f ≡ true)
  all_six = cases a b c d e f h
    where
      cases : (a b c d e f : Bool) → (a && b && c && d && e && f) ≡ true → (a ≡ true) × (b ≡ true) × (c ≡ true)
          × (d ≡ true) × (e ≡ true) × (f ≡ true)
      cases true true true true true true k = (refl, refl, refl, refl, refl, refl)
      cases false b c d e f k = absurd (cc)
      cases true false c d e f k = absurd (cc)
      cases true true false d e f k = absurd (cc)
      cases true true true false e f k = absurd (cc)
      cases true true true true false f k = absurd (cc)
      cases true true true true true false k = absurd (cc)

row_matches : (v : PeriodicTerm) (t : TurningTerm) → is_turning v t ≡ true → IsTurning v t
row_matches v t h =
    let k = all_six _ _ _ _ _ _ h in
    let p = le_true t.size v.size k.0 in
    let q = le_true v.size t.size k.1 in
    record {
      size = omega (arith, ints, p, q);
      phase_below = le_true _ _ k.2;
      phase_close = le_true _ _ k.3;
      rate_below = le_true _ _ k.4;
      rate_close =
          le_true _ _ k.5;
    }

same_count : (vs : List PeriodicTerm) (ts : List TurningTerm) → all_turning vs ts ≡ true → length vs ≡ length ts
same_count [] [] h = refl
same_count [] (t ∷ ts) h = absurd (cc)
same_count (v ∷ vs) [] h = absurd (cc)
same_count (v ∷ vs) (t ∷ ts) h = let e = same_count vs ts (second _ _ h) in omega (arith, e)

rows_match : (vs : List PeriodicTerm) (ts : List TurningTerm) (i : ℕ) → all_turning vs ts ≡ true → i < length ts
    → (none : TurningTerm)
    → IsTurning (slice_index_or vs i no_periodic_term) (slice_index_or ts i none)
rows_match [] [] i h l none = absurd (omega (arith, l))
rows_match [] (t ∷ ts) i h l none = absurd (cc)
rows_match (v ∷ vs) [] i h l none = absurd (cc)
rows_match (v ∷ vs) (t ∷ ts) zero h l none = row_matches v t (first _ _ h)
rows_match (v ∷ vs) (t ∷ ts) (suc i) h l none = rows_match vs ts i (second _ _ h) (omega (arith, l)) none

pub tables_match : (vs : List PeriodicTerm) (ts : List TurningTerm) → all_turning vs ts ≡ true → AreTurning vs ts
tables_match vs ts h = record { count = same_count vs ts h; rows = λ i l none. rows_match vs ts i h l none }
