-- The parts of a date's text, and the numbers that digits spell. The definition goes byte by byte, the code by the
-- place of the first dash: an induction over the bytes says that the first part ends at that place, and that a text
-- without a dash is one part. What std says of a search for a place is turned into that by its two cases. The bounds of
-- a number by its digits are powers of ten that rise.
use Rattle.std.proofs.Common.{◌≡◌, ℕ, zero, suc, ◌+◌, ◌-◌, ◌^◌, ◌<◌, ◌≤◌, Bool, true, false, cond, List, [], ◌∷◌}
use Rattle.std.proofs.Common.{length, take, drop, ap, refl, arith, nat_lt}
use native.Mathlib.Numerals.{unary_clauses}
use borrow.Author.Tests.{ltb-true, ltb-false}
use Rattle.std.specs.Prelude.{◌==◌, Some, None, not}
use Rattle.std.specs.List.{position_or_len, position}
use Rattle.std.proofs.lemmas.List.{take_rest}
use Rattle.std.proofs.Math.Nat.{pow-suc}
use Rattle.book_model.specs.lines.Lines.{parts_of, onto_first}

-- where the first dash stands, or the length
abbrev pub to_dash : List ℕ → ℕ
to_dash bs = position_or_len (λ b. b == 45) bs

-- the first part ends at the first dash
at_dash : (bs : List ℕ) → to_dash bs < length bs → parts_of bs ≡ take (to_dash bs) bs ∷ parts_of
    (drop (to_dash bs + 1) bs)
at_dash [] h = absurd (omega arith)
at_dash (b ∷ bs) h = step (b == 45) (at_dash bs) h
  where
    step : (t : Bool)
        → (to_dash bs < length bs → parts_of bs ≡ take (to_dash bs) bs ∷ parts_of (drop (to_dash bs + 1) bs))
        → cond (not t) (1 + to_dash bs) 0 < length (b ∷ bs) → cond t ([] ∷ parts_of bs) (onto_first b (parts_of bs))
        ≡ take (cond (not t) (1 + to_dash bs) 0) (b ∷ bs) ∷ parts_of
        (drop (cond (not t) (1 + to_dash bs) 0 + 1) (b ∷ bs))
    step true first h = refl
    step false first h =
        let rest : parts_of bs ≡ take (to_dash bs) bs ∷ parts_of (drop (to_dash bs + 1) bs) = first (omega arith) in
        let one : 1 + to_dash bs ≡ suc (to_dash bs) = omega arith in
        rw (rest, one) (simp unary_clauses)

-- a word with no dash is one part
no_dash : (bs : List ℕ) → length bs ≤ to_dash bs → parts_of bs ≡ bs ∷ []
no_dash [] h = refl
no_dash (b ∷ bs) h = step (b == 45) (no_dash bs) h
  where
    step : (t : Bool) → (length bs ≤ to_dash bs → parts_of bs ≡ bs ∷ [])
        → length (b ∷ bs) ≤ cond (not t) (1 + to_dash bs) 0
        → cond t ([] ∷ parts_of bs) (onto_first b (parts_of bs)) ≡ (b ∷ bs) ∷ []
    step true last h = absurd (omega arith)
    step false last h = ap (onto_first b) (last (omega arith))

-- a first place that is found is before the end
pub record IsPlace (i place length : ℕ) : Type 0 where
  pub same : i ≡ place
  pub before_end : place < length

-- what `position` gives is the first place that passes
pub found_at : (p : ℕ → Bool) (xs : List ℕ) (i : ℕ) → Some i ≡ position p xs
    → IsPlace i (position_or_len p xs) (length xs)
found_at p xs i h = chosen (nat_lt (position_or_len p xs) (length xs)) refl h
  where
    chosen : (t : Bool) → nat_lt (position_or_len p xs) (length xs) ≡ t
        → Some i ≡ cond t (Some (position_or_len p xs)) None
        → IsPlace i (position_or_len p xs) (length xs)
    chosen true e h = record { same = cc; before_end = ltb-true _ _ e }
    chosen false e h = cc

-- and where it gives none, the first place is the end
pub not_found : (p : ℕ → Bool) (xs : List ℕ) → None ≡ position p xs → length xs ≤ position_or_len p xs
not_found p xs h = chosen (nat_lt (position_or_len p xs) (length xs)) refl h
  where
    chosen : (t : Bool) → nat_lt (position_or_len p xs) (length xs) ≡ t
        → None ≡ cond t (Some (position_or_len p xs)) None → length xs ≤ position_or_len p xs
    chosen true e h = cc
    chosen false e h = ltb-false _ _ e

-- the parts, where the first dash stands at i
pub parts_at : (word : List ℕ) (i : ℕ) → Some i ≡ position (λ b. b == 45) word → parts_of word
    ≡ take i word ∷ parts_of (take (length word - (i + 1)) (drop (i + 1) word))
parts_at word i h = let f = found_at (λ b. b == 45) word i h in rw f.same (simp take_rest (at_dash word f.before_end))

-- the parts, where there is no dash
pub parts_alone : (word : List ℕ) → None ≡ position (λ b. b == 45) word → parts_of word ≡ word ∷ []
parts_alone word h = no_dash word (not_found (λ b. b == 45) word h)

-- a word has a part
pub parts_exist : (bs : List ℕ) → 1 ≤ length (parts_of bs)
parts_exist [] = omega arith
parts_exist (b ∷ bs) = step (b == 45) (parts_of bs)
  where
    step : (t : Bool) (parts : List (List ℕ)) → 1 ≤ length (cond t ([] ∷ parts) (onto_first b parts))
    step true parts = omega arith
    step false [] = omega arith
    step false (part ∷ parts) = omega arith

-- powers of ten rise
powers_rise : (k n : ℕ) → 10 ^ k ≤ 10 ^ (n + k)
powers_rise k zero = let same : 0 + k ≡ k = omega arith in rw same (omega arith)
powers_rise k (suc n) = let next : suc n + k ≡ suc (n + k) = omega arith in
    rw next (omega (arith, powers_rise k n, pow-suc 10 (n + k)))

-- a number of six digits or fewer
pub few_digits : (k n : ℕ) → k < 7 → n < 10 ^ k → n < 1000000
few_digits k n h below = let six : 6 - k + k ≡ 6 = omega arith in omega (arith, rw six at (powers_rise k (6 - k)))

-- a number of seven digits or fewer
pub seven_digits : (k n : ℕ) → k < 8 → n < 10 ^ k → n < 10000000
seven_digits k n h below = let seven : 7 - k + k ≡ 7 = omega arith in omega (arith, rw seven at (powers_rise k (7 - k)))
