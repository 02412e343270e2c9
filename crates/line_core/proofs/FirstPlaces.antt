-- The first place where a test passes, as a search for bytes tells it. memchr tells of each place before the one that
-- it found that the byte isn't there; the definitions count the bytes in front. By induction over the bytes both name
-- one place, once where a byte is found and once where none is.
use Rattle.std.proofs.Common.{◌≡◌, ℕ, zero, suc, ◌+◌, Bool, true, false, cond, List, [], ◌∷◌, length, nat_lt, refl}
use Rattle.std.proofs.Common.{arith}
use borrow.Author.Tests.{ltb-true, ltb-false}
use Rattle.std.specs.Prelude.{Option, Some, None, not}
use Rattle.std.specs.List.{position_or_len, position}
use Rattle.memchr.specs.Find.{IsFirstByte, Nowhere, NoneBefore, Passes}

module _ (p : ℕ → Bool) where
  -- where no place passes, the place is the length
  passed_nowhere : (xs : List ℕ) → Nowhere (Passes p xs) 0 (length xs) → position_or_len p xs ≡ length xs
  passed_nowhere [] h = refl
  passed_nowhere (x ∷ xs) h =
      step (p x) refl (passed_nowhere xs (λ k low high passes. h (suc k) (omega arith) (omega arith) passes))
    where
      step : (t : Bool) → p x ≡ t → position_or_len p xs ≡ length xs → cond (not t) (1 + position_or_len p xs) 0
          ≡ length (x ∷ xs)
      step true e rest = absurd (h 0 (omega arith) (omega arith) e)
      step false e rest = omega (arith, rest)

  -- and else it is the first that does
  passed_at : (xs : List ℕ) (k : ℕ) → NoneBefore (Passes p xs) 0 (length xs) k → Passes p xs k
      → position_or_len p xs ≡ k
  passed_at [] k first passes = absurd (omega (arith, first.high))
  passed_at (x ∷ xs) zero first passes = rw passes refl
  passed_at (x ∷ xs) (suc k) first passes = step (p x) refl (passed_at xs k shorter passes)
    where
      shorter : NoneBefore (Passes p xs) 0 (length xs) k
      shorter = record {
        low = omega arith;
        high = omega (arith, first.high);
        before = λ j low high here. first.before (suc j) (omega arith) (omega (arith, high)) here;
      }

      step : (t : Bool) → p x ≡ t → position_or_len p xs ≡ k → cond (not t) (1 + position_or_len p xs) 0 ≡ suc k
      step true e rest = absurd (first.before 0 (omega arith) (omega arith) e)
      step false e rest = omega (arith, rest)

  -- both together
  pub first_place : (xs : List ℕ) (found : Option ℕ) → IsFirstByte p xs found → found ≡ position p xs
  first_place xs None h =
      let at_end = passed_nowhere xs h in
      rw at_end (chosen (nat_lt (length xs) (length xs)) refl)
    where
      chosen : (t : Bool) → nat_lt (length xs) (length xs) ≡ t → None ≡ cond t (Some (length xs)) None
      chosen true e = absurd (omega (arith, ltb-true _ _ e))
      chosen false e = refl
  first_place xs (Some k) h =
      let here = passed_at xs k h.0 h.1 in
      rw here (chosen (nat_lt k (length xs)) refl)
    where
      chosen : (t : Bool) → nat_lt k (length xs) ≡ t → Some k ≡ cond t (Some k) None
      chosen true e = refl
      chosen false e = absurd (omega (arith, h.0.high, ltb-false _ _ e))
