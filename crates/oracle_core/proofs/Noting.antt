-- Facts that are among facts, and their places.
use Rattle.std.proofs.Common.{◌≡◌, ℕ, ◌+◌, ◌<◌, ◌≤◌, Bool, true, false, cond, not, ◌||◌, refl, List, [], ◌∷◌, length}
use Rattle.std.proofs.Common.{arith, nat_lt}
use Rattle.std.specs.Prelude.{Some, None}
use Rattle.std.specs.List.{list_any, position_or_len, position}
use borrow.Author.Tests.{ltb-true, ltb-false}

-- a first place that is found is before the end
pub record IsPlace (i place length : ℕ) : Type 0 where
  pub same : i ≡ place
  pub before_end : place < length

module _ {X : Type 0} (p : X → Bool) where
  -- what `position` gives is the first place that passes
  pub found_at : (xs : List X) (i : ℕ) → Some i ≡ position p xs → IsPlace i (position_or_len p xs) (length xs)
  found_at xs i h = chosen (nat_lt (position_or_len p xs) (length xs)) refl h
    where
      chosen : (t : Bool) → nat_lt (position_or_len p xs) (length xs) ≡ t
          → Some i ≡ cond t (Some (position_or_len p xs)) None
          → IsPlace i (position_or_len p xs) (length xs)
      chosen true e h = record { same = cc; before_end = ltb-true _ _ e }
      chosen false e h = cc

  -- and where it gives none, the first place is the end
  pub not_found : (xs : List X) → None ≡ position p xs → length xs ≤ position_or_len p xs
  not_found xs h = chosen (nat_lt (position_or_len p xs) (length xs)) refl h
    where
      chosen : (t : Bool) → nat_lt (position_or_len p xs) (length xs) ≡ t
          → None ≡ cond t (Some (position_or_len p xs)) None → length xs ≤ position_or_len p xs
      chosen true e h = cc
      chosen false e h = ltb-false _ _ e

  any_before : (xs : List X) → position_or_len p xs < length xs → list_any p xs ≡ true
  any_before [] h = absurd (omega arith)
  any_before (x ∷ xs) h = step (p x) (any_before xs) h
    where
      step : (t : Bool) → (position_or_len p xs < length xs → list_any p xs ≡ true)
          → cond (not t) (1 + position_or_len p xs) 0 < length (x ∷ xs)
          → (t || list_any p xs) ≡ true
      step true rest h = refl
      step false rest h = rest (omega arith)

  none_before : (xs : List X) → length xs ≤ position_or_len p xs → list_any p xs ≡ false
  none_before [] h = refl
  none_before (x ∷ xs) h = step (p x) (none_before xs) h
    where
      step : (t : Bool) → (length xs ≤ position_or_len p xs → list_any p xs ≡ false)
          → length (x ∷ xs) ≤ cond (not t) (1 + position_or_len p xs) 0
          → (t || list_any p xs) ≡ false
      step true rest h = absurd (omega arith)
      step false rest h = rest (omega arith)

  -- what has a place is there
  pub there : (xs : List X) (i : ℕ) → Some i ≡ position p xs → list_any p xs ≡ true
  there xs i h = any_before xs (found_at xs i h).before_end

  -- what has no place isn't there
  pub not_there : (xs : List X) → None ≡ position p xs → list_any p xs ≡ false
  not_there xs h = none_before xs (not_found xs h)
