-- Angles and factors that are known as whole numbers.
use Rattle.std.specs.Prelude.{◌≡◌, ℕ, ◌-◌, ◌^◌, true, ℤ, pos, ◌+ℤ◌, ◌-ℤ◌, ◌*ℤ◌, ◌≤ℤ◌}
use Rattle.book_model.specs.Fraction.{Fraction}
use Rattle.book_model.specs.Interval.{Interval, between, ◌⊆◌}
use Rattle.book_model.specs.programs.Leading.{units_of_56}
use Rattle.periodic_terms.specs.declared.mean.MeanTurn.{MeanTurn}

-- numbers in units of 2^-61
abbrev pub in_61 : ℤ → Fraction
in_61 z = record { num = z; below = 2 ^ 61 - 1 }

-- an interval of degrees lies within w, in 2^-61 degrees, of an angle in units of 2^-64 turns
abbrev pub IsAround : ℤ → ℕ → Interval → Type 0
IsAround t w i = i ⊆ between (in_61 (pos 45 *ℤ t -ℤ pos w)) (in_61 (pos 45 *ℤ t +ℤ pos w))

-- the same but for whole turns
pub record IsNearTurn (t : ℤ) (w : ℕ) (i : Interval) : Type 0 where
  pub turns : ℤ
  pub around : IsAround (t +ℤ turns *ℤ pos (2 ^ 64)) w i

-- an angle lies near its turn, where that is known
abbrev pub IsTurn : MeanTurn → Interval → Type 0
IsTurn a i = a.known ≡ true → IsNearTurn (pos a.turn.0) a.half.count i

-- an interval lies within h of f, both in units of 2^-56
abbrev pub IsFactor : ℕ → ℕ → Interval → Type 0
IsFactor f h i = i ⊆ between (units_of_56 (pos f -ℤ pos h)) (units_of_56 (pos f +ℤ pos h))

-- a turn in 2^-64, whole turns left out, is an angle in units of 2^-37 degrees, rounded down: 2^-64 turns are 45 times
-- 2^-61 degrees
pub record IsWideTurnAt (turn : ℕ) (middle : ℤ) : Type 0 where
  pub turns : ℤ
  pub below : (pos 45 *ℤ (pos turn +ℤ turns *ℤ pos (2 ^ 64))) ≤ℤ (middle *ℤ pos (2 ^ 24))
  pub close : (middle *ℤ pos (2 ^ 24)) ≤ℤ (pos 45 *ℤ (pos turn +ℤ turns *ℤ pos (2 ^ 64)) +ℤ pos 45)

-- the same of one in units of 2^-56 degrees, rounded down twice
pub record IsTurnAt (turn : ℕ) (middle : ℤ) : Type 0 where
  pub turns : ℤ
  pub below : (pos 45 *ℤ (pos turn +ℤ turns *ℤ pos (2 ^ 64))) ≤ℤ (middle *ℤ pos 32)
  pub close : (middle *ℤ pos 32) ≤ℤ (pos 45 *ℤ (pos turn +ℤ turns *ℤ pos (2 ^ 64)) +ℤ pos 90)

-- something is known of an angle
pub record IsKnown (i : Interval) : Type 0 where
  pub lo : ℤ
  pub hi : ℤ
  pub inside : i ⊆ between (units_of_56 lo) (units_of_56 hi)
