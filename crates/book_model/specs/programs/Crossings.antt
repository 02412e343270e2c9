-- The first quarter of an hour of a day in which something that goes by moments becomes so, and the minute at which it
-- does. Moments are numbered by sixteenths of a quarter of an hour, from 0 when the day begins to 1536 when it ends.
use Rattle.std.specs.Prelude.{ℕ, zero, suc, ◌+◌, ◌-◌, ◌*◌, ◌/◌, ◌&&◌, not, if◌then◌else◌, Bool, ℤ, pos, negsuc}
use Rattle.book_model.specs.programs.Programs.{Program, answer, bind}

-- the middle of two moments
abbrev pub middle_of : (low high : ℕ) → ℕ
middle_of low high = (low + high) / 2

-- it isn't so at the first of two moments and is so at the second: where they are halved so many times, the first of
-- the two that are left
unfoldable pub halved_of : ℕ → (ℕ → Program Bool) → (low high : ℕ) → Program ℕ
halved_of zero holds low high = answer low
halved_of (suc more) holds low high =
    bind (holds (middle_of low high)) λ now.
    if now then halved_of more holds low (middle_of low high) else halved_of more holds (middle_of low high) high

-- the minutes after midnight to the moment of a number, of which 16 begin in the quarter of an hour of a number: the
-- nearest whole number to the middle of the sixteenth that begins with it
abbrev pub minutes_at : (quarter moment : ℕ) → ℤ
minutes_at k i = pos (15 * k + (30 * (i - 16 * k) + 31) / 32)

-- the minute in a quarter of an hour, at whose beginning it isn't so and at whose end it is
unfoldable pub minute_in_of : (ℕ → Program Bool) → (quarter : ℕ) → Program ℤ
minute_in_of holds k = bind (halved_of 4 holds (16 * k) (16 * k + 16)) λ i. answer (minutes_at k i)

-- of so many quarters of an hour from one on, at whose beginning it is so or isn't, the minute in the first in which it
-- becomes so; -1 where there is none
unfoldable pub crossing_from : ℕ → (ℕ → Program Bool) → (quarter : ℕ) → (before : Bool) → Program ℤ
crossing_from zero holds k before = answer (negsuc 0)
crossing_from (suc more) holds k before =
    bind (holds (16 * k + 16)) λ after.
    if not before && after then minute_in_of holds k else crossing_from more holds (suc k) after

-- the minute of the day at which it first becomes so
unfoldable pub crossing_of : (ℕ → Program Bool) → Program ℤ
crossing_of holds = bind (holds 0) (crossing_from 96 holds 0)

-- the same for what is so where something else isn't
unfoldable pub opposite_of : (ℕ → Program Bool) → ℕ → Program Bool
opposite_of holds i = bind (holds i) λ so. answer (not so)
