-- The numbers of a certificate, and how its words spell them.
use Rattle.std.specs.Prelude.{ℕ, ◌-◌, ◌^◌, ◌==◌, ◌&&◌, ◌||◌, not, nat_le, nat_lt, if◌then◌else◌, Bool, List, length}
use Rattle.std.specs.Prelude.{drop, slice_index, ℤ, pos, negsuc, Some, None, Option}
use Rattle.book_model.specs.sky.Correction.{is_between}
use Rattle.book_model.specs.lines.Lines.{value_from}

-- `0`, or digits that don't begin with 0
abbrev pub begins_well : List ℕ → Bool
begins_well word = (length word == 1) || (nat_lt 1 (length word) && not (slice_index word 0 == 48))

-- the number that digits alone spell
abbrev pub digits_of : List ℕ → Option ℕ
digits_of digits = value_from 0 digits

-- the number, where it isn't above the greatest
abbrev pub at_most : ℕ → Option ℕ → Option ℕ
at_most greatest None = None
at_most greatest (Some n) = if nat_le n greatest then Some n else None

-- the number that digits alone spell, up to the greatest
unfoldable pub natural_of : ℕ → List ℕ → Option ℕ
natural_of greatest word = if begins_well word then at_most greatest (digits_of word) else None

-- a counter has no sign and at most 32 bits
abbrev pub counter_of : List ℕ → Option ℕ
counter_of word = natural_of (2 ^ 32 - 1) word

-- a number with a minus sign isn't 0
abbrev pub below_zero : Option ℕ → Option ℤ
below_zero None = None
below_zero (Some n) = if n == 0 then None else Some (negsuc (n - 1))

abbrev pub from_zero : Option ℕ → Option ℤ
from_zero None = None
from_zero (Some n) = Some (pos n)

-- the number of 128 bits that a word spells, with a minus sign where it is below 0
unfoldable pub integer_of : List ℕ → Option ℤ
integer_of word = if slice_index word 0 == 45 then below_zero (natural_of (2 ^ 127) (drop 1 word))
    else from_zero (natural_of (2 ^ 127 - 1) word)

-- the number, where it lies from low to high
abbrev pub between : ℤ → ℤ → Option ℤ → Option ℤ
between low high None = None
between low high (Some z) = if is_between low high z then Some z else None
