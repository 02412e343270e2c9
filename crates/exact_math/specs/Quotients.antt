-- Quotients of whole numbers, rounded down and up, and remainders.
use Rattle.std.specs.Prelude.{ℕ, ◌-◌, ℤ, pos, ◌-ℤ◌, ◌*ℤ◌}
use lib.IntN.{neg_ℤ}
use Rattle.exact_math.specs.Fraction.{floor_quotient}

-- the greatest whole number that is not above n / d; a divisor of 0 is read as 1
abbrev pub quotient_down : ℤ → ℕ → ℤ
quotient_down n d = floor_quotient n (d - 1)

-- the least whole number that is not below n / d
abbrev pub quotient_up : ℤ → ℕ → ℤ
quotient_up n d = neg_ℤ (quotient_down (neg_ℤ n) d)

-- what is left of n by multiples of d, from 0 to less than d; by 0 all of it
abbrev pub modulo : ℤ → ℕ → ℤ
modulo n d = n -ℤ quotient_down n d *ℤ pos d

-- the number from 1 to d that differs from n by a multiple of d; by 0 n itself
abbrev pub amod : ℤ → ℕ → ℤ
amod n d = n -ℤ quotient_down (n -ℤ pos 1) d *ℤ pos d
