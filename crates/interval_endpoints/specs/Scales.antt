-- The scales of endpoints: coarse ones of 64 bits, in units of 2^-36, and fine ones of 128 bits, in units of 2^-56.
use Rattle.std.specs.Prelude.{ℕ, ◌-◌, ◌^◌, ℤ, pos}
use Rattle.std.specs.Int.{Width, w64, w128}
use Rattle.book_model.specs.Fraction.{Fraction}
use Rattle.book_model.specs.numbers.Bounds.{Limits, limits_at, limits_36}

pub data Scale : Type 0 where
  coarse : Scale
  fine : Scale

-- the scale is 2 to the power of minus this
abbrev pub bits_of : Scale → ℕ
bits_of coarse = 36
bits_of fine = 56

-- how many units 1 has
abbrev pub units : Scale → ℕ
units coarse = 2 ^ 36
units fine = 2 ^ 56

abbrev pub unit : Scale → ℤ
unit coarse = pos (2 ^ 36)
unit fine = pos (2 ^ 56)

-- one less
abbrev pub below : Scale → ℕ
below coarse = 2 ^ 36 - 1
below fine = 2 ^ 56 - 1

-- a number in the scale's units
abbrev pub at_scale : Scale → ℤ → Fraction
at_scale coarse n = record { num = n; below = 2 ^ 36 - 1 }
at_scale fine n = record { num = n; below = 2 ^ 56 - 1 }

-- a number that counts their squares
abbrev pub at_square : Scale → ℤ → Fraction
at_square coarse n = record { num = n; below = 2 ^ 72 - 1 }
at_square fine n = record { num = n; below = 2 ^ 112 - 1 }

-- how many units a part of 2^-32 has
abbrev pub spans : Scale → ℕ
spans coarse = 16
spans fine = 2 ^ 24

abbrev pub span : Scale → ℤ
span coarse = pos 16
span fine = pos (2 ^ 24)

-- how many parts of 2^-104 a unit has
abbrev pub grains : Scale → ℕ
grains coarse = 2 ^ 68
grains fine = 2 ^ 48

abbrev pub grain : Scale → ℤ
grain coarse = pos (2 ^ 68)
grain fine = pos (2 ^ 48)

-- how many parts of 2^-64 a unit has
abbrev pub slack : Scale → ℕ
slack coarse = 2 ^ 28
slack fine = 2 ^ 8

-- the numerators of constants that the scale bears are below this
abbrev pub most_numerator : Scale → ℕ
most_numerator coarse = 2 ^ 90
most_numerator fine = 2 ^ 70

-- how many parts of 2^-56 a unit has
abbrev pub finer_units : Scale → ℤ
finer_units coarse = pos (2 ^ 20)
finer_units fine = pos 1

-- the bits of an endpoint
abbrev pub word : Scale → Width
word coarse = w64
word fine = w128

-- what the bounds of the scale's operations bear
abbrev pub limits_on : Scale → Limits
limits_on coarse = limits_36
limits_on fine = limits_at 56

-- the products of numbers, in 2^-32, with the numerators of factors that the scale bears are below this
abbrev pub most_product : Scale → ℕ
most_product coarse = 2 ^ 122
most_product fine = 2 ^ 102

-- the sizes, in 2^-32, that the scale bears are below this
abbrev pub most_size : Scale → ℕ
most_size coarse = 2 ^ 58
most_size fine = 2 ^ 100

-- a unit is a square of 2 to the power of minus this
abbrev pub half_bits : Scale → ℕ
half_bits coarse = 18
half_bits fine = 28
