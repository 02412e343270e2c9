-- The number of a year is small. What a field counts is a product of a weight of 32 bits and a field of 32 bits, and
-- the size of a product is at most that of the sizes; so five of them stay far within 128 bits.
use Rattle.std.proofs.Common.{◌≤◌, ◌^◌, ℤ, ◌*ℤ◌, unsigned_abs}
use Rattle.std.proofs.Math.Nat.{mul-le-mul}
use Rattle.std.proofs.lemmas.Int.{unsigned_abs-mul}

-- the size of a product of numbers of 32 bits
pub product_size : (a b : ℤ) → unsigned_abs a ≤ 2 ^ 31 → unsigned_abs b ≤ 2 ^ 32 → unsigned_abs (a *ℤ b) ≤ 2 ^ 63
product_size a b h k = rw (unsigned_abs-mul a b) (mul-le-mul h k)
