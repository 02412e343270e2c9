-- Casts, shifts and products, as the code has them. A product of a rate and days wraps at a turn: what it is off is a
-- whole number of turns, and what is left of a number without its whole turns doesn't see it.
use Rattle.std.proofs.Common.{◌≡◌, ℕ, ◌-◌, ◌/◌, ◌%◌, ◌^◌, ◌<◌, ◌≤◌, false, arith, neg_ℤ, ℤ, pos, negsuc, ◌+ℤ◌, ◌-ℤ◌}
use Rattle.std.proofs.Common.{◌*ℤ◌, ◌≤ℤ◌, ◌<ℤ◌, SFits, Fits, w64}
use Rattle.std.specs.Int.{cast_signed, int_wrap, w128}
use Rattle.std.proofs.Math.Dec.{ltb}
use Rattle.std.proofs.lemmas.Bool.{le-ltb}
use Rattle.std.proofs.lemmas.Int.{ints, by_lt_z}
use Rattle.book_model.specs.Fraction.{floor_quotient}
use Rattle.book_model.proofs.Floors.{floor_quotient_is}
use Rattle.encl_core.proofs.Scaling.{bounded_z}
use Rattle.periodic_terms.specs.Turning.{whole_turns}

pub are_turns : (n r : ℤ) → (r *ℤ pos (2 ^ 64)) ≤ℤ n → n <ℤ (r *ℤ pos (2 ^ 64) +ℤ pos (2 ^ 64)) → r ≡ whole_turns n
are_turns n r l u = let h = floor_quotient_is n (2 ^ 64 - 1) in omega (arith, ints, h.not_above, h.close, l, u)

-- ---- what wraps
-- a number of 128 bits that are read with a sign
signed_high : (n : ℕ) → n < 2 ^ 128 → 2 ^ 127 ≤ n → cast_signed w128 n ≡ pos n -ℤ pos 1 *ℤ pos (2 ^ 128)
signed_high n h l = let f : ltb n (2 ^ 127) ≡ false = le-ltb n (2 ^ 127) l in rw f (omega (arith, ints, h, l))

signed_by : (n : ℕ) → n < 2 ^ 128 → (k : ℤ) × (cast_signed w128 n ≡ pos n -ℤ k *ℤ pos (2 ^ 128))
signed_by n h =
    by_lt_z (pos n) (pos (2 ^ 127)) (λ l. (pos 0, omega (arith, ints, l)))
    (λ l. (pos 1, signed_high n h (omega (arith, ints, l))))

-- what a number is off where it wraps: a whole number of turns in units of 2^-128
wraps_by : (z : ℤ) → (k : ℤ) × (int_wrap w128 z ≡ z -ℤ k *ℤ pos (2 ^ 128))
unfolding int_wrap
wraps_by (pos a) =
    let s = signed_by (a % 2 ^ 128) (omega arith) in
    (s.0 +ℤ pos (a / 2 ^ 128), omega (arith, ints, s.1))
wraps_by (negsuc a) =
    let s = signed_by (2 ^ 128 - 1 - a % 2 ^ 128) (omega arith) in
    ((s.0 -ℤ pos (a / 2 ^ 128)) -ℤ pos 1, omega (arith, ints, s.1))

-- the part of a turn that is left of a product which wrapped
part_of_wrapped : (z p f k : ℤ) → p ≡ z -ℤ k *ℤ pos (2 ^ 128) → (f *ℤ pos (2 ^ 64)) ≤ℤ p
    → p <ℤ (f *ℤ pos (2 ^ 64) +ℤ pos (2 ^ 64))
    → f ≡ floor_quotient z (2 ^ 64 - 1) -ℤ k *ℤ pos (2 ^ 64)
part_of_wrapped z p f k e l u = let h = floor_quotient_is z (2 ^ 64 - 1) in omega
    (arith, ints, h.not_above, h.close, e, l, u)

-- whole turns make no difference
turn_of_part : (n m k t : ℤ) → n ≡ m -ℤ k *ℤ pos (2 ^ 64) → t ≡ n -ℤ whole_turns n *ℤ pos (2 ^ 64)
    → t ≡ m -ℤ whole_turns m *ℤ pos (2 ^ 64)
turn_of_part n m k t e h =
    let g = floor_quotient_is n (2 ^ 64 - 1) in
    let f = floor_quotient_is m (2 ^ 64 - 1) in
    omega (arith, ints, g.not_above, g.close, f.not_above, f.close, e, h)

-- the turn of a phase and a product that wrapped is that of the phase and the product
pub turn_of_wrapped : (z p f : ℤ) (phase : ℕ) (q : ℤ) (turn : ℕ) → p ≡ int_wrap w128 z → (f *ℤ pos (2 ^ 64)) ≤ℤ p
    → p <ℤ (f *ℤ pos (2 ^ 64) +ℤ pos (2 ^ 64))
    → q ≡ pos phase → pos turn ≡ (q +ℤ f) -ℤ whole_turns (q +ℤ f) *ℤ pos (2 ^ 64)
    → pos turn ≡ (pos phase +ℤ floor_quotient z (2 ^ 64 - 1))
    -ℤ whole_turns (pos phase +ℤ floor_quotient z (2 ^ 64 - 1)) *ℤ pos (2 ^ 64)
turn_of_wrapped z p f phase q turn v l u e h =
    let w = wraps_by z in
    let d : p ≡ z -ℤ w.0 *ℤ pos (2 ^ 128) = cc in
    let g = part_of_wrapped z p f w.0 d l u in
    turn_of_part (q +ℤ f) (pos phase +ℤ floor_quotient z (2 ^ 64 - 1)) w.0 (pos turn) (omega (arith, ints, g, e)) h

-- ---- what fits
pub part_bounds : (p f : ℤ) → SFits w128 p → (f *ℤ pos (2 ^ 64)) ≤ℤ p → p <ℤ (f *ℤ pos (2 ^ 64) +ℤ pos (2 ^ 64))
    → SFits w64 f
part_bounds p f h l u = omega (arith, ints, h, l, u)

pub sum_bounds : (q f : ℤ) (phase : ℕ) → q ≡ pos phase → Fits w64 phase → SFits w64 f → SFits w128 (q +ℤ f)
sum_bounds q f phase e h g = omega (arith, ints, e, h, g)

pub size_bounds : (a b : ℤ) → neg_ℤ (pos (2 ^ 31)) ≤ℤ a → a ≤ℤ pos (2 ^ 31) → neg_ℤ (pos (2 ^ 56)) ≤ℤ b
    → b ≤ℤ pos (2 ^ 56)
    → (neg_ℤ (pos (2 ^ 87)) ≤ℤ (a *ℤ b)) × ((a *ℤ b) ≤ℤ pos (2 ^ 87))
size_bounds a b n p l u = let h = bounded_z a b (pos (2 ^ 31)) (pos (2 ^ 56)) p (omega (arith, ints, n)) u
    (omega (arith, ints, l)) in
    (omega (arith, ints, h.1), omega (arith, ints, h.0))

pub fits_128 : (x : ℤ) → neg_ℤ (pos (2 ^ 120)) ≤ℤ x → x ≤ℤ pos (2 ^ 120) → SFits w128 x
fits_128 x l u = omega (arith, ints, l, u)
