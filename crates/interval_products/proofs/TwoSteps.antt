-- Quotients in two steps: the whole quotient, and what it leaves, raised to the scale. The parts add up to the dividend
-- (`HasParts`), so the two rounded quotients add up to the rounded one; that each part fits is linear in the bounds of
-- `HasFineQuotient`.
use Rattle.std.proofs.Common.{◌≡◌, zero, suc, ◌+◌, ◌^◌, arith, ℤ, pos, negsuc, ◌+ℤ◌, ◌*ℤ◌, ◌-ℤ◌, ◌≤ℤ◌, ◌<ℤ◌, SFits}
use Rattle.std.proofs.Common.{refl, [], ◌∷◌}
use Rattle.std.specs.Prelude.{Option, Some, None, SomeIff, IsSome}
use Rattle.std.specs.Int.{w128, int_div_euclid, int_rem_euclid}
use Rattle.std.proofs.lemmas.Int.{ints}
use Rattle.book_model.proofs.Ring.{at, lit, ◌⊕◌, ◌⊖◌, ◌⊗◌}
use Rattle.book_model.proofs.Bounds.{◌≼◌, known, ◌⊞◌, ◌⊠◌, times as naturally, le_by, le_over}
use Rattle.interval_endpoints.specs.WholeRounding.{IsFloor, IsCeiling}
use Rattle.interval_endpoints.proofs.Quotients.{next_le, lt_next}
use Rattle.interval_products.specs.Room.{HasFineQuotient, HasParts}

-- a number is its whole quotient times the divisor, and what is left, which is less than the divisor
pub record AreParts (n d whole rest : ℤ) : Type 0 where
  pub least : pos 0 ≤ℤ rest
  pub most : rest <ℤ d
  pub from : (whole *ℤ d +ℤ rest) ≤ℤ n
  pub to : n ≤ℤ (whole *ℤ d +ℤ rest)

pub euclid_parts : (n d : ℤ) → pos 0 <ℤ d → AreParts n d (int_div_euclid n d) (int_rem_euclid n d)
euclid_parts (pos n) (pos (suc d)) h = record {
  least = omega (arith, ints);
  most = omega (arith, ints);
  from = omega (arith, ints);
  to = omega (arith, ints);
}
euclid_parts (negsuc n) (pos (suc d)) h = record {
  least = omega (arith, ints);
  most = omega (arith, ints);
  from = omega (arith, ints);
  to = omega (arith, ints);
}
euclid_parts n (pos zero) h = absurd (omega (arith, ints))
euclid_parts n (negsuc d) h = absurd (omega (arith, ints))

-- both raised to the scale
raised : (n d whole rest : ℤ) → AreParts n d whole rest → HasParts n d (whole *ℤ pos (2 ^ 56)) (rest *ℤ pos (2 ^ 56))
raised n d whole rest p =
    let t = lit (pos (2 ^ 56)) in
    let m = p.most in
    let l = p.least in
    record {
      least = omega (arith, ints, l);
      most = omega (arith, ints, m);
      from = le_by (n ∷ d ∷ whole ∷ rest ∷ []) ((at 2 ⊗ at 1 ⊕ at 3 ≼ at 0) ∷ []) ((at 2 ⊗ t) ⊗ at 1 ⊕ at 3 ⊗ t)
          (at 0 ⊗ t) (naturally (2 ^ 56) ⊠ known 0) refl
          (p.from, tt);
      to = le_by (n ∷ d ∷ whole ∷ rest ∷ []) ((at 0 ≼ at 2 ⊗ at 1 ⊕ at 3) ∷ []) (at 0 ⊗ t)
          ((at 2 ⊗ t) ⊗ at 1 ⊕ at 3 ⊗ t) (naturally (2 ^ 56) ⊠ known 0) refl
          (p.to, tt);
    }

pub has_parts : (n d whole rest u v : ℤ) → AreParts n d whole rest → u ≡ whole *ℤ pos (2 ^ 56)
    → v ≡ rest *ℤ pos (2 ^ 56) → HasParts n d u v
has_parts n d whole rest u v p e f = rw (e, f) (raised n d whole rest p)

-- the quotient of the raised number is the whole one and that of what is left
pub step_down : (n d u v f : ℤ) → HasParts n d u v → IsFloor f v d → IsFloor (u +ℤ f) (n *ℤ pos (2 ^ 56)) d
step_down n d u v f p i =
    let t = lit (pos (2 ^ 56)) in
    let one = lit (pos 1) in
    record {
      not_above = le_by (n ∷ d ∷ u ∷ v ∷ f ∷ []) ((at 2 ⊗ at 1 ⊕ at 3 ≼ at 0 ⊗ t) ∷ (at 4 ⊗ at 1 ≼ at 3) ∷ [])
          ((at 2 ⊕ at 4) ⊗ at 1) (at 0 ⊗ t)
          (known 0 ⊞ known 1) refl (p.from, (i.not_above, tt));
      close = lt_next _ _
          (le_by (n ∷ d ∷ u ∷ v ∷ f ∷ []) ((at 0 ⊗ t ≼ at 2 ⊗ at 1 ⊕ at 3) ∷ (at 3 ⊕ one ≼ at 4 ⊗ at 1 ⊕ at 1) ∷ [])
          (at 0 ⊗ t ⊕ one)
          ((at 2 ⊕ at 4) ⊗ at 1 ⊕ at 1) (known 0 ⊞ known 1) refl (p.to, (next_le _ _ i.close, tt)));
    }

pub step_up : (n d u v f : ℤ) → HasParts n d u v → IsCeiling f v d → IsCeiling (u +ℤ f) (n *ℤ pos (2 ^ 56)) d
step_up n d u v f p i =
    let t = lit (pos (2 ^ 56)) in
    let one = lit (pos 1) in
    record {
      not_below = le_by (n ∷ d ∷ u ∷ v ∷ f ∷ []) ((at 0 ⊗ t ≼ at 2 ⊗ at 1 ⊕ at 3) ∷ (at 3 ≼ at 4 ⊗ at 1) ∷ [])
          (at 0 ⊗ t) ((at 2 ⊕ at 4) ⊗ at 1)
          (known 0 ⊞ known 1) refl (p.to, (i.not_below, tt));
      close = lt_next _ _
          (le_by (n ∷ d ∷ u ∷ v ∷ f ∷ []) ((at 2 ⊗ at 1 ⊕ at 3 ≼ at 0 ⊗ t) ∷ (at 4 ⊗ at 1 ⊕ one ≼ at 3 ⊕ at 1) ∷ [])
          ((at 2 ⊕ at 4) ⊗ at 1 ⊕ one) (at 0 ⊗ t ⊕ at 1) (known 0 ⊞ known 1) refl (p.from, (next_le _ _ i.close, tt)));
    }

-- a checked value is there where it fits
pub checked_some : {T : Type 0} (o : Option T) (P : Type 0) (v : T) → SomeIff o P v → P → IsSome o
checked_some None P v h p = absurd (h p)
checked_some (Some n) P v h p = refl

-- ---- where there is room
whole_low : (n d whole rest : ℤ) → pos 0 <ℤ d → AreParts n d whole rest → HasFineQuotient n d
    → (pos 0 -ℤ pos (2 ^ 69)) ≤ℤ (whole +ℤ pos 1)
whole_low n d whole rest h p r =
    le_over (n ∷ d ∷ whole ∷ rest ∷ []) ((lit (pos 0) ⊖ lit (pos (2 ^ 69)) ⊗ at 1 ≼ at 0) ∷ (at 0 ≼ at 2 ⊗ at 1 ⊕ at 3)
    ∷ (at 3 ⊕ lit (pos 1) ≼ at 1) ∷ [])
    (at 1) (lit (pos 0) ⊖ lit (pos (2 ^ 69))) (at 2 ⊕ lit (pos 1))
    (known 0 ⊞ known 1 ⊞ known 2 ⊞ naturally 1) refl (next_le _ _ h)
    (omega (arith, ints, r.above), (p.to, (next_le _ _ p.most, tt)))

whole_high : (n d whole rest : ℤ) → pos 0 <ℤ d → AreParts n d whole rest → HasFineQuotient n d → whole ≤ℤ pos (2 ^ 69)
whole_high n d whole rest h p r =
    le_over (n ∷ d ∷ whole ∷ rest ∷ []) ((at 0 ≼ lit (pos (2 ^ 69)) ⊗ at 1) ∷ (at 2 ⊗ at 1 ⊕ at 3 ≼ at 0)
    ∷ (lit (pos 0) ≼ at 3) ∷ []) (at 1) (at 2)
    (lit (pos (2 ^ 69)))
    (known 0 ⊞ known 1 ⊞ known 2) refl (next_le _ _ h) (r.below, (p.from, (p.least, tt)))

-- the whole quotient fits when it is raised
pub whole_fits : (n d whole rest : ℤ) → pos 0 <ℤ d → AreParts n d whole rest → HasFineQuotient n d
    → SFits w128 (whole *ℤ pos (2 ^ 56))
whole_fits n d whole rest h p r = let l = whole_low n d whole rest h p r in let u = whole_high n d whole rest h p r in
    omega (arith, ints, l, u)

-- and so does what is left
pub rest_fits : (n d whole rest : ℤ) → AreParts n d whole rest → HasFineQuotient n d → SFits w128 (rest *ℤ pos (2 ^ 56))
rest_fits n d whole rest p r = let m = p.most in let l = p.least in let k = r.divisor in omega (arith, ints, l, m, k)

-- a quotient that has room fits
room_for : (n d q : ℤ) → pos 0 <ℤ d → HasFineQuotient n d → (n *ℤ pos (2 ^ 56)) ≤ℤ (q *ℤ d +ℤ d)
    → (q *ℤ d) ≤ℤ (n *ℤ pos (2 ^ 56) +ℤ d) → SFits w128 q
room_for n d q h r l u =
    let t = lit (pos (2 ^ 56)) in
    let a : (pos 0 -ℤ pos (2 ^ 125)) ≤ℤ (q +ℤ pos 1) = le_over (n ∷ d ∷ q ∷ [])
    ((lit (pos 0) ⊖ lit (pos (2 ^ 69)) ⊗ at 1 ≼ at 0) ∷ (at 0 ⊗ t ≼ at 2 ⊗ at 1 ⊕ at 1) ∷ []) (at 1)
    (lit (pos 0) ⊖ lit (pos (2 ^ 125)))
    (at 2 ⊕ lit (pos 1))
    (naturally (2 ^ 56) ⊠ known 0 ⊞ known 1) refl (next_le _ _ h) (omega (arith, ints, r.above), (l, tt)) in
    let b : q ≤ℤ pos (2 ^ 125 + 1) = le_over (n ∷ d ∷ q ∷ [])
    ((at 0 ≼ lit (pos (2 ^ 69)) ⊗ at 1) ∷ (at 2 ⊗ at 1 ≼ at 0 ⊗ t ⊕ at 1) ∷ []) (at 1) (at 2)
    (lit (pos (2 ^ 125 + 1)))
    (naturally (2 ^ 56) ⊠ known 0 ⊞ known 1) refl (next_le _ _ h) (r.below, (u, tt)) in
    omega (arith, ints, a, b)

pub floor_fits : (n d q : ℤ) → pos 0 <ℤ d → HasFineQuotient n d → IsFloor q (n *ℤ pos (2 ^ 56)) d → SFits w128 q
floor_fits n d q h r i = let l = i.not_above in let u = i.close in room_for n d q h r (omega (arith, ints, u))
    (omega (arith, ints, l, h))

pub ceiling_fits : (n d q : ℤ) → pos 0 <ℤ d → HasFineQuotient n d → IsCeiling q (n *ℤ pos (2 ^ 56)) d → SFits w128 q
ceiling_fits n d q h r i = let l = i.not_below in let u = i.close in room_for n d q h r (omega (arith, ints, l, h))
    (omega (arith, ints, u))
