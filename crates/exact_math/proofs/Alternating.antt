-- Alternating sums whose terms at least halve: the enclosure by twice the next term is nested in the depth, and goes up
-- with the terms.
use Rattle.std.proofs.Common.{◌≡◌, ℕ, zero, suc, refl, ap, arith, unsigned_abs, ℤ, pos, negsuc, ◌*ℤ◌, ◌≤ℤ◌, [], ◌∷◌}
use Rattle.std.proofs.lemmas.Int.{ints}
use Rattle.exact_math.proofs.Ring.{Poly, at, lit, ◌⊕◌, ◌⊖◌, ◌⊗◌}
use Rattle.exact_math.specs.Fraction.{Fraction, ◌≤F◌, ◌≈◌, plus, opposite, size}
use Rattle.exact_math.specs.Sums.{alternating, twice, lower, upper}
use Rattle.exact_math.proofs.FractionRing.{same_by}
use Rattle.exact_math.proofs.Certificates.{zero_F, ◌≼◌, ◌≗◌, known, multiple, ◌⊞◌, ◌⊠◌, natural, le_by}

abbrev two : Poly
two = lit (pos 2)

-- the endpoints of a sum whose next term is not negative
unfoldable pub beneath : (ℕ → Fraction) → ℕ → Fraction
beneath t n = plus (alternating t n) (opposite (twice (t (suc n))))

unfoldable pub atop : (ℕ → Fraction) → ℕ → Fraction
atop t n = plus (alternating t n) (twice (t (suc n)))

size_z : (n d : ℤ) (m : ℕ) → (pos 0 *ℤ pos (suc m)) ≤ℤ (n *ℤ pos 1) → pos (unsigned_abs n) ≡ n
size_z (pos n) d m h = refl
size_z (negsuc n) d m h = absurd (omega (arith, ints))

-- a fraction that is not negative is its own size
pub size_same : (a : Fraction) → zero_F ≤F a → size a ≡ a
unfolding size
size_same a h = ap (λ n. record { num = n; below = a.below }) (size_z a.num (pos 0) a.below h.cross)

pub lower_is_beneath : (t : ℕ → Fraction) (n : ℕ) → zero_F ≤F t (suc n) → lower t n ≡ beneath t n
unfolding lower beneath
lower_is_beneath t n h = ap (λ z. plus (alternating t n) (opposite (twice z))) (size_same (t (suc n)) h)

pub upper_is_atop : (t : ℕ → Fraction) (n : ℕ) → zero_F ≤F t (suc n) → upper t n ≡ atop t n
unfolding upper atop
upper_is_atop t n h = ap (λ z. plus (alternating t n) (twice z)) (size_same (t (suc n)) h)

-- each term is at least 0 and at least twice the next
pub record Halving (t : ℕ → Fraction) : Type 0 where
  pub nonneg : (k : ℕ) → zero_F ≤F t k
  pub halves : (k : ℕ) → twice (t (suc k)) ≤F t k

pub tail : (t : ℕ → Fraction) → Halving t → Halving (λ k. t (suc k))
tail t h = record { nonneg = λ k. h.nonneg (suc k); halves = λ k. h.halves (suc k) }

pub beneath_step : (t : ℕ → Fraction) (n : ℕ) → beneath t (suc n) ≈ plus (t 0) (opposite (atop (λ k. t (suc k)) n))
unfolding beneath atop alternating
beneath_step t n =
    same_by (t 0 ∷ alternating (λ k. t (suc k)) n ∷ t (suc (suc n)) ∷ []) ((at 0 ⊖ at 1) ⊖ two ⊗ at 2)
    (at 0 ⊖ (at 1 ⊕ two ⊗ at 2)) refl

pub atop_step : (t : ℕ → Fraction) (n : ℕ) → atop t (suc n) ≈ plus (t 0) (opposite (beneath (λ k. t (suc k)) n))
unfolding beneath atop alternating
atop_step t n =
    same_by (t 0 ∷ alternating (λ k. t (suc k)) n ∷ t (suc (suc n)) ∷ []) ((at 0 ⊖ at 1) ⊕ two ⊗ at 2)
    (at 0 ⊖ (at 1 ⊖ two ⊗ at 2)) refl

pub record SumsNest (t : ℕ → Fraction) (n : ℕ) : Type 0 where
  pub below : beneath t n ≤F beneath t (suc n)
  pub above : atop t (suc n) ≤F atop t n

-- from the tail, whatever the first term
pub nested_by_tail : (t : ℕ → Fraction) (n : ℕ) → SumsNest (λ k. t (suc k)) n → SumsNest t (suc n)
nested_by_tail t n h = record {
  below = le_by (t 0 ∷ beneath t (suc n) ∷ beneath t (suc (suc n)) ∷ atop (λ k. t (suc k)) n ∷ atop (λ k. t (suc k))
      (suc n) ∷ [])
      ((at 1 ≗ at 0 ⊖ at 3) ∷ (at 2 ≗ at 0 ⊖ at 4) ∷ (at 4 ≼ at 3) ∷ []) (at 1) (at 2)
      (known 2 ⊞ multiple 0 (lit (pos 1)) ⊞ multiple 1 (lit (negsuc 0))) refl
      (beneath_step t n, (beneath_step t (suc n), (h.above, tt)));
  above = le_by (t 0 ∷ atop t (suc (suc n)) ∷ atop t (suc n) ∷ beneath (λ k. t (suc k)) (suc n) ∷ beneath
      (λ k. t (suc k)) n ∷ [])
      ((at 1 ≗ at 0 ⊖ at 3) ∷ (at 2 ≗ at 0 ⊖ at 4) ∷ (at 4 ≼ at 3) ∷ []) (at 1) (at 2)
      (known 2 ⊞ multiple 0 (lit (pos 1)) ⊞ multiple 1 (lit (negsuc 0))) refl
      (atop_step t (suc n), (atop_step t n, (h.below, tt)));
}

pub nested : (n : ℕ) (t : ℕ → Fraction) → Halving t → SumsNest t n
unfolding beneath atop alternating
nested zero t h = record {
  below = le_by (t 0 ∷ t 1 ∷ t 2 ∷ []) ((two ⊗ at 2 ≼ at 1) ∷ []) (at 0 ⊖ two ⊗ at 1) ((at 0 ⊖ at 1) ⊖ two ⊗ at 2)
      (known 0) refl (h.halves 1, tt);
  above = le_by (t 0 ∷ t 1 ∷ t 2 ∷ []) ((two ⊗ at 2 ≼ at 1) ∷ (lit (pos 0) ≼ at 1) ∷ []) ((at 0 ⊖ at 1) ⊕ two ⊗ at 2)
      (at 0 ⊕ two ⊗ at 1)
      (known 0 ⊞ natural 2 ⊠ known 1) refl (h.halves 1, (h.nonneg 1, tt));
}
nested (suc n) t h = nested_by_tail t n (nested n (λ k. t (suc k)) (tail t h))

-- the terms q are at least the terms p, and so are the differences to halve
pub record Rising (p q : ℕ → Fraction) : Type 0 where
  pub above : (k : ℕ) → p k ≤F q k
  pub halves : (k : ℕ) → plus (p k) (twice (q (suc k))) ≤F plus (q k) (twice (p (suc k)))

pub tails : (p q : ℕ → Fraction) → Rising p q → Rising (λ k. p (suc k)) (λ k. q (suc k))
tails p q h = record { above = λ k. h.above (suc k); halves = λ k. h.halves (suc k) }

record Risen (p q : ℕ → Fraction) (n : ℕ) : Type 0 where
  low : beneath p n ≤F beneath q n
  high : plus (atop q n) (twice (p 0)) ≤F plus (atop p n) (twice (q 0))

risen : (n : ℕ) (p q : ℕ → Fraction) → Rising p q → Risen p q n
unfolding beneath atop alternating
risen zero p q h = record {
  low = le_by (p 0 ∷ q 0 ∷ p 1 ∷ q 1 ∷ []) ((at 0 ⊕ two ⊗ at 3 ≼ at 1 ⊕ two ⊗ at 2) ∷ []) (at 0 ⊖ two ⊗ at 2)
      (at 1 ⊖ two ⊗ at 3) (known 0) refl
      (h.halves 0, tt);
  high = le_by (p 0 ∷ q 0 ∷ p 1 ∷ q 1 ∷ []) ((at 0 ⊕ two ⊗ at 3 ≼ at 1 ⊕ two ⊗ at 2) ∷ [])
      ((at 1 ⊕ two ⊗ at 3) ⊕ two ⊗ at 0) ((at 0 ⊕ two ⊗ at 2) ⊕ two ⊗ at 1)
      (known 0) refl (h.halves 0, tt);
}
risen (suc n) p q h = by_tails p q n h (risen n (λ k. p (suc k)) (λ k. q (suc k)) (tails p q h))
  where
    by_tails : (p q : ℕ → Fraction) (n : ℕ) → Rising p q → Risen (λ k. p (suc k)) (λ k. q (suc k)) n → Risen p q (suc n)
    by_tails p q n h r = record {
      low = le_by (p 0 ∷ q 0 ∷ p 1 ∷ q 1 ∷ beneath p (suc n) ∷ beneath q (suc n) ∷ atop (λ k. p (suc k)) n
          ∷ atop (λ k. q (suc k)) n ∷ [])
          ((at 4 ≗ at 0 ⊖ at 6) ∷ (at 5 ≗ at 1 ⊖ at 7) ∷ (at 0 ⊕ two ⊗ at 3 ≼ at 1 ⊕ two ⊗ at 2)
          ∷ (at 7 ⊕ two ⊗ at 2 ≼ at 6 ⊕ two ⊗ at 3) ∷ []) (at 4) (at 5)
          (known 2 ⊞ known 3 ⊞ multiple 0 (lit (pos 1)) ⊞ multiple 1 (lit (negsuc 0))) refl
          (beneath_step p n, (beneath_step q n, (h.halves 0, (r.high, tt))));
      high = le_by (p 0 ∷ q 0 ∷ atop p (suc n) ∷ atop q (suc n) ∷ beneath (λ k. p (suc k)) n ∷ beneath (λ k. q (suc k))
          n ∷ [])
          ((at 2 ≗ at 0 ⊖ at 4) ∷ (at 3 ≗ at 1 ⊖ at 5) ∷ (at 0 ≼ at 1) ∷ (at 4 ≼ at 5) ∷ []) (at 3 ⊕ two ⊗ at 0)
          (at 2 ⊕ two ⊗ at 1)
          (known 2 ⊞ known 3 ⊞ multiple 0 (lit (negsuc 0)) ⊞ multiple 1 (lit (pos 1))) refl
          (atop_step p n, (atop_step q n, (h.above 0, (r.low, tt))));
    }

pub beneath_rises : (n : ℕ) (p q : ℕ → Fraction) → Rising p q → beneath p n ≤F beneath q n
beneath_rises n p q h = (risen n p q h).low

pub atop_rises : (n : ℕ) (p q : ℕ → Fraction) → Rising p q → atop p n ≤F atop q n
unfolding beneath atop
atop_rises n p q h =
    le_by (alternating p n ∷ alternating q n ∷ p (suc n) ∷ q (suc n) ∷ [])
    ((at 0 ⊖ two ⊗ at 2 ≼ at 1 ⊖ two ⊗ at 3) ∷ (at 2 ≼ at 3) ∷ []) (at 0 ⊕ two ⊗ at 2) (at 1 ⊕ two ⊗ at 3)
    (known 0 ⊞ natural 4 ⊠ known 1) refl
    ((risen n p q h).low, (h.above (suc n), tt))

-- where the first terms are in the other order, and from the second on they rise, the sums fall
pub record Falling (p q : ℕ → Fraction) : Type 0 where
  pub first : q 0 ≤F p 0
  pub rest : Rising (λ k. p (suc k)) (λ k. q (suc k))

pub beneath_falls : (n : ℕ) (p q : ℕ → Fraction) → Falling p q → beneath q (suc n) ≤F beneath p (suc n)
beneath_falls n p q h =
    le_by (p 0 ∷ q 0 ∷ beneath p (suc n) ∷ beneath q (suc n) ∷ atop (λ k. p (suc k)) n ∷ atop (λ k. q (suc k)) n ∷ [])
    ((at 2 ≗ at 0 ⊖ at 4) ∷ (at 3 ≗ at 1 ⊖ at 5) ∷ (at 1 ≼ at 0) ∷ (at 4 ≼ at 5) ∷ []) (at 3) (at 2)
    (known 2 ⊞ known 3 ⊞ multiple 0 (lit (negsuc 0)) ⊞ multiple 1 (lit (pos 1))) refl
    (beneath_step p n, (beneath_step q n, (h.first, (atop_rises n (λ k. p (suc k)) (λ k. q (suc k)) h.rest, tt))))

pub atop_falls : (n : ℕ) (p q : ℕ → Fraction) → Falling p q → atop q (suc n) ≤F atop p (suc n)
atop_falls n p q h =
    le_by (p 0 ∷ q 0 ∷ atop p (suc n) ∷ atop q (suc n) ∷ beneath (λ k. p (suc k)) n ∷ beneath (λ k. q (suc k)) n ∷ [])
    ((at 2 ≗ at 0 ⊖ at 4) ∷ (at 3 ≗ at 1 ⊖ at 5) ∷ (at 1 ≼ at 0) ∷ (at 4 ≼ at 5) ∷ []) (at 3) (at 2)
    (known 2 ⊞ known 3 ⊞ multiple 0 (lit (negsuc 0)) ⊞ multiple 1 (lit (pos 1))) refl
    (atop_step p n, (atop_step q n, (h.first, (beneath_rises n (λ k. p (suc k)) (λ k. q (suc k)) h.rest, tt))))

-- the endpoints are in order, and not negative where the terms halve from the first on
pub endpoints_in_order : (n : ℕ) (t : ℕ → Fraction) → zero_F ≤F t (suc n) → beneath t n ≤F atop t n
unfolding beneath atop
endpoints_in_order n t h = le_by (alternating t n ∷ t (suc n) ∷ []) ((lit (pos 0) ≼ at 1) ∷ []) (at 0 ⊖ two ⊗ at 1)
    (at 0 ⊕ two ⊗ at 1) (natural 4 ⊠ known 0) refl
    (h, tt)

-- ---- the same for the endpoints of a series, whose terms are not negative
pub sums_nested : (n : ℕ) (t : ℕ → Fraction) → Halving t → (lower t n ≤F lower t (suc n))
    × (upper t (suc n) ≤F upper t n)
sums_nested n t h =
    let k = nested n t h in
    rw (
      lower_is_beneath t n (h.nonneg (suc n)),
      lower_is_beneath t (suc n) (h.nonneg (suc (suc n))),
      upper_is_atop t n (h.nonneg (suc n)),
      upper_is_atop t (suc n) (h.nonneg (suc (suc n))),
    ) (k.below, k.above)

-- from the second term on
pub later_sums_nested : (n : ℕ) (t : ℕ → Fraction) → Halving (λ k. t (suc k))
    → (lower t (suc n) ≤F lower t (suc (suc n)))
    × (upper t (suc (suc n)) ≤F upper t (suc n))
later_sums_nested n t h =
    let k = nested_by_tail t n (nested n (λ k. t (suc k)) h) in
    rw (
      lower_is_beneath t (suc n) (h.nonneg (suc n)),
      lower_is_beneath t (suc (suc n)) (h.nonneg (suc (suc n))),
      upper_is_atop t (suc n) (h.nonneg (suc n)),
      upper_is_atop t (suc (suc n)) (h.nonneg (suc (suc n))),
    ) (k.below, k.above)

pub lower_rises : (n : ℕ) (p q : ℕ → Fraction) → zero_F ≤F p (suc n) → zero_F ≤F q (suc n) → Rising p q
    → lower p n ≤F lower q n
lower_rises n p q a b h = rw (lower_is_beneath p n a, lower_is_beneath q n b) (beneath_rises n p q h)

pub upper_rises : (n : ℕ) (p q : ℕ → Fraction) → zero_F ≤F p (suc n) → zero_F ≤F q (suc n) → Rising p q
    → upper p n ≤F upper q n
upper_rises n p q a b h = rw (upper_is_atop p n a, upper_is_atop q n b) (atop_rises n p q h)

pub lower_falls : (n : ℕ) (p q : ℕ → Fraction) → zero_F ≤F p (suc (suc n)) → zero_F ≤F q (suc (suc n)) → Falling p q
    → lower q (suc n) ≤F lower p (suc n)
lower_falls n p q a b h = rw (lower_is_beneath p (suc n) a, lower_is_beneath q (suc n) b) (beneath_falls n p q h)

pub upper_falls : (n : ℕ) (p q : ℕ → Fraction) → zero_F ≤F p (suc (suc n)) → zero_F ≤F q (suc (suc n)) → Falling p q
    → upper q (suc n) ≤F upper p (suc n)
upper_falls n p q a b h = rw (upper_is_atop p (suc n) a, upper_is_atop q (suc n) b) (atop_falls n p q h)

pub sum_endpoints_in_order : (n : ℕ) (t : ℕ → Fraction) → zero_F ≤F t (suc n) → lower t n ≤F upper t n
sum_endpoints_in_order n t h = rw (lower_is_beneath t n h, upper_is_atop t n h) (endpoints_in_order n t h)
