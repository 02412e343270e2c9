-- Terms that are each the one before times u r, where 4 u r is at most 1: they halve, and so do their differences.
use Rattle.std.proofs.Common.{ℕ, zero, suc, refl, pos, negsuc, [], ◌∷◌}
use Rattle.exact_math.proofs.Ring.{Poly, at, lit, ◌⊕◌, ◌⊖◌, ◌⊗◌, minus}
use Rattle.exact_math.specs.Fraction.{Fraction, ◌≤F◌, ◌≈◌, whole, plus, times}
use Rattle.exact_math.specs.Sums.{twice}
use Rattle.exact_math.proofs.Certificates.{zero_F, ◌≼◌, ◌≗◌, known, multiple, ◌⊞◌, ◌⊠◌, natural, le_by, le_over}
use Rattle.exact_math.proofs.Alternating.{Halving, Rising}

abbrev one : Poly
one = lit (pos 1)

abbrev two : Poly
two = lit (pos 2)

abbrev none : Poly
none = lit (pos 0)

pub record Ratios (t : ℕ → Fraction) (u : Fraction) (r : ℕ → Fraction) : Type 0 where
  pub first : zero_F ≤F t 0
  pub steps : (k : ℕ) → t (suc k) ≈ times (t k) (times u (r k))

pub record Small (u : Fraction) (r : ℕ → Fraction) : Type 0 where
  pub square : zero_F ≤F u
  pub nonneg : (k : ℕ) → zero_F ≤F r k
  pub small : (k : ℕ) → times (whole (pos 4)) (times u (r k)) ≤F whole (pos 1)

pub terms_nonneg : (t : ℕ → Fraction) (u : Fraction) (r : ℕ → Fraction) → Ratios t u r → Small u r → (k : ℕ)
    → zero_F ≤F t k
terms_nonneg t u r a s zero = a.first
terms_nonneg t u r a s (suc k) =
    le_by (t (suc k) ∷ t k ∷ u ∷ r k ∷ []) ((at 0 ≗ at 1 ⊗ (at 2 ⊗ at 3)) ∷ (none ≼ at 1) ∷ (none ≼ at 2)
    ∷ (none ≼ at 3) ∷ []) none (at 0)
    (known 1 ⊠ (known 2 ⊠ known 3) ⊞ multiple 0 (lit (negsuc 0))) refl
    (a.steps k, (terms_nonneg t u r a s k, (s.square, (s.nonneg k, tt))))

pub halving : (t : ℕ → Fraction) (u : Fraction) (r : ℕ → Fraction) → Ratios t u r → Small u r → Halving t
halving t u r a s = record {
  nonneg = terms_nonneg t u r a s;
  halves = λ k. le_over 1 (t (suc k) ∷ t k ∷ u ∷ r k ∷ []) ((at 0 ≗ at 1 ⊗ (at 2 ⊗ at 3)) ∷ (none ≼ at 1)
      ∷ (lit (pos 4) ⊗ (at 2 ⊗ at 3) ≼ one) ∷ [])
      (two ⊗ at 0) (at 1)
      (known 1 ⊠ known 2 ⊞ known 1 ⊞ multiple 0 (lit (pos 4))) refl
      (a.steps k, (terms_nonneg t u r a s k, (s.small k, tt)));
}

-- two series of the same ratios, at u and v
pub record Pair (p q : ℕ → Fraction) (u v : Fraction) (r : ℕ → Fraction) : Type 0 where
  pub left : Ratios p u r
  pub right : Ratios q v r
  pub left_small : Small u r
  pub small : Small v r
  pub arguments : u ≤F v
  pub first : p 0 ≤F q 0

pub terms_rise : (p q : ℕ → Fraction) (u v : Fraction) (r : ℕ → Fraction) → Pair p q u v r → (k : ℕ) → p k ≤F q k
terms_rise p q u v r c zero = c.first
terms_rise p q u v r c (suc k) =
    le_by (p (suc k) ∷ q (suc k) ∷ p k ∷ q k ∷ u ∷ v ∷ r k ∷ [])
    ((at 0 ≗ at 2 ⊗ (at 4 ⊗ at 6)) ∷ (at 1 ≗ at 3 ⊗ (at 5 ⊗ at 6)) ∷ (at 2 ≼ at 3) ∷ (at 4 ≼ at 5) ∷ (none ≼ at 2)
    ∷ (none ≼ at 5) ∷ (none ≼ at 6) ∷ []) (at 0)
    (at 1)
    (known 6 ⊠ (known 2 ⊠ known 5 ⊞ known 4 ⊠ known 3) ⊞ multiple 0 one ⊞ multiple 1 (lit (negsuc 0))) refl (
      c.left.steps k,
      (
        c.right.steps k,
        (
          terms_rise p q u v r c k,
          (c.arguments, (terms_nonneg p u r c.left c.left_small k, (c.small.square, (c.small.nonneg k, tt)))),
        ),
      ),
    )

-- p v ≤ u q, at each term but the first
pub lag : (p q : ℕ → Fraction) (u v : Fraction) (r : ℕ → Fraction) → Pair p q u v r → (k : ℕ)
    → times (p (suc k)) v ≤F times u (q (suc k))
lag p q u v r c k =
    le_by (p (suc k) ∷ q (suc k) ∷ p k ∷ q k ∷ u ∷ v ∷ r k ∷ [])
    ((at 0 ≗ at 2 ⊗ (at 4 ⊗ at 6)) ∷ (at 1 ≗ at 3 ⊗ (at 5 ⊗ at 6)) ∷ (at 2 ≼ at 3) ∷ (none ≼ at 4) ∷ (none ≼ at 5)
    ∷ (none ≼ at 6) ∷ []) (at 0 ⊗ at 5)
    (at 4 ⊗ at 1)
    (known 2 ⊠ (known 3 ⊠ known 4 ⊠ known 5) ⊞ multiple 0 (at 5) ⊞ multiple 1 (minus (at 4))) refl (
      c.left.steps k,
      (c.right.steps k, (terms_rise p q u v r c k, (c.left_small.square, (c.small.square, (c.small.nonneg k, tt))))),
    )

-- where p v ≤ u q, the difference of the next terms is at most half
pub by_lag : (p q : ℕ → Fraction) (u v : Fraction) (r : ℕ → Fraction) → Pair p q u v r → (k : ℕ)
    → times (p k) v ≤F times u (q k)
    → plus (p k) (twice (q (suc k))) ≤F plus (q k) (twice (p (suc k)))
by_lag p q u v r c k h =
    le_by (p (suc k) ∷ q (suc k) ∷ p k ∷ q k ∷ u ∷ v ∷ r k ∷ [])
    ((at 0 ≗ at 2 ⊗ (at 4 ⊗ at 6)) ∷ (at 1 ≗ at 3 ⊗ (at 5 ⊗ at 6)) ∷ (at 2 ≼ at 3) ∷ (at 4 ≼ at 5) ∷ (none ≼ at 6)
    ∷ (lit (pos 4) ⊗ (at 5 ⊗ at 6) ≼ one) ∷
    (at 2 ⊗ at 5 ≼ at 4 ⊗ at 3) ∷ [])
    (at 2 ⊕ two ⊗ at 1) (at 3 ⊕ two ⊗ at 0)
    (known 2 ⊠ (known 5 ⊞ natural 2 ⊠ known 4 ⊠ known 3) ⊞ natural 2 ⊠ known 4 ⊠ known 6 ⊞ multiple 0 (lit (negsuc 1)) ⊞
    multiple 1 two) refl (
      c.left.steps k,
      (c.right.steps k, (terms_rise p q u v r c k, (c.arguments, (c.small.nonneg k, (c.small.small k, (h, tt)))))),
    )

pub rising : (p q : ℕ → Fraction) (u v : Fraction) (r : ℕ → Fraction) → Pair p q u v r
    → plus (p 0) (twice (q 1)) ≤F plus (q 0) (twice (p 1)) → Rising p q
rising p q u v r c h = record { above = terms_rise p q u v r c; halves = by_index }
  where
    by_index : (k : ℕ) → plus (p k) (twice (q (suc k))) ≤F plus (q k) (twice (p (suc k)))
    by_index zero = h
    by_index (suc k) = by_lag p q u v r c (suc k) (lag p q u v r c k)

-- where the first terms are x and y
pub record Cubes (p q : ℕ → Fraction) (x y : Fraction) (r : Fraction) : Type 0 where
  pub is_x : p 0 ≈ x
  pub is_y : q 0 ≈ y
  pub nonneg : zero_F ≤F x
  pub order : x ≤F y
  pub ratio : zero_F ≤F r
  pub small : times (whole (pos 6)) (times (times y y) r) ≤F whole (pos 1)

pub by_cubes : (p q : ℕ → Fraction) (x y : Fraction) (r : ℕ → Fraction) → Pair p q (times x x) (times y y) r
    → Cubes p q x y (r 0)
    → plus (p 0) (twice (q 1)) ≤F plus (q 0) (twice (p 1))
by_cubes p q x y r c d =
    le_by (p 0 ∷ q 0 ∷ p 1 ∷ q 1 ∷ x ∷ y ∷ r 0 ∷ [])
    ((at 2 ≗ at 0 ⊗ ((at 4 ⊗ at 4) ⊗ at 6)) ∷ (at 3 ≗ at 1 ⊗ ((at 5 ⊗ at 5) ⊗ at 6)) ∷ (at 0 ≗ at 4) ∷ (at 1 ≗ at 5)
    ∷ (none ≼ at 4) ∷ (at 4 ≼ at 5) ∷
    (none ≼ at 6) ∷ (lit (pos 6) ⊗ ((at 5 ⊗ at 5) ⊗ at 6) ≼ one) ∷ [])
    (at 0 ⊕ two ⊗ at 3) (at 1 ⊕ two ⊗ at 2)
    (known 5 ⊠ (known 7 ⊞ natural 2 ⊠ known 6 ⊠ known 5 ⊠ (natural 2 ⊠ known 5 ⊞ natural 3 ⊠ known 4))
    ⊞ multiple 0 (lit (negsuc 1)) ⊞ multiple 1 two
    ⊞ multiple 2 (one ⊖ two ⊗ ((at 4 ⊗ at 4) ⊗ at 6)) ⊞ multiple 3 (minus (one ⊖ two ⊗ ((at 5 ⊗ at 5) ⊗ at 6)))) refl
    (c.left.steps 0, (c.right.steps 0, (d.is_x, (d.is_y, (d.nonneg, (d.order, (d.ratio, (d.small, tt))))))))
