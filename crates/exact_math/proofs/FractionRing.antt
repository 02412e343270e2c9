-- Ring identities over fractions by computation: the normal form of `Ring`, read at fractions.
use Rattle.std.proofs.Common.{◌≡◌, ℕ, zero, suc, refl, sym, subst, ℤ, pos, negsuc, ◌+ℤ◌, ◌*ℤ◌, List, [], ◌∷◌, true}
use Rattle.std.proofs.Common.{false}
use lib.Dec.{leb}
use Rattle.exact_math.proofs.Ring.{Poly, at, lit, ◌⊕◌, ◌⊖◌, ◌⊗◌, minus, normal, Sum, none, more, Order, before, same}
use Rattle.exact_math.proofs.Ring.{after, order, put_var, join, put, add_term, add, scale, mul, same_order}
use Rattle.exact_math.specs.Fraction.{Fraction, ◌≈◌, whole, plus, opposite, times}
use Rattle.exact_math.proofs.Same.{same_refl, same_sym, same_trans, plus_cong, times_cong, opposite_cong, plus_assoc}
use Rattle.exact_math.proofs.Same.{plus_left_comm, zero_plus, plus_zero, times_assoc, times_left_comm, one_times}
use Rattle.exact_math.proofs.Same.{times_one, zero_times, times_to_zero, times_plus, plus_times, opposite-as_times}
use Rattle.exact_math.proofs.Same.{whole-plus, whole-times}

abbrev pub nth : List Fraction → ℕ → Fraction
nth [] n = whole (pos 0)
nth (x ∷ xs) zero = x
nth (x ∷ xs) (suc n) = nth xs n

abbrev pub value : List Fraction → Poly → Fraction
value ρ (at i) = nth ρ i
value ρ (lit c) = whole c
value ρ (p ⊕ q) = plus (value ρ p) (value ρ q)
value ρ (p ⊖ q) = plus (value ρ p) (opposite (value ρ q))
value ρ (p ⊗ q) = times (value ρ p) (value ρ q)
value ρ (minus p) = opposite (value ρ p)

unfoldable pub product : List Fraction → List ℕ → Fraction
product ρ [] = whole (pos 1)
product ρ (i ∷ m) = times (nth ρ i) (product ρ m)

unfoldable pub total : List Fraction → Sum → Fraction
total ρ none = whole (pos 0)
total ρ (more c m r) = plus (times (whole c) (product ρ m)) (total ρ r)

infixr 20 ◌then◌
◌then◌ : {a b c : Fraction} → a ≈ b → b ≈ c → a ≈ c
e then f = same_trans e f

left : {a b : Fraction} (c : Fraction) → a ≈ b → plus a c ≈ plus b c
left c e = plus_cong e (same_refl c)

right : {a b : Fraction} (c : Fraction) → a ≈ b → plus c a ≈ plus c b
right c e = plus_cong (same_refl c) e

left_factor : {a b : Fraction} (c : Fraction) → a ≈ b → times a c ≈ times b c
left_factor c e = times_cong e (same_refl c)

right_factor : {a b : Fraction} (c : Fraction) → a ≈ b → times c a ≈ times c b
right_factor c e = times_cong (same_refl c) e

product_put_var : (ρ : List Fraction) (i : ℕ) (m : List ℕ) → product ρ (put_var i m) ≈ times (nth ρ i) (product ρ m)
unfolding product
product_put_var ρ i [] = same_refl _
product_put_var ρ i (j ∷ m) =
    elim (leb i j) as (λ t. product ρ (elim t [ true ↦ i ∷ (j ∷ m) | false ↦ j ∷ put_var i m ]) ≈ times (nth ρ i)
    (times (nth ρ j) (product ρ m))) [
      | true ↦ same_refl _
      | false ↦ right_factor (nth ρ j) (product_put_var ρ i m) then times_left_comm (nth ρ j)
          (nth ρ i) (product ρ m)
    ]

product-join : (ρ : List Fraction) (m n : List ℕ) → product ρ (join m n) ≈ times (product ρ m) (product ρ n)
unfolding product
product-join ρ [] n = same_sym (one_times (product ρ n))
product-join ρ (i ∷ m) n = product_put_var ρ i (join m n) then right_factor (nth ρ i) (product-join ρ m n) then same_sym
    (times_assoc (nth ρ i) (product ρ m) (product ρ n))

total-put : (ρ : List Fraction) (c : ℤ) (m : List ℕ) (r : Sum)
    → total ρ (put c m r) ≈ plus (times (whole c) (product ρ m)) (total ρ r)
unfolding total
total-put ρ (pos zero) m r = same_sym (left (total ρ r) (zero_times (product ρ m)) then zero_plus (total ρ r))
total-put ρ (pos (suc k)) m r = same_refl _
total-put ρ (negsuc k) m r = same_refl _

total-add_term : (ρ : List Fraction) (c : ℤ) (m : List ℕ) (r : Sum)
    → total ρ (add_term c m r) ≈ plus (times (whole c) (product ρ m)) (total ρ r)
unfolding total
total-add_term ρ c m none = total-put ρ c m none
total-add_term ρ c m (more d n r) = by_order (order m n) refl (total-add_term ρ c m r)
  where
    by_order : (o : Order) → order m n ≡ o → total ρ (add_term c m r) ≈ plus (times (whole c) (product ρ m)) (total ρ r)
        → total ρ (elim o [
          | before ↦ put c m (more d n r)
          | same ↦ put (c +ℤ d) n r
          | after ↦ more d n
              (add_term c m r)
        ]) ≈ plus
        (times (whole c) (product ρ m)) (plus (times (whole d) (product ρ n)) (total ρ r))
    by_order before e rest = total-put ρ c m (more d n r)
    by_order same e rest =
        subst (λ x. total ρ (put (c +ℤ d) n r) ≈ plus (times (whole c) (product ρ x))
        (plus (times (whole d) (product ρ n)) (total ρ r)))
        (sym (same_order m n e))
        (total-put ρ (c +ℤ d) n r
        then left (total ρ r) (left_factor (product ρ n) (whole-plus c d) then plus_times (whole c) (whole d)
        (product ρ n))
        then plus_assoc (times (whole c) (product ρ n)) (times (whole d) (product ρ n)) (total ρ r))
    by_order after e rest =
        right (times (whole d) (product ρ n)) rest then plus_left_comm (times (whole d) (product ρ n))
        (times (whole c) (product ρ m)) (total ρ r)

total-add : (ρ : List Fraction) (p q : Sum) → total ρ (add p q) ≈ plus (total ρ p) (total ρ q)
unfolding total
total-add ρ none q = same_sym (zero_plus (total ρ q))
total-add ρ (more c m r) q =
    total-add_term ρ c m (add r q) then right (times (whole c) (product ρ m)) (total-add ρ r q) then same_sym
    (plus_assoc (times (whole c) (product ρ m)) (total ρ r) (total ρ q))

regroup : (c d x y : Fraction) → times (times c d) (times x y) ≈ times (times c x) (times d y)
regroup c d x y = times_assoc c d (times x y) then right_factor c (times_left_comm d x y)
    then same_sym (times_assoc c x (times d y))

total-scale : (ρ : List Fraction) (c : ℤ) (m : List ℕ) (p : Sum)
    → total ρ (scale c m p) ≈ times (times (whole c) (product ρ m)) (total ρ p)
unfolding total
total-scale ρ c m none = same_sym (times_to_zero (times (whole c) (product ρ m)))
total-scale ρ c m (more d n r) =
    total-add_term ρ (c *ℤ d) (join m n) (scale c m r)
    then plus_cong (times_cong (whole-times c d) (product-join ρ m n)) (total-scale ρ c m r)
    then left (times (times (whole c) (product ρ m)) (total ρ r))
    (regroup (whole c) (whole d) (product ρ m) (product ρ n))
    then same_sym (times_plus (times (whole c) (product ρ m)) (times (whole d) (product ρ n)) (total ρ r))

total-mul : (ρ : List Fraction) (p q : Sum) → total ρ (mul p q) ≈ times (total ρ p) (total ρ q)
unfolding total
total-mul ρ none q = same_sym (zero_times (total ρ q))
total-mul ρ (more c m r) q =
    total-add ρ (scale c m q) (mul r q) then plus_cong (total-scale ρ c m q) (total-mul ρ r q) then same_sym
    (plus_times (times (whole c) (product ρ m)) (total ρ r) (total ρ q))

total-negated : (ρ : List Fraction) (p : Sum) → total ρ (scale (negsuc 0) [] p) ≈ opposite (total ρ p)
unfolding product
total-negated ρ p = total-scale ρ (negsuc 0) [] p then left_factor (total ρ p) (times_one (whole (negsuc 0)))
    then opposite-as_times (total ρ p)

pub total-normal : (ρ : List Fraction) (p : Poly) → total ρ (normal p) ≈ value ρ p
unfolding total product
total-normal ρ (at i) = plus_zero (times (whole (pos 1)) (times (nth ρ i) (whole (pos 1))))
    then one_times (times (nth ρ i) (whole (pos 1))) then times_one
    (nth ρ i)
total-normal ρ (lit c) = total-put ρ c [] none then plus_zero (times (whole c) (whole (pos 1))) then times_one (whole c)
total-normal ρ (p ⊕ q) = total-add ρ (normal p) (normal q) then plus_cong (total-normal ρ p) (total-normal ρ q)
total-normal ρ (p ⊖ q) =
    total-add ρ (normal p) (scale (negsuc 0) [] (normal q))
    then plus_cong (total-normal ρ p) (total-negated ρ (normal q) then opposite_cong (total-normal ρ q))
total-normal ρ (p ⊗ q) = total-mul ρ (normal p) (normal q) then times_cong (total-normal ρ p) (total-normal ρ q)
total-normal ρ (minus p) = total-negated ρ (normal p) then opposite_cong (total-normal ρ p)

-- two polynomials of one normal form, which `refl` shows, have one value at all fractions
pub same_by : (ρ : List Fraction) (p q : Poly) → normal p ≡ normal q → value ρ p ≈ value ρ q
same_by ρ p q e = same_sym (total-normal ρ p) then subst (λ x. total ρ (normal p) ≈ total ρ x) e
    (same_refl (total ρ (normal p))) then total-normal ρ q
