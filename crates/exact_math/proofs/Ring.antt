-- Ring identities over ℤ by computation: a polynomial is written as a value of `Poly`, brought to a normal form, and
-- two polynomials with one normal form have one value at all numbers.
use Rattle.std.proofs.Common.{◌≡◌, ℕ, zero, suc, refl, sym, ap, ◌∙◌, arith, ℤ, pos, negsuc, ◌+ℤ◌, ◌*ℤ◌, ◌-ℤ◌, List, []}
use Rattle.std.proofs.Common.{◌∷◌, Bool, true, false}
use lib.Dec.{ltb, leb}
use borrow.Author.Tests.{ltb-false}
use lib.IntN.{neg_ℤ, +ℤ_assoc}
use Rattle.exact_math.proofs.IntLaws.{mul_assoc, mul_left_comm, mul_add, add_mul, add_left_comm, neg-as_mul, one_mul}
use Rattle.exact_math.proofs.IntLaws.{mul_one, zero_mul, mul_zero, add_zero, zero_add}

infixl 60 ◌⊕◌ ◌⊖◌
infixl 70 ◌⊗◌
pub data Poly : Type 0 where
  at : ℕ → Poly
  lit : ℤ → Poly
  ◌⊕◌ : Poly → Poly → Poly
  ◌⊖◌ : Poly → Poly → Poly
  ◌⊗◌ : Poly → Poly → Poly
  minus : Poly → Poly

abbrev pub nth : List ℤ → ℕ → ℤ
nth [] n = pos 0
nth (x ∷ xs) zero = x
nth (x ∷ xs) (suc n) = nth xs n

abbrev pub value : List ℤ → Poly → ℤ
value ρ (at i) = nth ρ i
value ρ (lit c) = c
value ρ (p ⊕ q) = value ρ p +ℤ value ρ q
value ρ (p ⊖ q) = value ρ p -ℤ value ρ q
value ρ (p ⊗ q) = value ρ p *ℤ value ρ q
value ρ (minus p) = neg_ℤ (value ρ p)

-- a sum of coefficients times products of variables, in order
pub data Sum : Type 0 where
  none : Sum
  more : ℤ → List ℕ → Sum → Sum

unfoldable pub product : List ℤ → List ℕ → ℤ
product ρ [] = pos 1
product ρ (i ∷ m) = nth ρ i *ℤ product ρ m

unfoldable pub total : List ℤ → Sum → ℤ
total ρ none = pos 0
total ρ (more c m r) = c *ℤ product ρ m +ℤ total ρ r

pub data Order : Type 0 where
  before : Order
  same : Order
  after : Order

abbrev pub order : List ℕ → List ℕ → Order
order [] [] = same
order [] (j ∷ n) = before
order (i ∷ m) [] = after
order (i ∷ m) (j ∷ n) = elim (ltb i j) [ true ↦ before | false ↦ elim (ltb j i) [ true ↦ after | false ↦ order m n ] ]

abbrev pub put_var : ℕ → List ℕ → List ℕ
put_var i [] = i ∷ []
put_var i (j ∷ m) = elim (leb i j) [ true ↦ i ∷ (j ∷ m) | false ↦ j ∷ put_var i m ]

abbrev pub join : List ℕ → List ℕ → List ℕ
join [] n = n
join (i ∷ m) n = put_var i (join m n)

abbrev pub put : ℤ → List ℕ → Sum → Sum
put (pos zero) m r = r
put (pos (suc k)) m r = more (pos (suc k)) m r
put (negsuc k) m r = more (negsuc k) m r

abbrev pub add_term : ℤ → List ℕ → Sum → Sum
add_term c m none = put c m none
add_term c m (more d n r) = elim (order m n) [
  | before ↦ put c m (more d n r)
  | same ↦ put (c +ℤ d) n r
  | after ↦ more d
      n (add_term c m r)
]

abbrev pub add : Sum → Sum → Sum
add none q = q
add (more c m r) q = add_term c m (add r q)

abbrev pub scale : ℤ → List ℕ → Sum → Sum
scale c m none = none
scale c m (more d n r) = add_term (c *ℤ d) (join m n) (scale c m r)

abbrev pub mul : Sum → Sum → Sum
mul none q = none
mul (more c m r) q = add (scale c m q) (mul r q)

abbrev pub normal : Poly → Sum
normal (at i) = more (pos 1) (i ∷ []) none
normal (lit c) = put c [] none
normal (p ⊕ q) = add (normal p) (normal q)
normal (p ⊖ q) = add (normal p) (scale (negsuc 0) [] (normal q))
normal (p ⊗ q) = mul (normal p) (normal q)
normal (minus p) = scale (negsuc 0) [] (normal p)

-- ---- the normal form has the polynomial's value
alike : (i j : ℕ) → ltb i j ≡ false → ltb j i ≡ false → i ≡ j
alike i j a b = omega (arith, ltb-false)

pair_up : (i j : ℕ) (m n : List ℕ) → i ≡ j → m ≡ n → (i ∷ m) ≡ (j ∷ n)
pair_up i j m n p q = cc

cons_order : (i j : ℕ) (m n : List ℕ) → (order m n ≡ same → m ≡ n) → (t : Bool) → ltb i j ≡ t → (u : Bool) → ltb j i ≡ u
    → elim t [ true ↦ before | false ↦ elim u [ true ↦ after | false ↦ order m n ] ] ≡ same → (i ∷ m) ≡ (j ∷ n)
cons_order i j m n rest true a u b e = absurd (cc)
cons_order i j m n rest false a true b e = absurd (cc)
cons_order i j m n rest false a false b e = pair_up i j m n (alike i j a b) (rest e)

pub same_order : (m n : List ℕ) → order m n ≡ same → m ≡ n
same_order [] [] e = refl
same_order [] (j ∷ n) e = absurd (cc)
same_order (i ∷ m) [] e = absurd (cc)
same_order (i ∷ m) (j ∷ n) e = cons_order i j m n (same_order m n) (ltb i j) refl (ltb j i) refl e

product_put_var : (ρ : List ℤ) (i : ℕ) (m : List ℕ) → product ρ (put_var i m) ≡ nth ρ i *ℤ product ρ m
unfolding product
product_put_var ρ i [] = refl
product_put_var ρ i (j ∷ m) =
    elim (leb i j) as (λ t. product ρ (elim t [ true ↦ i ∷ (j ∷ m) | false ↦ j ∷ put_var i m ]) ≡ nth ρ
    i *ℤ (nth ρ j *ℤ product ρ m)) [
      | true ↦ refl
      | false ↦ ap (λ x. nth ρ j *ℤ x) (product_put_var ρ i m) ∙ mul_left_comm (nth ρ j) (nth ρ i)
          (product ρ m)
    ]

product-join : (ρ : List ℤ) (m n : List ℕ) → product ρ (join m n) ≡ product ρ m *ℤ product ρ n
unfolding product
product-join ρ [] n = sym (one_mul (product ρ n))
product-join ρ (i ∷ m) n = product_put_var ρ i (join m n) ∙ ap (λ x. nth ρ i *ℤ x) (product-join ρ m n)
    ∙ sym (mul_assoc (nth ρ i) (product ρ m) (product ρ n))

total-put : (ρ : List ℤ) (c : ℤ) (m : List ℕ) (r : Sum) → total ρ (put c m r) ≡ c *ℤ product ρ m +ℤ total ρ r
unfolding total
total-put ρ (pos zero) m r = sym (ap (λ x. x +ℤ total ρ r) (zero_mul (product ρ m)) ∙ zero_add (total ρ r))
total-put ρ (pos (suc k)) m r = refl
total-put ρ (negsuc k) m r = refl

total-add_term : (ρ : List ℤ) (c : ℤ) (m : List ℕ) (r : Sum) → total ρ (add_term c m r) ≡ c *ℤ product ρ m +ℤ total ρ r
unfolding total
total-add_term ρ c m none = total-put ρ c m none
total-add_term ρ c m (more d n r) = by_order (order m n) refl (total-add_term ρ c m r)
  where
    by_order : (o : Order) → order m n ≡ o → total ρ (add_term c m r) ≡ c *ℤ product ρ m +ℤ total ρ r
        → total ρ (elim o [
          | before ↦ put c m (more d n r)
          | same ↦ put (c +ℤ d) n r
          | after ↦ more d n
              (add_term c m r)
        ]) ≡ c *ℤ product ρ m
        +ℤ (d *ℤ product ρ n +ℤ total ρ r)
    by_order before e rest = total-put ρ c m (more d n r)
    by_order same e rest =
        total-put ρ (c +ℤ d) n r ∙ ap (λ x. x +ℤ total ρ r) (add_mul c d (product ρ n)) ∙ +ℤ_assoc (c *ℤ product ρ n)
        (d *ℤ product ρ n) (total ρ r)
        ∙ ap (λ x. c *ℤ product ρ x +ℤ (d *ℤ product ρ n +ℤ total ρ r)) (sym (same_order m n e))
    by_order after e rest =
        ap (λ x. d *ℤ product ρ n +ℤ x) rest ∙ add_left_comm (d *ℤ product ρ n) (c *ℤ product ρ m) (total ρ r)

total-add : (ρ : List ℤ) (p q : Sum) → total ρ (add p q) ≡ total ρ p +ℤ total ρ q
unfolding total
total-add ρ none q = sym (zero_add (total ρ q))
total-add ρ (more c m r) q = total-add_term ρ c m (add r q) ∙ ap (λ x. c *ℤ product ρ m +ℤ x) (total-add ρ r q) ∙ sym
    (+ℤ_assoc (c *ℤ product ρ m) (total ρ r) (total ρ q))

regroup : (c d x y : ℤ) → (c *ℤ d) *ℤ (x *ℤ y) ≡ (c *ℤ x) *ℤ (d *ℤ y)
regroup c d x y = mul_assoc c d (x *ℤ y) ∙ ap (λ z. c *ℤ z) (mul_left_comm d x y) ∙ sym (mul_assoc c x (d *ℤ y))

total-scale : (ρ : List ℤ) (c : ℤ) (m : List ℕ) (p : Sum) → total ρ (scale c m p) ≡ (c *ℤ product ρ m) *ℤ total ρ p
unfolding total
total-scale ρ c m none = sym (mul_zero (c *ℤ product ρ m))
total-scale ρ c m (more d n r) =
    total-add_term ρ (c *ℤ d) (join m n) (scale c m r)
    ∙ (λ i. (c *ℤ d) *ℤ product-join ρ m n i +ℤ total-scale ρ c m r i)
    ∙ ap (λ x. x +ℤ (c *ℤ product ρ m) *ℤ total ρ r) (regroup c d (product ρ m) (product ρ n))
    ∙ sym (mul_add (c *ℤ product ρ m) (d *ℤ product ρ n) (total ρ r))

total-mul : (ρ : List ℤ) (p q : Sum) → total ρ (mul p q) ≡ total ρ p *ℤ total ρ q
unfolding total
total-mul ρ none q = sym (zero_mul (total ρ q))
total-mul ρ (more c m r) q =
    total-add ρ (scale c m q) (mul r q) ∙ (λ i. total-scale ρ c m q i +ℤ total-mul ρ r q i)
    ∙ sym (add_mul (c *ℤ product ρ m) (total ρ r) (total ρ q))

total-negated : (ρ : List ℤ) (p : Sum) → total ρ (scale (negsuc 0) [] p) ≡ neg_ℤ (total ρ p)
unfolding product
total-negated ρ p = total-scale ρ (negsuc 0) [] p ∙ ap (λ x. x *ℤ total ρ p) (mul_one (negsuc 0))
    ∙ sym (neg-as_mul (total ρ p))

pub total-normal : (ρ : List ℤ) (p : Poly) → total ρ (normal p) ≡ value ρ p
unfolding total product
total-normal ρ (at i) = add_zero (pos 1 *ℤ (nth ρ i *ℤ pos 1)) ∙ one_mul (nth ρ i *ℤ pos 1) ∙ mul_one (nth ρ i)
total-normal ρ (lit c) = total-put ρ c [] none ∙ add_zero (c *ℤ pos 1) ∙ mul_one c
total-normal ρ (p ⊕ q) = total-add ρ (normal p) (normal q) ∙ (λ i. total-normal ρ p i +ℤ total-normal ρ q i)
total-normal ρ (p ⊖ q) =
    total-add ρ (normal p) (scale (negsuc 0) [] (normal q))
    ∙ (λ i. total-normal ρ p i +ℤ (total-negated ρ (normal q) ∙ ap neg_ℤ (total-normal ρ q)) i)
total-normal ρ (p ⊗ q) = total-mul ρ (normal p) (normal q) ∙ (λ i. total-normal ρ p i *ℤ total-normal ρ q i)
total-normal ρ (minus p) = total-negated ρ (normal p) ∙ ap neg_ℤ (total-normal ρ p)

-- two polynomials of one normal form, which `refl` shows, are equal at all numbers
pub ring : (ρ : List ℤ) (p q : Poly) → normal p ≡ normal q → value ρ p ≡ value ρ q
ring ρ p q e = sym (total-normal ρ p) ∙ ap (total ρ) e ∙ total-normal ρ q
