-- Functions of an interval, one for each depth, that are narrower for a narrower interval and for a greater depth.
use Rattle.std.proofs.Common.{◌≡◌, ℕ, zero, suc, ◌+◌, ◌-◌, ◌≤◌, refl, subst, arith}
use Rattle.exact_math.specs.Interval.{Interval, IsProper, ◌⊆◌, sum, product, quotient}
use Rattle.exact_math.proofs.Intervals.{within_trans, within_refl, sum_within, product_within, quotient_within}
use Rattle.exact_math.proofs.Intervals.{plus_proper, product_proper, quotient_proper}

pub record Narrowing (f : ℕ → Interval → Interval) : Type 0 where
  pub proper : (n : ℕ) (i : Interval) → IsProper i → IsProper (f n i)
  pub within : (n : ℕ) {i j : Interval} → IsProper i → i ⊆ j → f n i ⊆ f n j
  pub deeper : (n : ℕ) (i : Interval) → IsProper i → f (suc n) i ⊆ f n i

pub narrows : (f : ℕ → Interval → Interval) → Narrowing f → (n : ℕ) {i j : Interval} → IsProper i → i ⊆ j
    → f (suc n) i ⊆ f n j
narrows f c n {i} {j} p h = within_trans (c.deeper n i p) (c.within n p h)

narrows_by : (f : ℕ → Interval → Interval) → Narrowing f → (k n m : ℕ) → m ≡ k + n → {i j : Interval} → IsProper i
    → i ⊆ j → f m i ⊆ f n j
narrows_by f c zero n m e {i} {j} p h = subst (λ x. f x i ⊆ f n j) (omega arith) (c.within n p h)
narrows_by f c (suc k) n m e {i} {j} p h = subst (λ x. f x i ⊆ f n j) (omega arith)
    (within_trans (c.deeper (k + n) i p) (narrows_by f c k n (k + n) refl p h))

-- at any greater depth
pub at_least : (f : ℕ → Interval → Interval) → Narrowing f → (n m : ℕ) → n ≤ m → {i j : Interval} → IsProper i → i ⊆ j
    → f m i ⊆ f n j
at_least f c n m l p h = narrows_by f c (m - n) n m (omega arith) p h

-- ---- what they are made of
pub compose : (f g : ℕ → Interval → Interval) → Narrowing f → Narrowing g → Narrowing (λ n i. f n (g n i))
compose f g c d = record {
  proper = λ n i p. c.proper n (g n i) (d.proper n i p);
  within = λ n {i} {j} p h. c.within n (d.proper n i p) (d.within n p h);
  deeper = λ n i p. narrows f c n (d.proper (suc n) i p) (d.deeper n i p);
}

pub argument : Narrowing (λ n i. i)
argument = record { proper = λ n i p. p; within = λ n {i} {j} p h. h; deeper = λ n i p. within_refl i }

pub steady : (c : Interval) → IsProper c → Narrowing (λ n i. c)
steady c q = record { proper = λ n i p. q; within = λ n {i} {j} p h. within_refl c; deeper = λ n i p. within_refl c }

pub sums : (f g : ℕ → Interval → Interval) → Narrowing f → Narrowing g → Narrowing (λ n i. sum (f n i) (g n i))
sums f g c d = record {
  proper = λ n i p. plus_proper (f n i) (g n i) (c.proper n i p) (d.proper n i p);
  within = λ n {i} {j} p h. sum_within (c.within n p h) (d.within n p h);
  deeper = λ n i p. sum_within (c.deeper n i p) (d.deeper n i p);
}

pub products : (f g : ℕ → Interval → Interval) → Narrowing f → Narrowing g → Narrowing (λ n i. product (f n i) (g n i))
products f g c d = record {
  proper = λ n i p. product_proper (f n i) (g n i) (c.proper n i p) (d.proper n i p);
  within = λ n {i} {j} p h. product_within (c.proper n i p) (d.proper n i p) (c.within n p h) (d.within n p h);
  deeper = λ n i p. product_within (c.proper (suc n) i p) (d.proper (suc n) i p) (c.deeper n i p) (d.deeper n i p);
}

pub quotients : (f g : ℕ → Interval → Interval) → Narrowing f → Narrowing g
    → Narrowing (λ n i. quotient (f n i) (g n i))
quotients f g c d = record {
  proper = λ n i p. quotient_proper (f n i) (g n i) (c.proper n i p) (d.proper n i p);
  within = λ n {i} {j} p h. quotient_within (c.proper n i p) (d.proper n i p) (c.within n p h) (d.within n p h);
  deeper = λ n i p. quotient_within (c.proper (suc n) i p) (d.proper (suc n) i p) (c.deeper n i p) (d.deeper n i p);
}

-- a step later
pub later : (f : ℕ → Interval → Interval) → Narrowing f → Narrowing (λ n. f (suc n))
later f c = record { proper = λ n. c.proper (suc n); within = λ n. c.within (suc n); deeper = λ n. c.deeper (suc n) }
