-- A polynomial at a whole number has one fraction for its value, and its decimals are that fraction.
use Rattle.std.specs.Prelude.{◌≡◌, ℕ, zero, suc, ◌+◌, ◌*◌, ◌^◌, ℤ, pos, ◌+ℤ◌, ◌*ℤ◌, ◌-ℤ◌, Bool, true, false, cond, List}
use Rattle.std.specs.Prelude.{length, slice_index_or, refl}
use Rattle.std.proofs.Common.{arith, ap, ◌∙◌, add-one, [], ◌∷◌}
use Rattle.std.proofs.lemmas.Int.{ints}
use Rattle.std.specs.Prelude.{Option, Some, None, SomeIff, IfSome}
use Rattle.exact_math.specs.Fraction.{Fraction, ◌≈◌, whole, plus, times, smaller, larger, is_at_most}
use Rattle.exact_math.specs.Interval.{sum, product, least, greatest}
use Rattle.exact_math.proofs.Ring.{at, lit, ◌⊗◌, ring}
use Rattle.exact_math.proofs.Same.{same_refl, same_sym, same_trans, plus_cong, times_cong}
use Rattle.book_model.specs.declared.frac.Frac.{Frac}
use Rattle.book_model.specs.sky.Correction.{int_power, no_fraction, polynomial_to, polynomial_of, seconds_of}
use Rattle.book_model.specs.declared.tables.TheConstants.{SECOND}
use Rattle.book_model.specs.numbers.Expressions.{World, value, exactly}
use Rattle.book_model.specs.numbers.Fractions.{fraction_of}
use Rattle.book_model.specs.sky.Plain.{decimal_11, seconds_11, exact_to, IsNumber}

choose_same : {A : Type 0} (t : Bool) (a : A) → cond t a a ≡ a
choose_same true a = refl
choose_same false a = refl

smaller_same : (a : Fraction) → smaller a a ≡ a
unfolding smaller
smaller_same a = choose_same (is_at_most a a) a

larger_same : (a : Fraction) → larger a a ≡ a
unfolding larger
larger_same a = choose_same (is_at_most a a) a

least_same : (a : Fraction) → least a a a a ≡ a
unfolding least
least_same a = rw (smaller_same a) (smaller_same a)

greatest_same : (a : Fraction) → greatest a a a a ≡ a
unfolding greatest
greatest_same a = rw (larger_same a) (larger_same a)

-- the product of two numbers
pub product_exactly : (a b : Fraction) → product (exactly a) (exactly b) ≡ exactly (times a b)
unfolding product
product_exactly a b = rw (least_same (times a b), greatest_same (times a b)) refl

pub sum_exactly : (a b : Fraction) → sum (exactly a) (exactly b) ≡ exactly (plus a b)
unfolding sum
sum_exactly a b = refl

-- the value of a polynomial at a whole number
pub polynomial_exactly : (w : World) (cs : List Frac) (x : ℤ) (n : ℕ) → value w (polynomial_to cs x n) ≡ exactly
    (exact_to cs x n)
unfolding value polynomial_to exact_to
polynomial_exactly w cs x zero = refl
polynomial_exactly w cs x (suc n) =
    rw (
      polynomial_exactly w cs x n,
      product_exactly (whole (int_power x n))
          (fraction_of (slice_index_or cs n no_fraction)),
    ) (sum_exactly _ _)

-- the next term of the sum
pub exact_more : (cs : List Frac) (x : ℤ) (n : ℕ) → exact_to cs x (n + 1)
    ≡ plus (exact_to cs x n) (times (whole (int_power x n)) (fraction_of (slice_index_or cs n no_fraction)))
unfolding exact_to
exact_more cs x n = rw add-one refl

pub exact_none : (cs : List Frac) (x : ℤ) → exact_to cs x 0 ≡ whole (pos 0)
unfolding exact_to
exact_none cs x = refl

-- decimals add up
decimals_add : (a b : ℤ) → decimal_11 (a +ℤ b) ≈ plus (decimal_11 a) (decimal_11 b)
unfolding plus
decimals_add a b = record { cross = omega (arith, ints) }

pub decimals_more : (a b : ℤ) (e f : Fraction) → decimal_11 a ≈ e → decimal_11 b ≈ f → decimal_11 (a +ℤ b) ≈ plus e f
decimals_more a b e f h k = same_trans (decimals_add a b) (plus_cong h k)

pub decimal_zero : decimal_11 (pos 0) ≈ whole (pos 0)
decimal_zero = record { cross = refl }

-- a number of 10^-11 seconds is ΔT in days
pub seconds_exactly : (w : World) (cs : List Frac) (origin y n : ℤ) → decimal_11 n ≈ exact_to cs (y -ℤ origin)
    (length cs)
    → IsNumber (seconds_11 n) (value w (seconds_of cs origin y))
unfolding value seconds_of polynomial_of times
seconds_exactly w cs origin y n h =
    let s : times (exact_to cs (y -ℤ origin) (length cs)) (fraction_of SECOND) ≈ seconds_11 n = same_trans
    (times_cong (same_sym h) (same_refl (fraction_of SECOND))) (in_days n) in
    rw (
      polynomial_exactly w cs (y -ℤ origin) (length cs),
      product_exactly (exact_to cs (y -ℤ origin) (length cs))
          (fraction_of SECOND),
    ) (s, s)
  where
    in_days : (n : ℤ) → times (decimal_11 n) (fraction_of SECOND) ≈ seconds_11 n
    in_days n = record {
      cross = ring (n ∷ []) ((at 0 ⊗ lit (pos 1)) ⊗ lit (pos 8640000000000000))
          (at 0 ⊗ lit (pos 8640000000000000)) refl;
    }

-- a coefficient of this many units, times a power
pub term_is : (num p n : ℤ) (q b : ℕ) → n ≡ (num *ℤ pos q) *ℤ p → q * suc b ≡ 10 ^ 11
    → decimal_11 n ≈ times (whole p) (record { num = num; below = b })
unfolding times
term_is num p n q b e f =
    let g : pos q *ℤ pos (suc b) ≡ pos (10 ^ 11) = ap pos f in
    let z : 0 * b + 0 + b ≡ b = omega arith in
    record {
      cross = rw z
          (ap (λ t. t *ℤ pos (suc b)) e
          ∙ ring (num ∷ p ∷ pos q ∷ pos (suc b) ∷ []) (((at 0 ⊗ at 2) ⊗ at 1) ⊗ at 3) ((at 1 ⊗ at 0) ⊗ (at 2 ⊗ at 3))
          refl
          ∙ ap (λ t. (p *ℤ num) *ℤ t) g);
    }

-- what holds of a checked value holds where there is one
pub checked_holds : {T : Type 0} (o : Option T) (P : Type 0) (v : T) (Q : T → Type 0) → SomeIff o P v
    → ((n : T) → n ≡ v → Q n) → IfSome o Q
checked_holds None P v Q h f = tt
checked_holds (Some n) P v Q h f = f n h.1

-- what follows of a value follows where there is one
pub some_weaker : {T : Type 0} (o : Option T) (P Q : T → Type 0) → ((n : T) → P n → Q n) → IfSome o P → IfSome o Q
some_weaker None P Q f h = tt
some_weaker (Some n) P Q f h = f n h
