-- Scaling twice is scaling once, by the product of the two fractions. It is proved of members: a number of the interval
-- times the one and then the other fraction is the number times their product, and what holds it for all members holds
-- the scaled interval. So a rate a century times days in centuries is a rate a day times days, and the unit of the
-- sun's terms may be applied in two steps.
use Rattle.std.proofs.Common.{arith, ◌≡◌, ◌<◌, ◌*◌, ◌-◌, suc, refl, ℤ, [], ◌∷◌}
use Rattle.book_model.specs.Fraction.{Fraction, ◌≈◌, times, below_product}
use Rattle.book_model.specs.Interval.{Interval, everything, between, IsProper, IsMember, ◌⊆◌, product, least, greatest}
use Rattle.book_model.proofs.FractionRing.{same_by}
use Rattle.book_model.proofs.Fractions.{le_refl, le_trans}
use Rattle.book_model.proofs.IntLaws.{one_mul}
use Rattle.book_model.proofs.Intervals.{product_holds, least_is, greatest_is, least_keeps, greatest_keeps, within_trans}
use Rattle.book_model.proofs.Intervals.{within_refl, within_everything, sum_within}
use Rattle.book_model.proofs.Ring.{at, ◌⊗◌}
use Rattle.book_model.proofs.Same.{same_trans, same_refl, same_sym, times_cong, le_of_same, ge_of_same}
use Rattle.book_model.specs.declared.frac.Frac.{Frac}
use Rattle.book_model.specs.declared.sun_tables.TheConstants.{SUN_UNIT_COARSELY, SUN_UNIT_FINELY}
use Rattle.book_model.specs.declared.time_tables.TheConstants.{DAY_IN_CENTURIES}
use Rattle.book_model.specs.numbers.Expressions.{Expression, World, value, exactly, add, scale}
use Rattle.book_model.specs.numbers.Fractions.{fraction_of, ten_millionths, daily_ten_millionths}
use Rattle.book_model.specs.numbers.Relations.{Within, Lies}
use Rattle.book_model.specs.sky.Sun.{sun_unit}
use Rattle.book_model.proofs.Values.{value_proper}

-- a number of the value of a member is a member
pub same_member : (i : Interval) (x y : Fraction) → x ≈ y → IsMember x i → IsMember y i
same_member everything x y e h = tt
same_member (between a b) x y e h = (le_trans _ _ _ h.0 (le_of_same e), le_trans _ _ _ (ge_of_same e) h.1)

-- the product of a member with one number, and then with the other
twice_member : (i : Interval) (a b f x : Fraction) → times a b ≈ f → IsMember x i
    → IsMember (times x f) (product (product i (exactly a)) (exactly b))
twice_member i a b f x e m =
    let first = product_holds i (exactly a) x a m (le_refl a, le_refl a) in
    let second = product_holds (product i (exactly a)) (exactly b) (times x a) b first (le_refl b, le_refl b) in
    let same : times (times x a) b ≈ times x f =
    same_trans (same_by (x ∷ a ∷ b ∷ []) ((at 0 ⊗ at 1) ⊗ at 2) (at 0 ⊗ (at 1 ⊗ at 2)) refl)
    (times_cong (same_refl x) e) in
    same_member (product (product i (exactly a)) (exactly b)) (times (times x a) b) (times x f) same second

-- an interval that holds the product of each member with a number holds the product with that number
pub product_in : (i j : Interval) (f : Fraction) → IsProper i → ((x : Fraction) → IsMember x i → IsMember (times x f) j)
    → (i ≡ everything → j ≡ everything)
    → product i (exactly f) ⊆ j
unfolding product
product_in everything j f p h e = rw (e refl) (within_everything everything)
product_in (between a b) everything f p h e = within_everything _
product_in (between a b) (between c d) f p h e =
    let l = h a (le_refl a, p) in
    let u = h b (p, le_refl b) in
    record { endpoints = (least_is c _ _ _ _ l.0 l.0 u.0 u.0, greatest_is d _ _ _ _ l.1 l.1 u.1 u.1) }

whole_twice : (i : Interval) (a b : Fraction) → i ≡ everything → product (product i (exactly a)) (exactly b)
    ≡ everything
unfolding product
whole_twice i a b e = rw e refl

-- a product with the product of two numbers lies within that with one and then the other
pub twice_within : (i : Interval) (a b f : Fraction) → IsProper i → times a b ≈ f
    → product i (exactly f) ⊆ product (product i (exactly a)) (exactly b)
twice_within i a b f p e = product_in i (product (product i (exactly a)) (exactly b)) f p
    (λ x m. twice_member i a b f x e m) (whole_twice i a b)

-- what holds an expression scaled by two fractions holds it scaled by their product
scaled_holds : {E : Type 0} (shown : E → Interval) (w : World) (x : Expression) (a b f : Fraction) (e : E)
    → times a b ≈ f
    → Within shown w (scale b (scale a x)) e → Within shown w (scale f x) e
unfolding Lies value
scaled_holds shown w x a b f e s h =
    record { deep = h.deep; inside = within_trans (twice_within (value w x) a b f (value_proper w x) s) h.inside }

-- the two factors of the unit of the sun's periodic terms
unit_is : times (fraction_of SUN_UNIT_COARSELY) (fraction_of SUN_UNIT_FINELY) ≈ sun_unit
unfolding times
unit_is = record { cross = refl }

-- what holds an expression scaled by both factors of the unit holds it scaled by the unit
pub unit_holds : {E : Type 0} (shown : E → Interval) (w : World) (x : Expression) (e : E)
    → Within shown w (scale (fraction_of SUN_UNIT_FINELY) (scale (fraction_of SUN_UNIT_COARSELY) x)) e
    → Within shown w (scale sun_unit x) e
unit_holds shown w x e h = scaled_holds shown w x (fraction_of SUN_UNIT_COARSELY) (fraction_of SUN_UNIT_FINELY) sun_unit
    e unit_is h

-- the product of a member with one number and then with another, where an interval holds the product with both
once_member : (i : Interval) (a b f x : Fraction) → times a b ≈ f → IsMember x i
    → IsMember (times (times x a) b) (product i (exactly f))
once_member i a b f x e m =
    let same : times (times x a) b ≈ times x f =
    same_trans (same_by (x ∷ a ∷ b ∷ []) ((at 0 ⊗ at 1) ⊗ at 2) (at 0 ⊗ (at 1 ⊗ at 2)) refl)
    (times_cong (same_refl x) e) in
    same_member (product i (exactly f)) (times x f) (times (times x a) b) (same_sym same)
    (product_holds i (exactly f) x f m (le_refl f, le_refl f))

-- the endpoints of a product, times a number, in an interval of endpoints
endpoints_within : (p q b : Fraction) (j : Interval) → IsMember (times p b) j → IsMember (times q b) j
    → product (between p q) (exactly b) ⊆ j
unfolding product
endpoints_within p q b everything hp hq = within_everything _
endpoints_within p q b (between c d) hp hq =
    record { endpoints = (least_is c _ _ _ _ hp.0 hp.0 hq.0 hq.0, greatest_is d _ _ _ _ hp.1 hp.1 hq.1 hq.1) }

-- scaling by two numbers, one after the other, lies within scaling by their product
pub once_within : (i : Interval) (a b f : Fraction) → IsProper i → times a b ≈ f
    → product (product i (exactly a)) (exactly b) ⊆ product i (exactly f)
unfolding product
once_within everything a b f p e = within_everything _
once_within (between l u) a b f p e =
    let P : Fraction → Type 0 = λ z. IsMember (times z b) (product (between l u) (exactly f)) in
    let hl = once_member (between l u) a b f l e (le_refl l, p) in
    let hu = once_member (between l u) a b f u e (p, le_refl u) in
    endpoints_within (least (times l a) (times l a) (times u a) (times u a))
    (greatest (times l a) (times l a) (times u a) (times u a)) b
    (product (between l u) (exactly f))
    (least_keeps P _ _ _ _ hl hl hu hu) (greatest_keeps P _ _ _ _ hl hl hu hu)

-- what holds an expression scaled by the product of two fractions holds it scaled by both
pub both_hold : {E : Type 0} (shown : E → Interval) (w : World) (x : Expression) (a b f : Fraction) (e : E)
    → times a b ≈ f → Within shown w (scale f x) e
    → Within shown w (scale b (scale a x)) e
unfolding Lies value
both_hold shown w x a b f e s h =
    record { deep = h.deep; inside = within_trans (once_within (value w x) a b f (value_proper w x) s) h.inside }

-- the same where another expression is added
pub both_hold_in_sum : {E : Type 0} (shown : E → Interval) (w : World) (k x : Expression) (a b f : Fraction) (e : E)
    → times a b ≈ f
    → Within shown w (add k (scale f x)) e → Within shown w (add k (scale b (scale a x))) e
unfolding Lies value
both_hold_in_sum shown w k x a b f e s h = record {
  deep = h.deep;
  inside = within_trans (sum_within (within_refl (value w k)) (once_within (value w x) a b f (value_proper w x) s))
      h.inside;
}

-- ten-millionths a century are the same a day, times the days of a century
pub daily_ten_millionths_are : (n : ℤ) → times (fraction_of DAY_IN_CENTURIES) (ten_millionths n) ≈ daily_ten_millionths
    n
unfolding times
daily_ten_millionths_are n = record { cross = rw (one_mul n) refl }

-- a rate a century is a rate a day, times the days of a century
pub daily_is : (f g : Frac) → g.num ≡ f.num → g.den ≡ f.den * 36525 → 0 < f.den
    → times (fraction_of DAY_IN_CENTURIES) (fraction_of f) ≈ fraction_of g
unfolding times
daily_is f g n d p =
    let a : suc (g.den - 1) ≡ f.den * 36525 = omega (arith) in
    let b : suc (below_product 36524 (f.den - 1)) ≡ f.den * 36525 = omega (arith) in
    record { cross = rw n (rw a (rw b (rw (one_mul f.num) refl))) }
