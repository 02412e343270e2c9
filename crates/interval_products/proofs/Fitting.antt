-- Where 128 bits have no room, no bound is promised. By cases of the scale: in 64 bits there is always room; at the
-- finer scale a bound that is promised has a range below its limits, the endpoints lie in it (`sized`), and so their
-- products, quotients and roots are below what 128 bits hold, against the premise that there was no room.
use Rattle.std.proofs.Common.{◌≡◌, ℕ, zero, suc, ◌*◌, ◌^◌, ◌≤◌, ◌<◌, ◌-◌, arith, refl, sym, Bool, true, false, ◌&&◌}
use Rattle.std.proofs.Common.{nat_lt, ℤ, pos, negsuc, ◌*ℤ◌, ◌-ℤ◌, ◌≤ℤ◌, ◌<ℤ◌, SFits, inl, inr}
use Rattle.std.specs.Int.{w128}
use Rattle.std.proofs.Math.Nat.{mul-le-mul_right}
use Rattle.std.proofs.lemmas.Int.{ints}
use Rattle.std.proofs.lemmas.Bool.{ltb-true}
use lib.Signed.{≤ℤ_refl}
use Rattle.book_model.specs.Interval.{Interval, between}
use Rattle.book_model.specs.numbers.Bounds.{Bound, unbounded, bounded, range_size, ceil_div, limited, product_bound}
use Rattle.book_model.specs.numbers.Bounds.{power_bound, root_bound, quotient_bound, IsNarrow}
use Rattle.interval_endpoints.specs.Rounding.{IsLeastBy, IsGreatestBy}
use Rattle.interval_endpoints.specs.Scales.{Scale, coarse, fine, at_scale, limits_on, word}
use Rattle.interval_endpoints.proofs.Keeping.{AreKept, kept_of, both}
use Rattle.interval_endpoints.proofs.Products.{IsBounded, corner_sized, sized, ceil_above}
use Rattle.interval_products.specs.Room.{HaveProducts, IsDividend, AreDividends, HasQuotient, HasFineQuotient}
use Rattle.interval_products.specs.Room.{HaveQuotients, HaveFineQuotients, HaveOpposites, HaveQuotientsBy, HasRoot}

-- an endpoint may be divided, and so may its opposite
end_divides : (scale : Scale) (n a : ℤ) → SFits (word scale) n → a ≡ n → IsDividend scale a
end_divides coarse n a f e = record { above = omega (arith, ints, f, e); below = omega (arith, ints, f, e) }
end_divides fine n a f e = record { above = omega (arith, ints, f, e); below = omega (arith, ints, f, e) }

opposite_divides : (scale : Scale) (n a : ℤ) → SFits (word scale) n → a ≡ pos 0 -ℤ n → IsDividend scale a
opposite_divides coarse n a f e = record { above = omega (arith, ints, f, e); below = omega (arith, ints, f, e) }
opposite_divides fine n a f e = record { above = omega (arith, ints, f, e); below = omega (arith, ints, f, e) }

-- the same of two in order
pub endpoints_divide : (scale : Scale) (n m a b : ℤ) → SFits (word scale) n → SFits (word scale) m → n ≤ℤ m → a ≡ n
    → b ≡ m
    → AreDividends scale a b
endpoints_divide scale n m a b f g o e d = record {
  ordered = omega (arith, ints, o, e, d);
  first = end_divides scale n a f e;
  last = end_divides scale m b g d;
}

pub opposites_divide : (scale : Scale) (n m a b : ℤ) → SFits (word scale) n → SFits (word scale) m → n ≤ℤ m
    → a ≡ pos 0 -ℤ m → b ≡ pos 0 -ℤ n → AreDividends scale a b
opposites_divide scale n m a b f g o e d = record {
  ordered = omega (arith, ints, o, e, d);
  first = opposite_divides scale m a g e;
  last = opposite_divides scale n b f d;
}

roomy : (A B Z : ℕ) (p : ℤ) → IsBounded p ((pos (2 ^ 24) *ℤ pos A) *ℤ (pos (2 ^ 24) *ℤ pos B)) → A * B ≤ Z * 2 ^ 32
    → Z < 2 ^ 46 → SFits w128 p
roomy A B Z p h k l = omega (arith, ints, h.above, h.below, k, l)

-- endpoints that keep a bound
kept : (a b : ℤ) (s k w : ℕ) (x y : ℤ) → IsNarrow w (bounded a b s k) (between (at_scale fine x) (at_scale fine y))
    → AreKept fine a b s k w x y
unfolding IsNarrow
kept a b s k w x y h = kept_of fine a b s k w x y h

pub product_overflow : (scale : Scale) (w : ℕ) (p q : Bound) (x y c d : ℤ) (i : Interval) → x ≤ℤ y → c ≤ℤ d
    → IsNarrow w p (between (at_scale scale x) (at_scale scale y))
    → IsNarrow w q (between (at_scale scale c) (at_scale scale d))
    → (HaveProducts scale x y c d → ⊥)
    → IsNarrow w (product_bound (limits_on scale) p q) i
unfolding product_bound IsNarrow
product_overflow coarse w p q x y c d i o r h k n =
    absurd (n (record { first = tt; second = tt; third = tt; fourth = tt }))
product_overflow fine w unbounded q x y c d i o r h k n = tt
product_overflow fine w (bounded a b s t) unbounded x y c d i o r h k n = tt
product_overflow fine w (bounded a b s t) (bounded a' b' s' t') x y c d i o r h k n = by_test _ _ _ refl
  where
    by_test : (t r : Bool) (p : Bound)
        → t ≡ (r && nat_lt (ceil_div (range_size a b * range_size a' b') (2 ^ 32 - 1)) (2 ^ 46))
        → IsNarrow w (limited t p) i
    by_test false r p e = tt
    by_test true r1 p e =
        let z = sized fine a b s t w x y (kept a b s t w x y h) in
        let z' = sized fine a' b' s' t' w c d (kept a' b' s' t' w c d k) in
        let l = ltb-true _ _ (both _ _ (sym e)).1 in
        let at_corner = λ (p1 l1 : ℤ) (xp : x ≤ℤ p1) (py : p1 ≤ℤ y) (cl : c ≤ℤ l1) (ld : l1 ≤ℤ d).
        roomy (range_size a b) (range_size a' b') _ (p1 *ℤ l1) (corner_sized fine (range_size a b) (range_size a' b') x
        y c d p1 l1 o r z z' xp py cl ld)
        (ceil_above (range_size a b * range_size a' b') (2 ^ 32 - 1)) l in
        absurd (n (record {
          first = at_corner x c (≤ℤ_refl x) o (≤ℤ_refl c) r;
          second = at_corner x d (≤ℤ_refl x) o r (≤ℤ_refl d);
          third = at_corner y c o (≤ℤ_refl y) (≤ℤ_refl c) r;
          fourth = at_corner y d o (≤ℤ_refl y) r (≤ℤ_refl d);
        }))

pub square_overflow : (scale : Scale) (w : ℕ) (p : Bound) (x y : ℤ) (i : Interval) → x ≤ℤ y
    → IsNarrow w p (between (at_scale scale x) (at_scale scale y))
    → (HaveProducts scale x y x y → ⊥) → IsNarrow w (power_bound (limits_on scale) p 2) i
unfolding power_bound IsNarrow
square_overflow coarse w p x y i o h n = absurd (n (record { first = tt; second = tt; third = tt; fourth = tt }))
square_overflow fine w unbounded x y i o h n = tt
square_overflow fine w (bounded a b s t) x y i o h n = by_test _ _ _ refl
  where
    by_test : (t r : Bool) (p : Bound)
        → t ≡ (r && nat_lt (ceil_div (range_size a b * range_size a b) (2 ^ 32 - 1)) (2 ^ 46))
        → IsNarrow w (limited t p) i
    by_test false r p e = tt
    by_test true r1 p e =
        let z = sized fine a b s t w x y (kept a b s t w x y h) in
        let l = ltb-true _ _ (both _ _ (sym e)).1 in
        let at_corner = λ (p1 l1 : ℤ) (xp : x ≤ℤ p1) (py : p1 ≤ℤ y) (cl : x ≤ℤ l1) (ld : l1 ≤ℤ y).
        roomy (range_size a b) (range_size a b) _ (p1 *ℤ l1) (corner_sized fine (range_size a b) (range_size a b) x y x
        y p1 l1 o o z z xp py cl ld)
        (ceil_above _ (2 ^ 32 - 1)) l in
        absurd (n (record {
          first = at_corner x x (≤ℤ_refl x) o (≤ℤ_refl x) o;
          second = at_corner x y (≤ℤ_refl x) o o (≤ℤ_refl y);
          third = at_corner y x o (≤ℤ_refl y) (≤ℤ_refl x) o;
          fourth = at_corner y y o (≤ℤ_refl y) o (≤ℤ_refl y);
        }))

pub root_overflow : (scale : Scale) (w : ℕ) (p : Bound) (x y : ℤ) (i : Interval)
    → IsNarrow w p (between (at_scale scale x) (at_scale scale y))
    → (HasRoot scale y → ⊥) → IsNarrow w (root_bound (limits_on scale) p) i
unfolding root_bound IsNarrow
root_overflow coarse w p x y i h n = absurd (n tt)
root_overflow fine w unbounded x y i h n = tt
root_overflow fine w (bounded (negsuc a) b s k) x y i h n = tt
root_overflow fine w (bounded (pos a) (negsuc b) s k) x y i h n = tt
root_overflow fine w (bounded (pos a) (pos zero) s k) x y i h n = let m = kept (pos a) (pos zero) s k w x y h in
    absurd (n (omega (arith, ints, m.below)))
root_overflow fine w (bounded (pos a) (pos (suc b)) s k) x y i h n = by_test _ _ _ refl
  where
    by_test : (t r : Bool) (p : Bound) → t ≡ (r && nat_lt (suc b) (2 ^ 46)) → IsNarrow w (limited t p) i
    by_test false r p e = tt
    by_test true r p e =
        let l : suc b < 2 ^ 46 = ltb-true _ _ (both _ _ (sym e)).1 in
        let m = kept (pos a) (pos (suc b)) s k w x y h in
        absurd (n (omega (arith, ints, l, m.below)))

-- the quotients by which the least and the greatest are taken have room where all have
first_fine : (a b c d p : ℤ) → a ≤ℤ b → c ≤ℤ d → IsLeastBy a c d p → HaveFineQuotients a b c d → HasFineQuotient a p
first_fine a b c d p o k (inl l) r = record {
  divisor = omega (arith, ints, k, l.1, r.divisor);
  above = omega (arith, ints, k, l.1, r.above);
  below = omega (arith, ints, k, l.1, o, r.below);
}
first_fine a b c d p o k (inr l) r = record {
  divisor = omega (arith, ints, k, l.1, r.divisor);
  above = omega (arith, ints, k, l.1, r.above);
  below = omega (arith, ints, k, l.1, o, r.below, r.divisor);
}

last_fine : (a b c d p : ℤ) → a ≤ℤ b → c ≤ℤ d → IsGreatestBy b c d p → HaveFineQuotients a b c d → HasFineQuotient b p
last_fine a b c d p o k (inl l) r = record {
  divisor = omega (arith, ints, k, l.1, r.divisor);
  above = omega (arith, ints, k, l.1, o, r.above);
  below = omega (arith, ints, k, l.1, r.below);
}
last_fine a b c d p o k (inr l) r = record {
  divisor = omega (arith, ints, k, l.1, r.divisor);
  above = omega (arith, ints, k, l.1, o, r.above);
  below = omega (arith, ints, k, l.1, r.below);
}

pub first_has : (scale : Scale) (a b c d p : ℤ) → a ≤ℤ b → c ≤ℤ d → IsLeastBy a c d p → HaveQuotients scale a b c d
    → HasQuotient scale a p
first_has coarse a b c d p o k l r = tt
first_has fine a b c d p o k l r = first_fine a b c d p o k l r

pub last_has : (scale : Scale) (a b c d p : ℤ) → a ≤ℤ b → c ≤ℤ d → IsGreatestBy b c d p → HaveQuotients scale a b c d
    → HasQuotient scale b p
last_has coarse a b c d p o k l r = tt
last_has fine a b c d p o k l r = last_fine a b c d p o k l r

-- by a divisor above 0, and by one below 0
pub by_positive : (scale : Scale) (x y c d : ℤ) → c ≤ℤ d → pos 0 <ℤ c → HaveQuotientsBy scale x y c d
    → HaveQuotients scale x y c d
by_positive scale x y c d o h (inl t) = t.1
by_positive scale x y c d o h (inr t) = absurd (let l = t.0 in omega (arith, ints, o, h, l))

pub by_negative : (scale : Scale) (x y c d : ℤ) → c ≤ℤ d → d <ℤ pos 0 → HaveQuotientsBy scale x y c d
    → HaveOpposites x y c d
    × HaveQuotients scale (pos 0 -ℤ y) (pos 0 -ℤ x) (pos 0 -ℤ d) (pos 0 -ℤ c)
by_negative scale x y c d o h (inl t) = absurd (let l = t.0 in omega (arith, ints, o, h, l))
by_negative scale x y c d o h (inr t) = t.1

-- the lesser of two endpoints has a root where the greater has one
pub lesser_root : (scale : Scale) (x y : ℤ) → x ≤ℤ y → HasRoot scale y → HasRoot scale x
lesser_root coarse x y o h = tt
lesser_root fine x y o h = omega (arith, ints, o, h)

-- a quotient of sizes that the scale bears has room
by_ratio : (A Z g : ℕ) (c : ℤ) → A * 2 ^ 32 ≤ Z * suc g → Z < 2 ^ 100 → (pos (2 ^ 24) *ℤ pos (suc g)) ≤ℤ c
    → (pos (2 ^ 24) *ℤ pos A) ≤ℤ (pos (2 ^ 69) *ℤ c)
by_ratio A Z g c h k l =
    let m : Z * suc g ≤ 2 ^ 100 * suc g = mul-le-mul_right (suc g) (omega (arith, k)) in
    omega (arith, ints, h, m, l)

pub quotient_overflow : (scale : Scale) (w : ℕ) (p q : Bound) (x y c d : ℤ) (i : Interval)
    → IsNarrow w p (between (at_scale scale x) (at_scale scale y))
    → IsNarrow w q (between (at_scale scale c) (at_scale scale d)) → (HaveQuotients scale x y c d → ⊥)
    → IsNarrow w (quotient_bound (limits_on scale) p q) i
unfolding quotient_bound IsNarrow
quotient_overflow coarse w p q x y c d i h o n = absurd (n tt)
quotient_overflow fine w unbounded q x y c d i h o n = tt
quotient_overflow fine w (bounded a b s t) unbounded x y c d i h o n = tt
quotient_overflow fine w (bounded a b s t) (bounded (pos zero) b' s' t') x y c d i h o n = tt
quotient_overflow fine w (bounded a b s t) (bounded (negsuc a') b' s' t') x y c d i h o n = tt
quotient_overflow fine w (bounded a b s t) (bounded (pos (suc g)) b' s' t') x y c d i h o n = by_test _ _ refl
  where
    by_test : (t : Bool) (p : Bound)
        → t ≡ (nat_lt (ceil_div (range_size a b * 2 ^ 32) g) (2 ^ 100) && nat_lt (range_size (pos (suc g)) b') (2 ^ 46))
        → IsNarrow w (limited t p) i
    by_test false p e = tt
    by_test true p e =
        let k = both _ _ (sym e) in
        let l : ceil_div (range_size a b * 2 ^ 32) g < 2 ^ 100 = ltb-true _ _ k.0 in
        let m : range_size (pos (suc g)) b' < 2 ^ 46 = ltb-true _ _ k.1 in
        let u = kept (pos (suc g)) b' s' t' w c d o in
        let z = sized fine a b s t w x y (kept a b s t w x y h) in
        let v = sized fine (pos (suc g)) b' s' t' w c d u in
        let r = by_ratio (range_size a b) _ g c (ceil_above (range_size a b * 2 ^ 32) g) l
        (omega (arith, ints, u.above)) in
        absurd (n (record {
          divisor = omega (arith, ints, m, v.below);
          above = omega (arith, ints, r, z.above);
          below = omega (arith, ints, r, z.below);
        }))
