-- What is computed in another order than the definition's holds the definition's number. Each operation on intervals
-- gives the smallest that holds the results of all members, so for each endpoint it is enough that the two orders give
-- one fraction.
use Rattle.std.proofs.Common.{arith, ◌≡◌, ◌<◌, ◌*◌, ◌+◌, ◌-◌, ℕ, zero, suc, refl, ℤ, pos, negsuc, ◌*ℤ◌, ◌+ℤ◌, ◌-ℤ◌, []}
use Rattle.std.proofs.Common.{◌∷◌, Bool, true, false, cond}
use Rattle.std.proofs.lemmas.Int.{ints}
use lib.IntN.{neg_ℤ}
use lib.Signed.{lt_z}
use Rattle.book_model.specs.Fraction.{Fraction, ◌≤F◌, ◌≈◌, whole, plus, opposite, times, reciprocal, below_product}
use Rattle.book_model.specs.Interval.{Interval, everything, between, IsProper, IsMember, ◌⊆◌, sum, negative, product}
use Rattle.book_model.specs.Interval.{quotient, least, greatest, excludes_zero}
use Rattle.book_model.proofs.Fractions.{le_refl, le_trans, IsPositive, IsNegative, positive_above, negative_below}
use Rattle.book_model.proofs.Intervals.{sum_holds, product_holds, quotient_holds, positive_excludes, negative_excludes}
use Rattle.book_model.proofs.Intervals.{least_is, greatest_is, least_keeps, greatest_keeps, within_trans, within_refl}
use Rattle.book_model.proofs.Intervals.{within_everything, sum_within, negative_within}
use Rattle.book_model.proofs.Ring.{ring, at, lit, ◌⊗◌}
use Rattle.book_model.proofs.Same.{same_trans, same_refl, same_sym, plus_cong, plus_assoc, times_assoc, times_cong}
use Rattle.book_model.proofs.Same.{plus_times, le_of_same, ge_of_same}
use Rattle.book_model.specs.declared.fact.Place.{Place}
use Rattle.book_model.specs.declared.frac.Frac.{Frac}
use Rattle.book_model.specs.declared.time_tables.TheConstants.{HOUR}
use Rattle.book_model.specs.numbers.Expressions.{Expression, World, value, exactly, integer, constant, add, scale}
use Rattle.book_model.specs.numbers.Expressions.{divide, cosine}
use Rattle.book_model.specs.numbers.Fractions.{fraction_of}
use Rattle.book_model.specs.numbers.Relations.{Within, Lies}
use Rattle.book_model.specs.sky.Time.{midnight_of, zone_on}
use Rattle.book_model.proofs.Arcs.{arcsines_nest}
use Rattle.book_model.proofs.Values.{value_proper}
use Rattle.moon_core.proofs.Scalings.{same_member}
use Rattle.moon_rise.specs.Computed.{mean_kilometres, kilometre_in_radii, computed_parallax_of, shift_of}
use Rattle.moon_rise.specs.Computed.{computed_moment_of}
use Rattle.book_model.specs.sky.Distance.{mean_distance, metre}
use Rattle.book_model.specs.sky.Moonrise.{equator_radius, parallax_of, part_of_day, moment_of}

-- ---- products with one number
-- the endpoints of a product with one number, where an interval holds the product of each endpoint with it
product_in : (a b f : Fraction) (j : Interval) → IsMember (times a f) j → IsMember (times b f) j
    → product (between a b) (exactly f) ⊆ j
unfolding product
product_in a b f everything l u = within_everything _
product_in a b f (between c d) l u =
    record { endpoints = (least_is c _ _ _ _ l.0 l.0 u.0 u.0, greatest_is d _ _ _ _ l.1 l.1 u.1 u.1) }

-- ---- a thousandth of a sum
mean_is : times (whole mean_distance) metre ≈ mean_kilometres
unfolding times
mean_is = record { cross = refl }

thousandth_member : (a b x : Fraction) → (a ≤F x) → (x ≤F b)
    → IsMember (times (plus (whole mean_distance) x) metre)
    (sum (exactly mean_kilometres) (product (between a b) (exactly metre)))
thousandth_member a b x h k =
    let j = sum (exactly mean_kilometres) (product (between a b) (exactly metre)) in
    let p = product_holds (between a b) (exactly metre) x metre (h, k) (le_refl metre, le_refl metre) in
    let s = sum_holds (exactly mean_kilometres) (product (between a b) (exactly metre)) mean_kilometres (times x metre)
    (le_refl mean_kilometres, le_refl mean_kilometres) p in
    same_member j (plus mean_kilometres (times x metre)) (times (plus (whole mean_distance) x) metre)
    (same_sym (same_trans (plus_times (whole mean_distance) x metre) (plus_cong mean_is (same_refl (times x metre))))) s

thousandth_within : (i : Interval) → IsProper i → product (sum (exactly (whole mean_distance)) i) (exactly metre)
    ⊆ sum (exactly mean_kilometres) (product i (exactly metre))
unfolding sum product
thousandth_within everything p = within_everything _
thousandth_within (between a b) p =
    product_in (plus (whole mean_distance) a) (plus (whole mean_distance) b) metre
    (sum (exactly mean_kilometres) (product (between a b) (exactly metre)))
    (thousandth_member a b a (le_refl a) p) (thousandth_member a b b p (le_refl b))

-- what holds the mean distance and the terms, both in kilometres, holds a thousandth of their sum in metres
pub thousandth_holds : {E : Type 0} (shown : E → Interval) (w : World) (x : Expression) (e : E)
    → Within shown w (add (constant mean_kilometres) (scale metre x)) e
    → Within shown w (scale metre (add (integer mean_distance) x)) e
unfolding Lies value
thousandth_holds shown w x e h =
    record { deep = h.deep; inside = within_trans (thousandth_within (value w x) (value_proper w x)) h.inside }

-- ---- a moment by one fraction
exact_product : (a b : Fraction) → product (exactly a) (exactly b) ⊆ exactly (times a b)
exact_product a b = product_in a a b (exactly (times a b)) (le_refl _, le_refl _) (le_refl _, le_refl _)

exact_same : (a b : Fraction) → a ≈ b → exactly a ⊆ exactly b
exact_same a b e = record { endpoints = (ge_of_same e, le_of_same e) }

exact_sum : (a b : Fraction) → sum (exactly a) (exactly b) ≡ exactly (plus a b)
unfolding sum
exact_sum a b = refl

exact_negative : (a : Fraction) → negative (exactly a) ≡ exactly (opposite a)
unfolding negative
exact_negative a = refl

-- so many sixteenths of a quarter of an hour less the hours of a zone
scaled_cross : (x k : ℤ) (p q : ℕ) → x ≡ pos 24 *ℤ k → q ≡ 24 * p → x *ℤ pos p ≡ k *ℤ pos q
scaled_cross x k p q e f =
    rw (e, f) (ring (k ∷ pos p ∷ []) ((lit (pos 24) ⊗ at 0) ⊗ at 1) (at 0 ⊗ (lit (pos 24) ⊗ at 1)) refl)

sixteenths_less : (n : ℤ) (s t : ℕ) → t ≡ 24 * s → neg_ℤ (n *ℤ pos 1) *ℤ pos 1536 +ℤ pos t ≡ pos
    24 *ℤ (pos s -ℤ pos 64 *ℤ n)
sixteenths_less n s t e = omega (arith, ints, e)

times_24 : (i m t : ℕ) → t ≡ 24 * suc m → i * t ≡ 24 * (i * suc m)
times_24 i m t e = rw e (grind arith)

shift_by : (m i : ℕ) (n : ℤ)
    → plus (opposite (times (record { num = n; below = m }) (record { num = pos 1; below = 23 }))) (part_of_day i)
    ≈ (record { num = pos (i * suc m) -ℤ pos 64 *ℤ n; below = 1536 * suc m - 1 })
unfolding plus opposite times
shift_by m i n =
    let a : suc (below_product m 23) ≡ 24 * suc m = omega arith in
    let b : suc (below_product (below_product m 23) 1535) ≡ 24 * suc (1536 * suc m - 1) = omega arith in
    record {
      cross = scaled_cross _ (pos (i * suc m) -ℤ pos 64 *ℤ n) _ _
          (sixteenths_less n (i * suc m) (i * suc (below_product m 23)) (times_24 i m (suc (below_product m 23)) a)) b;
    }

shift_is : (z : Frac) (i : ℕ) → 0 < z.den → plus (opposite (times (fraction_of z) (fraction_of HOUR))) (part_of_day i) ≈
    shift_of z i
shift_is z i h =
    let e : z.den ≡ suc (z.den - 1) = omega (arith, h) in
    by (z.den - 1) z.den z.num e
  where
    by : (m d : ℕ) (n : ℤ) → d ≡ suc m
        → plus (opposite (times (record { num = n; below = m }) (fraction_of HOUR))) (part_of_day i)
        ≈ (record { num = pos (i * d) -ℤ pos 64 *ℤ n; below = 1536 * d - 1 })
    by m d n e = rw e (shift_by m i n)

moment_is : (d : ℤ) (z : Frac) (i : ℕ) → 0 < z.den
    → plus (plus (whole d) (opposite (times (fraction_of z) (fraction_of HOUR)))) (part_of_day i) ≈ plus (whole d)
    (shift_of z i)
moment_is d z i h = same_trans (plus_assoc _ _ _) (plus_cong (same_refl (whole d)) (shift_is z i h))

moment_within : (d : ℤ) (z : Frac) (i : ℕ) → 0 < z.den
    → sum (sum (exactly (whole d)) (negative (product (exactly (fraction_of z)) (exactly (fraction_of HOUR)))))
    (exactly (part_of_day i))
    ⊆ sum (exactly (whole d)) (exactly (shift_of z i))
moment_within d z i h =
    let q = times (fraction_of z) (fraction_of HOUR) in
    let n : negative (product (exactly (fraction_of z)) (exactly (fraction_of HOUR))) ⊆ exactly (opposite q) =
    rw (exact_negative q) at (negative_within (exact_product (fraction_of z) (fraction_of HOUR))) in
    let s : sum (exactly (whole d)) (negative (product (exactly (fraction_of z)) (exactly (fraction_of HOUR))))
    ⊆ exactly (plus (whole d) (opposite q)) =
    rw (exact_sum (whole d) (opposite q)) at (sum_within (within_refl (exactly (whole d))) n) in
    let t : sum (sum (exactly (whole d)) (negative (product (exactly (fraction_of z)) (exactly (fraction_of HOUR)))))
    (exactly (part_of_day i))
    ⊆ exactly (plus (plus (whole d) (opposite q)) (part_of_day i)) =
    rw (exact_sum (plus (whole d) (opposite q)) (part_of_day i)) at
    (sum_within s (within_refl (exactly (part_of_day i)))) in
    rw (exact_sum (whole d) (shift_of z i)) (within_trans t (exact_same _ _ (moment_is d z i h)))

-- what holds a moment by one fraction holds the moment that is so many sixteenths of a quarter of an hour after
-- midnight
pub moment_holds : {E : Type 0} (shown : E → Interval) (w : World) (place : Place) (d : ℤ) (i : ℕ) (e : E)
    → 0 < (zone_on place d).den
    → Within shown w (computed_moment_of (zone_on place d) d i) e → Within shown w (moment_of place d i) e
unfolding Lies value midnight_of moment_of computed_moment_of
moment_holds shown w place d i e p h =
    record { deep = h.deep; inside = within_trans (moment_within d (zone_on place d) i p) h.inside }

-- ---- a quotient by what is scaled, in place of a scaled number
reciprocal_positive : (x : ℤ) (p b : ℕ) → x ≡ pos (suc p) → reciprocal (record { num = x; below = b })
    ≡ (record { num = pos (suc b); below = p })
unfolding reciprocal
reciprocal_positive x p b e = rw e refl

reciprocal_negative : (x : ℤ) (p b : ℕ) → x ≡ negsuc p → reciprocal (record { num = x; below = b })
    ≡ (record { num = negsuc b; below = p })
unfolding reciprocal
reciprocal_negative x p b e = rw e refl

product_same : (x y : ℤ) (p q : ℕ) → x ≡ y → p ≡ q → x *ℤ pos p ≡ y *ℤ pos q
product_same x y p q e f = rw (e, f) refl

-- the reciprocal of a number in radii of the earth is that of the same in kilometres, times these
reciprocal_scaled : (n : ℤ) (q : ℕ) → reciprocal (times (record { num = n; below = q }) kilometre_in_radii)
    ≈ times equator_radius (reciprocal (record { num = n; below = q }))
unfolding reciprocal times
reciprocal_scaled (pos zero) q = record { cross = refl }
reciprocal_scaled (pos (suc m)) q =
    let a : pos (suc (below_product q 637813)) ≡ pos 637814 *ℤ pos (suc q) = omega (arith, ints) in
    let b : suc (below_product 99 m) ≡ suc (100 * m + 99) = omega arith in
    let e : pos (suc m) *ℤ pos 100 ≡ pos (suc (100 * m + 99)) = omega (arith, ints) in
    rw (reciprocal_positive (pos (suc m) *ℤ pos 100) (100 * m + 99) (below_product q 637813) e)
    (record { cross = product_same _ _ _ _ a b })
reciprocal_scaled (negsuc n) q =
    let a : negsuc (below_product q 637813) ≡ pos 637814 *ℤ negsuc q = omega (arith, ints) in
    let b : suc (below_product 99 n) ≡ suc (100 * n + 99) = omega arith in
    let e : negsuc n *ℤ pos 100 ≡ negsuc (100 * n + 99) = omega (arith, ints) in
    rw (reciprocal_negative (negsuc n *ℤ pos 100) (100 * n + 99) (below_product q 637813) e)
    (record { cross = product_same _ _ _ _ a b })

turned : (x y : Fraction) → times (times x equator_radius) (reciprocal y) ≈ times x
    (reciprocal (times y kilometre_in_radii))
turned x y =
    same_trans (times_assoc x equator_radius (reciprocal y))
    (times_cong (same_refl x) (same_sym (reciprocal_scaled y.num y.below)))

-- a positive number in radii is one in kilometres, and so is a negative one
unscaled_positive : (y : Fraction) → IsPositive (times y kilometre_in_radii) → IsPositive y
unfolding times
unscaled_positive y h = record { above = omega (arith, ints, h.above) }

unscaled_negative : (y : Fraction) → IsNegative (times y kilometre_in_radii) → IsNegative y
unfolding times
unscaled_negative y h = record { under = omega (arith, ints, h.under) }

-- what holds the products of the endpoints holds the product
corners_in : (l u r s : Fraction) (j : Interval) → IsMember (times l r) j → IsMember (times l s) j
    → IsMember (times u r) j → IsMember (times u s) j
    → product (between l u) (between r s) ⊆ j
unfolding product
corners_in l u r s everything p q v w = within_everything _
corners_in l u r s (between e f) p q v w =
    record { endpoints = (least_is e _ _ _ _ p.0 q.0 v.0 w.0, greatest_is f _ _ _ _ p.1 q.1 v.1 w.1) }

-- a product with one number, by its endpoints
abbrev low_of : (a b f : Fraction) → Fraction
low_of a b f = least (times a f) (times a f) (times b f) (times b f)

abbrev high_of : (a b f : Fraction) → Fraction
high_of a b f = greatest (times a f) (times a f) (times b f) (times b f)

product_is : (a b f : Fraction) → product (between a b) (exactly f) ≡ between (low_of a b f) (high_of a b f)
unfolding product
product_is a b f = refl

quotient_is : (i j c d : Fraction) → excludes_zero c d ≡ true → quotient (between i j) (between c d)
    ≡ product (between i j) (between (reciprocal d) (reciprocal c))
unfolding quotient
quotient_is i j c d e = rw e refl

no_quotient : (i j c d : Fraction) → excludes_zero c d ≡ false → quotient (between i j) (between c d) ≡ everything
unfolding quotient
no_quotient i j c d e = rw e refl

module _ (a b c d : Fraction) (p : a ≤F b) (q : c ≤F d) where
  abbrev low : Fraction
  low = low_of c d kilometre_in_radii

  abbrev high : Fraction
  high = high_of c d kilometre_in_radii

  -- the distance in radii
  scaled_member : (y : Fraction) → c ≤F y → y ≤F d → IsMember (times y kilometre_in_radii) (between low high)
  scaled_member y h k =
      rw (product_is c d kilometre_in_radii) at (product_holds (between c d) (exactly kilometre_in_radii) y
      kilometre_in_radii (h, k)
      (le_refl kilometre_in_radii, le_refl kilometre_in_radii))

  low_high : low ≤F high
  low_high = let m = scaled_member c (le_refl c) q in le_trans _ _ _ m.0 m.1

  same_sides : excludes_zero low high ≡ true → excludes_zero c d ≡ true
  same_sides e = by_test (lt_z (pos 0) low.num) refl e
    where
      by_test : (t : Bool) → lt_z (pos 0) low.num ≡ t → cond t true (lt_z high.num (pos 0)) ≡ true
          → excludes_zero c d ≡ true
      by_test true f e =
          let s : IsPositive low = record { above = omega (arith, ints, f) } in
          positive_excludes c d
          (unscaled_positive c (positive_above low (times c kilometre_in_radii) s
          (scaled_member c (le_refl c) q).0))
      by_test false f e =
          let s : IsNegative high = record { under = omega (arith, ints, e) } in
          negative_excludes c d
          (unscaled_negative d (negative_below (times d kilometre_in_radii) high s
          (scaled_member d q (le_refl d)).1))

  abbrev held : Interval
  held = quotient (between a b) (between low high)

  member : (x y : Fraction) → excludes_zero low high ≡ true → IsMember x (between a b) → IsMember y (between c d)
      → IsMember (times (times x equator_radius) (reciprocal y)) held
  member x y e h k =
      same_member held (times x (reciprocal (times y kilometre_in_radii)))
      (times (times x equator_radius) (reciprocal y)) (same_sym (turned x y))
      (quotient_holds (between a b) low high x (times y kilometre_in_radii) low_high e h (scaled_member y k.0 k.1))

  -- the endpoints of the scaled number over a number of the distance
  endpoints_held : (y : Fraction) → excludes_zero low high ≡ true → IsMember y (between c d)
      → IsMember (times (low_of a b equator_radius) (reciprocal y)) held
      × IsMember (times (high_of a b equator_radius) (reciprocal y)) held
  endpoints_held y e k =
      let l = member a y e (le_refl a, p) k in
      let u = member b y e (p, le_refl b) k in
      let P : Fraction → Type 0 = λ z. IsMember (times z (reciprocal y)) held in
      (least_keeps P _ _ _ _ l l u u, greatest_keeps P _ _ _ _ l l u u)

  bounded_within : quotient (product (between a b) (exactly equator_radius)) (between c d) ⊆ held
  bounded_within = by_test (excludes_zero low high) refl
    where
      by_test : (t : Bool) → excludes_zero low high ≡ t → quotient (product (between a b) (exactly equator_radius))
          (between c d) ⊆ held
      by_test false e = rw (no_quotient a b low high e) (within_everything _)
      by_test true e =
          let at_last = endpoints_held d e (q, le_refl d) in
          let at_first = endpoints_held c e (le_refl c, q) in
          rw (
            product_is a b equator_radius,
            quotient_is (low_of a b equator_radius) (high_of a b equator_radius) c d
                (same_sides e),
          )
          (corners_in (low_of a b equator_radius) (high_of a b equator_radius) (reciprocal d) (reciprocal c) held
          at_last.0 at_first.0 at_last.1 at_first.1)

radii_within : (i j : Interval) → IsProper i → IsProper j → quotient (product i (exactly equator_radius)) j ⊆ quotient i
    (product j (exactly kilometre_in_radii))
unfolding quotient product
radii_within everything j p q = within_everything _
radii_within (between a b) everything p q = within_everything _
radii_within (between a b) (between c d) p q = bounded_within a b c d p q

-- what holds the parallax by radii of the earth holds that by kilometres
pub parallax_holds : {E : Type 0} (shown : E → Interval) (w : World) (x y : Expression) (e : E)
    → Within shown w (computed_parallax_of x y) e
    → Within shown w (parallax_of x y) e
unfolding Lies value computed_parallax_of parallax_of
parallax_holds shown w x y e h =
    let i = radii_within (value w (cosine x)) (value w y) (value_proper w (cosine x)) (value_proper w y) in
    record {
      deep = h.deep;
      inside = within_trans (arcsines_nest.within w.depth w.depth _ _ (omega arith)
          (value_proper w (divide (scale equator_radius (cosine x)) y)) i) h.inside;
    }
