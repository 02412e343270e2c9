-- What a row adds, from the sine at its turn: the angle's turn is near, so the sine is, and a product of what is near a
-- factor and a sine is near their product. All roundings are inequalities between whole numbers, added up by
-- certificates.
use Rattle.std.proofs.Common.{mul-le-mul, ◌≡◌, ℕ, zero, suc, ◌+◌, ◌*◌, ◌/◌, ◌-◌, ◌^◌, ◌≤◌, ◌<◌, refl, arith}
use Rattle.std.proofs.Common.{unsigned_abs, neg_ℤ, ℤ, pos, negsuc}
use Rattle.std.proofs.Common.{◌+ℤ◌, ◌-ℤ◌, ◌*ℤ◌, ◌≤ℤ◌, ◌<ℤ◌, [], ◌∷◌}
use Rattle.std.proofs.lemmas.Int.{ints}
use Rattle.book_model.specs.Fraction.{Fraction, ◌≤F◌, times, below_product}
use Rattle.book_model.specs.Interval.{Interval, between, IsProper, ◌⊆◌, product}
use Rattle.book_model.proofs.Bounds.{◌≼◌, known, ◌⊞◌, ◌⊠◌, times as naturally, le_by, pos_nonneg}
use Rattle.book_model.proofs.Fractions.{le_refl}
use Rattle.book_model.proofs.Intervals.{within_trans, within_refl, product_within, least_keeps, greatest_keeps}
use Rattle.book_model.proofs.Ring.{at, lit, ◌⊕◌, ◌⊖◌, ◌⊗◌, ring}
use Rattle.book_model.specs.numbers.Expressions.{Expression, World, value, exactly, power}
use Rattle.book_model.specs.numbers.Octants.{cosine_of_degrees}
use Rattle.book_model.specs.numbers.Terms.{times_power}
use Rattle.book_model.specs.programs.Leading.{units_of_56}
use Rattle.book_model.proofs.Values.{value_proper}
use Rattle.trig_series.proofs.KernelAngles.{product_endpoints}
use Rattle.trig_series.proofs.SineLemmas.{all_cosines_hold, all_hold, quarter_proper}
use Rattle.periodic_terms.specs.Turning.{HasPoint, octant_of, degrees_of}
use Rattle.periodic_terms.proofs.RowsByTime.{corners, abs_above, abs_below}
use Rattle.periodic_terms.specs.Angles.{IsFactor, IsNearTurn}
use Rattle.periodic_terms.specs.Multiples.{in_93, around_93, AreKnown, IsSmallRow, IsTerm, factor_of, half_of, most_of}
use Rattle.periodic_terms.specs.Multiples.{multiples_of, powered_of, radius_of, spread_by, sums_of, turns_of}
use Rattle.periodic_terms.specs.Multiples.{periodic_term_of}
use Rattle.periodic_terms.specs.declared.term_rows.Multiples.{Multiples}
use Rattle.periodic_terms.specs.declared.mean.MeanFactors.{MeanFactors}
use Rattle.periodic_terms.specs.declared.mean.MeanTurn.{MeanTurn}
use Rattle.periodic_terms.specs.declared.mean.MeanTurns.{MeanTurns}
use Rattle.periodic_terms.proofs.NearTurns.{quarter_near, sine_width, sine_of_near}

-- ---- order
pub order_93 : (u : ℕ) (p q : ℤ) → p ≤ℤ q → in_93 u p ≤F in_93 u q
order_93 u p q h =
    record {
      cross = le_by (p ∷ q ∷ pos (suc (below_product (2 ^ 93 - 1) u)) ∷ []) ((at 0 ≼ at 1) ∷ (lit (pos 0) ≼ at 2) ∷ [])
          (at 0 ⊗ at 2) (at 1 ⊗ at 2)
          (known 0 ⊠ known 1) refl (h, (pos_nonneg _, tt));
    }

-- ---- a factor times a sine
above_112 : (q p : ℤ) → (q *ℤ pos (2 ^ 19)) ≤ℤ p → in_93 0 q ≤F (record { num = p; below = 2 ^ 112 - 1 })
above_112 q p h = record { cross = omega (arith, ints, h) }

below_112 : (q p : ℤ) → p ≤ℤ (q *ℤ pos (2 ^ 19)) → (record { num = p; below = 2 ^ 112 - 1 }) ≤F in_93 0 q
below_112 q p h = record { cross = omega (arith, ints, h) }

through : (a b c : ℤ) → a ≤ℤ b → b ≤ℤ c → a ≤ℤ c
through a b c h k = omega (arith, ints, h, k)

product_above : (q l a b : ℤ) → (q *ℤ pos (2 ^ 19)) ≤ℤ l → l ≤ℤ (a *ℤ b)
    → in_93 0 q ≤F times (units_of_56 a) (units_of_56 b)
unfolding times
product_above q l a b h k = above_112 q (a *ℤ b) (through _ l (a *ℤ b) h k)

product_below : (q u a b : ℤ) → u ≤ℤ (q *ℤ pos (2 ^ 19)) → (a *ℤ b) ≤ℤ u → times (units_of_56 a) (units_of_56 b)
    ≤F in_93 0 q
unfolding times
product_below q u a b h k = below_112 q (a *ℤ b) (through (a *ℤ b) u _ k h)

-- the four products of endpoints lie within g r + h 2^56 of f s
record AreCorners (f h s r l u : ℤ) : Type 0 where
  ll : (l ≤ℤ ((f -ℤ h) *ℤ (s -ℤ r))) × (((f -ℤ h) *ℤ (s -ℤ r)) ≤ℤ u)
  lh : (l ≤ℤ ((f -ℤ h) *ℤ (s +ℤ r))) × (((f -ℤ h) *ℤ (s +ℤ r)) ≤ℤ u)
  hl : (l ≤ℤ ((f +ℤ h) *ℤ (s -ℤ r))) × (((f +ℤ h) *ℤ (s -ℤ r)) ≤ℤ u)
  hh : (l ≤ℤ ((f +ℤ h) *ℤ (s +ℤ r))) × (((f +ℤ h) *ℤ (s +ℤ r)) ≤ℤ u)

four_corners : (f h s r g : ℤ) → (f +ℤ h) ≤ℤ g → h ≤ℤ f → pos 0 ≤ℤ h → pos 0 ≤ℤ r → s ≤ℤ pos (2 ^ 56)
    → neg_ℤ (pos (2 ^ 56)) ≤ℤ s
    → AreCorners f h s r (f *ℤ s -ℤ (g *ℤ r +ℤ h *ℤ pos (2 ^ 56))) (f *ℤ s +ℤ (g *ℤ r +ℤ h *ℤ pos (2 ^ 56)))
four_corners f h s r g a b c d e i =
    let ρ = (f ∷ h ∷ s ∷ r ∷ g ∷ []) in
    let cs = ((at 0 ⊕ at 1 ≼ at 4) ∷ (at 1 ≼ at 0) ∷ (lit (pos 0) ≼ at 1) ∷ (lit (pos 0) ≼ at 3)
    ∷ (at 2 ≼ lit (pos (2 ^ 56))) ∷ (lit (negsuc
    (2 ^ 56 - 1)) ≼ at 2) ∷ []) in
    let i' : negsuc (2 ^ 56 - 1) ≤ℤ s = omega (arith, ints, i) in
    let reach = at 4 ⊗ at 3 ⊕ at 1 ⊗ lit (pos (2 ^ 56)) in
    let below = at 0 ⊗ at 2 ⊖ reach in
    let above = at 0 ⊗ at 2 ⊕ reach in
    let g0 = known 0 ⊠ known 3 in
    let f2 = naturally 2 ⊠ (known 1 ⊠ known 3) in
    let h2 = naturally 2 ⊠ (known 2 ⊠ known 3) in
    let up = known 2 ⊠ known 4 in
    let down = known 2 ⊠ known 5 in
    let ll = (at 0 ⊖ at 1) ⊗ (at 2 ⊖ at 3) in
    let lh = (at 0 ⊖ at 1) ⊗ (at 2 ⊕ at 3) in
    let hl = (at 0 ⊕ at 1) ⊗ (at 2 ⊖ at 3) in
    let hh = (at 0 ⊕ at 1) ⊗ (at 2 ⊕ at 3) in
    record {
      ll = (
        le_by ρ cs below ll (g0 ⊞ h2 ⊞ up) refl (a, (b, (c, (d, (e, (i', tt)))))),
        le_by ρ cs ll above (g0 ⊞ f2 ⊞ h2 ⊞ down) refl
            (a, (b, (c, (d, (e, (i', tt)))))),
      );
      lh = (
        le_by ρ cs below lh (g0 ⊞ f2 ⊞ h2 ⊞ up) refl (a, (b, (c, (d, (e, (i', tt)))))),
        le_by ρ cs lh above (g0 ⊞ h2 ⊞ down) refl
            (a, (b, (c, (d, (e, (i', tt)))))),
      );
      hl = (
        le_by ρ cs below hl (g0 ⊞ down) refl (a, (b, (c, (d, (e, (i', tt)))))),
        le_by ρ cs hl above (g0 ⊞ f2 ⊞ h2 ⊞ h2 ⊞ up) refl
            (a, (b, (c, (d, (e, (i', tt)))))),
      );
      hh = (
        le_by ρ cs below hh (g0 ⊞ f2 ⊞ h2 ⊞ h2 ⊞ down) refl (a, (b, (c, (d, (e, (i', tt)))))),
        le_by ρ cs hh above (g0 ⊞ up) refl
            (a, (b, (c, (d, (e, (i', tt)))))),
      );
    }

endpoints_within : (f h s r l u q o : ℤ) → (q *ℤ pos (2 ^ 19)) ≤ℤ l → u ≤ℤ (o *ℤ pos (2 ^ 19)) → AreCorners f h s r l u
    → product (between (units_of_56 (f -ℤ h)) (units_of_56 (f +ℤ h)))
    (between (units_of_56 (s -ℤ r)) (units_of_56 (s +ℤ r)))
    ⊆ between (in_93 0 q) (in_93 0 o)
unfolding product
endpoints_within f h s r l u q o a b c =
    record {
      endpoints = (
        least_keeps (λ x. in_93 0 q ≤F x) _ _ _ _ (product_above q l _ _ a c.ll.0) (product_above q l _ _ a c.lh.0)
            (product_above q l _ _ a c.hl.0)
            (product_above q l _ _ a c.hh.0),
        greatest_keeps (λ x. x ≤F in_93 0 o) _ _ _ _ (product_below o u _ _ b c.ll.1) (product_below o u _ _ b c.lh.1)
            (product_below o u _ _ b c.hl.1)
            (product_below o u _ _ b c.hh.1),
      );
    }

-- ---- times a size, in parts of u + 1
scaled_above : (u : ℕ) (q p z : ℤ) → q ≤ℤ (p *ℤ z) → in_93 u q ≤F times (in_93 0 p) (record { num = z; below = u })
unfolding times
scaled_above u q p z h = order_93 u q (p *ℤ z) h

scaled_below : (u : ℕ) (q p z : ℤ) → (p *ℤ z) ≤ℤ q → times (in_93 0 p) (record { num = z; below = u }) ≤F in_93 u q
unfolding times
scaled_below u q p z h = order_93 u (p *ℤ z) q h

sized_within : (u : ℕ) (z p : ℤ) (e : ℕ) (i : Interval) → IsProper i → i ⊆ around_93 0 p e
    → product i (exactly (record { num = z; below = u })) ⊆ around_93 u (z *ℤ p) (unsigned_abs z * e)
sized_within u z p e i h k =
    let c = corners z p (pos e) (pos (unsigned_abs z)) (abs_above z) (abs_below z) (pos_nonneg e) in
    let v : Fraction = record { num = z; below = u } in
    let a = p -ℤ pos e in
    let b = p +ℤ pos e in
    let l = z *ℤ p -ℤ pos (unsigned_abs z) *ℤ pos e in
    let o = z *ℤ p +ℤ pos (unsigned_abs z) *ℤ pos e in
    within_trans (product_within h (le_refl v) k (within_refl (exactly v)))
    (rw (product_endpoints (in_93 0 a) (in_93 0 b) v)
    (record {
      endpoints = (
        least_keeps (λ x. in_93 u l ≤F x) _ _ _ _ (scaled_above u l a z c.0) (scaled_above u l a z c.0)
            (scaled_above u l b z c.2) (scaled_above u l b z c.2),
        greatest_keeps (λ x. x ≤F in_93 u o) _ _ _ _ (scaled_below u o a z c.1) (scaled_below u o a z c.1)
            (scaled_below u o b z c.3)
            (scaled_below u o b z c.3),
      );
    }))

-- ---- how far the sine of a row is off
abbrev sine_radius : MeanTurns → Multiples → ℕ
sine_radius t r =
    spread_by (unsigned_abs r.elongation) t.elongation + spread_by (unsigned_abs r.sun_anomaly) t.sun_anomaly
    + spread_by (unsigned_abs r.moon_anomaly) t.moon_anomaly + spread_by (unsigned_abs r.latitude_argument)
    t.latitude_argument + 11

half_below : (half : ℕ) → pos half ≤ℤ (pos 1824 *ℤ pos (half / 1824 + 1))
half_below half = omega (arith, ints)

counted : (c h e : ℤ) → pos 0 ≤ℤ c → h ≤ℤ (pos 1824 *ℤ e) → (c *ℤ h) ≤ℤ (pos 1824 *ℤ (c *ℤ e))
counted c h e n l = le_by (c ∷ h ∷ e ∷ []) ((lit (pos 0) ≼ at 0) ∷ (at 1 ≼ lit (pos 1824) ⊗ at 2) ∷ []) (at 0 ⊗ at 1)
    (lit (pos 1824) ⊗ (at 0 ⊗ at 2))
    (known 0 ⊠ known 1) refl (n, (l, tt))

part_counted : (c : ℕ) (a : MeanTurn) → pos (c * a.half.count) ≤ℤ (pos 1824 *ℤ pos (spread_by c a))
part_counted c a = counted (pos c) (pos a.half.count) (pos (a.half.count / 1824 + 1)) (pos_nonneg c)
    (half_below a.half.count)

four_at_most : (a b c d p q r s : ℕ) → pos a ≤ℤ (pos 1824 *ℤ pos p) → pos b ≤ℤ (pos 1824 *ℤ pos q)
    → pos c ≤ℤ (pos 1824 *ℤ pos r)
    → pos d ≤ℤ (pos 1824 *ℤ pos s) → sine_width (((a + b) + c) + d) + 3 ≤ p + q + r + s + 11
four_at_most a b c d p q r s h i j k = omega (arith, ints, h, i, j, k)

radius_enough : (t : MeanTurns) (r : Multiples) → sine_width (half_of t r) + 3 ≤ sine_radius t r
radius_enough t r =
    four_at_most (unsigned_abs r.elongation * t.elongation.half.count)
    (unsigned_abs r.sun_anomaly * t.sun_anomaly.half.count)
    (unsigned_abs r.moon_anomaly *
    t.moon_anomaly.half.count) (unsigned_abs r.latitude_argument * t.latitude_argument.half.count)
    (spread_by (unsigned_abs r.elongation) t.elongation)
    (spread_by (unsigned_abs r.sun_anomaly) t.sun_anomaly) (spread_by (unsigned_abs r.moon_anomaly) t.moon_anomaly)
    (spread_by (unsigned_abs r.latitude_argument) t.latitude_argument)
    (part_counted (unsigned_abs r.elongation) t.elongation)
    (part_counted (unsigned_abs r.sun_anomaly) t.sun_anomaly)
    (part_counted (unsigned_abs r.moon_anomaly) t.moon_anomaly)
    (part_counted (unsigned_abs r.latitude_argument) t.latitude_argument)

sine_wider : (s : ℤ) (m r : ℕ) (i : Interval) → m + 3 ≤ r → i ⊆ between (units_of_56 ((s -ℤ pos 3) -ℤ pos m))
    (units_of_56 ((s +ℤ pos 3) +ℤ pos m))
    → i ⊆ between (units_of_56 (s -ℤ pos r)) (units_of_56 (s +ℤ pos r))
sine_wider s m r i h k = within_trans k (record {
  endpoints = (
    record { cross = omega (arith, ints, h) },
    record { cross = omega (arith, ints, h) },
  );
})

-- ---- the sine with its power
abbrev width_of : MeanTurns → ℕ → ℕ
width_of t zero = 0
width_of t (suc k) = t.factors.wide.0 + 1

-- without one
plain_within : (g : ℕ) (s : ℤ) (r : ℕ) (i : Interval) → 2 ^ 37 ≤ g
    → i ⊆ between (units_of_56 (s -ℤ pos r)) (units_of_56 (s +ℤ pos r))
    → i ⊆ around_93 0 (pos (2 ^ 37) *ℤ s) (g * r + 0 * 2 ^ 37)
plain_within g s r i h k =
    let e : (pos (2 ^ 37) *ℤ pos r) ≤ℤ (pos g *ℤ pos r) =
    le_by (pos g ∷ pos r ∷ []) ((lit (pos (2 ^ 37)) ≼ at 0) ∷ (lit (pos 0) ≼ at 1) ∷ []) (lit (pos
    (2 ^ 37)) ⊗ at 1) (at 0 ⊗ at 1) (known 0 ⊠ known 1) refl (omega (arith, ints, h), (pos_nonneg r, tt)) in
    endpoints_of (pos g *ℤ pos r) e k
  where
    endpoints_of : (m : ℤ) → (pos (2 ^ 37) *ℤ pos r) ≤ℤ m → i ⊆ between (units_of_56 (s -ℤ pos r))
        (units_of_56 (s +ℤ pos r))
        → i ⊆ between (in_93 0 (pos (2 ^ 37) *ℤ s -ℤ (m +ℤ pos 0))) (in_93 0 (pos (2 ^ 37) *ℤ s +ℤ (m +ℤ pos 0)))
    endpoints_of m e k = within_trans k (record {
      endpoints = (
        record { cross = omega (arith, ints, e) },
        record { cross = omega (arith, ints, e) },
      );
    })

itself : (s q : ℤ) → (q *ℤ pos (2 ^ 56)) ≤ℤ (pos (2 ^ 56) *ℤ s)
    → (pos (2 ^ 56) *ℤ s) <ℤ (q *ℤ pos (2 ^ 56) +ℤ pos (2 ^ 56)) → q ≡ s
itself s q l u = omega (arith, ints, l, u)

plain_scaled : (g : ℕ) (s q : ℤ) (r : ℕ) (i : Interval) → 2 ^ 37 ≤ g → (q *ℤ pos (2 ^ 56)) ≤ℤ (pos (2 ^ 56) *ℤ s)
    → (pos (2 ^ 56) *ℤ s) <ℤ (q *ℤ pos (2 ^ 56) +ℤ pos (2 ^ 56))
    → i ⊆ between (units_of_56 (s -ℤ pos r)) (units_of_56 (s +ℤ pos r))
    → i ⊆ around_93 0 (pos (2 ^ 37) *ℤ q) (g * r + 0 * 2 ^ 37)
plain_scaled g s q r i h l u k = rw (itself s q l u) (plain_within g s r i h k)

-- with one
low_fits : (p q x : ℤ) (m h : ℕ) → x ≡ pos m *ℤ pos (2 ^ 19) → (q *ℤ pos (2 ^ 56)) ≤ℤ p
    → ((pos (2 ^ 37) *ℤ q -ℤ pos (m + (h + 1) * 2 ^ 37)) *ℤ pos (2 ^ 19)) ≤ℤ (p -ℤ (x +ℤ pos h *ℤ pos (2 ^ 56)))
low_fits p q x m h e l = omega (arith, ints, e, l)

high_fits : (p q x : ℤ) (m h : ℕ) → x ≡ pos m *ℤ pos (2 ^ 19) → p <ℤ (q *ℤ pos (2 ^ 56) +ℤ pos (2 ^ 56))
    → (p +ℤ (x +ℤ pos h *ℤ pos (2 ^ 56))) ≤ℤ ((pos (2 ^ 37) *ℤ q +ℤ pos (m + (h + 1) * 2 ^ 37)) *ℤ pos (2 ^ 19))
high_fits p q x m h e u = omega (arith, ints, e, u)

in_order : (g r : ℤ) → (g *ℤ pos (2 ^ 19)) *ℤ r ≡ (g *ℤ r) *ℤ pos (2 ^ 19)
in_order g r = ring (g ∷ r ∷ []) ((at 0 ⊗ lit (pos (2 ^ 19))) ⊗ at 1) ((at 0 ⊗ at 1) ⊗ lit (pos (2 ^ 19))) refl

powered_within : (f h g : ℕ) (s q : ℤ) (r : ℕ) (i j : Interval) → IsProper i → IsProper j → f + h ≤ g * 2 ^ 19 → h ≤ f
    → s ≤ℤ pos (2 ^ 56)
    → neg_ℤ (pos (2 ^ 56)) ≤ℤ s
    → (q *ℤ pos (2 ^ 56)) ≤ℤ (pos f *ℤ s) → (pos f *ℤ s) <ℤ (q *ℤ pos (2 ^ 56) +ℤ pos (2 ^ 56)) → IsFactor f h i
    → j ⊆ between (units_of_56 (s -ℤ pos r)) (units_of_56 (s +ℤ pos r))
    → product i j ⊆ around_93 0 (pos (2 ^ 37) *ℤ q) (g * r + (h + 1) * 2 ^ 37)
powered_within f h g s q r i j p o a b c d l u k m =
    let corners = four_corners (pos f) (pos h) s (pos r) (pos g *ℤ pos (2 ^ 19)) (omega (arith, ints, a))
    (omega (arith, ints, b)) (pos_nonneg h)
    (pos_nonneg r) c d in
    let x = (pos g *ℤ pos (2 ^ 19)) *ℤ pos r in
    let e = in_order (pos g) (pos r) in
    within_trans (product_within p o k m) (endpoints_within (pos f) (pos h) s (pos r) _ _
    (pos (2 ^ 37) *ℤ q -ℤ pos (g * r + (h + 1) * 2 ^ 37)) (pos (2 ^ 37) *ℤ q
    +ℤ pos (g * r + (h + 1) * 2 ^ 37)) (low_fits (pos f *ℤ s) q x (g * r) h e l)
    (high_fits (pos f *ℤ s) q x (g * r) h e u) corners)

power_within : (w : World) (t : MeanTurns) (k : ℕ) (factor x : Expression) (s q : ℤ) (r : ℕ) → k ≤ 2 → s ≤ℤ pos (2 ^ 56)
    → neg_ℤ (pos (2 ^ 56)) ≤ℤ s
    → (q *ℤ pos (2 ^ 56)) ≤ℤ (pos (factor_of t.factors k) *ℤ s) → (pos (factor_of t.factors k) *ℤ s)
    <ℤ (q *ℤ pos (2 ^ 56) +ℤ pos (2 ^ 56))
    → (k ≡ 1 → IsFactor t.factors.first.0 t.factors.wide.0 (value w factor))
    → (k ≡ 2 → IsFactor t.factors.second.0 t.factors.wide.0 (value w (power factor 2)))
    → value w x ⊆ between (units_of_56 (s -ℤ pos r)) (units_of_56 (s +ℤ pos r))
    → value w (times_power factor k x) ⊆ around_93 0 (pos (2 ^ 37) *ℤ q)
    (t.factors.greatest.0 * r + width_of t k * 2 ^ 37)
unfolding value times_power
power_within w t zero factor x s q r few a b l u f g h = plain_scaled t.factors.greatest.0 s q r
    (value w x) t.factors.least l u h
power_within w t (suc zero) factor x s q r few a b l u f g h =
    powered_within t.factors.first.0 t.factors.wide.0 t.factors.greatest.0 s q r (value w factor) (value w x)
    (value_proper w factor)
    (value_proper w x) t.factors.first_high t.factors.first_low a b l u (f refl) h
power_within w t (suc (suc zero)) factor x s q r few a b l u f g h =
    powered_within t.factors.second.0 t.factors.wide.0 t.factors.greatest.0 s q r (value w (power factor 2)) (value w x)
    (value_proper w (power factor 2))
    (value_proper w x) t.factors.second_high t.factors.second_low a b l u (g refl) h
power_within w t (suc (suc (suc k))) factor x s q r few a b l u f g h = absurd (omega (arith, few))

-- ---- the sine or the cosine at a turn
periodic_term_within : (w : World) (q : ℕ) (x : Expression) (turn : ℕ) (t z s : ℤ) (h : ℕ) → q ≤ 1 → 40 ≤ w.depth
    → turn < 2 ^ 64
    → pos turn ≡ (t +ℤ pos (q * 2 ^ 62)) -ℤ z *ℤ pos (2 ^ 64) → h ≤ 2 ^ 65
    → HasPoint (octant_of turn) (degrees_of turn) (s -ℤ pos 3) (s +ℤ pos 3) → IsNearTurn t h (value w x)
    → value w (periodic_term_of q x) ⊆ between (units_of_56 ((s -ℤ pos 3) -ℤ pos (sine_width h)))
    (units_of_56 ((s +ℤ pos 3) +ℤ pos (sine_width h)))
unfolding value cosine_of_degrees
periodic_term_within w zero x turn t z s h few deep fits e small point near =
    sine_of_near w.depth turn t z s h (value w x) deep (value_proper w x) fits (omega (arith, ints, e)) small point near
periodic_term_within w (suc zero) x turn t z s h few deep fits e small point near =
    sine_of_near w.depth turn (t +ℤ pos (2 ^ 62)) z s h _ deep (quarter_proper (value w x) (value_proper w x)) fits
    (omega (arith, ints, e)) small point
    (quarter_near t h (value w x) near)
periodic_term_within w (suc (suc q)) x turn t z s h few deep fits e small point near = absurd (omega (arith, few))

-- ---- a row
nat_eq : (m n : ℕ) → pos m ≡ pos n → m ≡ n
nat_eq m n h = omega (arith, ints, h)

spread : (a g c d e f i j k l x y : ℕ) → a * x ≡ y
    → a * (g * (c * i + d * j + e * k + f * l + 11) + x)
    ≡ g * ((a * c) * i + (a * d) * j + (a * e) * k + (a * f) * l + 11 * a) + y
spread a g c d e f i j k l x y h =
    rw (← h) (nat_eq _ _ (ring (pos a ∷ pos g ∷ pos c ∷ pos d ∷ pos e ∷ pos f ∷ pos i ∷ pos j ∷ pos k ∷ pos l ∷ pos x
    ∷ [])
    (at 0 ⊗ (at 1 ⊗ (at 2 ⊗ at 6 ⊕ at 3 ⊗ at 7 ⊕ at 4 ⊗ at 8 ⊕ at 5 ⊗ at 9 ⊕ lit (pos 11)) ⊕ at 10))
    (at 1 ⊗ ((at 0 ⊗ at 2) ⊗ at 6 ⊕ (at 0 ⊗ at 3) ⊗ at 7 ⊕ (at 0 ⊗ at 4) ⊗ at 8 ⊕ (at 0 ⊗ at 5) ⊗ at 9
    ⊕ lit (pos 11) ⊗ at 0) ⊕ at 0 ⊗ at 10) refl))

-- the radius of a row whose size is p where it has a power
abbrev radius_with : MeanTurns → Multiples → ℕ → ℕ
radius_with t r p =
    t.factors.greatest.0 * (spread_by (unsigned_abs r.size * unsigned_abs r.elongation) t.elongation
    + spread_by (unsigned_abs r.size * unsigned_abs r.sun_anomaly) t.sun_anomaly
    + spread_by (unsigned_abs r.size * unsigned_abs r.moon_anomaly) t.moon_anomaly
    + spread_by (unsigned_abs r.size * unsigned_abs r.latitude_argument) t.latitude_argument + 11 * unsigned_abs r.size)
    + p * ((t.factors.wide.0 + 1) * 2 ^ 37)

radius_by : (t : MeanTurns) (r : Multiples) (k : ℕ)
    → unsigned_abs r.size * (t.factors.greatest.0 * sine_radius t r + width_of t k * 2 ^ 37) ≡ radius_with t r
    (powered_of r.size k)
radius_by t r zero =
    spread (unsigned_abs r.size) t.factors.greatest.0 (unsigned_abs r.elongation) (unsigned_abs r.sun_anomaly)
    (unsigned_abs r.moon_anomaly)
    (unsigned_abs r.latitude_argument) (t.elongation.half.count / 1824 + 1) (t.sun_anomaly.half.count / 1824 + 1)
    (t.moon_anomaly.half.count / 1824 + 1)
    (t.latitude_argument.half.count / 1824 + 1) (0 * 2 ^ 37) (0 * ((t.factors.wide.0 + 1) * 2 ^ 37)) (omega arith)
radius_by t r (suc k) =
    spread (unsigned_abs r.size) t.factors.greatest.0 (unsigned_abs r.elongation) (unsigned_abs r.sun_anomaly)
    (unsigned_abs r.moon_anomaly)
    (unsigned_abs r.latitude_argument) (t.elongation.half.count / 1824 + 1) (t.sun_anomaly.half.count / 1824 + 1)
    (t.moon_anomaly.half.count / 1824 + 1)
    (t.latitude_argument.half.count / 1824 + 1) ((t.factors.wide.0 + 1) * 2 ^ 37)
    (unsigned_abs r.size * ((t.factors.wide.0 + 1) * 2 ^ 37)) refl

radius_is : (t : MeanTurns) (r : Multiples)
    → unsigned_abs r.size * (t.factors.greatest.0 * sine_radius t r + width_of t r.power * 2 ^ 37) ≡ radius_of t
    (sums_of r)
radius_is t r = radius_by t r r.power

width_bound : (t : MeanTurns) (r : Multiples) → IsSmallRow r → half_of t r ≤ 2 ^ 65
width_bound t r h =
    let d = mul-le-mul (le_refl_n (unsigned_abs r.elongation)) t.elongation.half.small in
    let m = mul-le-mul (le_refl_n (unsigned_abs r.sun_anomaly)) t.sun_anomaly.half.small in
    let n = mul-le-mul (le_refl_n (unsigned_abs r.moon_anomaly)) t.moon_anomaly.half.small in
    let f = mul-le-mul (le_refl_n (unsigned_abs r.latitude_argument)) t.latitude_argument.half.small in
    omega (arith, d, m, n, f, h.few)
  where
    le_refl_n : (a : ℕ) → a ≤ a
    le_refl_n a = omega arith

-- a row whose turn is known, and the sine there
pub record IsRow (t : MeanTurns) (r : Multiples) (turn : ℕ) (z s : ℤ) : Type 0 where
  pub fits : turn < 2 ^ 64
  pub reduced : pos turn ≡ turns_of t r -ℤ z *ℤ pos (2 ^ 64)
  pub least : neg_ℤ (pos (2 ^ 56)) ≤ℤ s
  pub greatest : s ≤ℤ pos (2 ^ 56)
  pub point : HasPoint (octant_of turn) (degrees_of turn) (s -ℤ pos 3) (s +ℤ pos 3)

pub row_holds : (w : World) (u : ℕ) (t : MeanTurns) (r : Multiples) (x : Expression) (turn : ℕ) (z s q y : ℤ)
    → 40 ≤ w.depth → AreKnown t → IsSmallRow r
    → IsRow t r turn z s → IsTerm w u t r x → (q *ℤ pos (2 ^ 56)) ≤ℤ (pos (factor_of t.factors r.power) *ℤ s)
    → (pos (factor_of t.factors r.power) *ℤ s) <ℤ (q *ℤ pos (2 ^ 56) +ℤ pos (2 ^ 56))
    → y ≡ r.size *ℤ (pos (2 ^ 37) *ℤ q)
    → value w x ⊆ around_93 u y (radius_of t (sums_of r))
unfolding value
row_holds w u t r x turn z s q y deep all small h k l v e =
    let m = sine_radius t r in
    let periodic_term = periodic_term_of r.quarters k.angle in
    let near = periodic_term_within w r.quarters k.angle turn (multiples_of t r) z s (half_of t r) small.quarters
    deep h.fits
    h.reduced (width_bound t r small) h.point
    (k.near all) in
    let there = sine_wider s (sine_width (half_of t r)) m (value w periodic_term) (radius_enough t r) near in
    let powered = power_within w t r.power k.factor periodic_term s q m small.power h.greatest h.least l v k.first
    k.second there
    in
    let n = t.factors.greatest.0 * m + width_of t r.power * 2 ^ 37 in
    let sized = sized_within u r.size (pos (2 ^ 37) *ℤ q) n (value w (times_power k.factor r.power periodic_term))
    (value_proper w
    (times_power k.factor r.power periodic_term)) powered in
    rw (e, k.is, ← radius_is t r) sized

-- ---- what a row is at most, whatever its angle
term_most : (w : World) (q : ℕ) (x : Expression)
    → value w (periodic_term_of q x) ⊆ between (units_of_56 (pos 0 -ℤ pos (2 ^ 56)))
    (units_of_56 (pos 0 +ℤ pos (2 ^ 56)))
unfolding value
term_most w zero x = all_hold w.depth (value w x) _ _ (value_proper w x) refl refl
term_most w (suc q) x = all_cosines_hold w.depth (value w x) _ _ (value_proper w x) refl refl

-- the greatest factor of a power
abbrev top_of : MeanFactors → ℕ → ℕ
top_of f zero = 2 ^ 37
top_of f (suc k) = f.greatest.0

plain_most : (i : Interval) → i ⊆ between (units_of_56 (pos 0 -ℤ pos (2 ^ 56))) (units_of_56 (pos 0 +ℤ pos (2 ^ 56)))
    → i ⊆ around_93 0 (pos 0) (2 ^ 37 * 2 ^ 56)
plain_most i k = within_trans k (record {
  endpoints = (
    record { cross = omega (arith, ints) },
    record { cross = omega (arith, ints) },
  );
})

most_corners : (f h g : ℤ) → (f +ℤ h) ≤ℤ (g *ℤ pos (2 ^ 19)) → h ≤ℤ f → pos 0 ≤ℤ h
    → AreCorners f h (pos 0) (pos (2 ^ 56)) (pos 0 -ℤ g *ℤ pos (2 ^ 75)) (pos 0 +ℤ g *ℤ pos (2 ^ 75))
most_corners f h g a b c = record {
  ll = (omega (arith, ints, a, b, c), omega (arith, ints, a, b, c));
  lh = (omega (arith, ints, a, b, c), omega (arith, ints, a, b, c));
  hl = (omega (arith, ints, a, b, c), omega (arith, ints, a, b, c));
  hh = (omega (arith, ints, a, b, c), omega (arith, ints, a, b, c));
}

powered_most : (f h g : ℕ) (i j : Interval) → IsProper i → IsProper j → f + h ≤ g * 2 ^ 19 → h ≤ f → IsFactor f h i
    → j ⊆ between (units_of_56 (pos 0 -ℤ pos (2 ^ 56))) (units_of_56 (pos 0 +ℤ pos (2 ^ 56)))
    → product i j ⊆ around_93 0 (pos 0) (g * 2 ^ 56)
powered_most f h g i j p q a b k m =
    within_trans (product_within p q k m) (endpoints_within (pos f) (pos h) (pos 0) (pos (2 ^ 56)) _ _
    (pos 0 -ℤ pos (g * 2 ^ 56)) (pos 0 +ℤ pos (g * 2 ^ 56))
    (omega (arith, ints)) (omega (arith, ints)) (most_corners (pos f) (pos h) (pos g) (omega (arith, ints, a))
    (omega (arith, ints, b)) (pos_nonneg h)))

power_most : (w : World) (f : MeanFactors) (k : ℕ) (factor x : Expression) → k ≤ 2
    → (k ≡ 1 → IsFactor f.first.0 f.wide.0 (value w factor))
    → (k ≡ 2 → IsFactor f.second.0 f.wide.0 (value w (power factor 2)))
    → value w x ⊆ between (units_of_56 (pos 0 -ℤ pos (2 ^ 56))) (units_of_56 (pos 0 +ℤ pos (2 ^ 56)))
    → value w (times_power factor k x) ⊆ around_93 0 (pos 0) (top_of f k * 2 ^ 56)
unfolding value times_power
power_most w f zero factor x few p q h = plain_most (value w x) h
power_most w f (suc zero) factor x few p q h =
    powered_most f.first.0 f.wide.0 f.greatest.0 (value w factor) (value w x) (value_proper w factor) (value_proper w x)
    f.first_high f.first_low (p refl) h
power_most w f (suc (suc zero)) factor x few p q h =
    powered_most f.second.0 f.wide.0 f.greatest.0 (value w (power factor 2)) (value w x)
    (value_proper w (power factor 2))
    (value_proper w x) f.second_high
    f.second_low (q refl) h
power_most w f (suc (suc (suc k))) factor x few p q h = absurd (omega (arith, few))

without_power : (a d : ℕ) → a * (2 ^ 37 * 2 ^ 56) ≡ (a * 2 ^ 37 + 0 * d) * 2 ^ 56
without_power a d = nat_eq _ _ (ring (pos a ∷ pos d ∷ []) (at 0 ⊗ (lit (pos (2 ^ 37)) ⊗ lit (pos (2 ^ 56))))
    ((at 0 ⊗ lit (pos (2 ^ 37)) ⊕ lit (pos 0) ⊗ at 1)
    ⊗ lit (pos (2 ^ 56))) refl)

more_than_one : (g : ℕ) → 2 ^ 37 ≤ g → g ≡ 2 ^ 37 + (g - 2 ^ 37)
more_than_one g h = omega (arith, h)

with_power : (a g d : ℕ) → g ≡ 2 ^ 37 + d → a * (g * 2 ^ 56) ≡ (a * 2 ^ 37 + a * d) * 2 ^ 56
with_power a g d h = rw h (nat_eq _ _ (ring (pos a ∷ pos d ∷ [])
    (at 0 ⊗ ((lit (pos (2 ^ 37)) ⊕ at 1) ⊗ lit (pos (2 ^ 56)))) ((at 0 ⊗ lit (pos (2 ^ 37)) ⊕
    at 0 ⊗ at 1) ⊗ lit (pos (2 ^ 56))) refl))

most_by : (f : MeanFactors) (z : ℤ) (k : ℕ)
    → unsigned_abs z * (top_of f k * 2 ^ 56) ≡ (unsigned_abs z * 2 ^ 37 + powered_of z k * (f.greatest.0 - 2 ^ 37)) * 2
    ^ 56
most_by f z zero = without_power (unsigned_abs z) (f.greatest.0 - 2 ^ 37)
most_by f z (suc k) = with_power (unsigned_abs z) f.greatest.0 (f.greatest.0 - 2 ^ 37)
    (more_than_one f.greatest.0 f.least)

most_is : (f : MeanFactors) (r : Multiples) → unsigned_abs r.size * (top_of f r.power * 2 ^ 56) ≡ most_of f (sums_of r)
most_is f r = most_by f r.size r.power

times_none : (z : ℤ) → z *ℤ pos 0 ≡ pos 0
times_none z = omega (arith, ints)

pub row_most : (w : World) (u : ℕ) (t : MeanTurns) (r : Multiples) (x : Expression) → IsSmallRow r → IsTerm w u t r x
    → value w x ⊆ around_93 u (pos 0) (most_of t.factors (sums_of r))
unfolding value
row_most w u t r x small k =
    let periodic_term = periodic_term_of r.quarters k.angle in
    let powered = power_most w t.factors r.power k.factor periodic_term small.power k.first k.second
    (term_most w r.quarters k.angle) in
    let sized = sized_within u r.size (pos 0) (top_of t.factors r.power * 2 ^ 56)
    (value w (times_power k.factor r.power periodic_term)) (value_proper w
    (times_power k.factor r.power periodic_term)) powered in
    rw (k.is, ← most_is t.factors r) (rw (times_none r.size) at sized)
