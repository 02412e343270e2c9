-- One step of Horner's form in 64 bits keeps what is near, and so do the square before it and the product after it. An
-- inner number that is off by 4 is multiplied by a square of at most a quarter, and so is off by 1; the roundings of
-- the coefficient, of the square and of the product add at most 1 each: the result is off by 4 again. Each side is one
-- certificate over fractions, in which the unit 2^-64 is a variable.
use Rattle.std.proofs.Common.{ℕ, suc, ◌*◌, ◌-◌, ◌^◌, ◌≤◌, refl, arith, ℤ, pos, negsuc, ◌+ℤ◌, ◌-ℤ◌, ◌≤ℤ◌, [], ◌∷◌}
use Rattle.std.proofs.lemmas.Int.{ints}
use Rattle.book_model.specs.Fraction.{Fraction, ◌≤F◌, whole, plus, opposite, times}
use Rattle.book_model.specs.Sums.{one_over}
use Rattle.book_model.proofs.Ring.{at, lit, ◌⊕◌, ◌⊖◌, ◌⊗◌}
use Rattle.book_model.proofs.Fractions.{le_trans}
use Rattle.book_model.proofs.Same.{le_of_same, ge_of_same}
use Rattle.book_model.proofs.Certificates.{zero_F, ◌≼◌, ◌≗◌, known, multiple, ◌⊞◌, ◌⊠◌, natural, le_by, le_over}
use Rattle.encl_core.specs.Units.{at_64, IsWithinUnits}
use Rattle.encl_core.proofs.HighHalves.{unit, unit_nonneg, at_is, at_more, at_less, IsHigh, product_is, high_below}
use Rattle.encl_core.proofs.HighHalves.{high_above, half_of, count_nonneg}
use Rattle.encl_core.proofs.HighHalves.{from_at, to_more, from_less, rest_is}
use Rattle.arc_series.specs.Kernel.{IsCut, IsNumber, IsSquare, nested}

unit_small : unit ≤F whole (pos 1)
unfolding unit
unit_small = record { cross = omega (arith, ints) }

pub count_whole : (t : ℕ) → t ≤ 2 ^ 64 → times (whole (pos t)) unit ≤F whole (pos 1)
unfolding times unit
count_whole t h = record { cross = omega (arith, ints, h) }

quarter_of : (u : Fraction) → u ≤F record { num = pos 1; below = 3 } → times (whole (pos 4)) u ≤F whole (pos 1)
unfolding times
quarter_of u h = record { cross = omega (arith, ints, h.cross) }

to_quarter : (u : Fraction) → times (whole (pos 4)) u ≤F whole (pos 1) → u ≤F record { num = pos 1; below = 3 }
unfolding times
to_quarter u h = record { cross = omega (arith, ints, h.cross) }

square_nonneg : (w : ℕ) (u : Fraction) → IsSquare w u → zero_F ≤F u
square_nonneg w u s = le_trans zero_F (at_64 (pos w)) u (record { cross = omega (arith, ints) }) s.not_above

step_above : (c w t h : ℕ) (C U V : Fraction) → IsHigh h w t → h ≤ c → 2 * t ≤ 2 ^ 64 → at_64 (pos c) ≤F C
    → IsSquare w U → IsWithinUnits 4 t V →
    at_64 (pos (c - h) -ℤ pos 4) ≤F plus C (opposite (times U V))
step_above c w t h C U V p k l i s n =
    le_trans _ (times (plus (whole (pos (c - h))) (opposite (whole (pos 4)))) unit) _
    (le_of_same (at_less (pos (c - h)) (pos 4)))
    (le_over 1
    (C ∷ U ∷ V ∷ whole (pos c) ∷ whole (pos w) ∷ whole (pos t) ∷ whole (pos h) ∷ whole (pos (w * t)) ∷ unit ∷ whole
    (pos (c - h)) ∷ [])
    ((at 3 ⊗ at 8 ≼ at 0) ∷ (lit (pos 0) ≼ at 1) ∷ (at 2 ≼ (at 5 ⊕ lit (pos 4)) ⊗ at 8) ∷ (lit (pos 0) ≼ at 5 ⊗ at 8)
    ∷ (at 1 ≼ (at 4 ⊕ lit (pos 3)) ⊗ at 8)
    ∷ (at 7 ⊗ at 8 ≼ at 6 ⊕ lit (pos 1)) ∷ (at 7 ≗ at 4 ⊗ at 5) ∷ (lit (pos 2) ⊗ (at 5 ⊗ at 8) ≼ lit (pos 1))
    ∷ (lit (pos 4) ⊗ at 1 ≼ lit (pos 1)) ∷
    (lit (pos 0) ≼ at 8)
    ∷ (at 9 ≗ at 3 ⊖ at 6) ∷ [])
    ((at 9 ⊖ lit (pos 4)) ⊗ at 8) (at 0 ⊖ at 1 ⊗ at 2)
    (natural 2 ⊠ known 0 ⊞ natural 2 ⊠ known 1 ⊠ known 2 ⊞ natural 2 ⊠ known 3 ⊠ known 4 ⊞ natural 2 ⊠ known 9 ⊠ known 5
    ⊞ multiple 6
    (lit (negsuc 1) ⊗ (at 8 ⊗ at 8))
    ⊞ natural 3 ⊠ known 9 ⊠ known 7 ⊞ natural 2 ⊠ known 9 ⊠ known 8 ⊞ known 9 ⊞ multiple 10 (lit (pos 2) ⊗ at 8))
    refl (
      from_at (pos c) C i,
      (
        square_nonneg w U s,
        (
          to_more (pos t) (pos 4) V n.below,
          (
            count_nonneg t,
            (
              to_more (pos w) (pos 3) U s.close,
              (
                high_above h (w * t) p.close,
                (product_is w t, (half_of t l, (quarter_of U s.small, (unit_nonneg, (rest_is c h k, tt))))),
              ),
            ),
          ),
        ),
      ),
    ))

step_below : (c w t h : ℕ) (C U V : Fraction) → IsHigh h w t → h ≤ c → C ≤F at_64 (pos c +ℤ pos 1) → IsSquare w U
    → IsWithinUnits 4 t V →
    plus C (opposite (times U V)) ≤F at_64 (pos (c - h) +ℤ pos 4)
step_below c w t h C U V p k i s n =
    le_trans _ (times (plus (whole (pos (c - h))) (whole (pos 4))) unit) _
    (le_by
    (C ∷ U ∷ V ∷ whole (pos c) ∷ whole (pos w) ∷ whole (pos t) ∷ whole (pos h) ∷ whole (pos (w * t)) ∷ unit ∷ whole
    (pos (c - h)) ∷ [])
    ((at 0 ≼ (at 3 ⊕ lit (pos 1)) ⊗ at 8) ∷ (lit (pos 0) ≼ at 1) ∷ ((at 5 ⊖ lit (pos 4)) ⊗ at 8 ≼ at 2)
    ∷ (lit (pos 0) ≼ at 5 ⊗ at 8) ∷ (at 4 ⊗ at 8 ≼ at 1)
    ∷ (at 6 ≼ at 7 ⊗ at 8) ∷ (at 7 ≗ at 4 ⊗ at 5) ∷ (lit (pos 4) ⊗ at 1 ≼ lit (pos 1)) ∷ (lit (pos 0) ≼ at 8)
    ∷ (at 9 ≗ at 3 ⊖ at 6) ∷ [])
    (at 0 ⊖ at 1 ⊗ at 2) ((at 9 ⊕ lit (pos 4)) ⊗ at 8)
    (known 0 ⊞ known 1 ⊠ known 2 ⊞ known 3 ⊠ known 4 ⊞ known 8 ⊠ known 5 ⊞ multiple 6 (at 8 ⊗ at 8)
    ⊞ known 8 ⊠ known 7 ⊞ natural 2 ⊠ known 8 ⊞ multiple 9 (lit (negsuc 0) ⊗ at 8))
    refl (
      to_more (pos c) (pos 1) C i,
      (
        square_nonneg w U s,
        (
          from_less (pos t) (pos 4) V n.above,
          (
            count_nonneg t,
            (
              from_at (pos w) U s.not_above,
              (
                high_below h (w * t) p.not_above,
                (product_is w t, (quarter_of U s.small, (unit_nonneg, (rest_is c h k, tt)))),
              ),
            ),
          ),
        ),
      ),
    ))
    (ge_of_same (at_more (pos (c - h)) (pos 4)))

pub step_near : (c w t h d : ℕ) (U V : Fraction) → IsHigh h w t → h ≤ c → 2 * t ≤ 2 ^ 64 → IsCut c d → IsSquare w U
    → IsWithinUnits 4 t V
    → IsWithinUnits 4 (c - h) (plus (one_over d) (opposite (times U V)))
step_near c w t h d U V p k l i s n =
    record {
      above = step_above c w t h (one_over d) U V p k l i.not_above s n;
      below = step_below c w t h (one_over d)
          U V p k i.close s n;
    }

-- ---- the chain of steps
at_mono : (a b : ℤ) → a ≤ℤ b → at_64 a ≤F at_64 b
at_mono a b h = record { cross = omega (arith, ints, h) }

pub innermost : (c d : ℕ) (u : Fraction) → IsCut c d → IsWithinUnits 4 c (nested u d 0)
unfolding nested
innermost c d u i = record {
  above = le_trans _ _ _ (at_mono (pos c -ℤ pos 4) (pos c) (omega (arith, ints))) i.not_above;
  below = le_trans _ _ _ i.close (at_mono (pos c +ℤ pos 1) (pos c +ℤ pos 4) (omega (arith, ints)));
}

-- what the code's step keeps
abbrev pub Keeps : (coefficient square inner result : ℕ) → Type 0
Keeps c w t r = (d : ℕ) (u v : Fraction) → IsCut c d → IsSquare w u → IsWithinUnits 4 t v
    → IsWithinUnits 4 r (plus (one_over d) (opposite (times u v)))

pub next : (d m c w t r : ℕ) (u : Fraction) → Keeps c w t r → IsCut c d → IsSquare w u
    → IsWithinUnits 4 t (nested u (suc (suc d)) m)
    → IsWithinUnits 4 r (nested u d (suc m))
unfolding nested
next d m c w t r u k i s n = k d u (nested u (suc (suc d)) m) i s n

-- ---- the square of a number
number_nonneg : (q : ℕ) (x : Fraction) → IsNumber q x → zero_F ≤F x
number_nonneg q x g = le_trans zero_F (at_64 (pos q)) x (record { cross = omega (arith, ints) }) g.not_above

number_half : (q : ℕ) (x : Fraction) → IsNumber q x → times (whole (pos 2)) x ≤F whole (pos 1)
unfolding times
number_half q x g = record { cross = omega (arith, ints, g.small.cross) }

square_above : (w q : ℕ) (x : Fraction) → IsHigh w q q → IsNumber q x → at_64 (pos w) ≤F times x x
square_above w q x p g =
    le_trans _ (times (whole (pos w)) unit) _ (le_of_same (at_is (pos w)))
    (le_by (x ∷ whole (pos q) ∷ whole (pos w) ∷ whole (pos (q * q)) ∷ unit ∷ [])
    ((at 1 ⊗ at 4 ≼ at 0) ∷ (lit (pos 0) ≼ at 1 ⊗ at 4) ∷ (at 2 ≼ at 3 ⊗ at 4) ∷ (at 3 ≗ at 1 ⊗ at 1)
    ∷ (lit (pos 0) ≼ at 4) ∷ [])
    (at 2 ⊗ at 4) (at 0 ⊗ at 0)
    (known 0 ⊠ (known 0 ⊞ natural 2 ⊠ known 1) ⊞ known 4 ⊠ known 2 ⊞ multiple 3 (at 4 ⊗ at 4)) refl (
      from_at (pos q) x g.not_above,
      (count_nonneg q, (high_below w (q * q) p.not_above, (product_is q q, (unit_nonneg, tt)))),
    ))

square_below : (w q : ℕ) (x : Fraction) → 2 * q ≤ 2 ^ 64 → IsHigh w q q → IsNumber q x
    → times x x ≤F at_64 (pos w +ℤ pos 3)
square_below w q x l p g =
    le_trans _ (times (plus (whole (pos w)) (whole (pos 3))) unit) _
    (le_by (x ∷ whole (pos q) ∷ whole (pos w) ∷ whole (pos (q * q)) ∷ unit ∷ [])
    ((at 0 ≼ (at 1 ⊕ lit (pos 1)) ⊗ at 4) ∷ (lit (pos 0) ≼ at 0) ∷ (lit (pos 0) ≼ at 1 ⊗ at 4)
    ∷ (at 3 ⊗ at 4 ≼ at 2 ⊕ lit (pos 1)) ∷ (at 3 ≗ at 1 ⊗ at 1) ∷
    (lit (pos 0) ≼ at 4)
    ∷ (lit (pos 2) ⊗ (at 1 ⊗ at 4) ≼ lit (pos 1)) ∷ (at 4 ≼ lit (pos 1)) ∷ [])
    (at 0 ⊗ at 0) ((at 2 ⊕ lit (pos 3)) ⊗ at 4)
    (known 0 ⊠ (known 1 ⊞ known 2 ⊞ known 5) ⊞ known 5 ⊠ known 3 ⊞ multiple 4 (lit (negsuc 0) ⊗ (at 4 ⊗ at 4)) ⊞ known 5
    ⊠ known 6 ⊞ known 5 ⊠ known 7) refl (
      to_more (pos q) (pos 1) x g.close,
      (
        number_nonneg q x g,
        (
          count_nonneg q,
          (high_above w (q * q) p.close, (product_is q q, (unit_nonneg, (half_of q l, (unit_small, tt))))),
        ),
      ),
    ))
    (ge_of_same (at_more (pos w) (pos 3)))

square_quarter : (x : Fraction) → zero_F ≤F x → times (whole (pos 2)) x ≤F whole (pos 1)
    → times (whole (pos 4)) (times x x) ≤F whole (pos 1)
square_quarter x h k =
    le_by (x ∷ []) ((lit (pos 0) ≼ at 0) ∷ (lit (pos 2) ⊗ at 0 ≼ lit (pos 1)) ∷ []) (lit (pos 4) ⊗ (at 0 ⊗ at 0))
    (lit (pos 1))
    (known 1 ⊠ (known 1 ⊞ natural 4 ⊠ known 0)) refl (h, (k, tt))

pub square_near : (w q : ℕ) (x : Fraction) → 2 * q ≤ 2 ^ 64 → IsHigh w q q → IsNumber q x → IsSquare w (times x x)
square_near w q x l p g = record {
  not_above = square_above w q x p g;
  close = square_below w q x l p g;
  small = to_quarter (times x x) (square_quarter x (number_nonneg q x g) (number_half q x g));
}

-- ---- the product of a number and what is near
pub product_above : (s q t : ℕ) (x V : Fraction) → IsHigh s q t → IsNumber q x → IsWithinUnits 4 t V
    → times (plus (whole (pos s)) (opposite (whole (pos 2)))) unit ≤F times x V
product_above s q t x V p g n =
    le_by (x ∷ V ∷ whole (pos s) ∷ whole (pos q) ∷ whole (pos t) ∷ whole (pos (q * t)) ∷ unit ∷ [])
    ((at 3 ⊗ at 6 ≼ at 0) ∷ (lit (pos 0) ≼ at 0) ∷ ((at 4 ⊖ lit (pos 4)) ⊗ at 6 ≼ at 1) ∷ (lit (pos 0) ≼ at 4 ⊗ at 6)
    ∷ (at 2 ≼ at 5 ⊗ at 6) ∷
    (at 5 ≗ at 3 ⊗ at 4) ∷ (lit (pos 0) ≼ at 6)
    ∷ (lit (pos 2) ⊗ at 0 ≼ lit (pos 1)) ∷ [])
    ((at 2 ⊖ lit (pos 2)) ⊗ at 6) (at 0 ⊗ at 1)
    (known 1 ⊠ known 2 ⊞ known 3 ⊠ known 0 ⊞ known 6 ⊠ known 4 ⊞ multiple 5 (at 6 ⊗ at 6) ⊞ natural 2 ⊠ known 6 ⊠ known
    7) refl (
      from_at (pos q) x g.not_above,
      (
        number_nonneg q x g,
        (
          from_less (pos t) (pos 4) V n.above,
          (
            count_nonneg t,
            (high_below s (q * t) p.not_above, (product_is q t, (unit_nonneg, (number_half q x g, tt)))),
          ),
        ),
      ),
    )

pub product_below : (s q t : ℕ) (x V : Fraction) → t ≤ 2 ^ 64 → IsHigh s q t → IsNumber q x → IsWithinUnits 4 t V
    → times x V ≤F times (plus (whole (pos s)) (whole (pos 4))) unit
product_below s q t x V l p g n =
    le_by (x ∷ V ∷ whole (pos s) ∷ whole (pos q) ∷ whole (pos t) ∷ whole (pos (q * t)) ∷ unit ∷ [])
    ((at 0 ≼ (at 3 ⊕ lit (pos 1)) ⊗ at 6) ∷ (lit (pos 0) ≼ at 0) ∷ (at 1 ≼ (at 4 ⊕ lit (pos 4)) ⊗ at 6)
    ∷ (lit (pos 0) ≼ at 4 ⊗ at 6) ∷
    (at 5 ⊗ at 6 ≼ at 2 ⊕ lit (pos 1)) ∷ (at 5 ≗ at 3 ⊗ at 4) ∷ (lit (pos 0) ≼ at 6)
    ∷ (lit (pos 2) ⊗ at 0 ≼ lit (pos 1)) ∷ (at 4 ⊗ at 6 ≼ lit (pos 1)) ∷ [])
    (at 0 ⊗ at 1) ((at 2 ⊕ lit (pos 4)) ⊗ at 6)
    (known 1 ⊠ known 2 ⊞ known 3 ⊠ known 0 ⊞ known 6 ⊠ known 4 ⊞ multiple 5 (lit (negsuc 0) ⊗ (at 6 ⊗ at 6)) ⊞ natural 2
    ⊠ known 6 ⊠ known 7 ⊞ known 6 ⊠ known
    8) refl (
      to_more (pos q) (pos 1) x g.close,
      (
        number_nonneg q x g,
        (
          to_more (pos t) (pos 4) V n.below,
          (
            count_nonneg t,
            (
              high_above s (q * t) p.close,
              (product_is q t, (unit_nonneg, (number_half q x g, (count_whole t l, tt)))),
            ),
          ),
        ),
      ),
    )
