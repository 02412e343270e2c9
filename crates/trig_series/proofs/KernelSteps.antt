-- One step of Horner's form in 64 bits keeps what is near. The product's high half is off by less than one part
-- (`IsHigh`), the square by 112 and the inner number by 320, all times numbers that are known to be small: so the
-- result is off by 320 again. Each side is one certificate over fractions, in which the unit 2^-64 is a variable.
use Rattle.std.proofs.Common.{ℕ, ◌*◌, ◌-◌, ◌^◌, ◌≤◌, refl, arith, ℤ, pos, negsuc, ◌+ℤ◌, ◌-ℤ◌, [], ◌∷◌}
use Rattle.std.proofs.lemmas.Int.{ints}
use Rattle.book_model.specs.Fraction.{Fraction, ◌≤F◌, whole, plus, opposite, times}
use Rattle.book_model.proofs.Ring.{at, lit, ◌⊕◌, ◌⊖◌, ◌⊗◌, minus}
use Rattle.book_model.proofs.Fractions.{le_trans}
use Rattle.book_model.proofs.Same.{le_of_same, ge_of_same}
use Rattle.book_model.proofs.Certificates.{zero_F, ◌≼◌, ◌≗◌, known, multiple, ◌⊞◌, ◌⊠◌, natural, le_by, le_over}
use Rattle.book_model.proofs.Terms.{IsUpTo}
use Rattle.encl_core.specs.Units.{at_64, IsWithinUnits}
use Rattle.encl_core.proofs.HighHalves.{unit, unit_nonneg, at_is, at_more, at_less, IsHigh, product_is, high_below}
use Rattle.encl_core.proofs.HighHalves.{high_above, half_of, count_nonneg}
use Rattle.encl_core.proofs.HighHalves.{from_at, to_more, from_less, rest_is}
use Rattle.trig_series.specs.Kernel.{IsCut, IsAngle, IsSquare}

square_small : (u : Fraction) → u ≤F record { num = pos 16; below = 24 } → times (whole (pos 25)) u ≤F whole (pos 16)
unfolding times
square_small u h = record { cross = omega (arith, ints, h.cross) }

step_above : (c w t h : ℕ) (C U V : Fraction) → IsHigh h w t → h ≤ c → 2 * t ≤ 2 ^ 64 → zero_F ≤F U → IsCut c C
    → IsSquare w U → IsWithinUnits 320 t V →
    at_64 (pos (c - h) -ℤ pos 320) ≤F plus C (opposite (times U V))
step_above c w t h C U V p k l z i s n =
    le_trans _ (times (plus (whole (pos (c - h))) (opposite (whole (pos 320)))) unit) _
    (le_of_same (at_less (pos (c - h)) (pos 320)))
    (le_over 24
    (C ∷ U ∷ V ∷ whole (pos c) ∷ whole (pos w) ∷ whole (pos t) ∷ whole (pos h) ∷ whole (pos (w * t)) ∷ unit ∷ whole
    (pos (c - h)) ∷ [])
    ((at 3 ⊗ at 8 ≼ at 0) ∷ (lit (pos 0) ≼ at 1) ∷ (at 2 ≼ (at 5 ⊕ lit (pos 320)) ⊗ at 8) ∷ (lit (pos 0) ≼ at 5 ⊗ at 8)
    ∷ (at 1 ≼ (at 4 ⊕ lit (pos 112)) ⊗ at 8)
    ∷ (at 7 ⊗ at 8 ≼ at 6 ⊕ lit (pos 1)) ∷ (at 7 ≗ at 4 ⊗ at 5) ∷ (lit (pos 2) ⊗ (at 5 ⊗ at 8) ≼ lit (pos 1))
    ∷ (lit (pos 25) ⊗ at 1 ≼ lit (pos 16)) ∷
    (lit (pos 0) ≼ at 8)
    ∷ (at 9 ≗ at 3 ⊖ at 6) ∷ [])
    ((at 9 ⊖ lit (pos 320)) ⊗ at 8) (at 0 ⊖ at 1 ⊗ at 2)
    (natural 25 ⊠ known 0 ⊞ natural 25 ⊠ known 1 ⊠ known 2 ⊞ natural 25 ⊠ known 3 ⊠ known 4 ⊞ natural 25 ⊠ known 9 ⊠
    known 5 ⊞ multiple 6
    (lit (negsuc 24) ⊗ (at 8 ⊗ at 8))
    ⊞ natural 1400 ⊠ known 9 ⊠ known 7 ⊞ natural 320 ⊠ known 9 ⊠ known 8 ⊞ natural 1455 ⊠ known 9 ⊞ multiple 10
    (lit (pos 25) ⊗ at 8))
    refl (
      from_at (pos c) C i.not_above,
      (
        z,
        (
          to_more (pos t) (pos 320) V n.below,
          (
            count_nonneg t,
            (
              to_more (pos w) (pos 112) U s.close,
              (
                high_above h (w * t) p.close,
                (product_is w t, (half_of t l, (square_small U s.small, (unit_nonneg, (rest_is c h k, tt))))),
              ),
            ),
          ),
        ),
      ),
    ))

step_below : (c w t h : ℕ) (C U V : Fraction) → IsHigh h w t → h ≤ c → zero_F ≤F U → IsCut c C → IsSquare w U
    → IsWithinUnits 320 t V →
    plus C (opposite (times U V)) ≤F at_64 (pos (c - h) +ℤ pos 320)
step_below c w t h C U V p k z i s n =
    le_trans _ (times (plus (whole (pos (c - h))) (whole (pos 320))) unit) _
    (le_over 24
    (C ∷ U ∷ V ∷ whole (pos c) ∷ whole (pos w) ∷ whole (pos t) ∷ whole (pos h) ∷ whole (pos (w * t)) ∷ unit ∷ whole
    (pos (c - h)) ∷ [])
    ((at 0 ≼ (at 3 ⊕ lit (pos 1)) ⊗ at 8) ∷ (lit (pos 0) ≼ at 1) ∷ ((at 5 ⊖ lit (pos 320)) ⊗ at 8 ≼ at 2)
    ∷ (lit (pos 0) ≼ at 5 ⊗ at 8) ∷ (at 4 ⊗ at 8 ≼ at 1)
    ∷ (at 6 ≼ at 7 ⊗ at 8) ∷ (at 7 ≗ at 4 ⊗ at 5) ∷ (lit (pos 25) ⊗ at 1 ≼ lit (pos 16)) ∷ (lit (pos 0) ≼ at 8)
    ∷ (at 9 ≗ at 3 ⊖ at 6) ∷ [])
    (at 0 ⊖ at 1 ⊗ at 2) ((at 9 ⊕ lit (pos 320)) ⊗ at 8)
    (natural 25 ⊠ known 0 ⊞ natural 25 ⊠ known 1 ⊠ known 2 ⊞ natural 25 ⊠ known 3 ⊠ known 4 ⊞ natural 25 ⊠ known 8 ⊠
    known 5 ⊞ multiple 6
    (lit (pos 25) ⊗ (at 8 ⊗ at 8))
    ⊞ natural 320 ⊠ known 8 ⊠ known 7 ⊞ natural 2855 ⊠ known 8 ⊞ multiple 9 (lit (negsuc 24) ⊗ at 8))
    refl (
      to_more (pos c) (pos 1) C i.close,
      (
        z,
        (
          from_less (pos t) (pos 320) V n.above,
          (
            count_nonneg t,
            (
              from_at (pos w) U s.not_above,
              (
                high_below h (w * t) p.not_above,
                (product_is w t, (square_small U s.small, (unit_nonneg, (rest_is c h k, tt)))),
              ),
            ),
          ),
        ),
      ),
    ))
    (ge_of_same (at_more (pos (c - h)) (pos 320)))

pub step_near : (c w t h : ℕ) (C U V : Fraction) → IsHigh h w t → h ≤ c → 2 * t ≤ 2 ^ 64 → zero_F ≤F U → IsCut c C
    → IsSquare w U → IsWithinUnits 320 t V
    → IsWithinUnits 320 (c - h) (plus C (opposite (times U V)))
step_near c w t h C U V p k l z i s n = record {
  above = step_above c w t h C U V p k l z i s n;
  below = step_below c w
      t h C U V p k z i s n;
}

-- ---- the square of an angle
abbrev sixteen : Fraction
sixteen = record { num = pos 16; below = 24 }

angle_nonneg : (a : ℕ) (x : Fraction) → IsAngle a x → zero_F ≤F x
angle_nonneg a x g = le_trans zero_F (at_64 (pos a)) x (record { cross = omega (arith, ints) }) g.not_above

pub angle_fifths : (a : ℕ) (x : Fraction) → IsAngle a x → IsUpTo 4 5 x
unfolding times
angle_fifths a x g =
    record { nonneg = angle_nonneg a x g; bound = record { cross = omega (arith, ints, g.small.cross) } }

over_25 : (u : Fraction) → times (whole (pos 25)) u ≤F whole (pos 16) → u ≤F sixteen
unfolding times
over_25 u h = record { cross = omega (arith, ints, h.cross) }

square_fifths : (x : Fraction) → IsUpTo 4 5 x → times (whole (pos 25)) (times x x) ≤F whole (pos 16)
square_fifths x h =
    le_by (x ∷ []) ((lit (pos 0) ≼ at 0) ∷ (lit (pos 5) ⊗ at 0 ≼ lit (pos 4)) ∷ []) (lit (pos 25) ⊗ (at 0 ⊗ at 0))
    (lit (pos 16))
    (known 1 ⊠ (known 1 ⊞ natural 10 ⊠ known 0)) refl (h.nonneg, (h.bound, tt))

unit_small : times (whole (pos 8192)) unit ≤F whole (pos 1)
unfolding times unit
unit_small = record { cross = record { le = tt } }

count_fifths : (a : ℕ) → a ≤ 14757395258967641292 → times (whole (pos 5)) (times (whole (pos a)) unit) ≤F whole (pos 4)
unfolding times unit
count_fifths a h = record { cross = omega (arith, ints, h) }

square_above : (w a : ℕ) (x : Fraction) → IsHigh w a a → IsAngle a x → at_64 (pos w) ≤F times x x
square_above w a x p g =
    le_trans _ (times (whole (pos w)) unit) _ (le_of_same (at_is (pos w)))
    (le_by (x ∷ whole (pos a) ∷ whole (pos w) ∷ whole (pos (a * a)) ∷ unit ∷ [])
    ((at 1 ⊗ at 4 ≼ at 0) ∷ (lit (pos 0) ≼ at 1 ⊗ at 4) ∷ (at 2 ≼ at 3 ⊗ at 4) ∷ (at 3 ≗ at 1 ⊗ at 1)
    ∷ (lit (pos 0) ≼ at 4) ∷ [])
    (at 2 ⊗ at 4) (at 0 ⊗ at 0)
    (known 0 ⊠ (known 0 ⊞ natural 2 ⊠ known 1) ⊞ known 4 ⊠ known 2 ⊞ multiple 3 (at 4 ⊗ at 4)) refl (
      from_at (pos a) x g.not_above,
      (count_nonneg a, (high_below w (a * a) p.not_above, (product_is a a, (unit_nonneg, tt)))),
    ))

square_below : (w a : ℕ) (x : Fraction) → a ≤ 14757395258967641292 → IsHigh w a a → IsAngle a x
    → times x x ≤F at_64 (pos w +ℤ pos 112)
square_below w a x l p g =
    le_trans _ (times (plus (whole (pos w)) (whole (pos 112))) unit) _
    (le_over 4 (x ∷ whole (pos a) ∷ whole (pos w) ∷ whole (pos (a * a)) ∷ unit ∷ [])
    ((at 0 ≼ (at 1 ⊕ lit (pos 68)) ⊗ at 4) ∷ (lit (pos 0) ≼ at 0) ∷ (lit (pos 0) ≼ at 1 ⊗ at 4)
    ∷ (at 3 ⊗ at 4 ≼ at 2 ⊕ lit (pos 1)) ∷ (at 3 ≗ at 1 ⊗ at 1) ∷
    (lit (pos 0) ≼ at 4)
    ∷ (lit (pos 5) ⊗ (at 1 ⊗ at 4) ≼ lit (pos 4)) ∷ (lit (pos 8192) ⊗ at 4 ≼ lit (pos 1)) ∷ [])
    (at 0 ⊗ at 0) ((at 2 ⊕ lit (pos 112)) ⊗ at 4)
    (natural 5 ⊠ known 0 ⊠ (known 1 ⊞ known 2 ⊞ natural 68 ⊠ known 5) ⊞ natural 5 ⊠ known 5 ⊠ known 3 ⊞ multiple 4
    (lit (negsuc 4) ⊗ (at 4 ⊗ at 4))
    ⊞ natural 136 ⊠ known 5 ⊠ known 6 ⊞ natural 3 ⊠ known 5 ⊠ known 7 ⊞ natural 1456 ⊠ known 5 ⊠ known 5 ⊞ natural 8 ⊠
    known 5) refl (
      to_more (pos a) (pos 68) x g.close,
      (
        angle_nonneg a x g,
        (
          count_nonneg a,
          (high_above w (a * a) p.close, (product_is a a, (unit_nonneg, (count_fifths a l, (unit_small, tt))))),
        ),
      ),
    ))
    (ge_of_same (at_more (pos w) (pos 112)))

pub square_near : (w a : ℕ) (x : Fraction) → a ≤ 14757395258967641292 → IsHigh w a a → IsAngle a x
    → IsSquare w (times x x)
square_near w a x l p g =
    record {
      not_above = square_above w a x p g;
      close = square_below w a x l p g;
      small = over_25 (times x x)
          (square_fifths x (angle_fifths a x g));
    }

-- ---- the product of an angle and what is near
pub product_above : (s a t : ℕ) (x V : Fraction) → IsHigh s a t → IsAngle a x → IsWithinUnits 320 t V
    → at_64 (pos s -ℤ pos 384) ≤F times x V
product_above s a t x V p g n =
    le_trans _ (times (plus (whole (pos s)) (opposite (whole (pos 384)))) unit) _
    (le_of_same (at_less (pos s) (pos 384)))
    (le_by (x ∷ V ∷ whole (pos s) ∷ whole (pos a) ∷ whole (pos t) ∷ whole (pos (a * t)) ∷ unit ∷ [])
    ((at 3 ⊗ at 6 ≼ at 0) ∷ (lit (pos 0) ≼ at 0) ∷ ((at 4 ⊖ lit (pos 320)) ⊗ at 6 ≼ at 1) ∷ (lit (pos 0) ≼ at 4 ⊗ at 6)
    ∷ (at 2 ≼ at 5 ⊗ at 6) ∷
    (at 5 ≗ at 3 ⊗ at 4) ∷ (lit (pos 0) ≼ at 6)
    ∷ (lit (pos 5) ⊗ at 0 ≼ lit (pos 4)) ∷ [])
    ((at 2 ⊖ lit (pos 384)) ⊗ at 6) (at 0 ⊗ at 1)
    (known 1 ⊠ known 2 ⊞ known 3 ⊠ known 0 ⊞ known 6 ⊠ known 4 ⊞ multiple 5 (at 6 ⊗ at 6) ⊞ natural 64 ⊠ known 6 ⊠ known
    7 ⊞ natural 128 ⊠ known 6) refl (
      from_at (pos a) x g.not_above,
      (
        angle_nonneg a x g,
        (
          from_less (pos t) (pos 320) V n.above,
          (
            count_nonneg t,
            (
              high_below s (a * t) p.not_above,
              (
                product_is a t,
                (
                  unit_nonneg,
                  ((angle_fifths a x g).bound, tt),
                ),
              ),
            ),
          ),
        ),
      ),
    ))

count_whole : (t : ℕ) → t ≤ 2 ^ 64 → times (whole (pos t)) unit ≤F whole (pos 1)
unfolding times unit
count_whole t h = record { cross = omega (arith, ints, h) }

pub product_below : (s a t : ℕ) (x V : Fraction) → t ≤ 2 ^ 64 → IsHigh s a t → IsAngle a x → IsWithinUnits 320 t V
    → times x V ≤F at_64 (pos s +ℤ pos 384)
product_below s a t x V l p g n =
    le_trans _ (times (plus (whole (pos s)) (whole (pos 384))) unit) _
    (le_by (x ∷ V ∷ whole (pos s) ∷ whole (pos a) ∷ whole (pos t) ∷ whole (pos (a * t)) ∷ unit ∷ [])
    ((at 0 ≼ (at 3 ⊕ lit (pos 68)) ⊗ at 6) ∷ (lit (pos 0) ≼ at 0) ∷ (at 1 ≼ (at 4 ⊕ lit (pos 320)) ⊗ at 6)
    ∷ (lit (pos 0) ≼ at 4 ⊗ at 6) ∷
    (at 5 ⊗ at 6 ≼ at 2 ⊕ lit (pos 1)) ∷ (at 5 ≗ at 3 ⊗ at 4) ∷ (lit (pos 0) ≼ at 6)
    ∷ (lit (pos 5) ⊗ at 0 ≼ lit (pos 4)) ∷ (at 4 ⊗ at 6 ≼ lit (pos 1)) ∷ [])
    (at 0 ⊗ at 1) ((at 2 ⊕ lit (pos 384)) ⊗ at 6)
    (known 1 ⊠ known 2 ⊞ known 3 ⊠ known 0 ⊞ known 6 ⊠ known 4 ⊞ multiple 5 (minus (at 6 ⊗ at 6)) ⊞ natural 64 ⊠ known 6
    ⊠ known 7 ⊞ natural 68 ⊠ known 6 ⊠
    known 8 ⊞ natural 59 ⊠ known 6) refl (
      to_more (pos a) (pos 68) x g.close,
      (
        angle_nonneg a x g,
        (
          to_more (pos t) (pos 320) V n.below,
          (
            count_nonneg t,
            (
              high_above s (a * t) p.close,
              (
                product_is a t,
                (
                  unit_nonneg,
                  ((angle_fifths a x g).bound, (count_whole t l, tt)),
                ),
              ),
            ),
          ),
        ),
      ),
    ))
    (ge_of_same (at_more (pos s) (pos 384)))
