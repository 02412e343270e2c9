-- Degrees in radians, and the series over them. Pi is replaced by its two neighbours in units of 2^-56: so degrees in
-- radians lie between two fractions, and a count of 64 bits is within 68 parts of both. A series over an interval of
-- angles lies between its endpoints at the interval's ends, since both move one way in the first octant.
use Rattle.std.proofs.Common.{◌≡◌, ℕ, zero, suc, ◌+◌, ◌*◌, ◌/◌, ◌^◌, ◌≤◌, refl, arith, pos, ◌+ℤ◌, ◌-ℤ◌}
use Rattle.std.proofs.lemmas.Int.{ints}
use Rattle.book_model.specs.Fraction.{Fraction, ◌≤F◌, times}
use Rattle.book_model.specs.Interval.{Interval, everything, between, IsMember, IsProper, ◌⊆◌, product, least, greatest}
use Rattle.book_model.specs.Sums.{one_over}
use Rattle.book_model.proofs.Fractions.{le_refl, le_trans, smaller_keeps, larger_keeps}
use Rattle.book_model.proofs.Intervals.{within_trans, within_refl, product_within, product_proper, least_is}
use Rattle.book_model.proofs.Intervals.{greatest_is}
use Rattle.book_model.proofs.Certificates.{zero_F}
use Rattle.book_model.specs.numbers.Series.{sine_series, cosine_series, pi_at, four_fifths}
use Rattle.book_model.specs.programs.Leading.{units_of_56}
use Rattle.book_model.specs.numbers.Octants.{only, radians}
use Rattle.book_model.proofs.Pi.{binary, pi_number, pi_proper}
use Rattle.book_model.proofs.SeriesNesting.{inside_in}
use Rattle.book_model.proofs.OctantHulls.{radians_proper, radians_inside}
use Rattle.encl_core.specs.Units.{at_64}
use Rattle.encl_core.specs.parts.TheConstants.{OCTANT}
use Rattle.trig_series.specs.Kernel.{IsAngle, AreSineEndpoints, AreCosineEndpoints, in_radians, in_radians_above}
use Rattle.trig_series.specs.Kernel.{IsInRadians}

pub endpoints_product : (r lo hi : Fraction) (c d : Fraction) → IsMember (times r lo) (between c d)
    → IsMember (times r hi) (between c d)
    → product (only r) (between lo hi) ⊆ between c d
unfolding product
endpoints_product r lo hi c d m n =
    record { endpoints = (least_is c _ _ _ _ m.0 n.0 m.0 n.0, greatest_is d _ _ _ _ m.1 n.1 m.1 n.1) }

endpoints_keep : (P : Fraction → Type 0) (a b c : Fraction) → P (times a c) → P (times b c)
    → P (least (times a c) (times a c) (times b c) (times b c))
    × P (greatest (times a c) (times a c) (times b c) (times b c))
unfolding least greatest
endpoints_keep P a b c x y = (
  smaller_keeps P _ _ (smaller_keeps P _ _ x x) (smaller_keeps P _ _ y y),
  larger_keeps P _ _
      (larger_keeps P _ _ x x) (larger_keeps P _ _ y y),
)

pub product_endpoints : (a b c : Fraction)
    → product (between a b) (only c) ≡ between (least (times a c) (times a c) (times b c) (times b c))
    (greatest (times a c) (times a c) (times b c) (times b c))
unfolding product
product_endpoints a b c = refl

-- ---- an angle's count, from below and above, by either neighbour of pi
low_below : (d h : ℕ) → d ≤ OCTANT → h * 2 ^ 64 ≤ 41210421805949854240 * d
    → at_64 (pos (h * 2)) ≤F times (units_of_56 (pos d)) (times (binary 226375608064910088) (one_over 179))
unfolding times
low_below d h l p = record { cross = omega (arith, ints, l, p) }

high_above : (d h : ℕ) → d ≤ OCTANT → 41210421805949854240 * d ≤ h * 2 ^ 64 + 2 ^ 64
    → times (units_of_56 (pos d)) (times (binary 226375608064910089) (one_over 179)) ≤F at_64 (pos (h * 2) +ℤ pos 68)
unfolding times
high_above d h l q = record { cross = omega (arith, ints, l, q) }

pub neighbours : (d : ℕ)
    → times (units_of_56 (pos d)) (times (binary 226375608064910088) (one_over 179)) ≤F times (units_of_56 (pos d))
    (times (binary 226375608064910089) (one_over 179))
unfolding times
neighbours d = record { cross = omega (arith, ints) }

abbrev pub turn : Interval
turn = between (binary 226375608064910088) (binary 226375608064910089)

abbrev pub angles : ℕ → Interval
angles h = between (at_64 (pos (h * 2))) (at_64 (pos (h * 2) +ℤ pos 68))

turn_over : (d : ℕ) → product (only (units_of_56 (pos d))) (product turn (only (one_over 179))) ⊆ between (in_radians d)
    (in_radians_above d)
turn_over d =
    let m = endpoints_keep (λ z. IsMember (times (units_of_56 (pos d)) z) (between (in_radians d) (in_radians_above d)))
    (binary 226375608064910088)
    (binary 226375608064910089) (one_over 179)
    (le_refl (in_radians d), neighbours d) (neighbours d, le_refl (in_radians_above d)) in
    rw (product_endpoints (binary 226375608064910088) (binary 226375608064910089) (one_over 179))
    (endpoints_product (units_of_56 (pos d)) _ _ _ _ m.0 m.1)

pub turn_proper : IsProper turn
turn_proper = record { cross = omega (arith, ints) }

-- the radians of so many degrees lie between those by the neighbours of pi
pub radians_over : (n d : ℕ) → 12 ≤ n → radians n (units_of_56 (pos d)) ⊆ between (in_radians d) (in_radians_above d)
unfolding radians
radians_over n d m =
    within_trans
    (product_within (le_refl (units_of_56 (pos d))) (product_proper (pi_at n) (only (one_over 179)) (pi_proper n)
    (le_refl (one_over 179)))
    (within_refl (only (units_of_56 (pos d))))
    (product_within (pi_proper n) (le_refl (one_over 179)) (pi_number n m) (within_refl (only (one_over 179)))))
    (turn_over d)

-- and in the 68 parts above the angle's count
pub radians_near : (n d h : ℕ) → 12 ≤ n → d ≤ OCTANT → h * 2 ^ 64 ≤ 41210421805949854240 * d
    → 41210421805949854240 * d ≤ h * 2 ^ 64 + 2 ^ 64
    → radians n (units_of_56 (pos d)) ⊆ angles h
radians_near n d h m l p q = within_trans (radians_over n d m)
    (record { endpoints = (low_below d h l p, high_above d h l q) })

-- ---- the series over an interval of angles
pub sine_over : (n a s : ℕ) (i : Interval) → IsProper i → i ⊆ between (at_64 (pos a)) (at_64 (pos a +ℤ pos 68))
    → i ⊆ between zero_F four_fifths
    → ((x : Fraction) → IsAngle a x → AreSineEndpoints x s n)
    → sine_series n i ⊆ between (at_64 (pos s -ℤ pos 384)) (at_64 (pos s +ℤ pos 384))
unfolding sine_series
sine_over n a s everything p h k f = absurd h.endpoints
sine_over n a s (between x y) p h k f =
    rw (inside_in zero_F four_fifths x y (record { above = k.endpoints.0; below = k.endpoints.1 }))
    (record {
      endpoints = (
        (f x (record {
          not_above = h.endpoints.0;
          close = le_trans _ _ _ p h.endpoints.1;
          small = le_trans _ _ _ p
              k.endpoints.1;
        })).low,
        (f y (record {
          not_above = le_trans _ _ _ h.endpoints.0 p;
          close = h.endpoints.1;
          small = k.endpoints.1;
        })).high,
      );
    })

pub cosine_over : (n a s : ℕ) (i : Interval) → IsProper i → i ⊆ between (at_64 (pos a)) (at_64 (pos a +ℤ pos 68))
    → i ⊆ between zero_F four_fifths
    → ((x : Fraction) → IsAngle a x → AreCosineEndpoints x s n)
    → cosine_series n i ⊆ between (at_64 (pos s -ℤ pos 320)) (at_64 (pos s +ℤ pos 320))
unfolding cosine_series
cosine_over n a s everything p h k f = absurd h.endpoints
cosine_over n a s (between x y) p h k f =
    rw (inside_in zero_F four_fifths x y (record { above = k.endpoints.0; below = k.endpoints.1 }))
    (record {
      endpoints = (
        (f y (record { not_above = le_trans _ _ _ h.endpoints.0 p; close = h.endpoints.1; small = k.endpoints.1 })).low,
        (f x (record {
          not_above = h.endpoints.0;
          close = le_trans _ _ _ p h.endpoints.1;
          small = le_trans _ _ _ p
              k.endpoints.1;
        })).high,
      );
    })

pub octant_inside : (n d : ℕ) → 12 ≤ n → d ≤ OCTANT → radians n (units_of_56 (pos d)) ⊆ between zero_F four_fifths
octant_inside zero d h l = absurd (omega (arith, h))
octant_inside (suc n) d h l = radians_inside n (units_of_56 (pos d)) (record { cross = omega (arith, ints) })
    (record { cross = omega (arith, ints, l) })

pub sine_there : (n d a s : ℕ) → 12 ≤ n → d ≤ OCTANT → radians n (units_of_56 (pos d)) ⊆ between (at_64 (pos a))
    (at_64 (pos a +ℤ pos 68))
    → ((x : Fraction) → 8 ≤ n → IsAngle a x → AreSineEndpoints x s n)
    → sine_series n (radians n (units_of_56 (pos d))) ⊆ between (at_64 (pos s -ℤ pos 384)) (at_64 (pos s +ℤ pos 384))
sine_there n d a s m l h f = sine_over n a s _ (radians_proper n (units_of_56 (pos d))) h (octant_inside n d m l)
    (λ x t. f x (omega (arith, m)) t)

pub cosine_there : (n d a s : ℕ) → 12 ≤ n → d ≤ OCTANT → radians n (units_of_56 (pos d)) ⊆ between (at_64 (pos a))
    (at_64 (pos a +ℤ pos 68))
    → ((x : Fraction) → 9 ≤ n → IsAngle a x → AreCosineEndpoints x s n)
    → cosine_series n (radians n (units_of_56 (pos d))) ⊆ between (at_64 (pos s -ℤ pos 320)) (at_64 (pos s +ℤ pos 320))
cosine_there n d a s m l h f = cosine_over n a s _ (radians_proper n (units_of_56 (pos d))) h (octant_inside n d m l)
    (λ x t. f x (omega (arith, m)) t)

pub angle_there : (n d w h a : ℕ) → 12 ≤ n → d ≤ OCTANT → w ≡ d * 4 → h ≡ w * 10302605451487463560 / 2 ^ 64 → a ≡ h * 2
    → radians n (units_of_56 (pos d)) ⊆ between (at_64 (pos a)) (at_64 (pos a +ℤ pos 68))
angle_there n d w h a m l e f g = rw g (radians_near n d h m l (omega (arith, e, f)) (omega (arith, e, f)))

-- ---- the angles between those by the neighbours of pi
pub radians_small : (d : ℕ) → d ≤ OCTANT → in_radians_above d ≤F four_fifths
unfolding times
radians_small d l = record { cross = omega (arith, ints, l) }

pub by_lower : (d : ℕ) → IsInRadians d (in_radians d)
by_lower d = record { above = le_refl (in_radians d); below = neighbours d }

pub by_upper : (d : ℕ) → IsInRadians d (in_radians_above d)
by_upper d = record { above = neighbours d; below = le_refl (in_radians_above d) }

pub angle_between : (d w h a : ℕ) (x : Fraction) → d ≤ OCTANT → w ≡ d * 4 → h ≡ w * 10302605451487463560 / 2 ^ 64
    → a ≡ h * 2 → IsInRadians d x → IsAngle a x
angle_between d w h a x l e f g t =
    rw g
    (record {
      not_above = le_trans _ _ _ (low_below d h l (omega (arith, e, f))) t.above;
      close = le_trans _ _ _ t.below (high_above d h l (omega (arith, e, f)));
      small = le_trans _ _ _ t.below (radians_small d l);
    })
