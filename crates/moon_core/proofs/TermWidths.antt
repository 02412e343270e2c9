-- How wide the sums of the moon's terms are at the scale 2^-56: the angles of a moment are close, and the bounds of
-- elements beside such a sum.
use Rattle.std.specs.Prelude.{◌≡◌, ℕ, ◌+◌, ◌*◌, ◌^◌, ◌≤◌, true, refl, pos, neg_ℤ}
use Rattle.std.proofs.Common.{arith}
use Rattle.book_model.specs.Interval.{Interval}
use Rattle.book_model.specs.declared.moon_tables.TheConstants.{ECCENTRICITY_FACTOR, ELONGATION, LATITUDE_ARGUMENT}
use Rattle.book_model.specs.declared.moon_tables.TheConstants.{MOON_ANOMALY, MOON_LONGITUDE, SUN_ANOMALY}
use Rattle.book_model.specs.numbers.Bounds.{Bound, bounded, implies, bound_of, limits_at, limits_of, constant_bound}
use Rattle.book_model.specs.numbers.Bounds.{sum_bound, difference_bound, scaled_bound, product_bound, power_bound}
use Rattle.book_model.specs.numbers.Expressions.{Expression, argument}
use Rattle.book_model.specs.numbers.Polynomials.{quadratic_of}
use Rattle.book_model.specs.numbers.Relations.{Narrow, Keeps}
use Rattle.book_model.specs.programs.Widths.{IsAbout}
use Rattle.encl_core.proofs.Measuring.{measured, sloped}
use Rattle.periodic_terms.specs.Widths.{AreClose}
use Rattle.sun_core.specs.Daily.{in_centuries, has_daily, by_centuries, by_days}
use Rattle.sun_core.proofs.Measured.{tabled, days_of}
use Rattle.moon_core.specs.Angles.{KeepAngles}
use Rattle.moon_core.specs.Daily.{daily_angles_of, daily_quartic_of, daily_cubic_of}
use Rattle.moon_core.specs.Elements.{AreMeasured}
use Rattle.moon_core.specs.Widths.{days_and}
use Rattle.periodic_terms.specs.declared.mean.MeanAngles.{MeanAngles}
use Rattle.moon_core.specs.declared.elements.MoonElements.{MoonElements}

-- ---- the angles: each at most 13.25 times as wide as the moment
abbrev angle_bound : Bound
angle_bound = bounded (neg_ℤ (pos (2 ^ 57))) (pos (2 ^ 57)) (53 * 2 ^ 38) (2 ^ 16)

elongation_reach : implies (bound_of (limits_at 56) tabled (daily_quartic_of ELONGATION days_of)) angle_bound ≡ true
unfolding implies bound_of constant_bound sum_bound difference_bound scaled_bound product_bound power_bound
    daily_quartic_of by_days has_daily by_centuries
    in_centuries
elongation_reach = refl

sun_reach : implies (bound_of (limits_at 56) tabled (daily_cubic_of SUN_ANOMALY days_of)) angle_bound ≡ true
unfolding implies bound_of constant_bound sum_bound difference_bound scaled_bound product_bound power_bound
    daily_cubic_of by_days has_daily by_centuries
    in_centuries
sun_reach = refl

moon_reach : implies (bound_of (limits_at 56) tabled (daily_quartic_of MOON_ANOMALY days_of)) angle_bound ≡ true
unfolding implies bound_of constant_bound sum_bound difference_bound scaled_bound product_bound power_bound
    daily_quartic_of by_days has_daily by_centuries
    in_centuries
moon_reach = refl

argument_reach : implies (bound_of (limits_at 56) tabled (daily_quartic_of LATITUDE_ARGUMENT days_of)) angle_bound
    ≡ true
unfolding implies bound_of constant_bound sum_bound difference_bound scaled_bound product_bound power_bound
    daily_quartic_of by_days has_daily by_centuries
    in_centuries
argument_reach = refl

eccentricity_reach : implies (bound_of (limits_at 56) tabled (quadratic_of ECCENTRICITY_FACTOR (in_centuries days_of)))
    (bounded (pos (3 * 2 ^ 30)) (pos (35 * 2 ^ 27)) (2 ^ 18) (2 ^ 16)) ≡ true
unfolding implies bound_of constant_bound sum_bound difference_bound scaled_bound product_bound power_bound quadratic_of
    in_centuries
eccentricity_reach = refl

module _ {E : Type 0} (shown : E → Interval) (n v : ℕ) (e : n ≡ 56) where
  angle_within : (x : Expression) (a : E) → implies (bound_of (limits_at 56) tabled x) angle_bound ≡ true
      → Narrow shown (limits_of n) (record { width = v + 2 ^ 17; bounds = tabled }) x a
      → IsAbout (2 ^ 57) (14 * v + 2 ^ 22) (shown a)
  angle_within x a i h = measured shown n (v + 2 ^ 17) tabled x (neg_ℤ (pos (2 ^ 57))) (pos (2 ^ 57)) (53 * 2 ^ 38)
      (2 ^ 16) (14 * v + 2 ^ 22) a e i (omega arith)
      h

  pub angles_close : (a : MeanAngles E) → v ≤ 2 ^ 44
      → KeepAngles shown (limits_of n) (record { width = v + 2 ^ 17; bounds = tabled }) (daily_angles_of days_of) a
      → AreClose shown (14 * v + 2 ^ 22) a
  unfolding daily_angles_of
  angles_close a l h = record {
    elongation = angle_within (daily_quartic_of ELONGATION days_of) a.elongation elongation_reach h.elongation;
    sun_anomaly = angle_within (daily_cubic_of SUN_ANOMALY days_of) a.sun_anomaly sun_reach h.sun_anomaly;
    moon_anomaly = angle_within (daily_quartic_of MOON_ANOMALY days_of) a.moon_anomaly moon_reach h.moon_anomaly;
    latitude_argument = angle_within (daily_quartic_of LATITUDE_ARGUMENT days_of) a.latitude_argument argument_reach
        h.latitude_argument;
    eccentricity = measured shown n (v + 2 ^ 17) tabled (quadratic_of ECCENTRICITY_FACTOR (in_centuries days_of))
        (pos (3 * 2 ^ 30)) (pos (35 * 2 ^ 27)) (2 ^ 18)
        (2 ^ 16) (2 ^ 24) a.eccentricity e eccentricity_reach (omega (arith, l)) h.eccentricity;
  }

-- ---- the elements beside the sum of the terms
module _ {E : Type 0} (shown : E → Interval) (n v : ℕ) (t : Bound) (b : MoonElements E)
    (h : AreMeasured shown n v b) where
  pub days_beside : Narrow shown (limits_of n) (record { width = v + 2 ^ 17; bounds = days_and t }) days_of b.days
  unfolding Keeps bound_of
  days_beside = record { kept = h.keep.days.kept }

  pub centuries_beside : Narrow shown (limits_of n) (record { width = v + 2 ^ 17; bounds = days_and t })
      (in_centuries days_of) b.centuries
  unfolding Keeps bound_of in_centuries
  centuries_beside = record { kept = h.keep.centuries.kept }

  pub longitude_beside : Narrow shown (limits_of n) (record { width = v + 2 ^ 17; bounds = days_and t })
      (daily_quartic_of MOON_LONGITUDE days_of) b.mean_longitude
  unfolding Keeps bound_of daily_quartic_of by_days has_daily by_centuries in_centuries
  longitude_beside = record { kept = h.keep.mean_longitude.kept }

  pub argument_beside : Narrow shown (limits_of n) (record { width = v + 2 ^ 17; bounds = days_and t })
      (daily_quartic_of LATITUDE_ARGUMENT days_of)
      b.angles.latitude_argument
  unfolding Keeps bound_of daily_quartic_of daily_angles_of by_days has_daily by_centuries in_centuries
  argument_beside = record { kept = h.keep.angles.latitude_argument.kept }

  pub anomaly_beside : Narrow shown (limits_of n) (record { width = v + 2 ^ 17; bounds = days_and t })
      (daily_quartic_of MOON_ANOMALY days_of)
      b.angles.moon_anomaly
  unfolding Keeps bound_of daily_quartic_of daily_angles_of by_days has_daily by_centuries in_centuries
  anomaly_beside = record { kept = h.keep.angles.moon_anomaly.kept }

  -- a sum of terms that is so wide keeps its bound
  pub terms_beside : (M s k u : ℕ) (y : E) → t ≡ bounded (neg_ℤ (pos M)) (pos M) s k → u * 2 ^ 40 ≤ s * (v + 2 ^ 17)
      + k * 2 ^ 40 → IsAbout M u (shown y)
      → Narrow shown (limits_of n) (record { width = v + 2 ^ 17; bounds = days_and t }) (argument 1) y
  terms_beside M s k u y e l i = sloped shown (limits_of n) (v + 2 ^ 17) u (days_and t) 1 (neg_ℤ (pos M)) (pos M) s k y
      e l i
