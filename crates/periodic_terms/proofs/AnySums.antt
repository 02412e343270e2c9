-- A sum of periodic terms is no further from 0 than its sizes, at whatever days: each sine lies in -1 .. 1, and so
-- each row within its size. What lies in two spans lies in what they share, so that a sum may be cut to that.
use Rattle.std.proofs.Common.{◌≡◌, ℕ, zero, suc, ◌+◌, ◌*◌, ◌^◌, refl, arith, unsigned_abs, neg_ℤ, ℤ, pos, ◌-ℤ◌, ◌≤ℤ◌}
use Rattle.std.proofs.Common.{List, length, slice_index_or}
use Rattle.std.specs.Int.{int_max, int_min}
use Rattle.std.proofs.lemmas.Int.{ints, clamps}
use Rattle.book_model.specs.Fraction.{◌≤F◌, plus}
use Rattle.book_model.specs.Interval.{Interval, everything, between, ◌⊆◌, sum, product}
use Rattle.book_model.proofs.Fractions.{le_refl, le_trans}
use Rattle.book_model.proofs.Intervals.{within_trans, sum_within, plus_proper, product_proper}
use Rattle.book_model.specs.declared.polynomial.PeriodicTerm.{PeriodicTerm}
use Rattle.book_model.specs.numbers.Expressions.{Expression, World, value, exactly}
use Rattle.book_model.specs.numbers.Fractions.{ten_millionths, daily_ten_millionths}
use Rattle.book_model.specs.numbers.Octants.{sine_of_degrees}
use Rattle.book_model.specs.numbers.Polynomials.{no_periodic_term}
use Rattle.book_model.specs.numbers.Terms.{terms_to, terms_of}
use Rattle.book_model.specs.programs.Leading.{units_of_56}
use Rattle.book_model.proofs.DegreeSines.{degree_sines}
use Rattle.book_model.proofs.Values.{value_proper}
use Rattle.trig_series.proofs.OctantLemmas.{by_max, by_min, order_at}
use Rattle.trig_series.proofs.SineLemmas.{all_hold}
use Rattle.periodic_terms.specs.Turning.{HasReach, turning_term_of, sizes_to}
use Rattle.periodic_terms.proofs.RowsByTime.{scaled_within}

abbrev about : ℕ → Interval
about e = between (units_of_56 (neg_ℤ (pos e))) (units_of_56 (pos e))

both_about : (d e f : ℕ) → f ≡ d + e → sum (about d) (about e) ⊆ about f
unfolding sum plus
both_about d e f h = record {
  endpoints = (
    record { cross = omega (arith, ints, h) },
    record { cross = omega (arith, ints, h) },
  );
}

term_about : (w : World) (x : Expression) (v : PeriodicTerm)
    → value w (turning_term_of x v) ⊆ about (unsigned_abs v.size * 2 ^ 56)
unfolding value turning_term_of
term_about w x v =
    let i = value w x in
    let a = sum (exactly (ten_millionths v.phase)) (product i (exactly (daily_ten_millionths v.rate))) in
    let p = plus_proper _ _ (le_refl (ten_millionths v.phase))
    (product_proper i _ (value_proper w x) (le_refl (daily_ten_millionths v.rate))) in
    scaled_within v.size (neg_ℤ (pos (2 ^ 56))) (pos (2 ^ 56)) _ _ (sine_of_degrees w.depth a)
    (degree_sines.proper w.depth a p)
    (all_hold w.depth a _ _ p refl refl) (omega (arith, ints)) (omega (arith, ints)) (omega (arith, ints))
    (omega (arith, ints))

terms_about : (w : World) (x : Expression) (vs : List PeriodicTerm) (n : ℕ)
    → value w (terms_to (turning_term_of x) no_periodic_term vs n) ⊆ about (sizes_to vs n * 2 ^ 56)
unfolding value terms_to sizes_to
terms_about w x vs zero = record {
  endpoints = (
    record { cross = omega (arith, ints) },
    record { cross = omega (arith, ints) },
  );
}
terms_about w x vs (suc n) =
    within_trans (sum_within (terms_about w x vs n) (term_about w x (slice_index_or vs n no_periodic_term)))
    (both_about _ _ _ (omega arith))

pub any_holds : (w : World) (x : Expression) (vs : List PeriodicTerm) (slope sizes : ℕ) (lo hi : ℤ)
    → HasReach vs slope sizes
    → lo ≡ neg_ℤ (pos (sizes * 2 ^ 56)) → hi ≡ pos (sizes * 2 ^ 56)
    → value w (terms_of (turning_term_of x) no_periodic_term vs) ⊆ between (units_of_56 lo) (units_of_56 hi)
unfolding terms_of
any_holds w x vs slope sizes lo hi r e f =
    within_trans (terms_about w x vs (length vs))
    (record {
      endpoints = (
        order_at lo _ (omega (arith, ints, e, r.total)),
        order_at _ hi (omega (arith, ints, f, r.total)),
      );
    })

-- ---- what lies in both of two spans
module _ (a b c d p q p' q' : ℤ) (e : p ≡ int_max a c) (f : q ≡ int_min p d) (e' : p' ≡ int_max b c)
    (f' : q' ≡ int_min p' d) where
  pub common_holds : (i : Interval) → i ⊆ between (units_of_56 a) (units_of_56 b)
      → i ⊆ between (units_of_56 c) (units_of_56 d)
      → i ⊆ between (units_of_56 q) (units_of_56 q')
  common_holds everything h k = absurd h.endpoints
  common_holds (between x y) h k = record {
    endpoints = (
      le_trans _ (units_of_56 p) x (order_at q p (omega (arith, ints, clamps, f)))
          (by_max a c p (λ z. units_of_56 z ≤F x) e h.endpoints.0 k.endpoints.0),
      by_min p' d q' (λ z. y ≤F units_of_56 z) f' (le_trans y _ _ h.endpoints.1
          (order_at b p' (omega (arith, ints, clamps, e')))) k.endpoints.1,
    );
  }

  pub common_order : a ≤ℤ b → q ≤ℤ q'
  common_order o = omega (arith, ints, clamps, e, f, e', f', o)

  pub common_above : c ≤ℤ d → c ≤ℤ q
  common_above o = omega (arith, ints, clamps, e, f, o)

  pub common_below : q' ≤ℤ d
  common_below = omega (arith, ints, clamps, f')

  pub common_close : a ≤ℤ b → (q' -ℤ q) ≤ℤ (b -ℤ a)
  common_close o = omega (arith, ints, clamps, e, f, e', f', o)
