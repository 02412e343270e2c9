-- The table of the sun's periodic terms as they are summed, and the definition's sum: that the tables match, and the
-- sums of sizes and rates, is computed; a periodic term by days lies in the periodic term by centuries of the
-- definition, since a rate a century times a day in centuries is the rate a day.
use Rattle.std.proofs.Common.{◌≡◌, ℕ, zero, suc, ◌≤◌, refl, arith, List, length, slice_index_or, slice_range}
use Rattle.std.proofs.lemmas.Int.{ints}
use Rattle.book_model.specs.Fraction.{whole}
use Rattle.book_model.specs.Interval.{Interval, ◌⊆◌}
use Rattle.book_model.proofs.Fractions.{le_refl}
use Rattle.book_model.proofs.Intervals.{within_trans, within_refl, product_within, sum_within}
use Rattle.book_model.specs.declared.polynomial.PeriodicTerm.{PeriodicTerm}
use Rattle.book_model.specs.declared.sun_tables.TheConstants.{SUN_TERMS}
use Rattle.book_model.specs.declared.time_tables.TheConstants.{DAY_IN_CENTURIES}
use Rattle.book_model.specs.numbers.Expressions.{Expression, World, value, exactly, add, scale, constant, sine}
use Rattle.book_model.specs.numbers.Fractions.{fraction_of, ten_millionths, daily_ten_millionths}
use Rattle.book_model.specs.numbers.Polynomials.{no_periodic_term, periodic_term_of, periodic_terms_of}
use Rattle.book_model.specs.numbers.Relations.{Within, Lies}
use Rattle.book_model.specs.numbers.Terms.{terms_to, terms_of}
use Rattle.book_model.proofs.DegreeSines.{degree_sines}
use Rattle.book_model.proofs.Values.{value_proper}
use Rattle.sun_core.specs.declared.linear_models.TheConstants.{GREATEST_SUN_TERMS}
use Rattle.sun_core.specs.Daily.{in_centuries}
use Rattle.sun_core.proofs.Scalings.{both_hold_in_sum, daily_ten_millionths_are}
use Rattle.periodic_terms.specs.Turning.{AreTurning, HasReach, turning_term_of, reach_to, sizes_to}
use Rattle.periodic_terms.proofs.TableMatches.{tables_match}
use Rattle.sun_core.specs.declared.turns.TheConstants.{SUN_TURNS, SUN_SLOPE, SUN_SIZES, GREATEST_SLOPE, GREATEST_SIZES}
use Rattle.sun_core.specs.declared.turns.TheConstants.{OTHER_SLOPE, OTHER_SIZES}

-- ---- the tables match
pub sun_turns : AreTurning SUN_TERMS SUN_TURNS
sun_turns = tables_match SUN_TERMS SUN_TURNS refl

reach_is : reach_to SUN_TERMS 49 ≡ 161730218014886456
unfolding reach_to
reach_is = refl

sizes_are : sizes_to SUN_TERMS 49 ≡ 842879
unfolding sizes_to
sizes_are = refl

pub sun_reach : HasReach SUN_TERMS SUN_SLOPE SUN_SIZES
sun_reach = record { reach = rw reach_is (omega (arith, ints)); total = rw sizes_are (omega (arith, ints)) }

-- ---- the greatest of them alone
abbrev greatest : List PeriodicTerm
greatest = slice_range SUN_TERMS 0 GREATEST_SUN_TERMS

pub greatest_turns : AreTurning greatest (slice_range SUN_TURNS 0 GREATEST_SUN_TERMS)
greatest_turns = tables_match greatest (slice_range SUN_TURNS 0 GREATEST_SUN_TERMS) refl

greatest_reach_is : reach_to greatest 4 ≡ 153731448828054756
unfolding reach_to
greatest_reach_is = refl

greatest_sizes_are : sizes_to greatest 4 ≡ 830438
unfolding sizes_to
greatest_sizes_are = refl

pub greatest_reach : HasReach greatest GREATEST_SLOPE GREATEST_SIZES
greatest_reach = record {
  reach = rw greatest_reach_is (omega (arith, ints));
  total =
      rw greatest_sizes_are (omega (arith, ints));
}

-- ---- and the others
abbrev others : List PeriodicTerm
others = slice_range SUN_TERMS GREATEST_SUN_TERMS (length SUN_TERMS)

pub other_turns : AreTurning others (slice_range SUN_TURNS GREATEST_SUN_TERMS (length SUN_TURNS))
other_turns = tables_match others (slice_range SUN_TURNS GREATEST_SUN_TERMS (length SUN_TURNS)) refl

other_reach_is : reach_to others 45 ≡ 7998769186831700
unfolding reach_to
other_reach_is = refl

other_sizes_are : sizes_to others 45 ≡ 12441
unfolding sizes_to
other_sizes_are = refl

pub other_reach : HasReach others OTHER_SLOPE OTHER_SIZES
other_reach = record {
  reach = rw other_reach_is (omega (arith, ints));
  total =
      rw other_sizes_are (omega (arith, ints));
}

-- ---- the definition's periodic terms, in centuries
periodic_term_within : (w : World) (x : Expression) (v : PeriodicTerm) → 40 ≤ w.depth
    → value w (periodic_term_of (in_centuries x) v)
    ⊆ value w (turning_term_of x v)
unfolding value periodic_term_of turning_term_of in_centuries Lies
periodic_term_within w x v d =
    let c = constant (ten_millionths v.phase) in
    let a = add c (scale (ten_millionths v.rate) (scale (fraction_of DAY_IN_CENTURIES) x)) in
    let b = add c (scale (daily_ten_millionths v.rate) x) in
    let h : Within (λ (i : Interval). i) w a (value w b) =
    both_hold_in_sum (λ (i : Interval). i) w c x (fraction_of DAY_IN_CENTURIES) (ten_millionths v.rate)
    (daily_ten_millionths v.rate) (value w b)
    (daily_ten_millionths_are v.rate) (record { deep = d; inside = within_refl (value w b) }) in
    product_within (value_proper w (sine a)) (le_refl (whole v.size))
    (degree_sines.within w.depth (value_proper w a) h.inside)
    (within_refl (exactly (whole v.size)))

pub terms_within : (w : World) (x : Expression) (vs : List PeriodicTerm) (n : ℕ) → 40 ≤ w.depth
    → value w (terms_to (periodic_term_of (in_centuries x)) no_periodic_term vs n) ⊆ value w
    (terms_to (turning_term_of x) no_periodic_term vs n)
unfolding value terms_to
terms_within w x vs zero d = within_refl _
terms_within w x vs (suc n) d = sum_within (terms_within w x vs n d)
    (periodic_term_within w x (slice_index_or vs n no_periodic_term) d)

pub sun_terms_within : {E : Type 0} (shown : E → Interval) (w : World) (x : Expression) (vs : List PeriodicTerm) (e : E)
    → Within shown w (terms_of (turning_term_of x) no_periodic_term vs) e
    → Within shown w (periodic_terms_of vs (in_centuries x)) e
unfolding Lies terms_of
sun_terms_within shown w x vs e h = record {
  deep = h.deep;
  inside = within_trans (terms_within w x vs (length vs) h.deep)
      h.inside;
}
