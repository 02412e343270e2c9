-- The winter solstice and the major solar terms by the time of a place: how many tests they make, and from where to
-- where the terms lie. The solstice is counted by the lemma on every search for a season. A longitude lies in a turn,
-- and the product of a turn with a term's part of it is computed once: twelve terms at most.
use Rattle.std.specs.Prelude.{◌≡◌, ℤ, pos, ◌≤ℤ◌, Some}
use Rattle.std.proofs.Common.{arith}
use Rattle.std.proofs.lemmas.Int.{ints}
use Rattle.book_model.specs.Fraction.{whole, times, smaller, larger, is_at_most}
use Rattle.book_model.specs.Interval.{between, ◌⊆◌, product, least, greatest}
use Rattle.book_model.proofs.Intervals.{within_trans, product_within, within_refl}
use Rattle.book_model.specs.declared.calendar_tables.TheConstants.{WINTER}
use Rattle.book_model.specs.declared.fact.Place.{Place}
use Rattle.book_model.specs.declared.sun_tables.TheConstants.{DEGREE_IN_TERMS}
use Rattle.book_model.specs.numbers.Expressions.{Expression, World, value, exactly, constant, scale}
use Rattle.book_model.specs.numbers.Fractions.{fraction_of}
use Rattle.book_model.specs.sky.Kinds.{longitude_at_midnight_of, midnight_after_of, solstice_of, terms_passed_of}
use Rattle.book_model.specs.sky.Kinds.{major_of}
use Rattle.book_model.specs.programs.Programs.{integers, cell_at, run, valued, outcome, AtMost, answer_at_most}
use Rattle.book_model.specs.programs.Programs.{cell_at_most}
use Rattle.book_model.specs.sky.Time.{midnight_of}
use Rattle.book_model.proofs.Estimates.{floor_between, between_of_within}
use Rattle.book_model.proofs.FactRuns.{sun_few, sun_within}
use Rattle.book_model.proofs.Leads.{at_most_bind, at_most_more}
use Rattle.moon_core.proofs.NewYears.{season_day_few}
use Rattle.book_model.proofs.Values.{value_proper}

-- ---- how many tests
pub solstice_few : (place : Place) (d : ℤ) → AtMost 99999 (solstice_of place d)
unfolding midnight_after_of
solstice_few place d = season_day_few 0 (midnight_after_of place) WINTER (λ e. answer_at_most) (omega arith) d

passed_few : (place : Place) (d : ℤ) → AtMost 3 (terms_passed_of place d)
unfolding terms_passed_of longitude_at_midnight_of
passed_few place d = at_most_bind 2 1 (sun_few _) (λ s. cell_at_most (λ q. answer_at_most))

pub major_few : (place : Place) (d : ℤ) → AtMost 99999 (major_of place d)
unfolding major_of
major_few place d = at_most_more 3 99999 (omega arith) (at_most_bind 3 0 (passed_few place d) (λ q. answer_at_most))

-- ---- the major solar terms
twelve_terms : product (between (whole (pos 0)) (whole (pos 360))) (exactly (fraction_of DEGREE_IN_TERMS)) ⊆ between
    (whole (pos 0)) (whole (pos 12))
unfolding product least greatest smaller larger times is_at_most
twelve_terms = record { endpoints = (record { cross = omega (arith, ints) }, record { cross = omega (arith, ints) }) }

-- the sun has passed at most twelve spans of 30 degrees
pub record IsTerm (q : ℤ) : Type 0 where
  pub from : pos 0 ≤ℤ q
  pub to : q ≤ℤ pos 12

pub term_near : (w : World) (place : Place) (d q : ℤ) (s : Expression)
    → outcome (run w (longitude_at_midnight_of place d)) ≡ valued s
    → cell_at integers (value w (scale (fraction_of DEGREE_IN_TERMS) s)) ≡ Some q → IsTerm q
unfolding longitude_at_midnight_of value
term_near w place d q s h e =
    let t = sun_within w (midnight_of place d) s h in
    let i = within_trans (product_within (value_proper w s) (value_proper w (constant (fraction_of DEGREE_IN_TERMS))) t
    (within_refl _)) twelve_terms in
    let f = floor_between (pos 0) (pos 12) q _ (value_proper w (scale (fraction_of DEGREE_IN_TERMS) s))
    (between_of_within (pos 0) (pos 12) _ i) e in
    record { from = f.0; to = f.1 }
