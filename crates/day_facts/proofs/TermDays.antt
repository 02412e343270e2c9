-- The days of solar terms: how many tests they make, and from where to where they lie. Counts are added along the
-- definition. The search sets out from the years of which ΔT is known and goes a year further at most; each halving
-- stays between its bounds, so that the day does. The sun has at most twelve spans of 30 degrees to go: a constant
-- product of a turn.
use Rattle.std.specs.Prelude.{◌≡◌, ℕ, ◌≤◌, ℤ, pos, negsuc, ◌+ℤ◌, ◌-ℤ◌, ◌≤ℤ◌, Some, Result, Ok, Err, IfOk}
use Rattle.std.proofs.Common.{arith}
use Rattle.std.proofs.lemmas.Int.{ints}
use Rattle.book_model.specs.Fraction.{◌≤F◌, whole, times, smaller, larger, is_at_most}
use Rattle.book_model.specs.Interval.{Interval, everything, between, ◌⊆◌, product, least, greatest}
use Rattle.book_model.specs.Interval.{maximum as interval_maximum}
use Rattle.book_model.proofs.Fractions.{le_trans, larger_first, larger_keeps}
use Rattle.book_model.specs.declared.fact.Place.{Place}
use Rattle.book_model.specs.declared.fail.Fail.{Fail}
use Rattle.book_model.specs.declared.site.Site.TheVariants.{TermFloor}
use Rattle.book_model.specs.declared.sun_tables.TheConstants.{DEGREE_IN_TERMS, DEGREE_OF_YEAR}
use Rattle.book_model.specs.declared.time_tables.TheConstants.{TABLE_START, TABLE_END}
use Rattle.book_model.specs.programs.Bisection.{invert_of}
use Rattle.book_model.specs.numbers.Expressions.{Expression, World, value, exactly, integer, add, subtract, scale}
use Rattle.book_model.specs.sky.Facts.{IsFactValue, at_depth}
use Rattle.book_model.specs.numbers.Fractions.{fraction_of}
use Rattle.book_model.specs.sky.Kinds.{longitude_at_midnight_of, spans_short_of, term_longitude, longitude_day_of}
use Rattle.book_model.specs.sky.Kinds.{term_day_of}
use Rattle.book_model.specs.programs.Leading.{Leads, Exact}
use Rattle.book_model.specs.programs.Programs.{integers, cell_at, run, valued, outcome, AtMost, answer_at_most}
use Rattle.book_model.specs.programs.Programs.{cell_at_most}
use Rattle.book_model.specs.numbers.Ranges.{IsBetween, IsInTable}
use Rattle.book_model.specs.sky.Sun.{sun_of, sun_short_of, forward_by, sun_about_of, sun_from_of}
use Rattle.book_model.specs.sky.Time.{centuries_of, midnight_of}
use Rattle.moon_core.proofs.Bisections.{AreHalved, bisected_few, bisected_between}
use Rattle.book_model.proofs.Estimates.{between_of_within, difference_between, floor_between, reduced_few}
use Rattle.book_model.proofs.Estimates.{reduced_within, wider, sum_between}
use Rattle.book_model.proofs.FactRuns.{parts, decides, sun_few, sun_within}
use Rattle.book_model.proofs.Leads.{at_most_bind, at_most_more, leads_value}
use Rattle.time_scales.proofs.Moments.{dated_in_table}
use Rattle.day_facts.proofs.PlaceDays.{day_few, day_between}
use Rattle.moon_core.proofs.PhaseRanges.{scaled_between}
use Rattle.book_model.proofs.Values.{value_proper}
use Rattle.day_facts.specs.Spans.{IsTermCount}

-- ---- how many tests
short_few : (l x : Expression) → AtMost 3 (sun_short_of l x)
unfolding sun_short_of
short_few l x = at_most_bind 2 1 (sun_few x) (λ s. reduced_few _)

pub from_few : (l x : Expression) → AtMost 324 (sun_from_of l x)
unfolding sun_from_of sun_about_of invert_of
from_few l x = at_most_bind 3 321 (short_few l x) (λ p. bisected_few 2 sun_of sun_few 64 l _ _)

spans_few : (place : Place) (r d : ℤ) → AtMost 3 (spans_short_of place r d)
unfolding spans_short_of longitude_at_midnight_of
spans_few place r d = at_most_bind 2 1 (sun_few _) (λ s. cell_at_most (λ q. answer_at_most))

pub term_day_few : (place : Place) (r d : ℤ) → AtMost 99999 (term_day_of place r d)
unfolding term_day_of longitude_day_of
term_day_few place r d = at_most_more 1328 99999 (omega arith)
    (at_most_bind 3 1325 (spans_few place r d) (λ n. at_most_bind 324 1001 (from_few _ _) (day_few place)))

-- ---- values
sun_in_table : (w : World) (x s : Expression) → outcome (run w (sun_of x)) ≡ valued s → IsInTable (value w x)
unfolding sun_of
sun_in_table w x s h = let c = parts w (centuries_of x) _ s h in dated_in_table w x c.part c.first

-- from where the search sets out, and where it ends: a year later at most, and five days
abbrev pub earliest : ℤ
earliest = TABLE_START -ℤ pos 79

abbrev year_after : ℤ
year_after = TABLE_END +ℤ pos 366

abbrev pub latest : ℤ
latest = TABLE_END +ℤ pos 451

halves : AreHalved earliest latest (earliest +ℤ earliest) (latest +ℤ latest)
unfolding product least greatest smaller larger times is_at_most
halves = record {
  halved = record { endpoints = (record { cross = omega (arith, ints) }, record { cross = omega (arith, ints) }) };
  low = omega (arith, ints);
  high = omega (arith, ints);
}

days_of_turn : product (between (whole (pos 0)) (whole (pos 360))) (exactly (fraction_of DEGREE_OF_YEAR)) ⊆ between
    (whole (pos 0)) (whole (pos 366))
unfolding product least greatest smaller larger times is_at_most
days_of_turn = record { endpoints = (record { cross = omega (arith, ints) }, record { cross = omega (arith, ints) }) }

short_between : (w : World) (l x p : Expression) → outcome (run w (sun_short_of l x)) ≡ valued p
    → IsBetween (pos 0) (pos 360) (value w p)
unfolding sun_short_of
short_between w l x p h = let s = parts w (sun_of x) _ p h in between_of_within (pos 0) (pos 360) _
    (reduced_within w (subtract l s.part) p s.then)

forward_between : (w : World) (p x : Expression) → IsBetween (pos 0) (pos 360) (value w p) → IsInTable (value w x)
    → IsBetween TABLE_START year_after (value w (forward_by p x))
unfolding forward_by value
forward_between w p x h k =
    let s = scaled_between (pos 0) (pos 360) (pos 0) (pos 366) (fraction_of DEGREE_OF_YEAR) _ days_of_turn
    (value_proper w p) h in
    wider _ _ TABLE_START year_after _ (omega (arith, ints)) (omega (arith, ints))
    (sum_between TABLE_START TABLE_END (pos 0) (pos 366) _ _ k s)

-- the greater of two, both of which lie between the bounds
maximum_between : (lo hi : ℤ) (i j : Interval) → IsBetween lo hi i → IsBetween lo hi j
    → IsBetween lo hi (interval_maximum i j)
unfolding interval_maximum
maximum_between lo hi everything j h k = tt
maximum_between lo hi (between a b) everything h k = tt
maximum_between lo hi (between a b) (between c d) h k =
    (le_trans _ _ _ h.0 (larger_first a c), larger_keeps (λ z. z ≤F whole hi) b d h.1 k.1)

about_between : (w : World) (l x t v : Expression) → IsInTable (value w x)
    → IsBetween TABLE_START year_after (value w t) → outcome (run w (sun_about_of l x t))
    ≡ valued v → IsBetween earliest latest (value w v)
unfolding sun_about_of invert_of value
about_between w l x t v h k e =
    let five = five_between w in
    let a : IsBetween earliest latest (value w (subtract t (integer (pos 5)))) = wider _ _ earliest latest _
    (omega (arith, ints)) (omega (arith, ints))
    (difference_between TABLE_START year_after (pos 5) (pos 5) _ _ k five) in
    let u : IsBetween earliest latest (value w (add t (integer (pos 5)))) = wider _ _ earliest latest _
    (omega (arith, ints)) (omega (arith, ints))
    (sum_between TABLE_START year_after (pos 5) (pos 5) _ _ k five) in
    let b = wider _ _ earliest latest _ (omega (arith, ints)) (omega (arith, ints)) h in
    bisected_between w earliest latest (earliest +ℤ earliest) (latest +ℤ latest) halves sun_of 64 l _ _ v
    (maximum_between earliest latest _ _ b a) u e
  where
    five_between : (w : World) → IsBetween (pos 5) (pos 5) (value w (integer (pos 5)))
    five_between w = (record { cross = omega (arith, ints) }, record { cross = omega (arith, ints) })

pub from_between : (w : World) (l x v : Expression) → outcome (run w (sun_from_of l x)) ≡ valued v
    → IsBetween earliest latest (value w v)
unfolding sun_from_of sun_short_of
from_between w l x v e =
    let p = parts w (sun_short_of l x) _ v e in
    let s = parts w (sun_of x) _ p.part p.first in
    let b = sun_in_table w x s.part s.first in
    about_between w l x (forward_by p.part x) v b (forward_between w p.part x (short_between w l x p.part p.first) b)
    p.then

term_value : (w : World) (place : Place) (r d v : ℤ) → outcome (run w (term_day_of place r d)) ≡ valued v
    → IsFactValue v
unfolding term_day_of longitude_day_of
term_value w place r d v e =
    let n = parts w (spans_short_of place r d) _ v e in
    let t = parts w (sun_from_of (integer (term_longitude r n.part)) (midnight_of place d)) _ v n.then in
    let b = day_between w place earliest latest v t.part (from_between w _ (midnight_of place d) t.part t.first)
    t.then in
    (omega (arith, ints, b.0), omega (arith, ints, b.1))

pub term_day_is_value : (place : Place) (r d : ℤ) (s : Result ℤ Fail) (b a : ℕ)
    → ((w : World) → 40 ≤ w.depth → Leads w Exact (term_day_of place r d) b a s)
    → IfOk s IsFactValue
term_day_is_value place r d (Ok v) b a h = term_value (at_depth 40) place r d v
    (leads_value (h (at_depth 40) (omega arith)))
term_day_is_value place r d (Err f) b a h = tt

-- ---- the spans to a longitude
twelve_spans : product (between (whole (negsuc 359)) (whole (pos 360))) (exactly (fraction_of DEGREE_IN_TERMS))
    ⊆ between (whole (negsuc 11)) (whole (pos 12))
unfolding product least greatest smaller larger times is_at_most
twelve_spans = record { endpoints = (record { cross = omega (arith, ints) }, record { cross = omega (arith, ints) }) }

short_span : (w : World) (r : ℤ) (s : Expression) → pos 0 ≤ℤ r → r ≤ℤ pos 15
    → value w s ⊆ between (whole (pos 0)) (whole (pos 360))
    → IsBetween (negsuc 359) (pos 360) (value w (subtract (integer r) s))
unfolding value
short_span w r s h k i = wider _ _ (negsuc 359) (pos 360) _ (omega (arith, ints, h)) (omega (arith, ints, k))
    (difference_between r r (pos 0) (pos 360) _ _ (
      record { cross = omega (arith, ints) },
      record { cross = omega (arith, ints) },
    )
    (between_of_within (pos 0) (pos 360) _ i))

spans_of : (w : World) (r : ℤ) (s : Expression) (k : ℤ)
    → IsBetween (negsuc 359) (pos 360) (value w (subtract (integer r) s))
    → cell_at integers (value w (scale (fraction_of DEGREE_IN_TERMS) (subtract (integer r) s))) ≡ Some k → IsTermCount k
unfolding value
spans_of w r s k i e =
    let b = scaled_between (negsuc 359) (pos 360) (negsuc 11) (pos 12) (fraction_of DEGREE_IN_TERMS) _ twelve_spans
    (value_proper w (subtract (integer r) s))
    i in
    let f = floor_between (negsuc 11) (pos 12) k _
    (value_proper w (scale (fraction_of DEGREE_IN_TERMS) (subtract (integer r) s))) b e in
    record { from = f.0; to = f.1 }

spans_near : (w : World) (place : Place) (r d q : ℤ) → pos 0 ≤ℤ r → r ≤ℤ pos 15
    → outcome (run w (spans_short_of place r d)) ≡ valued q → IsTermCount q
unfolding spans_short_of longitude_at_midnight_of
spans_near w place r d q a b h =
    let s = parts w (sun_of (midnight_of place d)) _ q h in
    let c = decides w TermFloor integers (scale (fraction_of DEGREE_IN_TERMS) (subtract (integer r) s.part)) (λ k. k) q
    s.then in
    let i = short_span w r s.part a b (sun_within w (midnight_of place d) s.part s.first) in
    rw c.leads_to at (spans_of w r s.part c.cell_there i c.decided_so)

pub spans_found : (place : Place) (r d : ℤ) (s : Result ℤ Fail) (b a : ℕ) → pos 0 ≤ℤ r → r ≤ℤ pos 15
    → ((w : World) → 40 ≤ w.depth → Leads w Exact (spans_short_of place r d) b a s) → IfOk s IsTermCount
spans_found place r d (Ok q) b a h k l = spans_near (at_depth 40) place r d q h k
    (leads_value (l (at_depth 40) (omega arith)))
spans_found place r d (Err f) b a h k l = tt
