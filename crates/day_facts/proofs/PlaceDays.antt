-- The hours of a place, and the day of a moment there: how many tests they make, and from where to where they lie. Both
-- go by the steps of the place's zone, by induction on the list; that each zone has at most 1,000 steps, and hours from
-- 0 to 24, is computed once, for the whole table of places.
use Rattle.std.specs.Prelude.{◌≡◌, suc, ◌+◌, ◌≤◌, nat_le, Bool, true, false, ◌&&◌, if◌then◌else◌, ℤ, pos, ◌+ℤ◌, ◌≤ℤ◌}
use Rattle.std.specs.Prelude.{List, [], ◌∷◌, length, refl}
use Rattle.std.specs.List.{list_all}
use Rattle.std.proofs.Common.{arith}
use Rattle.std.proofs.lemmas.Bool.{leb-true}
use Rattle.std.proofs.lemmas.Int.{ints}
use Rattle.book_model.specs.Fraction.{whole, times, smaller, larger, is_at_most}
use Rattle.book_model.specs.Interval.{between, ◌⊆◌, product, least, greatest}
use Rattle.book_model.proofs.Fractions.{at_most_true}
use Rattle.book_model.specs.declared.fact.Place.{Place}
use Rattle.book_model.specs.declared.fact.TheConstants.{PLACES}
use Rattle.book_model.specs.declared.frac.Frac.{Frac}
use Rattle.book_model.specs.declared.site.Site.TheVariants.{DayFloor, Zone}
use Rattle.book_model.specs.declared.time_tables.TheConstants.{HOUR}
use Rattle.book_model.specs.declared.zone.ZoneStep.{ZoneStep}
use Rattle.book_model.specs.numbers.Expressions.{Expression, World, value, exactly, integer, constant, add, scale}
use Rattle.book_model.specs.numbers.Fractions.{fraction_of}
use Rattle.book_model.specs.numbers.Ranges.{IsBetween}
use Rattle.book_model.specs.programs.Programs.{answer, compare, integers, run, valued, outcome, AtMost, answer_at_most}
use Rattle.book_model.specs.programs.Programs.{cell_at_most, compare_at_most}
use Rattle.book_model.specs.sky.Kinds.{day_at}
use Rattle.book_model.specs.sky.Names.{place_number, zone_steps, last_hours}
use Rattle.book_model.specs.sky.Places.{are_kept_hours, is_kept_step, is_kept_zone}
use Rattle.book_model.specs.sky.Time.{hours_at_of, zone_of, in_zone_of}
use Rattle.book_model.proofs.CorrectionRows.{both}
use Rattle.book_model.proofs.Corrections.{few_of_two}
use Rattle.book_model.proofs.Estimates.{floor_between, valued_same, sum_between}
use Rattle.book_model.proofs.FactRuns.{parts, decides}
use Rattle.book_model.proofs.Leads.{at_most_bind, at_most_more}
use Rattle.book_model.proofs.NameLemmas.{column_passes, place_row}
use Rattle.book_model.proofs.Places.{zone_kept}
use Rattle.book_model.proofs.Values.{value_proper}
use Rattle.moon_core.proofs.PhaseRanges.{scaled_between}

-- ---- how many tests
-- the zone of each place has few steps
steps_few : list_all (λ row. nat_le (length row.2.1.now) 1000) PLACES ≡ true
steps_few = refl

few_steps : (place : Place) → length (zone_steps place) ≤ 1000
unfolding zone_steps
few_steps place =
    let e : nat_le (length (zone_steps place)) 1000 ≡ true = column_passes (λ row. row.2.1.now) []
    (λ row. place_number row.0) (λ s. nat_le (length s) 1000) PLACES (place_number place) (place_number place) steps_few
    (place_row place) in
    leb-true (length (zone_steps place)) 1000 e

hours_few : (steps : List ZoneStep) (last : Frac) (x : Expression) → AtMost (length steps) (hours_at_of steps last x)
unfolding hours_at_of
hours_few [] last x = answer_at_most
hours_few (step ∷ steps) last x =
    at_most_more (1 + length steps) (suc (length steps)) (omega arith)
    (at_most_bind 1 (length steps) (compare_at_most (λ early. answer_at_most))
    (λ early. few_of_two (length steps) early _ _ answer_at_most (hours_few steps last x)))

zone_few : (place : Place) (x : Expression) → AtMost 1000 (zone_of place x)
unfolding zone_of
zone_few place x = at_most_more (length (zone_steps place)) 1000 (few_steps place)
    (hours_few (zone_steps place) (last_hours place) x)

pub day_few : (place : Place) (x : Expression) → AtMost 1001 (day_at place x)
unfolding day_at in_zone_of
day_few place x = at_most_bind 1000 1 (at_most_bind 1000 0 (zone_few place x) (λ z. answer_at_most))
    (λ t. cell_at_most (λ q. answer_at_most))

-- ---- how far a time is ahead
day_of_hours : product (between (whole (pos 0)) (whole (pos 24))) (exactly (fraction_of HOUR)) ⊆ between (whole (pos 0))
    (whole (pos 1))
unfolding product least greatest smaller larger times is_at_most
day_of_hours = record { endpoints = (record { cross = omega (arith, ints) }, record { cross = omega (arith, ints) }) }

-- hours of a place are less than a day
pub hours_between : (w : World) (h : Frac) → are_kept_hours 24 h ≡ true
    → IsBetween (pos 0) (pos 1) (value w (scale (fraction_of HOUR) (constant (fraction_of h))))
unfolding value
hours_between w h k =
    let u = both _ _ (both _ _ k).1 in
    scaled_between (pos 0) (pos 24) (pos 0) (pos 1) (fraction_of HOUR) _ day_of_hours
    (value_proper w (constant (fraction_of h)))
    (at_most_true _ _ u.0, at_most_true _ _ u.1)

both_hold : (p q : Bool) → p ≡ true → q ≡ true → (p && q) ≡ true
both_hold p q e f = rw (e, f) refl

zone_hours : (w : World) (steps : List ZoneStep) (last : Frac) (x z : Expression) → is_kept_zone 24 steps last ≡ true
    → outcome (run w (hours_at_of steps last x)) ≡ valued z
    → IsBetween (pos 0) (pos 1) (value w (scale (fraction_of HOUR) z))
unfolding hours_at_of
zone_hours w [] last x z k e = rw (← valued_same w (constant (fraction_of last)) z e)
    (hours_between w last (both (list_all (is_kept_step 24) []) _ k).1)
zone_hours w (step ∷ steps) last x z k e =
    let t = parts w (compare Zone x (integer step.before) answer) _ z e in
    let b = both (list_all (is_kept_step 24) (step ∷ steps)) _ k in
    let s = both (is_kept_step 24 step) _ b.0 in
    by t.part (both _ _ s.0).0 t.then (λ f. zone_hours w steps last x z (both_hold _ _ s.1 b.1) f)
  where
    by : (early : Bool) → are_kept_hours 24 step.hours ≡ true
        → outcome (run w (if early then answer (constant (fraction_of step.hours)) else hours_at_of steps last x))
        ≡ valued z
        → (outcome (run w (hours_at_of steps last x)) ≡ valued z
        → IsBetween (pos 0) (pos 1) (value w (scale (fraction_of HOUR) z)))
        → IsBetween (pos 0) (pos 1) (value w (scale (fraction_of HOUR) z))
    by true h f next = rw (← valued_same w (constant (fraction_of step.hours)) z f) (hours_between w step.hours h)
    by false h f next = next f

zone_between : (w : World) (place : Place) (x z : Expression) → outcome (run w (zone_of place x)) ≡ valued z
    → IsBetween (pos 0) (pos 1) (value w (scale (fraction_of HOUR) z))
unfolding zone_of
zone_between w place x z e = zone_hours w (zone_steps place) (last_hours place) x z (zone_kept place) e

-- the day at a place of a moment that lies between two days
pub day_between : (w : World) (place : Place) (lo hi v : ℤ) (x : Expression) → IsBetween lo hi (value w x)
    → outcome (run w (day_at place x)) ≡ valued v
    → (lo ≤ℤ v) × (v ≤ℤ (hi +ℤ pos 1))
unfolding day_at in_zone_of value
day_between w place lo hi v x h e =
    let t = parts w (in_zone_of place x) _ v e in
    let z = parts w (zone_of place x) _ t.part t.first in
    let s = sum_between lo hi (pos 0) (pos 1) (value w x) (value w (scale (fraction_of HOUR) z.part)) h
    (zone_between w place x z.part z.first) in
    let m : IsBetween (lo +ℤ pos 0) (hi +ℤ pos 1) (value w t.part) =
    rw (← valued_same w (add x (scale (fraction_of HOUR) z.part)) t.part z.then) s in
    let d = decides w DayFloor integers t.part (λ q. q) v t.then in
    let f = floor_between (lo +ℤ pos 0) (hi +ℤ pos 1) d.cell_there (value w t.part) (value_proper w t.part) m
    d.decided_so in
    let r : (lo ≤ℤ d.cell_there) × (d.cell_there ≤ℤ (hi +ℤ pos 1)) =
    (omega (arith, ints, f.0), omega (arith, ints, f.1)) in
    rw d.leads_to at r
