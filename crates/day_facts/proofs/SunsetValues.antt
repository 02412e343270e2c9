-- From where to where dusk and sunset lie, and a sunset in minutes. An arcsine lies within 180 degrees at every depth,
-- also of an argument outside -1 to 1, which is cut to it; so an approximation moves the day by three days at most, and
-- twelve, by induction, by 36. A location lies east of Greenwich by less than a day. Minutes follow, and are a value
-- that a fact may have.
use Rattle.std.specs.Prelude.{◌≡◌, ℕ, zero, suc, ◌*◌, Bool, true, false, if◌then◌else◌, ℤ, pos, negsuc, ◌+ℤ◌, ◌-ℤ◌}
use Rattle.std.specs.Prelude.{Result, Ok, Err, IfOk, Option, Some, None}
use Rattle.std.specs.Option.{option_map_or}
use Rattle.std.proofs.Common.{arith, sym}
use Rattle.std.proofs.lemmas.Int.{ints}
use lib.Signed.{lt_z}
use Rattle.book_model.specs.Fraction.{Fraction, whole, plus, times, smaller, larger, is_at_most}
use Rattle.book_model.specs.Interval.{Interval, everything, between, ◌⊆◌, IsProper, one, sum, negative, product}
use Rattle.book_model.specs.Interval.{quotient, power, clamp, least, greatest}
use Rattle.book_model.proofs.Fractions.{at_most_true, le_refl}
use Rattle.book_model.proofs.Intervals.{within_trans, within_refl, product_within, quotient_proper, plus_proper}
use Rattle.book_model.proofs.Intervals.{difference_proper, clamp_proper, power_proper}
use Rattle.book_model.specs.declared.fail.Fail.{Fail}
use Rattle.book_model.specs.declared.fact.Place.{Place}
use Rattle.book_model.specs.declared.horizon.Location.{Location}
use Rattle.book_model.specs.declared.horizon.Twilight.{Twilight}
use Rattle.book_model.specs.declared.horizon.Twilight.TheVariants.{Dawn, Dusk}
use Rattle.book_model.specs.declared.location_tables.TheConstants.{MINUTES_OF_DAY}
use Rattle.book_model.specs.declared.sun_tables.TheConstants.{DEGREE_IN_DAYS}
use Rattle.book_model.specs.declared.tables.TheConstants.{HALF}
use Rattle.book_model.specs.declared.time_tables.TheConstants.{HOUR}
use Rattle.book_model.specs.numbers.Arcs.{arctangent_of, arcsine_of, other_side}
use Rattle.book_model.specs.sky.Correction.{rounded_of}
use Rattle.book_model.specs.numbers.Expressions.{Expression, World, value, exactly, integer, constant, add, subtract}
use Rattle.book_model.specs.numbers.Expressions.{scale, arcsine}
use Rattle.book_model.specs.sky.Facts.{IsFactValue, at_depth}
use Rattle.book_model.specs.numbers.Fractions.{fraction_of}
use Rattle.book_model.specs.sky.Horizon.{universal_of, near_offset_of, part_of, quarter_of, apparent_by}
use Rattle.book_model.specs.sky.Horizon.{approximation_on, approximation_of, has_settled_of, settled_of, depression_of}
use Rattle.book_model.specs.sky.Horizon.{dusk_of, sunset_depression_of, sunset_of}
use Rattle.book_model.specs.sky.Kinds.{minutes_of, sunset_in_minutes_of}
use Rattle.book_model.specs.sky.Names.{location_of}
use Rattle.book_model.specs.sky.Places.{is_kept_location, is_up_to}
use Rattle.book_model.specs.sky.Time.{zone_on}
use Rattle.book_model.specs.programs.Calls.{Decides}
use Rattle.book_model.specs.sky.Noon.{ahead_of}
use Rattle.book_model.specs.numbers.Octants.{only}
use Rattle.book_model.specs.programs.Programs.{answer, cell, integers, run, valued, outcome}
use Rattle.book_model.specs.numbers.Ranges.{IsBetween}
use Rattle.book_model.specs.numbers.Roots.{root_of, root_low, on_grid}
use Rattle.book_model.specs.declared.site.Site.TheVariants.{DayFloor, Round}
use Rattle.book_model.proofs.ArcPieces.{quarters}
use Rattle.book_model.proofs.Arcs.{arctangents, arctangent_inside}
use Rattle.book_model.proofs.CorrectionRows.{both}
use Rattle.book_model.proofs.Estimates.{between_of_within, wider, difference_between, from_apparent_between}
use Rattle.book_model.proofs.Estimates.{floor_between, valued_same, sum_between}
use Rattle.book_model.proofs.FactRuns.{parts, decides}
use Rattle.book_model.proofs.Leads.{leads_value}
use Rattle.book_model.proofs.Places.{location_kept}
use Rattle.book_model.proofs.Roots.{roots}
use Rattle.book_model.proofs.Values.{value_proper}
use Rattle.day_facts.proofs.DistanceValues.{half_between}
use Rattle.time_scales.proofs.ZoneWidths.{zone_hours_kept}
use Rattle.moon_core.proofs.PhaseRanges.{scaled_between}
use Rattle.day_facts.proofs.PlaceDays.{hours_between}

-- ---- arcsines
abbrev IsBounded : Interval → Type 0
IsBounded everything = ⊥
IsBounded (between a b) = Unit {0}

inside_bounded : (n : ℕ) (i : Interval) → IsProper i → IsBounded i → arctangent_of n i ⊆ quarters
inside_bounded n everything p h = absurd h
inside_bounded n (between a b) p h = arctangent_inside n a b p

quotient_bounded : (a b c d : Fraction) → lt_z (pos 0) c.num ≡ true → IsBounded (quotient (between a b) (between c d))
unfolding quotient product
quotient_bounded a b c d h = rw h tt

-- one and a root are above 0
above_zero : (n k : ℕ) → lt_z (pos 0) (plus one (on_grid n k)).num ≡ true
unfolding plus
above_zero n k = let t : true ≡ lt_z (pos 0) (plus one (on_grid n k)).num = omega (arith, ints) in sym t

tangent_bounded : (n : ℕ) (a b : Fraction)
    → IsBounded (quotient (between a b) (sum (only one) (other_side n (between a b))))
unfolding power sum negative root_of root_low
tangent_bounded n a b = quotient_bounded a b _ _ (above_zero n _)

tangent_proper : (n : ℕ) (i : Interval) → IsProper i → IsProper (quotient i (sum (only one) (other_side n i)))
tangent_proper n i p = quotient_proper i _ p (plus_proper (only one) (other_side n i) (le_refl one)
    (roots.proper n _ (difference_proper (only one) (power i 2) (le_refl one) (power_proper 2 i p))))

half_arcs : (n : ℕ) (i : Interval) → IsProper i
    → arctangent_of n (quotient (clamp i) (sum (only one) (other_side n (clamp i)))) ⊆ quarters
unfolding clamp
half_arcs n everything p = inside_bounded n _ (tangent_proper n (clamp everything) (clamp_proper everything p))
    (tangent_bounded n _ _)
half_arcs n (between a b) p = inside_bounded n _ (tangent_proper n (clamp (between a b)) (clamp_proper (between a b) p))
    (tangent_bounded n _ _)

twice_quarters : product quarters (only (whole (pos 2))) ⊆ between (whole (negsuc 179)) (whole (pos 180))
unfolding product least greatest smaller larger times is_at_most
twice_quarters = record { endpoints = (record { cross = omega (arith, ints) }, record { cross = omega (arith, ints) }) }

arcsine_inside : (n : ℕ) (i : Interval) → IsProper i → arcsine_of n i ⊆ between (whole (negsuc 179)) (whole (pos 180))
unfolding arcsine_of
arcsine_inside n i p =
    within_trans (product_within (arctangents.proper n _ (tangent_proper n (clamp i) (clamp_proper i p)))
    (le_refl (whole (pos 2))) (half_arcs n i p)
    (within_refl (only (whole (pos 2))))) twice_quarters

-- ---- one approximation
half_days : product (between (whole (negsuc 179)) (whole (pos 180))) (exactly (fraction_of DEGREE_IN_DAYS)) ⊆ between
    (whole (negsuc 0)) (whole (pos 1))
unfolding product least greatest smaller larger times is_at_most
half_days = record { endpoints = (record { cross = omega (arith, ints) }, record { cross = omega (arith, ints) }) }

part_between : (w : World) (s : Expression) → IsBetween (negsuc 0) (pos 1) (value w (part_of s))
unfolding value
part_between w s = between_of_within (negsuc 0) (pos 1) _ (within_trans
    (product_within (value_proper w (arcsine s)) (le_refl (fraction_of DEGREE_IN_DAYS))
    (arcsine_inside w.depth (value w s) (value_proper w s)) (within_refl _))
    half_days)

quarter_between : (w : World) (k : Twilight) (d : ℤ) → IsBetween d (d +ℤ pos 1) (value w (quarter_of k d))
unfolding quarter_of value sum plus
quarter_between w Dawn d = (record { cross = omega (arith, ints) }, record { cross = omega (arith, ints) })
quarter_between w Dusk d = (record { cross = omega (arith, ints) }, record { cross = omega (arith, ints) })

apparent_between : (w : World) (k : Twilight) (d : ℤ) (s : Expression)
    → IsBetween (d -ℤ pos 1) (d +ℤ pos 2) (value w (apparent_by k d s))
unfolding apparent_by value
apparent_between w Dawn d s = wider _ _ (d -ℤ pos 1) (d +ℤ pos 2) _ (omega (arith, ints)) (omega (arith, ints))
    (difference_between d (d +ℤ pos 1) (negsuc 0) (pos 1) _ _ (quarter_between w Dawn d) (part_between w s))
apparent_between w Dusk d s = wider _ _ (d -ℤ pos 1) (d +ℤ pos 2) _ (omega (arith, ints)) (omega (arith, ints))
    (sum_between d (d +ℤ pos 1) (negsuc 0) (pos 1) _ _ (quarter_between w Dusk d) (part_between w s))

on_between : (w : World) (p : Location) (k : Twilight) (a x y : Expression) (d : ℤ)
    → outcome (run w (approximation_on p k a x d)) ≡ valued y
    → IsBetween (d -ℤ pos 2) (d +ℤ pos 3) (value w y)
unfolding approximation_on
on_between w p k a x y d h =
    let s = parts w (near_offset_of p k a d x) _ y h in
    wider _ _ (d -ℤ pos 2) (d +ℤ pos 3) _ (omega (arith, ints)) (omega (arith, ints))
    (from_apparent_between w (fraction_of p.longitude) (apparent_by k d s.part) y (d -ℤ pos 1) (d +ℤ pos 2)
    (apparent_between w k d s.part) s.then)

approximation_between : (w : World) (p : Location) (k : Twilight) (a x y : Expression) (lo hi : ℤ)
    → IsBetween lo hi (value w x)
    → outcome (run w (approximation_of p k a x)) ≡ valued y → IsBetween (lo -ℤ pos 3) (hi +ℤ pos 3) (value w y)
unfolding approximation_of
approximation_between w p k a x y lo hi b h =
    let d = parts w (cell DayFloor integers x answer) (approximation_on p k a x) y h in
    let v = decides w DayFloor integers x (λ q. q) d.part d.first in
    let f = rw v.leads_to at (floor_between lo hi v.cell_there (value w x) (value_proper w x) b v.decided_so) in
    wider _ _ (lo -ℤ pos 3) (hi +ℤ pos 3) _ (omega (arith, ints, f.0)) (omega (arith, ints, f.1))
    (on_between w p k a x y d.part d.then)

-- ---- dusk and sunset
none_settled : (w : World) (p : Location) (k : Twilight) (a x y : Expression)
    → outcome (run w (settled_of 0 p k a x)) ≡ valued y → ⊥
unfolding settled_of outcome run
none_settled w p k a x y e = absurd (cc)

settled_between : (w : World) (more : ℕ) (p : Location) (k : Twilight) (a x y : Expression) (lo hi : ℤ)
    → IsBetween lo hi (value w x)
    → outcome (run w (settled_of more p k a x)) ≡ valued y → IsBetween (lo -ℤ pos (3 * more)) (hi +ℤ pos (3 * more))
    (value w y)
unfolding settled_of
settled_between w zero p k a x y lo hi b h = absurd (none_settled w p k a x y h)
settled_between w (suc more) p k a x y lo hi b h =
    let z = parts w (approximation_of p k a x) _ y h in
    let t = parts w (has_settled_of x z.part) _ y z.then in
    let c = approximation_between w p k a x z.part lo hi b z.first in
    next z.part t.part c t.then (λ e. settled_between w more p k a z.part y (lo -ℤ pos 3) (hi +ℤ pos 3) c e)
  where
    next : (z : Expression) (settled : Bool) → IsBetween (lo -ℤ pos 3) (hi +ℤ pos 3) (value w z)
        → outcome (run w (if settled then answer z else settled_of more p k a z)) ≡ valued y
        → (outcome (run w (settled_of more p k a z)) ≡ valued y → IsBetween ((lo -ℤ pos 3) -ℤ pos (3 * more))
        ((hi +ℤ pos 3) +ℤ pos (3 * more)) (value w y))
        → IsBetween (lo -ℤ pos (3 * suc more)) (hi +ℤ pos (3 * suc more)) (value w y)
    next z true c e f = rw (← valued_same w z y e) (wider _ _ (lo -ℤ pos (3 * suc more)) (hi +ℤ pos (3 * suc more)) _
        (omega (arith, ints))
        (omega (arith, ints)) c)
    next z false c e f = wider _ _ (lo -ℤ pos (3 * suc more)) (hi +ℤ pos (3 * suc more)) _ (omega (arith, ints))
        (omega (arith, ints)) (f e)

-- a location lies east of Greenwich, by less than a turn
abbrev IsEast : Location → Type 0
IsEast p = is_up_to 360 p.longitude ≡ true

turn_of_day : product (between (whole (pos 0)) (whole (pos 360))) (exactly (fraction_of DEGREE_IN_DAYS)) ⊆ between
    (whole (pos 0)) (whole (pos 1))
unfolding product least greatest smaller larger times is_at_most
turn_of_day = record { endpoints = (record { cross = omega (arith, ints) }, record { cross = omega (arith, ints) }) }

ahead_between : (w : World) (p : Location) → IsEast p
    → IsBetween (pos 0) (pos 1) (value w (ahead_of (fraction_of p.longitude)))
unfolding ahead_of value
ahead_between w p e =
    let u = both _ _ e in
    scaled_between (pos 0) (pos 360) (pos 0) (pos 1) (fraction_of DEGREE_IN_DAYS) _ turn_of_day
    (value_proper w (constant (fraction_of p.longitude)))
    (at_most_true _ _ u.0, at_most_true _ _ u.1)

east : (place : Place) (l : Location) → Some l ≡ location_of place → IsEast l
east place l e = by (location_of place) e (location_kept place)
  where
    by : (o : Option Location) → Some l ≡ o → option_map_or is_kept_location o true ≡ true → IsEast l
    by None f k = absurd (cc)
    by (Some m) f k = let q : l ≡ m = cc in rw q (grind (arith, both, k))

sunset_between : (w : World) (p : Location) (d : ℤ) (y : Expression) → IsEast p
    → outcome (run w (sunset_of p d)) ≡ valued y
    → IsBetween (d -ℤ pos 37) (d +ℤ pos 37) (value w y)
unfolding sunset_of dusk_of depression_of universal_of value
sunset_between w p d y e h =
    let t = parts w (settled_of 12 p Dusk (sunset_depression_of p) (quarter_of Dusk d)) _ y h in
    let b = settled_between w 12 p Dusk (sunset_depression_of p) (quarter_of Dusk d) t.part d (d +ℤ pos 1)
    (quarter_between w Dusk d) t.first in
    let k = difference_between (d -ℤ pos 36) ((d +ℤ pos 1) +ℤ pos 36) (pos 0) (pos 1) _ _ b (ahead_between w p e) in
    rw (← valued_same w (subtract t.part (ahead_of (fraction_of p.longitude))) y t.then)
    (wider _ _ (d -ℤ pos 37) (d +ℤ pos 37) _ (omega (arith, ints)) (omega (arith, ints)) k)

-- ---- minutes
minutes_of_days : product (between (whole (negsuc 39)) (whole (pos 40))) (exactly (fraction_of MINUTES_OF_DAY))
    ⊆ between (whole (negsuc 57599))
    (whole (pos 57600))
unfolding product least greatest smaller larger times is_at_most
minutes_of_days =
    record { endpoints = (record { cross = omega (arith, ints) }, record { cross = omega (arith, ints) }) }

no_minutes : IsBetween (negsuc 57599) (pos 57600) (product everything (exactly (fraction_of MINUTES_OF_DAY)))
unfolding product
no_minutes = tt

minutes_between : (i : Interval) → IsProper i → IsBetween (negsuc 39) (pos 40) i
    → IsBetween (negsuc 57599) (pos 57600) (product i (exactly (fraction_of MINUTES_OF_DAY)))
minutes_between everything p h = no_minutes
minutes_between (between a b) p h = between_of_within (negsuc 57599) (pos 57600) _
    (within_trans (product_within p (le_refl (fraction_of MINUTES_OF_DAY)) (record { endpoints = h }) (within_refl _))
    minutes_of_days)

day_between : (w : World) (d : ℤ) → IsBetween d d (value w (integer d))
unfolding value
day_between w d = (le_refl (whole d), le_refl (whole d))

unrounded_between : (w : World) (place : Place) (d : ℤ) (x : Expression) → IsBetween (d -ℤ pos 37) (d +ℤ pos 37)
    (value w x)
    → IsBetween (negsuc 57599) (pos 57600) (value w (minutes_of place d x))
unfolding minutes_of value
unrounded_between w place d x h =
    let s = sum_between (d -ℤ pos 37) (d +ℤ pos 37) (pos 0) (pos 1) _ _ h
    (hours_between w (zone_on place d) (zone_hours_kept place d)) in
    let k = difference_between ((d -ℤ pos 37) +ℤ pos 0) ((d +ℤ pos 37) +ℤ pos 1) d d _ _ s (day_between w d) in
    minutes_between _
    (value_proper w (subtract (add x (scale (fraction_of HOUR) (constant (fraction_of (zone_on place d)))))
    (integer d)))
    (wider _ _ (negsuc 39) (pos 40) _ (omega (arith, ints)) (omega (arith, ints)) k)

minutes_value : (w : World) (place : Place) (p : Location) (d v : ℤ) → IsEast p
    → outcome (run w (sunset_in_minutes_of place p d)) ≡ valued v → IsFactValue v
unfolding sunset_in_minutes_of rounded_of value
minutes_value w place p d v e h =
    let t = parts w (sunset_of p d) _ v h in
    let b = unrounded_between w place d t.part (sunset_between w p d t.part e t.first) in
    let s = sum_between (negsuc 57599) (pos 57600) (pos 0) (pos 1) _ _ b (half_between w) in
    let c = decides w Round integers (add (minutes_of place d t.part) (constant (fraction_of HALF))) (λ q. q) v
    t.then in
    let f = rw c.leads_to at
    (floor_between _ _ c.cell_there _
    (value_proper w (add (minutes_of place d t.part) (constant (fraction_of HALF)))) s
    c.decided_so) in
    (omega (arith, ints, f.0), omega (arith, ints, f.1))

-- a sunset in minutes is a value that a fact may have
pub sunset_is_value : (place : Place) (l : Location) (d : ℤ) (r : Result ℤ Fail) (b a : ℕ) → Some l ≡ location_of place
    → Decides (sunset_in_minutes_of place l d) b a r → IfOk r IsFactValue
sunset_is_value place l d (Ok v) b a e h = minutes_value (at_depth 40) place l d v (east place l e)
    (leads_value (h (at_depth 40) (omega arith)))
sunset_is_value place l d (Err f) b a e h = tt
