-- From where to where dawn and dusk lie, and sunrise and sunset of the Hindu calendars: within forty days of their day.
-- The range of each step is that of its parts: the arc of an offset is at most a day, and so is what apparent time is
-- ahead. So an approximation lies at most two days before the moment that it is made of and three after it, and by
-- induction twelve lie at most 24 days before and 36 after.
use Rattle.std.specs.Prelude.{◌≡◌, ℕ, zero, suc, ◌*◌, ◌^◌, ◌≤◌, Bool, true, false, if◌then◌else◌, ℤ, pos, negsuc, ◌+ℤ◌}
use Rattle.std.specs.Prelude.{◌-ℤ◌, ◌*ℤ◌, ◌≤ℤ◌, Ok}
use Rattle.std.proofs.Common.{arith}
use Rattle.std.proofs.lemmas.Int.{ints}
use Rattle.book_model.specs.Fraction.{◌≤F◌, whole, plus, opposite, times, smaller, larger, is_at_most}
use Rattle.book_model.specs.Interval.{Interval, everything, between, ◌⊆◌, IsProper, sum, difference, product, least}
use Rattle.book_model.specs.Interval.{greatest, negative}
use Rattle.book_model.proofs.Fractions.{le_refl, le_trans, plus_mono}
use Rattle.book_model.proofs.Intervals.{within_refl, within_trans, product_within, difference_proper}
use Rattle.book_model.specs.declared.horizon.Location.{Location}
use Rattle.book_model.specs.declared.horizon.Twilight.{Twilight}
use Rattle.book_model.specs.declared.horizon.Twilight.TheVariants.{Dawn, Dusk}
use Rattle.book_model.specs.declared.location_tables.TheConstants.{UJJAIN, MINUTES, MINUTES_OF_DAY}
use Rattle.book_model.specs.declared.location_tables.TheConstants.{HINDU_SUNRISE_DEPRESSION}
use Rattle.book_model.specs.declared.site.Site.TheVariants.{DayFloor, Round}
use Rattle.book_model.specs.declared.sun_tables.TheConstants.{DEGREE_IN_DAYS}
use Rattle.book_model.specs.declared.tables.TheConstants.{HALF}
use Rattle.book_model.specs.numbers.Arcs.{arctangent_of, arcsine_of}
use Rattle.book_model.specs.numbers.Bounds.{IsNarrow, breadth, at_32}
use Rattle.book_model.specs.numbers.Expressions.{Expression, World, value, exactly, constant, integer, add, subtract}
use Rattle.book_model.specs.numbers.Expressions.{divide, scale, power, clamp, root, arctangent}
use Rattle.book_model.specs.numbers.Fractions.{fraction_of}
use Rattle.book_model.specs.numbers.Octants.{only}
use Rattle.book_model.specs.numbers.Ranges.{IsBetween}
use Rattle.book_model.specs.numbers.Relations.{Within}
use Rattle.book_model.specs.programs.Leading.{Leads, leaf}
use Rattle.book_model.specs.programs.Programs.{Program, answer, cell, integers, run, valued, outcome}
use Rattle.book_model.specs.programs.Widths.{IsMoment, IsWithin, IsSince}
use Rattle.book_model.specs.sky.Horizon.{part_of, quarter_of, apparent_by, near_offset_of, approximation_on}
use Rattle.book_model.specs.sky.Horizon.{approximation_of, has_settled_of, settled_of, depression_of, dawn_of, dusk_of}
use Rattle.book_model.specs.sky.Horizon.{universal_of, rounded_minutes_of, minutes_after_of, minutes_in_days}
use Rattle.book_model.specs.sky.Horizon.{sunrise_of, hindu_sunset_of}
use Rattle.book_model.specs.sky.Noon.{ahead_of}
use Rattle.book_model.proofs.ArcPieces.{quarters}
use Rattle.book_model.proofs.Arcs.{arctangent_inside}
use Rattle.book_model.proofs.Estimates.{between_of_within, wider, difference_between, floor_between}
use Rattle.book_model.proofs.Estimates.{from_apparent_between, valued_same}
use Rattle.book_model.proofs.FactRuns.{parts, decides}
use Rattle.book_model.proofs.Leads.{leads_leaf, leaf_within, lies}
use Rattle.book_model.proofs.Values.{value_proper}
use Rattle.encl_core.proofs.Measuring.{looser}
use Rattle.rise_set.proofs.MeanMoments.{from_difference}
use Rattle.book_model.specs.declared.time_tables.TheConstants.{RECENT_START}

-- ---- one approximation
part_of_quarters : product (product quarters (only (whole (pos 2)))) (exactly (fraction_of DEGREE_IN_DAYS)) ⊆ between
    (whole (negsuc 0)) (whole (pos 1))
unfolding product least greatest smaller larger times is_at_most
part_of_quarters =
    record { endpoints = (record { cross = omega (arith, ints) }, record { cross = omega (arith, ints) }) }

no_arc : (n : ℕ) → IsBetween (negsuc 0) (pos 1) (product (product (arctangent_of n everything) (only (whole (pos 2))))
    (exactly (fraction_of DEGREE_IN_DAYS)))
unfolding arctangent_of product
no_arc n = tt

arc_between : (n : ℕ) (q : Interval) → IsProper (arctangent_of n q)
    → IsProper (product (arctangent_of n q) (only (whole (pos 2)))) → IsProper q
    → IsBetween (negsuc 0) (pos 1) (product (product (arctangent_of n q) (only (whole (pos 2))))
    (exactly (fraction_of DEGREE_IN_DAYS)))
arc_between n everything p r o = no_arc n
arc_between n (between a b) p r o =
    between_of_within _ _ _
    (within_trans
    (product_within r (le_refl _) (product_within p (le_refl _) (arctangent_inside n a b o) (within_refl _))
    (within_refl _)) part_of_quarters)

-- the angle of an offset is at most a day
half_tangent_of : Expression → Expression
half_tangent_of s = divide (clamp s) (add (integer (pos 1)) (root (subtract (integer (pos 1)) (power (clamp s) 2))))

part_between : (w : World) (s : Expression) → IsBetween (negsuc 0) (pos 1) (value w (part_of s))
unfolding value arcsine_of half_tangent_of
part_between w s =
    let x = half_tangent_of s in
    arc_between w.depth (value w x) (value_proper w (arctangent x))
    (value_proper w (scale (whole (pos 2)) (arctangent x))) (value_proper w x)

quarter_between : (w : World) (k : Twilight) (d : ℤ) → IsBetween d (d +ℤ pos 1) (value w (quarter_of k d))
unfolding value quarter_of sum plus
quarter_between w Dawn d = (record { cross = omega (arith, ints) }, record { cross = omega (arith, ints) })
quarter_between w Dusk d = (record { cross = omega (arith, ints) }, record { cross = omega (arith, ints) })

wholes_below : (m n : ℤ) → whole (m +ℤ n) ≤F plus (whole m) (whole n)
unfolding plus
wholes_below m n = record { cross = omega (arith, ints) }

wholes_above : (m n : ℤ) → plus (whole m) (whole n) ≤F whole (m +ℤ n)
unfolding plus
wholes_above m n = record { cross = omega (arith, ints) }

later_between : (d : ℤ) (i j : Interval) → IsBetween d (d +ℤ pos 1) i → IsBetween (negsuc 0) (pos 1) j
    → IsBetween (d +ℤ negsuc 0) (d +ℤ pos 1 +ℤ pos 1) (sum i j)
unfolding sum
later_between d everything j h k = tt
later_between d (between a b) everything h k = tt
later_between d (between a b) (between p q) h k = (
  le_trans _ _ _ (wholes_below d (negsuc 0)) (plus_mono _ _ _ _ h.0 k.0),
  le_trans _ _ _ (plus_mono _ _ _ _ h.1 k.1) (wholes_above (d +ℤ pos 1) (pos 1)),
)

apparent_between : (w : World) (k : Twilight) (d : ℤ) (s : Expression)
    → IsBetween (d -ℤ pos 1) (d +ℤ pos 2) (value w (apparent_by k d s))
unfolding value apparent_by
apparent_between w Dawn d s = wider _ _ (d -ℤ pos 1) (d +ℤ pos 2) _ (omega (arith, ints)) (omega (arith, ints))
    (difference_between d (d +ℤ pos 1) (negsuc 0) (pos 1) _ _ (quarter_between w Dawn d) (part_between w s))
apparent_between w Dusk d s = wider _ _ (d -ℤ pos 1) (d +ℤ pos 2) _ (omega (arith, ints)) (omega (arith, ints))
    (later_between d _ _ (quarter_between w Dusk d) (part_between w s))

approximation_between : (w : World) (p : Location) (k : Twilight) (a x y : Expression) (lo hi : ℤ)
    → IsBetween lo hi (value w x)
    → outcome (run w (approximation_of p k a x)) ≡ valued y → IsBetween (lo -ℤ pos 2) (hi +ℤ pos 3) (value w y)
unfolding approximation_of approximation_on
approximation_between w p k a x y lo hi b h =
    let c = parts w (cell DayFloor integers x answer) (approximation_on p k a x) y h in
    let f = decides w DayFloor integers x (λ q. q) c.part c.first in
    let r = rw f.leads_to at (floor_between lo hi f.cell_there (value w x) (value_proper w x) b f.decided_so) in
    let s = parts w (near_offset_of p k a c.part x) _ y c.then in
    let z = from_apparent_between w _ (apparent_by k c.part s.part) y (c.part -ℤ pos 1) (c.part +ℤ pos 2)
    (apparent_between w k c.part s.part) s.then in
    wider _ _ (lo -ℤ pos 2) (hi +ℤ pos 3) _ (omega (arith, ints, r.0)) (omega (arith, ints, r.1)) z

-- ---- so many approximations
settled_between : (w : World) (p : Location) (k : Twilight) (a : Expression) (more : ℕ) (x y : Expression) (lo hi : ℤ)
    → IsBetween lo hi (value w x)
    → outcome (run w (settled_of more p k a x)) ≡ valued y
    → IsBetween (lo -ℤ pos (2 * more)) (hi +ℤ pos (3 * more)) (value w y)
unfolding settled_of run outcome
settled_between w p k a zero x y lo hi b h = absurd (cc)
settled_between w p k a (suc more) x y lo hi b h =
    let u = parts w (approximation_of p k a x) _ y h in
    let t = parts w (has_settled_of x u.part) _ y u.then in
    let z = approximation_between w p k a x u.part lo hi b u.first in
    let go = settled_between w p k a more u.part y (lo -ℤ pos 2) (hi +ℤ pos 3) z in
    by_test u.part t.part z (λ e. wider _ _ (lo -ℤ pos (2 * suc more)) (hi +ℤ pos (3 * suc more)) _
    (omega (arith, ints)) (omega (arith, ints)) (go e)) t.then
  where
    by_test : (v : Expression) (t : Bool) → IsBetween (lo -ℤ pos 2) (hi +ℤ pos 3) (value w v)
        → (outcome (run w (settled_of more p k a v)) ≡ valued y
        → IsBetween (lo -ℤ pos (2 * suc more)) (hi +ℤ pos (3 * suc more)) (value w y))
        → outcome (run w (if t then answer v else settled_of more p k a v)) ≡ valued y
        → IsBetween (lo -ℤ pos (2 * suc more)) (hi +ℤ pos (3 * suc more)) (value w y)
    by_test v true z go e = rw (← valued_same w v y e) (wider _ _ (lo -ℤ pos (2 * suc more)) (hi +ℤ pos (3 * suc more))
        _ (omega (arith, ints))
        (omega (arith, ints)) z)
    by_test v false z go e = go e

depressed_between : (w : World) (p : Location) (k : Twilight) (a y : Expression) (d : ℤ)
    → outcome (run w (depression_of p k a d)) ≡ valued y
    → IsBetween (d -ℤ pos 24) (d +ℤ pos 37) (value w y)
unfolding depression_of
depressed_between w p k a y d h = wider _ _ (d -ℤ pos 24) (d +ℤ pos 37) _ (omega (arith, ints)) (omega (arith, ints))
    (settled_between w p k a 12 (quarter_of k d) y d (d +ℤ pos 1) (quarter_between w k d) h)

dawn_between : (w : World) (p : Location) (a y : Expression) (d : ℤ) → outcome (run w (dawn_of p a d)) ≡ valued y
    → IsBetween (d -ℤ pos 24) (d +ℤ pos 37) (value w y)
unfolding dawn_of
dawn_between w p a y d h = depressed_between w p Dawn a y d h

-- ---- universal time at Ujjain
ujjain_between : (w : World) → IsBetween (pos 0) (pos 1) (value w (ahead_of (fraction_of UJJAIN.longitude)))
unfolding ahead_of value product least greatest smaller larger times is_at_most
ujjain_between w = (record { cross = omega (arith, ints) }, record { cross = omega (arith, ints) })

universal_between : (w : World) (x : Expression) (lo hi : ℤ) → IsBetween lo hi (value w x)
    → IsBetween (lo -ℤ pos 1) hi (value w (universal_of (fraction_of UJJAIN.longitude) x))
unfolding universal_of value
universal_between w x lo hi b = wider _ _ (lo -ℤ pos 1) hi _ (omega (arith, ints)) (omega (arith, ints))
    (difference_between lo hi (pos 0) (pos 1) _ _ b (ujjain_between w))

pub sunset_near : (w : World) (d : ℤ) (y : Expression) → outcome (run w (hindu_sunset_of d)) ≡ valued y
    → IsBetween (d -ℤ pos 25) (d +ℤ pos 38) (value w y)
unfolding hindu_sunset_of dusk_of
sunset_near w d y h =
    let x = parts w (depression_of UJJAIN Dusk (integer (pos 0)) d) _ y h in
    rw (← valued_same w _ y x.then) (wider _ _ (d -ℤ pos 25) (d +ℤ pos 38) _ (omega (arith, ints)) (omega (arith, ints))
    (universal_between w x.part _ _ (depressed_between w UJJAIN Dusk (integer (pos 0)) x.part d x.first)))

-- ---- sunrise, by whole minutes
minutes_of_days : product (between (whole (negsuc 23)) (whole (pos 37))) (exactly (fraction_of MINUTES_OF_DAY))
    ⊆ between (whole (negsuc 34559))
    (whole (pos 53280))
unfolding product least greatest smaller larger times is_at_most
minutes_of_days =
    record { endpoints = (record { cross = omega (arith, ints) }, record { cross = omega (arith, ints) }) }

minutes_around : (d : ℤ) (i : Interval) → IsProper i → IsBetween (d -ℤ pos 24) (d +ℤ pos 37) i
    → IsBetween (negsuc 34559) (pos 53280)
    (product (difference i (exactly (whole d))) (exactly (fraction_of MINUTES_OF_DAY)))
unfolding product sum negative
minutes_around d everything p b = tt
minutes_around d (between x y) p b =
    let k = wider _ _ (negsuc 23) (pos 37) (difference (between x y) (exactly (whole d))) (omega (arith, ints))
    (omega (arith, ints))
    (difference_between (d -ℤ pos 24) (d +ℤ pos 37) d d (between x y) (exactly (whole d)) b (le_refl _, le_refl _)) in
    between_of_within _ _ _
    (within_trans (product_within {i = difference (between x y) (exactly (whole d))}
    {i' = between (whole (negsuc 23)) (whole (pos 37))}
    {j = exactly (fraction_of MINUTES_OF_DAY)} (difference_proper (between x y) (exactly (whole d)) p
    (le_refl (whole d)))
    (le_refl (fraction_of MINUTES_OF_DAY)) (record { endpoints = k })
    (within_refl (exactly (fraction_of MINUTES_OF_DAY)))) minutes_of_days)

less_half : (n : ℤ) → whole n ≤F plus (whole n) (fraction_of HALF)
unfolding plus
less_half n = record { cross = omega (arith, ints) }

more_half : (n : ℤ) → plus (whole n) (fraction_of HALF) ≤F whole (n +ℤ pos 1)
unfolding plus
more_half n = record { cross = omega (arith, ints) }

half_more : (i : Interval) (lo hi : ℤ) → IsBetween lo hi i
    → IsBetween lo (hi +ℤ pos 1) (sum i (exactly (fraction_of HALF)))
unfolding sum
half_more everything lo hi b = tt
half_more (between x y) lo hi b = (
  le_trans _ _ _ (less_half lo) (plus_mono _ _ _ _ b.0 (le_refl _)),
  le_trans _ _ _ (plus_mono _ _ _ _ b.1 (le_refl _)) (more_half hi),
)

from_whole : (m lo hi : ℤ) (i : Interval) → IsBetween lo hi i
    → IsBetween (m +ℤ lo) (m +ℤ hi) (sum (exactly (whole m)) i)
unfolding sum
from_whole m lo hi everything b = tt
from_whole m lo hi (between x y) b = (
  le_trans _ _ _ (wholes_below m lo) (plus_mono _ _ _ _ (le_refl _) b.0),
  le_trans _ _ _ (plus_mono _ _ _ _ (le_refl _) b.1) (wholes_above m hi),
)

-- the minutes of a moment near a day
record AreMinutesOf (d n : ℤ) : Type 0 where
  low : (pos 1440 *ℤ d -ℤ pos 34560) ≤ℤ n
  high : n ≤ℤ (pos 1440 *ℤ d +ℤ pos 53281)

minutes_between : (w : World) (d n : ℤ) (x : Expression) → IsBetween (d -ℤ pos 24) (d +ℤ pos 37) (value w x)
    → outcome (run w (rounded_minutes_of d x))
    ≡ valued n → AreMinutesOf d n
unfolding rounded_minutes_of value
minutes_between w d n x b h =
    let e = add (integer (pos MINUTES *ℤ d)) (minutes_after_of d x) in
    let f = decides w Round integers e (λ q. q) n h in
    let z = from_whole (pos MINUTES *ℤ d) (negsuc 34559) (pos 53281) _
    (half_more _ (negsuc 34559) (pos 53280) (minutes_around d (value w x) (value_proper w x) b)) in
    let r = rw f.leads_to at (floor_between _ _ f.cell_there (value w e) (value_proper w e) z f.decided_so) in
    record { low = omega (arith, ints, r.0); high = omega (arith, ints, r.1) }

minutes_low : (d n : ℤ) → (pos 1440 *ℤ d -ℤ pos 34560) ≤ℤ n → whole (d -ℤ pos 24) ≤F minutes_in_days n
minutes_low d n h = record { cross = omega (arith, ints, h) }

minutes_high : (d n : ℤ) → n ≤ℤ (pos 1440 *ℤ d +ℤ pos 53281) → minutes_in_days n ≤F whole (d +ℤ pos 38)
minutes_high d n h = record { cross = omega (arith, ints, h) }

exact_between : (w : World) (d n : ℤ) → AreMinutesOf d n → IsBetween (d -ℤ pos 24) (d +ℤ pos 38)
    (value w (constant (minutes_in_days n)))
unfolding value
exact_between w d n r = (minutes_low d n r.low, minutes_high d n r.high)

pub sunrise_near : (w : World) (d : ℤ) (y : Expression) → outcome (run w (sunrise_of d)) ≡ valued y
    → IsBetween (d -ℤ pos 25) (d +ℤ pos 38) (value w y)
unfolding sunrise_of
sunrise_near w d y h =
    let x = parts w (dawn_of UJJAIN (constant (fraction_of HINDU_SUNRISE_DEPRESSION)) d) _ y h in
    let n = parts w (rounded_minutes_of d x.part) _ y x.then in
    let r = minutes_between w d n.part x.part (dawn_between w UJJAIN _ x.part d x.first) n.first in
    rw (← valued_same w _ y n.then) (wider _ _ (d -ℤ pos 25) (d +ℤ pos 38) _ (omega (arith, ints)) (omega (arith, ints))
    (universal_between w (constant (minutes_in_days n.part)) (d -ℤ pos 24) (d +ℤ pos 38) (exact_between w d n.part r)))

-- ---- what is enclosed lies so, too: a moment from some day on
within_a_day : (v : ℕ) → v ≤ 2 ^ 63 → breadth 0 0 v ≤F opposite (whole (negsuc 0))
unfolding opposite
within_a_day v b = record { cross = omega (arith, ints) }

since : (m lo : ℤ) → (m +ℤ pos 1) ≤ℤ lo → at_32 (m *ℤ pos (2 ^ 32)) ≤F whole (lo -ℤ pos 1)
since m lo l = record { cross = omega (arith, ints, l) }

later_by : (v : ℕ) (m lo hi : ℤ) (i j : Interval) → v ≤ 2 ^ 63 → (m +ℤ pos 1) ≤ℤ lo → i ⊆ j → IsProper i
    → IsBetween lo hi i → IsMoment v j
    → IsWithin (m *ℤ pos (2 ^ 32)) (pos (2 ^ 58)) v j
unfolding IsNarrow
later_by v m lo hi i everything b l s o h k = absurd k.kept
later_by v m lo hi everything (between x y) b l s o h k = absurd s.endpoints
later_by v m lo hi (between p q) (between x y) b l s o h k =
    let reaches = le_trans _ _ _ h.0 (le_trans _ _ _ o (le_trans _ _ _ s.endpoints.1
    (le_trans _ _ _ k.kept.close (plus_mono x x _ _ (le_refl x) (within_a_day v b))))) in
    record {
      kept = record {
        ordered = k.kept.ordered;
        above = le_trans _ _ _ (since m lo l) (from_difference x (whole (negsuc 0)) lo reaches (le_refl _));
        below = k.kept.below;
        close = k.kept.close;
      };
    }

pub later_found : {E : Type 0} (shown : E → Interval) (w : World) (v : ℕ) (m lo hi : ℤ) (p : Program Expression) (t : E)
    {b a : ℕ} → v ≤ 2 ^ 63 → (m +ℤ pos 1)
    ≤ℤ lo
    → ((y : Expression) → outcome (run w p) ≡ valued y → IsBetween lo hi (value w y))
    → Leads w (Within shown w) p b a (Ok t) → IsMoment v (shown t)
    → IsWithin (m *ℤ pos (2 ^ 32)) (pos (2 ^ 58)) v (shown t)
later_found shown w v m lo hi p t u k f l h = later_by v m lo hi (value w (leaf w p)) (shown t) u k
    (lies (leaf_within l)) (value_proper w (leaf w p))
    (f (leaf w p) (leads_leaf l)) h

-- a recent moment
pub recent_found : {E : Type 0} (shown : E → Interval) (w : World) (v : ℕ) (lo hi : ℤ) (p : Program Expression) (t : E)
    {b m : ℕ} → v ≤ 2 ^ 63 → pos 620549
    ≤ℤ lo
    → ((y : Expression) → outcome (run w p) ≡ valued y → IsBetween lo hi (value w y))
    → Leads w (Within shown w) p b m (Ok t) → IsMoment v (shown t)
    → IsSince RECENT_START v (shown t)
recent_found shown w v lo hi p t u k f l h =
    looser _ _ _ _ v v (shown t) (omega (arith, ints)) (omega (arith, ints)) (omega arith)
    (later_found shown w v (pos 620548) lo hi p t u k f l h)
