-- How close the tests of rounded minutes are, and between which the minutes of a sunrise lie. A floor is taken of
-- minutes since the day began, and the whole minutes of the day are added after: the test's endpoints, moved so, have
-- room in 128 bits, since minutes lie within 2^58 (`Beside` says that the floor is the definition's). The minutes'
-- bound is computed once of a settled moment.
use Rattle.std.specs.Prelude.{◌≡◌, ℕ, ◌+◌, ◌-◌, ◌*◌, ◌^◌, true, ℤ, pos, neg_ℤ, ◌+ℤ◌, ◌-ℤ◌, ◌*ℤ◌, ◌≤ℤ◌, Some, Result, Ok}
use Rattle.std.specs.Prelude.{Err, IfErr, FitsSigned, nat_lt, unsigned_abs, max, refl, if◌then◌else◌, ◌==◌}
use Rattle.std.proofs.Common.{arith, [], ◌∷◌}
use Rattle.std.specs.Int.{w128}
use Rattle.std.specs.Ordering.{int_eq}
use Rattle.std.proofs.lemmas.Int.{ints}
use Rattle.std.proofs.lemmas.Bool.{lt-ltb}
use Rattle.book_model.specs.Fraction.{Fraction, ◌≤F◌, ◌≈◌, whole, plus, opposite, times, floor, floor_quotient}
use Rattle.book_model.specs.Interval.{Interval, IsProper, IsMember, everything, between, ◌⊆◌}
use Rattle.book_model.proofs.Floors.{floor_below, floor_close, floor_quotient_is}
use Rattle.book_model.proofs.FractionRing.{same_by}
use Rattle.book_model.proofs.Fractions.{le_refl, le_trans, le_lt_trans, plus_mono, times_mono}
use Rattle.book_model.proofs.Intervals.{sum_holds, product_holds, negative_holds, within_everything}
use Rattle.book_model.proofs.Ring.{at, ◌⊕◌, ◌⊖◌, ◌⊗◌}
use Rattle.book_model.proofs.Same.{le_of_same, ge_of_same, same_refl, same_trans, plus_cong}
use Rattle.book_model.specs.declared.fail.Fail.{Fail}
use Rattle.book_model.specs.declared.fail.Fail.TheVariants.{Undecided as undecided_at, Void}
use Rattle.book_model.specs.declared.location_tables.TheConstants.{MINUTES, MINUTES_OF_DAY}
use Rattle.book_model.specs.declared.fail.Undecided.{Undecided}
use Rattle.book_model.specs.declared.site.Site.{Site}
use Rattle.book_model.specs.declared.site.Site.TheVariants.{Round}
use Rattle.book_model.specs.declared.tables.TheConstants.{HALF}
use Rattle.book_model.specs.numbers.Bounds.{Bound, unbounded, bounded, Reach, implies, bound_of, limits_at, limits_of}
use Rattle.book_model.specs.numbers.Bounds.{constant_bound, integer_bound, sum_bound, difference_bound, scaled_bound}
use Rattle.book_model.specs.numbers.Bounds.{at_32, IsNarrow}
use Rattle.book_model.specs.numbers.Expressions.{Expression, World, value, exactly, argument, constant, integer, add}
use Rattle.book_model.specs.numbers.Expressions.{subtract, scale}
use Rattle.book_model.specs.numbers.Fractions.{fraction_of}
use Rattle.book_model.specs.numbers.Ranges.{IsBetween}
use Rattle.book_model.specs.numbers.Relations.{Narrow, Keeps, Within}
use Rattle.book_model.specs.programs.Leading.{units_of_56, bounds, between_cells, too_far, IsUndecidedCell, Exact}
use Rattle.book_model.specs.programs.Leading.{Leads}
use Rattle.book_model.specs.programs.Programs.{integers, cell_at, cell_of}
use Rattle.book_model.specs.programs.Widths.{IsAbout, IsClose, close_test}
use Rattle.book_model.specs.sky.Horizon.{minutes_after_of, rounded_minutes_of, minutes_in_days}
use Rattle.book_model.proofs.Estimates.{floor_between}
use Rattle.book_model.proofs.FactRuns.{decides, when_some}
use Rattle.book_model.proofs.Implying.{limits_within}
use Rattle.book_model.proofs.Leads.{leads_value}
use Rattle.book_model.proofs.Nesting.{cell_nested}
use Rattle.encl_core.proofs.Measuring.{measured, looser, sloped}
use Rattle.encl_core.specs.Steps.{IsUndecidedFloor}
use Rattle.rise_set.specs.Moved.{HasRoom, IsTooFar}
use Rattle.rise_set.specs.Widths.{IsMeanMoment, IsSettled, AreMinutes}
use Rattle.rise_set.proofs.MeanMoments.{moment_world, within_moment}
use Rattle.book_model.specs.sky.Facts.{IsFactDay}
use Rattle.encl_core.specs.parts.TheConstants.{ONE}

-- ---- a floor that a whole number is added to
about_between : (v : ℕ) (i : Interval) → IsAbout (2 ^ 90) v i → IsBetween (neg_ℤ (pos (2 ^ 58))) (pos (2 ^ 58)) i
unfolding IsNarrow
about_between v everything h = absurd h.kept
about_between v (between a b) h = (
  le_trans _ _ _ (record { cross = omega (arith, ints) }) h.kept.above,
  le_trans _ _ _ h.kept.below (record { cross = omega (arith, ints) }),
)

about_proper : (v : ℕ) (i : Interval) → IsAbout (2 ^ 90) v i → IsProper i
unfolding IsNarrow
about_proper v everything h = absurd h.kept
about_proper v (between a b) h = h.kept.ordered

floor_about : (v : ℕ) (q : ℤ) (i : Interval) → IsAbout (2 ^ 90) v i → cell_at integers i ≡ Some q
    → (neg_ℤ (pos (2 ^ 58)) ≤ℤ q) × (q ≤ℤ pos (2 ^ 58))
floor_about v q i h e = floor_between (neg_ℤ (pos (2 ^ 58))) (pos (2 ^ 58)) q i (about_proper v i h)
    (about_between v i h) e

-- the sum with a number of minutes has 64 bits
pub sum_close : (v n : ℕ) (k q : ℤ) (s : Site) (i : Interval) (r : Result ℤ Fail) → IsAbout (2 ^ 90) v i
    → cell_at integers i ≡ Some q → neg_ℤ (pos (2 ^ 40))
    ≤ℤ k → k ≤ℤ pos (2 ^ 40) → IfErr r (IsTooFar s n (k +ℤ q)) → IfErr r IsClose
sum_close v n k q s i (Ok z) h e l m o = tt
sum_close v n k q s i (Err (undecided_at u)) h e l m o = let f = floor_about v q i h e in
    absurd (o.0 (omega (arith, ints, f.0, f.1)))
sum_close v n k q s i (Err (Void t)) h e l m o = absurd o

end_low : (lo : ℤ) (a : Fraction) → units_of_56 lo ≈ a → at_32 (neg_ℤ (pos (2 ^ 90))) ≤F a → neg_ℤ (pos (2 ^ 114)) ≤ℤ lo
end_low lo a e h = let k = le_trans _ _ _ h (ge_of_same e) in omega (arith, ints, k.cross)

end_high : (hi : ℤ) (a : Fraction) → units_of_56 hi ≈ a → a ≤F at_32 (pos (2 ^ 90)) → hi ≤ℤ pos (2 ^ 114)
end_high hi a e h = let k = le_trans _ _ _ (le_of_same e) h in omega (arith, ints, k.cross)

open_room : (v : ℕ) (k lo hi : ℤ) (i : Interval) → IsAbout (2 ^ 90) v i → neg_ℤ (pos (2 ^ 40)) ≤ℤ k → k ≤ℤ pos (2 ^ 40)
    → IsUndecidedCell integers i lo hi
    → FitsSigned w128 (lo +ℤ k *ℤ ONE) × FitsSigned w128 (hi +ℤ k *ℤ ONE)
unfolding IsNarrow
open_room v k lo hi i h l m (too_far q e f b) = let z = floor_about v q i h e in
    absurd (f (omega (arith, ints, z.0, z.1)))
open_room v k lo hi everything h l m (between_cells e f) = absurd h.kept
open_room v k lo hi (between a b) h l m (between_cells e (bounds p q)) =
    let s = end_low lo a p h.kept.above in
    let t = end_high lo a p (le_trans _ _ _ h.kept.ordered h.kept.below) in
    let x = end_low hi b q (le_trans _ _ _ h.kept.above h.kept.ordered) in
    let y = end_high hi b q h.kept.below in
    (omega (arith, ints), omega (arith, ints))

pub failure_room : (v : ℕ) (k : ℤ) (s : Site) (i : Interval) (f : Fail) → IsAbout (2 ^ 90) v i
    → neg_ℤ (pos (2 ^ 40)) ≤ℤ k → k ≤ℤ pos (2 ^ 40)
    → IsUndecidedFloor i s f → HasRoom k f
failure_room v k s i (undecided_at u) h l m o = open_room v k u.lo u.hi i h l m o.0
failure_room v k s i (Void t) h l m o = tt

-- ---- the minutes after a day begins
abbrev settled_bounds : ℕ → Bound
settled_bounds k = if k == 0 then bounded (neg_ℤ (pos (2 ^ 58))) (pos (2 ^ 58)) 0 (17 * 2 ^ 28)
    else bounded (neg_ℤ (pos (40000001 * 2 ^ 32)))
    (pos (40000001 * 2 ^ 32)) 0 0

minutes_reach : implies (bound_of (limits_at 56) settled_bounds
    (add (scale (fraction_of MINUTES_OF_DAY) (subtract (argument 0) (argument 1))) (constant (fraction_of HALF))))
    (bounded (neg_ℤ (pos (2 ^ 90))) (pos (2 ^ 90)) 0 (2 ^ 43)) ≡ true
unfolding implies bound_of constant_bound sum_bound difference_bound scaled_bound
minutes_reach = refl

pub day_within : {E : Type 0} (shown : E → Interval) (n : ℕ) (d : ℤ) (x : E) → n ≡ 56 → IsFactDay d
    → ((r : Reach) → Narrow shown (limits_of n) r (integer d) x)
    → IsAbout (40000001 * 2 ^ 32) 0 (shown x)
unfolding Keeps bound_of integer_bound
day_within shown n d x e h f =
    let l = limits_within n (omega arith) (omega arith) in
    let z = f (record { width = 0; bounds = λ k. unbounded }) in
    let p : nat_lt (unsigned_abs d * 2 ^ 32) (2 ^ 100) ≡ true = lt-ltb _ _ (omega (arith, ints, h.0, h.1)) in
    looser _ _ _ _ 0 0 _ (omega (arith, ints, h.0)) (omega (arith, ints, h.1)) (omega arith)
    (record { kept = rw (l, e, p) at z.kept })

pub minutes_within : {E : Type 0} (shown : E → Interval) (n : ℕ) (t d y : E) → n ≡ 56 → IsSettled (shown t)
    → IsAbout (40000001 * 2 ^ 32) 0 (shown d)
    → ((r : Reach) (p q : Expression) → Narrow shown (limits_of n) r p t → Narrow shown (limits_of n) r q d
    → Narrow shown (limits_of n) r (add (scale (fraction_of MINUTES_OF_DAY) (subtract p q))
    (constant (fraction_of HALF))) y)
    → IsAbout (2 ^ 90) (2 ^ 43) (shown y)
minutes_within shown n t d y e h k f =
    let near = looser _ _ (neg_ℤ (pos (2 ^ 58))) (pos (2 ^ 58)) (17 * 2 ^ 28) (17 * 2 ^ 28) (shown t)
    (omega (arith, ints)) (omega (arith, ints)) (omega arith)
    h in
    measured shown n 0 settled_bounds (add (scale (fraction_of MINUTES_OF_DAY) (subtract (argument 0) (argument 1)))
    (constant (fraction_of HALF))) _ _ 0
    (2 ^ 43) (2 ^ 43) y e minutes_reach (omega arith)
    (f (record { width = 0; bounds = settled_bounds }) (argument 0) (argument 1)
    (sloped shown (limits_of n) 0 (17 * 2 ^ 28) settled_bounds 0 (neg_ℤ (pos (2 ^ 58))) (pos (2 ^ 58)) 0 (17 * 2 ^ 28) t
    refl (omega arith) near)
    (sloped shown (limits_of n) 0 0 settled_bounds 1 (neg_ℤ (pos (40000001 * 2 ^ 32))) (pos (40000001 * 2 ^ 32)) 0 0 d
    refl (omega arith) k))

-- ---- between which the minutes lie
exactly_in : (i : Interval) (x : Fraction) → IsMember x i → exactly x ⊆ i
exactly_in everything x h = within_everything _
exactly_in (between a b) x h = record { endpoints = h }

floor_of_exact : (x : Fraction) (n : ℤ) → cell_at integers (exactly x) ≡ Some n → floor x ≡ n
unfolding cell_at cell_of
floor_of_exact x n e = (when_some (int_eq (floor x) (floor x)) (floor x) n e).1

member_floor : (i : Interval) (x : Fraction) (n : ℤ) → IsMember x i → cell_at integers i ≡ Some n → floor x ≡ n
member_floor i x n h e = floor_of_exact x n (cell_nested integers (exactly x) i n (le_refl x) (exactly_in i x h) e)

-- the minutes and a half of a moment p
abbrev minutes_at : Fraction → Fraction
minutes_at p = plus (times p (fraction_of MINUTES_OF_DAY)) (fraction_of HALF)

-- as they are computed, from the day d on
abbrev minutes_by : ℤ → Fraction → Fraction
minutes_by d p = plus (whole (pos MINUTES *ℤ d))
    (plus (times (plus p (opposite (whole d))) (fraction_of MINUTES_OF_DAY)) (fraction_of HALF))

whole_minutes : (d : ℤ) → whole (pos MINUTES *ℤ d) ≈ times (fraction_of MINUTES_OF_DAY) (whole d)
unfolding times
whole_minutes d = record { cross = omega (arith, ints) }

same_minutes : (d : ℤ) (p : Fraction) → minutes_by d p ≈ minutes_at p
same_minutes d p =
    same_trans (plus_cong (whole_minutes d) (same_refl _))
    (same_by (p ∷ whole d ∷ fraction_of MINUTES_OF_DAY ∷ fraction_of HALF ∷ [])
    (at 2 ⊗ at 1 ⊕ ((at 0 ⊖ at 1) ⊗ at 2 ⊕ at 3)) (at 0 ⊗ at 2 ⊕ at 3) refl)

minutes_least : whole (neg_ℤ (pos (1440 * (2 ^ 26 - 2)))) ≤F minutes_at (at_32 (neg_ℤ (pos (2 ^ 58 - 2 ^ 33))))
unfolding plus times
minutes_least = record { cross = omega (arith, ints) }

minutes_most : minutes_at (at_32 (pos (2 ^ 58 - 2 ^ 33))) ≤F whole (pos (1440 * (2 ^ 26 - 2) + 1))
unfolding plus times
minutes_most = record { cross = omega (arith, ints) }

minutes_rise : (p q : Fraction) → p ≤F q → minutes_at p ≤F minutes_at q
minutes_rise p q h =
    plus_mono _ _ _ _ (times_mono p q (fraction_of MINUTES_OF_DAY) (record { cross = omega (arith, ints) }) h)
    (le_refl _)

minutes_between : (d n : ℤ) (p : Fraction) → floor (minutes_by d p) ≡ n → at_32 (neg_ℤ (pos (2 ^ 58 - 2 ^ 33))) ≤F p
    → p ≤F at_32 (pos (2 ^ 58 - 2 ^ 33))
    → AreMinutes n
minutes_between d n p e h k =
    let same = same_minutes d p in
    let low = le_trans _ _ _ minutes_least (le_trans _ _ _ (minutes_rise _ _ h) (ge_of_same same)) in
    let high = le_trans _ _ _ (le_of_same same) (le_trans _ _ _ (minutes_rise _ _ k) minutes_most) in
    let l = le_lt_trans _ _ _ low (floor_close (minutes_by d p)) in
    let u = le_trans _ _ _ (floor_below (minutes_by d p)) high in
    (omega (arith, ints, e, l.strict), omega (arith, ints, e, u.cross))

minutes_member : (w : World) (d : ℤ) (p : Fraction) → IsMember p (w.arguments 0)
    → IsMember (minutes_by d p) (value w (add (integer (pos MINUTES *ℤ d)) (minutes_after_of d (argument 0))))
unfolding value
minutes_member w d p h =
    let e : (x : Fraction) → IsMember x (exactly x) = λ x. (le_refl x, le_refl x) in
    sum_holds _ _ _ _ (e _)
    (sum_holds _ _ _ _
    (product_holds _ _ _ _ (sum_holds _ _ _ _ h (negative_holds (exactly (whole d)) (whole d) (e _))) (e _)) (e _))

minutes_of : (w : World) (v : ℕ) (d n : ℤ) (i : Interval) → w.arguments 0 ≡ i → IsMeanMoment v i
    → cell_at integers (value w (add (integer (pos MINUTES *ℤ d)) (minutes_after_of d (argument 0)))) ≡ Some n
    → AreMinutes n
unfolding IsNarrow
minutes_of w v d n everything s h e = absurd h.kept
minutes_of w v d n (between a b) s h e =
    let m : IsMember a (w.arguments 0) = rw s (le_refl a, h.kept.ordered) in
    let f = member_floor _ _ n (minutes_member w d a m) e in
    minutes_between d n a f h.kept.above (le_trans _ _ _ h.kept.ordered h.kept.below)

-- the minutes of a rounded moment
pub rounded_minutes_near : {E : Type 0} (shown : E → Interval) (p : (e : E) → IsProper (shown e)) (v : ℕ) (d n : ℤ)
    (t : E) (b a : ℕ) → IsMeanMoment v (shown t)
    → ((w : World) (x : Expression) → Within shown w x t → Leads w Exact (rounded_minutes_of d x) b a (Ok n))
    → AreMinutes n
unfolding rounded_minutes_of moment_world
rounded_minutes_near shown p v d n t b a h f =
    let w = moment_world (shown t) (p t) in
    let l = f w (argument 0) (within_moment shown p t) in
    let c = decides w Round integers (add (integer (pos MINUTES *ℤ d)) (minutes_after_of d (argument 0))) (λ q. q) n
    (leads_value l) in
    let m = minutes_of w v d c.cell_there (shown t) refl h c.decided_so in
    rw c.leads_to at m

-- ---- in days
pub days_within : {E : Type 0} (shown : E → Interval) (n : ℕ) (m : ℤ) (x : E) → n ≡ 56 → AreMinutes m
    → ((r : Reach) → Narrow shown (limits_of n) r (constant (minutes_in_days m)) x)
    → IsAbout (2 ^ 58 - 2 ^ 32) (2 ^ 8) (shown x)
unfolding Keeps bound_of constant_bound
days_within shown n m x e h f =
    let l = limits_within n (omega arith) (omega arith) in
    let z = f (record { width = 0; bounds = λ k. unbounded }) in
    let low = floor_quotient_is (m *ℤ pos (2 ^ 32)) 1439 in
    let high = floor_quotient_is (neg_ℤ (m *ℤ pos (2 ^ 32))) 1439 in
    let p : nat_lt (unsigned_abs m) (2 ^ 70) ≡ true = lt-ltb _ _ (omega (arith, ints, h.0, h.1)) in
    let q : nat_lt (max (unsigned_abs (floor_quotient (m *ℤ pos (2 ^ 32)) 1439))
    (unsigned_abs (neg_ℤ (floor_quotient (neg_ℤ (m *ℤ pos (2 ^ 32))) 1439))))
    (2 ^ 100) ≡ true = lt-ltb _ _ (omega (arith, ints, h.0, h.1, low.not_above, low.close, high.not_above, high.close))
    in
    looser _ _ _ _ (2 ^ 8) (2 ^ 8) _ (omega (arith, ints, h.0, h.1, low.not_above, low.close))
    (omega (arith, ints, h.0, h.1, high.not_above, high.close))
    (omega arith) (record { kept = rw (l, e, p, q) at z.kept })

-- ---- a test that a whole number is added to
pub moved_close : (u v : Undecided) → (v.hi -ℤ v.lo) ≡ (u.hi -ℤ u.lo) → v.site ≡ u.site → IsClose (undecided_at u)
    → IsClose (undecided_at v)
moved_close u v e s (close_test h) = close_test (rw (e, s) h)
