-- A moment between two others lies in the hull of these, since a greater number is a later moment; so what is decided
-- over the hull is decided at each moment in it.
use Rattle.std.specs.Prelude.{◌≡◌, ℕ, suc, ◌*◌, ◌-◌, ◌<◌, ◌≤◌, not, Bool, ℤ, pos, ◌-ℤ◌, ◌*ℤ◌, ◌≤ℤ◌, Result, Ok, Err}
use Rattle.std.specs.Prelude.{IfOk, [], ◌∷◌, refl}
use Rattle.std.proofs.Common.{arith}
use Rattle.std.proofs.Math.Nat.{mul-le-mul_right}
use Rattle.std.proofs.lemmas.Int.{ints}
use Rattle.book_model.specs.Fraction.{Fraction, ◌≤F◌, whole, plus}
use Rattle.book_model.specs.Interval.{Interval, ◌⊆◌, sum, hull as hull_of_intervals}
use Rattle.book_model.specs.declared.fail.Fail.{Fail}
use Rattle.book_model.specs.declared.fact.Place.{Place}
use Rattle.book_model.specs.declared.frac.Frac.{Frac}
use Rattle.book_model.specs.declared.horizon.Location.{Location}
use Rattle.book_model.specs.numbers.Expressions.{World, value, exactly, hull}
use Rattle.book_model.specs.numbers.Relations.{Within, Lies}
use Rattle.book_model.specs.programs.Calls.{Holds, Decides, Decides1}
use Rattle.book_model.specs.programs.Crossings.{opposite_of}
use Rattle.book_model.specs.programs.Programs.{Program}
use Rattle.book_model.specs.sky.Moonrise.{moment_of, up_of, up_at_of}
use Rattle.book_model.specs.sky.Time.{zone_on}
use Rattle.book_model.proofs.Bounds.{◌≼◌, known, ◌⊠◌, le_by}
use Rattle.book_model.proofs.Fractions.{le_refl, le_trans, plus_mono, smaller_first, larger_second}
use Rattle.book_model.proofs.Intervals.{within_refl, within_trans}
use Rattle.book_model.proofs.Leads.{leads_bind_exact, leads_answer}
use Rattle.book_model.proofs.Ring.{at, lit, ◌⊗◌}
use Rattle.moon_rise.specs.Answers.{answered}
use Rattle.moon_rise.specs.declared.walk.AnswerOver.{AnswerOver}
use Rattle.moon_rise.specs.Computed.{shift_of, computed_moment_of}
use Rattle.moon_rise.proofs.Orders.{moment_holds}

-- ---- moments in order
times_mono : (x y q : ℤ) → pos 0 ≤ℤ q → x ≤ℤ y → (x *ℤ q) ≤ℤ (y *ℤ q)
times_mono x y q n h =
    let vx = at 0 in
    let vy = at 1 in
    let vq = at 2 in
    le_by (x ∷ y ∷ q ∷ []) ((vx ≼ vy) ∷ (lit (pos 0) ≼ vq) ∷ []) (vx ⊗ vq) (vy ⊗ vq) (known 0 ⊠ known 1) refl
    (h, (n, tt))

shift_later : (z : Frac) (i j : ℕ) → i ≤ j → shift_of z i ≤F shift_of z j
shift_later z i j h =
    let m : i * z.den ≤ j * z.den = mul-le-mul_right z.den h in
    record {
      cross = times_mono (pos (i * z.den) -ℤ pos 64 *ℤ z.num) (pos (j * z.den) -ℤ pos 64 *ℤ z.num)
          (pos (suc (1536 * z.den - 1))) (omega (arith, ints))
          (omega (arith, ints, m));
    }

hull_between : (p x q : Fraction) → p ≤F x → x ≤F q → exactly x ⊆ hull_of_intervals (exactly p) (exactly q)
unfolding hull_of_intervals
hull_between p x q h k =
    record { endpoints = (le_trans _ _ _ (smaller_first p q) h, le_trans _ _ _ k (larger_second p q)) }

hull_of_shifts : (d : ℤ) (z : Frac) (from i to : ℕ) → from ≤ i → i ≤ to
    → sum (exactly (whole d)) (exactly (shift_of z i))
    ⊆ hull_of_intervals (sum (exactly (whole d)) (exactly (shift_of z from)))
    (sum (exactly (whole d)) (exactly (shift_of z to)))
unfolding sum
hull_of_shifts d z from i to h k =
    let n = whole d in
    let low = plus_mono n n (shift_of z from) (shift_of z i) (le_refl n) (shift_later z from i h) in
    let high = plus_mono n n (shift_of z i) (shift_of z to) (le_refl n) (shift_later z i to k) in
    hull_between (plus n (shift_of z from)) (plus n (shift_of z i)) (plus n (shift_of z to)) low high

-- what holds the hull of two moments holds each moment between them
pub between_holds : {E : Type 0} (shown : E → Interval) (w : World) (place : Place) (d : ℤ) (from i to : ℕ) (e : E)
    → 0 < (zone_on place d).den
    → from ≤ i → i ≤ to
    → Within shown w (hull (computed_moment_of (zone_on place d) d from) (computed_moment_of (zone_on place d) d to)) e
    → Within shown w (moment_of place d i) e
unfolding Lies value computed_moment_of
between_holds shown w place d from i to e p h k y =
    let z = zone_on place d in
    let here : Interval = value w (computed_moment_of z d i) in
    let m = moment_holds (λ (j : Interval). j) w place d i here p (record { deep = y.deep; inside = within_refl here })
    in
    record { deep = y.deep; inside = within_trans m.inside (within_trans (hull_of_shifts d z from i to h k) y.inside) }

-- ---- decided at each of them
-- whether the moon is up, by an enclosure that holds them all
pub each_up : {E : Type 0} (shown : E → Interval) (place : Place) (p : Location) (d : ℤ) (from to : ℕ) (t : E)
    (r : Result AnswerOver Fail) {b a : ℕ}
    → ((i : ℕ) → from ≤ i → i ≤ to → Holds shown (moment_of place d i) t) → Decides1 shown (up_of p) t b a (answered r)
    → IfOk r (λ all. (i : ℕ) → from ≤ i → i ≤ to → Decides (up_at_of place p d i) b a (Ok all.so))
unfolding up_at_of
each_up shown place p d from to t (Ok all) m h = λ i l u w deep. h w (moment_of place d i) (m i l u w deep)
each_up shown place p d from to t (Err f) m h = tt

-- the opposite of what is so at each
pub each_opposite : (holds : ℕ → Program Bool) (from to : ℕ) (so : Bool) {b a : ℕ}
    → ((i : ℕ) → from ≤ i → i ≤ to → Decides (holds i) b a (Ok so))
    → (i : ℕ) → from ≤ i → i ≤ to → Decides (opposite_of holds i) b a (Ok (not so))
unfolding opposite_of
each_opposite holds from to so h i l u w deep = leads_bind_exact _ (h i l u w deep) (leads_answer refl)
