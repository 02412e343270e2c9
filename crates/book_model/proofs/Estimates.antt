-- True noon and the estimate of a longitude's moment: how many tests they make, from where to where they lie, and the
-- day from which a search for the first day of a Persian year sets out.
use Rattle.std.specs.Prelude.{◌≡◌, ℤ, pos, negsuc, ◌+ℤ◌, ◌-ℤ◌, ◌≤ℤ◌, Some}
use Rattle.std.proofs.Common.{arith}
use Rattle.std.proofs.lemmas.Int.{ints}
use Rattle.std.specs.Ordering.{int_eq}
use Rattle.exact_math.specs.Fraction.{Fraction, ◌≤F◌, whole, plus, opposite, times, smaller, larger, is_at_most}
use Rattle.exact_math.specs.Interval.{Interval, everything, between, ◌⊆◌, IsProper, sum, negative, difference, product}
use Rattle.exact_math.specs.Interval.{minimum as interval_minimum, maximum as interval_maximum, least, greatest}
use Rattle.exact_math.proofs.Fractions.{le_trans, le_refl, le_lt_trans, plus_mono, opposite_mono, smaller_first}
use Rattle.exact_math.proofs.Fractions.{smaller_keeps, larger_first, larger_keeps}
use Rattle.exact_math.proofs.Intervals.{within_trans, product_within, within_refl}
use Rattle.book_model.specs.declared.site.Site.TheVariants.{StepWrap}
use Rattle.book_model.specs.declared.sun_tables.TheConstants.{DEGREE_OF_YEAR, MINUS_HALF, PERSIAN_NOON_LONGITUDE}
use Rattle.book_model.specs.declared.tables.TheConstants.{HALF}
use Rattle.book_model.specs.numbers.Expressions.{Expression, World, value, exactly, integer, constant, add, subtract}
use Rattle.book_model.specs.numbers.Expressions.{minimum, remainder}
use Rattle.book_model.specs.numbers.Fractions.{fraction_of}
use Rattle.book_model.specs.sky.Noon.{part_of_day, equation_of, equation_of_time_of, ahead_of, from_apparent_of}
use Rattle.book_model.specs.sky.Noon.{noon_of, IsStart, StartsNear}
use Rattle.book_model.specs.programs.Programs.{answer, integers, multiples, cell_of, cell_at, threshold, run, valued}
use Rattle.book_model.specs.programs.Programs.{outcome, AtMost, answer_at_most, cell_at_most}
pub use Rattle.book_model.specs.numbers.Ranges.{IsBetween}
use Rattle.book_model.specs.sky.Sun.{sun_of, reduced_of, past_of, off_of, back_by, estimate_of}
use Rattle.book_model.specs.sky.Time.{centuries_of}
use Rattle.book_model.proofs.Cells.{cells_cut}
use Rattle.book_model.proofs.FactRuns.{centuries_few, sun_few, parts, decides, when_some, remainder_within}
use Rattle.book_model.proofs.Leads.{at_most_bind}
use Rattle.book_model.proofs.Values.{value_proper}

-- ---- how many tests
pub equation_few : (x : Expression) → AtMost 1 (equation_of_time_of x)
unfolding equation_of_time_of
equation_few x = at_most_bind 1 0 (centuries_few x) (λ c. answer_at_most)

pub from_apparent_few : (l : Fraction) (x : Expression) → AtMost 1 (from_apparent_of l x)
unfolding from_apparent_of
from_apparent_few l x = at_most_bind 1 0 (equation_few _) (λ e. answer_at_most)

-- true noon makes one test
pub noon_few : (d : ℤ) → AtMost 1 (noon_of d)
unfolding noon_of
noon_few d = at_most_bind 1 0 (from_apparent_few _ _) (λ e. answer_at_most)

pub reduced_few : (x : Expression) → AtMost 1 (reduced_of x)
unfolding reduced_of
reduced_few x = cell_at_most (λ q. answer_at_most)

past_few : (l x : Expression) → AtMost 3 (past_of l x)
unfolding past_of
past_few l x = at_most_bind 2 1 (sun_few x) (λ s. reduced_few _)

off_few : (l x : Expression) → AtMost 3 (off_of l x)
unfolding off_of
off_few l x = at_most_bind 2 1 (sun_few x) (λ s. at_most_bind 1 0 (reduced_few _) (λ p. answer_at_most))

-- the estimate makes six
pub estimate_few : (l x : Expression) → AtMost 6 (estimate_of l x)
unfolding estimate_of
estimate_few l x = at_most_bind 3 3 (past_few l x) (λ p. at_most_bind 3 0 (off_few l _) (λ o. answer_at_most))

-- ---- from where to where intervals lie
pub between_of_within : (lo hi : ℤ) (i : Interval) → i ⊆ between (whole lo) (whole hi) → IsBetween lo hi i
between_of_within lo hi everything h = tt
between_of_within lo hi (between a b) h = (h.endpoints.0, h.endpoints.1)

pub wider : (lo hi l h : ℤ) (i : Interval) → l ≤ℤ lo → hi ≤ℤ h → IsBetween lo hi i → IsBetween l h i
wider lo hi l h everything p q k = tt
wider lo hi l h (between a b) p q k = (
  le_trans _ _ _ (record { cross = omega (arith, ints) }) k.0,
  le_trans _ _ _ k.1
      (record { cross = omega (arith, ints) }),
)

whole_less : (m n : ℤ) → whole (m -ℤ n) ≤F plus (whole m) (opposite (whole n))
unfolding plus opposite
whole_less m n = record { cross = omega (arith, ints) }

less_whole : (m n : ℤ) → plus (whole m) (opposite (whole n)) ≤F whole (m -ℤ n)
unfolding plus opposite
less_whole m n = record { cross = omega (arith, ints) }

pub difference_between : (a b c d : ℤ) (i j : Interval) → IsBetween a b i → IsBetween c d j
    → IsBetween (a -ℤ d) (b -ℤ c) (difference i j)
unfolding sum negative
difference_between a b c d everything j h k = tt
difference_between a b c d (between p q) everything h k = tt
difference_between a b c d (between p q) (between r s) h k = (
  le_trans _ _ _ (whole_less a d) (plus_mono _ _ _ _ h.0 (opposite_mono _ _ k.1)),
  le_trans _ _ _ (plus_mono _ _ _ _ h.1 (opposite_mono _ _ k.0)) (less_whole b c),
)

whole_more : (m n : ℤ) → whole (m +ℤ n) ≤F plus (whole m) (whole n)
unfolding plus
whole_more m n = record { cross = omega (arith, ints) }

more_whole : (m n : ℤ) → plus (whole m) (whole n) ≤F whole (m +ℤ n)
unfolding plus
more_whole m n = record { cross = omega (arith, ints) }

pub sum_between : (a b c d : ℤ) (i j : Interval) → IsBetween a b i → IsBetween c d j
    → IsBetween (a +ℤ c) (b +ℤ d) (sum i j)
unfolding sum
sum_between a b c d everything j h k = tt
sum_between a b c d (between p q) everything h k = tt
sum_between a b c d (between p q) (between r s) h k = (
  le_trans _ _ _ (whole_more a c) (plus_mono _ _ _ _ h.0 k.0),
  le_trans _ _ _ (plus_mono _ _ _ _ h.1 k.1) (more_whole b d),
)

-- the lesser of two, of which the first isn't below and isn't above the bounds
pub minimum_between : (lo hi h : ℤ) (i j : Interval) → IsBetween lo hi i → IsBetween lo h j
    → IsBetween lo hi (interval_minimum i j)
unfolding interval_minimum
minimum_between lo hi h everything j p q = tt
minimum_between lo hi h (between a b) everything p q = tt
minimum_between lo hi h (between a b) (between c d) p q =
    (smaller_keeps (λ z. whole lo ≤F z) a c p.0 q.0, le_trans _ _ _ (smaller_first b d) p.1)

-- the floor of an interval between two whole numbers
pub floor_between : (lo hi q : ℤ) (i : Interval) → IsProper i → IsBetween lo hi i → cell_at integers i ≡ Some q
    → (lo ≤ℤ q) × (q ≤ℤ hi)
unfolding cell_at threshold
floor_between lo hi q everything p h e = absurd (cc)
floor_between lo hi q (between a b) p h e =
    let w = when_some (int_eq (cell_of integers a) (cell_of integers b)) (cell_of integers a) q e in
    let low = rw w.1 at ((cells_cut integers).begun a) in
    let high = rw w.1 at ((cells_cut integers).not_over a) in
    let l = le_lt_trans _ _ _ h.0 high in
    let u = le_trans _ _ _ low (le_trans _ _ _ p h.1) in
    (omega (arith, ints, l.strict), omega (arith, ints, u.cross))

-- ---- the estimate
pub reduced_within : (w : World) (x e : Expression) → outcome (run w (reduced_of x)) ≡ valued e
    → value w e ⊆ between (whole (pos 0)) (whole (pos 360))
unfolding reduced_of value
reduced_within w x e h =
    let d = decides w StepWrap (multiples 360) x (λ q. remainder 360 x q) e h in
    rw (← d.leads_to) (remainder_within _ d.cell_there d.decided_so)

past_within : (w : World) (l x p : Expression) → outcome (run w (past_of l x)) ≡ valued p
    → value w p ⊆ between (whole (pos 0)) (whole (pos 360))
unfolding past_of
past_within w l x p h = let s = parts w (sun_of x) _ p h in reduced_within w (subtract s.part l) p s.then

pub valued_same : {A : Type 0} (w : World) (a b : A) → outcome (run w (answer a)) ≡ valued b → a ≡ b
unfolding outcome run
valued_same w a b h = cc

half_turn_off : (i : Interval) → i ⊆ between (whole (pos 0)) (whole (pos 360))
    → difference i (exactly (whole (pos 180))) ⊆ between (whole (negsuc 179)) (whole (pos 180))
unfolding sum negative
half_turn_off everything h = absurd h.endpoints
half_turn_off (between a b) h =
    record {
      endpoints = (
        le_trans _ _ _ (whole_less (pos 0) (pos 180)) (plus_mono _ _ _ _ h.endpoints.0 (le_refl _)),
        le_trans _ _ _ (plus_mono _ _ _ _ h.endpoints.1 (le_refl _)) (less_whole (pos 360) (pos 180)),
      );
    }

off_within : (w : World) (l x o : Expression) → outcome (run w (off_of l x)) ≡ valued o
    → value w o ⊆ between (whole (negsuc 179)) (whole (pos 180))
unfolding off_of value
off_within w l x o h =
    let s = parts w (sun_of x) _ o h in
    let p = parts w (reduced_of (add (subtract s.part l) (integer (pos 180)))) _ o s.then in
    rw (← valued_same w (subtract p.part (integer (pos 180))) o p.then)
    (half_turn_off (value w p.part) (reduced_within w _ p.part p.first))

-- a turn, and half a turn on both sides, as the days of the mean sun
days_of_turn : product (between (whole (pos 0)) (whole (pos 360))) (exactly (fraction_of DEGREE_OF_YEAR)) ⊆ between
    (whole (pos 0)) (whole (pos 366))
unfolding product least greatest smaller larger times is_at_most
days_of_turn = record { endpoints = (record { cross = omega (arith, ints) }, record { cross = omega (arith, ints) }) }

days_of_half_turns : product (between (whole (negsuc 179)) (whole (pos 180))) (exactly (fraction_of DEGREE_OF_YEAR))
    ⊆ between (whole (negsuc 182))
    (whole (pos 183))
unfolding product least greatest smaller larger times is_at_most
days_of_half_turns =
    record { endpoints = (record { cross = omega (arith, ints) }, record { cross = omega (arith, ints) }) }

-- what is taken off is at most so many days
back_between : (w : World) (p x : Expression) (a b c d : ℤ) (lo hi : ℤ) → value w p ⊆ between (whole a) (whole b)
    → product (between (whole a) (whole b)) (exactly (fraction_of DEGREE_OF_YEAR)) ⊆ between (whole c) (whole d)
    → IsBetween lo hi (value w x) → IsBetween (lo -ℤ d) (hi -ℤ c) (value w (back_by p x))
unfolding back_by value
back_between w p x a b c d lo hi h k m =
    let i = within_trans (product_within (value_proper w p) (le_refl (fraction_of DEGREE_OF_YEAR)) h (within_refl _)) k
    in
    difference_between lo hi c d _ _ m (between_of_within c d _ i)

-- an estimate lies at most 549 days before the moment from which it is made, and never after it
pub estimate_between : (w : World) (l x s : Expression) (lo hi : ℤ) → IsBetween lo hi (value w x)
    → outcome (run w (estimate_of l x)) ≡ valued s
    → IsBetween (lo -ℤ pos 549) hi (value w s)
unfolding estimate_of value
estimate_between w l x s lo hi b h =
    let p = parts w (past_of l x) _ s h in
    let o = parts w (off_of l (back_by p.part x)) _ s p.then in
    let t = back_between w p.part x (pos 0) (pos 360) (pos 0) (pos 366) lo hi (past_within w l x p.part p.first)
    days_of_turn b in
    let u = back_between w o.part (back_by p.part x) (negsuc 179) (pos 180) (negsuc 182) (pos 183) (lo -ℤ pos 366)
    (hi -ℤ pos 0)
    (off_within w l _ o.part o.first) days_of_half_turns t in
    let v = wider _ _ (lo -ℤ pos 549) (hi +ℤ pos 183) _ (omega (arith, ints)) (omega (arith, ints)) u in
    rw (← valued_same w (minimum x (back_by o.part (back_by p.part x))) s o.then)
    (minimum_between (lo -ℤ pos 549) hi (hi +ℤ pos 183) (value w x) _
    (wider lo hi (lo -ℤ pos 549) hi (value w x) (omega (arith, ints)) (omega (arith, ints)) b)
    v)

-- ---- true noon
clamped : (i : Interval)
    → IsBetween (negsuc 0) (pos 1) (interval_maximum (exactly (fraction_of MINUS_HALF))
    (interval_minimum (exactly (fraction_of HALF)) i))
unfolding interval_maximum interval_minimum
clamped everything = tt
clamped (between a b) = (
  le_trans _ _ _ (record { cross = omega (arith, ints) }) (larger_first (fraction_of MINUS_HALF) _),
  larger_keeps (λ z. z ≤F whole (pos 1)) (fraction_of MINUS_HALF) _ (record { cross = omega (arith, ints) })
      (le_trans _ _ _ (smaller_first (fraction_of HALF) b) (record { cross = omega (arith, ints) })),
)

equation_between : (w : World) (c : Expression) → IsBetween (negsuc 0) (pos 1) (value w (equation_of c))
unfolding equation_of part_of_day value
equation_between w c = clamped _

-- the equation of time is at most half a day, and so at most a day
equation_of_time_between : (w : World) (x e : Expression) → outcome (run w (equation_of_time_of x)) ≡ valued e
    → IsBetween (negsuc 0) (pos 1) (value w e)
unfolding equation_of_time_of
equation_of_time_between w x e h =
    let c = parts w (centuries_of x) _ e h in
    rw (← valued_same w (equation_of c.part) e c.then) (equation_between w c.part)

pub from_apparent_between : (w : World) (l : Fraction) (x t : Expression) (lo hi : ℤ) → IsBetween lo hi (value w x)
    → outcome (run w (from_apparent_of l x))
    ≡ valued t → IsBetween (lo -ℤ pos 1) (hi +ℤ pos 1) (value w t)
unfolding from_apparent_of value
from_apparent_between w l x t lo hi b h =
    let e = parts w (equation_of_time_of (subtract x (ahead_of l))) _ t h in
    let k = difference_between lo hi (negsuc 0) (pos 1) _ _ b (equation_of_time_between w _ e.part e.first) in
    rw (← valued_same w (subtract x e.part) t e.then) (wider _ _ (lo -ℤ pos 1) (hi +ℤ pos 1) _ (omega (arith, ints))
    (omega (arith, ints)) k)

apparent_noon_between : (w : World) (d : ℤ)
    → IsBetween d (d +ℤ pos 1) (value w (add (integer d) (constant (fraction_of HALF))))
unfolding value sum plus
apparent_noon_between w d = (record { cross = omega (arith, ints) }, record { cross = omega (arith, ints) })

ahead_between : (w : World) → IsBetween (pos 0) (pos 1) (value w (ahead_of (fraction_of PERSIAN_NOON_LONGITUDE)))
unfolding ahead_of value product least greatest smaller larger times is_at_most
ahead_between w = (record { cross = omega (arith, ints) }, record { cross = omega (arith, ints) })

-- true noon lies at most two days from the beginning of the day
pub noon_between : (w : World) (d : ℤ) (n : Expression) → outcome (run w (noon_of d)) ≡ valued n
    → IsBetween (d -ℤ pos 2) (d +ℤ pos 2) (value w n)
unfolding noon_of value
noon_between w d n h =
    let t = parts w (from_apparent_of (fraction_of PERSIAN_NOON_LONGITUDE)
    (add (integer d) (constant (fraction_of HALF)))) _ n h in
    let f = from_apparent_between w _ _ t.part d (d +ℤ pos 1) (apparent_noon_between w d) t.first in
    let k = difference_between (d -ℤ pos 1) ((d +ℤ pos 1) +ℤ pos 1) (pos 0) (pos 1) _ _ f (ahead_between w) in
    rw (← valued_same w (subtract t.part (ahead_of (fraction_of PERSIAN_NOON_LONGITUDE))) n t.then)
    (wider _ _ (d -ℤ pos 2) (d +ℤ pos 2) _ (omega (arith, ints)) (omega (arith, ints)) k)

-- ---- where a search begins
-- the floor of the estimate from a day's noon is a start, where it is decided
pub start_of_floor : (w : World) (d q : ℤ) (l n s : Expression) → outcome (run w (noon_of d)) ≡ valued n
    → outcome (run w (estimate_of l n)) ≡ valued s
    → cell_at integers (value w s) ≡ Some q → IsStart d q
start_of_floor w d q l n s h k e =
    let b = estimate_between w l n s (d -ℤ pos 2) (d +ℤ pos 2) (noon_between w d n h) k in
    let f = floor_between _ _ q (value w s) (value_proper w s) b e in
    record { from = omega (arith, ints, f.0); to = omega (arith, ints, f.1) }

pub starts_near : StartsNear
starts_near = record { start = start_of_floor }
