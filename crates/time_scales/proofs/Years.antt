-- The year of a moment, by its two endpoints. In 2^-56 of a day an endpoint's day is its Euclidean quotient, which is
-- the floor; the year of that day is the cell of the endpoint, and a year of both endpoints is that of all between
-- them. An enclosure and its span hold each other, so that they have the same endpoints, the same cell or none, and
-- what is undecided of the one is undecided of the other. These lemmas are the ruleset `opening`.
use Rattle.std.proofs.Common.{◌≡◌, ℕ, ℤ, pos, negsuc, ◌≤ℤ◌, ◌^◌, ◌-◌, ◌∙◌, sym, ap, arith, refl, Option, Some, None}
use Rattle.std.proofs.Common.{Result, Ok, Err, IfOk, IfErr}
use Rattle.std.specs.Int.{int_div_euclid}
use Rattle.std.proofs.lemmas.Int.{ints}
use Rattle.book_model.specs.Interval.{Interval, everything, between, IsProper, ◌⊆◌}
use Rattle.book_model.proofs.Floors.{IsFloorQuotient, floor_quotient_is}
use Rattle.book_model.proofs.Fractions.{le_trans}
use Rattle.book_model.proofs.Same.{same_of_le, same_trans}
use Rattle.book_model.specs.declared.fail.Fail.{Fail}
use Rattle.book_model.specs.declared.fail.Fail.TheVariants.{Undecided as undecided_at, Void}
use Rattle.book_model.specs.declared.site.Site.TheVariants.{Year}
use Rattle.book_model.specs.calendars.Gregorian.{year_of_day}
use Rattle.book_model.specs.sky.Correction.{year_of}
use Rattle.book_model.specs.numbers.Expressions.{Expression, World}
use Rattle.book_model.specs.programs.Leading.{units_of_56, AreEndpoints, bounds, no_bounds, IsUndecidedCell}
use Rattle.book_model.specs.programs.Leading.{between_cells, too_far, Exact, Leads, next_turn}
use Rattle.book_model.specs.numbers.Relations.{Within}
use Rattle.book_model.specs.programs.Programs.{Grid, years, cell_of, cell_at, answer}
use Rattle.book_model.proofs.Leads.{leads_cell, leads_undecided_cell, leads_answer, lies}
use Rattle.book_model.proofs.Nesting.{cell_nested}
use Rattle.encl_core.proofs.Quotients.{euclid_is}
use Rattle.encl_core.proofs.Testing.{eq_yes, eq_no}
use Rattle.time_scales.specs.Steps.{IsUndecidedYear, IsYearUndecidedFor}

-- the day of a moment in units of 2^-56
pub day_is : (m q : ℤ) → q ≡ int_div_euclid m (pos (2 ^ 56)) → IsFloorQuotient q m (2 ^ 56 - 1)
day_is m q e = let f = e ∙ euclid_is m (2 ^ 56) (omega arith) in rw f (floor_quotient_is m (2 ^ 56 - 1))

-- the year of that day is the year of the moment
pub year_at_is : (m q : ℤ) → q ≡ int_div_euclid m (pos (2 ^ 56)) → year_of_day q ≡ cell_of years (units_of_56 m)
unfolding cell_of
year_at_is m q e = let f = e ∙ euclid_is m (2 ^ 56) (omega arith) in rw f refl

-- the year of a moment is that of another of the same day
pub year_of_same_day : (k m p q y : ℤ) → p ≡ int_div_euclid k (pos (2 ^ 56)) → q ≡ int_div_euclid m (pos (2 ^ 56))
    → p ≡ q
    → y ≡ cell_of years (units_of_56 k) → y ≡ cell_of years (units_of_56 m)
year_of_same_day k m p q y d e s f = f ∙ sym (year_at_is k p d) ∙ ap year_of_day s ∙ year_at_is m q e

-- both endpoints fall in one year
pub year_same : (lo hi p q : ℤ) → p ≡ cell_of years (units_of_56 lo) → q ≡ cell_of years (units_of_56 hi) → p ≡ q
    → cell_at years (between (units_of_56 lo) (units_of_56 hi)) ≡ Some p
unfolding cell_at
year_same lo hi p q e f h = let t = eq_yes (cell_of years (units_of_56 lo)) (cell_of years (units_of_56 hi))
    (sym e ∙ h ∙ f) in rw (t, e) refl

-- the endpoints fall in different years
pub year_apart : (lo hi p q : ℤ) → p ≡ cell_of years (units_of_56 lo) → q ≡ cell_of years (units_of_56 hi) → (p ≡ q → ⊥)
    → cell_at years (between (units_of_56 lo) (units_of_56 hi)) ≡ None
unfolding cell_at
year_apart lo hi p q e f n = let t = eq_no (cell_of years (units_of_56 lo)) (cell_of years (units_of_56 hi))
    (λ h. n (e ∙ h ∙ sym f)) in rw t refl

-- two endpoints at scale 2^-56 are their own
pub own_endpoints : (lo hi : ℤ) → AreEndpoints lo hi (between (units_of_56 lo) (units_of_56 hi))
own_endpoints lo hi = bounds (record { cross = refl }) (record { cross = refl })

-- ---- two intervals of which each holds the other
same_proper : (i j : Interval) → IsProper j → i ⊆ j → j ⊆ i → IsProper i
same_proper everything j p h k = tt
same_proper (between a b) everything p h k = absurd k.endpoints
same_proper (between a b) (between c d) p h k = le_trans _ _ _ k.endpoints.0 (le_trans _ _ _ p k.endpoints.1)

same_endpoints : (lo hi : ℤ) (i j : Interval) → i ⊆ j → j ⊆ i → AreEndpoints lo hi j → AreEndpoints lo hi i
same_endpoints lo hi (between a b) (between c d) h k (bounds e f) =
    bounds (same_trans e (same_of_le h.endpoints.0 k.endpoints.0))
    (same_trans f (same_of_le k.endpoints.1 h.endpoints.1))
same_endpoints lo hi everything everything h k (no_bounds e) = no_bounds e
same_endpoints lo hi (between a b) everything h k (no_bounds e) = absurd k.endpoints
same_endpoints lo hi everything (between c d) h k (bounds e f) = absurd h.endpoints

same_cell : (g : Grid) (q : ℤ) (i j : Interval) → IsProper j → i ⊆ j → j ⊆ i → cell_at g j ≡ Some q
    → cell_at g i ≡ Some q
same_cell g q i j p h k e = cell_nested g i j q (same_proper i j p h k) h e

same_none : (g : Grid) (i j : Interval) → IsProper j → j ⊆ i → cell_at g j ≡ None → cell_at g i ≡ None
same_none g i j p k e = by_cell (cell_at g i) refl
  where
    by_cell : (c : Option ℤ) → cell_at g i ≡ c → cell_at g i ≡ None
    by_cell None d = d
    by_cell (Some q) d = let n = cell_nested g j i q p k d in absurd (cc)

same_open : (g : Grid) (lo hi : ℤ) (i j : Interval) → IsProper j → i ⊆ j → j ⊆ i → IsUndecidedCell g j lo hi
    → IsUndecidedCell g i lo hi
same_open g lo hi i j p h k (between_cells e a) = between_cells (same_none g i j p k e) (same_endpoints lo hi i j h k a)
same_open g lo hi i j p h k (too_far q e n b) = too_far q (same_cell g q i j p h k e) n b

-- ---- the endpoints of an enclosure, and the enclosure
span_proper : (lo hi : ℤ) → lo ≤ℤ hi → IsProper (between (units_of_56 lo) (units_of_56 hi))
span_proper lo hi o = record { cross = omega (arith, ints) }

-- the year of the endpoints is that of what they show
pub year_shared : (lo hi y : ℤ) (i : Interval) → lo ≤ℤ hi → i ⊆ between (units_of_56 lo) (units_of_56 hi)
    → between (units_of_56 lo) (units_of_56 hi) ⊆ i
    → cell_at years (between (units_of_56 lo) (units_of_56 hi)) ≡ Some y → cell_at years i ≡ Some y
year_shared lo hi y i o h k e = same_cell years y i (between (units_of_56 lo) (units_of_56 hi)) (span_proper lo hi o) h
    k e

-- an undecided year of the endpoints is an undecided year of what they show
pub open_shared : (lo hi : ℤ) (n m : ℕ) (i : Interval) (f : Fail) → n ≡ m → lo ≤ℤ hi
    → i ⊆ between (units_of_56 lo) (units_of_56 hi)
    → between (units_of_56 lo) (units_of_56 hi) ⊆ i → IsUndecidedYear (between (units_of_56 lo) (units_of_56 hi)) n f
    → IsUndecidedYear i m f
open_shared lo hi n m i (undecided_at u) e o h k y = (
  same_open years u.lo u.hi i (between (units_of_56 lo) (units_of_56 hi)) (span_proper lo hi o) h k y.0,
  y.1,
  y.2 ∙ e,
)
open_shared lo hi n m i (Void s) e o h k y = absurd y

-- an enclosure of every number leaves the year undecided
pub open_everywhere : (i : Interval) → i ≡ everything → IsUndecidedCell years i (negsuc (2 ^ 127 - 1))
    (pos (2 ^ 127 - 1))
unfolding cell_at
open_everywhere i e = rw e (between_cells refl (no_bounds (record { least = refl; greatest = refl })))

-- ---- what the test says of a run
-- a year that the enclosure decides
pub leads_year : {E : Type 0} {shown : E → Interval} {w : World} {x : Expression} {e : E} (y : ℤ) (b a : ℕ)
    → Within shown w x e → cell_at years (shown e)
    ≡ Some y → a ≡ next_turn b → Leads w Exact (year_of x) b a (Ok y)
unfolding year_of
leads_year {x = x} {e = e} y b a h d n = rw n (leads_cell Year years x _ y answer (lies h) d (leads_answer refl))

-- a year that the enclosure leaves undecided
pub leads_undecided_year : {E : Type 0} {shown : E → Interval} {w : World} {x : Expression} {e : E} (f : Fail) (b a : ℕ)
    → Within shown w x e
    → IsUndecidedYear (shown e) a f → a ≡ next_turn b → Leads w (Exact {A = ℤ}) (year_of x) b a (Err f)
unfolding year_of
leads_undecided_year {x = x} {e = e} (undecided_at u) b a h o n =
    rw (← o.1) (leads_undecided_cell years x _ answer a u (lies h) (o.2 ∙ n) n o.0)
leads_undecided_year {x = x} {e = e} (Void s) b a h o n = absurd o

-- a test of the year, by its result
pub leads_year_test : {E : Type 0} {shown : E → Interval} {w : World} {x : Expression} {e : E} (r : Result ℤ Fail)
    (b a : ℕ)
    → IfOk r (λ y. cell_at years (shown e) ≡ Some y) → IfErr r (IsUndecidedYear (shown e) a) → a ≡ next_turn b
    → Within shown w x e → Leads w Exact (year_of x) b a r
leads_year_test (Ok y) b a d o n h = leads_year y b a h d n
leads_year_test (Err f) b a d o n h = leads_undecided_year f b a h o n

-- ---- failures at the year
pub open_year : (i : Interval) (n : ℕ) (f : Fail) → IsUndecidedYear i n f → IsYearUndecidedFor i f
open_year i n (undecided_at u) h = λ e. h.0
open_year i n (Void s) h = tt

pub void_elsewhere : {T : Type 0} (i : Interval) (r : Result T Fail) → IfErr r (λ f. f ≡ Void Year)
    → IfErr r (IsYearUndecidedFor i)
void_elsewhere i (Ok v) h = h
void_elsewhere i (Err f) h = rw h tt

pub ruleset opening = (open_year, void_elsewhere)
