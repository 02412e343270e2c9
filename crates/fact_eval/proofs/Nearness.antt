-- A test that the code leaves undecided is near: its sides lie within the bounds, and so does a threshold. The sides of
-- each test of a run are proper, by induction on the program; where the cells of the two bounds differ, the later cell
-- begins between them; and the bounds that stand for an unbounded test are further apart than any site allows, so those
-- are not near.
use Rattle.std.specs.Prelude.{◌≡◌, ℕ, suc, ◌-◌, ◌^◌, ◌≤◌, ◌-ℤ◌, ℤ, pos, ◌+ℤ◌, ◌*ℤ◌, ◌≤ℤ◌, Option, Some, None, Bool}
use Rattle.std.specs.Prelude.{true, false, refl}
use Rattle.std.proofs.Common.{[], ◌∷◌, arith}
use Rattle.std.proofs.lemmas.Int.{ints, by_lt_z}
use Rattle.std.specs.Ordering.{int_eq}
use Rattle.std.proofs.lemmas.Bool.Decides.{Decides-int_eq}
use Rattle.book_model.specs.Fraction.{Fraction, whole, ◌≤F◌, ◌≈◌}
use Rattle.book_model.specs.Interval.{Interval, everything, between, IsProper, AreWithin, ◌⊆◌, hull}
use Rattle.book_model.proofs.Fractions.{le_trans, lt_le_trans, le_lt_trans, smaller_first, smaller_second, larger_first}
use Rattle.book_model.proofs.Fractions.{larger_second}
use Rattle.book_model.proofs.Bounds.{◌≼◌, known, ◌⊠◌, le_by, pos_nonneg}
use Rattle.book_model.proofs.Ring.{at, lit, ◌⊗◌}
use Rattle.book_model.proofs.Intervals.{within_trans, within_everything}
use Rattle.book_model.proofs.Same.{le_of_same, ge_of_same}
use Rattle.book_model.specs.declared.site.Site.{Site}
use Rattle.book_model.specs.declared.site.Site.TheVariants.{Year, Zone, SunWrap, MoonWrap, PhaseWrap, PhasePick}
use Rattle.book_model.specs.declared.site.Site.TheVariants.{MoonNumber, MoonWalk, StepWrap, StartFloor, DayTest}
use Rattle.book_model.specs.declared.site.Site.TheVariants.{DayFloor, TermFloor, Search, BisectEnd, Bisect, Offset}
use Rattle.book_model.specs.declared.site.Site.TheVariants.{Settle, Round, Crescent, Sidereal, Rise}
use Rattle.book_model.specs.numbers.Expressions.{World, value}
use Rattle.book_model.specs.sky.Facts.{LiesFrom, HasThreshold, AreNear, near_cell, near_comparison}
use Rattle.book_model.specs.programs.Widths.{most_apart}
use Rattle.book_model.specs.programs.Leading.{units_of_56, AreNoBounds, AreEndpoints, bounds, no_bounds}
use Rattle.book_model.specs.programs.Leading.{IsUndecidedCell, between_cells, too_far, IsOpen, open_cell}
use Rattle.book_model.specs.programs.Leading.{undecided_comparison}
use Rattle.book_model.specs.programs.Programs.{Grid, integers, multiples, years, cell_of, threshold, when, cell_at}
use Rattle.book_model.specs.programs.Programs.{Program, answer, void, cell, compare, Sides, one_side, two_sides, Run}
use Rattle.book_model.specs.programs.Programs.{after_cell, after_compare, run, compare_at, MakesTest, here_decided}
use Rattle.book_model.specs.programs.Programs.{here_undecided, later}
use Rattle.book_model.proofs.Calendars.{first_day_rises}
use Rattle.book_model.proofs.Cells.{cells_cut}
use Rattle.book_model.proofs.Nesting.{cell_mono}
use Rattle.book_model.proofs.Values.{value_proper}

-- ---- the sides of the tests of a run are proper
abbrev pub AreProper : Sides → Type 0
AreProper (one_side g i) = IsProper i
AreProper (two_sides i j) = IsProper i × IsProper j

proper_cell : {A : Type 0} (s t : Site) (g : Grid) (i : Interval) (o : Option ℤ) (next : ℤ → Run A) (k : ℕ) (j : Sides)
    → IsProper i →
    ((q : ℤ) (l : ℕ) → MakesTest (next q) l t j → AreProper j) → MakesTest (after_cell s g i o next) k t j → AreProper j
unfolding after_cell
proper_cell s t g i None next k j p h here_undecided = p
proper_cell s t g i (Some q) next k j p h here_decided = p
proper_cell s t g i (Some q) next k j p h (later {k = l} m) = h q l m

proper_compare : {A : Type 0} (s t : Site) (i l : Interval) (o : Option Bool) (next : Bool → Run A) (k : ℕ) (j : Sides)
    → IsProper i → IsProper l →
    ((q : Bool) (m : ℕ) → MakesTest (next q) m t j → AreProper j) → MakesTest (after_compare s i l o next) k t j
    → AreProper j
unfolding after_compare
proper_compare s t i l None next k j p r h here_undecided = (p, r)
proper_compare s t i l (Some q) next k j p r h here_decided = (p, r)
proper_compare s t i l (Some q) next k j p r h (later {k = x} m) = h q x m

pub sides_proper : {A : Type 0} (w : World) (p : Program A) (k : ℕ) (s : Site) (j : Sides) → MakesTest (run w p) k s j
    → AreProper j
unfolding run
sides_proper w (answer a) k s j m = elim m [ ]
sides_proper w (void t) k s j m = elim m [ ]
sides_proper w (cell t g x next) k s j m =
    proper_cell t s g (value w x) (cell_at g (value w x)) (λ q. run w (next q)) k j (value_proper w x)
    (λ q l z. sides_proper w (next q) l s j z) m
sides_proper w (compare t x y next) k s j m =
    proper_compare t s (value w x) (value w y) (compare_at (value w x) (value w y)) (λ q. run w (next q)) k j
    (value_proper w x) (value_proper w y)
    (λ q l z. sides_proper w (next q) l s j z) m

-- ---- thresholds
whole_mono : (a b : ℤ) → a ≤ℤ b → whole a ≤F whole b
whole_mono a b h = record { cross = omega (arith, ints) }

scaled_mono : (s : ℕ) (a b : ℤ) → a ≤ℤ b → (pos s *ℤ a) ≤ℤ (pos s *ℤ b)
scaled_mono s a b h = le_by (a ∷ b ∷ pos s ∷ []) ((at 0 ≼ at 1) ∷ (lit (pos 0) ≼ at 2) ∷ []) (at 2 ⊗ at 0) (at 2 ⊗ at 1)
    (known 0 ⊠ known 1) refl
    (h, (pos_nonneg s, tt))

threshold_mono : (g : Grid) (q r : ℤ) → q ≤ℤ r → threshold g q ≤F threshold g r
unfolding threshold
threshold_mono integers q r h = whole_mono q r h
threshold_mono (multiples m) q r h = whole_mono _ _ (scaled_mono (suc (m - 1)) q r h)
threshold_mono years q r h = whole_mono _ _ (first_day_rises q r h)

-- in different cells, the later cell begins between
threshold_between : (g : Grid) (a b : Fraction) (lo hi : ℤ) → a ≤F b → cell_at g (between a b) ≡ None
    → units_of_56 lo ≈ a → units_of_56 hi ≈ b
    → HasThreshold g lo hi
unfolding cell_at
threshold_between g a b lo hi p e l h = record {
  begun = cell_of g b;
  above = le_lt_trans _ _ _ (le_of_same l)
      (lt_le_trans _ _ _ ((cells_cut g).not_over a) (threshold_mono g _ _ later_cell));
  at_most = le_trans _ _ _ ((cells_cut g).begun b) (ge_of_same h);
}
  where
    apart : (t : Bool) → int_eq (cell_of g a) (cell_of g b) ≡ t → when t (cell_of g a) ≡ None
        → cell_of g a ≡ cell_of g b → ⊥
    apart true f n z = cc
    apart false f n z = let y : int_eq (cell_of g a) (cell_of g b) ≡ true = (Decides-int_eq _ _).1 z in cc

    later_cell : (cell_of g a +ℤ pos 1) ≤ℤ cell_of g b
    later_cell =
        let m = cell_mono g a b p in
        by_lt_z (cell_of g a) (cell_of g b) (λ l. omega (arith, ints))
        (λ l. let z : cell_of g a ≡ cell_of g b = omega (arith, ints) in absurd (apart _ refl e z))

-- without bounds there is a threshold
-- ---- the bounds that stand for an unbounded test are too far apart to be near
far_apart : (lo hi : ℤ) (m : ℕ) → m ≤ 2 ^ 44 → ((hi -ℤ lo) *ℤ pos 256) ≤ℤ pos m → AreNoBounds lo hi → ⊥
far_apart lo hi m s h n = omega (arith, ints, n.least, n.greatest)

-- ---- sides
within_endpoints : (i : Interval) (a b : Fraction) (lo hi : ℤ) → i ⊆ between a b → units_of_56 lo ≈ a
    → units_of_56 hi ≈ b
    → i ⊆ between (units_of_56 lo) (units_of_56 hi)
within_endpoints i a b lo hi h l r = within_trans h (record { endpoints = (le_of_same l, ge_of_same r) })

proper_outside : (i : Interval) (a b : Fraction) → IsProper i → AreWithin i (between a b) → a ≤F b
proper_outside everything a b p h = absurd h
proper_outside (between c d) a b p h = le_trans _ _ _ h.0 (le_trans _ _ _ p h.1)

-- bounds that are so near
abbrev pub AreNearBy : ℕ → (lo hi : ℤ) → Type 0
AreNearBy m lo hi = (m ≤ 2 ^ 44) × (((hi -ℤ lo) *ℤ pos 256) ≤ℤ pos m)

lies_from : (i j : Interval) (lo hi : ℤ) {m : ℕ} → AreNearBy m lo hi → i ⊆ j → AreEndpoints lo hi j → LiesFrom lo hi i
lies_from i j lo hi c h (bounds {a = a} {b = b} l r) = within_endpoints i a b lo hi h l r
lies_from i j lo hi c h (no_bounds n) = absurd (far_apart lo hi _ c.0 c.1 n)

near_undecided_cell : (g : Grid) (i j : Interval) (lo hi : ℤ) {m : ℕ} → AreNearBy m lo hi → IsProper i → i ⊆ j
    → IsUndecidedCell g j lo hi → AreNear lo hi (one_side g i)
near_undecided_cell g i j lo hi c p h (too_far q e z n) = absurd (far_apart lo hi _ c.0 c.1 n)
near_undecided_cell g i j lo hi c p h (between_cells e (no_bounds n)) = absurd (far_apart lo hi _ c.0 c.1 n)
near_undecided_cell g i j lo hi c p h (between_cells e (bounds {a = a} {b = b} l r)) =
    near_cell (within_endpoints i a b lo hi h l r) (threshold_between g a b lo hi (proper_outside i a b p h.endpoints) e
    l r)

hull_holds_first : (i j : Interval) → i ⊆ hull i j
unfolding hull
hull_holds_first everything j = within_everything _
hull_holds_first (between a b) everything = within_everything _
hull_holds_first (between a b) (between c d) = record { endpoints = (smaller_first a c, larger_first b d) }

hull_holds_second : (i j : Interval) → j ⊆ hull i j
unfolding hull
hull_holds_second everything j = within_everything _
hull_holds_second (between a b) everything = within_everything _
hull_holds_second (between a b) (between c d) = record { endpoints = (smaller_second a c, larger_second b d) }

-- no test may be left undecided over bounds further apart than a 2^20th
pub site_allows : (s : Site) → most_apart s ≤ 2 ^ 44
site_allows Year = omega arith
site_allows Zone = omega arith
site_allows SunWrap = omega arith
site_allows MoonWrap = omega arith
site_allows PhaseWrap = omega arith
site_allows PhasePick = omega arith
site_allows MoonNumber = omega arith
site_allows MoonWalk = omega arith
site_allows StepWrap = omega arith
site_allows StartFloor = omega arith
site_allows DayTest = omega arith
site_allows DayFloor = omega arith
site_allows TermFloor = omega arith
site_allows Search = omega arith
site_allows BisectEnd = omega arith
site_allows Bisect = omega arith
site_allows Offset = omega arith
site_allows Settle = omega arith
site_allows Round = omega arith
site_allows Crescent = omega arith
site_allows Sidereal = omega arith
site_allows Rise = omega arith

-- the sides of an undecided test whose bounds are close are near
pub near_open : (lo hi : ℤ) (s : Sides) {m : ℕ} → AreNearBy m lo hi → AreProper s → IsOpen s lo hi → AreNear lo hi s
near_open lo hi (one_side g i) c p (open_cell j h k) = near_undecided_cell g i j lo hi c p h k
near_open lo hi (two_sides i j) c p (undecided_comparison k l h m o) =
    near_comparison (lies_from i (hull k l) lo hi c (within_trans h (hull_holds_first k l)) o.endpoints)
    (lies_from j (hull k l) lo hi c (within_trans m (hull_holds_second k l)) o.endpoints)
