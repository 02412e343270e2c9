-- How many tests the formulas of facts make, and from where to where the values of the sun's lie.
use Rattle.std.specs.Prelude.{◌≡◌, ℤ, pos, ◌+ℤ◌, ◌*ℤ◌, ◌≤ℤ◌, Option, Some, None, Bool, true, false, refl}
use Rattle.std.proofs.Common.{arith, sym, ◌∙◌}
use Rattle.std.proofs.lemmas.Int.{ints}
use Rattle.std.specs.Ordering.{int_eq}
use Rattle.std.proofs.lemmas.Bool.Decides.{Decides-int_eq}
use Rattle.exact_math.specs.Fraction.{Fraction, ◌≤F◌, ◌<F◌, whole, floor, plus, opposite, times, smaller, larger}
use Rattle.exact_math.specs.Fraction.{is_at_most}
use Rattle.exact_math.specs.Interval.{Interval, everything, between, ◌⊆◌, IsProper, sum, negative, difference, product}
use Rattle.exact_math.specs.Interval.{least, greatest}
use Rattle.exact_math.proofs.Floors.{floor_mono}
use Rattle.exact_math.proofs.Fractions.{le_trans, le_refl, plus_mono}
use Rattle.exact_math.proofs.IntLaws.{mul_add}
use Rattle.exact_math.proofs.Intervals.{within_trans, product_within, within_refl}
use Rattle.book_model.specs.declared.site.Site.{Site}
use Rattle.book_model.specs.declared.tables.TheConstants.{THOUSANDTHS_OF_DEGREE}
use Rattle.book_model.specs.sky.Correction.{Correction, row_of_year, year_of, rounded_of}
use Rattle.book_model.specs.numbers.Expressions.{Expression, World, value, exactly, integer, constant, scale, remainder}
use Rattle.book_model.specs.numbers.Fractions.{fraction_of}
use Rattle.book_model.specs.sky.Kinds.{dt_of, sun_in_thousandths_of}
use Rattle.book_model.specs.programs.Programs.{Grid, integers, multiples, cell_of, cell_at, compare_at, when, threshold}
use Rattle.book_model.specs.programs.Programs.{Program, answer, void, cell, compare, bind, after_cell, after_compare}
use Rattle.book_model.specs.programs.Programs.{run, valued, outcome, AtMost, answer_at_most, void_at_most, cell_at_most}
use Rattle.book_model.specs.sky.Sun.{sun_of, longitude_of}
use Rattle.book_model.specs.sky.Time.{by_row, correction_of_year, correction_at, dynamical_of, centuries_of}
use Rattle.book_model.proofs.Cells.{cells_cut}
use Rattle.book_model.proofs.Leads.{at_most_bind, at_most_more}
use Rattle.book_model.proofs.Values.{value_proper}

-- ---- how many tests
row_few : (y : ℤ) (o : Option Correction) → AtMost 0 (by_row y o)
row_few y None = void_at_most
row_few y (Some row) = answer_at_most

pub correction_few : (y : ℤ) → AtMost 0 (correction_of_year y)
unfolding correction_of_year
correction_few y = row_few y (row_of_year y)

-- ΔT of a moment makes one test
pub correction_at_few : (x : Expression) → AtMost 1 (correction_at x)
unfolding correction_at year_of
correction_at_few x = at_most_bind 1 0 (cell_at_most (λ q. answer_at_most)) (λ y. correction_few y)

pub centuries_few : (x : Expression) → AtMost 1 (centuries_of x)
unfolding centuries_of dynamical_of
centuries_few x = at_most_bind 1 0 (at_most_bind 1 0 (correction_at_few x) (λ c. answer_at_most)) (λ d. answer_at_most)

-- the longitude of the sun makes two
pub sun_few : (x : Expression) → AtMost 2 (sun_of x)
unfolding sun_of
sun_few x = at_most_bind 1 1 (centuries_few x) (λ c. cell_at_most (λ q. answer_at_most))

pub dt_few : (d : ℤ) → AtMost 99999 (dt_of d)
unfolding dt_of year_of rounded_of
dt_few d =
    at_most_more 2 99999 (omega arith)
    (at_most_bind 1 1 (cell_at_most (λ q. answer_at_most))
    (λ y. at_most_bind 0 1 (correction_few y) (λ c. cell_at_most (λ q. answer_at_most))))

pub sun_in_thousandths_few : (d : ℤ) → AtMost 99999 (sun_in_thousandths_of d)
unfolding sun_in_thousandths_of
sun_in_thousandths_few d = at_most_more 3 99999 (omega arith)
    (at_most_bind 2 1 (sun_few (integer d)) (λ s. cell_at_most (λ q. answer_at_most)))

-- ---- the parts of a run that has a value
-- where a program with its continuation has a value, it has one by itself
pub record Parts {A B : Type 0} (w : World) (p : Program A) (f : A → Program B) (b : B) : Type 0 where
  pub part : A
  pub first : outcome (run w p) ≡ valued part
  pub then : outcome (run w (f part)) ≡ valued b

parts_of_cell : {A B : Type 0} (w : World) (s : Site) (g : Grid) (x : Expression) (next : ℤ → Program A)
    (f : A → Program B) (b : B) (o : Option ℤ)
    → cell_at g (value w x) ≡ o
    → ((q : ℤ) → outcome (run w (bind (next q) f)) ≡ valued b → Parts w (next q) f b)
    → outcome (after_cell s g (value w x) o (λ q. run w (bind (next q) f)))
    ≡ valued b → Parts w (cell s g x next) f b
unfolding after_cell outcome run
parts_of_cell w s g x next f b None c h e = absurd (cc)
parts_of_cell w s g x next f b (Some q) c h e = let r = h q e in
    record { part = r.part; first = rw c r.first; then = r.then }

parts_of_compare : {A B : Type 0} (w : World) (s : Site) (x y : Expression) (next : Bool → Program A)
    (f : A → Program B) (b : B) (o : Option Bool)
    → compare_at (value w x) (value w y) ≡ o
    → ((q : Bool) → outcome (run w (bind (next q) f)) ≡ valued b → Parts w (next q) f b)
    → outcome (after_compare s (value w x) (value w y) o (λ q. run w (bind (next q) f))) ≡ valued b
    → Parts w (compare s x y next) f b
unfolding after_compare outcome run
parts_of_compare w s x y next f b None c h e = absurd (cc)
parts_of_compare w s x y next f b (Some q) c h e = let r = h q e in
    record { part = r.part; first = rw c r.first; then = r.then }

pub parts : {A B : Type 0} (w : World) (p : Program A) (f : A → Program B) (b : B)
    → outcome (run w (bind p f)) ≡ valued b → Parts w p f b
unfolding bind run outcome
parts w (answer a) f b e = record { part = a; first = refl; then = e }
parts w (void s) f b e = absurd (cc)
parts w (cell s g x next) f b e = parts_of_cell w s g x next f b (cell_at g (value w x)) refl
    (λ q. parts w (next q) f b) e
parts w (compare s x y next) f b e = parts_of_compare w s x y next f b (compare_at (value w x) (value w y)) refl
    (λ q. parts w (next q) f b) e

-- a test that is decided, and what it leads to
pub record Decides {A : Type 0} (g : Grid) (i : Interval) (f : ℤ → A) (v : A) : Type 0 where
  pub cell_there : ℤ
  pub decided_so : cell_at g i ≡ Some cell_there
  pub leads_to : f cell_there ≡ v

pub decides : {A : Type 0} (w : World) (s : Site) (g : Grid) (x : Expression) (f : ℤ → A) (v : A)
    → outcome (run w (cell s g x (λ q. answer (f q)))) ≡ valued v
    → Decides g (value w x) f v
unfolding after_cell outcome run
decides w s g x f v e = by (cell_at g (value w x)) refl e
  where
    by : (o : Option ℤ) → cell_at g (value w x) ≡ o → outcome (after_cell s g (value w x) o (λ q. run w (answer (f q))))
        ≡ valued v → Decides g (value w x) f v
    by None c h = absurd (cc)
    by (Some q) c h = record { cell_there = q; decided_so = c; leads_to = cc }

-- ---- from where to where the longitude of the sun lies
pub when_some : {A : Type 0} (b : Bool) (a q : A) → when b a ≡ Some q → (b ≡ true) × (a ≡ q)
when_some true a q e = (refl, cc)
when_some false a q e = absurd (cc)

turn_below : (a : Fraction) (q : ℤ) → whole (pos 360 *ℤ q) ≤F a
    → whole (pos 0) ≤F plus a (opposite (whole (pos 360 *ℤ q)))
unfolding plus opposite
turn_below a q h = le_trans _ _ _ (record { cross = omega (arith, ints) })
    (plus_mono _ _ _ _ h (le_refl (opposite (whole (pos 360 *ℤ q)))))

turn_above : (b : Fraction) (q : ℤ) → b <F whole (pos 360 *ℤ (q +ℤ pos 1))
    → plus b (opposite (whole (pos 360 *ℤ q))) ≤F whole (pos 360)
unfolding plus opposite
turn_above b q h =
    let k : b ≤F whole (pos 360 *ℤ (q +ℤ pos 1)) = record { cross = omega (arith, ints, h.strict) } in
    le_trans _ _ _ (plus_mono _ _ _ _ k (le_refl (opposite (whole (pos 360 *ℤ q)))))
    (record { cross = omega (arith, ints, mul_add (pos 360) q (pos 1)) })

-- what is left of a number by whole turns
turn : Interval
turn = between (whole (pos 0)) (whole (pos 360))

remainder_in_turn : (i : Interval) (q : ℤ) → cell_at (multiples 360) i ≡ Some q
    → difference i (exactly (whole (pos 360 *ℤ q))) ⊆ turn
unfolding cell_at sum negative turn threshold
remainder_in_turn everything q e = absurd (cc)
remainder_in_turn (between a b) q e =
    let w = when_some (int_eq (cell_of (multiples 360) a) (cell_of (multiples 360) b)) (cell_of (multiples 360) a) q e
    in
    let same : cell_of (multiples 360) b ≡ q = sym ((Decides-int_eq _ _).0 w.0) ∙ w.1 in
    let low = rw w.1 at ((cells_cut (multiples 360)).begun a) in
    let high = rw same at ((cells_cut (multiples 360)).not_over b) in
    record { endpoints = (turn_below a q low, turn_above b q high) }

-- the same, with the turn's endpoints
pub remainder_within : (i : Interval) (q : ℤ) → cell_at (multiples 360) i ≡ Some q
    → difference i (exactly (whole (pos 360 *ℤ q))) ⊆ between (whole (pos 0)) (whole (pos 360))
unfolding turn
remainder_within i q e = remainder_in_turn i q e

sun_in_turn : (w : World) (x e : Expression) → outcome (run w (sun_of x)) ≡ valued e → value w e ⊆ turn
unfolding sun_of value
sun_in_turn w x e h =
    let p = parts w (centuries_of x) _ e h in
    let d = decides w _ (multiples 360) (longitude_of p.part) (λ q. remainder 360 (longitude_of p.part) q) e p.then in
    rw (← d.leads_to) (remainder_in_turn _ d.cell_there d.decided_so)

-- the same, with the turn's endpoints
pub sun_within : (w : World) (x e : Expression) → outcome (run w (sun_of x)) ≡ valued e
    → value w e ⊆ between (whole (pos 0)) (whole (pos 360))
unfolding turn
sun_within w x e h = sun_in_turn w x e h

-- ---- the value of the sun's longitude, in thousandths
thousand_turns : product turn (exactly (fraction_of THOUSANDTHS_OF_DEGREE)) ⊆ between (whole (pos 0))
    (whole (pos 360000))
unfolding product turn least greatest smaller larger times is_at_most
thousand_turns = record { endpoints = (record { cross = omega (arith, ints) }, record { cross = omega (arith, ints) }) }

floor_between : (i : Interval) (v : ℤ) → IsProper i → i ⊆ between (whole (pos 0)) (whole (pos 360000))
    → cell_at integers i ≡ Some v → (pos 0 ≤ℤ v)
    × (v ≤ℤ pos 360000)
unfolding cell_at cell_of
floor_between everything v p h e = absurd (cc)
floor_between (between a b) v p h e =
    let w = when_some (int_eq (floor a) (floor b)) (floor a) v e in
    let l = floor_mono _ _ h.endpoints.0 in
    let u = floor_mono _ _ (le_trans _ _ _ p h.endpoints.1) in
    (omega (arith, ints, w.1), omega (arith, ints, w.1))

-- a value of the sun's lies from 0 to 360,000
pub sun_value : (w : World) (d v : ℤ) → outcome (run w (sun_in_thousandths_of d)) ≡ valued v → (pos 0 ≤ℤ v)
    × (v ≤ℤ pos 360000)
unfolding sun_in_thousandths_of value
sun_value w d v h =
    let p = parts w (sun_of (integer d)) _ v h in
    let c = decides w _ integers (scale (fraction_of THOUSANDTHS_OF_DEGREE) p.part) (λ q. q) v p.then in
    let t = sun_in_turn w (integer d) p.part p.first in
    let i = within_trans
    (product_within (value_proper w p.part) (value_proper w (constant (fraction_of THOUSANDTHS_OF_DEGREE))) t
    (within_refl _))
    thousand_turns in
    rw c.leads_to at (floor_between _ c.cell_there (value_proper w (scale (fraction_of THOUSANDTHS_OF_DEGREE) p.part)) i
    c.decided_so)
