-- Tests that are made again are decided alike. A run that reports an answer reports it from each count of tests on,
-- which grows by as many: `IsSteady` says so of a run and how the count grows, and each lemma goes by the form of the
-- run. So where an answer is at hand its tests are counted and not made.
use Rattle.std.proofs.Common.{◌≡◌, ℕ, ℤ, Option, Some, None, Result, Ok, Err}
use Rattle.std.specs.Prelude.{IfOk}
use Rattle.book_model.specs.Interval.{Interval}
use Rattle.book_model.specs.declared.fail.Fail.{Fail}
use Rattle.book_model.specs.declared.site.Site.{Site}
use Rattle.book_model.specs.declared.site.Site.TheVariants.{SunWrap}
use Rattle.book_model.specs.numbers.Expressions.{Expression, World, add, value}
use Rattle.book_model.specs.numbers.Relations.{Within}
use Rattle.book_model.specs.programs.Leading.{Leads, Reports, passes, answers, leaf, next_turn}
use Rattle.book_model.specs.programs.Programs.{Grid, Program, Run, after_cell, answer, answered, bind, cell_at}
use Rattle.book_model.specs.programs.Programs.{run, voided, years, multiples}
use Rattle.book_model.specs.sky.Correction.{Correction, row_of_year, year_of}
use Rattle.book_model.specs.sky.Sun.{sun_of}
use Rattle.book_model.specs.sky.Time.{by_row, centuries_of, correction_at, correction_of_year, dynamical_of}
use Rattle.book_model.specs.sky.Time.{in_centuries as centuries_from}
use Rattle.book_model.proofs.Leads.{leads_on}
use Rattle.sun_core.specs.Longitudes.{IsLongitudeOf, reduced_sun_of}

-- a run reports an answer alike from each count of tests on
pub record IsSteady {A T : Type 0} (R : A → T → Type 0) (more : ℕ → ℕ) (r : Run A) (y : T) : Type 0 where
  pub again : (b a k : ℕ) → Reports R r b a (Ok y) → Reports R r k (more k) (Ok y)

answers_again : {A T : Type 0} {R : A → T → Type 0} (v : A) (y : T) (b a k : ℕ) → Reports R (answered v) b a (Ok y)
    → Reports R (answered v) k k (Ok y)
answers_again v y b a k (answers h) = answers h

pub answered_again : {A T : Type 0} {R : A → T → Type 0} (v : A) (y : T) → IsSteady R (λ k. k) (answered v) y
answered_again v y = record { again = answers_again v y }

void_answers : {A T : Type 0} {R : A → T → Type 0} (s : Site) (y : T) (b a : ℕ) → Reports R (voided s) b a (Ok y) → ⊥
void_answers s y b a h = elim h [ ]

pub void_again : {A T : Type 0} {R : A → T → Type 0} (more : ℕ → ℕ) (s : Site) (y : T) → IsSteady R more (voided s) y
void_again more s y = record { again = λ b a k h. absurd (void_answers s y b a h) }

passes_again : {A T : Type 0} {R : A → T → Type 0} (more : ℕ → ℕ) (s : Site) (g : Grid) (i : Interval) (o : Option ℤ)
    (next : ℤ → Run A) (y : T) {b a : ℕ} (k : ℕ)
    → ((q : ℤ) → IsSteady R more (next q) y) → Reports R (after_cell s g i o next) b a (Ok y)
    → Reports R (after_cell s g i o next) k (more (next_turn k)) (Ok y)
unfolding after_cell
passes_again more s g i None next y k f h = elim h [ ]
passes_again more s g i (Some q) next y k f (passes h) = passes ((f q).again _ _ (next_turn k) h)

-- one test of a cell, and what comes after it
pub cell_again : {A T : Type 0} {R : A → T → Type 0} (more : ℕ → ℕ) (s : Site) (g : Grid) (i : Interval) (o : Option ℤ)
    (next : ℤ → Run A) (y : T)
    → ((q : ℤ) → IsSteady R more (next q) y) → IsSteady R (λ k. more (next_turn k)) (after_cell s g i o next) y
cell_again more s g i o next y f = record { again = λ b a k h. passes_again more s g i o next y k f h }

-- ---- the time of a moment: one test of the year
time_in_year : {T : Type 0} {R : Expression → T → Type 0} (w : World) (x : Expression) (q : ℤ) (o : Option Correction)
    (y : T) → IsSteady R (λ k. k) (run w (bind (by_row q o) (λ c. answer (add x c)))) y
unfolding bind run
time_in_year w x q None y = void_again (λ k. k) _ y
time_in_year w x q (Some row) y = answered_again _ y

pub dynamical_again : {T : Type 0} {w : World} {R : Expression → T → Type 0} (x : Expression) {b a : ℕ} {y : T}
    → Leads w R (dynamical_of x) b a (Ok y) → (k : ℕ) → Leads w R (dynamical_of x) k (next_turn k) (Ok y)
unfolding dynamical_of correction_at correction_of_year year_of bind run
dynamical_again {w = w} x {y = y} h k = record {
  reports =
      (cell_again (λ k. k) _ years (value w x) (cell_at years (value w x)) _ y
      (λ q. time_in_year w x q (row_of_year q) y)).again _ _ k h.reports;
}

-- ---- the longitude of the sun: one test of the year, and one of the turn
longitude_in_year : {T : Type 0} {R : Expression → T → Type 0} (w : World) (x : Expression) (q : ℤ)
    (o : Option Correction) (y : T)
    → IsSteady R next_turn (run w (bind (bind (bind (by_row q o) (λ c. answer (add x c)))
    (λ d. answer (centuries_from d)))
    reduced_sun_of)) y
unfolding bind run reduced_sun_of
longitude_in_year w x q None y = void_again next_turn _ y
longitude_in_year w x q (Some row) y = cell_again (λ k. k) SunWrap (multiples 360) _ _ _ y (λ p. answered_again _ y)

pub sun_again : {T : Type 0} {w : World} {R : Expression → T → Type 0} (x : Expression) {b a : ℕ} {y : T}
    → Leads w R (sun_of x) b a (Ok y) → (k : ℕ) → Leads w R (sun_of x) k (next_turn (next_turn k)) (Ok y)
unfolding sun_of reduced_sun_of centuries_of dynamical_of correction_at correction_of_year year_of bind run
sun_again {w = w} x {y = y} h k = record {
  reports =
      (cell_again next_turn _ years (value w x) (cell_at years (value w x)) _ y
      (λ q. longitude_in_year w x q (row_of_year q) y)).again _ _ k h.reports;
}

-- a longitude that is found is one wherever the run stands
pub longitudes_again : {E : Type 0} (shown : E → Interval) (t : E) {b a : ℕ} (r : Result E Fail)
    → ((w : World) (x : Expression) → Within shown w x t → Leads w (Within shown w) (sun_of x) b a r)
    → IfOk r (λ s. (w : World) (x : Expression) → Within shown w x t → IsLongitudeOf shown w x s)
longitudes_again shown t (Ok s) h = λ w x l. record { again = λ k. sun_again x (h w x l) k }
longitudes_again shown t (Err f) h = tt

-- a formula that begins with a longitude that is known goes on after two tests
pub longitude_known : {E B U : Type 0} {shown : E → Interval} {w : World} {S : B → U → Type 0} {x : Expression} {s : E}
    (next : Expression → Program B) {b m a : ℕ} {t : Result U Fail}
    → IsLongitudeOf shown w x s → m ≡ next_turn (next_turn b) → Leads w S (next (leaf w (sun_of x))) m a t
    → Leads w S (bind (sun_of x) next) b a t
longitude_known next {b = b} k e h = leads_on next (k.again b) (rw e at h)
