-- The elements of a moment: the time that they are of, and its test made again. The formulas of longitude and latitude
-- each test the year of the moment in the definition, and the code tests it once: a run of that test, made again at a
-- later count, reports the same answer (`centuries_again`), which counts one more test. What leads by the centuries of
-- the elements' days leads by those of their moment.
use Rattle.std.proofs.Common.{ℕ, ℤ, refl, sym, subst, Option, Some, None, Result, Ok}
use Rattle.book_model.specs.Interval.{Interval}
use Rattle.book_model.specs.declared.fail.Fail.{Fail}
use Rattle.book_model.specs.declared.time_tables.TheConstants.{NOON_2000}
use Rattle.book_model.specs.numbers.Expressions.{Expression, World, add, constant, subtract, value}
use Rattle.book_model.specs.numbers.Fractions.{fraction_of}
use Rattle.book_model.specs.numbers.Relations.{Within}
use Rattle.book_model.specs.programs.Leading.{Leads, next_turn}
use Rattle.book_model.specs.programs.Programs.{Program, answer, bind, cell_at, run, years, multiples}
use Rattle.book_model.specs.sky.Correction.{Correction, row_of_year, year_of}
use Rattle.book_model.specs.sky.Moon.{moon_longitude_of}
use Rattle.book_model.specs.sky.Time.{by_row, centuries_of, correction_at, correction_of_year, dynamical_of}
use Rattle.book_model.specs.sky.Time.{in_centuries as centuries_from}
use Rattle.book_model.proofs.Leads.{leads_answer, leads_bind}
use Rattle.moon_core.specs.Elements.{AreElements, HoldElements, reduced_longitude_of}
use Rattle.moon_core.specs.declared.elements.MoonElements.{MoonElements}
use Rattle.sun_core.specs.Daily.{in_centuries}
use Rattle.sun_core.proofs.Again.{IsSteady, answered_again, cell_again, void_again}

-- what leads by the centuries of the days of elements leads by the centuries of their moment
pub by_elements : {E B U : Type 0} {shown : E → Interval} {w : World} {S : B → U → Type 0} {p : Program Expression}
    (next : Expression → Program B)
    {b m a : ℕ} {y : MoonElements E} {t : Result U Fail} →
    Leads w (AreElements shown w) p b m (Ok y)
    → ((d : Expression) → HoldElements shown w d y → Leads w S (next (in_centuries d)) m a t)
    → Leads w S (bind p next) b a t
by_elements {w = w} {S = S} next {m = m} {a = a} {t = t} h k =
    leads_bind h (λ v r. let P : Expression → Type 0 = λ z. Leads w S (next z) m a t in
    subst P (sym r.is) (k r.days r.hold))

-- elements that hold those of a moment of dynamical time, which leads on, lead on
pub elements_lead : {E : Type 0} {shown : E → Interval} {w : World} (x : Expression) {b m : ℕ} {d : E}
    (y : MoonElements E)
    → Leads w (Within shown w) (dynamical_of x) b m (Ok d)
    → ((z : Expression) → Within shown w z d → HoldElements shown w (subtract z (constant (fraction_of NOON_2000))) y)
    → Leads w (AreElements shown w) (centuries_of x) b m (Ok y)
unfolding centuries_of centuries_from in_centuries
elements_lead x y h f =
    leads_bind h
    (λ z r. leads_answer (record { days = subtract z (constant (fraction_of NOON_2000)); is = refl; hold = f z r }))

-- ---- one test of a year, and the time by ΔT of that year, wherever the run stands
time_again : {T : Type 0} {R : Expression → T → Type 0} (w : World) (x : Expression) (q : ℤ) (o : Option Correction)
    (y : T)
    → IsSteady R (λ k. k) (run w (bind (bind (by_row q o) (λ c. answer (add x c))) (λ d. answer (centuries_from d)))) y
unfolding bind run
time_again w x q None y = void_again (λ k. k) _ y
time_again w x q (Some row) y = answered_again _ y

pub centuries_again : {T : Type 0} {w : World} {R : Expression → T → Type 0} (x : Expression) {b a : ℕ} {y : T}
    → Leads w R (centuries_of x) b a (Ok y) → (k : ℕ) → Leads w R (centuries_of x) k (next_turn k) (Ok y)
unfolding centuries_of dynamical_of correction_at correction_of_year year_of bind run
centuries_again {w = w} x {y = y} h k = record {
  reports =
      (cell_again (λ k. k) _ years (value w x) (cell_at years (value w x)) _ y
      (λ q. time_again w x q (row_of_year q) y)).again _ _ k h.reports;
}

-- ---- one test of the turn, and the longitude, wherever the run stands
pub longitude_again : {T : Type 0} {w : World} {R : Expression → T → Type 0} (t : Expression) {b a : ℕ} {y : T}
    → Leads w R (reduced_longitude_of t) b a (Ok y) → (k : ℕ) → Leads w R (reduced_longitude_of t) k (next_turn k)
    (Ok y)
unfolding reduced_longitude_of run
longitude_again {w = w} t {y = y} h k = record {
  reports =
      (cell_again (λ k. k) _ (multiples 360) (value w (moon_longitude_of t))
      (cell_at (multiples 360) (value w (moon_longitude_of t))) _ y
      (λ q. answered_again _ y)).again _ _ k h.reports;
}
