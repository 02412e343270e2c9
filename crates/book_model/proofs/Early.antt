-- The first tests of a run: how many a program makes at least that has an answer, and that a later failure has a later
-- number.
use Rattle.std.specs.Prelude.{◌≡◌, ℕ, zero, suc, ◌+◌, ◌-◌, ◌^◌, ◌≤◌, min, Bool, ℤ, Option, Some, None, Ok, Err}
use Rattle.std.proofs.Common.{arith}
use Rattle.exact_math.specs.Interval.{Interval}
use Rattle.book_model.specs.declared.fail.Fail.TheVariants.{Undecided as undecided_at}
use Rattle.book_model.specs.declared.fail.Undecided.{Undecided}
use Rattle.book_model.specs.declared.site.Site.{Site}
use Rattle.book_model.specs.numbers.Expressions.{Expression, World, value, subtract}
use Rattle.book_model.specs.programs.Leading.{next_turn, Reports, passes, answers, Leads}
use Rattle.book_model.specs.sky.Moon.{moon_of}
use Rattle.book_model.specs.sky.Phases.{within_turn_of, elongation_of, phase_of, phase_past_of, phase_before_of}
use Rattle.book_model.specs.sky.Phases.{phase_day_of}
use Rattle.book_model.specs.programs.Programs.{Grid, Program, answer, void, cell, compare, bind, Run, run, after_cell}
use Rattle.book_model.specs.programs.Programs.{after_compare, cell_at, compare_at, MakesTest, here_decided}
use Rattle.book_model.specs.programs.Programs.{here_undecided, later, Sides}
use Rattle.book_model.specs.sky.Sun.{sun_of}
use Rattle.book_model.specs.sky.Time.{centuries_of}
use Rattle.book_model.proofs.Leads.{leads_stop_at}

-- a program makes at least so many tests where it has an answer
pub data AtLeast {A : Type 0} : ℕ → Program A → Type 0 where
  any_at_least : {p : Program A} → AtLeast 0 p
  void_at_least : {n : ℕ} {s : Site} → AtLeast n (void s)
  cell_at_least : {n : ℕ} {s : Site} {g : Grid} {x : Expression} {next : ℤ → Program A} → ((q : ℤ) → AtLeast n (next q))
      → AtLeast (suc n) (cell s g x next)
  compare_at_least : {n : ℕ} {s : Site} {x y : Expression} {next : Bool → Program A} → ((t : Bool) → AtLeast n (next t))
      → AtLeast (suc n) (compare s x y next)

pub fewer : {A : Type 0} {p : Program A} (n : ℕ) → AtLeast (suc n) p → AtLeast n p
fewer zero h = any_at_least
fewer (suc n) void_at_least = void_at_least
fewer (suc n) (cell_at_least k) = cell_at_least (λ q. fewer n (k q))
fewer (suc n) (compare_at_least k) = compare_at_least (λ t. fewer n (k t))

-- what follows a program
pub least_after : {A B : Type 0} (n : ℕ) (p : Program A) (f : A → Program B) → ((v : A) → AtLeast n (f v))
    → AtLeast n (bind p f)
unfolding bind
least_after n (answer v) f h = h v
least_after n (void s) f h = void_at_least
least_after zero (cell s g x next) f h = any_at_least
least_after (suc n) (cell s g x next) f h = cell_at_least (λ q. fewer n (least_after (suc n) (next q) f h))
least_after zero (compare s x y next) f h = any_at_least
least_after (suc n) (compare s x y next) f h = compare_at_least (λ t. fewer n (least_after (suc n) (next t) f h))

-- a program alone
pub least_first : {A B : Type 0} {n : ℕ} {p : Program A} (f : A → Program B) → AtLeast n p → AtLeast n (bind p f)
unfolding bind
least_first f any_at_least = any_at_least
least_first f void_at_least = void_at_least
least_first f (cell_at_least k) = cell_at_least (λ q. least_first f (k q))
least_first f (compare_at_least k) = compare_at_least (λ t. least_first f (k t))

-- a program with a test, and what follows it
pub one_more : {A B : Type 0} {p : Program A} (n : ℕ) (f : A → Program B) → AtLeast 1 p → ((v : A) → AtLeast n (f v))
    → AtLeast (suc n) (bind p f)
unfolding bind
one_more n f void_at_least h = void_at_least
one_more n f (cell_at_least {next = next} k) h = cell_at_least (λ q. least_after n (next q) f h)
one_more n f (compare_at_least {next = next} k) h = compare_at_least (λ t. least_after n (next t) f h)

-- ---- the moon's phase
moon_least : (x : Expression) → AtLeast 1 (moon_of x)
unfolding moon_of
moon_least x = least_after 1 (centuries_of x) _ (λ c. cell_at_least (λ q. any_at_least))

sun_least : (x : Expression) → AtLeast 1 (sun_of x)
unfolding sun_of
sun_least x = least_after 1 (centuries_of x) _ (λ c. cell_at_least (λ q. any_at_least))

turned_least : (x : Expression) → AtLeast 1 (within_turn_of x)
unfolding within_turn_of
turned_least x = cell_at_least (λ q. any_at_least)

pub elongation_least : (x : Expression) → AtLeast 3 (elongation_of x)
unfolding elongation_of
elongation_least x = one_more 2 _ (moon_least x) (λ m. one_more 1 _ (sun_least x) (λ s. turned_least (subtract m s)))

pub phase_past_least : (f x : Expression) → AtLeast 3 (phase_past_of f x)
unfolding phase_past_of phase_of
phase_past_least f x = least_first _ (least_first _ (elongation_least x))

pub phase_day_least : (f d : ℤ) → AtLeast 3 (phase_day_of f d)
unfolding phase_day_of phase_before_of
phase_day_least f d = least_first _ (least_first _ (phase_past_least _ _))

-- ---- what that says of calls
not_before : {A T : Type 0} {R : A → T → Type 0} {r : Run A} {b a : ℕ} {y : T} → Reports R r b a (Ok y)
    → min b (2 ^ 32 - 1) ≤ a
unfolding next_turn
not_before (passes h) = let z = not_before h in omega (arith, z)
not_before (answers h) = omega arith

least_of_cell : {A T : Type 0} {R : A → T → Type 0} (n : ℕ) (s : Site) (g : Grid) (i : Interval) (o : Option ℤ)
    (next : ℤ → Run A) {b a : ℕ} {y : T}
    → ((q : ℤ) (c : ℕ) → Reports R (next q) c a (Ok y) → min (c + n) (2 ^ 32 - 1) ≤ a)
    → Reports R (after_cell s g i o next) b a (Ok y)
    → min (b + suc n) (2 ^ 32 - 1) ≤ a
unfolding after_cell next_turn
least_of_cell n s g i None next k t = elim t [ ]
least_of_cell n s g i (Some q) next k (passes t) = let z = k q _ t in omega (arith, z)

least_of_compare : {A T : Type 0} {R : A → T → Type 0} (n : ℕ) (s : Site) (i j : Interval) (o : Option Bool)
    (next : Bool → Run A) {b a : ℕ} {y : T}
    → ((q : Bool) (c : ℕ) → Reports R (next q) c a (Ok y) → min (c + n) (2 ^ 32 - 1) ≤ a)
    → Reports R (after_compare s i j o next) b a (Ok y)
    → min (b + suc n) (2 ^ 32 - 1) ≤ a
unfolding after_compare next_turn
least_of_compare n s i j None next k t = elim t [ ]
least_of_compare n s i j (Some q) next k (passes t) = let z = k q _ t in omega (arith, z)

least_told : {A T : Type 0} {R : A → T → Type 0} {n : ℕ} {p : Program A} (w : World) {b a : ℕ} {y : T} → AtLeast n p
    → Reports R (run w p) b a (Ok y)
    → min (b + n) (2 ^ 32 - 1) ≤ a
unfolding run
least_told w any_at_least t = let z = not_before t in omega (arith, z)
least_told w void_at_least t = elim t [ ]
least_told w (cell_at_least {n = n} {s = s} {g = g} {x = x} {next = next} k) t =
    least_of_cell n s g (value w x) (cell_at g (value w x)) (λ q. run w (next q)) (λ q c h. least_told w (k q) h) t
least_told w (compare_at_least {n = n} {s = s} {x = x} {y = y} {next = next} k) t =
    least_of_compare n s (value w x) (value w y) (compare_at (value w x) (value w y)) (λ q. run w (next q))
    (λ q c h. least_told w (k q) h) t

-- where a program that makes at least three tests has an answer, three have been made
pub three_made : {A T : Type 0} {R : A → T → Type 0} {p : Program A} (w : World) {b a : ℕ} {y : T} → AtLeast 3 p → b ≡ 0
    → Leads w R p b a (Ok y) → 3 ≤ a
three_made w h e l = let z = least_told w h l.reports in omega (arith, z, e)

pub from_one : {A : Type 0} {r : Run A} {k : ℕ} {s : Site} {i : Sides} → MakesTest r k s i → 1 ≤ k
from_one here_decided = omega arith
from_one here_undecided = omega arith
from_one (later h) = omega arith

-- a failure after three tests isn't one of the first three
pub not_of_three : {A T : Type 0} {R : A → T → Type 0} {p : Program A} {w : World} {b a : ℕ} {u : Undecided} → 3 ≤ b
    → Leads w R p b a (Err (undecided_at u))
    → 4 ≤ u.turn
not_of_three h l = let t = leads_stop_at l in let k = from_one t.makes in omega (arith, h, t.turn, k)
