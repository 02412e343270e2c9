-- The steps of a search by day. The definition is a recursion on how many days are left: each lemma unfolds it once,
-- after so many days, and says how the program goes on (`Continues`) where the day's test is true, where it isn't and
-- where it fails.
use Rattle.std.proofs.Common.{◌≡◌, ℕ, suc, ◌+◌, ◌-◌, ◌<◌, ◌≤◌, Bool, true, false, cond, ℤ, pos, ◌+ℤ◌, arith, refl}
use Rattle.std.proofs.lemmas.Int.{ints}
use Rattle.std.specs.Prelude.{Ok, Err}
use Rattle.book_model.specs.declared.fail.Fail.{Fail}
use Rattle.book_model.specs.declared.fail.Fail.TheVariants.{Void}
use Rattle.book_model.specs.declared.site.Site.TheVariants.{Search}
use Rattle.book_model.specs.numbers.Expressions.{World}
use Rattle.book_model.specs.programs.Leading.{Continues, Exact, Leads}
use Rattle.book_model.specs.programs.Programs.{Program, answer, bind}
use Rattle.book_model.specs.programs.Searches.{first_of_days, first_day_from}
use Rattle.book_model.proofs.Leads.{continues_exact, continues_fail, continues_answer, continues_void, continues_here}

-- what is left of a search of so many days is the test of a day, and then the days after it
pub search_goes : {T : Type 0} {w : World} {R : ℤ → T → Type 0} {p : Program ℤ} {b m : ℕ} (test : ℤ → Program Bool)
    (start : ℤ) (days later : ℕ) → later < days
    → Continues w R p b (first_of_days (days - later) test (start +ℤ pos later)) m
    → Continues w R p b (bind (test (start +ℤ pos later)) (λ yes.
    cond yes (answer (start +ℤ pos later)) (first_of_days (days - (later + 1)) test (start +ℤ pos (later + 1))))) m
unfolding first_of_days
search_goes test start days later h k =
    let e : days - later ≡ suc (days - (later + 1)) = omega arith in
    let next : (start +ℤ pos later) +ℤ pos 1 ≡ start +ℤ pos (later + 1) = omega (arith, ints) in
    rw next at (rw e at k)

module _ {w : World} {p : Program ℤ} {b m n : ℕ} (test : ℤ → Program Bool) (start day : ℤ) (days later : ℕ) where
  -- the test is true of a day
  pub search_hit : later < days → start +ℤ pos later ≡ day
      → Continues w Exact p b (first_of_days (days - later) test (start +ℤ pos later)) m
      → Leads w Exact (test day) m n (Ok true) → Leads w Exact p b n (Ok day)
  search_hit h e k l = let t : Leads w Exact (test (start +ℤ pos later)) m n (Ok true) = rw e l in rw (← e)
      (continues_answer (continues_exact _ (search_goes test start days later h k) t) refl)

  -- it isn't, and the search goes on
  pub search_miss : later < days → start +ℤ pos later ≡ day
      → Continues w Exact p b (first_of_days (days - later) test (start +ℤ pos later)) m
      → Leads w Exact (test day) m n (Ok false)
      → Continues w Exact p b (first_of_days (days - (later + 1)) test (start +ℤ pos (later + 1))) n
  search_miss h e k l = let t : Leads w Exact (test (start +ℤ pos later)) m n (Ok false) = rw e l in
      continues_exact _ (search_goes test start days later h k) t

  -- it fails
  pub search_fails : {z : Fail} → later < days → start +ℤ pos later ≡ day
      → Continues w Exact p b (first_of_days (days - later) test (start +ℤ pos later)) m
      → Leads w Exact (test day) m n (Err z) → Leads w Exact p b n (Err z)
  search_fails h e k l = let t : Leads w Exact (test (start +ℤ pos later)) m n (Err _) = rw e l in
      continues_fail _ (search_goes test start days later h k) t

-- no day is left
pub search_is_over : {w : World} {p : Program ℤ} {b m : ℕ} (test : ℤ → Program Bool) (day : ℤ) (days later : ℕ)
    → days ≤ later
    → Continues w Exact p b (first_of_days (days - later) test day) m → Leads w Exact p b m (Err (Void Search))
unfolding first_of_days
search_is_over test day days later h k = let e : days - later ≡ 0 = omega arith in continues_void (rw e at k)

-- the search begins with its first day
pub first_is : {w : World} {b : ℕ} (test : ℤ → Program Bool) (start : ℤ)
    → Continues w Exact (first_day_from test start) b (first_of_days 46 test (start +ℤ pos 0)) b
unfolding first_day_from
first_is test start = let e : start +ℤ pos 0 ≡ start = omega (arith, ints) in rw e continues_here
