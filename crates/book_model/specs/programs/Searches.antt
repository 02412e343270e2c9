-- Searches by day.
use Rattle.std.specs.Prelude.{ℕ, zero, suc, Bool, cond, ℤ, pos, ◌+ℤ◌}
use Rattle.book_model.specs.declared.site.Site.TheVariants.{Search}
use Rattle.book_model.specs.programs.Programs.{Program, answer, void, bind}

-- the first of so many days from a day on whose test is true; where there is none, the search is void
unfoldable pub first_of_days : ℕ → (ℤ → Program Bool) → ℤ → Program ℤ
first_of_days zero test day = void Search
first_of_days (suc more) test day = bind (test day) λ yes. cond yes (answer day)
    (first_of_days more test (day +ℤ pos 1))

-- the first day whose test is true, of the start and the 45 days after it
unfoldable pub first_day_from : (ℤ → Program Bool) → ℤ → Program ℤ
first_day_from test start = first_of_days 46 test start
