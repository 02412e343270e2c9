-- Where a year is undecided, its bounds are those of the moment.
use Rattle.std.specs.Prelude.{◌≡◌, ℕ, ℤ, pos, ◌+ℤ◌, ◌≤ℤ◌}
use Rattle.book_model.specs.Interval.{Interval}
use Rattle.book_model.specs.declared.fact.TheConstants.{FIRST_FACT_DAY, LAST_FACT_DAY}
use Rattle.book_model.specs.declared.fail.Fail.{Fail}
use Rattle.book_model.specs.declared.fail.Fail.TheVariants.{Undecided, Void}
use Rattle.book_model.specs.declared.site.Site.TheVariants.{Year}
use Rattle.book_model.specs.programs.Widths.{IsWithin, centuries_to, recent_centuries_from}

-- a failure at the year, with these bounds
abbrev pub HasYearEndpoints : (lo hi : ℤ) → Fail → Type 0
HasYearEndpoints lo hi (Undecided u) = (u.lo ≡ lo) × (u.hi ≡ hi) × (u.site ≡ Year)
HasYearEndpoints lo hi (Void s) = ⊥

-- centuries from noon of 1 January 2000 to a recent moment of the years of which ΔT is known, moved by at most a day
abbrev pub AreRecentCenturies : ℕ → Interval → Type 0
AreRecentCenturies v i = IsWithin recent_centuries_from centuries_to v i

-- a day of which a fact may be asked, or the day after one
abbrev pub IsMidnightDay : ℤ → Type 0
IsMidnightDay day = (FIRST_FACT_DAY ≤ℤ day) × (day ≤ℤ (LAST_FACT_DAY +ℤ pos 1))
