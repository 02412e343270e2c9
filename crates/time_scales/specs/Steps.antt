-- What an undecided test of the year says of its enclosure.
use Rattle.std.specs.Prelude.{◌≡◌, ℕ, ◌≤◌}
use Rattle.book_model.specs.Interval.{Interval}
use Rattle.book_model.specs.declared.site.Site.TheVariants.{Year}
use Rattle.book_model.specs.declared.fail.Fail.{Fail}
use Rattle.book_model.specs.declared.fail.Fail.TheVariants.{Undecided, Void}
use Rattle.book_model.specs.programs.Leading.{IsUndecidedCell}
use Rattle.book_model.specs.programs.Programs.{years}

-- the year is undecided for this enclosure, by the test of this number
abbrev pub IsUndecidedYear : Interval → ℕ → Fail → Type 0
IsUndecidedYear i n (Undecided u) = IsUndecidedCell years i u.lo u.hi × (u.site ≡ Year) × (u.turn ≡ n)
IsUndecidedYear i n (Void s) = ⊥

-- a failure at the year is a year that is undecided for this enclosure; any other failure is elsewhere
abbrev pub IsYearUndecidedFor : Interval → Fail → Type 0
IsYearUndecidedFor i (Undecided u) = u.site ≡ Year → IsUndecidedCell years i u.lo u.hi
IsYearUndecidedFor i (Void s) = Unit {0}

-- a failure at the year by one of the first three tests of a run is a year that is undecided for this enclosure
abbrev pub IsEarlyYearFor : Interval → Fail → Type 0
IsEarlyYearFor i (Undecided u) = u.site ≡ Year → u.turn ≤ 3 → IsUndecidedCell years i u.lo u.hi
IsEarlyYearFor i (Void s) = Unit {0}

-- a failure is none at the year by one of the first three tests of a run
abbrev pub IsNoEarlyYear : Fail → Type 0
IsNoEarlyYear (Undecided u) = u.site ≡ Year → u.turn ≤ 3 → ⊥
IsNoEarlyYear (Void s) = Unit {0}

-- a failure is not at the year
abbrev pub IsNotOfYear : Fail → Type 0
IsNotOfYear (Undecided u) = u.site ≡ Year → ⊥
IsNotOfYear (Void s) = Unit {0}
