-- From where to where the days lie that the rules go by.
use Rattle.std.specs.Prelude.{List, [], ◌∷◌, ℤ, pos, negsuc, ◌+ℤ◌, ◌-ℤ◌, ◌≤ℤ◌}

-- a day to which values of facts may lead, of which facts are asked
abbrev pub IsAskedDay : ℤ → Type 0
IsAskedDay day = (negsuc 29999999 ≤ℤ day) × (day ≤ℤ pos 30000000)

-- such a day that has room for half a year after it and the day before it
abbrev pub IsDatedDay : ℤ → Type 0
IsDatedDay day = (negsuc 29999000 ≤ℤ day) × (day ≤ℤ pos 29999000)

-- such a day about which a date is sought
abbrev pub IsSearchedDay : ℤ → Type 0
IsSearchedDay day = (negsuc 29998899 ≤ℤ day) × (day ≤ℤ pos 29998900)

-- the years and months from which days by the mean sun are counted
abbrev pub IsSunMonth : (year month : ℤ) → Type 0
IsSunMonth year month = (negsuc 9998 ≤ℤ year) × (year ≤ℤ pos 9999) × (pos 1 ≤ℤ month) × (month ≤ℤ pos 12)

-- a day at most 30 days from another
abbrev pub IsAbout : (about day : ℤ) → Type 0
IsAbout about day = ((about -ℤ pos 30) ≤ℤ day) × (day ≤ℤ (about +ℤ pos 30))

-- days that are at most 30 days from another
abbrev pub AreAbout : (about : ℤ) (days : List ℤ) → Type 0
AreAbout about [] = Unit {0}
AreAbout about (day ∷ days) = IsAbout about day × AreAbout about days
