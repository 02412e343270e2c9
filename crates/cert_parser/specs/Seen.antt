-- Facts that were seen: for each kind and place a set of days.
use Rattle.std.specs.Prelude.{◌≡◌, ℕ, ◌+◌, ◌*◌, ◌||◌, Bool, false, List, length, ℤ, Option, Some, None}
use Rattle.std.specs.List.{slice_get}
use Rattle.std.specs.Ordering.{int_cmp}
use Rattle.std.specs.BTreeSet.{BTreeSet, contains}
use Rattle.book_model.specs.declared.fact.Fact.{Fact}
use Rattle.book_model.specs.declared.fact.TheConstants.{PLACES}
use Rattle.book_model.specs.calendars.Inquiries.{fact_eq}
use Rattle.book_model.specs.sky.Names.{kind_number, place_number}

-- the place of a fact's kind and place among all pairs of a kind and a place
abbrev pub row_of : Fact → ℕ
row_of f = kind_number f.kind * length PLACES + place_number f.place

-- the set is there and has the day
abbrev pub has_day : Option (BTreeSet ℤ) → ℤ → Bool
has_day None day = false
has_day (Some days) day = contains int_cmp days day

-- the days of a fact's kind and place have the fact's day
abbrev pub has_fact : List (BTreeSet ℤ) → Fact → Bool
has_fact rows f = has_day (slice_get rows (row_of f)) f.day

-- this fact was seen too, and no other
abbrev pub HasMore : List (BTreeSet ℤ) → Fact → List (BTreeSet ℤ) → Type 0
HasMore old fact new = (f : Fact) → has_fact new f ≡ (fact_eq f fact || has_fact old f)
