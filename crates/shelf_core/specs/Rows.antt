-- The rows of facts: one for each kind and each of its places, in the order of the table of kinds.
use Rattle.std.specs.Prelude.{ℕ, zero, suc, ◌+◌, ◌<◌, ◌==◌, if◌then◌else◌, List, [], ◌∷◌, length, map}
use Rattle.book_model.specs.declared.fact.Kind.{Kind}
use Rattle.book_model.specs.declared.fact.Place.{Place}
use Rattle.book_model.specs.declared.fact.TheConstants.{KINDS}
use Rattle.book_model.specs.sky.Names.{kind_number, place_number}

-- more rows than the table will have
abbrev pub MOST_ROWS : ℕ
MOST_ROWS = 1000

-- the places of each kind
abbrev pub place_lists : List (List Place)
place_lists = map (λ row. row.2.0.now) KINDS

-- how many places stand in lists
abbrev pub rows_among : List (List Place) → ℕ
rows_among [] = 0
rows_among (ps ∷ pss) = length ps + rows_among pss

-- each list has a place
abbrev pub HavePlaces : List (List Place) → Type 0
HavePlaces [] = Unit {0}
HavePlaces (ps ∷ pss) = (0 < length ps) × HavePlaces pss

-- where a place stands among places of which the first has this number, or 0
abbrev pub column_from : ℕ → List Place → Place → ℕ
column_from at [] place = 0
column_from at (p ∷ ps) place = if place_number p == place_number place then at else column_from (at + 1) ps place

-- where a place stands among places, or 0
abbrev pub column_in : List Place → Place → ℕ
column_in places place = column_from 0 places place

-- the row of a place of the list with a number
abbrev pub row_in : List (List Place) → ℕ → Place → ℕ
row_in [] number place = 0
row_in (ps ∷ pss) zero place = column_in ps place
row_in (ps ∷ pss) (suc number) place = length ps + row_in pss number place

-- the first row of each list, where so many rows are before them
abbrev pub first_rows : ℕ → List (List Place) → List ℕ
first_rows before [] = []
first_rows before (ps ∷ pss) = before ∷ first_rows (before + length ps) pss

-- the number of rows
unfoldable pub fact_rows : ℕ
fact_rows = rows_among place_lists

-- the row of a kind and a place; where the kind doesn't have the place, that of its first
unfoldable pub row_of : Kind → Place → ℕ
row_of kind place = row_in place_lists (kind_number kind) place
