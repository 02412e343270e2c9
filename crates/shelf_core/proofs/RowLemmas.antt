-- The rows of facts: by the first row of each kind, and within their number.
use Rattle.std.proofs.Common.{◌≡◌, ◌==◌, Bool, true, false, ℕ, suc, zero, ◌+◌, ◌<◌, ◌≤◌, List, [], ◌∷◌, length, map}
use Rattle.std.proofs.Common.{refl, arith, if◌then◌else◌}
use Rattle.std.specs.Prelude.{slice_get, slice_index_or}
use Rattle.std.specs.Option.{option_map_or}
use Rattle.book_model.specs.declared.fact.Place.{Place}
use Rattle.book_model.specs.declared.fact.TheConstants.{KINDS}
use Rattle.book_model.specs.sky.Names.{place_number}
use Rattle.shelf_core.specs.Rows.{MOST_ROWS, rows_among, HavePlaces, column_in, column_from, row_in, first_rows}
use Rattle.shelf_core.specs.Rows.{place_lists}

-- a place stands among these, the first of which has this number
column_from_within : (at : ℕ) (ps : List Place) (place : Place) → 0 < at + length ps
    → column_from at ps place < at + length ps
column_from_within at [] place some = omega (arith, some)
column_from_within at (p ∷ ps) place some = by (place_number p == place_number place)
    (column_from_within (at + 1) ps place (omega arith))
  where
    by : (same : Bool) → column_from (at + 1) ps place < at + 1 + length ps
        → (if same then at else column_from (at + 1) ps place) < at + suc (length ps)
    by true h = omega arith
    by false h = omega (arith, h)

pub column_within : (ps : List Place) (place : Place) → 0 < length ps → column_in ps place < length ps
column_within ps place some = let h = column_from_within 0 ps place (omega (arith, some)) in omega (arith, h)

-- the row of a place of one of the lists is one of theirs
pub row_within : (pss : List (List Place)) (number : ℕ) (place : Place) → HavePlaces pss → number < length pss
    → row_in pss number place < rows_among pss
row_within [] number place asked less = absurd (omega (arith, less))
row_within (ps ∷ pss) zero place asked less = let c = column_within ps place asked.0 in omega (arith, c)
row_within (ps ∷ pss) (suc number) place asked less = let r = row_within pss number place asked.1 (omega (arith, less))
    in omega (arith, r)

-- each kind has a place
pub kinds_have_places : HavePlaces place_lists
kinds_have_places = search arith

-- the list with a number
abbrev pub places_at : List (List Place) → ℕ → List Place
places_at [] n = []
places_at (ps ∷ pss) zero = ps
places_at (ps ∷ pss) (suc n) = places_at pss n

-- the places of a row of a table
pub places_of_row : {X : Type 0} (g : X → List Place) (rows : List X) (n : ℕ)
    → places_at (map g rows) n ≡ option_map_or g (slice_get rows n) []
places_of_row g [] n = refl
places_of_row g (x ∷ rows) zero = refl
places_of_row g (x ∷ rows) (suc n) = places_of_row g rows n

-- a row is that many behind the first of its list as its place stands behind the first there
pub row_from_first : (before : ℕ) (pss : List (List Place)) (n : ℕ) (place : Place) (d : ℕ) → n < length pss
    → slice_index_or (first_rows before pss) n d + column_in (places_at pss n) place ≡ before + row_in pss n place
row_from_first before [] n place d less = absurd (omega (arith, less))
row_from_first before (ps ∷ pss) zero place d less = refl
row_from_first before (ps ∷ pss) (suc n) place d less = let r = row_from_first (before + length ps) pss n place d
    (omega (arith, less)) in omega (arith, r)

-- the first rows tell the row
pub row_by_first : (n : ℕ) (place : Place) (d : ℕ) → n < length place_lists
    → slice_index_or (first_rows 0 place_lists) n d + column_in (option_map_or (λ row. row.2.0.now) (slice_get KINDS n)
    []) place ≡ row_in place_lists n place
row_by_first n place d less =
    let row = rw (places_of_row (λ row. row.2.0.now) KINDS n) at (row_from_first 0 place_lists n place d less) in
    omega (arith, row)

-- there are few rows
pub few_rows : (n : ℕ) (place : Place) (d : ℕ) → n < length place_lists
    → slice_index_or (first_rows 0 place_lists) n d + column_in (option_map_or (λ row. row.2.0.now) (slice_get KINDS n)
    []) place ≤ MOST_ROWS
few_rows n place d less =
    let row = row_by_first n place d less in
    let within = row_within place_lists n place kinds_have_places less in
    let all : rows_among place_lists ≤ MOST_ROWS = search arith in
    omega (arith, row, within, all)
