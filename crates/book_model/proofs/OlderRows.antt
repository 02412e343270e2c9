-- The rows of the table of ΔT lie apart, so the rows that a version had give a year that they have the row that all
-- give.
use Rattle.std.specs.Prelude.{◌≡◌, ℤ, negsuc, ◌≤ℤ◌, ◌<ℤ◌, Bool, true, false, ◌&&◌, ◌||◌, cond, if◌then◌else◌, int_le}
use Rattle.std.specs.Prelude.{int_lt, List, [], ◌∷◌, Some, None, refl}
use Rattle.std.specs.List.{filter}
use Rattle.std.proofs.Common.{arith}
use Rattle.std.proofs.lemmas.Int.{ints}
use Rattle.book_model.specs.declared.version.Version.{Version}
use Rattle.book_model.specs.calendars.Versions.{has_since}
use Rattle.book_model.specs.sky.Correction.{is_between, Correction, corrections, row_in}
use Rattle.book_model.specs.sky.Older.{rows_in, have_year, has_correction}
use Rattle.book_model.proofs.CorrectionRows.{both, lies}

-- each row begins after a year, and after the row before it
abbrev are_apart : ℤ → List Correction → Bool
are_apart low [] = true
are_apart low (row ∷ rows) = int_lt low row.first && (int_le row.first row.last && are_apart row.last rows)

rows_apart : are_apart (negsuc 9999) corrections ≡ true
unfolding corrections
rows_apart = refl

record IsApart (low : ℤ) (row : Correction) (rows : List Correction) : Type 0 where
  after : low <ℤ row.first
  order : row.first ≤ℤ row.last
  rest : are_apart row.last rows ≡ true

is_apart : (low : ℤ) (row : Correction) (rows : List Correction) → are_apart low (row ∷ rows) ≡ true
    → IsApart low row rows
is_apart low row rows e =
    let a = both (int_lt low row.first) _ e in
    let b = both (int_le row.first row.last) _ a.1 in
    record { after = grind (arith, ints, a.0); order = grind (arith, ints, b.0); rest = b.1 }

-- of some rows those that a version had
abbrev older : Version → List Correction → List Correction
older version rows = filter (λ row. has_since version row.since) rows

below_no : (low high z : ℤ) → z <ℤ low → is_between low high z ≡ false
below_no low high z h = grind (arith, ints, h)

-- a year before all rows is in none of a version's
none_before : (version : Version) (low y : ℤ) (rows : List Correction) → are_apart low rows ≡ true → y ≤ℤ low
    → have_year (older version rows) y ≡ false
none_before version low y [] e h = refl
none_before version low y (row ∷ rows) e h =
    let a = is_apart low row rows e in
    let m : y <ℤ row.first = omega (arith, ints, a.after) in
    let k : y ≤ℤ row.last = omega (arith, ints, a.after, a.order) in
    by (has_since version row.since) (below_no row.first row.last y m) (none_before version row.last y rows a.rest k)
  where
    by : (s : Bool) → is_between row.first row.last y ≡ false → have_year (older version rows) y ≡ false
        → have_year (cond s (row ∷ older version rows) (older version rows)) y ≡ false
    by true f g = rw (f, g) refl
    by false f g = g

-- a year that a version's rows have has the same row among all
same_among : (version : Version) (low y : ℤ) (rows : List Correction) → are_apart low rows ≡ true
    → have_year (older version rows) y ≡ true
    → row_in rows y ≡ row_in (older version rows) y
same_among version low y [] e h = refl
same_among version low y (row ∷ rows) e h =
    let a = is_apart low row rows e in
    by (has_since version row.since) (is_between row.first row.last y) refl
    (λ g. none_before version row.last y rows a.rest (lies row.first row.last y g).1)
    (same_among version row.last y rows a.rest) h
  where
    by : (s t : Bool) → is_between row.first row.last y ≡ t
        → (is_between row.first row.last y ≡ true → have_year (older version rows) y ≡ false)
        → (have_year (older version rows) y ≡ true → row_in rows y ≡ row_in (older version rows) y)
        → have_year (cond s (row ∷ older version rows) (older version rows)) y ≡ true
        → (if is_between row.first row.last y then Some row else row_in rows y) ≡ row_in
        (cond s (row ∷ older version rows) (older version rows)) y
    by true true f g k m = rw f refl
    by true false f g k m = rw f (k (rw f at m))
    by false true f g k m = let n = g f in absurd (cc)
    by false false f g k m = rw f (k m)

pub same_row : (version : Version) (y : ℤ) → has_correction version y ≡ true
    → row_in corrections y ≡ row_in (rows_in version) y
same_row version y h = same_among version (negsuc 9999) y corrections rows_apart h

-- a year that rows haven't has none of them
pub none_found : (rows : List Correction) (y : ℤ) → have_year rows y ≡ false → row_in rows y ≡ None
none_found [] y h = refl
none_found (row ∷ rows) y h = by (is_between row.first row.last y) (none_found rows y) h
  where
    by : (t : Bool) → (have_year rows y ≡ false → row_in rows y ≡ None) → (t || have_year rows y) ≡ false
        → (if t then Some row else row_in rows y) ≡ None
    by true f k = absurd (cc)
    by false f k = f k
