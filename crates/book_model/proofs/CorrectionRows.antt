-- The table of values of ΔT: what its rows have in common.
use Rattle.std.specs.Prelude.{◌≡◌, ℤ, ◌≤ℤ◌, Bool, true, false, ◌&&◌, if◌then◌else◌, int_le, List, [], ◌∷◌, Some, refl}
use Rattle.std.specs.List.{list_all}
use Rattle.std.proofs.Common.{arith, sym, subst}
use Rattle.std.proofs.lemmas.Int.{ints}
use Rattle.book_model.specs.sky.Correction.{is_between, Correction, corrections, row_in, row_of_year}

pub both : (p q : Bool) → (p && q) ≡ true → (p ≡ true) × (q ≡ true)
both true true e = (refl, refl)
both true false e = absurd (cc)
both false q e = absurd (cc)

pub lies : (low high z : ℤ) → is_between low high z ≡ true → (low ≤ℤ z) × (z ≤ℤ high)
lies low high z e =
    let b = both (int_le low z) (int_le z high) e in
    let p : true ≡ int_le low z = sym b.0 in
    let q : true ≡ int_le z high = sym b.1 in
    (omega (arith, ints), omega (arith, ints))

-- the row of a year has the year, and passes each test that all rows pass
pub record IsRowOf (y : ℤ) (row : Correction) (test : Correction → Bool) : Type 0 where
  pub from : row.first ≤ℤ y
  pub to : y ≤ℤ row.last
  pub passes : test row ≡ true

row_found : (test : Correction → Bool) (rows : List Correction) (y : ℤ) (row : Correction) → list_all test rows ≡ true
    → row_in rows y ≡ Some row
    → IsRowOf y row test
row_found test [] y row h e = absurd (cc)
row_found test (r ∷ rs) y row h e =
    let b = both (test r) (list_all test rs) h in
    by (is_between r.first r.last y) refl e (λ f. row_found test rs y row b.1 f) b.0
  where
    by : (t : Bool) → is_between r.first r.last y ≡ t → (if t then Some r else row_in rs y) ≡ Some row
        → (row_in rs y ≡ Some row → IsRowOf y row test) → test r
        ≡ true → IsRowOf y row test
    by true f e k p = let l = lies r.first r.last y f in let s : r ≡ row = cc in
        subst (λ z. IsRowOf y z test) s (record { from = l.0; to = l.1; passes = p })
    by false f e k p = k e

pub year_row : (test : Correction → Bool) (y : ℤ) (row : Correction) → list_all test corrections ≡ true
    → row_of_year y ≡ Some row → IsRowOf y row test
unfolding row_of_year
year_row test y row h e = row_found test corrections y row h e
