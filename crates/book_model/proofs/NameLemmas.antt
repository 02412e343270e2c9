-- The tables of kinds, places and sites: each row stands at the number of what it names, and its name names it.
use Rattle.std.proofs.Common.{◌≡◌, Bool, true, false, ◌&&◌, ◌==◌, refl, ap, arith, List, [], ◌∷◌, ℕ, suc, zero, ◌+◌}
use Rattle.std.proofs.Common.{◌<◌, length, zero-add, add_comm}
use Rattle.std.proofs.lemmas.Bool.Decides.{nat_tests}
use Rattle.std.specs.Prelude.{slice_get, Some, None, Option}
use Rattle.std.specs.List.{list_all}
use Rattle.std.specs.Option.{option_map_or}
use denote.Enum.Bare.{tag_one}
use denote.Enum.Declared.{variants, tag_of}
use denote.Enum.Enum.{tag_below}
use Rattle.book_model.specs.contracts.fact.Kind.{the_type as kind_type}
use Rattle.book_model.specs.contracts.fact.Place.{the_type as place_type}
use Rattle.book_model.specs.contracts.site.Site.{the_type as site_type}
use Rattle.book_model.specs.declared.fact.Kind.{Kind}
use Rattle.book_model.specs.declared.fact.Place.{Place}
use Rattle.book_model.specs.declared.fact.TheConstants.{KINDS, PLACES}
use Rattle.book_model.specs.declared.site.Site.{Site}
use Rattle.book_model.specs.declared.site.TheConstants.{SITES}
use Rattle.book_model.specs.sky.Names.{kind_number, kind_name, kind_named, place_number, place_name, place_named}
use Rattle.book_model.specs.sky.Names.{site_number, site_name, site_named}

-- the rows have the numbers from n on
abbrev are_numbered : {R : Type 0} → (R → ℕ) → ℕ → List R → Bool
are_numbered number n [] = true
are_numbered number n (r ∷ rs) = (number r == n) && are_numbered number (suc n) rs

-- a row that stands at a place and has its number
pub record IsRow {R : Type 0} (number : R → ℕ) (rows : List R) (i n : ℕ) : Type 0 where
  pub row : R
  pub here : slice_get rows i ≡ Some row
  pub same : number row ≡ n

both : (p q : Bool) → (p && q) ≡ true → (p ≡ true) × (q ≡ true)
both true true e = (refl, refl)
both true false e = absurd (cc)
both false q e = absurd (cc)

-- at each place stands the row with that number
row_at : {R : Type 0} (number : R → ℕ) (n i : ℕ) (rows : List R) → are_numbered number n rows ≡ true → i < length rows
    → IsRow number rows i (n + i)
row_at number n i [] e h = absurd (omega arith)
row_at number n zero (r ∷ rs) e h = let b = both (number r == n) (are_numbered number (suc n) rs) e in record
    { row = r; here = refl; same = grind (arith, nat_tests, b.0) }
row_at number n (suc i) (r ∷ rs) e h =
    let b = both (number r == n) (are_numbered number (suc n) rs) e in
    let k = row_at number (suc n) i rs b.1 (omega arith) in
    record { row = k.row; here = k.here; same = omega (arith, k.same) }

-- a test that each row passes is passed by the one at a place
pub all_at : {R : Type 0} (test : R → Bool) (i : ℕ) (rows : List R) (r : R) → list_all test rows ≡ true
    → slice_get rows i ≡ Some r → test r ≡ true
all_at test i [] r e h = cc
all_at test zero (x ∷ xs) r e h = let b = both (test x) (list_all test xs) e in let s : x ≡ r = cc in rw s at b.0
all_at test (suc i) (x ∷ xs) r e h = let b = both (test x) (list_all test xs) e in all_at test i xs r b.1 h

-- where each row's name leads to its value, so does the name of a value whose row stands at a place
named_back : {A R : Type 0} (value : R → A) (name : R → List ℕ) (number : A → ℕ) (one : (a b : A) → number a ≡ number b
    → a ≡ b) (named : List ℕ → Option A)
    (rows : List R) (i : ℕ) (v : A)
    → list_all (λ r. option_map_or (λ w. number w == number (value r)) (named (name r)) false) rows ≡ true
    → IsRow (λ r. number (value r)) rows i (number v)
    → named (option_map_or name (slice_get rows i) []) ≡ Some v
named_back {A = A} value name number one named rows i v tested r =
    let same : value r.row ≡ v = one (value r.row) v r.same in
    let found = all_at (λ r. option_map_or (λ w. number w == number (value r)) (named (name r)) false) i rows r.row
    tested r.here in
    rw r.here (by (named (name r.row)) (rw same at found))
  where
    by : (o : Option A) → option_map_or (λ w. number w == number v) o false ≡ true → o ≡ Some v
    by None e = absurd (cc)
    by (Some w) e = let n : number w ≡ number v = grind (arith, nat_tests, e) in ap (λ t. Some t) (one w v n)

-- what holds of a column in each row holds of the column at a place
pub column_passes : {R V : Type 0} (column : R → V) (none : V) (number : R → ℕ) (test : V → Bool) (rows : List R)
    (i n : ℕ)
    → list_all (λ r. test (column r)) rows ≡ true → IsRow number rows i n
    → test (option_map_or column (slice_get rows i) none) ≡ true
column_passes column none number test rows i n tested r =
    rw r.here (all_at (λ r. test (column r)) i rows r.row tested r.here)

-- each kind's row
pub kind_row : (k : Kind) → IsRow (λ row. kind_number row.0) KINDS (kind_number k) (kind_number k)
kind_row k = rw zero-add at (row_at (λ row. kind_number row.0) 0 (kind_number k) KINDS refl
    (tag_below (variants kind_type) (kind_type.to k)))

pub place_row : (p : Place) → IsRow (λ row. place_number row.0) PLACES (place_number p) (place_number p)
place_row p = rw zero-add at (row_at (λ row. place_number row.0) 0 (place_number p) PLACES refl
    (tag_below (variants place_type) (place_type.to p)))

pub site_row : (s : Site) → IsRow (λ row. site_number row.0) SITES (tag_of site_type s) (site_number s)
site_row s = rw (add_comm 1 (tag_of site_type s)) at (row_at (λ row. site_number row.0) 1 (tag_of site_type s)
    SITES refl
    (tag_below (variants site_type) (site_type.to s)))

-- values with one number are one
pub one_kind : (k l : Kind) → kind_number k ≡ kind_number l → k ≡ l
one_kind k l h = tag_one kind_type tt k l h

pub one_place : (p q : Place) → place_number p ≡ place_number q → p ≡ q
one_place p q h = tag_one place_type tt p q h

one_site : (s t : Site) → site_number s ≡ site_number t → s ≡ t
one_site s t h = tag_one site_type tt s t (omega (arith, h))

-- a name leads back to what it is the name of
pub kind_found : (k : Kind) → kind_named (kind_name k) ≡ Some k
unfolding kind_name kind_named
kind_found k = named_back (λ row. row.0) (λ row. row.1.now) kind_number one_kind kind_named KINDS (kind_number k) k refl
    (kind_row k)

pub place_found : (p : Place) → place_named (place_name p) ≡ Some p
unfolding place_name place_named
place_found p = named_back (λ row. row.0) (λ row. row.1.now) place_number one_place place_named PLACES (place_number p)
    p refl (place_row p)

pub site_found : (s : Site) → site_named (site_name s) ≡ Some s
unfolding site_name site_named
site_found s = named_back (λ row. row.0) (λ row. row.1.now) site_number one_site site_named SITES (tag_of site_type s) s
    refl (site_row s)

-- what holds of each name in a table holds of each name
pub kind_names_pass : (test : List ℕ → Bool) (k : Kind) → list_all (λ row. test row.1.now) KINDS ≡ true
    → test (kind_name k) ≡ true
unfolding kind_name
kind_names_pass test k h = column_passes (λ row. row.1.now) [] (λ row. kind_number row.0) test KINDS (kind_number k)
    (kind_number k) h (kind_row k)

pub place_names_pass : (test : List ℕ → Bool) (p : Place) → list_all (λ row. test row.1.now) PLACES ≡ true
    → test (place_name p) ≡ true
unfolding place_name
place_names_pass test p h = column_passes (λ row. row.1.now) [] (λ row. place_number row.0) test PLACES (place_number p)
    (place_number p) h (place_row p)

pub site_names_pass : (test : List ℕ → Bool) (s : Site) → list_all (λ row. test row.1.now) SITES ≡ true
    → test (site_name s) ≡ true
unfolding site_name
site_names_pass test s h = column_passes (λ row. row.1.now) [] (λ row. site_number row.0) test SITES
    (tag_of site_type s) (site_number s) h (site_row s)
