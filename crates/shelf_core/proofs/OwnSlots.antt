-- Two facts of a kind's places and of days that have slots have two slots.
use Rattle.std.proofs.Common.{◌≡◌, ◌∙◌, sym, ap, ◌/◌, ◌==◌, ◌||◌, Bool, true, false, ℕ, suc, zero, ◌+◌, ◌*◌, ◌<◌, ◌≤◌}
use Rattle.std.proofs.Common.{List, [], ◌∷◌, refl, arith, if◌then◌else◌, ℤ, pos, negsuc, ◌-ℤ◌, ◌≤ℤ◌, rules}
use Rattle.std.proofs.lemmas.Int.{ints}
use Rattle.std.proofs.lemmas.Nat.{div-mul-add}
use Rattle.std.proofs.lemmas.Bool.Decides.{nat_tests}
use Rattle.std.specs.Prelude.{IsTrue}
use Rattle.std.specs.List.{list_any}
use Rattle.book_model.specs.declared.fact.Fact.{Fact}
use Rattle.book_model.specs.declared.fact.Kind.{Kind}
use Rattle.book_model.specs.declared.fact.Place.{Place}
use Rattle.book_model.specs.declared.fact.TheConstants.{KINDS, FIRST_DAY}
use Rattle.book_model.specs.sky.Facts.{IsValueDay}
use Rattle.book_model.specs.sky.Names.{kind_number, place_number, has_place}
use Rattle.book_model.proofs.NameLemmas.{one_kind, one_place}
use Rattle.shelf_core.specs.Rows.{HavePlaces, column_from, row_in, row_of, place_lists}
use Rattle.shelf_core.specs.Slots.{slot_of, shelf_days, natural}
use Rattle.shelf_core.proofs.RowLemmas.{column_within, kinds_have_places, places_at, places_of_row}

-- whether a place is one of these
abbrev among : Place → List Place → Bool
among place ps = list_any (λ p. place_number p == place_number place) ps

-- a place of these has a column no less than that of the first
column_from_least : (at : ℕ) (ps : List Place) (place : Place) → among place ps ≡ true → at ≤ column_from at ps place
column_from_least at [] place is = cc
column_from_least at (p ∷ ps) place is = by (place_number p == place_number place) is
    (λ rest. column_from_least (at + 1) ps place rest)
  where
    by : (same : Bool) → (same || among place ps) ≡ true
        → (among place ps ≡ true → at + 1 ≤ column_from (at + 1) ps place)
        → at ≤ (if same then at else column_from (at + 1) ps place)
    by true h least = omega arith
    by false h least = omega (arith, least h)

-- places of one column are one
one_column : (at : ℕ) (ps : List Place) (p q : Place) → among p ps ≡ true → among q ps ≡ true
    → column_from at ps p ≡ column_from at ps q → place_number p
    ≡ place_number q
one_column at [] p q hp hq same = cc
one_column at (x ∷ ps) p q hp hq same = by (place_number x == place_number p) refl (place_number x == place_number q)
    refl hp hq same
    (one_column (at + 1) ps p q)
  where
    by : (a : Bool) → (place_number x == place_number p) ≡ a → (b : Bool) → (place_number x == place_number q) ≡ b
        → (a || among p ps) ≡ true
        → (b || among q ps) ≡ true → (if a then at else column_from (at + 1) ps p)
        ≡ (if b then at else column_from (at + 1) ps q)
        → (among p ps ≡ true → among q ps ≡ true → column_from (at + 1) ps p ≡ column_from (at + 1) ps q
        → place_number p ≡ place_number q) → place_number p
        ≡ place_number q
    by true a true b hp hq same rest = grind (arith, nat_tests, a, b)
    by true a false b hp hq same rest = absurd (let least = column_from_least (at + 1) ps q hq in
        omega (arith, least, same))
    by false a true b hp hq same rest = absurd (let least = column_from_least (at + 1) ps p hp in
        omega (arith, least, same))
    by false a false b hp hq same rest = rest hp hq same

-- rows that are one are of one list and one place
one_row : (pss : List (List Place)) (n m : ℕ) (p q : Place) → HavePlaces pss → among p (places_at pss n) ≡ true
    → among q (places_at pss m) ≡ true
    → row_in pss n p ≡ row_in pss m q → (n ≡ m) × (place_number p ≡ place_number q)
one_row [] n m p q have hp hq same = cc
one_row (ps ∷ pss) zero zero p q have hp hq same = (refl, one_column 0 ps p q hp hq same)
one_row (ps ∷ pss) zero (suc m) p q have hp hq same = absurd (let w = column_within ps p have.0 in
    omega (arith, w, same))
one_row (ps ∷ pss) (suc n) zero p q have hp hq same = absurd (let w = column_within ps q have.0 in
    omega (arith, w, same))
one_row (ps ∷ pss) (suc n) (suc m) p q have hp hq same =
    let r = one_row pss n m p q have.1 hp hq (omega (arith, same)) in
    (omega (arith, r.0), r.1)

-- a kind's place stands in the list of its number
stands : (kind : Kind) (place : Place) → IsTrue (has_place kind place)
    → among place (places_at place_lists (kind_number kind)) ≡ true
stands kind place has = rw (places_of_row (λ row. row.2.0.now) KINDS (kind_number kind)) (grind (rules, has))

-- rows that are one are of one kind and one place
one_kind_and_place : (f g : Fact) → IsTrue (has_place f.kind f.place) → IsTrue (has_place g.kind g.place)
    → row_of f.kind f.place ≡ row_of g.kind g.place
    → (f.kind ≡ g.kind) × (f.place ≡ g.place)
unfolding row_of
one_kind_and_place f g hf hg same =
    let r = one_row place_lists (kind_number f.kind) (kind_number g.kind) f.place g.place kinds_have_places
    (stands f.kind f.place hf)
    (stands g.kind g.place hg) same in
    (one_kind f.kind g.kind r.0, one_place f.place g.place r.1)

-- the place of a day among a shelf's is less than their number, and tells the day
natural_is : (z : ℤ) → pos 0 ≤ℤ z → pos (natural z) ≡ z
natural_is (pos n) h = refl
natural_is (negsuc n) h = absurd (omega (arith, ints, h))

-- two parts of a number are told by it
one_pair : (n a b x y : ℕ) → x < n → y < n → a * n + x ≡ b * n + y → (a ≡ b) × (x ≡ y)
one_pair n a b x y hx hy same =
    let first : a ≡ b = sym (div-mul-add a n x hx) ∙ ap (λ m. m / n) same ∙ div-mul-add b n y hy in
    let rest = rw first at same in
    (first, omega (arith, rest))

pub own_slot : (f g : Fact) → IsTrue (has_place f.kind f.place) → IsTrue (has_place g.kind g.place) → IsValueDay f.day
    → IsValueDay g.day → slot_of f
    ≡ slot_of g → f ≡ g
unfolding slot_of
own_slot f g hf hg df dg same =
    let ef = natural_is (f.day -ℤ FIRST_DAY) (omega (arith, ints, df.0)) in
    let eg = natural_is (g.day -ℤ FIRST_DAY) (omega (arith, ints, dg.0)) in
    let lf : natural (f.day -ℤ FIRST_DAY) < shelf_days = omega (arith, ints, ef, df.1) in
    let lg : natural (g.day -ℤ FIRST_DAY) < shelf_days = omega (arith, ints, eg, dg.1) in
    let parts = one_pair shelf_days (row_of f.kind f.place) (row_of g.kind g.place) (natural (f.day -ℤ FIRST_DAY))
    (natural (g.day -ℤ FIRST_DAY)) lf lg same in
    let kp = one_kind_and_place f g hf hg parts.0 in
    let d : f.day ≡ g.day = omega (arith, ints, ef, eg, parts.1) in
    λ j. record { kind = kp.0 j; place = kp.1 j; day = d j }
