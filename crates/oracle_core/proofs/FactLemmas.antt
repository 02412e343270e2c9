-- The equality of facts that sets of facts use is that of the definitions.
use Rattle.std.proofs.Common.{◌≡◌, Bool, true, false, ◌&&◌, refl, List, [], ◌∷◌, ◌==◌, arith, ℤ}
use Rattle.std.proofs.lemmas.Int.{ints}
use Rattle.std.proofs.lemmas.Bool.Decides.{nat_tests}
use Rattle.std.specs.Ordering.{int_eq}
use Rattle.std.specs.List.{list_any, position_or_len}
use Rattle.book_model.specs.declared.fact.Fact.{Fact}
use Rattle.book_model.specs.calendars.Inquiries.{fact_eq}
use Rattle.book_model.specs.sky.Names.{kind_number, place_number}
use Rattle.book_model.specs.contracts.fact.FactPartialEq.TheImpl as derived
use Rattle.book_model.proofs.NameLemmas.{one_kind, one_place}

-- three tests in either grouping
regroup : (b d e : Bool) → (b && (d && e)) ≡ ((b && d) && e)
regroup true d e = refl
regroup false d e = refl

-- the code's test of two facts is that of the definitions
pub same_fact_eq : (f g : Fact) → derived.eq-value.it f g ≡ fact_eq f g
same_fact_eq f g = regroup (kind_number f.kind == kind_number g.kind) (place_number f.place == place_number g.place)
    (int_eq f.day g.day)

-- a fact is among facts by either test
pub same_any : (f : Fact) (seen : List Fact) → list_any (derived.eq-value.it f) seen ≡ list_any (fact_eq f) seen
same_any f [] = refl
same_any f (g ∷ seen) = rw (same_fact_eq f g, same_any f seen) refl

-- a fact has one place among facts by either test
pub same_position : (f : Fact) (seen : List Fact) → position_or_len (derived.eq-value.it f) seen ≡ position_or_len
    (fact_eq f) seen
same_position f [] = refl
same_position f (g ∷ seen) = rw (same_fact_eq f g, same_position f seen) refl

-- three tests that hold
all_three : (a b c : Bool) → ((a && b) && c) ≡ true → (a ≡ true) × (b ≡ true) × (c ≡ true)
all_three true true true h = (refl, refl, refl)
all_three true true false h = cc
all_three true false c h = cc
all_three false b c h = cc

-- days that are equal by the test are one
one_day : (d e : ℤ) → int_eq d e ≡ true → d ≡ e
one_day d e h = grind (arith, ints, h)

-- facts that the test finds equal are one
pub one_fact : (f g : Fact) → fact_eq f g ≡ true → f ≡ g
one_fact f g h =
    let e = all_three (kind_number f.kind == kind_number g.kind) (place_number f.place == place_number g.place)
    (int_eq f.day g.day) h in
    let k : f.kind ≡ g.kind = one_kind f.kind g.kind (grind (arith, nat_tests, e.0)) in
    let p : f.place ≡ g.place = one_place f.place g.place (grind (arith, nat_tests, e.1)) in
    let d : f.day ≡ g.day = one_day f.day g.day e.2 in
    λ j. record { kind = k j; place = p j; day = d j }
