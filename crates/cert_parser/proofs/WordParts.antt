-- A word that was written is read again in a file of the version that is written, whatever words follow it.
use Rattle.std.proofs.Common.{◌≡◌, ℕ, ◌-◌, ◌^◌, ◌≤◌, true, List, [], ◌∷◌, refl, arith, decimal}
use Rattle.std.proofs.lemmas.Bool.Decides.{nat_tests}
use Rattle.std.proofs.lemmas.Int.{ints}
use Rattle.std.specs.Fmt.{signed_decimal}
use Rattle.std.specs.Prelude.{codes, Some, nat_le, ℤ, pos, negsuc, int_le}
use Rattle.book_model.specs.declared.fact.Fact.{Fact}
use Rattle.book_model.specs.declared.fact.Kind.{Kind}
use Rattle.book_model.specs.declared.fact.Place.{Place}
use Rattle.book_model.specs.declared.fail.Undecided.{Undecided as UndecidedTest}
use Rattle.book_model.specs.declared.site.Site.{Site}
use Rattle.book_model.specs.sky.Correction.{is_between}
use Rattle.book_model.specs.declared.fact.TheConstants.{FIRST_FACT_DAY, LAST_FACT_DAY, LEAST_VALUE, GREATEST_VALUE}
use Rattle.book_model.specs.declared.version.TheConstants.{WRITTEN}
use Rattle.book_model.specs.sky.Names.{kind_name, place_name, site_name, has_place}
use Rattle.book_model.proofs.VersionTables.{all_kinds, all_places, all_sites}
use Rattle.cert_parser.specs.Grammar.{key_at, kind_at, place_at, site_at, counter_at, number_at, end_at, day_at}
use Rattle.cert_parser.specs.Grammar.{value_at, fact_at, test_at, last_fact_at}
use Rattle.cert_parser.specs.ReadAgain.{is_day, is_value, is_wide, is_named_well, is_undecided_test}
use Rattle.cert_parser.proofs.Spelling.{IsWide, counter_read, integer_read}
use Rattle.cert_parser.proofs.Rows.{three}
use Rattle.line_core.proofs.SpacedWords.{both}

pub counter_here : (n : ℕ) (ws : List (List ℕ)) → n ≤ 2 ^ 32 - 1 → counter_at (decimal n ∷ ws) ≡ Some (n, ws)
unfolding counter_at
counter_here n ws h = rw (counter_read n h)

-- a number between bounds of 128 bits
wide : (low high z : ℤ) → IsWide low → IsWide high → is_between low high z ≡ true → IsWide z
wide low high z l h k =
    let b = both (int_le low z) (int_le z high) k in
    record { low = omega (arith, ints, b.0, l.low); high = omega (arith, ints, b.1, h.high) }

pub day_wide : (z : ℤ) → is_day z ≡ true → IsWide z
day_wide z h = wide FIRST_FACT_DAY LAST_FACT_DAY z (record { low = omega (arith, ints); high = omega (arith, ints) })
    (record { low = omega (arith, ints); high = omega (arith, ints) }) h

pub value_wide : (z : ℤ) → is_value z ≡ true → IsWide z
value_wide z h = wide LEAST_VALUE GREATEST_VALUE z (record { low = omega (arith, ints); high = omega (arith, ints) })
    (record { low = omega (arith, ints); high = omega (arith, ints) }) h

pub wide_fits : (z : ℤ) → is_wide z ≡ true → IsWide z
wide_fits z h = wide (negsuc (2 ^ 127 - 1)) (pos (2 ^ 127 - 1)) z
    (record { low = omega (arith, ints); high = omega (arith, ints) })
    (record { low = omega (arith, ints); high = omega (arith, ints) }) h

number_here : (low high z : ℤ) (ws : List (List ℕ)) → IsWide z → is_between low high z ≡ true
    → number_at low high (signed_decimal z ∷ ws) ≡ Some (z, ws)
unfolding number_at
number_here low high z ws h k = rw (integer_read z h) (rw k refl)

pub day_here : (z : ℤ) (ws : List (List ℕ)) → is_day z ≡ true → day_at (signed_decimal z ∷ ws) ≡ Some (z, ws)
day_here z ws h = number_here FIRST_FACT_DAY LAST_FACT_DAY z ws (day_wide z h) h

pub value_here : (z : ℤ) (ws : List (List ℕ)) → is_value z ≡ true → value_at (signed_decimal z ∷ ws) ≡ Some (z, ws)
value_here z ws h = number_here LEAST_VALUE GREATEST_VALUE z ws (value_wide z h) h

pub end_here : (z : ℤ) (ws : List (List ℕ)) → is_wide z ≡ true → end_at (signed_decimal z ∷ ws) ≡ Some (z, ws)
unfolding end_at
end_here z ws h = rw (integer_read z (wide_fits z h)) refl

kind_here : (k : Kind) (ws : List (List ℕ)) → kind_at WRITTEN (kind_name k ∷ ws) ≡ Some (k, ws)
unfolding kind_at
kind_here k ws = rw (all_kinds k) refl

place_here : (p : Place) (ws : List (List ℕ)) → place_at WRITTEN (place_name p ∷ ws) ≡ Some (p, ws)
unfolding place_at
place_here p ws = rw (all_places p) refl

pub site_here : (s : Site) (ws : List (List ℕ)) → site_at WRITTEN (site_name s ∷ ws) ≡ Some (s, ws)
unfolding site_at
site_here s ws = rw (all_sites s) refl

-- KIND PLACE DAY
pub fact_here : (f : Fact) (ws : List (List ℕ)) → is_named_well f ≡ true
    → fact_at WRITTEN (kind_name f.kind ∷ place_name f.place ∷ signed_decimal f.day ∷ ws)
    ≡ Some (Some f, ws)
unfolding fact_at
fact_here f ws h =
    let b = both (has_place f.kind f.place) (is_day f.day) h in
    rw (
      kind_here f.kind (place_name f.place ∷ signed_decimal f.day ∷ ws),
      place_here f.place
          (signed_decimal f.day ∷ ws),
      day_here f.day ws b.1,
      b.0,
    ) refl

-- fact KIND PLACE DAY, at the end
pub last_fact_here : (f : Fact) → is_named_well f ≡ true
    → last_fact_at WRITTEN (codes "fact" ∷ kind_name f.kind ∷ place_name f.place ∷ signed_decimal f.day ∷ []) ≡ Some
    (Some f)
unfolding last_fact_at key_at
last_fact_here f h = rw (fact_here f [] h) refl

-- SITE TURN LO HI
pub test_here : (u : UndecidedTest) (ws : List (List ℕ)) → is_undecided_test u ≡ true
    → test_at WRITTEN (site_name u.site ∷ decimal u.turn ∷ signed_decimal u.lo ∷ signed_decimal u.hi ∷ ws) ≡ Some
    (u, ws)
unfolding test_at
test_here u ws h =
    let b = three (nat_le u.turn (2 ^ 32 - 1)) (is_wide u.lo) (is_wide u.hi) h in
    let fits : u.turn ≤ 2 ^ 32 - 1 = grind (arith, nat_tests) in
    rw (
      site_here u.site (decimal u.turn ∷ signed_decimal u.lo ∷ signed_decimal u.hi ∷ ws),
      counter_here u.turn (signed_decimal u.lo ∷ signed_decimal u.hi ∷ ws) fits,
      end_here u.lo (signed_decimal u.hi ∷ ws) b.1,
      end_here u.hi ws b.2,
    ) refl
