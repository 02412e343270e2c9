-- The words of a line that was written are words.
use Rattle.std.proofs.Common.{◌≡◌, ℕ, ◌-◌, ◌^◌, ◌≤◌, true, List, [], ◌∷◌, ◌++◌, length, map, refl, arith, decimal}
use borrow.Author.Tests.{ltb-true}
use Rattle.std.proofs.lemmas.Bool.Decides.{nat_tests}
use Rattle.std.specs.Fmt.{signed_decimal}
use Rattle.std.specs.List.{list_all, list_any}
use Rattle.std.specs.Prelude.{codes, ◌&&◌, nat_le, nat_lt, nat_eq, not, ℤ}
use Rattle.book_model.specs.declared.fact.Fact.{Fact}
use Rattle.book_model.specs.declared.fact.Kind.{Kind}
use Rattle.book_model.specs.declared.fact.Place.{Place}
use Rattle.book_model.specs.declared.fail.Undecided.{Undecided as UndecidedTest}
use Rattle.book_model.specs.declared.site.Site.{Site}
use Rattle.book_model.specs.sky.Names.{kind_name, place_name, site_name, has_place}
use Rattle.book_model.proofs.NameLemmas.{kind_names_pass, place_names_pass, site_names_pass}
use Rattle.cert_text.specs.Echo.{Echo}
use Rattle.book_model.specs.lines.Lines.{is_printable, IsWord, AreWords}
use Rattle.line_core.proofs.Digits.{decimal_some, decimal_printed}
use Rattle.line_core.proofs.SpacedWords.{both}
use Rattle.cert_parser.specs.Reading.{are_of_facts}
use Rattle.cert_parser.specs.ReadAgain.{is_text_word, are_echo_words, is_day, is_value, is_wide, is_named_well}
use Rattle.cert_parser.specs.ReadAgain.{is_undecided_test}
use Rattle.cert_parser.proofs.Spelling.{IsWide, signed_some, signed_printed}
use Rattle.cert_parser.proofs.Rows.{three}
use Rattle.cert_parser.proofs.RowTexts.{fact_row, refused_row, undecided_row, void_row, end_row, listed_row}
use Rattle.cert_parser.proofs.WordParts.{day_wide, value_wide, wide_fits}

pub text_word : (word : List ℕ) → is_text_word word ≡ true → IsWord word
text_word word h =
    let b = both (nat_lt 0 (length word)) (list_all is_printable word) h in
    record { some = ltb-true _ _ b.0; printed = b.1 }

pub counter_word : (n : ℕ) → n ≤ 2 ^ 32 - 1 → IsWord (decimal n)
counter_word n h = record { some = decimal_some n (omega arith); printed = decimal_printed n (omega arith) }

signed_word : (z : ℤ) → IsWide z → IsWord (signed_decimal z)
signed_word z h = record { some = signed_some z h; printed = signed_printed z h }

kind_word : (k : Kind) → IsWord (kind_name k)
kind_word k = text_word (kind_name k) (kind_names_pass is_text_word k refl)

place_word : (p : Place) → IsWord (place_name p)
place_word p = text_word (place_name p) (place_names_pass is_text_word p refl)

site_word : (s : Site) → IsWord (site_name s)
site_word s = text_word (site_name s) (site_names_pass is_text_word s refl)

-- KIND PLACE DAY, and the words after it
fact_words : (f : Fact) (ws : List (List ℕ)) → is_named_well f ≡ true → AreWords ws
    → AreWords (kind_name f.kind ∷ place_name f.place ∷ signed_decimal f.day ∷ ws)
fact_words f ws h k = (
  kind_word f.kind,
  (place_word f.place, (signed_word f.day (day_wide f.day (both (has_place f.kind f.place) (is_day f.day) h).1), k)),
)

pub fact_row_words : (n : ℕ) (f : Fact) (v : ℤ) → n ≤ 2 ^ 32 - 1 → is_named_well f ≡ true → is_value v ≡ true
    → AreWords (fact_row n f v)
fact_row_words n f v h k l =
    (counter_word n h, fact_words f (signed_decimal v ∷ []) k (signed_word v (value_wide v l), tt))

pub end_row_words : (lines facts : ℕ) → lines ≤ 2 ^ 32 - 1 → facts ≤ 2 ^ 32 - 1 → AreWords (end_row lines facts)
end_row_words lines facts h k = (
  text_word (codes "lines") refl,
  (counter_word lines h, (text_word (codes "facts") refl, (counter_word facts k, tt))),
)

pub refused_row_words : (n rule : ℕ) → n ≤ 2 ^ 32 - 1 → (nat_le 1 rule && nat_le rule 4) ≡ true
    → AreWords (refused_row n rule)
refused_row_words n rule h k =
    let b = both (nat_le 1 rule) (nat_le rule 4) k in
    let fits : rule ≤ 2 ^ 32 - 1 = grind (arith, nat_tests) in
    (counter_word n h, (text_word (codes "refused") refl, (counter_word rule fits, tt)))

-- fact KIND PLACE DAY, at the end
last_fact_words : (f : Fact) → is_named_well f ≡ true
    → AreWords (codes "fact" ∷ kind_name f.kind ∷ place_name f.place ∷ signed_decimal f.day ∷ [])
last_fact_words f h = (text_word (codes "fact") refl, fact_words f [] h tt)

pub undecided_row_words : (n : ℕ) (f : Fact) (u : UndecidedTest) → n ≤ 2 ^ 32 - 1 → is_named_well f ≡ true
    → is_undecided_test u ≡ true → AreWords (undecided_row n f u)
undecided_row_words n f u h k l =
    let b = three (nat_le u.turn (2 ^ 32 - 1)) (is_wide u.lo) (is_wide u.hi) l in
    let fits : u.turn ≤ 2 ^ 32 - 1 = grind (arith, nat_tests) in (
      counter_word n h,
      (
        text_word (codes "undecided") refl,
        (
          site_word u.site,
          (
            counter_word u.turn fits,
            (signed_word u.lo (wide_fits u.lo b.1), (signed_word u.hi (wide_fits u.hi b.2), last_fact_words f k)),
          ),
        ),
      ),
    )

pub void_row_words : (n : ℕ) (f : Fact) (s : Site) → n ≤ 2 ^ 32 - 1 → is_named_well f ≡ true → AreWords (void_row n f s)
void_row_words n f s h k = (counter_word n h, (text_word (codes "void") refl, (site_word s, last_fact_words f k)))

-- the numbers of facts
pub numbers_words : (count : ℕ) (seen ns : List ℕ) → count ≤ 2 ^ 32 - 1 → are_of_facts count seen ns ≡ true
    → AreWords (map decimal ns)
numbers_words count seen [] h k = tt
numbers_words count seen (n ∷ ns) h k =
    let all = both (nat_le 1 n && nat_le n count && not (list_any (nat_eq n) seen))
    (are_of_facts count (seen ++ n ∷ []) ns) k in
    let one = three (nat_le 1 n) (nat_le n count) (not (list_any (nat_eq n) seen)) all.0 in
    let fits : n ≤ 2 ^ 32 - 1 = grind (arith, nat_tests) in
    (counter_word n fits, numbers_words count (seen ++ n ∷ []) ns h all.1)

-- N FROM DATE TO, and the words after it
echo_words : (n : ℕ) (echo : Echo) (ws : List (List ℕ)) → n ≤ 2 ^ 32 - 1 → are_echo_words echo ≡ true → AreWords ws
    → AreWords (decimal n ∷ echo.from ∷ echo.date ∷ echo.to ∷ ws)
echo_words n echo ws h e k =
    let b = three (is_text_word echo.from) (is_text_word echo.date) (is_text_word echo.to) e in
    (counter_word n h, (text_word echo.from b.0, (text_word echo.date b.1, (text_word echo.to b.2, k))))

pub shown_row_words : (n : ℕ) (echo : Echo) (result ns : List ℕ) → n ≤ 2 ^ 32 - 1 → are_echo_words echo ≡ true
    → is_text_word result ≡ true
    → AreWords (map decimal ns)
    → AreWords (listed_row n echo (result ∷ []) ns)
shown_row_words n echo result ns h e r k = echo_words n echo (result ∷ codes "facts" ∷ map decimal ns) h e
    (text_word result r, (text_word (codes "facts") refl, k))

pub too_far_row_words : (n : ℕ) (echo : Echo) (day : ℤ) (ns : List ℕ) → n ≤ 2 ^ 32 - 1 → are_echo_words echo ≡ true
    → is_day day ≡ true
    → AreWords (map decimal ns)
    → AreWords (listed_row n echo (codes "refused" ∷ codes "4" ∷ signed_decimal day ∷ []) ns)
too_far_row_words n echo day ns h e d k =
    echo_words n echo (codes "refused" ∷ codes "4" ∷ signed_decimal day ∷ codes "facts" ∷ map decimal ns) h e (
      text_word (codes "refused") refl,
      (text_word (codes "4") refl, (signed_word day (day_wide day d), (text_word (codes "facts") refl, k))),
    )

pub no_date_row_words : (n : ℕ) (echo : Echo) (back ns : List ℕ) → n ≤ 2 ^ 32 - 1 → are_echo_words echo ≡ true
    → is_text_word back ≡ true
    → AreWords (map decimal ns)
    → AreWords (listed_row n echo (codes "refused" ∷ codes "5" ∷ back ∷ []) ns)
no_date_row_words n echo back ns h e d k =
    echo_words n echo (codes "refused" ∷ codes "5" ∷ back ∷ codes "facts" ∷ map decimal ns) h e (
      text_word (codes "refused") refl,
      (text_word (codes "5") refl, (text_word back d, (text_word (codes "facts") refl, k))),
    )
