-- The words of a line that lists facts have the line's form.
use Rattle.std.proofs.Common.{◌≡◌, ℕ, ◌-◌, ◌^◌, ◌≤◌, true, List, [], ◌∷◌, ◌++◌, map, refl, arith, decimal}
use Rattle.std.proofs.lemmas.Bool.Decides.{nat_tests}
use Rattle.std.specs.Fmt.{signed_decimal}
use Rattle.std.specs.List.{list_any}
use Rattle.std.specs.Prelude.{codes, Some, ◌&&◌, nat_le, nat_eq, not, ℤ}
use Rattle.book_model.specs.declared.version.TheConstants.{WRITTEN}
use Rattle.cert_text.specs.Echo.{Echo}
use Rattle.cert_text.specs.declared.line.CertLine.TheVariants.{Shown, TooFar, NoDate}
use Rattle.cert_parser.specs.declared.form.Form.TheVariants as forms
use Rattle.cert_parser.specs.declared.found.Found.{Found}
use Rattle.cert_parser.specs.declared.found.Found.TheVariants as found
use Rattle.cert_parser.specs.Grammar.{form_in, line_form, body_form, listed_form, echo_at, found_at, shown_at}
use Rattle.cert_parser.specs.Grammar.{too_far_at, no_date_at, counters_of, line_with, key_at}
use Rattle.cert_parser.specs.Reading.{are_of_facts}
use Rattle.cert_parser.specs.ReadAgain.{is_day}
use Rattle.cert_parser.proofs.Spelling.{counter_read}
use Rattle.cert_parser.proofs.Rows.{three}
use Rattle.line_core.proofs.SpacedWords.{both}
use Rattle.cert_parser.proofs.RowTexts.{listed_row}
use Rattle.cert_parser.proofs.WordParts.{counter_here, day_here}
use Rattle.cert_parser.proofs.OtherForms.{not_refused, not_undecided, not_undecided_refused, not_void, not_void_refused}

-- numbers of facts are read again
pub counters_read : (count : ℕ) (seen ns : List ℕ) → count ≤ 2 ^ 32 - 1 → are_of_facts count seen ns ≡ true
    → counters_of (map decimal ns) ≡ Some ns
counters_read count seen [] h k = refl
counters_read count seen (n ∷ ns) h k =
    let all = both (nat_le 1 n && nat_le n count && not (list_any (nat_eq n) seen))
    (are_of_facts count (seen ++ n ∷ []) ns) k in
    let one = three (nat_le 1 n) (nat_le n count) (not (list_any (nat_eq n) seen)) all.0 in
    let fits : n ≤ 2 ^ 32 - 1 = grind (arith, nat_tests) in
    rw (counter_read n fits, counters_read count (seen ++ n ∷ []) ns h all.1) refl

-- FROM DATE TO, what is found, and the numbers of facts
listed_read : (number : ℕ) (echo : Echo) (ws rest : List (List ℕ)) (f : Found) (ns : List ℕ)
    → found_at ws ≡ Some (f, rest) → counters_of rest ≡ Some ns
    → listed_form number (echo.from ∷ echo.date ∷ echo.to ∷ ws) ≡ Some (forms.Line number (line_with echo f ns))
unfolding listed_form echo_at
listed_read number echo ws rest f ns h k = rw (h, k) refl

-- RESULT facts
shown_found : (result : List ℕ) (ws : List (List ℕ)) → found_at (result ∷ codes "facts" ∷ ws) ≡ Some
    (found.Shown result, ws)
unfolding found_at shown_at key_at
shown_found result ws = refl

-- refused 4 DAY facts
too_far_found : (day : ℤ) (ws : List (List ℕ)) → is_day day ≡ true
    → found_at (codes "refused" ∷ codes "4" ∷ signed_decimal day ∷ codes "facts" ∷ ws)
    ≡ Some (found.TooFar day, ws)
unfolding found_at shown_at too_far_at key_at
too_far_found day ws h = rw (day_here day (codes "facts" ∷ ws) h) refl

-- refused 5 BACK facts
no_date_found : (back : List ℕ) (ws : List (List ℕ))
    → found_at (codes "refused" ∷ codes "5" ∷ back ∷ codes "facts" ∷ ws) ≡ Some (found.NoDate back, ws)
unfolding found_at shown_at too_far_at no_date_at key_at
no_date_found back ws = refl

-- line N FROM DATE TO RESULT facts A B ..
pub shown_row_form : (n : ℕ) (echo : Echo) (result ns : List ℕ) → n ≤ 2 ^ 32 - 1
    → counters_of (map decimal ns) ≡ Some ns
    → form_in WRITTEN (codes "line" ∷ listed_row n echo (result ∷ []) ns) ≡ Some (forms.Line n (Shown echo result ns))
unfolding line_form body_form
shown_row_form n echo result ns h k =
    let ws : List (List ℕ) = map decimal ns in
    let body : List (List ℕ) = echo.from ∷ echo.date ∷ echo.to ∷ result ∷ codes "facts" ∷ ws in
    rw (
      counter_here n body h,
      not_refused n echo.from echo.date echo.to (result ∷ codes "facts" ∷ ws),
      not_undecided WRITTEN n echo.from echo.date echo.to result ws,
      not_void WRITTEN n echo.from echo.date echo.to result ws,
      listed_read n echo (result ∷ codes "facts" ∷ ws) ws (found.Shown result) ns (shown_found result ws) k,
    ) refl

-- line N FROM DATE TO refused 4 DAY facts A B ..
pub too_far_row_form : (n : ℕ) (echo : Echo) (day : ℤ) (ns : List ℕ) → n ≤ 2 ^ 32 - 1 → is_day day ≡ true
    → counters_of (map decimal ns) ≡ Some ns
    → form_in WRITTEN (codes "line" ∷ listed_row n echo (codes "refused" ∷ codes "4" ∷ signed_decimal day ∷ []) ns)
    ≡ Some (forms.Line n (TooFar echo day ns))
unfolding line_form body_form
too_far_row_form n echo day ns h d k =
    let rest : List (List ℕ) = codes "4" ∷ signed_decimal day ∷ codes "facts" ∷ map decimal ns in
    let body : List (List ℕ) = echo.from ∷ echo.date ∷ echo.to ∷ codes "refused" ∷ rest in
    rw (
      counter_here n body h,
      not_refused n echo.from echo.date echo.to (codes "refused" ∷ rest),
      not_undecided_refused WRITTEN n echo.from echo.date echo.to rest,
      not_void_refused WRITTEN n echo.from echo.date echo.to rest,
      listed_read n echo (codes "refused" ∷ rest) (map decimal ns) (found.TooFar day) ns
          (too_far_found day (map decimal ns) d) k,
    ) refl

-- line N FROM DATE TO refused 5 BACK facts A B ..
pub no_date_row_form : (n : ℕ) (echo : Echo) (back ns : List ℕ) → n ≤ 2 ^ 32 - 1
    → counters_of (map decimal ns) ≡ Some ns
    → form_in WRITTEN (codes "line" ∷ listed_row n echo (codes "refused" ∷ codes "5" ∷ back ∷ []) ns) ≡ Some
    (forms.Line n (NoDate echo back ns))
unfolding line_form body_form
no_date_row_form n echo back ns h k =
    let rest : List (List ℕ) = codes "5" ∷ back ∷ codes "facts" ∷ map decimal ns in
    let body : List (List ℕ) = echo.from ∷ echo.date ∷ echo.to ∷ codes "refused" ∷ rest in
    rw (
      counter_here n body h,
      not_refused n echo.from echo.date echo.to (codes "refused" ∷ rest),
      not_undecided_refused WRITTEN n echo.from echo.date echo.to rest,
      not_void_refused WRITTEN n echo.from echo.date echo.to rest,
      listed_read n echo (codes "refused" ∷ rest) (map decimal ns) (found.NoDate back) ns
          (no_date_found back (map decimal ns)) k,
    ) refl
