-- The words of a line that was written have the line's form.
use Rattle.std.proofs.Common.{◌≡◌, ℕ, ◌-◌, ◌^◌, ◌≤◌, true, List, [], ◌∷◌, refl, arith, decimal}
use Rattle.std.proofs.lemmas.Bool.Decides.{nat_tests}
use Rattle.std.specs.Fmt.{signed_decimal}
use Rattle.std.specs.Prelude.{codes, Some, ◌&&◌, nat_le, ℤ}
use Rattle.book_model.specs.declared.fact.Fact.{Fact}
use Rattle.book_model.specs.declared.fail.Undecided.{Undecided as UndecidedTest}
use Rattle.book_model.specs.declared.site.Site.{Site}
use Rattle.book_model.specs.declared.version.TheConstants.{WRITTEN}
use Rattle.book_model.specs.sky.Names.{kind_name, place_name, site_name}
use Rattle.cert_text.specs.declared.line.CertLine.TheVariants.{Refused}
use Rattle.cert_parser.specs.declared.form.Form.TheVariants as forms
use Rattle.cert_parser.specs.Grammar.{form_in, fact_form, line_form, body_form, end_form, refused_form, undecided_form}
use Rattle.cert_parser.specs.Grammar.{void_form, key_at}
use Rattle.cert_parser.specs.ReadAgain.{is_value, is_named_well, is_undecided_test}
use Rattle.line_core.proofs.SpacedWords.{both}
use Rattle.cert_parser.proofs.RowTexts.{fact_row, refused_row, undecided_row, void_row, end_row}
use Rattle.cert_parser.proofs.WordParts.{counter_here, value_here, fact_here, last_fact_here, test_here, site_here}

-- fact N KIND PLACE DAY VALUE
pub fact_row_form : (n : ℕ) (f : Fact) (v : ℤ) → n ≤ 2 ^ 32 - 1 → is_named_well f ≡ true → is_value v ≡ true
    → form_in WRITTEN (codes "fact" ∷ fact_row n f v)
    ≡ Some (forms.Fact n (Some f) v)
unfolding fact_form
fact_row_form n f v h k l =
    rw (
      counter_here n (kind_name f.kind ∷ place_name f.place ∷ signed_decimal f.day ∷ signed_decimal v ∷ []) h,
      fact_here f (signed_decimal v ∷ []) k,
      value_here v [] l,
    ) refl

-- end lines L facts F
pub end_row_form : (lines facts : ℕ) → lines ≤ 2 ^ 32 - 1 → facts ≤ 2 ^ 32 - 1
    → form_in WRITTEN (codes "end" ∷ end_row lines facts)
    ≡ Some (forms.End lines facts)
unfolding end_form key_at
end_row_form lines facts h k = rw (counter_here lines (codes "facts" ∷ decimal facts ∷ []) h, counter_here facts [] k)
    refl

-- line N refused R
pub refused_row_form : (n rule : ℕ) → n ≤ 2 ^ 32 - 1 → (nat_le 1 rule && nat_le rule 4) ≡ true
    → form_in WRITTEN (codes "line" ∷ refused_row n rule)
    ≡ Some (forms.Line n (Refused rule))
unfolding line_form body_form refused_form key_at
refused_row_form n rule h k =
    let b = both (nat_le 1 rule) (nat_le rule 4) k in
    let fits : rule ≤ 2 ^ 32 - 1 = grind (arith, nat_tests) in
    rw (counter_here n (codes "refused" ∷ decimal rule ∷ []) h, counter_here rule [] fits, b.0, b.1) refl

-- line N undecided SITE TURN LO HI fact KIND PLACE DAY
pub undecided_row_form : (n : ℕ) (f : Fact) (u : UndecidedTest) → n ≤ 2 ^ 32 - 1 → is_named_well f ≡ true
    → is_undecided_test u ≡ true
    → form_in WRITTEN (codes "line" ∷ undecided_row n f u) ≡ Some (forms.Undecided n (Some f) u)
unfolding line_form body_form refused_form undecided_form key_at
undecided_row_form n f u h k l =
    let fact : List (List ℕ) = codes "fact" ∷ kind_name f.kind ∷ place_name f.place ∷ signed_decimal f.day ∷ [] in
    rw (
      counter_here n (codes "undecided" ∷ site_name u.site ∷ decimal u.turn ∷ signed_decimal u.lo ∷ signed_decimal u.hi
          ∷ fact) h,
      test_here u fact l,
      last_fact_here f k,
    ) refl

-- line N void SITE fact KIND PLACE DAY
pub void_row_form : (n : ℕ) (f : Fact) (s : Site) → n ≤ 2 ^ 32 - 1 → is_named_well f ≡ true
    → form_in WRITTEN (codes "line" ∷ void_row n f s)
    ≡ Some (forms.Void n (Some f) s)
unfolding line_form body_form refused_form undecided_form void_form key_at
void_row_form n f s h k =
    let fact : List (List ℕ) = codes "fact" ∷ kind_name f.kind ∷ place_name f.place ∷ signed_decimal f.day ∷ [] in
    rw (counter_here n (codes "void" ∷ site_name s ∷ fact) h, site_here s fact, last_fact_here f k) refl
