-- Each text of a certificate is words with single spaces between them, and a line feed.
use Rattle.std.proofs.Common.{◌≡◌, ◌∙◌, ℕ, List, [], ◌∷◌, ◌++◌, map, ap, refl, append_assoc, decimal}
use Rattle.std.specs.Fmt.{signed_decimal}
use Rattle.std.specs.List.{flat_map}
use Rattle.std.specs.Prelude.{codes, ℤ}
use Rattle.book_model.specs.declared.fact.Fact.{Fact}
use Rattle.book_model.specs.declared.fail.Undecided.{Undecided as UndecidedTest}
use Rattle.book_model.specs.declared.site.Site.{Site}
use Rattle.book_model.specs.sky.Names.{kind_name, place_name, site_name}
use Rattle.book_model.specs.lines.Text.{fact_text, echo_text, facts_text, listed_text, too_far_text, no_date_text}
use Rattle.book_model.specs.lines.Text.{refused_text, undecided_text, open_text, void_text, empty_text, end_text}
use Rattle.book_model.specs.lines.Text.{number_text}
use Rattle.cert_text.specs.Echo.{Echo}
use Rattle.cert_text.specs.Text.{words_in}
use Rattle.cert_parser.proofs.Rows.{spaced_then}

-- fact N KIND PLACE DAY VALUE
abbrev pub fact_row : ℕ → Fact → ℤ → List (List ℕ)
fact_row n f v = decimal n ∷ kind_name f.kind ∷ place_name f.place ∷ signed_decimal f.day ∷ signed_decimal v ∷ []

pub fact_is_row : (n : ℕ) (f : Fact) (v : ℤ) (rest : List ℕ) → fact_text n f v ++ rest ≡ codes "fact" ++ spaced_then
    (fact_row n f v) rest
unfolding fact_text
fact_is_row n f v rest = simp append_assoc

-- line N refused R
abbrev pub refused_row : ℕ → ℕ → List (List ℕ)
refused_row n rule = decimal n ∷ codes "refused" ∷ decimal rule ∷ []

pub refused_is_row : (n rule : ℕ) (rest : List ℕ) → refused_text n rule ++ rest ≡ codes "line" ++ spaced_then
    (refused_row n rule) rest
unfolding refused_text
refused_is_row n rule rest = simp append_assoc

-- line N undecided SITE TURN LO HI fact KIND PLACE DAY
abbrev pub undecided_row : ℕ → Fact → UndecidedTest → List (List ℕ)
undecided_row n f u =
    decimal n ∷ codes "undecided" ∷ site_name u.site ∷ decimal u.turn ∷ signed_decimal u.lo ∷ signed_decimal u.hi
    ∷ codes "fact" ∷ kind_name f.kind ∷ place_name
    f.place ∷ signed_decimal f.day ∷ []

pub undecided_is_row : (n : ℕ) (f : Fact) (u : UndecidedTest) (rest : List ℕ)
    → undecided_text (codes "line ") n f u ++ rest
    ≡ codes "line" ++ spaced_then (undecided_row n f u) rest
unfolding open_text
undecided_is_row n f u rest = simp append_assoc

-- line N void SITE fact KIND PLACE DAY
abbrev pub void_row : ℕ → Fact → Site → List (List ℕ)
void_row n f s = decimal n ∷ codes "void" ∷ site_name s ∷ codes "fact" ∷ kind_name f.kind ∷ place_name f.place
    ∷ signed_decimal f.day ∷ []

pub void_is_row : (n : ℕ) (f : Fact) (s : Site) (rest : List ℕ) → void_text (codes "line ") n f s ++ rest ≡ codes "line"
    ++ spaced_then (void_row n f s) rest
unfolding empty_text
void_is_row n f s rest = simp append_assoc

-- end lines L facts F
abbrev pub end_row : ℕ → ℕ → List (List ℕ)
end_row lines facts = codes "lines" ∷ decimal lines ∷ codes "facts" ∷ decimal facts ∷ []

pub end_is_row : (lines facts : ℕ) (rest : List ℕ) → end_text lines facts ++ rest ≡ codes "end" ++ spaced_then
    (end_row lines facts) rest
unfolding end_text
end_is_row lines facts rest = simp append_assoc

-- numbers, each after a space, are words after spaces
numbers_spaced : (ns : List ℕ) (rest : List ℕ) → flat_map number_text ns ++ (10 ∷ rest) ≡ spaced_then (map decimal ns)
    rest
numbers_spaced [] rest = refl
numbers_spaced (n ∷ ns) rest = append_assoc (number_text n) (flat_map number_text ns) (10 ∷ rest)
    ∙ ap (λ t. number_text n ++ t) (numbers_spaced ns rest)

-- line N FROM DATE TO, what it shows, and facts A B ..
abbrev pub listed_row : ℕ → Echo → List (List ℕ) → List ℕ → List (List ℕ)
listed_row n echo shown facts = decimal n ∷ echo.from ∷ echo.date ∷ echo.to
    ∷ (shown ++ codes "facts" ∷ map decimal facts)

-- facts A B ..
facts_spaced : (ns : List ℕ) (rest : List ℕ) → facts_text ns ++ rest ≡ spaced_then (codes "facts" ∷ map decimal ns) rest
unfolding facts_text
facts_spaced ns rest = simp append_assoc (ap (λ t. codes " facts" ++ t) (numbers_spaced ns rest))

-- a result
pub shown_is_row : (n : ℕ) (echo : Echo) (result facts rest : List ℕ) → listed_text n (words_in echo) result facts
    ++ rest
    ≡ codes "line" ++ spaced_then (listed_row n echo (result ∷ []) facts) rest
unfolding echo_text
shown_is_row n echo result facts rest = simp (append_assoc, facts_spaced)

-- a day that is out of range
pub too_far_is_row : (n : ℕ) (echo : Echo) (day : ℤ) (facts rest : List ℕ)
    → listed_text n (words_in echo) (too_far_text day) facts ++ rest
    ≡ codes "line" ++ spaced_then (listed_row n echo (codes "refused" ∷ codes "4" ∷ signed_decimal day ∷ []) facts) rest
unfolding echo_text too_far_text
too_far_is_row n echo day facts rest = simp (append_assoc, facts_spaced)

-- the day's own date
pub no_date_is_row : (n : ℕ) (echo : Echo) (back facts rest : List ℕ)
    → listed_text n (words_in echo) (no_date_text back) facts ++ rest
    ≡ codes "line" ++ spaced_then (listed_row n echo (codes "refused" ∷ codes "5" ∷ back ∷ []) facts) rest
unfolding echo_text no_date_text
no_date_is_row n echo back facts rest = simp (append_assoc, facts_spaced)
