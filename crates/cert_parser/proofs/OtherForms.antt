-- A line that lists facts has none of the forms of other lines, whatever its words are.
use Rattle.std.proofs.Common.{◌≡◌, ℕ, Bool, true, false, List, ◌∷◌, ◌⊎◌, inl, inr, refl}
use Rattle.std.specs.Prelude.{codes, Some, None, Option, ◌&&◌, nat_le, if◌then◌else◌, option_and_then}
use Rattle.book_model.specs.declared.version.Version.{Version}
use Rattle.book_model.specs.calendars.Versions.{kind_in, site_in}
use Rattle.book_model.specs.sky.Names.{kind_named, place_named}
use Rattle.cert_text.specs.declared.line.CertLine.TheVariants.{Refused}
use Rattle.cert_parser.specs.declared.form.Form.TheVariants as forms
use Rattle.cert_parser.specs.Digits.{counter_of, integer_of, natural_of}
use Rattle.cert_parser.specs.Grammar.{is_word, refused_form, undecided_form, void_form, key_at, counter_at, site_at}
use Rattle.cert_parser.specs.Grammar.{kind_at, place_at, end_at, fact_at, test_at, last_fact_at}

-- nothing follows a test that fails, or after which nothing comes
after_test : {A B : Type 0} (t : Bool) (x : A) (next : A → Option B) → next x ≡ None
    → option_and_then next (if t then Some x else None) ≡ None
after_test true x next h = h
after_test false x next h = refl

-- no part, or one with these words after it
abbrev IsPart : {A : Type 0} → Option (A × List (List ℕ)) → List (List ℕ) → Type 0
IsPart {A} part rest = (part ≡ None) ⊎ ((x : A) × (part ≡ Some (x, rest)))

part_of : {A : Type 0} (part : Option A) (rest : List (List ℕ))
    → IsPart (option_and_then (λ x. Some (x, rest)) part) rest
part_of None rest = inl refl
part_of (Some x) rest = inr (x, refl)

counter_part : (w : List ℕ) (ws : List (List ℕ)) → IsPart (counter_at (w ∷ ws)) ws
unfolding counter_at
counter_part w ws = part_of (counter_of w) ws

end_part : (w : List ℕ) (ws : List (List ℕ)) → IsPart (end_at (w ∷ ws)) ws
unfolding end_at
end_part w ws = part_of (integer_of w) ws

site_part : (version : Version) (w : List ℕ) (ws : List (List ℕ)) → IsPart (site_at version (w ∷ ws)) ws
unfolding site_at
site_part version w ws = part_of (site_in version w) ws

kind_part : (version : Version) (w : List ℕ) (ws : List (List ℕ)) → IsPart (kind_at version (w ∷ ws)) ws
unfolding kind_at
kind_part version w ws = part_of (kind_in version w) ws

-- nothing follows a part after which nothing comes, whatever the part is
after_part : {A B : Type 0} (part : Option (A × List (List ℕ))) (rest : List (List ℕ)) (next : A × List (List ℕ)
    → Option B) → IsPart part rest
    → ((x : A) → next (x, rest) ≡ None) → option_and_then next part ≡ None
after_part part rest next (inl none) h = rw none refl
after_part part rest next (inr some) h = rw some.1 (h some.0)

-- nothing follows a key after which nothing comes
after_key : {B : Type 0} (text w : List ℕ) (ws : List (List ℕ)) (next : List (List ℕ) → Option B) → next ws ≡ None
    → option_and_then next (key_at text (w ∷ ws))
    ≡ None
unfolding key_at
after_key text w ws next h = after_test (is_word text w) ws next h

-- nothing comes of what is nothing
after_none : {A B : Type 0} (part : Option A) (next : A → Option B) → part ≡ None → option_and_then next part ≡ None
after_none None next h = refl
after_none (Some x) next h = absurd (cc)

-- a test that has a last part which fails
never : {A : Type 0} (s t : Bool) (x : A) → (if s && t && false then Some x else None) ≡ None
never true true x = refl
never true false x = refl
never false t x = refl

-- `refused R` has no third word
pub not_refused : (number : ℕ) (a b c : List ℕ) (ws : List (List ℕ)) → refused_form number (a ∷ b ∷ c ∷ ws) ≡ None
unfolding refused_form counter_at
not_refused number a b c ws = after_key (codes "refused") a (b ∷ c ∷ ws) _
    (after_part (counter_at (b ∷ c ∷ ws)) (c ∷ ws) _ (counter_part b (c ∷ ws))
    (λ r. never (nat_le 1 r) (nat_le r 4) (forms.Line number (Refused r))))

-- no number is `facts` or `refused`, and no place is `facts`
end_not_facts : (ws : List (List ℕ)) → end_at (codes "facts" ∷ ws) ≡ None
unfolding end_at integer_of natural_of
end_not_facts ws = refl

end_not_refused : (ws : List (List ℕ)) → end_at (codes "refused" ∷ ws) ≡ None
unfolding end_at integer_of natural_of
end_not_refused ws = refl

place_not_facts : (version : Version) (ws : List (List ℕ)) → place_at version (codes "facts" ∷ ws) ≡ None
unfolding place_at place_named
place_not_facts version ws = refl

-- HI isn't `facts`
test_not_facts : (version : Version) (b c d : List ℕ) (ws : List (List ℕ))
    → test_at version (b ∷ c ∷ d ∷ codes "facts" ∷ ws) ≡ None
unfolding test_at
test_not_facts version b c d ws = after_part (site_at version (b ∷ c ∷ d ∷ codes "facts" ∷ ws))
    (c ∷ d ∷ codes "facts" ∷ ws) _
    (site_part version b (c ∷ d ∷ codes "facts" ∷ ws))
    (λ s. after_part (counter_at (c ∷ d ∷ codes "facts" ∷ ws)) (d ∷ codes "facts" ∷ ws) _
    (counter_part c (d ∷ codes "facts" ∷ ws))
    (λ t. after_part (end_at (d ∷ codes "facts" ∷ ws)) (codes "facts" ∷ ws) _ (end_part d (codes "facts" ∷ ws))
    (λ lo. after_none (end_at (codes "facts" ∷ ws)) _ (end_not_facts ws))))

pub not_undecided : (version : Version) (number : ℕ) (a b c d : List ℕ) (ws : List (List ℕ))
    → undecided_form version number (a ∷ b ∷ c ∷ d ∷ codes "facts" ∷ ws) ≡ None
unfolding undecided_form
not_undecided version number a b c d ws = after_key (codes "undecided") a (b ∷ c ∷ d ∷ codes "facts" ∷ ws) _
    (after_none (test_at version (b ∷ c ∷ d ∷ codes "facts" ∷ ws)) _ (test_not_facts version b c d ws))

-- LO isn't `refused`
test_not_refused : (version : Version) (b c : List ℕ) (ws : List (List ℕ))
    → test_at version (b ∷ c ∷ codes "refused" ∷ ws) ≡ None
unfolding test_at
test_not_refused version b c ws = after_part (site_at version (b ∷ c ∷ codes "refused" ∷ ws)) (c ∷ codes "refused" ∷ ws)
    _
    (site_part version b (c ∷ codes "refused" ∷ ws))
    (λ s. after_part (counter_at (c ∷ codes "refused" ∷ ws)) (codes "refused" ∷ ws) _
    (counter_part c (codes "refused" ∷ ws))
    (λ t. after_none (end_at (codes "refused" ∷ ws)) _ (end_not_refused ws)))

pub not_undecided_refused : (version : Version) (number : ℕ) (a b c : List ℕ) (ws : List (List ℕ))
    → undecided_form version number (a ∷ b ∷ c ∷ codes "refused" ∷ ws) ≡ None
unfolding undecided_form
not_undecided_refused version number a b c ws = after_key (codes "undecided") a (b ∷ c ∷ codes "refused" ∷ ws) _
    (after_none (test_at version (b ∷ c ∷ codes "refused" ∷ ws)) _ (test_not_refused version b c ws))

-- PLACE isn't `facts`
fact_not_facts : (version : Version) (d : List ℕ) (ws : List (List ℕ)) → fact_at version (d ∷ codes "facts" ∷ ws) ≡ None
unfolding fact_at
fact_not_facts version d ws = after_part (kind_at version (d ∷ codes "facts" ∷ ws)) (codes "facts" ∷ ws) _
    (kind_part version d (codes "facts" ∷ ws))
    (λ k. after_none (place_at version (codes "facts" ∷ ws)) _ (place_not_facts version ws))

last_not_facts : (version : Version) (c d : List ℕ) (ws : List (List ℕ))
    → last_fact_at version (c ∷ d ∷ codes "facts" ∷ ws) ≡ None
unfolding last_fact_at
last_not_facts version c d ws = after_key (codes "fact") c (d ∷ codes "facts" ∷ ws) _
    (after_none (fact_at version (d ∷ codes "facts" ∷ ws)) _ (fact_not_facts version d ws))

pub not_void : (version : Version) (number : ℕ) (a b c d : List ℕ) (ws : List (List ℕ))
    → void_form version number (a ∷ b ∷ c ∷ d ∷ codes "facts" ∷ ws) ≡ None
unfolding void_form site_at
not_void version number a b c d ws = after_key (codes "void") a (b ∷ c ∷ d ∷ codes "facts" ∷ ws) _
    (after_part (site_at version (b ∷ c ∷ d ∷ codes "facts" ∷ ws)) (c ∷ d ∷ codes "facts" ∷ ws) _
    (site_part version b (c ∷ d ∷ codes "facts" ∷ ws))
    (λ s. after_none (last_fact_at version (c ∷ d ∷ codes "facts" ∷ ws)) _ (last_not_facts version c d ws)))

-- KIND isn't `refused`
fact_not_refused : (version : Version) (ws : List (List ℕ)) → fact_at version (codes "refused" ∷ ws) ≡ None
unfolding fact_at kind_at kind_named
fact_not_refused version ws = refl

last_not_refused : (version : Version) (c : List ℕ) (ws : List (List ℕ))
    → last_fact_at version (c ∷ codes "refused" ∷ ws) ≡ None
unfolding last_fact_at
last_not_refused version c ws = after_key (codes "fact") c (codes "refused" ∷ ws) _
    (after_none (fact_at version (codes "refused" ∷ ws)) _ (fact_not_refused version ws))

pub not_void_refused : (version : Version) (number : ℕ) (a b c : List ℕ) (ws : List (List ℕ))
    → void_form version number (a ∷ b ∷ c ∷ codes "refused" ∷ ws) ≡ None
unfolding void_form site_at
not_void_refused version number a b c ws = after_key (codes "void") a (b ∷ c ∷ codes "refused" ∷ ws) _
    (after_part (site_at version (b ∷ c ∷ codes "refused" ∷ ws)) (c ∷ codes "refused" ∷ ws) _
    (site_part version b (c ∷ codes "refused" ∷ ws))
    (λ s. after_none (last_fact_at version (c ∷ codes "refused" ∷ ws)) _ (last_not_refused version c ws)))
