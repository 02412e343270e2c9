-- What the facts and lists of a file of the grammar are like.
use Rattle.std.proofs.Common.{◌≡◌, ℕ, zero, suc, ◌+◌, ◌<◌, ◌≤◌, Bool, true, false, refl, List, [], ◌∷◌, ◌++◌, length}
use Rattle.std.proofs.Common.{map, ℤ, ◌≤ℤ◌, ap, arith, length-append}
use Rattle.std.proofs.lemmas.Int.{ints}
use Rattle.std.proofs.lemmas.Bool.Decides.{nat_tests}
use Rattle.std.specs.Prelude.{Some, None, Option, IsTrue, ◌&&◌, not, nat_eq, nat_le, int_le, slice_index_or}
use Rattle.std.specs.Prelude.{if◌then◌else◌}
use Rattle.std.specs.List.{list_any}
use Rattle.book_model.specs.declared.fact.Fact.{Fact}
use Rattle.book_model.specs.declared.version.Version.{Version}
use Rattle.book_model.specs.calendars.Versions.{version_named}
use Rattle.book_model.specs.sky.Correction.{is_between}
use Rattle.book_model.specs.calendars.Inquiries.{fact_eq}
use Rattle.book_model.specs.lines.Lines.{lines_of, words_of}
use Rattle.book_model.specs.sky.Facts.{IsFactValue}
use Rattle.oracle_core.specs.Pairs.{facts_of, are_distinct}
use Rattle.oracle_core.proofs.Keeping.{facts_of_push}
use Rattle.oracle_core.proofs.Listing.{distinct_more}
use Rattle.cert_parser.specs.declared.form.Form.{Form}
use Rattle.cert_parser.specs.declared.form.Form.TheVariants as forms
use Rattle.book_model.specs.declared.fact.TheConstants.{LEAST_VALUE, GREATEST_VALUE}
use Rattle.cert_text.specs.declared.line.CertLine.{CertLine}
use Rattle.cert_text.specs.declared.line.CertLine.TheVariants as line
use Rattle.cert_text.specs.Echo.{Echo}
use Rattle.cert_parser.specs.declared.found.Found.{Found}
use Rattle.cert_parser.specs.declared.found.Found.TheVariants as found
use Rattle.cert_parser.specs.declared.lines.CertFile.{CertFile}
use Rattle.cert_parser.specs.Digits.{between, integer_of}
use Rattle.cert_parser.specs.Grammar.{◌>>=◌, or_else, is_over, is_spaced, key_at, counter_at, number_at, value_at}
use Rattle.cert_parser.specs.Grammar.{fact_at, last_fact_at, test_at, site_at, echo_at, found_at, counters_of}
use Rattle.cert_parser.specs.Grammar.{line_with, fact_form, end_form, refused_form, undecided_form, void_form}
use Rattle.cert_parser.specs.Grammar.{listed_form, body_form, line_form, form_in, form_of}
use Rattle.cert_parser.specs.Reading.{file, listed, HasRule, are_of_facts, is_new, is_numbered, is_placed, is_fresh}
use Rattle.cert_parser.specs.Reading.{lists_facts, counts_well, first_broken, broken_by, with_form, is_end, after_rule}
use Rattle.cert_parser.specs.Reading.{after_form, reading_from, nothing_of, below_header, reading_of, grammar_of}

-- the value of a form is one of a fact, where it has one, and so is the rule of a line one of rules 1 to 4
abbrev HasKnownValue : Form → Type 0
HasKnownValue (forms.Fact n f v) = IsFactValue v
HasKnownValue (forms.Line n l) = HasRule l
HasKnownValue (forms.Undecided n f u) = Unit {0}
HasKnownValue (forms.Void n f s) = Unit {0}
HasKnownValue (forms.End l f) = Unit {0}

-- and so it is of a form that may be
record IsKnownForm (o : Option Form) : Type 0 where
  known : (form : Form) → o ≡ Some form → HasKnownValue form

no_form : IsKnownForm None
no_form = record { known = λ form e. cc }

known_form : (form : Form) → HasKnownValue form → IsKnownForm (Some form)
known_form form h = record { known = λ other e. let same : form ≡ other = cc in rw (← same) h }

known_after : {A : Type 0} (o : Option A) (next : A → Option Form) → ((x : A) → o ≡ Some x → IsKnownForm (next x))
    → IsKnownForm (o >>= next)
known_after None next h = no_form
known_after (Some x) next h = h x refl

known_either : (o p : Option Form) → IsKnownForm o → IsKnownForm p → IsKnownForm (or_else o p)
known_either None p h k = k
known_either (Some form) p h k = h

known_if : (t : Bool) (o p : Option Form) → IsKnownForm o → IsKnownForm p → IsKnownForm (if t then o else p)
known_if true o p h k = h
known_if false o p h k = k

known_where : (t : Bool) (form : Form) → (t ≡ true → HasKnownValue form) → IsKnownForm (if t then Some form else None)
known_where true form h = known_form form (h refl)
known_where false form h = no_form

both_hold : (a b : Bool) → (a && b) ≡ true → (a ≡ true) × (b ≡ true)
both_hold true true h = (refl, refl)
both_hold true false h = cc
both_hold false b h = cc

between_them : (low high z : ℤ) → is_between low high z ≡ true → (low ≤ℤ z) × (z ≤ℤ high)
between_them low high z h =
    let e = both_hold (int_le low z) (int_le z high) h in
    (omega (arith, ints, e.0), omega (arith, ints, e.1))

-- a number that is read lies between its bounds
number_between : (low high : ℤ) (ws : List (List ℕ)) (v : ℤ × List (List ℕ)) → number_at low high ws ≡ Some v
    → (low ≤ℤ v.0) × (v.0 ≤ℤ high)
unfolding number_at
number_between low high [] v h = cc
number_between low high (w ∷ ws) v h = on_integer (integer_of w) h
  where
    on_test : (z : ℤ) (t : Bool) → is_between low high z ≡ t → ((if t then Some z else None) >>= λ y. Some (y, ws))
        ≡ Some v → (low ≤ℤ v.0) × (v.0 ≤ℤ high)
    on_test z true e k = let same : z ≡ v.0 = cc in rw same at (between_them low high z e)
    on_test z false e k = cc

    on_integer : (o : Option ℤ) → (between low high o >>= λ y. Some (y, ws)) ≡ Some v → (low ≤ℤ v.0) × (v.0 ≤ℤ high)
    on_integer None k = cc
    on_integer (Some z) k = on_test z (is_between low high z) refl k

fact_known : (version : Version) (ws : List (List ℕ)) → IsKnownForm (fact_form version ws)
unfolding fact_form
fact_known version ws =
    known_after (counter_at ws) _
    (λ n e. known_after (fact_at version n.1) _ (λ f e. known_after (value_at f.1) _ (λ v e.
    known_if (is_over v.1) _ None
    (known_form (forms.Fact n.0 f.0 v.0) (number_between LEAST_VALUE GREATEST_VALUE f.1 v e)) no_form)))

end_known : (ws : List (List ℕ)) → IsKnownForm (end_form ws)
unfolding end_form
end_known ws =
    known_after (key_at _ ws) _
    (λ k e. known_after (counter_at k) _
    (λ l e. known_after (key_at _ l.1) _ (λ k e. known_after (counter_at k) _ (λ f e.
    known_if (is_over f.1) _ None (known_form (forms.End l.0 f.0) tt) no_form))))

rule_between : (rule : ℕ) (end : Bool) → (nat_le 1 rule && nat_le rule 4 && end) ≡ true → (1 ≤ rule) × (rule ≤ 4)
rule_between rule end h =
    let e = both_hold (nat_le 1 rule && nat_le rule 4) end h in
    let f = both_hold (nat_le 1 rule) (nat_le rule 4) e.0 in
    let low : 1 ≤ rule = grind (arith, nat_tests) in
    let high : rule ≤ 4 = grind (arith, nat_tests) in
    (low, high)

refused_known : (number : ℕ) (ws : List (List ℕ)) → IsKnownForm (refused_form number ws)
unfolding refused_form
refused_known number ws =
    known_after (key_at _ ws) _ (λ k e. known_after (counter_at k) _
    (λ r e. known_where (nat_le 1 r.0 && nat_le r.0 4 && is_over r.1) (forms.Line number (line.Refused r.0))
    (rule_between r.0 (is_over r.1))))

undecided_known : (version : Version) (number : ℕ) (ws : List (List ℕ)) → IsKnownForm (undecided_form version number ws)
unfolding undecided_form
undecided_known version number ws = known_after (key_at _ ws) _ (λ k e.
    known_after (test_at version k) _ (λ u e. known_after (last_fact_at version u.1) _
    (λ f e. known_form (forms.Undecided number f u.0) tt)))

void_known : (version : Version) (number : ℕ) (ws : List (List ℕ)) → IsKnownForm (void_form version number ws)
unfolding void_form
void_known version number ws = known_after (key_at _ ws) _ (λ k e. known_after (site_at version k) _
    (λ s e. known_after (last_fact_at version s.1) _ (λ f e. known_form (forms.Void number f s.0) tt)))

shown_ruled : (echo : Echo) (f : Found) (ns : List ℕ) → HasRule (line_with echo f ns)
shown_ruled echo (found.Shown result) ns = tt
shown_ruled echo (found.TooFar day) ns = tt
shown_ruled echo (found.NoDate back) ns = tt

listed_known_form : (number : ℕ) (ws : List (List ℕ)) → IsKnownForm (listed_form number ws)
unfolding listed_form
listed_known_form number ws = known_after (echo_at ws) _ (λ echo e.
    known_after (found_at echo.1) _ (λ f e. known_after (counters_of f.1) _
    (λ ns e. known_form (forms.Line number (line_with echo.0 f.0 ns)) (shown_ruled echo.0 f.0 ns))))

body_known : (version : Version) (number : ℕ) (ws : List (List ℕ)) → IsKnownForm (body_form version number ws)
unfolding body_form
body_known version number ws =
    known_either (refused_form number ws) _ (refused_known number ws)
    (known_either (undecided_form version number ws) _ (undecided_known version number ws)
    (known_either (void_form version number ws) _ (void_known version number ws) (listed_known_form number ws)))

line_known : (version : Version) (ws : List (List ℕ)) → IsKnownForm (line_form version ws)
unfolding line_form
line_known version ws = known_after (counter_at ws) _ (λ n e. body_known version n.0 n.1)

known_in : (version : Version) (ws : List (List ℕ)) → IsKnownForm (form_in version ws)
known_in version [] = no_form
known_in version (w ∷ ws) = known_if _ (fact_form version ws) _ (fact_known version ws)
    (known_if _ (line_form version ws) _ (line_known version ws) (known_if _ (end_form ws) None (end_known ws) no_form))

-- the value of a line that is read is one of a fact
known_of : (version : Version) (bytes : List ℕ) → IsKnownForm (form_of version bytes)
unfolding form_of
known_of version bytes = known_if (is_spaced bytes) (form_in version (words_of bytes)) None
    (known_in version (words_of bytes)) no_form

-- each line lists distinct numbers of facts
abbrev pub ListFacts : ℕ → List CertLine → Type 0
ListFacts count [] = Unit {0}
ListFacts count (l ∷ ls) = (are_of_facts count [] (listed l) ≡ true) × ListFacts count ls

-- each value is one of a fact
abbrev pub HaveKnownValues : List (Fact × ℤ) → Type 0
HaveKnownValues [] = Unit {0}
HaveKnownValues (e ∷ es) = IsFactValue e.1 × HaveKnownValues es

-- each line that is refused without its words names a rule
abbrev pub HaveRules : List CertLine → Type 0
HaveRules [] = Unit {0}
HaveRules (l ∷ ls) = HasRule l × HaveRules ls

-- The facts are distinct, each with a value of a fact, the numbers that a line lists are distinct and numbers of the
-- facts, and a line that is refused without its words names a rule.
pub record IsReadWell (f : CertFile) : Type 0 where
  pub distinct : IsTrue (are_distinct (facts_of f.facts))
  pub known : HaveKnownValues f.facts
  pub lines : ListFacts (length f.facts) f.lines
  pub ruled : HaveRules f.lines

-- four tests that hold
pub four_hold : (a b c d : Bool) → ((a && b && not c) && d) ≡ true → (a ≡ true) × (b ≡ true) × (c ≡ false) × (d ≡ true)
four_hold true true false true h = (refl, refl, refl, refl)
four_hold true true false false h = cc
four_hold true true true d h = cc
four_hold true false c d h = cc
four_hold false b c d h = cc

-- numbers of facts are so of more facts
of_more_facts : (count more : ℕ) (seen ns : List ℕ) → count ≤ more → are_of_facts count seen ns ≡ true
    → are_of_facts more seen ns ≡ true
of_more_facts count more seen [] h k = refl
of_more_facts count more seen (n ∷ ns) h k =
    let e = four_hold (nat_le 1 n) (nat_le n count) (list_any (nat_eq n) seen) (are_of_facts count (seen ++ n ∷ []) ns)
    k in
    let rest : are_of_facts more (seen ++ n ∷ []) ns ≡ true = of_more_facts count more (seen ++ n ∷ []) ns h e.3 in
    rw (e.0, wider n e.1, e.2, rest) refl
  where
    wider : (m : ℕ) → nat_le m count ≡ true → nat_le m more ≡ true
    wider m t = grind (arith, nat_tests)

lines_of_more : (count more : ℕ) (ls : List CertLine) → count ≤ more → ListFacts count ls → ListFacts more ls
lines_of_more count more [] h all = tt
lines_of_more count more (l ∷ ls) h all = (
  of_more_facts count more [] (listed l) h all.0,
  lines_of_more count more
      ls h all.1,
)

one_line_more : (count : ℕ) (ls : List CertLine) (l : CertLine) → ListFacts count ls
    → are_of_facts count [] (listed l) ≡ true → ListFacts count (ls ++ l ∷ [])
one_line_more count [] l all here = (here, tt)
one_line_more count (k ∷ ls) l all here = (all.0, one_line_more count ls l all.1 here)

one_rule_more : (ls : List CertLine) (l : CertLine) → HaveRules ls → HasRule l → HaveRules (ls ++ l ∷ [])
one_rule_more [] l all here = (here, tt)
one_rule_more (k ∷ ls) l all here = (all.0, one_rule_more ls l all.1 here)

one_value_more : (es : List (Fact × ℤ)) (f : Fact) (v : ℤ) → HaveKnownValues es → IsFactValue v
    → HaveKnownValues (es ++ (f, v) ∷ [])
one_value_more [] f v all here = (here, tt)
one_value_more (e ∷ es) f v all here = (all.0, one_value_more es f v all.1 here)

same_facts : (es : List (Fact × ℤ)) → map (λ e. e.0) es ≡ facts_of es
same_facts [] = refl
same_facts (e ∷ es) = ap (λ fs. e.0 ∷ fs) (same_facts es)

isnt : (t : Bool) → not t ≡ true → t ≡ false
isnt true h = cc
isnt false h = refl

fact_more : (before : CertFile) (f : Fact) (v : ℤ) → IsReadWell before → is_new before.facts (Some f) ≡ true
    → IsFactValue v
    → IsReadWell (record before { facts = before.facts ++ (f, v) ∷ [] })
fact_more before f v well new known =
    let fresh : list_any (fact_eq f) (facts_of before.facts) ≡ false = rw (same_facts before.facts) at
    (isnt (list_any (fact_eq f) (map (λ e. e.0) before.facts)) new) in
    let longer : length before.facts ≤ length (before.facts ++ (f, v) ∷ []) =
    omega (arith, length-append before.facts ((f, v) ∷ [])) in
    record {
      distinct = rw (facts_of_push before.facts f v) (distinct_more (facts_of before.facts) f well.distinct fresh);
      known = one_value_more before.facts f v well.known known;
      lines = lines_of_more (length before.facts) (length (before.facts ++ (f, v) ∷ [])) before.lines longer well.lines;
      ruled = well.ruled;
    }

line_more : (before : CertFile) (l : CertLine) → IsReadWell before → are_of_facts (length before.facts) [] (listed l)
    ≡ true → HasRule l
    → IsReadWell (record before { lines = before.lines ++ l ∷ [] })
line_more before l well here rule = record {
  distinct = well.distinct;
  known = well.known;
  lines = one_line_more (length before.facts) before.lines l well.lines here;
  ruled = one_rule_more before.lines l well.ruled rule;
}

-- where no rule is broken, the third and the fourth of the five that are tried hold
two_hold : (a b c d e : Bool) → first_broken ((3, a) ∷ (7, b) ∷ (4, c) ∷ (5, d) ∷ (6, e) ∷ []) ≡ None → (c ≡ true)
    × (d ≡ true)
two_hold true true true true e h = (refl, refl)
two_hold true true true false e h = cc
two_hold true true false d e h = cc
two_hold true false c d e h = cc
two_hold false b c d e h = cc

-- the facts are new and the lists right
record HoldsRules (before : CertFile) (form : Form) : Type 0 where
  fresh : is_fresh before form ≡ true
  lists : lists_facts before form ≡ true

rules_hold : (before : CertFile) (ended : Bool) (form : Form) → broken_by before ended form ≡ None
    → HoldsRules before form
unfolding broken_by
rules_hold before ended form h =
    let two = two_hold (is_numbered before form) (is_placed form) (is_fresh before form) (lists_facts before form)
    (not ended && counts_well before form) h in
    record { fresh = two.0; lists = two.1 }

form_more : (before : CertFile) (form : Form) → IsReadWell before → HoldsRules before form → HasKnownValue form
    → IsReadWell (with_form before form)
unfolding with_form
form_more before (forms.Fact n None v) well rules known = well
form_more before (forms.Fact n (Some f) v) well rules known = fact_more before f v well rules.fresh known
form_more before (forms.Line n l) well rules known = line_more before l well rules.lists known
form_more before (forms.Undecided n None u) well rules known = well
form_more before (forms.Undecided n (Some f) u) well rules known = line_more before (line.Undecided f u) well refl tt
form_more before (forms.Void n None s) well rules known = well
form_more before (forms.Void n (Some f) s) well rules known = line_more before (line.Void f s) well refl tt
form_more before (forms.End l f) well rules known = well

read_well : (number : ℕ) (before : CertFile) (ended : Bool) (lines : List (List ℕ)) (f : CertFile) → IsReadWell before
    → reading_from number before ended lines
    ≡ file f → IsReadWell f
read_well number before true [] f well h = let same : before ≡ f = cc in rw same at well
read_well number before false [] f well h = cc
read_well number before ended (bytes ∷ lines) f well h =
    on_form (form_of before.version bytes) (known_of before.version bytes)
    (λ now end. read_well (number + 1) now end lines f) h
  where
    on_rule : (form : Form) (o : Option ℕ) → broken_by before ended form ≡ o → HasKnownValue form
        → ((now : CertFile) (end : Bool) → IsReadWell now → reading_from (number + 1) now end lines ≡ file f
        → IsReadWell f)
        → after_rule number before form o (λ now end. reading_from (number + 1) now end lines) ≡ file f → IsReadWell f
    on_rule form None e known rest k = rest (with_form before form) (is_end form)
        (form_more before form well (rules_hold before ended form e) known) k
    on_rule form (Some rule) e known rest k = cc

    on_form : (o : Option Form) → IsKnownForm o → ((now : CertFile) (end : Bool) → IsReadWell now
        → reading_from (number + 1) now end lines ≡ file f
        → IsReadWell f)
        → after_form number before ended o (λ now end. reading_from (number + 1) now end lines) ≡ file f → IsReadWell f
    on_form None known rest k = cc
    on_form (Some form) known rest k = on_rule form (broken_by before ended form) refl (known.known form refl) rest k

nothing_read : (version : Version) → IsReadWell (nothing_of version)
nothing_read version = record { distinct = refl; known = tt; lines = tt; ruled = tt }

read_lines_well : (lines : List (List ℕ)) (f : CertFile) → reading_of lines ≡ file f → IsReadWell f
read_lines_well [] f h = cc
read_lines_well (header ∷ lines) f h = on_header (version_named header) h
  where
    on_header : (o : Option Version) → below_header o lines ≡ file f → IsReadWell f
    on_header None k = cc
    on_header (Some version) k = read_well 2 (nothing_of version) false lines f (nothing_read version) k

-- each line of those lists distinct numbers of facts
pub numbers_at : (count : ℕ) (ls : List CertLine) (index : ℕ) → ListFacts count ls
    → are_of_facts count [] (listed (slice_index_or ls index (line.Refused 0)))
    ≡ true
numbers_at count [] index all = refl
numbers_at count (l ∷ ls) zero all = all.0
numbers_at count (l ∷ ls) (suc index) all = numbers_at count ls index all.1

-- each line of those has its rule
pub rule_at : (ls : List CertLine) (index : ℕ) → HaveRules ls → index < length ls
    → HasRule (slice_index_or ls index (line.Refused 0))
rule_at [] index all h = absurd (omega arith)
rule_at (l ∷ ls) zero all h = all.0
rule_at (l ∷ ls) (suc index) all h = rule_at ls index all.1 (omega arith)

-- a file of the grammar was read well
pub grammar_well : (bytes : List ℕ) (f : CertFile) → grammar_of bytes ≡ file f → IsReadWell f
unfolding grammar_of
grammar_well bytes f h = read_lines_well (lines_of bytes) f h
