-- The fields that the parts of a date spell, read one by one. The loop's invariant is an equation: the numbers that
-- were read, written into the five values, followed by those that the rest spells, are what the whole text spells. A
-- further number keeps it, a part that is no number makes both sides nothing, and where no part is left it says the
-- fields. A sixth part is settled by the count of fields that a calendar has.
use Rattle.std.proofs.Common.{◌≡◌, ℕ, suc, ◌+◌, ◌≤◌, false, List, [], ◌∷◌, length, set, ℤ, pos, ap, sym, ◌∙◌, refl}
use Rattle.std.proofs.Common.{arith}
use Rattle.std.specs.Prelude.{◌==◌, Some, None, Option, MatchOption}
use Rattle.std.specs.Borrow.{Bor}
use Rattle.std.proofs.lemmas.Bool.Decides.{nat_tests}
use Rattle.book_model.specs.declared.calendar.Calendar.{Calendar}
use Rattle.book_model.specs.declared.request.Fields.{Fields}
use Rattle.book_model.specs.calendars.Dates.{row_of, may_have}
use Rattle.book_model.specs.lines.Lines.{parts_of, number_of}
use Rattle.book_model.specs.lines.Requests.{fields_of, fields_with, checked, checked_numbers, numbers_of, onto_numbers}
use Rattle.book_model.proofs.WordTables.{few_fields}
use Rattle.line_core.proofs.DateText.{parts_exist}

-- the parts that are left
abbrev pub parts_left : Option (Bor (List ℕ)) → List (List ℕ)
parts_left None = []
parts_left (Some rest) = parts_of rest.now

-- five values, with numbers written from a place on
abbrev pub written : ℕ → List ℤ → List ℕ → List ℤ
written k values [] = values
written k values (n ∷ ns) = written (k + 1) (set values k (pos n)) ns

-- the fields, where these numbers follow
abbrev pub followed : ℕ → List ℤ → Option (List ℕ) → Option Fields
followed k values None = None
followed k values (Some ns) = Some (record { count = k + length ns; values = written k values ns })

-- no number yet
abbrev pub no_values : List ℤ
no_values = pos 0 ∷ pos 0 ∷ pos 0 ∷ pos 0 ∷ pos 0 ∷ []

-- one more number is read
pub reads : (k n : ℕ) (values : List ℤ) (o : Option (List ℕ)) → followed k values (onto_numbers (Some n) o) ≡ followed
    (k + 1) (set values k (pos n)) o
reads k n values None = refl
reads k n values (Some ns) = let one : k + suc (length ns) ≡ k + 1 + length ns = omega arith in rw one refl

-- nothing follows
nothing : (k : ℕ) (values : List ℤ) (o : Option (List ℕ)) → None ≡ followed k values o → o ≡ None
nothing k values None h = refl
nothing k values (Some ns) h = cc

-- no date is spelled by what isn't a number
none_spelled : (parts : List (List ℕ)) (c : Calendar) → numbers_of parts ≡ None
    → checked_numbers c (numbers_of parts) ≡ None
none_spelled parts c h = rw h refl

-- nor by what fails after these parts
pub fails : (k : ℕ) (values : List ℤ) (date part : List ℕ) (rest : Option (Bor (List ℕ))) (c : Calendar)
    → None ≡ number_of part
    → followed k values (numbers_of (part ∷ parts_left rest)) ≡ followed 0 no_values (numbers_of (parts_of date))
    → fields_of c date ≡ None
unfolding fields_of
fails k values date part rest c bad spells =
    let no_more : None ≡ followed 0 no_values (numbers_of (parts_of date)) = rw (← bad) at spells in
    none_spelled (parts_of date) c (nothing 0 no_values _ no_more)

-- five numbers at most are the fields
few_written : (ns : List ℕ) → length ns ≤ 5 → record { count = length ns; values = written 0 no_values ns }
    ≡ fields_with ns
few_written [] h = refl
few_written (a ∷ []) h = refl
few_written (a ∷ b ∷ []) h = refl
few_written (a ∷ b ∷ d ∷ []) h = refl
few_written (a ∷ b ∷ d ∷ e ∷ []) h = refl
few_written (a ∷ b ∷ d ∷ e ∷ f ∷ []) h = refl
few_written (a ∷ b ∷ d ∷ e ∷ f ∷ g ∷ ns) h = absurd (omega arith)

-- the fields that are there
abbrev pub fields_in : Option Fields → Fields
fields_in None = record { count = 0; values = [] }
fields_in (Some f) = f

-- the same numbers
same_fields : (k : ℕ) (values : List ℤ) (ns : List ℕ) → k ≤ 5 → followed k values (Some []) ≡ followed 0 no_values
    (Some ns) → fields_with ns
    ≡ record { count = k; values = values }
same_fields k values ns few h =
    let start : 0 + length ns ≡ length ns = omega arith in
    let end : k + 0 ≡ k = omega arith in
    let same = rw (start, end) at h in
    let size : k ≡ length ns = ap (λ o. (fields_in o).count) same in
    sym (few_written ns (omega arith)) ∙ sym (ap fields_in same)

-- where nothing is left, the fields are spelled
pub spelled : (k : ℕ) (values : List ℤ) (date : List ℕ) (c : Calendar) → k ≤ 5
    → followed k values (Some []) ≡ followed 0 no_values (numbers_of (parts_of date))
    → fields_of c date ≡ checked c (record { count = k; values = values })
unfolding fields_of
spelled k values date c few spells = by_numbers (numbers_of (parts_of date)) spells
  where
    by_numbers : (o : Option (List ℕ)) → followed k values (Some []) ≡ followed 0 no_values o → checked_numbers c o
        ≡ checked c (record { count = k; values = values })
    by_numbers None h = cc
    by_numbers (Some ns) h = ap (checked c) (same_fields k values ns few h)

-- a calendar has no date with so many fields
unchecked : (c : Calendar) (ns : List ℕ) → 6 ≤ length ns → checked c (fields_with ns) ≡ None
unfolding may_have
unchecked c ns many =
    let few = few_fields c in
    let other : (length ns == (row_of c).count) ≡ false = grind (arith, nat_tests) in
    rw other refl

-- a sixth part spells no date
pub sixth : (values : List ℤ) (date word : List ℕ) (c : Calendar) → followed 5 values (numbers_of (parts_of word))
    ≡ followed 0 no_values (numbers_of (parts_of date)) → fields_of c date ≡ None
unfolding fields_of
sixth values date word c spells = by_parts (parts_of word) (parts_exist word) spells
  where
    by_date : (o : Option (List ℕ)) (n : ℕ) (ns : List ℕ) → followed 5 values (Some (n ∷ ns)) ≡ followed 0 no_values o
        → checked_numbers c o ≡ None
    by_date None n ns h = cc
    by_date (Some ms) n ns h =
        let size : 5 + length (n ∷ ns) ≡ 0 + length ms = ap (λ o. (fields_in o).count) h in
        unchecked c ms (omega arith)

    by_numbers : (o p : Option (List ℕ)) (n : ℕ) → followed 5 values (onto_numbers (Some n) p) ≡ followed 0 no_values o
        → checked_numbers c o ≡ None
    by_numbers o None n h = rw (nothing 0 no_values o h) refl
    by_numbers o (Some ns) n h = by_date o n ns h

    by_first : (o p : Option (List ℕ)) (first : Option ℕ) → followed 5 values (onto_numbers first p) ≡ followed 0
        no_values o → checked_numbers c o ≡ None
    by_first o p None h = rw (nothing 0 no_values o h) refl
    by_first o p (Some n) h = by_numbers o p n h

    by_parts : (parts : List (List ℕ)) → 1 ≤ length parts → followed 5 values (numbers_of parts) ≡ followed 0 no_values
        (numbers_of (parts_of date))
        → checked_numbers c (numbers_of (parts_of date)) ≡ None
    by_parts [] h k = absurd (omega arith)
    by_parts (p ∷ ps) h k = by_first (numbers_of (parts_of date)) (numbers_of ps) (number_of p) k

-- the first part, and those that are left
pub cut_parts : (word part : List ℕ) (rest : Option (Bor (List ℕ))) → MatchOption rest (parts_of word ≡ part ∷ [])
    (λ r. parts_of word ≡ part ∷ parts_of r.now)
    → parts_of word ≡ part ∷ parts_left rest
cut_parts word part None h = h
cut_parts word part (Some rest) h = h
