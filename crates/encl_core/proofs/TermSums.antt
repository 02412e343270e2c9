-- The sum of the terms of a table, row by row: the definition's recursion as three equations, which a loop over the
-- rows takes as a ruleset.
use Rattle.std.proofs.Common.{◌≡◌, ℕ, ◌+◌, pos, refl, add-one, List, length, slice_index_or}
use Rattle.book_model.specs.numbers.Expressions.{Expression, integer, add}
use Rattle.book_model.specs.numbers.Terms.{terms_to, terms_of}

pub terms_none : {R : Type 0} (term : R → Expression) (none : R) (rows : List R)
    → terms_to term none rows 0 ≡ integer (pos 0)
unfolding terms_to
terms_none term none rows = refl

pub terms_more : {R : Type 0} (term : R → Expression) (none : R) (rows : List R) (i : ℕ)
    → terms_to term none rows (i + 1)
    ≡ add (terms_to term none rows i) (term (slice_index_or rows i none))
unfolding terms_to
terms_more term none rows i = rw add-one refl

pub terms_all : {R : Type 0} (term : R → Expression) (none : R) (rows : List R) (i : ℕ) → i ≡ length rows
    → terms_of term none rows ≡ terms_to term none rows i
unfolding terms_of
terms_all term none rows i e = rw e refl

pub ruleset sums = (terms_none, terms_more, terms_all)
