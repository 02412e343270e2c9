-- Spans and enclosures within each other: the order of whole numbers in units of 2^-56 is that of the endpoints, and
-- what lies within what a test shows to lie within a third is passed on by transitivity.
use Rattle.std.specs.Prelude.{◌≡◌, ◌≤ℤ◌, Bool, IsTrue}
use Rattle.std.proofs.Common.{arith}
use Rattle.std.proofs.lemmas.Int.{ints}
use Rattle.book_model.specs.Interval.{Interval, everything, ◌⊆◌}
use Rattle.book_model.proofs.Intervals.{within_trans, within_everything}
use Rattle.encl_core.specs.declared.span.Span.{Span}
use Rattle.encl_core.specs.Kept.{shown_span}

pub span_within : (s t : Span) → t.lo ≤ℤ s.lo → s.hi ≤ℤ t.hi → shown_span s ⊆ shown_span t
span_within s t l u =
    record { endpoints = (record { cross = omega (arith, ints, l) }, record { cross = omega (arith, ints, u) }) }

pub then_within : (s t : Span) (j : Interval) (b : Bool) → (IsTrue b → shown_span s ⊆ shown_span t) → shown_span t ⊆ j
    → IsTrue b → shown_span s ⊆ j
then_within s t j b h k e = within_trans (h e) k

pub first_within : (s : Span) (i j : Interval) (b : Bool) → i ⊆ shown_span s → (IsTrue b → shown_span s ⊆ j) → IsTrue b
    → i ⊆ j
first_within s i j b h k e = within_trans h (k e)

pub within_all : (i j : Interval) → j ≡ everything → i ⊆ j
within_all i j e = rw e (within_everything i)
