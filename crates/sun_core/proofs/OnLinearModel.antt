-- A number within an interval; what calls that answer say of their programs. What holds a number holds it in a wider
-- interval too, so that a linear model over an interval serves at each moment of it with no law of its own. The
-- greatest periodic terms and the others, taken apart, are all: the two parts of the table joined are the table, by
-- computing, and sums of terms join with them.
use Rattle.std.specs.Prelude.{◌≡◌, ℕ, ◌≤◌, Result, Ok, Err, IfOk, length, slice_range, ◌++◌, refl}
use Rattle.book_model.specs.Interval.{Interval, everything, ◌⊆◌}
use Rattle.book_model.proofs.Intervals.{within_trans, within_everything}
use Rattle.book_model.specs.declared.fail.Fail.{Fail}
use Rattle.book_model.specs.declared.sun_tables.TheConstants.{SUN_TERMS}
use Rattle.book_model.specs.numbers.Depth.{DEPTH}
use Rattle.book_model.specs.numbers.Expressions.{Expression, World, add, value}
use Rattle.book_model.specs.numbers.Polynomials.{periodic_term_of, periodic_terms_of, no_periodic_term}
use Rattle.book_model.specs.numbers.Relations.{Within, Lies}
use Rattle.book_model.specs.programs.Calls.{Decides1, Follows1}
use Rattle.book_model.specs.programs.Programs.{Program}
use Rattle.encl_core.proofs.Parted.{parted}
use Rattle.sun_core.specs.LinearModels.{greatest_sun_terms_of, other_sun_terms_of}
use Rattle.sun_core.specs.Daily.{in_centuries}
use Rattle.sun_core.specs.declared.linear_models.TheConstants.{GREATEST_SUN_TERMS}

-- what holds a number holds it in a wider interval
pub stretched : {E : Type 0} {shown : E → Interval} {w : World} {x : Expression} {a b : E} → shown a ⊆ shown b
    → Within shown w x a → Within shown w x b
unfolding Lies
stretched k h = record { deep = h.deep; inside = within_trans h.inside k }

-- an enclosure of every number holds all
pub anywhere : {E : Type 0} {shown : E → Interval} {w : World} {x : Expression} {e : E} → shown e ≡ everything
    → DEPTH ≤ w.depth → Within shown w x e
unfolding Lies
anywhere {w = w} {x = x} k d = record { deep = d; inside = rw k (within_everything (value w x)) }

pub answer_decided_at : {A E : Type 0} (shown : E → Interval) (p : Expression → Program A) (a : E) (m n : ℕ)
    (r : Result A Fail) → Decides1 shown p a m n r
    → IfOk r (λ t. Decides1 shown p a m n (Ok t))
answer_decided_at shown p a m n (Ok t) h = h
answer_decided_at shown p a m n (Err z) h = tt

pub answer_follows : {E : Type 0} (shown : E → Interval) (p : Expression → Program Expression) (a : E) (m n : ℕ)
    (r : Result E Fail) → Follows1 shown p a m n r
    → IfOk r (λ e. Follows1 shown p a m n (Ok e))
answer_follows shown p a m n (Ok e) h = h
answer_follows shown p a m n (Err z) h = tt

-- the greatest periodic terms and the others are all
sun_terms_parted : slice_range SUN_TERMS 0 GREATEST_SUN_TERMS ++ slice_range SUN_TERMS GREATEST_SUN_TERMS
    (length SUN_TERMS) ≡ SUN_TERMS
sun_terms_parted = refl

pub all_sun_terms : {E : Type 0} {shown : E → Interval} {w : World} {e : E} (x : Expression)
    → Within shown w (add (greatest_sun_terms_of x) (other_sun_terms_of x)) e
    → Within shown w (periodic_terms_of SUN_TERMS (in_centuries x)) e
unfolding greatest_sun_terms_of other_sun_terms_of
all_sun_terms x h = rw sun_terms_parted at (parted (periodic_term_of (in_centuries x)) no_periodic_term
    (slice_range SUN_TERMS 0 GREATEST_SUN_TERMS)
    (slice_range SUN_TERMS GREATEST_SUN_TERMS (length SUN_TERMS)) h)
