-- The phase by longitudes is picked where the one by the time is not more than 180 degrees apart from it: by cases of
-- the answer of the last test, as its result is.
use Rattle.std.specs.Prelude.{ℕ, ℤ, Bool, Result, Ok, Err, IfOk, IsFalse}
use Rattle.book_model.specs.Interval.{Interval}
use Rattle.book_model.specs.declared.fail.Fail.{Fail}
use Rattle.book_model.specs.numbers.Expressions.{Expression, World}
use Rattle.book_model.specs.numbers.Relations.{Within}
use Rattle.book_model.specs.programs.Calls.{Decides1, Decides2, Follows1}
use Rattle.book_model.specs.sky.Phases.{corrected_of, phase_by_months_of, phase_of_choice, rough_number_of}
use Rattle.book_model.specs.sky.Phases.{test_which_phase_of}
use Rattle.book_model.proofs.Leads.{leads_answer, leads_bind_exact, leads_on, leaf_within}
use Rattle.moon_core.specs.PickedLongitudes.{IsPicked, are_apart_of}

pub longitudes_picked : {E : Type 0} (shown : E → Interval) (l t : E) (n : ℤ) (q : E) {b m k a : ℕ}
    → Decides1 shown rough_number_of t b m (Ok n) → Follows1 shown (phase_by_months_of n) t m k (Ok q)
    → (r : Result Bool Fail) → Decides2 shown are_apart_of l q k a r
    → IfOk r (λ so. IsFalse so → (w : World) (x p : Expression) → Within shown w x t → Within shown w p l → (e : E)
    → Within shown w p e → IsPicked shown w x p b a e)
unfolding corrected_of test_which_phase_of are_apart_of phase_of_choice
longitudes_picked shown l t n q h i (Ok so) j = λ f w x p y z e v.
    let g = i w x y in
    leads_bind_exact _ (h w x y)
    (leads_on _ g (leads_bind_exact _ (rw f at (j w p _ z (leaf_within g))) (leads_answer v)))
longitudes_picked shown l t n q h i (Err f) j = tt
