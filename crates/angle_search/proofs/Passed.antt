-- Tries that are decided make the tests of their formula. A try answers a Result, of which something is said only where
-- it is `Ok`: each lemma goes by its cases, so that what a call says where it answers joins with what the next call
-- says of that answer.
use Rattle.std.specs.Prelude.{ℕ, Bool, Result, Ok, Err, IfOk}
use Rattle.book_model.specs.Interval.{Interval}
use Rattle.book_model.specs.declared.fail.Fail.{Fail}
use Rattle.book_model.specs.numbers.Expressions.{Expression}
use Rattle.book_model.specs.programs.Bisection.{has_passed_of, has_passed_at}
use Rattle.book_model.specs.programs.Calls.{Decides2, Follows1}
use Rattle.book_model.specs.programs.Programs.{Program}
use Rattle.book_model.proofs.Leads.{leads_bind}

-- where a call answers, what it says it says of its answer
pub answer_decides : {A E : Type 0} (shown : E → Interval) (p : Expression → Expression → Program A) (a b : E) (m n : ℕ)
    (r : Result A Fail)
    → Decides2 shown p a b m n r → IfOk r (λ t. Decides2 shown p a b m n (Ok t))
answer_decides shown p a b m n (Ok t) h = h
answer_decides shown p a b m n (Err z) h = tt

-- an angle, and then whether it has passed another
pub passed_decides : {E : Type 0} (shown : E → Interval) (f : Expression → Program Expression) (target x angle : E)
    (b m a : ℕ) (r : Result Bool Fail)
    → Follows1 shown f x b m (Ok angle) → Decides2 shown has_passed_of angle target m a r
    → Decides2 shown (has_passed_at f) target x b a r
unfolding has_passed_at
passed_decides shown f target x angle b m a r h k = λ w y z i j. leads_bind (h w z j) (λ v l. k w v y l i)
