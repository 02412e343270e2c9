-- The run of each moment of an interval is that of any other with another count, since a run that answers makes the
-- same tests wherever its count begins.
use Rattle.std.specs.Prelude.{◌≡◌, ℕ, ◌-◌, ◌<◌, ◌≤◌, ◌^◌, Bool, Option, Some, None, Ok, IfSome}
use Rattle.std.proofs.Common.{arith}
use Rattle.book_model.specs.programs.Calls.{Decides}
use Rattle.book_model.specs.programs.Programs.{Program}
use Rattle.moon_core.specs.Replays.{turn_after}
use Rattle.moon_core.proofs.Replays.{leads_anew}
use Rattle.moon_rise.specs.SteadyIntervals.{HasOneAnswer}
use Rattle.moon_rise.specs.declared.steady_intervals.SteadyInterval.{SteadyInterval}

-- one evaluation over the moments of an interval, whose count began at 0
pub one_answer : (holds : ℕ → Program Bool) (s : SteadyInterval) → s.tests < 2 ^ 32 - 1
    → ((i : ℕ) → s.from ≤ i → i ≤ s.to → Decides (holds i) 0 s.tests (Ok s.so)) → HasOneAnswer holds s
one_answer holds s k h =
    let z : s.tests - 0 ≡ s.tests = omega arith in
    record { leads = λ i l u b w deep. rw z at (leads_anew k (h i l u w deep) b) }

-- a moment of an interval, by the count that is found
pub answered_again : (holds : ℕ → Program Bool) (s : SteadyInterval) (i b a : ℕ) (so : Bool) → HasOneAnswer holds s
    → s.from ≤ i → i ≤ s.to
    → a ≡ turn_after s.tests b → so ≡ s.so → Decides (holds i) b a (Ok so)
answered_again holds s i b a so h l u e f = λ w deep. rw (e, f) (h.leads i l u b w deep)

-- the same of an interval that is told by its parts
pub told_answer : (holds : ℕ → Program Bool) (o : Option SteadyInterval) (from to n : ℕ) (so : Bool) (b a : ℕ)
    → IfSome o (λ s. (s.from ≡ from) × (s.to ≡ to) × (s.so ≡ so) × (s.tests ≡ n)) → IfSome o (λ s. n < 2 ^ 32 - 1)
    → b ≡ 0 → n ≡ a
    → ((i : ℕ) → from ≤ i → i ≤ to → Decides (holds i) b a (Ok so)) → IfSome o (HasOneAnswer holds)
told_answer holds None from to n so b a t k e f h = tt
told_answer holds (Some s) from to n so b a t k e f h =
    one_answer holds s (rw t.3 k) (λ i l u w deep.
    let m = rw (e, ← f) at (h i (rw t.0 at l) (rw t.1 at u) w deep) in
    rw (t.2, t.3) m)
