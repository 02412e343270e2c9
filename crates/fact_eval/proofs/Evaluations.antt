-- What a call that evaluates a fact's formula, beginning with no test counted, says of the fact. The call leads as the
-- formula's run at each depth (`Leads`), so a value and a void are read off it. An undecided test is the run's test of
-- that number: the run has fewer than 100,000 tests, so the number was not cut to 32 bits, and its sides are near by
-- Nearness.
use Rattle.std.specs.Prelude.{◌≡◌, ℕ, ◌+◌, ◌-◌, ◌^◌, ◌≤◌, min, ℤ, Ok, Err}
use Rattle.std.proofs.Common.{arith, subst}
use Rattle.book_model.specs.declared.site.Site.{Site}
use Rattle.book_model.specs.declared.fact.Fact.{Fact}
use Rattle.book_model.specs.declared.fail.Undecided.{Undecided}
use Rattle.book_model.specs.declared.fail.Fail.TheVariants.{Undecided as undecided_at, Void}
use Rattle.book_model.specs.numbers.Expressions.{World}
use Rattle.book_model.specs.sky.Facts.{program_of, at_depth, run_of, IsTrueWith, IsVoidAt, AreClose, MakesNearTest}
use Rattle.book_model.specs.programs.Leading.{Exact, Leads}
use Rattle.book_model.specs.programs.Programs.{Program, run, AtMost, MakesTest}
use Rattle.book_model.proofs.Leads.{leads_value, leads_void_at, leads_stop_at, few_tests}
use Rattle.fact_eval.proofs.Nearness.{near_open, sides_proper, site_allows}

pub true_of_leads : (f : Fact) (v : ℤ) (p : Program ℤ) (a : ℕ) → program_of f ≡ p
    → ((w : World) → 40 ≤ w.depth → Leads w Exact p 0 a (Ok v)) → IsTrueWith f v
unfolding run_of
true_of_leads f v p a e h = record { at_each_depth = λ n d. rw e (leads_value (h (at_depth n) d)) }

pub void_of_leads : (f : Fact) (s : Site) (p : Program ℤ) (a : ℕ) → program_of f ≡ p
    → ((w : World) → 40 ≤ w.depth → Leads w (Exact {A = ℤ}) p 0 a (Err (Void s))) → IsVoidAt f s
unfolding run_of
void_of_leads f s p a e h = record { at_each_depth = λ n d. rw e (leads_void_at (h (at_depth n) d)) }

-- the number of a test of a short run is the count at it
turn_is : (number turn : ℕ) → turn ≡ min (0 + number) (2 ^ 32 - 1) → number ≤ 99999 → number ≡ turn
turn_is number turn e h = omega arith

near_run : (w : World) (p : Program ℤ) (a : ℕ) (u : Undecided) → AtMost 99999 p → AreClose u
    → Leads w (Exact {A = ℤ}) p 0 a (Err (undecided_at u))
    → MakesNearTest (run w p) u
near_run w p a u m c h =
    let s = leads_stop_at h in
    let k = turn_is s.number u.turn s.turn (few_tests w 99999 s.number u.site s.sides m s.makes) in
    record {
      sides = s.sides;
      makes = subst (λ t. MakesTest (run w p) t u.site s.sides) k s.makes;
      near = near_open u.lo u.hi s.sides (site_allows u.site, c) (sides_proper w p s.number u.site s.sides s.makes)
          s.open_there;
    }

pub near_of_leads : (f : Fact) (u : Undecided) (p : Program ℤ) (a : ℕ) → program_of f ≡ p → AtMost 99999 p → AreClose u
    → ((w : World) → 40 ≤ w.depth → Leads w (Exact {A = ℤ}) p 0 a (Err (undecided_at u)))
    → (n : ℕ) → 40 ≤ n → MakesNearTest (run_of n f) u
unfolding run_of
near_of_leads f u p a e m c h n d = rw e (near_run (at_depth n) p a u m c (h (at_depth n) d))
