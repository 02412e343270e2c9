use Rattle.std.proofs.Common.{arith, ◌≡◌, refl, ℤ, Option, Some, None, IsSome}
use Rattle.book_model.specs.numbers.Expressions.{remainder}
use Rattle.book_model.specs.programs.Leading.{between_cells}
use Rattle.book_model.specs.programs.Programs.{answer, multiples}
use Rattle.book_model.proofs.Leads.{leads_cell, leads_undecided_cell, leads_answer, lies}
use Rattle.encl_core.proofs.StepWidths.{left_within, wrap_close}
use Rattle.encl_core.proofs.steps.wrap_step.Goals as goal

by_some : (o : Option ℤ) (P : Type 0) → IsSome o → ((q : ℤ) → o ≡ Some q → P) → P
by_some (Some q) P h f = f q refl
by_some None P h f = cc

pub returns-in-Ok-clause-leads : goal.returns-in-Ok-clause-leads
returns-in-Ok-clause-leads g c = λ w e h.
    by_some _ _ c.in-Ok.ensures.decided (λ q k.
    rw c.in-Ok.ensures.counted
    (leads_cell c.args.site (multiples c.args.modulus) e _ q (λ p. answer (remainder c.args.modulus e p)) (lies h) k
    (leads_answer (c.in-Ok.ensures.holds q w e k h))))

pub returns-in-Err-clause-leads : goal.returns-in-Err-clause-leads
returns-in-Err-clause-leads g c = λ w e h.
    rw (← c.in-Err.ensures.named.0)
    (leads_undecided_cell (multiples c.args.modulus) e _ (λ p. answer (remainder c.args.modulus e p)) _ c.in-Err.at
    (lies h) c.in-Err.ensures.named.1
    c.in-Err.ensures.counted (between_cells c.in-Err.ensures.undecided.open_there c.in-Err.ensures.undecided.endpoints))

pub returns-in-Ok-clause-measured : goal.returns-in-Ok-clause-measured
returns-in-Ok-clause-measured g c = λ v e b h. left_within g.E.Enclosure.shown _ c.args.modulus v c.args.x c.in-Ok.rest
    e (omega (arith, c.ranges.modulus)) h
    (λ q r x. c.in-Ok.ensures.narrow q r x)

pub returns-in-Err-clause-measured : goal.returns-in-Err-clause-measured
returns-in-Err-clause-measured g c = λ v e b h. wrap_close c.args.modulus v _ c.args.site c.in-Err.at
    c.in-Err.ensures.named.0 b h c.in-Err.ensures.undecided
