use Rattle.std.proofs.Common.{refl}
use Rattle.book_model.specs.programs.Programs.{answer}
use Rattle.book_model.proofs.Leads.{leads_compare, leads_undecided_compare, leads_answer, lies}
use Rattle.encl_core.proofs.StepWidths.{less_close}
use Rattle.encl_core.proofs.steps.less_step.Goals as goal

pub returns-in-Ok-clause-leads : goal.returns-in-Ok-clause-leads
returns-in-Ok-clause-leads g c = λ w e f h k.
    rw c.in-Ok.ensures.counted (leads_compare c.args.site e f _ _ c.in-Ok.is_less answer (lies h) (lies k)
    c.in-Ok.ensures.decided (leads_answer refl))

pub returns-in-Err-clause-leads : goal.returns-in-Err-clause-leads
returns-in-Err-clause-leads g c = λ w e f h k.
    rw (← c.in-Err.ensures.named.0) (leads_undecided_compare e f _ _ answer _ c.in-Err.at (lies h) (lies k)
    c.in-Err.ensures.named.1 c.in-Err.ensures.counted
    c.in-Err.ensures.undecided)

pub returns-in-Err-clause-close : goal.returns-in-Err-clause-close
returns-in-Err-clause-close g c = λ v w b h k. less_close v w _ _ c.args.site c.in-Err.at c.in-Err.ensures.named.0 b h k
    c.in-Err.ensures.undecided
