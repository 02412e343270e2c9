use Rattle.std.proofs.Common.{rules, refl, SFits, w64}
use Rattle.std.proofs.lemmas.Int.{to_z-of_z}
use Rattle.book_model.specs.programs.Programs.{answer, integers}
use Rattle.book_model.proofs.Leads.{leads_cell, leads_undecided_cell, leads_answer, lies}
use Rattle.encl_core.proofs.StepWidths.{floor_close}
use Rattle.encl_core.proofs.steps.floor_step.Goals as goal

pub returns-in-Ok-clause-leads : goal.returns-in-Ok-clause-leads
returns-in-Ok-clause-leads g c = λ w e h.
    let f : SFits w64 c.in-Ok.whole = search rules in
    simp to_z-of_z
    (rw c.in-Ok.ensures.counted (leads_cell c.args.site integers e _ c.in-Ok.whole answer (lies h)
    c.in-Ok.ensures.decided (leads_answer refl)))

pub returns-in-Err-clause-leads : goal.returns-in-Err-clause-leads
returns-in-Err-clause-leads g c = λ w e h.
    rw (← c.in-Err.ensures.named.0) (leads_undecided_cell integers e _ answer _ c.in-Err.at (lies h)
    c.in-Err.ensures.named.1 c.in-Err.ensures.counted
    c.in-Err.ensures.undecided)

pub returns-in-Err-clause-close : goal.returns-in-Err-clause-close
returns-in-Err-clause-close g c = λ v b h. floor_close v _ c.args.site c.in-Err.at c.in-Err.ensures.named.0 b h
    c.in-Err.ensures.undecided
