use Rattle.book_model.specs.programs.Widths.{close_void}
use Rattle.std.proofs.Common.{rules, sym, ◌≡◌, true, false, SFits, w64}
use Rattle.std.proofs.lemmas.Int.{to_z-of_z}
use Rattle.book_model.specs.declared.fact.TheConstants.{FIRST_DAY, LAST_DAY}
use Rattle.book_model.specs.sky.Correction.{is_between}
use Rattle.book_model.proofs.Leads.{leads_void}
use Rattle.fact_eval.proofs.Rightness.{program_inside, program_outside}
use Rattle.fact_eval.proofs.staged.evaluate_by.Goals as goal

pub returns-then-not-may_have_value-clause-leads : goal.returns-then-not-may_have_value-clause-leads
returns-then-not-may_have_value-clause-leads g c = λ w d.
    let f : SFits w64 c.day-day.result = search rules in
    let e = simp to_z-of_z at c.if-not-may_have_value.ensures.same in
    let outside : is_between FIRST_DAY LAST_DAY c.args.fact.day ≡ false = sym (rw c.day-day.ensures at e) in
    rw (program_outside c.args.fact outside) leads_void

pub returns-clause-leads : goal.returns-clause-leads
returns-clause-leads g c = λ w d.
    let f : SFits w64 c.day-day.result = search rules in
    let e = simp to_z-of_z at c.if-not-may_have_value.ensures.same in
    let inside : is_between FIRST_DAY LAST_DAY c.args.fact.day ≡ true = sym (rw c.day-day.ensures at e) in
    let leads = simp to_z-of_z at (c.formula.ensures.leads w d) in
    rw (program_inside c.args.fact inside) (rw (c.kind.ensures, c.place.ensures, c.day-day.ensures) at leads)

pub returns-then-not-may_have_value-clause-close : goal.returns-then-not-may_have_value-clause-close
returns-then-not-may_have_value-clause-close g c = λ e. close_void
