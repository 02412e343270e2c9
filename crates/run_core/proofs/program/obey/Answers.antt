use Rattle.run_core.specs.Commands.{work_of}
use Rattle.run_core.proofs.WorkLemmas.{judging, judged_cut, judged_kept, renewing, renewed_cut, renewed_kept}
use Rattle.run_core.proofs.program.obey.Goals as goal

pub returns-in-Ok-Judge-clause-cut : goal.returns-in-Ok-Judge-clause-cut
returns-in-Ok-Judge-clause-cut g c e =
    let is = judging (work_of c.args.command) c.args.input.now
    (rw c.in-Ok-Judge.field-0-is at c.in-Ok-Judge.ensures.work) in
    judged_cut (work_of c.args.command) c.args.input.now _ _ c.check.result is
    (rw c.status_of_check.ensures.status at e) c.check.ensures.performs.fault

pub returns-in-Ok-Judge-clause-memory : goal.returns-in-Ok-Judge-clause-memory
returns-in-Ok-Judge-clause-memory g c e =
    let is = judging (work_of c.args.command) c.args.input.now
    (rw c.in-Ok-Judge.field-0-is at c.in-Ok-Judge.ensures.work) in
    judged_kept (work_of c.args.command) c.args.input.now _ _ c.check.result is
    (rw c.status_of_check.ensures.status at e) c.check.ensures.performs.memory

pub returns-in-Ok-Renew-clause-cut : goal.returns-in-Ok-Renew-clause-cut
returns-in-Ok-Renew-clause-cut g c e =
    let is = renewing (work_of c.args.command) c.args.input.now
    (rw c.in-Ok-Renew.field-0-is at c.in-Ok-Renew.ensures.work) in
    renewed_cut (work_of c.args.command) c.args.input.now _ _ c.upgrade.result is
    (rw c.status_of_check-in-Ok-Renew.ensures.status at e)
    c.upgrade.ensures.performs.fault

pub returns-in-Ok-Renew-clause-memory : goal.returns-in-Ok-Renew-clause-memory
returns-in-Ok-Renew-clause-memory g c e =
    let is = renewing (work_of c.args.command) c.args.input.now
    (rw c.in-Ok-Renew.field-0-is at c.in-Ok-Renew.ensures.work) in
    renewed_kept (work_of c.args.command) c.args.input.now _ _ c.upgrade.result is
    (rw c.status_of_check-in-Ok-Renew.ensures.status at e)
    c.upgrade.ensures.performs.memory
