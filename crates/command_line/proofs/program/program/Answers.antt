use Rattle.std.proofs.Common.{◌≡◌, ◌∙◌, ap₂, codes, true, false}
use Rattle.std.proofs.lemmas.Result.{IfOk-weaker}
use Rattle.clap.specs.Words.{app_of, with_rule}
use Rattle.command_line.specs.Words as spec
use Rattle.command_line.proofs.program.program.Goals as goal

pub returns : goal.returns
returns c =
    let one : app_of c.in_ok-arg.field-0 ≡ with_rule spec.bare (spec.placed (codes "command") true) =
    c.in_ok-arg.ensures.shape c.placed-command.ensures.local ∙
    ap₂ with_rule c.bare.ensures.app c.placed-command.ensures.rule in
    let two : app_of c.in_ok-arg-2.field-0 ≡ with_rule (with_rule spec.bare (spec.placed (codes "command") true))
    (spec.placed (codes "a") false) = c.in_ok-arg-2.ensures.shape c.placed-first.ensures.local ∙ ap₂ with_rule one
    c.placed-first.ensures.rule in
    let three = c.in_ok-arg-3.ensures.shape c.placed-second.ensures.local ∙ ap₂ with_rule two
    c.placed-second.ensures.rule in
    record {
      app = IfOk-weaker c.arg-4.result _ _ (λ p h. h.shape c.jobs.ensures.local ∙ ap₂ with_rule three
          c.jobs.ensures.rule) c.arg-4.ensures;
    }
