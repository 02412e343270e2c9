use Rattle.std.proofs.Common.{◌∙◌}
use Rattle.std.proofs.lemmas.Result.{IfOk-from_err}
use Rattle.command_line.specs.Words.{told, told_jobs}
use Rattle.command_line.proofs.OrderLemmas.{told_on, ordered, commanded, uncommanded}
use Rattle.command_line.proofs.words.order_of.Goals as goal

pub returns-in_err-matches-clause-command : goal.returns-in_err-matches-clause-command
returns-in_err-matches-clause-command c = IfOk-from_err _ _ c.from_residual.ensures.0

pub returns-in_err-matches-clause-jobs : goal.returns-in_err-matches-clause-jobs
returns-in_err-matches-clause-jobs c = IfOk-from_err _ _ c.from_residual.ensures.0

pub returns-in_err-matches-clause-ranges : goal.returns-in_err-matches-clause-ranges
returns-in_err-matches-clause-ranges c = IfOk-from_err _ _ c.from_residual.ensures.0

pub returns-clause-command : goal.returns-clause-command
returns-clause-command c =
    let m = c.in_ok-matches.ensures in
    commanded c.order_of_matches.result c.ok_or.result _ _ c.ok_or.ensures.value c.order_of_matches.ensures.command
    (told_on told _ _ _ m.accepted m.matches)

pub returns-clause-jobs : goal.returns-clause-jobs
returns-clause-jobs c =
    let m = c.in_ok-matches.ensures in
    ordered _ _ c.order_of_matches.result c.ok_or.result c.ok_or.ensures.value
    (λ t h. told_on told_jobs _ _ _ m.accepted m.matches ∙ h) c.order_of_matches.ensures.jobs

pub returns-clause-form : goal.returns-clause-form
returns-clause-form c =
    let m = c.in_ok-matches.ensures in
    uncommanded c.order_of_matches.result c.ok_or.result _ _ c.ok_or.ensures.value c.order_of_matches.ensures.command
    (told_on told _ _ _ m.accepted m.matches)

pub returns-clause-some : goal.returns-clause-some
returns-clause-some c =
    ordered _ _ c.order_of_matches.result c.ok_or.result c.ok_or.ensures.value (λ t h. h.0)
    c.order_of_matches.ensures.range

pub returns-clause-few : goal.returns-clause-few
returns-clause-few c =
    ordered _ _ c.order_of_matches.result c.ok_or.result c.ok_or.ensures.value (λ t h. h.1)
    c.order_of_matches.ensures.range
