use Rattle.std.proofs.Common.{rules, arith}
use Rattle.std.proofs.lemmas.Grind.{common_steps}
use Rattle.cert_check.proofs.Entries.{right_on}
use Rattle.cert_check.proofs.answers.answers_for.Goals as goal

pub loop-fact-init : goal.loop-fact-init
loop-fact-init g c = search rules

pub offset_bounds-facts-fact-index : goal.offset_bounds-facts-fact-index
offset_bounds-facts-fact-index g c = omega arith

pub loop-fact-preserved : goal.loop-fact-preserved
loop-fact-preserved g c = right_on c.args.facts.now _ _ c.loop-fact.fact-index _ _ c.loop-fact-test.true
    c.loop-fact.invariant c.eval.ensures
    c.in_ok-push.ensures.ok

pub returns-in_err-push : goal.returns-in_err-push
returns-in_err-push g c = search rules

pub same-answers : goal.same-answers
same-answers g c = search rules

pub returns : goal.returns
returns g c = record { right = grind (arith, common_steps) }
