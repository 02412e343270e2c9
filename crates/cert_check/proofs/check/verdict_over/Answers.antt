use Rattle.book_model.specs.lines.LineRules.{rule_of}
use Rattle.cert_check.proofs.Tracing.{IsFresh, asked_within, traced_verdict, missing_verdict}
use Rattle.cert_check.proofs.check.verdict_over.Goals as goal

pub verdict_by_list-requires-clause-within : goal.verdict_by_list-requires-clause-within
verdict_by_list-requires-clause-within c =
    let fresh : IsFresh c.args.facts.now c.args.values.now c.new-oracle.result = record {
      facts_are = c.new-oracle.ensures.facts;
      values_are = c.new-oracle.ensures.values;
      none = c.new-oracle.ensures.asked;
    } in
    rw c.asked.ensures.facts (asked_within c.args.facts.now c.args.values.now
    (rule_of c.args.checked.now.version c.args.checked.now.request) _ _ _ fresh c.in-Ok.ensures.comes)

pub returns-in-Ok : goal.returns-in-Ok
returns-in-Ok c =
    let fresh : IsFresh c.args.facts.now c.args.values.now c.new-oracle.result = record {
      facts_are = c.new-oracle.ensures.facts;
      values_are = c.new-oracle.ensures.values;
      none = c.new-oracle.ensures.asked;
    } in
    record {
      verdict = traced_verdict c.args.facts.now c.args.values.now
          (rule_of c.args.checked.now.version c.args.checked.now.request) _ _ c.in-Ok.found c.args.text.now _ fresh
          c.in-Ok.ensures.comes (rw c.asked.ensures.facts at c.verdict_by_list.ensures.verdict);
    }

pub returns : goal.returns
returns c =
    let fresh : IsFresh c.args.facts.now c.args.values.now c.new-oracle.result = record {
      facts_are = c.new-oracle.ensures.facts;
      values_are = c.new-oracle.ensures.values;
      none = c.new-oracle.ensures.asked;
    } in
    record {
      verdict = missing_verdict c.args.facts.now c.args.values.now
          (rule_of c.args.checked.now.version c.args.checked.now.request) _ _ c.in-Err.stop c.args.text.now _ fresh
          c.in-Err.ensures.comes c.verdict_at.ensures.missing;
    }
