use Rattle.cert_parser.proofs.Agreeing.{agrees_with_fact}
use Rattle.cert_parser.proofs.reader.Reader.take_fact.Goals as goal

pub returns-clause-agrees : goal.returns-clause-agrees
returns-clause-agrees c = rw (c.in_ok-push.ensures.ok, c.in_ok-push-2.ensures.items)
    (agrees_with_fact _ _ _ _ c.in-Some.fact _ c.requires.agrees c.in_ok-insert.ensures.seen)
