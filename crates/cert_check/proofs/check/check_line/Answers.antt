use Rattle.std.proofs.Common.{◌≡◌, sym}
use Rattle.std.proofs.lemmas.Option.{get_or_from_slice_get}
use Rattle.cert_text.specs.declared.line.CertLine.TheVariants.{Refused}
use Rattle.cert_check.specs.Verdicts.{line_at}
use Rattle.cert_check.proofs.Certified.{yes_answer}
use Rattle.cert_check.proofs.Entries.{as_many_answers}
use Rattle.cert_check.proofs.check.check_line.Goals as goal

pub verdict_of_line-requires-clause-answered : goal.verdict_of_line-requires-clause-answered
verdict_of_line-requires-clause-answered c = as_many_answers c.args.file.now.facts c.args.answers.now c.requires.right

pub returns-clause-yes : goal.returns-clause-yes
returns-clause-yes c =
    let line : c.item.result.now ≡ line_at c.args.file.now c.args.index = sym
    (get_or_from_slice_get c.args.file.now.lines c.args.index c.item.result.now (Refused 0) (sym c.item.ensures.item))
    in
    yes_answer c.args.file.now.version c.args.file.now.facts c.args.answers.now (line_at c.args.file.now c.args.index) _
    c.requires.distinct
    c.requires.numbers c.requires.right
    (rw line at c.verdict_of_line.ensures.verdict)
