use Rattle.std.proofs.Common.{sym}
use Rattle.cert_parser.proofs.TakenWords.{spaced_are_words}
use Rattle.cert_parser.proofs.form.form_of.Goals as goal

pub form_in-requires : goal.form_in-requires
form_in-requires c = spaced_are_words c.args.line.now (sym c.if-is_spaced.ensures)
