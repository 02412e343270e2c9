use Rattle.line_core.proofs.DateText.{parts_at, parts_alone}
use Rattle.line_core.proofs.fields.cut_part.Goals as goal

pub returns-in-Some : goal.returns-in-Some
returns-in-Some c = record { cut = parts_at c.args.word.now _ c.in-Some.ensures.place }

pub returns-in-None : goal.returns-in-None
returns-in-None c = record { cut = parts_alone c.args.word.now c.in-None.ensures.place }
