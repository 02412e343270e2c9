use Rattle.std.specs.Prelude.{[]}
use Rattle.book_model.proofs.Rows.{at_row}
use Rattle.book_model.proofs.names.list_at.Goals as goal

pub returns : goal.returns
returns g c = at_row c.args.rows.now (λ row. row.2.0.now) c.args.place _ [] c.requires.within
