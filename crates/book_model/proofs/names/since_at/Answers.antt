use Rattle.book_model.specs.declared.version.Version.TheVariants.{One}
use Rattle.book_model.proofs.Rows.{at_row}
use Rattle.book_model.proofs.names.since_at.Goals as goal

pub returns : goal.returns
returns g c = at_row c.args.rows.now (λ row. row.2.2) c.args.place _ One c.requires.within
