use Rattle.std.specs.Prelude.{[]}
use Rattle.std.proofs.Common.{sym, ◌∙◌}
use Rattle.book_model.specs.declared.fact.TheConstants.{KINDS}
use Rattle.book_model.specs.sky.Names.{kind_number}
use Rattle.book_model.proofs.Rows.{at_place}
use Rattle.book_model.proofs.fact.Kind.places.Goals as goal

pub returns : goal.returns
returns c = (rw c.number.ensures.number at c.list_at.ensures)
    ∙ sym (at_place KINDS (λ row. row.2.0.now) (kind_number c.args.self) [])
