use Rattle.std.specs.Prelude.{[]}
use Rattle.std.proofs.Common.{sym, ◌∙◌}
use Rattle.book_model.specs.declared.fact.TheConstants.{KINDS}
use Rattle.book_model.specs.sky.Names.{kind_number, kind_name}
use Rattle.book_model.proofs.Rows.{at_place}
use Rattle.book_model.proofs.fact.Kind.name.Goals as goal

pub returns : goal.returns
unfolding kind_name
returns c = (rw c.number.ensures.number at c.name_at.ensures)
    ∙ sym (at_place KINDS (λ row. row.1.now) (kind_number c.args.self) [])
