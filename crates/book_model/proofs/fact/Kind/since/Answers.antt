use Rattle.std.proofs.Common.{sym, ◌∙◌}
use Rattle.book_model.specs.declared.fact.TheConstants.{KINDS}
use Rattle.book_model.specs.declared.version.Version.TheVariants.{One}
use Rattle.book_model.specs.sky.Names.{kind_number, kind_since}
use Rattle.book_model.proofs.Rows.{at_place}
use Rattle.book_model.proofs.fact.Kind.since.Goals as goal

pub returns : goal.returns
unfolding kind_since
returns c = (rw c.number.ensures.number at c.since_at.ensures)
    ∙ sym (at_place KINDS (λ row. row.2.2) (kind_number c.args.self) One)
