use Rattle.std.proofs.Common.{◌∙◌}
use Rattle.std.proofs.lemmas.Result.{IfOk-weaker}
use Rattle.book_model.specs.declared.version.TheConstants.{WRITTEN}
use Rattle.book_model.specs.lines.Requests.{request_of}
use Rattle.conversion.proofs.RowLemmas.{map_twice, made_asked}
use Rattle.conversion.proofs.rows.Rows.asked.Goals as goal

pub returns-in-Lines-clause-rows : goal.returns-in-Lines-clause-rows
returns-in-Lines-clause-rows g c =
    rw c.in-Lines.is (IfOk-weaker c.rows_of.result _ _
    (λ rows h. (rw c.deref.ensures.value at h) ∙ map_twice (λ line. line.now) (request_of WRITTEN)
    c.in-Lines.lines.items)
    c.rows_of.ensures.rows)

pub returns-in-Made-clause-rows : goal.returns-in-Made-clause-rows
returns-in-Made-clause-rows g c =
    rw c.in-Made.is (IfOk-weaker c.checked_rows.result _ _
    (λ rows h. (rw c.deref-in-Made.ensures.value at h) ∙ made_asked c.in-Made.requests.items
    (rw c.in-Made.is at c.requires.spelled))
    c.checked_rows.ensures.rows)
