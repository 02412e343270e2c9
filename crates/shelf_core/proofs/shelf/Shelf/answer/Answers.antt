use Rattle.std.proofs.Common.{◌≡◌, sym, ◌∙◌}
use Rattle.oracle_core.proofs.FactLemmas.{same_fact_eq, one_fact}
use Rattle.shelf_core.proofs.shelf.Shelf.answer.Goals as goal

-- the entry's fact is the fact asked
pub returns-then-eq : goal.returns-then-eq
returns-then-eq g c =
    let equal = sym (same_fact_eq c.fact.result c.args.fact) ∙ sym c.eq.ensures ∙ c.if-eq.true in
    let same : c.in-Some-get.entry.0 ≡ c.args.fact = sym c.fact.ensures.fact ∙ one_fact c.fact.result c.args.fact equal
    in
    record { right = rw same at c.answer.ensures.right }
