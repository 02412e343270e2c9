-- How the facts with their values are held on which a result rests.
use Rattle.std.specs.Prelude.{ℤ, List}
use Rattle.book_model.specs.declared.fact.Fact.{Fact}
use Rattle.jobs_core.specs.declared.line_facts.LineFacts.{LineFacts}
use Rattle.jobs_core.specs.declared.line_facts.LineFacts.TheVariants.{Pairs, Near}

-- the facts with their values, in order of first use
abbrev pub pairs_in : LineFacts → List (Fact × ℤ)
pairs_in (Pairs pairs) = pairs.items
pairs_in (Near facts) = facts
