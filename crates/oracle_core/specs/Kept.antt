-- How facts with their values are held.
use Rattle.std.specs.Prelude.{ℤ, List, []}
use Rattle.book_model.specs.declared.fact.Fact.{Fact}
use Rattle.oracle_core.specs.declared.kept.Kept.{Kept}
use Rattle.oracle_core.specs.declared.kept.Kept.TheVariants.{Empty, One, Many}

-- the facts with their values, in order
abbrev pub kept_pairs : Kept → List (Fact × ℤ)
kept_pairs Empty = []
kept_pairs (One pair) = pair
kept_pairs (Many pairs) = pairs.items
