use Rattle.book_model.proofs.Roots.{low_is, high_is}
use Rattle.book_model.proofs.laws.roots.Goals as goal

pub returns-clause-low : goal.returns-clause-low
returns-clause-low c = low_is

pub returns-clause-high : goal.returns-clause-high
returns-clause-high c = high_is
