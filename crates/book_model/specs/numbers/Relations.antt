-- What an enclosure says of an expression: it holds its value, and it keeps its bound. The two are opaque to
-- callers, so that formulas are proved from the clauses of the operations alone.
use Rattle.std.specs.Prelude.{◌≤◌}
use Rattle.exact_math.specs.Interval.{Interval, ◌⊆◌}
use Rattle.book_model.specs.numbers.Expressions.{Expression, World, value}
use Rattle.book_model.specs.numbers.Bounds.{Limits, Reach, bound_of, IsNarrow}
use Rattle.book_model.specs.numbers.Depth.{DEPTH}

-- the value of an expression lies within an interval
unfoldable pub Lies : World → Expression → Interval → Type 0
Lies w x i = value w x ⊆ i

-- an enclosure, which shows an interval, holds the value of an expression in a world that is deep enough
pub record Within {E : Type 0} (shown : E → Interval) (w : World) (x : Expression) (e : E) : Type 0 where
  pub deep : DEPTH ≤ w.depth
  pub inside : Lies w x (shown e)

-- an interval keeps the bound of an expression
unfoldable pub Keeps : Limits → Reach → Expression → Interval → Type 0
Keeps l r x i = IsNarrow r.width (bound_of l r.bounds x) i

-- an enclosure keeps the bound of an expression
pub record Narrow {E : Type 0} (shown : E → Interval) (l : Limits) (r : Reach) (x : Expression) (e : E) : Type 0 where
  pub kept : Keeps l r x (shown e)
