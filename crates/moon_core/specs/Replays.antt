-- Tests that count and aren't made again.
use Rattle.std.specs.Prelude.{ℕ, zero, suc}
use Rattle.book_model.specs.programs.Leading.{next_turn}

-- the count of tests after so many more
unfoldable pub turn_after : ℕ → ℕ → ℕ
turn_after zero b = b
turn_after (suc n) b = turn_after n (next_turn b)
