-- The depth from which on what the program answers is what the definitions give.
use Rattle.std.specs.Prelude.{ℕ}

abbrev pub DEPTH : ℕ
DEPTH = 40
