-- Calls that are to fail.
use Rattle.std.specs.Prelude.{◌==◌, ℕ, Bool, List}
use Rattle.std.specs.List.{list_any}

-- whether the number of a call is listed
abbrev pub is_listed : List ℕ → ℕ → Bool
is_listed calls call = list_any (λ n. n == call) calls
