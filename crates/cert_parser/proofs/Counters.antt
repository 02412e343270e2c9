-- The counters of a list of words, one after another.
use Rattle.std.proofs.Common.{ℕ, List, ◌++◌}
use Rattle.std.specs.Prelude.{Some, None, Option}

-- numbers before those that are read
abbrev pub with_prefix : List ℕ → Option (List ℕ) → Option (List ℕ)
with_prefix prefix None = None
with_prefix prefix (Some ns) = Some (prefix ++ ns)
