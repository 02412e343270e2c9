-- Texts of several parts.
use Rattle.std.specs.Prelude.{ℕ, List, [], ◌∷◌, codes, decimal}
use Rattle.std.specs.List.{concat}

-- a line of two counts, each behind its words
abbrev pub counts_line : List ℕ → ℕ → List ℕ → ℕ → List ℕ
counts_line head first middle second = concat (head ∷ decimal first ∷ middle ∷ decimal second ∷ codes "\n" ∷ [])
