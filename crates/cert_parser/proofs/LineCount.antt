-- How many lines bytes have.
use Rattle.std.proofs.Common.{ℕ, suc, ◌≤◌, Bool, true, false, List, [], ◌∷◌, length, arith}
use Rattle.std.proofs.lemmas.List.{length-map}
use Rattle.std.specs.Prelude.{◌==◌, if◌then◌else◌}
use Rattle.book_model.specs.lines.Lines.{raw_lines, onto_first, lines_of, without_return}

onto_first_length : (b : ℕ) (parts : List (List ℕ)) → length (onto_first b parts) ≤ suc (length parts)
onto_first_length b [] = omega arith
onto_first_length b (part ∷ parts) = omega arith

raw_count : (bytes : List ℕ) → length (raw_lines bytes) ≤ length bytes
raw_count [] = omega arith
raw_count (b ∷ bs) = step (b == 10) (raw_count bs)
  where
    step : (t : Bool) → length (raw_lines bs) ≤ length bs
        → length (if t then [] ∷ raw_lines bs else onto_first b (raw_lines bs)) ≤ suc (length bs)
    step true h = omega arith
    step false h = omega (arith, onto_first_length b (raw_lines bs))

-- bytes have at most as many lines as they are
pub line_count : (bytes : List ℕ) → length (lines_of bytes) ≤ length bytes
line_count bytes = omega (arith, raw_count bytes, length-map (raw_lines bytes) without_return)
