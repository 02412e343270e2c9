-- Which line listed a fact last: a mark for each fact, the number of that line, from 1, or 0 where none did.
use Rattle.std.specs.Prelude.{◌≡◌, ℕ, ◌-◌, ◌<◌, ◌≤◌, ◌&&◌, not, nat_le, nat_eq, Bool, List, length, slice_index_or}
use Rattle.std.specs.List.{list_any}

-- each mark is below this number
abbrev pub AreBelow : ℕ → List ℕ → Type 0
AreBelow line marks = (i : ℕ) → i < length marks → slice_index_or marks i 0 < line

-- there is a fact with this number, and the line hasn't listed it yet
abbrev pub is_unlisted : List ℕ → ℕ → ℕ → Bool
is_unlisted marks line number = nat_le 1 number && nat_le number (length marks) && not
    (nat_eq (slice_index_or marks (number - 1) 0) line)

-- the facts that are marked by the line are those with these numbers
abbrev pub MarksAre : List ℕ → ℕ → List ℕ → Type 0
MarksAre marks line numbers = (n : ℕ) → 1 ≤ n → n ≤ length marks → nat_eq (slice_index_or marks (n - 1) 0) line
    ≡ list_any (nat_eq n) numbers
