-- The lines that end in bytes as they come, and what is kept of one that has begun.
use Rattle.std.specs.Prelude.{ℕ, ◌==◌, nat_lt, if◌then◌else◌, Bool, true, false, List, [], ◌∷◌, ◌++◌, length, map}
pub use Rattle.book_model.specs.lines.Lines.{without_return}
pub use Rattle.answered_lines.specs.declared.begun.TheConstants.{PREFIX}

-- the byte that ends a line
abbrev pub FEED : ℕ
FEED = 10

-- whether there is no byte
abbrev pub is_none : List ℕ → Bool
is_none [] = true
is_none (b ∷ bs) = false

-- the lines that line feeds end in bytes, where a line has begun before them
abbrev pub ended_lines : (begun bytes : List ℕ) → List (List ℕ)
ended_lines begun [] = []
ended_lines begun (b ∷ bs) = if b == FEED then begun ∷ ended_lines [] bs else ended_lines (begun ++ b ∷ []) bs

-- the line that has begun behind the last of them
abbrev pub begun_line : (begun bytes : List ℕ) → List ℕ
begun_line begun [] = begun
begun_line begun (b ∷ bs) = if b == FEED then begun_line [] bs else begun_line (begun ++ b ∷ []) bs

-- a last line that no line feed ends, where there is one
abbrev pub last_line : List ℕ → List (List ℕ)
last_line [] = []
last_line (b ∷ bs) = (b ∷ bs) ∷ []

-- the prefix of a line that is kept, with a byte more, where that may still tell what the line asks
abbrev pub with_byte : List ℕ → ℕ → List ℕ
with_byte kept b = if nat_lt (length kept) PREFIX then kept ++ b ∷ [] else kept

-- what was kept of the lines that line feeds end in bytes, where this is kept of a line that has begun before them
abbrev pub kept_lines : (kept bytes : List ℕ) → List (List ℕ)
kept_lines kept [] = []
kept_lines kept (b ∷ bs) = if b == FEED then kept ∷ kept_lines [] bs else kept_lines (with_byte kept b) bs

-- what is kept of the line that has begun behind the last of them
abbrev pub kept_prefix : (kept bytes : List ℕ) → List ℕ
kept_prefix kept [] = kept
kept_prefix kept (b ∷ bs) = if b == FEED then kept_prefix [] bs else kept_prefix (with_byte kept b) bs

-- lines, each without one carriage return at its end
abbrev pub plain_lines : List (List ℕ) → List (List ℕ)
plain_lines lines = map without_return lines
