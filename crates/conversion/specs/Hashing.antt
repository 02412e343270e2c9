-- The hash of a fact by its row and its day.
use Rattle.std.specs.Prelude.{ℕ, ◌+◌, ◌-◌, ◌*◌, ◌/◌, ◌%◌, ◌^◌, List, get_or, bit_and, bit_or, count_ones}
use Rattle.conversion.specs.declared.hashing.TheConstants.{ABOVE_GROUPS}

-- the number of the first three bytes, the lowest first
unfoldable pub low_number : List ℕ → ℕ
low_number bytes = get_or bytes 0 0 + 256 * get_or bytes 1 0 + 65536 * get_or bytes 2 0

-- the number of the row of a kind and a place
unfoldable pub row_number : (kind place : ℕ) → ℕ
row_number kind place = kind % 32 * 4 + (place % 16 + place % 16 / 5) % 4

-- how many of the rows that are used, a bit for each, have a lesser number
unfoldable pub rank_of : (rows row : ℕ) → ℕ
rank_of rows row = count_ones (bit_and rows (2 ^ row - 1))

-- the hash of a day of a row: the day's group among those of the row, and its place among the days of that group
unfoldable pub day_hash : (rank bits day : ℕ) → ℕ
day_hash rank bits day = bit_or (bit_or (rank * 2 ^ bits % 2 ^ 64) (day % 2 ^ bits))
    ((day / 2 ^ bits % 16 + 1) * ABOVE_GROUPS)
