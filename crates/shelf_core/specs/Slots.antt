-- The slots of a shelf: one for each row of facts and each day of which a fact may have a value, in blocks, and the
-- blocks in bays.
use Rattle.std.specs.Prelude.{ℕ, ◌+◌, ◌*◌, ◌/◌, ◌%◌, ℤ, pos, negsuc, ◌-ℤ◌}
use Rattle.book_model.specs.declared.fact.Fact.{Fact}
use Rattle.book_model.specs.declared.fact.TheConstants.{FIRST_DAY, LAST_DAY}
use Rattle.shelf_core.specs.Rows.{fact_rows, row_of}

-- a whole number that isn't negative, as such
abbrev pub natural : ℤ → ℕ
natural (pos n) = n
natural (negsuc n) = 0

-- how many days a shelf has
abbrev pub shelf_days : ℕ
shelf_days = natural (LAST_DAY -ℤ FIRST_DAY) + 1

-- how many slots it has
unfoldable pub slot_count : ℕ
slot_count = fact_rows * shelf_days

-- the number of a fact's slot, from 0: row by row, day by day
unfoldable pub slot_of : Fact → ℕ
slot_of f = row_of f.kind f.place * shelf_days + natural (f.day -ℤ FIRST_DAY)

-- how many slots a block has, and how many blocks a bay
abbrev pub BLOCK : ℕ
BLOCK = 256

-- how many slots a bay has
abbrev pub BAY : ℕ
BAY = 65536

-- how many bays there are
unfoldable pub bay_count : ℕ
bay_count = slot_count / BAY + 1

-- the places of a fact's bay, of its block in the bay and of its slot in the block
abbrev pub bay_of : Fact → ℕ
bay_of f = slot_of f / BAY

abbrev pub block_of : Fact → ℕ
block_of f = slot_of f / BLOCK % BLOCK

abbrev pub place_of : Fact → ℕ
place_of f = slot_of f % BLOCK
