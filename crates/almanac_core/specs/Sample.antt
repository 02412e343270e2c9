-- The lines of a sample, as requests, by a generator: the multiplier and the increment are those of Knuth's MMIX.
use Rattle.std.specs.Prelude.{ℕ, zero, suc, ◌+◌, ◌*◌, ◌/◌, ◌%◌, ◌^◌, ◌<◌, ◌≤◌, ◌==◌, if◌then◌else◌, List, [], ◌∷◌}
use Rattle.book_model.specs.declared.request.Request.{Request}
use Rattle.book_model.specs.declared.words.FromWord.TheVariants as from
use Rattle.book_model.specs.declared.words.ToWord.{ToWord}
use Rattle.book_model.specs.declared.words.ToWord.TheVariants as to
use Rattle.book_model.specs.lines.Requests.{fields_with}

-- the state after another
unfoldable pub state_after : ℕ → ℕ
state_after state = (state * 6364136223846793005 + 1442695040888963407) % 2 ^ 64

-- the day that a state names: one of the 90,216 from 1 January 1802 to 31 December 2048. They are numbers of a sample's
-- own, which stay when a line may name more days.
unfoldable pub day_by : ℕ → ℕ
day_by state = 657802 + state / 2 ^ 33 % 90216

-- one of these days
abbrev pub IsSampleDay : ℕ → Type 0
IsSampleDay day = (657802 ≤ day) × (day < 657802 + 90216)

-- what the line of an index, from 0, asks of its day
unfoldable pub asked_at : ℕ → ToWord
asked_at index =
    if index % 7 == 0 then to.Dt
    else (if index % 7 == 1 then to.Persian
    else (if index % 7 == 2 then to.Bahai
    else (if index % 7 == 3 then to.Chinese
    else (if index % 7 == 4 then to.Islamic
    else (if index % 7 == 5 then to.HinduSolar
    else to.HinduLunar)))))

-- the line of an index, from 0, by the state that its own step gives
unfoldable pub sample_line_of : (state index : ℕ) → Request
sample_line_of state index = record { from = from.Fixed; date = fields_with (day_by state ∷ []); to = asked_at index }

-- so many lines of a sample, after a state and from an index on
abbrev pub sample_from : (state index many : ℕ) → List Request
sample_from state index zero = []
sample_from state index (suc many) = sample_line_of (state_after state) index ∷ sample_from (state_after state)
    (index + 1) many

-- the lines of a sample, whose generator begins at the seed
abbrev pub sample_requests : (count seed : ℕ) → List Request
sample_requests count seed = sample_from seed 0 count
