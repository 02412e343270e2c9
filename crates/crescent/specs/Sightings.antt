-- What runs share of evenings, as words of 64 bits: whether the crescent is seen at a place on the evening with which
-- a day begins, and by how many tests that is decided. A word has the answer in its lowest bit, the number of tests in
-- the next 8, the number of the place in the next 4, and the day, above -2^31, in the next 32.
use Rattle.std.specs.Prelude.{◌≡◌, ℕ, ◌/◌, ◌%◌, ◌^◌, ℤ, pos, ◌-ℤ◌, ◌⊎◌, Bool, ◌==◌, Some, Ok}
use Rattle.book_model.specs.declared.fact.Place.{Place}
use Rattle.book_model.specs.declared.horizon.Location.{Location}
use Rattle.book_model.specs.programs.Calls.{Decides}
use Rattle.book_model.specs.sky.Crescent.{visible_of}
use Rattle.book_model.specs.sky.Names.{place_number, location_of}
use Rattle.moon_core.specs.Replays.{turn_after}

-- wherever its run begins, the criterion has this answer on the evening of a day at a location, by so many tests
pub record IsSighting (location : Location) (day : ℤ) (tests : ℕ) (is_seen : Bool) : Type 0 where
  pub leads : (b : ℕ) → Decides (visible_of location day) b (turn_after tests b) (Ok is_seen)

-- the same at a place that has a location
abbrev pub IsSightingAt : (place : Place) (day : ℤ) (tests : ℕ) (is_seen : Bool) → Type 0
IsSightingAt place day tests is_seen = (l : Location) → location_of place ≡ Some l → IsSighting l day tests is_seen

-- ---- what a word says
abbrev pub seen_of : ℕ → Bool
seen_of w = w % 2 == 1

abbrev pub tests_of : ℕ → ℕ
tests_of w = w / 2 % 2 ^ 8

abbrev pub number_of : ℕ → ℕ
number_of w = w / 2 ^ 9 % 2 ^ 4

abbrev pub day_of : ℕ → ℤ
day_of w = pos (w / 2 ^ 13 % 2 ^ 32) -ℤ pos (2 ^ 31)

-- a word is 0, or it is so at its place
unfoldable pub IsSightingWord : ℕ → Type 0
IsSightingWord w = (w ≡ 0) ⊎ ((p : Place) → place_number p ≡ number_of w
    → IsSightingAt p (day_of w) (tests_of w) (seen_of w))
