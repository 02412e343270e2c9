-- How a text is handed over in room that the caller gives.
use Rattle.std.specs.Prelude.{◌≡◌, ℕ, ◌<◌, ◌≤◌, ◌⊎◌, Bool, true, false, List, ◌++◌, length, drop, ℤ, pos}
use Rattle.calendrica_c.specs.declared.handed.Handed.{Handed}
use Rattle.calendrica_c.specs.declared.handed.Handed.TheVariants.{Done, Mixed, Memory, TooLarge, BadText, NoRoom}

-- the number of a status: that of a run that ends so, or 9
abbrev pub number_of : Handed → ℤ
number_of Done = pos 0
number_of Mixed = pos 1
number_of Memory = pos 5
number_of TooLarge = pos 6
number_of BadText = pos 7
number_of NoRoom = pos 9

-- how a call ends whose text is of a result, or of none
abbrev pub handed_of : Bool → Handed
handed_of true = Done
handed_of false = Mixed

-- the text stands at the beginning of the room, what is behind it is as it was, and its length is told
pub record Filled (old new : List ℕ) (told : ℕ) (text : List ℕ) : Type 0 where
  pub told_is : told ≡ length text
  pub fits : length text ≤ length old
  pub is : new ≡ text ++ drop (length text) old

-- the room is too small for the text and as it was, and the length that is needed is told
pub record TooSmall (old new : List ℕ) (told : ℕ) (text : List ℕ) : Type 0 where
  pub told_is : told ≡ length text
  pub small : length old < length text
  pub is : new ≡ old

-- a text of which this holds is handed over
pub record Hands (Holds : List ℕ → Type 0) (old new : List ℕ) (told : ℕ) : Type 0 where
  pub text : List ℕ
  pub holds : Holds text
  pub filled : Filled old new told text

-- a text of which this holds isn't handed over, for want of room
pub record HandsNone (Holds : List ℕ → Type 0) (old new : List ℕ) (told : ℕ) : Type 0 where
  pub text : List ℕ
  pub holds : Holds text
  pub small : TooSmall old new told text

-- a call ends so, and its text is handed over, or the room is too small for it
abbrev pub HandsAs : Handed → (text old new : List ℕ) (told : ℕ) → Handed → Type 0
HandsAs ending text old new told handed = ((handed ≡ ending) × Filled old new told text)
    ⊎ ((handed ≡ NoRoom) × TooSmall old new told text)

-- nothing is handed over
pub record Keeps (old new : List ℕ) (told : ℕ) : Type 0 where
  pub told_is : told ≡ 0
  pub is : new ≡ old
