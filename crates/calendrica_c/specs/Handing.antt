-- What the calls hand over.
use Rattle.std.specs.Prelude.{◌≡◌, ℕ, ◌<◌, ◌⊎◌, Bool, true, false, List, [], Some, ℤ, length}
use Rattle.answered_lines.specs.Below.{LineOutcome, Answered, ChecksText, RefusesText, LONGEST_FILE, grammar_of}
use Rattle.calendrica_c.specs.Rooms.{number_of, Hands, HandsNone, Keeps}
use Rattle.calendrica_c.specs.declared.handed.Handed.{Handed}
use Rattle.calendrica_c.specs.declared.handed.Handed.TheVariants.{Done, Mixed, Memory, TooLarge, BadText, NoRoom}

-- a text of an outcome that is right for the line, with a result or not
abbrev pub IsAnswer : (LineOutcome → List ℕ) → List ℕ → Bool → List ℕ → Type 0
IsAnswer text_of line is text = Answered text_of (Some []) (Some text) line is

-- how a call ends that answers a line by such a text
abbrev pub HandsAnswer : (LineOutcome → List ℕ) → (line old new : List ℕ) (told : ℕ) → Handed → Type 0
HandsAnswer text_of line old new told Done = Hands (IsAnswer text_of line true) old new told
HandsAnswer text_of line old new told Mixed = Hands (IsAnswer text_of line false) old new told
HandsAnswer text_of line old new told Memory = Keeps old new told
HandsAnswer text_of line old new told TooLarge = ⊥
HandsAnswer text_of line old new told BadText = ⊥
HandsAnswer text_of line old new told NoRoom = (is : Bool) × HandsNone (IsAnswer text_of line is) old new told

-- the verdicts of the lines of a certificate, all of them yes or not
abbrev pub AreVerdicts : List ℕ → Bool → List ℕ → Type 0
AreVerdicts input all text = ChecksText (Some []) (Some text) input all

-- why the bytes are no certificate
abbrev pub IsRefusal : List ℕ → List ℕ → Type 0
IsRefusal input text = RefusesText (grammar_of input) (Some []) (Some text)

-- what is written where bytes are checked
abbrev pub IsCheck : List ℕ → List ℕ → Type 0
IsCheck input text = ((all : Bool) × AreVerdicts input all text) ⊎ IsRefusal input text

-- how a call ends that checks bytes
abbrev pub HandsCheck : (input old new : List ℕ) (told : ℕ) → Handed → Type 0
HandsCheck input old new told Done = Hands (AreVerdicts input true) old new told
HandsCheck input old new told Mixed = Hands (AreVerdicts input false) old new told
HandsCheck input old new told Memory = Keeps old new told
HandsCheck input old new told TooLarge = Keeps old new told × (LONGEST_FILE < length input)
HandsCheck input old new told BadText = Hands (IsRefusal input) old new told
HandsCheck input old new told NoRoom = HandsNone (IsCheck input) old new told

-- a call ends with the number of a status, and as that says
abbrev pub Endpoints : (Handed → Type 0) → ℤ → Type 0
Endpoints Handing number = (handed : Handed) × (number ≡ number_of handed) × Handing handed
