-- What the calls hand over, by what was gathered and by whether the room is large enough for it.
use Rattle.std.proofs.Common.{◌≡◌, inl, inr, ap, ℕ, Bool, true, false, List, []}
use mir.Syntax.{w32}
use mir.Val.{of_z, to_z}
use Rattle.std.specs.Prelude.{Some, ℤ}
use Rattle.answered_lines.specs.Below.{LineOutcome, Answered}
use Rattle.calendrica_c.specs.Handing.{IsAnswer, HandsAnswer, AreVerdicts, IsRefusal, HandsCheck}
use Rattle.calendrica_c.specs.Rooms.{Filled, TooSmall, Hands, HandsNone, HandsAs, handed_of, number_of}
use Rattle.calendrica_c.specs.declared.handed.Handed.{Handed}
use Rattle.calendrica_c.specs.declared.handed.Handed.TheVariants.{Done, Mixed, Memory, TooLarge, BadText, NoRoom}

-- a text that fits
hands : {Holds : List ℕ → Type 0} {old new : List ℕ} {told : ℕ} (text : List ℕ) → Holds text → Filled old new told text
    → Hands Holds old new told
hands text holds filled = record { text = text; holds = holds; filled = filled }

-- and one that doesn't
hands_none : {Holds : List ℕ → Type 0} {old new : List ℕ} {told : ℕ} (text : List ℕ) → Holds text
    → TooSmall old new told text
    → HandsNone Holds old new told
hands_none text holds small = record { text = text; holds = holds; small = small }

-- the text of an answer
pub answer_handed : (text_of : LineOutcome → List ℕ) (line text old new : List ℕ) (told : ℕ) (is : Bool) (h : Handed)
    → Answered text_of (Some []) (Some text) line is → HandsAs (handed_of is) text old new told h
    → HandsAnswer text_of line old new told h
answer_handed text_of line text old new told is h answered (inl fits) = rw fits.0 (by is answered)
  where
    by : (is : Bool) → IsAnswer text_of line is text → HandsAnswer text_of line old new told (handed_of is)
    by true holds = hands text holds fits.1
    by false holds = hands text holds fits.1
answer_handed text_of line text old new told is h answered (inr small) =
    rw small.0 (is, hands_none text answered small.1)

-- the verdicts of a file, all of them yes
pub yes_handed : (input text old new : List ℕ) (told : ℕ) (h : Handed) → AreVerdicts input true text
    → HandsAs Done text old new told h
    → HandsCheck input old new told h
yes_handed input text old new told h verdicts (inl fits) = rw fits.0 (hands text verdicts fits.1)
yes_handed input text old new told h verdicts (inr small) = rw small.0 (hands_none text (inl (true, verdicts)) small.1)

-- or not
pub others_handed : (input text old new : List ℕ) (told : ℕ) (h : Handed) → AreVerdicts input false text
    → HandsAs Mixed text old new told h
    → HandsCheck input old new told h
others_handed input text old new told h verdicts (inl fits) = rw fits.0 (hands text verdicts fits.1)
others_handed input text old new told h verdicts (inr small) =
    rw small.0 (hands_none text (inl (false, verdicts)) small.1)

-- why bytes are none
pub refusal_handed : (input text old new : List ℕ) (told : ℕ) (h : Handed) → IsRefusal input text
    → HandsAs BadText text old new told h
    → HandsCheck input old new told h
refusal_handed input text old new told h refusal (inl fits) = rw fits.0 (hands text refusal fits.1)
refusal_handed input text old new told h refusal (inr small) = rw small.0 (hands_none text (inr refusal) small.1)

-- the number of a status has 32 bits
pub number_told : (h : Handed) (z : ℤ) → z ≡ number_of h → to_z w32 (of_z w32 z) ≡ number_of h
number_told Done z is = ap (λ t. to_z w32 (of_z w32 t)) is
number_told Mixed z is = ap (λ t. to_z w32 (of_z w32 t)) is
number_told Memory z is = ap (λ t. to_z w32 (of_z w32 t)) is
number_told TooLarge z is = ap (λ t. to_z w32 (of_z w32 t)) is
number_told BadText z is = ap (λ t. to_z w32 (of_z w32 t)) is
number_told NoRoom z is = ap (λ t. to_z w32 (of_z w32 t)) is
