-- Calendars whose days are known by facts alone. The definitions have a case for the Gregorian calendar and one for day
-- numbers, and one line for the rest: where a calendar is neither, that line computes, and the last equation of each
-- lemma is checked for each of them by itself.
use Rattle.std.proofs.Common.{◌≡◌, Bool, true, false, refl}
use Rattle.std.specs.Prelude.{◌&&◌, ◌==◌, IsTrue, ℤ, pos, Option, Some, None, MatchOption, IsSome}
use Rattle.book_model.specs.declared.calendar.Calendar.{Calendar}
use Rattle.book_model.specs.declared.calendar.Calendar.TheVariants.{Gregorian, Fixed}
use Rattle.book_model.specs.declared.request.Fields.{Fields}
use Rattle.line_core.specs.Days.{known_day}
use Rattle.book_model.specs.calendars.Dates.{may_have, row_of, are_within, has_day_of_month, has_day_in_reach}

-- nothing is said of their months: the last line is checked for each calendar by itself
pub other_month : (c : Calendar) (f : Fields) → (c ≡ Gregorian → ⊥) → has_day_of_month c f ≡ true
other_month Gregorian f other = absurd (other refl)
other_month _ f other = refl

-- nor of their days
pub other_day : (reach : ℤ × ℤ) (c : Calendar) (f : Fields) → (c ≡ Gregorian → ⊥) → (c ≡ Fixed → ⊥)
    → true ≡ has_day_in_reach reach c f
other_day reach Gregorian f other and_other = absurd (other refl)
other_day reach Fixed f other and_other = absurd (and_other refl)
other_day reach _ f other and_other = refl

-- and none of these is known
pub other_known : (c : Calendar) (f : Fields) → (c ≡ Gregorian → ⊥) → (c ≡ Fixed → ⊥) → pos 0 ≡ known_day c f
other_known Gregorian f other and_other = absurd (other refl)
other_known Fixed f other and_other = absurd (and_other refl)
other_known _ f other and_other = refl

both : (a b : Bool) → IsTrue (a && b) → IsTrue b
both true b h = h
both false b h = cc

-- of a date that a calendar may have the month has the day
pub month_has : (c : Calendar) (f : Fields) → IsTrue (may_have c f) → IsTrue (has_day_of_month c f)
unfolding may_have
month_has c f h = both ((f.count == (row_of c).count) && are_within (row_of c) f) (has_day_of_month c f) h

-- and what is there exactly where the month has it is there
pub month_found : {X : Type 0} (found : Option X) (has : Bool) (P : X → Type 0) → IsTrue has
    → MatchOption found (has ≡ false) P → IsSome found
month_found None has P h m = cc
month_found (Some x) has P h m = refl
