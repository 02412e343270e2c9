-- The walk over the months of a sui, back and then forwards.
use Rattle.std.specs.Prelude.{ℕ, zero, suc, if◌then◌else◌, Bool, true, false, ℤ, List, [], ◌∷◌, int_lt}
use Rattle.book_model.specs.calendars.Chinese.{moon_before_fact, bare}
use Rattle.book_model.specs.calendars.Inquiries.{Inquiry, done, ask, and_then}

-- a month, and the months before it as far as the first of its sui, put before the months after it, the earliest first;
-- so many at most
unfoldable pub months_back : ℕ → ℤ → ℤ → List ℤ → Inquiry (List ℤ)
months_back zero first month later = done later
months_back (suc calls) first month later =
    if int_lt month first then done later else (
    ask (moon_before_fact month) λ before.
    months_back calls first before (month ∷ later))

-- whether one of the months has no major term, asked from the first on as far as one without
unfoldable pub one_bare : List ℤ → Inquiry Bool
one_bare [] = done false
one_bare (month ∷ later) =
    and_then (bare month) λ is_bare.
    if is_bare then done true else one_bare later
