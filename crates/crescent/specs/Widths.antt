-- How wide what the criterion of the crescent is taken of is at the scale 2^-56, at a moment that is at most 9/8 of
-- 2^-32 days wide.
use Rattle.std.specs.Prelude.{◌*◌, ◌^◌}
use Rattle.book_model.specs.Interval.{Interval}
use Rattle.book_model.specs.programs.Widths.{IsAbout, IsMoment, IsDated}

-- the moment of an evening
abbrev pub IsEvening : Interval → Type 0
IsEvening i = IsMoment (9 * 2 ^ 29) i

-- the same, in the years of which ΔT is known
abbrev pub IsDatedEvening : Interval → Type 0
IsDatedEvening i = IsDated 0 (9 * 2 ^ 29) i

-- a sidereal time at Greenwich, not reduced: at most 2^-23 degrees wide
abbrev pub IsSiderealTime : Interval → Type 0
IsSiderealTime i = IsAbout (2 ^ 61) (2 ^ 41) i

-- the cosine of an arc of light: at most 2^-31 wide
abbrev pub IsArcCosine : Interval → Type 0
IsArcCosine i = IsAbout (2 ^ 33) (2 ^ 33) i
