-- How wide the altitude of the moon and what it is taken of are at the scale 2^-56, at a moment that is at most 9/8 of
-- 2^-32 days wide.
use Rattle.std.specs.Prelude.{◌+◌, ◌*◌, ◌^◌, pos}
use Rattle.book_model.specs.Interval.{Interval}
use Rattle.book_model.specs.programs.Widths.{IsWithin, IsAbout, IsUpTo}

-- a phase or a longitude of the moon: at most 2^-26 degrees wide
abbrev pub IsMoonAngle : Interval → Type 0
IsMoonAngle i = IsUpTo 360 (2 ^ 38) i

-- a latitude of the moon: at most 2^-27 degrees wide
abbrev pub IsMoonLatitude : Interval → Type 0
IsMoonLatitude i = IsAbout (7 * 2 ^ 32) (2 ^ 37) i

-- an obliquity of the ecliptic: at most 2^-51 degrees wide
abbrev pub IsTilt : Interval → Type 0
IsTilt i = IsWithin (pos (23 * 2 ^ 32)) (pos (24 * 2 ^ 32)) (2 ^ 13) i

-- a sidereal time at a longitude, not reduced: hardly more than 2^-23 degrees wide at most
abbrev pub IsLocalSiderealTime : Interval → Type 0
IsLocalSiderealTime i = IsAbout (2 ^ 62) (2 ^ 41 + 2 ^ 8) i

-- the latitude of the ground
abbrev pub IsGround : Interval → Type 0
IsGround i = IsWithin (pos 0) (pos (36 * 2 ^ 32)) (2 ^ 8) i

-- the sine of an altitude: at most 2^-27 wide
abbrev pub IsAltitudeSine : Interval → Type 0
IsAltitudeSine i = IsAbout (2 ^ 34) (2 ^ 37) i
