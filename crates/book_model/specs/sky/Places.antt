-- What is promised of each place: of its location, if it has one, and of its zone, as tests that its row passes.
use Rattle.std.specs.Prelude.{◌*◌, ◌^◌, ℕ, Bool, ◌&&◌, pos, neg_ℤ, List}
use Rattle.std.specs.List.{list_all}
use Rattle.exact_math.specs.Fraction.{whole, is_at_most}
use Rattle.book_model.specs.declared.frac.Frac.{Frac}
use Rattle.book_model.specs.declared.horizon.Location.{Location}
use Rattle.book_model.specs.declared.zone.ZoneStep.{ZoneStep}
use Rattle.book_model.specs.numbers.Bounds.{Bound, unbounded, bounded, bound_of, implies, limits_at}
use Rattle.book_model.specs.numbers.Expressions.{Expression, constant, integer}
use Rattle.book_model.specs.numbers.Fractions.{fraction_of}
use Rattle.book_model.specs.sky.Horizon.{refraction_of}
use Rattle.book_model.specs.sky.Noon.{ahead_of}

-- an expression without arguments keeps a bound at the scale 2^-56
abbrev pub keeps : Bound → Expression → Bool
keeps b x = implies (bound_of (limits_at 56) (λ k. unbounded) x) b

-- a fraction lies from 0 to a whole number
abbrev pub is_up_to : ℕ → Frac → Bool
is_up_to m f = is_at_most (whole (pos 0)) (fraction_of f) && is_at_most (fraction_of f) (whole (pos m))

-- a location: what its local time is ahead is narrow, its latitude lies from 0 to 36 degrees, its refraction is at most
-- 4 degrees, and it lies east of Greenwich
abbrev pub is_kept_location : Location → Bool
is_kept_location l =
    keeps (bounded (neg_ℤ (pos (2 ^ 32))) (pos (2 ^ 32)) 0 (2 ^ 10)) (ahead_of (fraction_of l.longitude))
    && (keeps (bounded (pos 0) (pos (36 * 2 ^ 32)) 0 (2 ^ 8)) (constant (fraction_of l.latitude))
    && (keeps (bounded (pos 0) (pos (4 * 2 ^ 32)) 0 (2 ^ 23)) (refraction_of l) && is_up_to 360 l.longitude))

-- hours by which a time is ahead: from 0 to so many, and narrow
abbrev pub are_kept_hours : ℕ → Frac → Bool
are_kept_hours m h = keeps (bounded (pos 0) (pos (m * 2 ^ 32)) 0 (2 ^ 8)) (constant (fraction_of h)) && is_up_to m h

-- a step of a zone
abbrev pub is_kept_step : ℕ → ZoneStep → Bool
is_kept_step m s = are_kept_hours m s.hours && keeps (bounded (neg_ℤ (pos (2 ^ 90))) (pos (2 ^ 90)) 0 0)
    (integer s.before)

-- a zone: its time is ahead by at most so many hours
abbrev pub is_kept_zone : ℕ → List ZoneStep → Frac → Bool
is_kept_zone m steps last = list_all (is_kept_step m) steps && are_kept_hours m last
