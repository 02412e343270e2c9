-- How wide the sums of the moon's terms are at the scale 2^-56.
use Rattle.std.specs.Prelude.{ℕ, ◌*◌, ◌^◌, pos, neg_ℤ, if◌then◌else◌, ◌==◌}
use Rattle.book_model.specs.numbers.Bounds.{Bound, bounded}
use Rattle.book_model.specs.programs.Widths.{table_days}

-- the days of which ΔT is known, and the bound of a sum of terms beside them
abbrev pub days_and : Bound → ℕ → Bound
days_and t k = if k == 0 then table_days 1 (2 ^ 40) 0 else t

-- the sum of the latitude's terms of such days, in millionths of a degree: at most 2.34 degrees a day times as wide as
-- these
abbrev pub latitude_bound : Bound
latitude_bound = bounded (neg_ℤ (pos (6100000 * 2 ^ 32))) (pos (6100000 * 2 ^ 32)) (2338000 * 2 ^ 40) (2 ^ 48)

-- of the longitude's: at most 4.23 degrees a day
abbrev pub longitude_bound : Bound
longitude_bound = bounded (neg_ℤ (pos (9300000 * 2 ^ 32))) (pos (9300000 * 2 ^ 32)) (4228000 * 2 ^ 40) (2 ^ 50)
