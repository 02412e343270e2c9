-- What stands in a column of a table at a place, by the column alone.
use Rattle.std.specs.Prelude.{◌≡◌, ℕ, zero, suc, ◌<◌, List, [], ◌∷◌, length, map, slice_get, slice_index_or, refl}
use Rattle.std.specs.Option.{option_map_or}
use Rattle.std.proofs.Common.{arith}

-- a column at a place, where the row there is taken
pub at_row : {R B : Type 0} (rows : List R) (f : R → B) (i : ℕ) (d : R) (e : B) → i < length rows
    → f (slice_index_or rows i d)
    ≡ slice_index_or (map f rows) i e
at_row [] f i d e h = absurd (omega arith)
at_row (r ∷ rs) f zero d e h = refl
at_row (r ∷ rs) f (suc i) d e h = at_row rs f i d e (omega arith)

-- a column at a place, where there may be no row
pub at_place : {R B : Type 0} (rows : List R) (f : R → B) (i : ℕ) (e : B)
    → option_map_or f (slice_get rows i) e ≡ slice_index_or (map f rows) i e
at_place [] f i e = refl
at_place (r ∷ rs) f zero e = refl
at_place (r ∷ rs) f (suc i) e = at_place rs f i e
