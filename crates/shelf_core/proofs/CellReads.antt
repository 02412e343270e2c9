-- The item that is read at a place of a list.
use Rattle.std.proofs.Common.{◌≡◌, ℕ, suc, zero, ◌<◌, List, [], ◌∷◌, length, get_or, ap, sym, arith}
use Rattle.std.specs.Prelude.{slice_get}
use Rattle.std.specs.Option.{option_map_or}

-- what a function tells of the item at a place it tells of the item that was read there
pub read_at : {X : Type 0} (tells : X → ℕ) (items : List X) (place : ℕ) (item : X) → place < length items
    → item ≡ get_or items place item
    → option_map_or tells (slice_get items place) 0 ≡ tells item
read_at tells [] place item less is = absurd (omega (arith, less))
read_at tells (first ∷ rest) zero item less is = ap tells (sym is)
read_at tells (first ∷ rest) (suc place) item less is = read_at tells rest place item (omega (arith, less)) is
