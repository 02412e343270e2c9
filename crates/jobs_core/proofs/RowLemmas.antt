-- Rows that are what lines ask, one for each.
use Rattle.std.proofs.Common.{◌≡◌, ℕ, zero, suc, List, [], ◌∷◌, map, All, refl, arith}
use Rattle.std.specs.Prelude.{Result}
use Rattle.std.specs.List.{AllZip}
use Rattle.book_model.specs.declared.request.Request.{Request}
use Rattle.book_model.specs.declared.request.Rule.{Rule}
use Rattle.book_model.specs.declared.version.TheConstants.{WRITTEN}
use Rattle.book_model.specs.lines.Requests.{request_of}
use Rattle.jobs_core.specs.Outcomes.{IsRowOf, CanResolve}

-- they are what the lines ask, in order
pub rows_mapped : {X : Type 0} (f : X → List ℕ) (xs : List X) (rows : List (Result Request Rule))
    → AllZip (λ x row. IsRowOf (f x) row) xs rows
    → rows ≡ map (λ x. request_of WRITTEN (f x)) xs
rows_mapped f [] [] h = refl
rows_mapped f [] (r ∷ rs) h = absurd h
rows_mapped f (x ∷ xs) [] h = absurd h
rows_mapped f (x ∷ xs) (r ∷ rs) h = rw (h.0.0, rows_mapped f xs rs h.1) refl

-- and each may be resolved
pub rows_resolvable : {X : Type 0} (f : X → List ℕ) (xs : List X) (rows : List (Result Request Rule))
    → AllZip (λ x row. IsRowOf (f x) row) xs rows
    → All CanResolve rows
rows_resolvable f [] [] h k d lt = absurd (omega (arith, lt))
rows_resolvable f [] (r ∷ rs) h k d lt = absurd h
rows_resolvable f (x ∷ xs) [] h k d lt = absurd h
rows_resolvable f (x ∷ xs) (r ∷ rs) h zero d lt = h.0.1
rows_resolvable f (x ∷ xs) (r ∷ rs) h (suc k) d lt = rows_resolvable f xs rs h.1 k d (omega (arith, lt))
