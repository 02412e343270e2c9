-- The intervals that endpoints of a word show.
use Rattle.std.specs.Prelude.{◌≡◌, ℤ, ◌≤ℤ◌, Option, Some, None, FitsSigned}
use Rattle.std.proofs.Common.{arith}
use Rattle.std.proofs.lemmas.Int.{ints}
use Rattle.book_model.specs.Interval.{Interval, everything, between, IsProper}
use Rattle.interval_endpoints.specs.Scales.{Scale, coarse, fine, at_scale, word}
use Rattle.interval_endpoints.specs.declared.word.MachineWord.{Ghosts}
use Rattle.interval_endpoints.specs.declared.endpoints.Endpoints.{Endpoints}

-- the interval between two endpoints; everything, where there are none
abbrev pub shown_endpoints : {I : Type 0} {g : Ghosts I} → Option (Endpoints I g) → Interval
shown_endpoints None = everything
shown_endpoints {g = g} (Some e) = between (at_scale g.scale (g.value e.lo)) (at_scale g.scale (g.value e.hi))

-- these are the endpoints where the word has room for both, and else there are none
abbrev pub HasEndpoints : {I : Type 0} {g : Ghosts I} → ℤ → ℤ → Option (Endpoints I g) → Type 0
HasEndpoints {g = g} lo hi None = FitsSigned (word g.scale) lo → FitsSigned (word g.scale) hi → ⊥
HasEndpoints {g = g} lo hi (Some e) = (g.value e.lo ≡ lo) × (g.value e.hi ≡ hi)

-- the interval between two endpoints
abbrev pub shown_of : {I : Type 0} {g : Ghosts I} → Endpoints I g → Interval
shown_of {g = g} e = between (at_scale g.scale (g.value e.lo)) (at_scale g.scale (g.value e.hi))

-- its endpoints are in order
proper_at : (scale : Scale) (a b : ℤ) → a ≤ℤ b → IsProper (between (at_scale scale a) (at_scale scale b))
proper_at coarse a b h = record { cross = omega (arith, ints, h) }
proper_at fine a b h = record { cross = omega (arith, ints, h) }

pub endpoints_proper : {I : Type 0} {g : Ghosts I} (o : Option (Endpoints I g)) → IsProper (shown_endpoints o)
endpoints_proper None = tt
endpoints_proper {g = g} (Some e) = proper_at g.scale _ _ e.ordered
