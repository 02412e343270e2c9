-- The endpoints of a word as endpoints at its scale. The lemmas on endpoints take a scale and whole numbers. These here
-- lead to them from the endpoints of a word, by the two cases: they are there where both fit (`HasEndpoints`), and what
-- they show is what lies between them (`ShowsEndpoints`).
use Rattle.std.proofs.Common.{◌≡◌, refl, ℤ, ◌-ℤ◌, Option, Some, None}
use Rattle.std.proofs.Common.{SFits}
use Rattle.std.specs.Prelude.{IfSome, IsSome}
use Rattle.std.specs.Int.{w128}
use Rattle.interval_endpoints.specs.declared.word.MachineWord.{Ghosts}
use Rattle.interval_endpoints.specs.declared.endpoints.Endpoints.{Endpoints}
use Rattle.interval_endpoints.specs.Rounding.{ShowsEndpoints, too_large}
use Rattle.interval_endpoints.specs.Scales.{Scale, coarse, fine, limits_on, most_numerator, word}
use Rattle.interval_endpoints.specs.Shown.{shown_endpoints, HasEndpoints}
use Rattle.interval_endpoints.proofs.Keeping.{keeps_both}

-- what is shown of endpoints that are there where both fit
pub shows : {I : Type 0} {g : Ghosts I} (lo hi : ℤ) (r : Option (Endpoints I g)) → HasEndpoints lo hi r
    → ShowsEndpoints g.scale lo hi (shown_endpoints r)
shows lo hi None h = too_large h
shows {g = g} lo hi (Some e) h = keeps_both g.scale lo hi _ _ h.0 h.1

-- the numerators that the scale bears are those that its limits name
pub constants_are : (scale : Scale) → (limits_on scale).constants ≡ most_numerator scale
constants_are coarse = refl
constants_are fine = refl

-- what holds of the endpoints' distance holds of the endpoints that are there
pub when_there : {I : Type 0} {g : Ghosts I} (lo hi : ℤ) (r : Option (Endpoints I g)) (P : ℤ → Type 0)
    → HasEndpoints lo hi r → P (hi -ℤ lo)
    → IfSome r (λ e. P (g.value e.hi -ℤ g.value e.lo))
when_there lo hi None P h k = tt
when_there lo hi (Some e) P h k = rw (h.0, h.1) k

-- endpoints that fit in 128 bits are there where the word has as many
pub is_there : {I : Type 0} {g : Ghosts I} (lo hi : ℤ) (r : Option (Endpoints I g)) → HasEndpoints lo hi r
    → word g.scale ≡ w128 → SFits w128 lo → SFits w128 hi
    → IsSome r
is_there lo hi None h e f k = absurd (h (rw e f) (rw e k))
is_there lo hi (Some v) h e f k = refl
