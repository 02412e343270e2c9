-- Words that runs share of evenings: what is read of one is right for what it says, and what is written is right by
-- the run that found it, since a run that answers makes the same tests wherever its count begins.
use Rattle.std.specs.Prelude.{Option, Some, None, Ok, IfSome}
use Rattle.std.proofs.Common.{◌≡◌, ◌≢◌, ℕ, ℤ, Bool, ◌-◌, ◌<◌, ◌^◌, refl, inl, inr, sym}
use Rattle.book_model.specs.declared.fact.Place.{Place}
use Rattle.book_model.specs.declared.horizon.Location.{Location}
use Rattle.book_model.specs.programs.Calls.{Decides}
use Rattle.book_model.specs.sky.Crescent.{visible_of}
use Rattle.book_model.specs.sky.Names.{place_number}
use Rattle.book_model.proofs.NameLemmas.{one_place}
use Rattle.moon_core.proofs.Replays.{leads_anew}
use Rattle.crescent.specs.Sightings.{IsSighting, IsSightingAt, IsSightingWord, day_of, number_of, seen_of, tests_of}

pub none : IsSightingWord 0
unfolding IsSightingWord
none = inl refl

-- a place has one location
pub one_location : (o : Option Location) (l m : Location) → o ≡ Some l → o ≡ Some m → m ≡ l
one_location o l m e f = let g : Some m ≡ Some l = rw f at e in cc

-- an evening that a run has decided
pub decided : (l : Location) (day : ℤ) (b a : ℕ) (so : Bool) → a < 2 ^ 32 - 1 → Decides (visible_of l day) b a (Ok so)
    → IsSighting l day (a - b) so
decided l day b a so k h = record { leads = λ c w deep. leads_anew k (h w deep) c }

pub read : (w : ℕ) (p : Place) (day : ℤ) → IsSightingWord w → w ≢ 0 → number_of w ≡ place_number p → day_of w ≡ day
    → IsSightingAt p day (tests_of w) (seen_of w)
unfolding IsSightingWord
read w p day (inl z) k n d = absurd (k z)
read w p day (inr h) k n d = rw d at (h p (sym n))

pub written : (o : Option ℕ) (p : Place) (day : ℤ) (tests : ℕ) (so : Bool) → IsSightingAt p day tests so
    → IfSome o (λ w. number_of w ≡ place_number p) → IfSome o (λ w. day_of w ≡ day) → IfSome o (λ w. tests_of w ≡ tests)
    → IfSome o (λ w. seen_of w ≡ so) → IfSome o IsSightingWord
unfolding IsSightingWord
written None p day tests so h n d t s = tt
written (Some w) p day tests so h n d t s = inr (λ q e.
    let same : q ≡ p = one_place q p (rw n at e) in
    rw (same, d, t, s) h)
