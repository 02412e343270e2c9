use Rattle.std.proofs.Common.{arith, ◌≡◌, List, [], ◌∷◌, ℤ, length, refl}
use Rattle.std.proofs.lemmas.Int.{to_z-of_z}
use Rattle.book_model.specs.calendars.Inquiries.{first_of}
use Rattle.oracle_core.proofs.Inquiring.{asking, inquires_done}
use Rattle.hindu_astro.proofs.lunar.+first_of.Goals as goal

none_of : (days : List ℤ) → length days ≡ 0 → days ≡ []
none_of [] e = refl
none_of (day ∷ days) e = absurd (omega arith)

pub returns-in_default-clause-day : goal.returns-in_default-clause-day
unfolding first_of
returns-in_default-clause-day g t c =
    let fa = c.ranges.about in
    let none = none_of c.args.days.now (grind arith) in
    rw none (simp to_z-of_z inquires_done)

pub returns-in_err-here-clause-day : goal.returns-in_err-here-clause-day
unfolding first_of
returns-in_err-here-clause-day g t c = grind (arith, asking)

pub returns-then-here-clause-day : goal.returns-then-here-clause-day
unfolding first_of
returns-then-here-clause-day g t c = grind (arith, asking)

pub returns-clause-day : goal.returns-clause-day
unfolding first_of
returns-clause-day g t c = grind (arith, asking)
