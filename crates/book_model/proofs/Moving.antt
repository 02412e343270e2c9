-- The result of moving the facts of an inquiry, over every table of the values of facts.
use Rattle.std.specs.Prelude.{◌≡◌, ◌∷◌, ℤ, map, refl}
use Rattle.std.proofs.Common.{ap}
use Rattle.book_model.specs.declared.fact.Fact.{Fact}
use Rattle.book_model.specs.calendars.Inquiries.{Inquiry, done, ask, facts_over, result_over}
use Rattle.book_model.specs.calendars.Moving.{moved}

pub moved_result : {A : Type 0} (move : Fact → Fact) (i : Inquiry A) (table : Fact → ℤ)
    → result_over table (moved move i) ≡ result_over (λ f. table (move f)) i
unfolding moved
moved_result move (done a) table = refl
moved_result move (ask f next) table = moved_result move (next (table (move f))) table

pub moved_facts : {A : Type 0} (move : Fact → Fact) (i : Inquiry A) (table : Fact → ℤ)
    → facts_over table (moved move i) ≡ map move (facts_over (λ f. table (move f)) i)
unfolding moved
moved_facts move (done a) table = refl
moved_facts move (ask f next) table = ap (λ fs. move f ∷ fs) (moved_facts move (next (table (move f))) table)
