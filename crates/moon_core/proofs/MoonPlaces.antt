-- The moon's place of a moment: what leads to a number that a result has leads to the result, and its one test of the
-- turn is decided alike wherever the run stands.
use Rattle.std.proofs.Common.{ℕ, Result, Ok, Err}
use Rattle.std.specs.Prelude.{IfOk}
use Rattle.book_model.specs.declared.fail.Fail.{Fail}
use Rattle.book_model.specs.numbers.Expressions.{Expression, World}
use Rattle.book_model.specs.programs.Leading.{Leads, Reports, passes, answers, stops, stops_early, voids, next_turn}
use Rattle.book_model.specs.programs.Programs.{Program, Run}
use Rattle.moon_core.specs.Elements.{reduced_longitude_of}
use Rattle.moon_core.proofs.MomentElements.{longitude_again}

-- ---- another result of the same tests
reports_as : {A T U : Type 0} {R : A → T → Type 0} {S : A → U → Type 0} {r : Run A} {b a : ℕ} {y : T} {z : U}
    → Reports R r b a (Ok y)
    → ((v : A) → R v y → S v z) → Reports S r b a (Ok z)
reports_as (answers h) f = answers (f _ h)
reports_as (passes h) f = passes (reports_as h f)

pub leads_as : {A T U : Type 0} {w : World} {R : A → T → Type 0} {S : A → U → Type 0} {p : Program A} {b a : ℕ} {y : T}
    {z : U}
    → Leads w R p b a (Ok y) → ((v : A) → R v y → S v z) → Leads w S p b a (Ok z)
leads_as h f = record { reports = reports_as h.reports f }

reports_fail : {A T U : Type 0} {R : A → T → Type 0} {S : A → U → Type 0} {r : Run A} {b a : ℕ} {f : Fail}
    → Reports R r b a (Err f) → Reports S r b a (Err f)
reports_fail (passes h) = passes (reports_fail h)
reports_fail (stops e d c) = stops e d c
reports_fail (stops_early e d c) = stops_early e d c
reports_fail voids = voids

pub fails_as : {A T U : Type 0} {w : World} {R : A → T → Type 0} {S : A → U → Type 0} {p : Program A} {b a : ℕ}
    {f : Fail}
    → Leads w R p b a (Err f) → Leads w S p b a (Err f)
fails_as h = record { reports = reports_fail h.reports }

-- ---- a longitude that is found is found again
pub longitudes_again : {T : Type 0} (H : World → Expression → Type 0) (R : World → Expression → T → Type 0)
    (t : Expression → Expression) {b a : ℕ}
    (r : Result T Fail)
    → ((w : World) (x : Expression) → H w x → Leads w (R w) (reduced_longitude_of (t x)) b a r)
    → IfOk r (λ l. (w : World) (x : Expression) → H w x → (k : ℕ)
    → Leads w (R w) (reduced_longitude_of (t x)) k (next_turn k) (Ok l))
longitudes_again H R t (Ok l) h = λ w x e k. longitude_again (t x) (h w x e) k
longitudes_again H R t (Err f) h = tt
