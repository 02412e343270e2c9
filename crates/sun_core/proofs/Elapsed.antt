-- The time from noon of 1 January 2000 in centuries, of which the days are known too. The formulas of the definition
-- take centuries, and the code the days of dynamical time, from which rates lose nothing: the record says that an
-- expression is these days in centuries, and `by_dynamical` carries a program over the centuries to the code's days.
use Rattle.std.proofs.Common.{◌≡◌, ℕ, refl, sym, subst, Result, Ok, Err}
use Rattle.std.specs.Prelude.{IfOk}
use Rattle.book_model.specs.Interval.{Interval}
use Rattle.book_model.specs.declared.fail.Fail.{Fail}
use Rattle.book_model.specs.numbers.Expressions.{Expression, World}
use Rattle.book_model.specs.programs.Leading.{Leads}
use Rattle.book_model.specs.programs.Programs.{Program, bind}
use Rattle.book_model.specs.numbers.Relations.{Within}
use Rattle.book_model.specs.declared.time_tables.TheConstants.{NOON_2000}
use Rattle.book_model.specs.numbers.Expressions.{constant, subtract}
use Rattle.book_model.specs.numbers.Fractions.{fraction_of}
use Rattle.book_model.specs.sky.Sun.{sun_of}
use Rattle.book_model.specs.sky.Time.{dynamical_of, centuries_of, in_centuries}
use Rattle.sun_core.specs.Daily.{in_centuries as days_in_centuries}
use Rattle.sun_core.specs.Longitudes.{reduced_sun_of}
use Rattle.book_model.proofs.Leads.{leads_bind, leads_answer}

-- an expression is the time in centuries from noon of 1 January 2000 to a moment that an enclosure holds
record IsFromMoment {E : Type 0} (shown : E → Interval) (w : World) (v : Expression) (y : E) : Type 0 where
  moment : Expression
  is : v ≡ in_centuries moment
  within : Within shown w moment y

-- what leads by the centuries of each moment of dynamical time leads by the centuries of a moment of universal time
pub by_dynamical : {E U : Type 0} {shown : E → Interval} {w : World} {S : Expression → U → Type 0} (x : Expression)
    (next : Expression → Program Expression)
    {b m a : ℕ} {y : E} {t : Result U Fail} →
    Leads w (Within shown w) (dynamical_of x) b m (Ok y)
    → ((d : Expression) → Within shown w d y → Leads w S (next (in_centuries d)) m a t)
    → Leads w S (bind (centuries_of x) next) b a t
unfolding centuries_of
by_dynamical {E = E} {shown = shown} {w = w} {S = S} x next {m = m} {a = a} {t = t} h k =
    let R : Expression → E → Type 0 = λ v y. IsFromMoment shown w v y in
    leads_bind {R = R} (leads_bind {S = R} h (λ d r. leads_answer (record { moment = d; is = refl; within = r })))
    (λ v r. let P : Expression → Type 0 = λ z. Leads w S (next z) m a t in subst P (sym r.is) (k r.moment r.within))

-- the longitude of the sun where it answers, after the time of its moment
pub sun_after_time : {E : Type 0} (shown : E → Interval) (t y days : E) (b m a : ℕ) (r : Result E Fail)
    → ((w : World) (x : Expression) → Within shown w x t → Leads w (Within shown w) (dynamical_of x) b m (Ok y))
    → ((w : World) (d : Expression) → Within shown w d y
    → Within shown w (subtract d (constant (fraction_of NOON_2000))) days)
    → IfOk r (λ s. (w : World) (d : Expression) → Within shown w d days
    → Leads w (Within shown w) (reduced_sun_of (days_in_centuries d)) m a (Ok s))
    → IfOk r (λ s. (w : World) (x : Expression) → Within shown w x t → Leads w (Within shown w) (sun_of x) b a (Ok s))
unfolding sun_of reduced_sun_of in_centuries days_in_centuries
sun_after_time shown t y days b m a (Ok s) h k l = λ w x i.
    by_dynamical x reduced_sun_of (h w x i)
    (λ d r. l w (subtract d (constant (fraction_of NOON_2000))) (k w d r))
sun_after_time shown t y days b m a (Err f) h k l = tt
