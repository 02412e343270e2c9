-- The obliquity of the ecliptic at a moment: it is narrow, and only the test of the year is ever undecided. It is a
-- polynomial of the centuries, which makes no test: a program that is one answer never fails (`no_failure`), and a
-- bound that is computed for centuries of the table is narrower than what callers ask.
use Rattle.std.specs.Prelude.{ℕ, ◌+◌, ◌/◌, ◌^◌, ◌≤◌, Result, Ok, Err, IfErr}
use Rattle.std.proofs.Common.{arith}
use Rattle.std.proofs.lemmas.Int.{ints}
use Rattle.book_model.specs.Interval.{Interval, IsProper}
use Rattle.book_model.specs.declared.fail.Fail.{Fail}
use Rattle.book_model.specs.numbers.Expressions.{Expression, World}
use Rattle.book_model.specs.numbers.Relations.{Within}
use Rattle.book_model.specs.programs.Leading.{Leads, Reports}
use Rattle.book_model.specs.programs.Programs.{answered, run}
use Rattle.book_model.specs.programs.Widths.{Measures}
use Rattle.book_model.specs.sky.Sun.{obliquity_of}
use Rattle.encl_core.proofs.Measuring.{looser}
use Rattle.rise_set.specs.Altitudes.{IsTilt}
use Rattle.sun_core.proofs.Worlds.{within_first}
use Rattle.sun_core.specs.Widths.{IsObliquity}

pub tilt_measures : {E : Type 0} (shown : E → Interval) (v : ℕ) (r : Result E Fail) → v ≤ 2 ^ 33
    → Measures (λ o. IsObliquity (v / 36525 + 2 ^ 12) (shown o)) r
    → Measures (λ o. IsTilt (shown o)) r
tilt_measures shown v (Ok o) b h = looser _ _ _ _ ((v / 36525 + 2 ^ 12) / 64 + 2 ^ 12) (2 ^ 13) (shown o)
    (omega (arith, ints)) (omega (arith, ints))
    (omega (arith, b)) h
tilt_measures shown v (Err f) b h = h

-- ---- what makes no test never fails
pub no_failure : {A T : Type 0} {R : A → T → Type 0} {v : A} {b a : ℕ} {f : Fail} → Reports R (answered v) b a (Err f)
    → ⊥
no_failure h = elim h [ ]

obliquity_answers : {E : Type 0} (shown : E → Interval) (p : (e : E) → IsProper (shown e)) (c : E) (f : Fail) {b a : ℕ}
    → ((w : World) (x : Expression) → Within shown w x c → Leads w (Within shown w) (obliquity_of x) b a (Err f)) → ⊥
unfolding obliquity_of run
obliquity_answers shown p c f h = no_failure (h _ _ (within_first shown p c c)).reports

pub obliquity_never : {E : Type 0} (shown : E → Interval) (p : (e : E) → IsProper (shown e)) (c : E) (P : Fail → Type 0)
    (r : Result E Fail) {b a : ℕ}
    → ((w : World) (x : Expression) → Within shown w x c → Leads w (Within shown w) (obliquity_of x) b a r) → IfErr r P
obliquity_never shown p c P (Ok v) h = tt
obliquity_never shown p c P (Err f) h = absurd (obliquity_answers shown p c f h)
