use Rattle.std.proofs.Common.{arith, refl, pos, ◌*ℤ◌}
use Rattle.std.proofs.lemmas.Int.{ints}
use Rattle.interval_endpoints.specs.Rounding.{too_large}
use Rattle.interval_endpoints.proofs.Keeping.{keeps_both}
use Rattle.interval_endpoints.proofs.Periods.{lower_encloses}
use Rattle.interval_endpoints.proofs.Widths.{remainder_narrow, remainder_of_all, in_period}
use Rattle.interval_endpoints.proofs.wrapping.rest_of_period.Goals as goal

pub returns-in_err-e-clause-narrow : goal.returns-in_err-e-clause-narrow
returns-in_err-e-clause-narrow g c = λ w b h. remainder_of_all g.I.MachineWord.scale w c.args.modulus b _
    (rw c.in_err-e.was at h)

pub rest-requires-clause-begun : goal.rest-requires-clause-begun
rest-requires-clause-begun g c = (in_period g.I.MachineWord.scale c.args.modulus (g.I.MachineWord.value c.args.period)
    (g.I.MachineWord.value c.in_ok-e.e.lo)
    (g.I.MachineWord.value c.in_ok-e.e.hi) c.requires.positive (rw c.in_ok-e.was at c.requires.known)).from

pub rest-requires-clause-not_over : goal.rest-requires-clause-not_over
rest-requires-clause-not_over g c =
    let i = in_period g.I.MachineWord.scale c.args.modulus (g.I.MachineWord.value c.args.period)
    (g.I.MachineWord.value c.in_ok-e.e.lo)
    (g.I.MachineWord.value c.in_ok-e.e.hi) c.requires.positive (rw c.in_ok-e.was at c.requires.known) in
    omega (arith, ints, i.to, c.in_ok-e.e.ordered)

pub rest-requires-2-clause-begun : goal.rest-requires-2-clause-begun
rest-requires-2-clause-begun g c =
    let i = in_period g.I.MachineWord.scale c.args.modulus (g.I.MachineWord.value c.args.period)
    (g.I.MachineWord.value c.in_ok-e.e.lo)
    (g.I.MachineWord.value c.in_ok-e.e.hi) c.requires.positive (rw c.in_ok-e.was at c.requires.known) in
    omega (arith, ints, i.from, c.in_ok-e.e.ordered)

pub rest-requires-2-clause-not_over : goal.rest-requires-2-clause-not_over
rest-requires-2-clause-not_over g c =
    (in_period g.I.MachineWord.scale c.args.modulus (g.I.MachineWord.value c.args.period)
    (g.I.MachineWord.value c.in_ok-e.e.lo) (g.I.MachineWord.value c.in_ok-e.e.hi) c.requires.positive
    (rw c.in_ok-e.was at c.requires.known)).to

pub returns-in_err-lo-clause-narrow : goal.returns-in_err-lo-clause-narrow
returns-in_err-lo-clause-narrow g c = λ w b n. rw c.from_residual-in_err-lo.ensures
    (remainder_narrow g.I.MachineWord.scale w c.args.modulus b (g.I.MachineWord.value c.args.period) _ _ _ _ _
    c.requires.positive
    (rw c.in_ok-e.was at c.requires.known) refl refl (too_large (λ p q. c.in_err-lo.ensures.none refl p))
    (rw c.in_ok-e.was at n))

pub returns-in_err-hi-clause-narrow : goal.returns-in_err-hi-clause-narrow
returns-in_err-hi-clause-narrow g c = λ w b n. rw c.from_residual-in_err-hi.ensures
    (remainder_narrow g.I.MachineWord.scale w c.args.modulus b (g.I.MachineWord.value c.args.period) _ _ _ _ _
    c.requires.positive
    (rw c.in_ok-e.was at c.requires.known) refl refl (too_large (λ p q. c.in_err-hi.ensures.none refl q))
    (rw c.in_ok-e.was at n))

pub returns-clause-holds : goal.returns-clause-holds
returns-clause-holds g c =
    rw c.in_ok-e.was
    (lower_encloses g.I.MachineWord.scale _ _ (pos c.args.modulus *ℤ g.I.MachineWord.value c.args.period) _ _ _ refl
    refl (keeps_both g.I.MachineWord.scale _ _ _ _ c.in_ok-lo.ensures.value c.in_ok-hi.ensures.value))

pub returns-clause-narrow : goal.returns-clause-narrow
returns-clause-narrow g c = λ w b n. remainder_narrow g.I.MachineWord.scale w c.args.modulus b
    (g.I.MachineWord.value c.args.period) _ _ _ _ _
    c.requires.positive (rw c.in_ok-e.was at c.requires.known) refl refl
    (keeps_both g.I.MachineWord.scale _ _ _ _ c.in_ok-lo.ensures.value c.in_ok-hi.ensures.value) (rw c.in_ok-e.was at n)
