use Rattle.std.proofs.Common.{refl}
use Rattle.std.proofs.Common.{arith}
use Rattle.std.proofs.lemmas.Int.{ints}
use Rattle.interval_endpoints.proofs.Enclosing.{negative_encloses}
use Rattle.interval_endpoints.proofs.Widths.{negated_narrow, negated_of_all}
use Rattle.interval_endpoints.proofs.OnEndpoints.{shows}
use Rattle.interval_endpoints.proofs.sums.neg_endpoints.Goals as goal

pub returns-clause-holds : goal.returns-clause-holds
returns-clause-holds g c = rw c.in_ok-x.was (negative_encloses g.I.MachineWord.scale _ _ _ _ _ refl refl
    (shows _ _ _ c.opposites.ensures.endpoints))

pub returns-clause-narrow : goal.returns-clause-narrow
returns-clause-narrow g c = λ w a h. negated_narrow g.I.MachineWord.scale w a _ _ _ _ _ (omega (arith, ints))
    (omega (arith, ints))
    (shows _ _ _ c.opposites.ensures.endpoints) (rw c.in_ok-x.was at h)

pub returns-in_err-x-clause-narrow : goal.returns-in_err-x-clause-narrow
returns-in_err-x-clause-narrow g c = λ w a h. negated_of_all g.I.MachineWord.scale w a _ (rw c.in_err-x.was at h)
