use Rattle.std.proofs.Common.{refl}
use Rattle.std.proofs.lemmas.Int.{to_z-of_z}
use Rattle.interval_endpoints.specs.Rounding.{too_large}
use Rattle.interval_endpoints.proofs.Keeping.{int_narrow, keeps_both}
use Rattle.interval_endpoints.proofs.sums.int_endpoints.Goals as goal

pub returns-clause-narrow : goal.returns-clause-narrow
returns-clause-narrow g c =
    let f = c.ranges.value in
    let e = simp to_z-of_z at c.in_ok-at.ensures.value in
    λ w. int_narrow g.I.MachineWord.scale w _ _ _ refl (keeps_both g.I.MachineWord.scale _ _ _ _ e e)

pub returns-in_err-at-clause-narrow : goal.returns-in_err-at-clause-narrow
returns-in_err-at-clause-narrow g c =
    let f = c.ranges.value in
    let n = simp to_z-of_z at c.in_err-at.ensures.none in
    λ w. rw c.from_residual.ensures (int_narrow g.I.MachineWord.scale w _ _ _ refl (too_large (λ p q. n refl p)))
