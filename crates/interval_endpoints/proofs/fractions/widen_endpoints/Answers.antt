use Rattle.std.proofs.Common.{refl}
use Rattle.interval_endpoints.specs.Scales.{limits_on, unit}
use Rattle.book_model.specs.numbers.Fractions.{fraction_of}
use Rattle.std.proofs.Common.{rules, SFits}
use Rattle.std.specs.Int.{w128}
use Rattle.std.proofs.lemmas.Int.{to_z-of_z}
use Rattle.interval_endpoints.proofs.Enclosing.{widen_encloses}
use Rattle.interval_endpoints.proofs.Widenings.{widen_narrow, widen_of_all, widen_overflow}
use Rattle.interval_endpoints.proofs.OnEndpoints.{shows, constants_are, when_there}
use Rattle.interval_endpoints.proofs.Rounded.{margin_apart}
use Rattle.std.proofs.Common.{unsigned_abs, ◌+◌, pos, ◌-ℤ◌, ◌*ℤ◌, ◌≤ℤ◌}
use Rattle.interval_endpoints.proofs.fractions.widen_endpoints.Goals as goal

pub returns-in_err-x-clause-narrow : goal.returns-in_err-x-clause-narrow
returns-in_err-x-clause-narrow g c = λ w a h. widen_of_all (limits_on g.I.MachineWord.scale) w _ a _
    (rw c.in_err-x.was at h)

pub returns-in_err-margin-clause-narrow : goal.returns-in_err-margin-clause-narrow
returns-in_err-margin-clause-narrow g c = λ w a h. widen_overflow g.I.MachineWord.scale w (fraction_of c.args.by) a _
    (λ l. let z = c.in_err-margin.ensures.some (rw (constants_are g.I.MachineWord.scale) at l) in absurd (cc))

pub returns-clause-holds : goal.returns-clause-holds
returns-clause-holds g c =
    let fm : SFits w128 c.in_ok-margin.margin = search rules in
    rw c.in_ok-x.was (widen_encloses g.I.MachineWord.scale (fraction_of c.args.by) _ _ c.in_ok-margin.margin _ _ _
    c.in_ok-margin.ensures.value refl refl
    (shows _ _ _ (simp to_z-of_z at c.moved.ensures.endpoints)))

pub returns-clause-narrow : goal.returns-clause-narrow
returns-clause-narrow g c = λ w a h.
    let fm : SFits w128 c.in_ok-margin.margin = search rules in
    widen_narrow g.I.MachineWord.scale w (fraction_of c.args.by) a _ _ c.in_ok-margin.margin _ _ _
    c.in_ok-margin.ensures.value refl refl
    (shows _ _ _ (simp to_z-of_z at c.moved.ensures.endpoints)) (rw c.in_ok-x.was at h)

pub returns-clause-close : goal.returns-clause-close
returns-clause-close g c =
    let fm : SFits w128 c.in_ok-margin.margin = search rules in
    let w = g.I.MachineWord.value c.in_ok-x.x.hi -ℤ g.I.MachineWord.value c.in_ok-x.x.lo in
    rw c.in_ok-x.was
    (when_there _ _ _ (λ z. (((z -ℤ w) -ℤ pos 2) *ℤ pos ((fraction_of c.args.by).below + 1))
    ≤ℤ (pos 2 *ℤ (pos (unsigned_abs (fraction_of c.args.by).num) *ℤ unit g.I.MachineWord.scale)))
    (simp to_z-of_z at c.moved.ensures.endpoints)
    (margin_apart g.I.MachineWord.scale (fraction_of c.args.by) _ _ c.in_ok-margin.margin _ _
    c.in_ok-margin.ensures.value refl refl))
