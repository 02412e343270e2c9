use Rattle.std.proofs.Common.{refl, rules, SFits, unsigned_abs, ◌+◌, pos, ◌-ℤ◌, ◌*ℤ◌, ◌≤ℤ◌}
use Rattle.std.specs.Int.{w128}
use Rattle.std.proofs.lemmas.Int.{to_z-of_z}
use Rattle.book_model.specs.numbers.Fractions.{fraction_of}
use Rattle.int_division.proofs.Quotients.{outward_order, sorted_order}
use Rattle.interval_endpoints.proofs.Scaling.{AreScaled, scale_encloses, scaled_narrow, scaled_first, scaled_overflow}
use Rattle.interval_endpoints.proofs.OnEndpoints.{shows, when_there, is_there}
use Rattle.interval_endpoints.proofs.Rounded.{scaled_apart}
use Rattle.interval_endpoints.proofs.fractions.scale_endpoints.Goals as goal

pub returns-in_err-x-clause-narrow : goal.returns-in_err-x-clause-narrow
returns-in_err-x-clause-narrow g c = λ w a h. scaled_first g.I.MachineWord.scale w _ a _ (rw c.in_err-x.was at h)

pub returns-in_err-p-clause-narrow : goal.returns-in_err-p-clause-narrow
returns-in_err-p-clause-narrow g c = λ w a h.
    let fn : SFits w128 c.num-factor.result = search rules in
    let n = simp to_z-of_z at c.in_err-p.ensures.none in
    rw c.from_residual-in_err-p.ensures (scaled_overflow g.I.MachineWord.scale w a (fraction_of c.args.by)
    (g.I.MachineWord.value c.in_ok-x.x.lo)
    (g.I.MachineWord.value c.in_ok-x.x.hi) c.num-factor.result c.num-factor.ensures (λ s t. n refl s)
    (rw c.in_ok-x.was at h))

pub returns-in_err-q-clause-narrow : goal.returns-in_err-q-clause-narrow
returns-in_err-q-clause-narrow g c = λ w a h.
    let fn : SFits w128 c.num-factor.result = search rules in
    let n = simp to_z-of_z at c.in_err-q.ensures.none in
    rw c.from_residual-in_err-q.ensures (scaled_overflow g.I.MachineWord.scale w a (fraction_of c.args.by)
    (g.I.MachineWord.value c.in_ok-x.x.lo)
    (g.I.MachineWord.value c.in_ok-x.x.hi) c.num-factor.result c.num-factor.ensures (λ s t. n refl t)
    (rw c.in_ok-x.was at h))

pub endpoints_of-requires : goal.endpoints_of-requires
endpoints_of-requires g c =
    let fd : SFits w128 c.denominator-below.result = search rules in
    let fm : SFits w128 c.sorted-least.result.0 = search rules in
    let fg : SFits w128 c.sorted-least.result.1 = search rules in
    let fl : SFits w128 c.floor_div.result = search rules in
    let fh : SFits w128 c.ceil_div.result = search rules in
    let i = simp to_z-of_z at c.floor_div.ensures in
    let j = simp to_z-of_z at c.ceil_div.ensures in
    simp to_z-of_z (outward_order _ _ _ _ _ (sorted_order _ _ _ _ c.sorted-least.ensures) i j
    c.denominator-below.ensures.positive)

scaled : (g : _) (c : goal.After-endpoints_of g)
    → AreScaled (fraction_of c.args.by) (g.I.MachineWord.value c.in_ok-x.x.lo) (g.I.MachineWord.value c.in_ok-x.x.hi)
    c.num-factor.result c.in_ok-p.p c.in_ok-q.q c.sorted-least.result.0 c.sorted-least.result.1
    c.denominator-below.result c.floor_div.result c.ceil_div.result
scaled g c =
    let fn : SFits w128 c.num-factor.result = search rules in
    let fp : SFits w128 c.in_ok-p.p = search rules in
    let fq : SFits w128 c.in_ok-q.q = search rules in
    let fd : SFits w128 c.denominator-below.result = search rules in
    let fm : SFits w128 c.sorted-least.result.0 = search rules in
    let fg : SFits w128 c.sorted-least.result.1 = search rules in
    let fl : SFits w128 c.floor_div.result = search rules in
    let fh : SFits w128 c.ceil_div.result = search rules in
    let p = simp to_z-of_z at c.in_ok-p.ensures.product in
    let q = simp to_z-of_z at c.in_ok-q.ensures.product in
    let s = simp to_z-of_z at c.sorted-least.ensures in
    let i = simp to_z-of_z at c.floor_div.ensures in
    let j = simp to_z-of_z at c.ceil_div.ensures in
    record {
      numerator = c.num-factor.ensures;
      first = p;
      second = q;
      denominator = c.denominator-below.ensures.value;
      order = s;
      down = i;
      up = j;
    }

pub returns-clause-holds : goal.returns-clause-holds
returns-clause-holds g c =
    let fl : SFits w128 c.floor_div.result = search rules in
    let fh : SFits w128 c.ceil_div.result = search rules in
    let k = simp to_z-of_z at c.endpoints_of.ensures.endpoints in
    rw c.in_ok-x.was (scale_encloses g.I.MachineWord.scale (fraction_of c.args.by) _ _ _ _ _ _ _ _ _ _ _ (scaled g c)
    (shows _ _ _ k))

pub returns-clause-narrow : goal.returns-clause-narrow
returns-clause-narrow g c = λ w a h.
    let fl : SFits w128 c.floor_div.result = search rules in
    let fh : SFits w128 c.ceil_div.result = search rules in
    let k = simp to_z-of_z at c.endpoints_of.ensures.endpoints in
    scaled_narrow g.I.MachineWord.scale w a (fraction_of c.args.by) _ _ _ _ _ _ _ _ _ _ _ (scaled g c) (shows _ _ _ k)
    (rw c.in_ok-x.was at h)

pub returns-clause-close : goal.returns-clause-close
returns-clause-close g c =
    let fl : SFits w128 c.floor_div.result = search rules in
    let fh : SFits w128 c.ceil_div.result = search rules in
    let k = simp to_z-of_z at c.endpoints_of.ensures.endpoints in
    rw c.in_ok-x.was
    (when_there _ _ _ (λ z. ((z -ℤ pos 2) *ℤ pos ((fraction_of c.args.by).below + 1))
    ≤ℤ ((g.I.MachineWord.value c.in_ok-x.x.hi -ℤ g.I.MachineWord.value c.in_ok-x.x.lo) *ℤ pos
    (unsigned_abs (fraction_of c.args.by).num))) k
    (scaled_apart (fraction_of c.args.by) _ _ _ _ _ _ _ _ _ _ c.in_ok-x.x.ordered (scaled g c)))

pub returns-clause-some : goal.returns-clause-some
returns-clause-some g c =
    let fl : SFits w128 c.floor_div.result = search rules in
    let fh : SFits w128 c.ceil_div.result = search rules in
    let k = simp to_z-of_z at c.endpoints_of.ensures.endpoints in
    rw c.in_ok-x.was (λ e s t. is_there _ _ _ k e fl fh)

pub returns-in_err-p-clause-some : goal.returns-in_err-p-clause-some
returns-in_err-p-clause-some g c =
    let fn : SFits w128 c.num-factor.result = search rules in
    let n = simp c.num-factor.ensures at (simp to_z-of_z at c.in_err-p.ensures.none) in
    rw c.in_ok-x.was (λ e s t. absurd (n refl s))

pub returns-in_err-q-clause-some : goal.returns-in_err-q-clause-some
returns-in_err-q-clause-some g c =
    let fn : SFits w128 c.num-factor.result = search rules in
    let n = simp c.num-factor.ensures at (simp to_z-of_z at c.in_err-q.ensures.none) in
    rw c.in_ok-x.was (λ e s t. absurd (n refl t))
