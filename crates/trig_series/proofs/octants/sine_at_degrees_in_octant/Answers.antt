use Rattle.std.proofs.Common.{◌≡◌, rules, arith, SFits, pos, unsigned_abs, ◌-ℤ◌, ◌*ℤ◌}
use Rattle.std.specs.Int.{w128}
use Rattle.std.proofs.lemmas.Int.{ints, to_z-of_z}
use Rattle.encl_core.specs.parts.TheConstants.{OCTANT}
use Rattle.trig_series.proofs.AngleLemmas.{at_in_turn}
use Rattle.trig_series.proofs.TurnLemmas.{turned_point, turned_edge, next_edge, count_of}
use Rattle.trig_series.proofs.octants.sine_at_degrees_in_octant.Goals as goal

pub returns-clause-holds : goal.returns-clause-holds
returns-clause-holds c =
    let fo = c.ranges.octant in
    let fd = c.ranges.degrees in
    let ft : SFits w128 c.octant_in_turn.result = search rules in
    let fp : SFits w128 (c.args.octant *ℤ pos OCTANT) = omega (arith, ints, c.requires) in
    let fm : SFits w128 (c.args.degrees -ℤ c.args.octant *ℤ pos OCTANT) = omega (arith, ints, c.requires) in
    let v = simp to_z-of_z at c.octant_in_turn.ensures.value in
    let k = simp to_z-of_z at c.sine_into_octant_of_turn.ensures.holds in
    let u : pos (unsigned_abs (c.args.degrees -ℤ c.args.octant *ℤ pos OCTANT)) ≡ c.args.degrees -ℤ c.args.octant *ℤ pos
    OCTANT =
    count_of _ (omega (arith, ints, c.requires.low)) in
    λ n y l same. at_in_turn n c.args.octant c.octant_in_turn.result c.args.degrees y _ v same (λ z e. k n z l (rw u e))

pub returns-clause-near : goal.returns-clause-near
returns-clause-near c =
    let fo = c.ranges.octant in
    let fd = c.ranges.degrees in
    let ft : SFits w128 c.octant_in_turn.result = search rules in
    let fp : SFits w128 (c.args.octant *ℤ pos OCTANT) = omega (arith, ints, c.requires) in
    let fm : SFits w128 (c.args.degrees -ℤ c.args.octant *ℤ pos OCTANT) = omega (arith, ints, c.requires) in
    let v = simp to_z-of_z at c.octant_in_turn.ensures.value in
    turned_point c.args.octant c.octant_in_turn.result _ _ _ v
    (simp to_z-of_z at c.sine_into_octant_of_turn.ensures.near)

pub returns-clause-begins : goal.returns-clause-begins
returns-clause-begins c = λ e.
    let fo = c.ranges.octant in
    let fd = c.ranges.degrees in
    let ft : SFits w128 c.octant_in_turn.result = search rules in
    let fp : SFits w128 (c.args.octant *ℤ pos OCTANT) = omega (arith, ints, c.requires) in
    let fm : SFits w128 (c.args.degrees -ℤ c.args.octant *ℤ pos OCTANT) = omega (arith, ints, c.requires) in
    let v = simp to_z-of_z at c.octant_in_turn.ensures.value in
    let k = simp to_z-of_z at c.sine_into_octant_of_turn.ensures.begins in
    turned_edge c.args.octant c.octant_in_turn.result _ _ v (k (omega (arith, ints, e)))

pub returns-clause-endpoints : goal.returns-clause-endpoints
returns-clause-endpoints c = λ e.
    let fo = c.ranges.octant in
    let fd = c.ranges.degrees in
    let ft : SFits w128 c.octant_in_turn.result = search rules in
    let fp : SFits w128 (c.args.octant *ℤ pos OCTANT) = omega (arith, ints, c.requires) in
    let fm : SFits w128 (c.args.degrees -ℤ c.args.octant *ℤ pos OCTANT) = omega (arith, ints, c.requires) in
    let v = simp to_z-of_z at c.octant_in_turn.ensures.value in
    let k = simp to_z-of_z at c.sine_into_octant_of_turn.ensures.endpoints in
    next_edge c.args.octant c.octant_in_turn.result _ _ v (k (omega (arith, ints, e)))
