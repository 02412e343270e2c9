use Rattle.std.proofs.Common.{◌≡◌, rules, SFits, w64, pos, ◌+ℤ◌, ◌*ℤ◌}
use Rattle.std.specs.Int.{w128}
use Rattle.std.proofs.lemmas.Int.{to_z-of_z}
use Rattle.int_division.specs.Rounding.{IsFloor}
use Rattle.int_division.proofs.Stepping.{steps_floor, unsigned_divisor, two_steps_fit}
use Rattle.int_division.proofs.floors.stepped_floor.Goals as goal

pub returns : goal.returns
returns c =
    let fn = c.ranges.n in
    let fd = c.ranges.d in
    let fm : SFits w64 c.in_ok-d.d = search rules in
    let fp : SFits w128 c.shr_floor-part.result = search rules in
    let fu : SFits w64 c.in_ok-upper.upper = search rules in
    let fq : SFits w64 c.floor_div_i64-quotient.result = search rules in
    let f1 : SFits w128 c.from.result = search rules in
    let f2 : SFits w128 c.from-2.result = search rules in
    let m : c.in_ok-d.d ≡ c.args.d = simp to_z-of_z at c.in_ok-d.ensures.value in
    let u : c.in_ok-upper.upper ≡ c.shr_floor-part.result = simp to_z-of_z at c.in_ok-upper.ensures.value in
    let e1 : c.from.result ≡ c.floor_div_i64-quotient.result = simp to_z-of_z at c.from.ensures in
    let e2 : c.from-2.result ≡ pos c.last_step-last.result = c.from-2.ensures in
    let p = simp to_z-of_z at c.shr_floor-part.ensures.floor in
    let r = simp to_z-of_z at c.rest_of-rest.ensures.value in
    let l = simp to_z-of_z at c.low_part.ensures.value in
    let s = simp to_z-of_z at c.last_step-last.ensures.floor in
    let t = two_steps_fit c.floor_div_i64-quotient.result c.last_step-last.result fq c.last_step-last.type_inv in
    let g1 : SFits w128 (c.from.result *ℤ pos 536870912) = rw e1 t.0 in
    let g2 : SFits w128 (c.from.result *ℤ pos 536870912 +ℤ c.from-2.result) = rw (e1, e2) t.1 in
    let v : IsFloor (c.floor_div_i64-quotient.result *ℤ pos 536870912 +ℤ pos c.last_step-last.result) c.args.n
    c.args.d =
    steps_floor c.args.n c.shr_floor-part.result c.args.d c.floor_div_i64-quotient.result (pos c.last_step-last.result)
    (pos c.rest_of-rest.result)
    (pos c.low_part.result) p (simp (u, m) at r) l
    (unsigned_divisor _ _ c.args.d c.requires (simp m at s)) in
    let k : IsFloor (c.from.result *ℤ pos 536870912 +ℤ c.from-2.result) c.args.n c.args.d = rw (e1, e2) v in
    record { value = simp to_z-of_z k }

pub overflow_add-result : goal.overflow_add-result
overflow_add-result c =
    let fq : SFits w64 c.floor_div_i64-quotient.result = search rules in
    let f1 : SFits w128 c.from.result = search rules in
    let f2 : SFits w128 c.from-2.result = search rules in
    let e1 : c.from.result ≡ c.floor_div_i64-quotient.result = simp to_z-of_z at c.from.ensures in
    let e2 : c.from-2.result ≡ pos c.last_step-last.result = c.from-2.ensures in
    let t = two_steps_fit c.floor_div_i64-quotient.result c.last_step-last.result fq c.last_step-last.type_inv in
    let g1 : SFits w128 (c.from.result *ℤ pos 536870912) = rw e1 t.0 in
    let g2 : SFits w128 (c.from.result *ℤ pos 536870912 +ℤ c.from-2.result) = rw (e1, e2) t.1 in
    simp to_z-of_z g2
