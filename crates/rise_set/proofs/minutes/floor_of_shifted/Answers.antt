use Rattle.std.proofs.Common.{rules, SFits, w64}
use Rattle.std.proofs.lemmas.Int.{to_z-of_z}
use Rattle.rise_set.proofs.Beside.{leads_sum, leads_failing}
use Rattle.rise_set.proofs.Sunrises.{sum_close, failure_room}
use Rattle.rise_set.proofs.minutes.floor_of_shifted.Goals as goal

pub returns-in-Ok-clause-leads : goal.returns-in-Ok-clause-leads
returns-in-Ok-clause-leads g c = λ w e h.
    let f : SFits w64 c.args.whole = c.ranges.whole in
    let q : SFits w64 c.in-Ok.floor = search rules in
    let d = simp to_z-of_z at c.sum.ensures.decided in
    let z = simp to_z-of_z at c.sum.ensures.far in
    leads_sum c.args.whole c.args.site c.in-Ok.floor c.sum.result _ _ _ h c.in-Ok.ensures.decided
    c.in-Ok.ensures.counted c.count.ensures.value d z

pub returns-in-Ok-clause-close : goal.returns-in-Ok-clause-close
returns-in-Ok-clause-close g c = λ v b h l m.
    let f : SFits w64 c.args.whole = c.ranges.whole in
    let q : SFits w64 c.in-Ok.floor = search rules in
    let z = simp to_z-of_z at c.sum.ensures.far in
    sum_close v _ c.args.whole c.in-Ok.floor c.args.site _ c.sum.result h c.in-Ok.ensures.decided l m z

pub returns-in-Err-clause-leads : goal.returns-in-Err-clause-leads
returns-in-Err-clause-leads g c = λ w e h.
    let f : SFits w64 c.args.whole = c.ranges.whole in
    let m = simp to_z-of_z at c.shifted_failure.ensures.beside in
    leads_failing c.args.whole c.args.site c.in-Err.fail c.shifted_failure.result _ _ h (c.in-Err.ensures.leads w e h)
    c.in-Err.ensures.counted
    c.in-Err.ensures.open m c.shifted_failure.ensures.bits

pub returns-in-Err-clause-close : goal.returns-in-Err-clause-close
returns-in-Err-clause-close g c = λ v b h l m.
    let f : SFits w64 c.args.whole = c.ranges.whole in
    let z = simp to_z-of_z at c.shifted_failure.ensures.close in
    z (failure_room v c.args.whole c.args.site _ c.in-Err.fail h l m c.in-Err.ensures.open)
    (c.in-Err.ensures.close v b h)
