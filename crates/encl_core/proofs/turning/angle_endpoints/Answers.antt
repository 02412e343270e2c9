use Rattle.interval_endpoints.specs.Scales.{coarse}
use Rattle.std.proofs.Common.{rules, arith, SFits, w64}
use Rattle.std.specs.Int.{w128}
use Rattle.std.proofs.lemmas.Int.{ints, to_z-of_z}
use Rattle.book_model.specs.numbers.Bounds.{constant_bound, scaled_bound, limits_36}
use Rattle.book_model.specs.numbers.Fractions.{ten_millionths, daily_ten_millionths}
use Rattle.interval_endpoints.proofs.Quotients.{outward_order, sorted_order}
use Rattle.interval_endpoints.proofs.Keeping.{sum_second}
use Rattle.interval_endpoints.proofs.Scaling.{scaled_first}
use Rattle.interval_endpoints.proofs.TermAngles.{AreTurned, turned_encloses, turned_narrow}
use Rattle.interval_endpoints.proofs.OnEndpoints.{shows}
use Rattle.encl_core.proofs.turning.angle_endpoints.Goals as goal

pub returns-in_err-x-clause-narrow : goal.returns-in_err-x-clause-narrow
returns-in_err-x-clause-narrow c = λ w a h.
    sum_second coarse w (constant_bound limits_36 (ten_millionths c.args.phase))
    (scaled_bound limits_36 (daily_ten_millionths c.args.rate) a) _
    (scaled_first coarse w (daily_ten_millionths c.args.rate) a _ (rw c.in_err-x.was at h))

turned : (c : goal.After-endpoints_of) → AreTurned c.args.phase c.args.rate c.in_ok-x.x.lo c.in_ok-x.x.hi
    c.turned-p.result c.turned-q.result c.sorted-least.result.0
    c.sorted-least.result.1 c.floor_div.result c.ceil_div.result
turned c =
    let fa = c.ranges.phase in
    let fr = c.ranges.rate in
    let fx : SFits w64 c.in_ok-x.x.lo = search rules in
    let fy : SFits w64 c.in_ok-x.x.hi = search rules in
    let fp : SFits w128 c.turned-p.result = search rules in
    let fq : SFits w128 c.turned-q.result = search rules in
    let fm : SFits w128 c.sorted-least.result.0 = search rules in
    let fg : SFits w128 c.sorted-least.result.1 = search rules in
    let fl : SFits w128 c.floor_div.result = search rules in
    let fh : SFits w128 c.ceil_div.result = search rules in
    let p = simp to_z-of_z at c.turned-p.ensures.value in
    let q = simp to_z-of_z at c.turned-q.ensures.value in
    let s = simp to_z-of_z at c.sorted-least.ensures in
    let i = simp to_z-of_z at c.floor_div.ensures in
    let j = simp to_z-of_z at c.ceil_div.ensures in
    record { first = p; second = q; order = s; down = i; up = j }

pub returns-clause-holds : goal.returns-clause-holds
returns-clause-holds c =
    let fl : SFits w128 c.floor_div.result = search rules in
    let fh : SFits w128 c.ceil_div.result = search rules in
    let k = shows _ _ _ (simp to_z-of_z at c.endpoints_of.ensures.endpoints) in
    rw c.in_ok-x.was (turned_encloses _ _ _ _ _ _ _ _ _ _ _ (turned c) k)

pub returns-clause-narrow : goal.returns-clause-narrow
returns-clause-narrow c = λ w a h.
    let fl : SFits w128 c.floor_div.result = search rules in
    let fh : SFits w128 c.ceil_div.result = search rules in
    let k = shows _ _ _ (simp to_z-of_z at c.endpoints_of.ensures.endpoints) in
    turned_narrow w a _ _ _ _ _ _ _ _ _ _ _ (turned c) k (rw c.in_ok-x.was at h)

pub endpoints_of-requires : goal.endpoints_of-requires
endpoints_of-requires c =
    let fm : SFits w128 c.sorted-least.result.0 = search rules in
    let fg : SFits w128 c.sorted-least.result.1 = search rules in
    let fl : SFits w128 c.floor_div.result = search rules in
    let fh : SFits w128 c.ceil_div.result = search rules in
    let i = simp to_z-of_z at c.floor_div.ensures in
    let j = simp to_z-of_z at c.ceil_div.ensures in
    simp to_z-of_z (outward_order _ _ _ _ _ (sorted_order _ _ _ _ c.sorted-least.ensures) i j (omega (arith, ints)))
