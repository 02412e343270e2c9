use Rattle.std.proofs.Common.{rules, SFits, pos, ◌^◌, ◌+ℤ◌, ◌*ℤ◌}
use Rattle.std.specs.Int.{w128}
use Rattle.std.proofs.lemmas.Int.{to_z-of_z}
use Rattle.book_model.proofs.Exactly.{checked_holds}
use Rattle.interval_endpoints.specs.WholeRounding.{IsFloor}
use Rattle.interval_products.proofs.TwoSteps.{checked_some, step_down, floor_fits}
use Rattle.interval_products.proofs.stepping.stepped_down.Goals as goal

-- the sum is the quotient
sum_is : (c : goal.After-checked_add) → IsFloor (c.in_ok-whole.whole +ℤ c.floor_div.result) (c.args.n *ℤ pos (2 ^ 56))
    c.args.d
sum_is c =
    let fn = c.ranges.n in
    let fd = c.ranges.d in
    let fw : SFits w128 c.in_ok-whole.whole = search rules in
    let fr : SFits w128 c.in_ok-whole.rest = search rules in
    let ff : SFits w128 c.floor_div.result = search rules in
    step_down _ _ _ _ _ (simp to_z-of_z at c.in_ok-whole.ensures.value) (simp to_z-of_z at c.floor_div.ensures)

pub returns-clause-value : goal.returns-clause-value
returns-clause-value c =
    let fw : SFits w128 c.in_ok-whole.whole = search rules in
    let ff : SFits w128 c.floor_div.result = search rules in
    checked_holds c.checked_add.result _ _ _ (simp to_z-of_z at c.checked_add.ensures) (λ q e. rw e (sum_is c))

pub returns-clause-some : goal.returns-clause-some
returns-clause-some c = λ r.
    let fw : SFits w128 c.in_ok-whole.whole = search rules in
    let ff : SFits w128 c.floor_div.result = search rules in
    checked_some c.checked_add.result _ _ (simp to_z-of_z at c.checked_add.ensures)
    (floor_fits _ _ _ c.requires r (sum_is c))
