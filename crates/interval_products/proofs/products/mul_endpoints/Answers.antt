use Rattle.std.proofs.Common.{sym, rules, SFits, true≢false, pos, ◌+ℤ◌, ◌*ℤ◌, ◌-ℤ◌, ◌≤ℤ◌}
use Rattle.std.specs.Int.{w128}
use Rattle.std.proofs.lemmas.Int.{to_z-of_z}
use Rattle.interval_endpoints.proofs.Quotients.{outward_order}
use Rattle.interval_endpoints.specs.Scales.{unit}
use Rattle.interval_endpoints.proofs.Enclosing.{product_encloses, products_order}
use Rattle.interval_endpoints.proofs.Products.{product_narrow, product_of_all, product_with_all}
use Rattle.interval_endpoints.proofs.OnEndpoints.{shows, when_there, is_there}
use Rattle.interval_products.specs.Close.{size_between}
use Rattle.interval_products.proofs.Fitting.{product_overflow}
use Rattle.interval_products.proofs.Closeness.{unit_positive, product_close}
use Rattle.interval_products.proofs.products.mul_endpoints.Goals as goal

pub returns-in_err-x-clause-narrow : goal.returns-in_err-x-clause-narrow
returns-in_err-x-clause-narrow g c = λ w a b h k. product_of_all g.I.MachineWord.scale w a b _ (rw c.in_err-x.was at h)

pub returns-in_err-y-clause-narrow : goal.returns-in_err-y-clause-narrow
returns-in_err-y-clause-narrow g c = λ w a b h k. product_with_all g.I.MachineWord.scale w a b _
    (rw c.in_err-y.was at k)

pub returns-in_err-least-clause-narrow : goal.returns-in_err-least-clause-narrow
returns-in_err-least-clause-narrow g c = λ w a b h k.
    product_overflow g.I.MachineWord.scale w a b _ _ _ _ _ c.in_ok-x.x.ordered c.in_ok-y.y.ordered
    (rw c.in_ok-x.was at h) (rw c.in_ok-y.was at k)
    (λ t. true≢false (sym (c.in_err-least.ensures.some t)))

pub returns-in_err-least-clause-some : goal.returns-in_err-least-clause-some
returns-in_err-least-clause-some g c = rw (c.in_ok-x.was, c.in_ok-y.was)
    (λ e t. absurd (true≢false (sym (c.in_err-least.ensures.some t))))

pub endpoints_of-requires : goal.endpoints_of-requires
endpoints_of-requires g c =
    let fl : SFits w128 c.in_ok-least.least = search rules in
    let fg : SFits w128 c.in_ok-least.greatest = search rules in
    let fm : SFits w128 c.floor_product.result = search rules in
    let fh : SFits w128 c.ceil_product.result = search rules in
    let k = c.in_ok-least.ensures.corners in
    let i = simp to_z-of_z at c.floor_product.ensures.floor in
    let j = simp to_z-of_z at c.ceil_product.ensures.ceiling in
    simp to_z-of_z (outward_order _ _ _ _ _ (products_order _ _ _ _ _ _ k.least k.greatest) i j
    (unit_positive g.I.MachineWord.scale))

pub returns-clause-holds : goal.returns-clause-holds
returns-clause-holds g c =
    let fl : SFits w128 c.in_ok-least.least = search rules in
    let fg : SFits w128 c.in_ok-least.greatest = search rules in
    let fm : SFits w128 c.floor_product.result = search rules in
    let fh : SFits w128 c.ceil_product.result = search rules in
    let k = c.in_ok-least.ensures.corners in
    let i = simp to_z-of_z at c.floor_product.ensures.floor in
    let j = simp to_z-of_z at c.ceil_product.ensures.ceiling in
    let e = simp to_z-of_z at c.endpoints_of.ensures.endpoints in
    rw (c.in_ok-x.was, c.in_ok-y.was) (product_encloses g.I.MachineWord.scale _ _ _ _ _ _ _ _ _ k.least k.greatest i j
    (shows _ _ _ e))

pub returns-clause-narrow : goal.returns-clause-narrow
returns-clause-narrow g c = λ w a b h m.
    let fl : SFits w128 c.in_ok-least.least = search rules in
    let fg : SFits w128 c.in_ok-least.greatest = search rules in
    let fm : SFits w128 c.floor_product.result = search rules in
    let fh : SFits w128 c.ceil_product.result = search rules in
    let k = c.in_ok-least.ensures.corners in
    let i = simp to_z-of_z at c.floor_product.ensures.floor in
    let j = simp to_z-of_z at c.ceil_product.ensures.ceiling in
    let e = simp to_z-of_z at c.endpoints_of.ensures.endpoints in
    let o = outward_order _ _ _ _ _ (products_order _ _ _ _ _ _ k.least k.greatest) i j
    (unit_positive g.I.MachineWord.scale) in
    product_narrow g.I.MachineWord.scale w a b _ _ _ _ _ _ _ _ _ c.in_ok-x.x.ordered c.in_ok-y.y.ordered k.best_least
    k.best_greatest o i j (shows _ _ _ e)
    (rw c.in_ok-x.was at h) (rw c.in_ok-y.was at m)

pub returns-clause-close : goal.returns-clause-close
returns-clause-close g c =
    let fl : SFits w128 c.in_ok-least.least = search rules in
    let fg : SFits w128 c.in_ok-least.greatest = search rules in
    let fm : SFits w128 c.floor_product.result = search rules in
    let fh : SFits w128 c.ceil_product.result = search rules in
    let k = c.in_ok-least.ensures.corners in
    let i = simp to_z-of_z at c.floor_product.ensures.floor in
    let j = simp to_z-of_z at c.ceil_product.ensures.ceiling in
    let e = simp to_z-of_z at c.endpoints_of.ensures.endpoints in
    let a = g.I.MachineWord.value c.in_ok-x.x.lo in
    let b = g.I.MachineWord.value c.in_ok-x.x.hi in
    let d = g.I.MachineWord.value c.in_ok-y.y.lo in
    let f = g.I.MachineWord.value c.in_ok-y.y.hi in
    rw (c.in_ok-x.was, c.in_ok-y.was)
    (when_there _ _ _ (λ z. ((z -ℤ pos 2) *ℤ unit g.I.MachineWord.scale) ≤ℤ (pos (size_between d f) *ℤ (b -ℤ a) +ℤ pos
    (size_between a b) *ℤ (f -ℤ d))) e
    (product_close g.I.MachineWord.scale a b d f _ _ _ _ c.in_ok-x.x.ordered c.in_ok-y.y.ordered k i j))

pub returns-clause-some : goal.returns-clause-some
returns-clause-some g c =
    let fm : SFits w128 c.floor_product.result = search rules in
    let fh : SFits w128 c.ceil_product.result = search rules in
    let e = simp to_z-of_z at c.endpoints_of.ensures.endpoints in
    rw (c.in_ok-x.was, c.in_ok-y.was) (λ k t. is_there _ _ _ e k fm fh)
