use Rattle.std.proofs.Common.{◌≡◌, ℤ, refl, arith, rules, SFits, pos, ◌*ℤ◌, ◌-ℤ◌, ◌≤ℤ◌}
use Rattle.std.specs.Int.{w128}
use Rattle.std.proofs.lemmas.Int.{ints, clamps, to_z-of_z}
use Rattle.interval_endpoints.specs.WholeRounding.{IsFloor, IsCeiling}
use Rattle.interval_endpoints.proofs.Quotients.{outward_order}
use Rattle.interval_endpoints.specs.Rounding.{least_square_of}
use Rattle.interval_endpoints.specs.Scales.{Scale, unit}
use Rattle.interval_endpoints.proofs.Divisions.{square_encloses, squares_order}
use Rattle.interval_endpoints.proofs.Products.{square_narrow, square_of_all}
use Rattle.interval_endpoints.proofs.OnEndpoints.{shows, when_there, is_there}
use Rattle.interval_products.specs.Close.{size_between}
use Rattle.interval_products.proofs.Fitting.{square_overflow}
use Rattle.interval_products.proofs.Closeness.{unit_positive, square_close}
use Rattle.interval_products.proofs.products.square_endpoints.Goals as goal

pub returns-in_err-x-clause-narrow : goal.returns-in_err-x-clause-narrow
returns-in_err-x-clause-narrow g c = λ w a h. square_of_all g.I.MachineWord.scale w a _ (rw c.in_err-x.was at h)

pub returns-in_err-low-clause-narrow : goal.returns-in_err-low-clause-narrow
returns-in_err-low-clause-narrow g c = λ w a h. square_overflow g.I.MachineWord.scale w a _ _ _ c.in_ok-x.x.ordered
    (rw c.in_ok-x.was at h)
    (λ t. c.in_err-low.ensures.none refl t.first)

pub returns-in_err-high-clause-narrow : goal.returns-in_err-high-clause-narrow
returns-in_err-high-clause-narrow g c = λ w a h. square_overflow g.I.MachineWord.scale w a _ _ _ c.in_ok-x.x.ordered
    (rw c.in_ok-x.was at h)
    (λ t. c.in_err-high.ensures.none refl t.fourth)

pub returns-in_err-low-clause-some : goal.returns-in_err-low-clause-some
returns-in_err-low-clause-some g c = rw c.in_ok-x.was (λ e t. absurd (c.in_err-low.ensures.none refl t.first))

pub returns-in_err-high-clause-some : goal.returns-in_err-high-clause-some
returns-in_err-high-clause-some g c = rw c.in_ok-x.was (λ e t. absurd (c.in_err-high.ensures.none refl t.fourth))

pub endpoints_of-requires : goal.endpoints_of-requires
endpoints_of-requires g c =
    let fp : SFits w128 c.in_ok-low.low = search rules in
    let fq : SFits w128 c.in_ok-high.high = search rules in
    let fa : SFits w128 c.wide.result = search rules in
    let fb : SFits w128 c.wide-2.result = search rules in
    let f : SFits w128 c.least_square-least.result = search rules in
    let m : SFits w128 c.max.result = search rules in
    let fl : SFits w128 c.floor_product.result = search rules in
    let fh : SFits w128 c.ceil_product.result = search rules in
    let e = c.in_ok-low.ensures.product in
    let e' = c.in_ok-high.ensures.product in
    let k = simp e at (simp to_z-of_z at c.max.ensures.self_bound) in
    let k' = simp e' at (simp to_z-of_z at c.max.ensures.other_bound) in
    let n = simp (c.wide.ensures.value, c.wide-2.ensures.value) at
    (simp to_z-of_z at c.least_square-least.ensures.value) in
    let i = simp to_z-of_z at c.floor_product.ensures.floor in
    let j = simp to_z-of_z at c.ceil_product.ensures.ceiling in
    let o = outward_order _ _ _ _ _ (squares_order _ _ _ _ n k k') i j (unit_positive g.I.MachineWord.scale) in
    simp to_z-of_z o

-- the least and the greatest square, rounded outwards, and the endpoints of these
record AreSquared (scale : Scale) (a b n m lo hi : ℤ) : Type 0 where
  least : n ≡ least_square_of a b
  first : (a *ℤ a) ≤ℤ m
  last : (b *ℤ b) ≤ℤ m
  best : (z : ℤ) → (a *ℤ a) ≤ℤ z → (b *ℤ b) ≤ℤ z → m ≤ℤ z
  low : IsFloor lo n (unit scale)
  high : IsCeiling hi m (unit scale)

squared : (g : _) (c : goal.After-endpoints_of g)
    → AreSquared g.I.MachineWord.scale (g.I.MachineWord.value c.in_ok-x.x.lo)
    (g.I.MachineWord.value c.in_ok-x.x.hi) c.least_square-least.result c.max.result c.floor_product.result
    c.ceil_product.result
squared g c =
    let fp : SFits w128 c.in_ok-low.low = search rules in
    let fq : SFits w128 c.in_ok-high.high = search rules in
    let fa : SFits w128 c.wide.result = search rules in
    let fb : SFits w128 c.wide-2.result = search rules in
    let f : SFits w128 c.least_square-least.result = search rules in
    let m : SFits w128 c.max.result = search rules in
    let fl : SFits w128 c.floor_product.result = search rules in
    let fh : SFits w128 c.ceil_product.result = search rules in
    let e = c.in_ok-low.ensures.product in
    let e' = c.in_ok-high.ensures.product in
    let k = simp e at (simp to_z-of_z at c.max.ensures.self_bound) in
    let k' = simp e' at (simp to_z-of_z at c.max.ensures.other_bound) in
    let n = simp (c.wide.ensures.value, c.wide-2.ensures.value) at
    (simp to_z-of_z at c.least_square-least.ensures.value) in
    let i = simp to_z-of_z at c.floor_product.ensures.floor in
    let j = simp to_z-of_z at c.ceil_product.ensures.ceiling in
    let v = simp to_z-of_z at c.max.ensures.value in
    record {
      least = n;
      first = k;
      last = k';
      best = λ z p q. omega (arith, ints, clamps, v, e, e', p, q);
      low = i;
      high = j;
    }

pub returns-clause-holds : goal.returns-clause-holds
returns-clause-holds g c =
    let fl : SFits w128 c.floor_product.result = search rules in
    let fh : SFits w128 c.ceil_product.result = search rules in
    let t = squared g c in
    let s = simp to_z-of_z at c.endpoints_of.ensures.endpoints in
    rw c.in_ok-x.was (square_encloses g.I.MachineWord.scale _ _ _ _ _ _ _ t.least t.first t.last t.low t.high
    (shows _ _ _ s))

pub returns-clause-narrow : goal.returns-clause-narrow
returns-clause-narrow g c = λ w a h.
    let fl : SFits w128 c.floor_product.result = search rules in
    let fh : SFits w128 c.ceil_product.result = search rules in
    let t = squared g c in
    let o = outward_order _ _ _ _ _ (squares_order _ _ _ _ t.least t.first t.last) t.low t.high
    (unit_positive g.I.MachineWord.scale) in
    let s = simp to_z-of_z at c.endpoints_of.ensures.endpoints in
    square_narrow g.I.MachineWord.scale w a _ _ _ _ _ _ _ c.in_ok-x.x.ordered t.least t.best o t.low t.high
    (shows _ _ _ s) (rw c.in_ok-x.was at h)

pub returns-clause-close : goal.returns-clause-close
returns-clause-close g c =
    let fl : SFits w128 c.floor_product.result = search rules in
    let fh : SFits w128 c.ceil_product.result = search rules in
    let t = squared g c in
    let s = simp to_z-of_z at c.endpoints_of.ensures.endpoints in
    let a = g.I.MachineWord.value c.in_ok-x.x.lo in
    let b = g.I.MachineWord.value c.in_ok-x.x.hi in
    rw c.in_ok-x.was
    (when_there _ _ _ (λ z. ((z -ℤ pos 2) *ℤ unit g.I.MachineWord.scale)
    ≤ℤ (pos 2 *ℤ (pos (size_between a b) *ℤ (b -ℤ a)))) s
    (square_close g.I.MachineWord.scale a b _ _ _ _ c.in_ok-x.x.ordered t.least t.best t.low t.high))

pub returns-clause-some : goal.returns-clause-some
returns-clause-some g c =
    let fl : SFits w128 c.floor_product.result = search rules in
    let fh : SFits w128 c.ceil_product.result = search rules in
    let s = simp to_z-of_z at c.endpoints_of.ensures.endpoints in
    rw c.in_ok-x.was (λ e t. is_there _ _ _ s e fl fh)
