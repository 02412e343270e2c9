use Rattle.std.proofs.Common.{◌≡◌, refl, arith, rules, SFits, w64, ℤ, pos, ◌^◌, ◌+ℤ◌, ◌*ℤ◌}
use Rattle.std.specs.Int.{w128}
use Rattle.std.proofs.lemmas.Int.{ints, to_z-of_z}
use Rattle.interval_endpoints.proofs.Scaling.{bounded_z}
use Rattle.encl_core.proofs.turning.turned.Goals as goal

-- there is room for a phase and for a rate times an endpoint
record HasRoom (a p r : ℤ) : Type 0 where
  phase : SFits w128 (p *ℤ pos 2509978887782400)
  sum : SFits w128 (p *ℤ pos 2509978887782400 +ℤ a *ℤ r)

room : (a p r : ℤ) → SFits w64 a → SFits w64 p → SFits w64 r → HasRoom a p r
room a p r fa fp fr =
    let b = bounded_z a r (pos (2 ^ 63)) (pos (2 ^ 63)) (omega (arith, ints)) (omega (arith, ints))
    (omega (arith, ints)) (omega (arith, ints)) in
    record { phase = omega (arith, ints, fp); sum = omega (arith, ints, fp, b.0, b.1) }

pub overflow_mul-result : goal.overflow_mul-result
overflow_mul-result c =
    let fp : SFits w64 c.args.phase = c.ranges.phase in
    let ff : SFits w128 c.from.result = search rules in
    let e : c.from.result ≡ c.args.phase = simp to_z-of_z at c.from.ensures in
    let r = room c.args.end c.args.phase c.args.rate c.ranges.end c.ranges.phase c.ranges.rate in
    simp to_z-of_z (rw e r.phase)

pub overflow_add-result : goal.overflow_add-result
overflow_add-result c =
    let fa : SFits w64 c.args.end = c.ranges.end in
    let fp : SFits w64 c.args.phase = c.ranges.phase in
    let fr : SFits w64 c.args.rate = c.ranges.rate in
    let ff : SFits w128 c.from.result = search rules in
    let fq : SFits w128 c.product_of.result = search rules in
    let e : c.from.result ≡ c.args.phase = simp to_z-of_z at c.from.ensures in
    let v : c.product_of.result ≡ c.args.end *ℤ c.args.rate = simp to_z-of_z at c.product_of.ensures.value in
    let r = room c.args.end c.args.phase c.args.rate fa fp fr in
    let m : SFits w128 (c.from.result *ℤ pos 2509978887782400) = rw e r.phase in
    let s : SFits w128 (c.from.result *ℤ pos 2509978887782400 +ℤ c.product_of.result) = rw (e, v) r.sum in
    simp to_z-of_z s

pub returns : goal.returns
returns c =
    let fa : SFits w64 c.args.end = c.ranges.end in
    let fp : SFits w64 c.args.phase = c.ranges.phase in
    let fr : SFits w64 c.args.rate = c.ranges.rate in
    let ff : SFits w128 c.from.result = search rules in
    let fq : SFits w128 c.product_of.result = search rules in
    let e : c.from.result ≡ c.args.phase = simp to_z-of_z at c.from.ensures in
    let v : c.product_of.result ≡ c.args.end *ℤ c.args.rate = simp to_z-of_z at c.product_of.ensures.value in
    let r = room c.args.end c.args.phase c.args.rate fa fp fr in
    let m : SFits w128 (c.from.result *ℤ pos 2509978887782400) = rw e r.phase in
    let s : SFits w128 (c.from.result *ℤ pos 2509978887782400 +ℤ c.product_of.result) = rw (e, v) r.sum in
    record { value = simp to_z-of_z (rw (e, v) refl) }
