use Rattle.std.proofs.Common.{rules, SFits}
use Rattle.std.specs.Int.{w128}
use Rattle.std.proofs.lemmas.Int.{to_z-of_z}
use Rattle.periodic_terms.proofs.AnySums.{common_holds, common_order, common_above, common_below, common_close}
use Rattle.periodic_terms.proofs.spans_by_time.common.Goals as goal

pub invariant_of-result : goal.invariant_of-result
invariant_of-result c =
    let s = c.args.span in
    let o = c.args.other in
    let f1 : SFits w128 s.lo = search rules in
    let f2 : SFits w128 s.hi = search rules in
    let f3 : SFits w128 o.lo = search rules in
    let f4 : SFits w128 o.hi = search rules in
    let f5 : SFits w128 c.max.result = search rules in
    let f6 : SFits w128 c.min.result = search rules in
    let f7 : SFits w128 c.max-2.result = search rules in
    let f8 : SFits w128 c.min-2.result = search rules in
    let e = simp to_z-of_z at c.max.ensures.value in
    let f = simp to_z-of_z at c.min.ensures.value in
    let e' = simp to_z-of_z at c.max-2.ensures.value in
    let f' = simp to_z-of_z at c.min-2.ensures.value in
    record {
      ordered = simp to_z-of_z (common_order s.lo s.hi o.lo o.hi c.max.result c.min.result c.max-2.result
          c.min-2.result e f e' f' s.ordered);
    }

pub returns : goal.returns
returns c =
    let s = c.args.span in
    let o = c.args.other in
    let f1 : SFits w128 s.lo = search rules in
    let f2 : SFits w128 s.hi = search rules in
    let f3 : SFits w128 o.lo = search rules in
    let f4 : SFits w128 o.hi = search rules in
    let f5 : SFits w128 c.max.result = search rules in
    let f6 : SFits w128 c.min.result = search rules in
    let f7 : SFits w128 c.max-2.result = search rules in
    let f8 : SFits w128 c.min-2.result = search rules in
    let e = simp to_z-of_z at c.max.ensures.value in
    let f = simp to_z-of_z at c.min.ensures.value in
    let e' = simp to_z-of_z at c.max-2.ensures.value in
    let f' = simp to_z-of_z at c.min-2.ensures.value in
    record {
      holds = simp to_z-of_z (common_holds s.lo s.hi o.lo o.hi c.max.result c.min.result c.max-2.result c.min-2.result e
          f e' f');
      above = simp to_z-of_z (common_above s.lo s.hi o.lo o.hi c.max.result c.min.result c.max-2.result c.min-2.result e
          f e' f' o.ordered);
      below = simp to_z-of_z (common_below s.lo s.hi o.lo o.hi c.max.result c.min.result c.max-2.result c.min-2.result e
          f e' f');
      close = simp to_z-of_z (common_close s.lo s.hi o.lo o.hi c.max.result c.min.result c.max-2.result c.min-2.result e
          f e' f' s.ordered);
    }
