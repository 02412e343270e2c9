use Rattle.std.proofs.Common.{rules, arith, SFits, ◌+ℤ◌, pos}
use Rattle.std.specs.Int.{w128}
use Rattle.std.proofs.lemmas.Int.{ints, to_z-of_z}
use Rattle.periodic_terms.proofs.TermSpans.{parts_hold}
use Rattle.periodic_terms.proofs.term_spans.span_of_parts.Goals as goal

pub returns : goal.returns
returns c =
    let fl : SFits w128 c.shr_floor.result = search rules in
    let fh : SFits w128 c.shr_floor-2.result = search rules in
    let fp : SFits w128 c.floor_of_parts.result = search rules in
    let fq : SFits w128 c.floor_of_parts-2.result = search rules in
    let gl : SFits w128 c.args.sum.lo = search rules in
    let gh : SFits w128 c.args.sum.hi = search rules in
    let i = simp to_z-of_z at c.shr_floor.ensures.floor in
    let j = simp to_z-of_z at c.shr_floor-2.ensures.floor in
    let l = i.not_above in
    let m = i.close in
    let n = j.not_above in
    let u = j.close in
    let p = simp to_z-of_z at c.floor_of_parts.ensures.below in
    let q = simp to_z-of_z at c.floor_of_parts.ensures.close in
    let r = simp to_z-of_z at c.floor_of_parts-2.ensures.below in
    let s = simp to_z-of_z at c.floor_of_parts-2.ensures.close in
    let f : SFits w128 (c.floor_of_parts-2.result +ℤ pos 1) = omega (arith, ints, u, n, r, s, gh) in
    record {
      holds = simp to_z-of_z (parts_hold c.args.sum.lo c.args.sum.hi c.shr_floor.result c.shr_floor-2.result
          c.floor_of_parts.result c.floor_of_parts-2.result l u
          p s);
      close = simp to_z-of_z (omega (arith, ints, l, m, n, u, p, q, r, s));
      low = simp to_z-of_z (omega (arith, ints, l, m, n, u, p, q, r, s));
      high = simp to_z-of_z (omega (arith, ints, l, m, n, u, p, q, r, s));
    }
