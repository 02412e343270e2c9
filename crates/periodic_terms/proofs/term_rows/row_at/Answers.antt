use Rattle.std.proofs.Common.{rules, arith, SFits, Fits, w64, neg_ℤ, pos, ◌*ℤ◌, ◌≤ℤ◌, ◌^◌}
use Rattle.std.specs.Int.{w128}
use Rattle.std.proofs.lemmas.Int.{ints, to_z-of_z}
use Rattle.periodic_terms.specs.Turning.{whole_turns}
use Rattle.periodic_terms.specs.Multiples.{turns_of}
use Rattle.periodic_terms.proofs.Products.{product_is}
use Rattle.periodic_terms.proofs.TermRows.{row_holds}
use Rattle.periodic_terms.proofs.term_rows.row_at.Goals as goal

pub returns-clause-holds : goal.returns-clause-holds
returns-clause-holds c =
    let fz : SFits w64 c.args.row.size = search rules in
    let ft : Fits w64 c.row_turn.result.0 = search rules in
    let fs : SFits w64 c.sine_at_turn-sine.result.count = search rules in
    let fw : SFits w64 c.scaled.result.count = search rules in
    let fp : SFits w128 c.sized-part.result.0 = search rules in
    let fq : SFits w128 (c.sized-part.result.0 *ℤ pos (2 ^ 37)) =
    omega (arith, ints, c.sized-part.ensures.low, c.sized-part.ensures.high) in
    let v = simp to_z-of_z at c.sized-part.ensures.value in
    let l = rw c.factor.ensures.value at c.scaled.ensures.below in
    let u = rw c.factor.ensures.value at c.scaled.ensures.close in
    let n = c.sine_at_turn-sine.ensures.near in
    simp to_z-of_z (λ w u' x d a k.
    row_holds w u' c.args.turns.now c.args.row x c.row_turn.result.0 (whole_turns
    (turns_of c.args.turns.now c.args.row)) c.sine_at_turn-sine.result.count c.scaled.result.count
    (c.sized-part.result.0 *ℤ pos (2 ^ 37))
    d a c.requires.small
    (record {
      fits = omega
          (arith, ft);
      reduced = c.row_turn.ensures.value;
      least = c.sine_at_turn-sine.result.from;
      greatest = c.sine_at_turn-sine.result.to;
      point = n;
    })
    k l u (product_is c.sized-part.result.0 c.args.row.size c.scaled.result.count v))

pub returns-clause-low : goal.returns-clause-low
returns-clause-low c =
    let fp : SFits w128 c.sized-part.result.0 = search rules in
    let fq : SFits w128 (c.sized-part.result.0 *ℤ pos (2 ^ 37)) =
    omega (arith, ints, c.sized-part.ensures.low, c.sized-part.ensures.high) in
    let l : neg_ℤ (pos (2 ^ 119)) ≤ℤ (c.sized-part.result.0 *ℤ pos (2 ^ 37)) =
    omega (arith, ints, c.sized-part.ensures.low) in
    simp to_z-of_z l

pub returns-clause-high : goal.returns-clause-high
returns-clause-high c =
    let fp : SFits w128 c.sized-part.result.0 = search rules in
    let fq : SFits w128 (c.sized-part.result.0 *ℤ pos (2 ^ 37)) =
    omega (arith, ints, c.sized-part.ensures.low, c.sized-part.ensures.high) in
    let u : (c.sized-part.result.0 *ℤ pos (2 ^ 37)) ≤ℤ pos (2 ^ 119) = omega (arith, ints, c.sized-part.ensures.high) in
    simp to_z-of_z u
