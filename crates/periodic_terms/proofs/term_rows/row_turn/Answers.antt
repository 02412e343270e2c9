use Rattle.std.proofs.Common.{rules, arith, SFits, ◌≡◌, ◌*◌, ◌^◌, pos, ◌+ℤ◌}
use Rattle.std.specs.Int.{w128}
use Rattle.std.proofs.lemmas.Int.{ints, to_z-of_z}
use Rattle.periodic_terms.specs.Multiples.{multiples_of}
use Rattle.periodic_terms.proofs.Products.{low_is}
use Rattle.periodic_terms.proofs.term_rows.row_turn.Goals as goal

pub returns : goal.returns
returns c =
    let ft : SFits w128 c.sum_of_multiples.result.0 = search rules in
    let fa : SFits w128 c.quarters_ahead-ahead.result.0 = search rules in
    let v : c.sum_of_multiples.result.0 ≡ multiples_of c.args.turns.now c.args.row = c.sum_of_multiples.ensures.value in
    let q : c.quarters_ahead-ahead.result.0 ≡ pos (c.args.row.quarters * 2 ^ 62) = c.quarters_ahead-ahead.ensures.value
    in
    let fs : SFits w128 (c.sum_of_multiples.result.0 +ℤ c.quarters_ahead-ahead.result.0) = omega
    (arith, ints, c.sum_of_multiples.ensures.from, c.sum_of_multiples.ensures.to, c.requires.small.quarters, q) in
    let h = simp to_z-of_z at c.reduced_turn.ensures.value in
    record { value = low_is c.reduced_turn.result.0 _ _ _ _ v q h }
